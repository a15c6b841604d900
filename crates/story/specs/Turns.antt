-- Two runs on which the bound of demand 3 is reached. The ring is 20, 21, 22. A request of 20 was handed over, and nobody acknowledges it. Now
-- 22 raises one, with k = 2 units ahead of it. The first service frame is 20's turn, a null message; the second polls 21. Only the third, the
-- (k+1)th, is the turn of 22. On the way 20 leaves the ring and 23 joins it. In one run, on demand 2's bus, 21 answers its poll. In the other
-- 21 is unplugged, and its poll times out.
use Rattle.std.specs.Prelude.{ℕ, zero, suc, ◌≤◌, ◌≡◌, refl, Bool, true, false, List, [], ◌∷◌, ◌++◌, get_or, Option, Some, None}
use Rattle.bus.specs.declared.Station.{Station}
use Rattle.controller.specs.Calls.{stepping}
use Rattle.controller.specs.Controller.{frame_of}
use Rattle.controller.specs.declared.Controller.{Controller}
use Rattle.delivery.specs.Calls.{host, in_frame, running}
use Rattle.delivery.specs.Ends.{quietly}
use Rattle.delivery.specs.Lists.{All}
use Rattle.delivery.specs.Run.{QuietStart, Run, start}
use Rattle.delivery.specs.World.{World}
use Rattle.frame.specs.Frame.{poll_of, null_frame}
use Rattle.frame.specs.declared.End.{End}
use Rattle.frame.specs.declared.Frame.{Frame}
use Rattle.inside.specs.Calls.{raises}
use Rattle.kind.specs.Kinds.{kind_of}
use Rattle.message.specs.Answer.{kept}
use Rattle.polling.specs.BusMoves.{moves_of}
use Rattle.polling.specs.Chain.{HasCode, Requests, Calm}
use Rattle.polling.specs.Demand3.{turn_frame}
use Rattle.polling.specs.History.{since}
use Rattle.polling.specs.Moves.{Move, steps, submits, acknowledges, after as afterMove, begins, services, ahead, in_ring, Spared}
use Rattle.ring.specs.Ring.{none, live, is_marked}
use Rattle.story.specs.Script.{quiet_bus, Doing, rounds, calls, after, run_on, opens, enables, disables}

-- Each unit is opened and then enabled, 23 only on the way. A request of 20 is handed over before the others join.
abbrev pub codes : List ℕ
codes = 20 ∷ 21 ∷ 22 ∷ 23 ∷ []

abbrev pub joining : List Doing
joining =
    opens 20 refl ∷ rounds 160 quietly ∷ enables 20 refl ∷ rounds 105 quietly ∷ calls (host 0 raises) ∷ rounds 105 quietly
    ∷ opens 21 refl ∷ rounds 160 quietly ∷ enables 21 refl ∷ rounds 105 quietly
    ∷ opens 22 refl ∷ rounds 160 quietly ∷ enables 22 refl ∷ rounds 105 quietly
    ∷ opens 23 refl ∷ rounds 160 quietly
    ∷ calls (host 2 raises)
    ∷ []

abbrev pub raised : World
unfolding kind_of
raised = after joining (quiet_bus codes)

-- The same moment with 21 unplugged.
abbrev pub without_unit : ℕ → List Station → List Station
without_unit i [] = []
without_unit zero (st ∷ ss) = ss
without_unit (suc i) (st ∷ ss) = st ∷ without_unit i ss

abbrev pub unplugging : World → World
unplugging w = record { controller = w.controller; units = without_unit 1 w.units; lent = w.lent; response = w.response }

abbrev pub unplugged : World
unfolding kind_of
unplugged = unplugging raised

-- The null message; 09 to 20; the poll of 21, which takes 100 rounds with an answer and 67 without; 08 to 23. The turn begins in the next round.
abbrev pub on_the_way : ℕ → List Doing
on_the_way n = rounds 85 quietly ∷ disables 20 refl ∷ rounds 104 quietly ∷ rounds n quietly ∷ enables 23 refl ∷ rounds 103 quietly ∷ []

abbrev pub its_turn : List Doing
its_turn = rounds 101 quietly ∷ []

-- The controller's calls up to that moment, those up to the turn, and those of the turn.
abbrev pub before : List Move
before = moves_of (run_on joining {w = quiet_bus codes} start) []

abbrev pub front : World → ℕ → List Move
front w n = moves_of (run_on (on_the_way n) {w = w} start) []

abbrev pub rest : World → ℕ → List Move
rest w n = moves_of (run_on its_turn {w = after (on_the_way n) w} start) []

-- A service frame as it begins, and whose turn it is: that of the ring's front.
pub record Turn : Type 0 where
  pub code : ℕ
  pub frame : Frame

abbrev pub turns_now : Bool → ℕ → List Frame → List Turn
turns_now false code fs = []
turns_now true code [] = []
turns_now true code (f ∷ fs) = record { code = code; frame = f } ∷ []

abbrev pub turns_in : Controller → List Move → List Turn
turns_in c [] = []
turns_in c (m ∷ ms) = turns_now (begins c m) (get_or (live c.ring) 0 none).code (running (afterMove c m).stage) ++ turns_in (afterMove c m) ms

-- A frame as it ends, with its status.
pub record Ended : Type 0 where
  pub device : ℕ
  pub command : ℕ
  pub status : ℕ

abbrev pub ended : ℕ → ℕ → ℕ → Ended
ended device command status = record { device = device; command = command; status = status }

abbrev pub ended_by : Option End → List Ended
ended_by None = []
ended_by (Some end) = ended end.frame.command.device end.frame.command.command end.status ∷ []

abbrev pub ended_now : Controller → Move → List Ended
ended_now c (steps seen busy lent response) = kept (stepping c seen busy lent response) (ended_by (frame_of c seen busy lent).end) []
ended_now c (submits k n room) = []
ended_now c (acknowledges code) = []

abbrev pub ends_in : Controller → List Move → List Ended
ends_in c [] = []
ends_in c (m ∷ ms) = ended_now c m ++ ends_in (afterMove c m) ms

-- What is seen of a unit.
pub record Seen : Type 0 where
  -- At first: whether it is in the ring, and how many are ahead of it.
  pub stands_in_ring : Bool
  pub units_ahead : ℕ
  -- On the way: the service frames that begin, and the frames that end.
  pub turns : List Turn
  pub ends : List Ended
  -- The frame that its turn is to have, by demand 3; and its turn.
  pub frame_of_turn : Frame
  pub turns_of_it : List Turn
  pub its_end : List Ended

abbrev pub seen_by : ℕ → Controller → Controller → Frame → List Move → List Move → Seen
seen_by own c d frame way turn = record {
  stands_in_ring = in_ring own c;
  units_ahead = ahead own c;
  turns = turns_in c way;
  ends = ends_in c way;
  frame_of_turn = frame;
  turns_of_it = turns_in d turn;
  its_end = ends_in d turn;
}

abbrev pub seen_of : ℕ → List Move → List Move → List Move → Seen
seen_of own past way turn = seen_by own (since 8 past) (since 8 (past ++ way)) (turn_frame own 8 (past ++ way)) way turn

-- What the papers say, by the status that the poll of 21 ends with.
abbrev pub papers : ℕ → Seen
papers status = record {
  stands_in_ring = true;
  units_ahead = 2;
  turns = record { code = 20; frame = null_frame } ∷ record { code = 21; frame = poll_of 21 } ∷ [];
  ends = ended 0 0xFE 0xFF ∷ ended 20 0x09 0x00 ∷ ended 21 0x0A status ∷ ended 23 0x08 0x00 ∷ [];
  frame_of_turn = poll_of 22;
  turns_of_it = record { code = 22; frame = poll_of 22 } ∷ [];
  its_end = ended 22 0x0A 0x00 ∷ [];
}

-- So the bound is reached: with k = 2 ahead, two service frames begin before the turn. The premises of `TurnComes` are met.
pub record Reached (w : World) (n status : ℕ) : Type 0 where
  pub seen : seen_of 22 before (front w n) (rest w n) ≡ papers status
  pub counted : services (since 8 before) (front w n) ≡ 2
  pub spared : Spared 22 (since 8 before) (front w n ++ rest w n)
  pub enough : suc (ahead 22 (since 8 before)) ≤ services (since 8 before) (front w n ++ rest w n)

-- 21 holds no request, and answers 0A; unplugged, its poll ends with FF.
abbrev pub BothReached : Type 0
BothReached = Reached raised 100 0x0A × Reached unplugged 67 0xFF

-- The first is a run of demand 2's bus from a quiet start, and meets every premise of the chain.
pub record Met : Type 0 where
  pub quiet : QuietStart (quiet_bus codes)
  pub run : Run (quiet_bus codes) raised
  pub more : Run raised (after its_turn (after (on_the_way 100) raised))
  pub coded : HasCode 22 raised.units
  pub requests : All (Requests 22) raised.units
  pub stands_in_ring : in_ring 22 raised.controller ≡ true
  pub unmarked : is_marked 22 (live raised.controller.ring) ≡ false
  pub calm : Calm 22 more
  pub enough : suc (ahead 22 raised.controller) ≤ services raised.controller (moves_of more [])
  pub over : in_frame (after its_turn (after (on_the_way 100) raised)).controller.stage ≡ false

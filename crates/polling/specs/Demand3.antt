-- Demand 3, sentence by sentence. Its words stand in Moves.antt: the controller's calls, at any line levels; History.antt: a request that was
-- handed over, and what settles it; UnitMoves.antt: a unit's calls, at any levels; delivery's Run.antt and Log.antt: demand 2's bus.
-- `proofs/Demand3.antt` proves the theorem.
use Rattle.std.specs.Prelude.{ℕ, suc, ◌<◌, ◌≤◌, ◌≡◌, Bool, true, false, cond, not, List, [], ◌∷◌, ◌++◌, ltb, leb}
use Rattle.controller.specs.Controller.{is_idle, service}
use Rattle.controller.specs.declared.Controller.{Controller}
use Rattle.delivery.specs.Calls.{running}
use Rattle.delivery.specs.Lists.{All, Has}
use Rattle.delivery.specs.Log.{settled, told, Capture, log, frames_of, acts_in, deeds_in}
use Rattle.delivery.specs.Run.{QuietStart, Run}
use Rattle.delivery.specs.World.{World}
use Rattle.frame.specs.Frame.{begun, poll_of, null_frame, nibble_of}
use Rattle.frame.specs.declared.Frame.{Frame}
use Rattle.inside.specs.Inside.{Inside, has_request}
use Rattle.line.specs.declared.Lines.{Lines}
use Rattle.message.specs.Nibbles.{nibble_in}
use Rattle.ring.specs.Ring.{counted}
use Rattle.turn.specs.declared.Event.{Event}
use Rattle.turn.specs.declared.Event.TheVariants.{Ended, Handed}
use Rattle.unit.specs.Unit.{pulls_of}
use Rattle.unit.specs.declared.Unit.{Unit}
use Rattle.polling.specs.History.{since, is_pending, IsEnabling}
use Rattle.polling.specs.Moves.{Move, steps, after, begins, services, ahead, in_ring, Spared, event_of, Stays}
use Rattle.polling.specs.UnitMoves.{UnitMove, steps as unitSteps, raises, moved, is_seen, Stands, row_of, unit_since, Fills}

-- "A unit whose enabling (08) ends with 00 joins the polling ring": it is there behind the call that tells of the end. No unit has code 0.
abbrev pub Joins : Type 0
Joins =
    (own timeout : ℕ) (before : List Move) (m : Move) (f : Frame) (count : ℕ)
    → let c = since timeout before in
    (own ≡ 0 → ⊥) → running c.stage ≡ f ∷ [] → IsEnabling own f → event_of c m ≡ Ended 0x00 count → in_ring own (after c m) ≡ true

-- "a raised request is held": a raise leaves a request, unless it is refused because the unit is not enabled.
abbrev pub Raised : Type 0
Raised = (u : Unit) → u.serial.enabled ≡ true → (moved u raises).serial.requesting ≡ true

-- It stands until the last nibble of a 01, 09 or FF is taken, or that of its answer 00 is done.
abbrev pub RequestStands : Type 0
RequestStands = (u : Unit) (m : UnitMove) → u.serial.requesting ≡ true → Stands u m

-- "and pulls BAV, as document 01 says": "an idle peripheral that is enabled and holds a request pulls BAV once BAV has been seen high for the
-- retry count of rounds in a row, the present one included, counted with or without a request." With BAV high it is idle.
abbrev pub PullsBav : Type 0
PullsBav =
    (own retry : ℕ) (ms : List UnitMove) (seen : Lines) (busy : Bool) (buffer input output : List ℕ)
    → let u = unit_since own retry ms in
    is_seen own seen buffer output ≡ true → seen.bav ≡ false → (pulls_of u).bav ≡ false → u.serial.enabled ≡ true → u.serial.requesting ≡ true
    → (pulls_of (moved u (unitSteps seen busy buffer input output))).bav ≡ leb retry (suc (row_of own 0 ms))

-- "It releases it at the first HSK low it sees in a later round."
abbrev pub HoldsBav : Type 0
HoldsBav =
    (u : Unit) (seen : Lines) (busy : Bool) (buffer input output : List ℕ)
    → is_seen u.own seen buffer output ≡ true → (pulls_of u).bav ≡ true → (pulls_of (moved u (unitSteps seen busy buffer input output))).bav ≡ not seen.hsk

-- It pulls BAV for a request alone, and only while it is enabled;
abbrev pub PullsForIt : Type 0
PullsForIt = (own retry : ℕ) (ms : List UnitMove) → let u = unit_since own retry ms in (pulls_of u).bav ≡ true → (u.serial.enabled ≡ true) × (u.serial.requesting ≡ true)

-- and it begins only in a step that sees BAV high and fills its row.
abbrev pub PullsNotBefore : Type 0
PullsNotBefore =
    (own retry : ℕ) (ms : List UnitMove) (m : UnitMove)
    → let u = unit_since own retry ms in (pulls_of u).bav ≡ false → (pulls_of (moved u m)).bav ≡ true → Fills own retry (row_of own 0 ms) m

-- "An idle controller that sees BAV low begins a service frame": in that very step. A refused step sees nothing; the ring is not empty.
abbrev pub Starts : Type 0
Starts =
    (c : Controller) (seen : Lines) (busy : Bool) (lent response : List ℕ)
    → is_idle c.stage ≡ true → ltb 15 seen.nibble ≡ false → seen.bav ≡ true → 0 < counted c.ring
    → (begins c (steps seen busy lent response) ≡ true) × (after c (steps seen busy lent response) ≡ service c)

-- "Its turn is a poll of its own code, or a null message exactly when an earlier request of its own, already handed to the application, is
-- unacknowledged", behind these calls.
abbrev pub turn_frame : ℕ → ℕ → List Move → Frame
turn_frame own timeout calls = cond (is_pending own timeout calls) null_frame (poll_of own)

-- One of these calls begins its turn, with at most k service frames begun before; and the turn's frame stays until its end.
pub record TurnIn (own timeout k : ℕ) (before calls : List Move) : Type 0 where
  pub front : List Move
  pub call : Move
  pub rest : List Move
  pub split : calls ≡ front ++ (call ∷ rest)
  pub in_time : services (since timeout before) front ≤ k
  pub begins_now : begins (since timeout (before ++ front)) call ≡ true
  pub its_frame : (after (since timeout (before ++ front)) call).stage ≡ begun (turn_frame own timeout (before ++ front))
  pub stays : Stays (turn_frame own timeout (before ++ front)) (after (since timeout (before ++ front)) call) rest

-- "Take a unit in the ring with k units ahead of it. .. As long as no disable or close goes to the unit and no bus reset is sent, in a frame
-- already running then or in a later one, its turn comes by the (k+1)th service frame begun from then, whatever happens to others." A bus
-- reset need not be left out.
abbrev pub TurnComes : Type 0
TurnComes =
    (own timeout : ℕ) (before calls : List Move)
    → let c = since timeout before in
    in_ring own c ≡ true → Spared own c calls → suc (ahead own c) ≤ services c calls → TurnIn own timeout (ahead own c) before calls

-- The nibbles of such a frame. A poll is the unit's code, 0A and zeros; a null message is 0, FE and zeros.
abbrev pub PollNibbles : Type 0
PollNibbles = (own : ℕ) (lent : List ℕ) (i : ℕ) → own < 256 → nibble_of (poll_of own) lent i ≡ nibble_in (own ∷ 0x0A ∷ 0 ∷ 0 ∷ 0 ∷ 0 ∷ 0 ∷ 0 ∷ 0 ∷ []) i

abbrev pub NullNibbles : Type 0
NullNibbles = (lent : List ℕ) (i : ℕ) → nibble_of null_frame lent i ≡ nibble_in (0 ∷ 0xFE ∷ 0 ∷ 0 ∷ 0 ∷ 0 ∷ 0 ∷ 0 ∷ 0 ∷ []) i

-- "If, on demand 2's bus": in each frame of the log of a run from a quiet start.
abbrev pub InEachFrame : (Capture → Type 0) → Type 0
InEachFrame P = (w v : World) → QuietStart w → (r : Run w v) → All P (frames_of (log r))

-- "it holds a request when polled": the frame is a poll of its code, and it holds one as it takes the last nibble.
pub record HeldWhenPolled (own : ℕ) (l : Capture) : Type 0 where
  pub poll : l.frame ≡ poll_of own
  pub inside : Inside
  pub takes_last : Has (settled inside) (deeds_in own l.marks)
  pub request : has_request inside ≡ true

-- The frame has ended, and the application was told this.
abbrev pub Tells : Capture → Event → Type 0
Tells l e = (buffer : List ℕ) × Has (told e buffer) (acts_in l.marks)

-- "and the response arrives whole, the application is handed that code": it is enough that the frame ends, for no response is lost there.
abbrev pub PolledHands : Type 0
PolledHands = InEachFrame (λ (l : Capture). (own : ℕ) (e : Event) → HeldWhenPolled own l → Tells l e → e ≡ Handed own)

-- "and no other": whatever is handed over there was held when polled, by a poll of that code;
abbrev pub HandedHeld : Type 0
HandedHeld = InEachFrame (λ (l : Capture). (code : ℕ) → Tells l (Handed code) → HeldWhenPolled code l)

-- and at any levels it is the code of the poll that runs.
abbrev pub HandsOnly : Type 0
HandsOnly = (timeout : ℕ) (ms : List Move) (m : Move) (code : ℕ) → event_of (since timeout ms) m ≡ Handed code → running (since timeout ms).stage ≡ poll_of code ∷ []

pub record Demand3 : Type 0 where
  pub joins : Joins
  pub raised : Raised
  pub request_stands : RequestStands
  pub pulls_bav : PullsBav
  pub holds_bav : HoldsBav
  pub pulls_for_it : PullsForIt
  pub pulls_not_before : PullsNotBefore
  pub starts : Starts
  pub turn_comes : TurnComes
  pub poll_nibbles : PollNibbles
  pub null_nibbles : NullNibbles
  pub polled_hands : PolledHands
  pub handed_held : HandedHeld
  pub hands_only : HandsOnly

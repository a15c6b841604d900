-- Beyond demand 3: the bound of any controller, what begins a service frame, every turn of a unit, the ring's marks, that no unit is in the ring twice, what the end of a
-- poll tells at any levels, and that on demand 2's bus a pull for a request is seen.
use Rattle.std.specs.Prelude.{ℕ, suc, ◌<◌, ◌≤◌, ◌≡◌, Bool, true, false, cond, List, [], ◌∷◌, ◌++◌, eqb, length, Some}
use Rattle.bus.specs.declared.Station.{Station}
use Rattle.controller.specs.Calls.{stepping}
use Rattle.controller.specs.Controller.{is_idle, event_in, frame_of}
use Rattle.controller.specs.declared.Controller.{Controller}
use Rattle.delivery.specs.Run.{QuietStart, Run}
use Rattle.delivery.specs.Lists.{Has}
use Rattle.delivery.specs.World.{World, Busy}
use Rattle.frame.specs.Frame.{begun, end_of, poll_of}
use Rattle.line.specs.declared.Lines.{Lines}
use Rattle.message.specs.Answer.{gives}
use Rattle.ring.specs.Ring.{counted, live, is_marked}
use Rattle.ring.specs.declared.Entry.{Entry}
use Rattle.turn.specs.declared.Event.TheVariants.{Nothing, Handed}
use Rattle.unit.specs.Unit.{pulls_of}
use Rattle.polling.specs.BusMoves.{move_of}
use Rattle.polling.specs.Demand3.{turn_frame}
use Rattle.polling.specs.History.{since, is_pending}
use Rattle.polling.specs.Moves.{Move, steps, after, after_all, begins, services, ahead, in_ring, Spared, event_of}

-- One of these calls begins a service frame with the unit's entry in front, and fewer than n service frames have begun before.
pub record Reaches (own n : ℕ) (c : Controller) (calls : List Move) : Type 0 where
  pub front : List Move
  pub call : Move
  pub rest : List Move
  pub split : calls ≡ front ++ (call ∷ rest)
  pub fewer : services c front < n
  pub begins_now : begins (after_all c front) call ≡ true
  pub stands_in_ring : in_ring own (after_all c front) ≡ true
  pub foremost : ahead own (after_all c front) ≡ 0

-- So it is for every controller, whatever it has been through.
abbrev pub AnyController : Type 0
AnyController = (own : ℕ) (c : Controller) (calls : List Move) → in_ring own c ≡ true → Spared own c calls → suc (ahead own c) ≤ services c calls → Reaches own (suc (ahead own c)) c calls

-- A service frame begins only in a step that sees BAV low, and only where the ring is not empty.
pub data SeesLow : Move → Type 0 where
  sees_low : {seen : Lines} {busy : Bool} {lent response : List ℕ} → seen.bav ≡ true → SeesLow (steps seen busy lent response)

abbrev pub StartsOnly : Type 0
StartsOnly = (c : Controller) (m : Move) → begins c m ≡ true → SeesLow m × (0 < counted c.ring)

-- Every service frame that begins with the unit's entry in front is its poll or its null message.
abbrev pub EveryTurn : Type 0
EveryTurn =
    (own timeout : ℕ) (ms : List Move) (m : Move)
    → let c = since timeout ms in
    begins c m ≡ true
    → in_ring own c ≡ true
    → ahead own c ≡ 0
    → (after c m).stage ≡ begun (turn_frame own timeout ms)

-- A mark says just that a request of the unit was handed over and is unacknowledged.
abbrev pub Marks : Type 0
Marks = (own timeout : ℕ) (ms : List Move) → is_marked own (live (since timeout ms).ring) ≡ is_pending own timeout ms

-- The marks of a unit's entries.
abbrev pub marks_of : ℕ → List Entry → List Bool
marks_of own [] = []
marks_of own (e ∷ es) = cond (eqb e.code own) (e.marked ∷ marks_of own es) (marks_of own es)

-- No unit is in the ring twice.
abbrev pub Once : Type 0
Once = (own timeout : ℕ) (ms : List Move) → length (marks_of own (live (since timeout ms).ring)) ≤ 1

-- At any levels a poll that ends with 00 hands its code over, and with any other status nothing.
abbrev pub PollEnds : Type 0
PollEnds =
    (c : Controller) (seen : Lines) (busy : Bool) (lent response : List ℕ) (code status count : ℕ)
    → stepping c seen busy lent response ≡ gives (event_in c seen busy lent)
    → is_idle c.stage ≡ false
    → (frame_of c seen busy lent).end ≡ Some (end_of (poll_of code) status count)
    → event_of c (steps seen busy lent response) ≡ cond (eqb status 0x00) (Handed code) Nothing

-- On demand 2's bus a unit that pulls BAV for its request is seen: an idle controller whose ring is not empty begins a service frame.
abbrev pub BusStarts : Type 0
BusStarts =
    (w v : World) (st : Station)
    → QuietStart w
    → Run w v
    → Has st v.units
    → (pulls_of st.unit).bav ≡ true
    → is_idle v.controller.stage ≡ true
    → 0 < counted v.controller.ring
    → (busy : Busy)
    → begins v.controller (move_of v busy) ≡ true

-- The controller's own calls, at any line levels: steps, refused or not; submissions; acknowledgements, refused or not.
use Rattle.std.specs.Prelude.{ℕ, suc, ◌≡◌, Bool, true, false, cond, ◌||◌, ◌&&◌, List, [], ◌∷◌, eqb}
use Rattle.application.specs.Calls.{controller_submitted, controller_acknowledged}
use Rattle.controller.specs.Calls.{stepping, controller_stepped}
use Rattle.controller.specs.Controller.{is_idle}
use Rattle.controller.specs.declared.Controller.{Controller}
use Rattle.delivery.specs.Calls.{running}
use Rattle.frame.specs.declared.Frame.{Frame}
use Rattle.header.specs.declared.Command.{Command}
use Rattle.line.specs.declared.Lines.{Lines}
use Rattle.message.specs.Answer.{Answer, gives, refused}
use Rattle.ring.specs.Ring.{live, place_of, is_in}
use Rattle.turn.specs.Turn.{event_of as eventAtEnd}
use Rattle.turn.specs.declared.Event.{Event}
use Rattle.turn.specs.declared.Event.TheVariants.{Nothing}

pub data Move : Type 0 where
  steps : (seen : Lines) (busy : Bool) (lent response : List ℕ) → Move
  submits : (k : Command) (n room : ℕ) → Move
  acknowledges : (code : ℕ) → Move

abbrev pub after : Controller → Move → Controller
after c (steps seen busy lent response) = controller_stepped c seen busy lent response
after c (submits k n room) = controller_submitted c k n room
after c (acknowledges code) = controller_acknowledged c code

-- The controller after a row of them.
abbrev pub after_all : Controller → List Move → Controller
after_all c [] = c
after_all c (m ∷ ms) = after_all (after c m) ms

-- A service frame begins in a call that finds the controller idle and leaves it in a frame.
abbrev pub is_begun : List Frame → Bool
is_begun [] = false
is_begun (f ∷ fs) = true

abbrev pub begins : Controller → Move → Bool
begins c m = is_idle c.stage && is_begun (running (after c m).stage)

-- Service frames are counted as they begin.
abbrev pub services : Controller → List Move → ℕ
services c [] = 0
services c (m ∷ ms) = cond (begins c m) (suc (services (after c m) ms)) (services (after c m) ms)

-- The units ahead of a unit in the ring.
abbrev pub ahead : ℕ → Controller → ℕ
ahead own c = place_of own (live c.ring)

abbrev pub in_ring : ℕ → Controller → Bool
in_ring own c = is_in own (live c.ring)

-- A disable (09) or a close (01) to the unit.
abbrev pub is_for : ℕ → Frame → Bool
is_for own f = eqb f.command.device own && (eqb f.command.command 0x09 || eqb f.command.command 0x01)

abbrev pub Without : ℕ → List Frame → Type 0
Without own [] = Unit
Without own (f ∷ fs) = is_for own f ≡ false

-- No disable or close goes to the unit, in a frame already running then or in a later one.
pub data Spared (own : ℕ) : Controller → List Move → Type 0 where
  so_far : {c : Controller} → Spared own c []
  spared : {c : Controller} {m : Move} {ms : List Move} → Without own (running c.stage) → Spared own (after c m) ms → Spared own c (m ∷ ms)

-- What a call tells the application.
abbrev pub told : Answer Event → Event
told (gives e) = e
told (refused k) = Nothing

abbrev pub event_of : Controller → Move → Event
event_of c (steps seen busy lent response) = told (stepping c seen busy lent response)
event_of c (submits k n room) = Nothing
event_of c (acknowledges code) = Nothing

-- In these calls the frame that runs stays this one until it ends: then the application is told what its end tells, and no frame runs.
pub data Stays (f : Frame) : Controller → List Move → Type 0 where
  runs : {c : Controller} → running c.stage ≡ f ∷ [] → Stays f c []
  goes_on : {c : Controller} {m : Move} {ms : List Move} → running c.stage ≡ f ∷ [] → Stays f (after c m) ms → Stays f c (m ∷ ms)
  ends :
      {c : Controller} {m : Move} {ms : List Move} (status count : ℕ) → running c.stage ≡ f ∷ [] → event_of c m ≡ eventAtEnd f status count → running (after c m).stage ≡ []
      → Stays f c (m ∷ ms)

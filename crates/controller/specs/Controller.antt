-- Document 01, "The controller and its ring": the controller's round.
use Rattle.std.specs.Prelude.{ℕ, Bool, true, false, cond, List, [], eqb, get_or, Option, Some, None}
use Rattle.frame.specs.Frame.{begun, frame_step}
use Rattle.frame.specs.declared.End.{End}
use Rattle.frame.specs.declared.Moved.{Moved}
use Rattle.frame.specs.declared.Stage.{Stage}
use Rattle.frame.specs.declared.Stage.TheVariants.{Free, Resting, Waiting, Sending, Listening}
use Rattle.line.specs.declared.Lines.{Lines}
use Rattle.ring.specs.Ring.{none, counted, live, ring_of, turned}
use Rattle.ring.specs.declared.Ring.{Ring}
use Rattle.turn.specs.Turn.{turn_of, ring_ended, event_of}
use Rattle.turn.specs.declared.Event.{Event}
use Rattle.turn.specs.declared.Event.TheVariants.{Nothing}
use Rattle.controller.specs.declared.Controller.{Controller}

abbrev pub controller_of : ℕ → Stage → Ring → Controller
controller_of timeout stage ring = record { timeout = timeout; stage = stage; ring = ring }

-- With another stage, or another ring; nothing else of it changes.
abbrev pub with_stage : Controller → Stage → Controller
with_stage c stage = record { timeout = c.timeout; stage = stage; ring = c.ring }

abbrev pub with_ring : Controller → Ring → Controller
with_ring c ring = record { timeout = c.timeout; stage = c.stage; ring = ring }

-- A new controller may start, and its ring is empty.
abbrev pub new_controller : ℕ → Controller
new_controller timeout = controller_of timeout Free (ring_of [])

-- A controller that may start and has nothing submitted is idle.
abbrev pub is_idle : Stage → Bool
is_idle Free = true
is_idle (Resting first) = false
is_idle (Waiting f) = false
is_idle (Sending f i sender wait) = false
is_idle (Listening f ear response quiet) = false

-- Idle and seeing BAV low with the ring not empty, it begins a service frame. The front entry moves to the back as the frame begins.
abbrev pub service : Controller → Controller
service c = with_ring (with_stage c (begun (turn_of (get_or (live c.ring) 0 none)))) (ring_of (turned (live c.ring)))

abbrev pub idle_step : Controller → Bool → Controller
idle_step c bav = cond bav (cond (eqb (counted c.ring) 0) c (service c)) c

-- The ring after a round, and what the application is told of it.
abbrev pub ring_after : Ring → Option End → Ring
ring_after ring None = ring
ring_after ring (Some end) = ring_ended ring end.frame end.status

abbrev pub event_after : Option End → Event
event_after None = Nothing
event_after (Some end) = event_of end.frame end.status end.count

-- The controller after a round of a frame or of its rest.
abbrev pub controller_moved : Controller → Moved → Controller
controller_moved c m = with_ring (with_stage c m.stage) (ring_after c.ring m.end)

-- The round.
abbrev pub frame_of : Controller → Lines → Bool → List ℕ → Moved
frame_of c seen busy d = frame_step c.stage c.timeout seen busy d

abbrev pub controller_step : Controller → Lines → Bool → List ℕ → Controller
controller_step c seen busy d =
    cond (is_idle c.stage) (idle_step c seen.bav) (controller_moved c (frame_of c seen busy d))

abbrev pub event_in : Controller → Lines → Bool → List ℕ → Event
event_in c seen busy d = cond (is_idle c.stage) Nothing (event_after (frame_of c seen busy d).end)

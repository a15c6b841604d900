-- Document 01, "Refusal numbers" (5, 10, 11): the controller's step, with its number or its values.
use Rattle.std.specs.Prelude.{ℕ, Bool, cond, List, ltb, length, Result, Ok, Err}
use Rattle.frame.specs.Frame.{frame_buffer, lent_at}
use Rattle.frame.specs.declared.LentError.{LentError}
use Rattle.frame.specs.declared.LentError.TheVariants.{Data as OtherData, Buffer as ShortBuffer}
use Rattle.line.specs.declared.Lines.{Lines}
use Rattle.message.specs.Answer.{Answer, gives, refused, answered, kept}
use Rattle.turn.specs.declared.Event.{Event}
use Rattle.controller.specs.Controller.{controller_step, event_in}
use Rattle.controller.specs.declared.Controller.{Controller}
use Rattle.controller.specs.declared.StepError.{StepError}
use Rattle.controller.specs.declared.StepError.TheVariants.{Level, Data, Buffer}

-- Stepping: 5 for a nibble level over 15; then, only in the steps of a submitted frame, 10 for data that differs in length from the
-- submitted, and 11 for a response buffer under the buffer length field.
abbrev pub if_lent : Result (Unit {0}) LentError → Event → Answer Event
if_lent (Ok u) event = gives event
if_lent (Err OtherData) event = refused 10
if_lent (Err ShortBuffer) event = refused 11

abbrev pub stepping : Controller → Lines → Bool → List ℕ → List ℕ → Answer Event
stepping c seen busy d buffer =
    cond (ltb 15 seen.nibble) (refused 5) (if_lent (lent_at c.stage (length d) (length buffer)) (event_in c seen busy d))

abbrev pub number : StepError → ℕ
number Level = 5
number Data = 10
number Buffer = 11

abbrev pub stepped : Result Event StepError → Answer Event
stepped r = answered number r

abbrev pub of_lent : LentError → StepError
of_lent OtherData = Data
of_lent ShortBuffer = Buffer

-- A refused step sees nothing: it changes neither state nor lent memory.
abbrev pub controller_stepped : Controller → Lines → Bool → List ℕ → List ℕ → Controller
controller_stepped c seen busy d buffer = kept (stepping c seen busy d buffer) (controller_step c seen busy d) c

abbrev pub buffer_after : Controller → Lines → Bool → List ℕ → List ℕ → List ℕ
buffer_after c seen busy d buffer = kept (stepping c seen busy d buffer) (frame_buffer c.stage seen buffer) buffer

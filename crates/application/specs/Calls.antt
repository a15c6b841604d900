-- Document 01, "Refusal numbers" (1, 2, 3, 4, 5, 8, 11): the calls of the application, each with its number or its values, and what may be
-- looked at.
use Rattle.std.specs.Prelude.{ℕ, Bool, true, false, cond, ◌||◌, ltb, leb, eqb, Result}
use Rattle.frame.specs.Frame.{submitted_frame}
use Rattle.frame.specs.declared.Stage.{Stage}
use Rattle.frame.specs.declared.Stage.TheVariants.{Free, Resting, Waiting, Sending, Listening}
use Rattle.header.specs.declared.Command.{Command}
use Rattle.message.specs.Answer.{Answer, gives, refused, answered, kept}
use Rattle.ring.specs.Ring.{counted, live, ring_of, is_in, is_marked, with_mark}
use Rattle.ring.specs.declared.Ring.{Ring}
use Rattle.controller.specs.Controller.{new_controller, with_stage, with_ring, is_idle}
use Rattle.controller.specs.declared.Controller.{Controller}
use Rattle.application.specs.declared.MakeError.{MakeError}
use Rattle.application.specs.declared.SubmitError.{SubmitError}
use Rattle.application.specs.declared.SubmitError.TheVariants.{Running, TooLong, PollCommand, FullRing, ShortResponse}
use Rattle.application.specs.declared.NotMarked.{NotMarked}
use Rattle.application.specs.declared.Looks.{Looks}

-- A call that gives no value but the state.
abbrev pub Done : Type 0
Done = Unit {0}

abbrev pub done : Done
done = tt

-- Making: 5 for a time-out not 8 to 65,535; beside the refusal stands a controller with the default time-out, 200.
abbrev pub making : ℕ → Answer Done
making timeout = cond (ltb timeout 8) (refused 5) (cond (ltb 65535 timeout) (refused 5) (gives done))

abbrev pub make_number : MakeError → ℕ
make_number e = 5

abbrev pub made : Result Done MakeError → Answer Done
made r = answered make_number r

abbrev pub controller_made : ℕ → Controller
controller_made timeout = kept (making timeout) (new_controller timeout) (new_controller 200)

-- Submitting a command with n bytes of data and a response buffer of so many bytes. 1 while one is submitted or any frame or its
-- two-round rest runs; 2 for data over 65,535; 3 for command 0A; 4 for 08 and a code not in a full ring; 11 for a response buffer
-- under the buffer length field.
abbrev pub is_shut_out : Command → Ring → Bool
is_shut_out k ring = cond (eqb k.command 0x08) (cond (is_in k.device (live ring)) false (leb 16 (counted ring))) false

abbrev pub submitting : Controller → Command → ℕ → ℕ → Answer Done
submitting c k n room =
    cond (is_idle c.stage)
    (cond (ltb 65535 n) (refused 2)
    (cond (eqb k.command 0x0A) (refused 3)
    (cond (is_shut_out k c.ring) (refused 4) (cond (ltb room k.buffer_length) (refused 11) (gives done)))))
    (refused 1)

abbrev pub submit_number : SubmitError → ℕ
submit_number Running = 1
submit_number TooLong = 2
submit_number PollCommand = 3
submit_number FullRing = 4
submit_number ShortResponse = 11

abbrev pub submitted : Result Done SubmitError → Answer Done
submitted r = answered submit_number r

-- Its frame begins in the next step.
abbrev pub with_command : Controller → Command → ℕ → Controller
with_command c k n = with_stage c (Waiting (submitted_frame k n))

abbrev pub controller_submitted : Controller → Command → ℕ → ℕ → Controller
controller_submitted c k n room = kept (submitting c k n room) (with_command c k n) c

-- Acknowledging clears the mark: 8 for a code not in the ring or not marked.
abbrev pub acknowledging : Controller → ℕ → Answer Done
acknowledging c code = cond (is_marked code (live c.ring)) (gives done) (refused 8)

abbrev pub acknowledge_number : NotMarked → ℕ
acknowledge_number e = 8

abbrev pub acknowledged : Result Done NotMarked → Answer Done
acknowledged r = answered acknowledge_number r

abbrev pub without_mark : Controller → ℕ → Controller
without_mark c code = with_ring c (ring_of (with_mark false code (live c.ring)))

abbrev pub controller_acknowledged : Controller → ℕ → Controller
controller_acknowledged c code = kept (acknowledging c code) (without_mark c code) c

-- What an application may look at: the ring in order with its marks, whether no frame or rest runs, whether a command is submitted.
abbrev pub is_submitted : Stage → Bool
is_submitted Free = false
is_submitted (Resting first) = false
is_submitted (Waiting f) = true
is_submitted (Sending f i sender wait) = false
is_submitted (Listening f ear response quiet) = false

abbrev pub may_start : Stage → Bool
may_start stage = is_idle stage || is_submitted stage

abbrev pub looks_of : Controller → Looks
looks_of c = record { ring = c.ring; may_start = may_start c.stage; submitted = is_submitted c.stage }

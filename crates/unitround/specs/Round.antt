-- A round of a unit in words: what it makes of the words, of the lent command buffer and of the memory for what is written to the unit.
use Rattle.std.specs.Prelude.{ℕ, ◌%◌, ◌≡◌, Bool, cond, List, eqb}
use Rattle.line.specs.declared.Lines.{Lines}
use Rattle.message.specs.Nibbles.{nibble_in}
use Rattle.phase.specs.Phase.{idle_step, selected, selecting_step, byte_step, byte_buffer, byte_output, taking_step, taking_buffer, taking_output, replied, answered_step, done, sent_step, responding_step, phase_step, phase_buffer, phase_output}
use Rattle.queue.specs.Queue.{contents}
use Rattle.reply.specs.Reply.{response_bytes}
use Rattle.serial.specs.declared.Reply.{Reply}
use Rattle.unit.specs.Unit.{unit_step, unit_buffer, unit_output}
use Rattle.unitwords.specs.Layout.{OWN, PHASE, EAR, HALF, LOW, REPLY, VALUE, SENDER, WAIT, NIBBLE, NEXT}
use Rattle.unitwords.specs.Unit.{loaded_serial, reply_of, loaded_partial, loaded_phase, phase_in, moved_in, loaded, saved_in}
use Rattle.words.specs.Words.{at, flag_of, listener_of, sender_of}

-- The whole round: the unit in the words is loaded, stepped and saved.
abbrev pub Stepped : List ℕ → Lines → Bool → List ℕ → List ℕ → List ℕ → List ℕ → List ℕ → List ℕ → Type 0
Stepped ws seen busy buffer input output ws' buffer' output' =
    (ws' ≡ saved_in ws (unit_step (loaded ws) seen busy buffer input))
    × ((buffer' ≡ unit_buffer (loaded ws) seen buffer) × (output' ≡ unit_output (loaded ws) seen buffer output))

-- The round of its phase, while BAV is seen low.
abbrev pub Moves : List ℕ → Lines → Bool → List ℕ → List ℕ → List ℕ → List ℕ → List ℕ → List ℕ → Type 0
Moves ws seen busy buffer input output ws' buffer' output' =
    (ws' ≡ moved_in ws (phase_step (loaded_phase ws) (at ws OWN % 256) (loaded_serial ws) seen busy buffer input))
    × ((buffer' ≡ phase_buffer (loaded_phase ws) seen buffer) × (output' ≡ phase_output (loaded_phase ws) (at ws OWN % 256) (loaded_serial ws) seen buffer output))

-- Each phase, with what stands in its words.
abbrev pub selects : List ℕ → Lines → Bool → List ℕ
selects ws seen busy = phase_in ws (selecting_step (at ws OWN % 256) (listener_of (at ws EAR)) (flag_of (at ws HALF)) (at ws LOW % 256) seen busy)

abbrev pub Takes : List ℕ → Lines → Bool → List ℕ → List ℕ → List ℕ → List ℕ → List ℕ → Type 0
Takes ws seen busy buffer output ws' buffer' output' =
    (ws' ≡ moved_in ws (taking_step (at ws OWN % 256) (loaded_serial ws) (listener_of (at ws EAR)) (loaded_partial ws) seen busy buffer))
    × ((buffer' ≡ taking_buffer (listener_of (at ws EAR)) (loaded_partial ws) seen buffer)
    × (output' ≡ taking_output (at ws OWN % 256) (loaded_serial ws) (listener_of (at ws EAR)) (loaded_partial ws) seen buffer output))

abbrev pub TakesByte : List ℕ → ℕ → List ℕ → List ℕ → List ℕ → List ℕ → List ℕ → Type 0
TakesByte ws b buffer output ws' buffer' output' =
    (ws' ≡ moved_in ws (byte_step (at ws OWN % 256) (loaded_serial ws) (loaded_partial ws) b buffer))
    × ((buffer' ≡ byte_buffer (loaded_partial ws) b buffer) × (output' ≡ byte_output (at ws OWN % 256) (loaded_serial ws) (loaded_partial ws) b buffer output))

abbrev pub reply : List ℕ → Reply
reply ws = reply_of (at ws REPLY) (at ws VALUE)

abbrev pub answers : List ℕ → Bool → Bool → List ℕ
answers ws hsk busy = phase_in ws (answered_step (listener_of (at ws EAR)) (reply ws) hsk busy)

abbrev pub nibble : List ℕ → List ℕ → ℕ
nibble ws input = nibble_in (response_bytes (contents input (loaded_serial ws).input) (reply ws)) (at ws NEXT)

abbrev pub sends : List ℕ → List ℕ
sends ws = moved_in ws (sent_step (loaded_serial ws) (reply ws) (at ws NEXT))

abbrev pub responds : List ℕ → Bool → List ℕ → List ℕ
responds ws hsk input =
    moved_in ws (responding_step (loaded_serial ws) (reply ws) (at ws NEXT) (sender_of (at ws SENDER) (at ws NIBBLE)) (flag_of (at ws WAIT)) hsk input)

-- Where a phase leads when it is left: selecting with this code, receiving and responding after their last nibble, else idle.
abbrev pub leaves : List ℕ → Bool → ℕ → List ℕ
leaves ws hsk code =
    cond (eqb (at ws PHASE) 1) (phase_in ws (selected (at ws OWN % 256) code))
    (cond (eqb (at ws PHASE) 3) (phase_in ws (replied (reply ws)))
    (cond (eqb (at ws PHASE) 4) (moved_in ws (done (loaded_serial ws) (reply ws))) (phase_in ws (idle_step hsk))))

-- A round of a phase leaves the command buffer, and the memory for what is written to the unit, as long as they were.
use Prim.Native.Nat.{ℕ, ◌-◌}
use mathlib.Core.Path.{◌≡◌, refl}
use mathlib.Core.Bool.{Bool, true, false, cond}
use mathlib.Core.List.{List}
use lib.ListN.{length, length-set}
use Rattle.field.specs.Field.{byte_from}
use Rattle.line.specs.Line.{taken_of}
use Rattle.line.specs.declared.Lines.{Lines}
use Rattle.serial.proofs.Laws.{length-after}
use Rattle.serial.specs.declared.Serial.{Serial}
use Rattle.phase.specs.Phase.{with_byte, is_stored, is_last, stored_data, verdict_on, byte_buffer, byte_output, phase_buffer, phase_output}
use Rattle.phase.specs.declared.Partial.{Partial}
use Rattle.phase.specs.declared.Phase.{Phase}
use Rattle.phase.specs.declared.Phase.TheVariants.{Idle, Selecting, Receiving, Responding, SittingOut}
use Rattle.phase.specs.declared.Progress.TheVariants.{Taking, Answered}

pub either : (t : Bool) (a b l : List ℕ) → length a ≡ length l → length b ≡ length l → length (cond t a b) ≡ length l
either true a b l p q = p
either false a b l p q = q

byte_buffer_lem : (p : Partial) (b : ℕ) (buffer : List ℕ) → length (byte_buffer p b buffer) ≡ length buffer
byte_buffer_lem p b buffer =
    let n = (with_byte p.header p.place b).data_length in
    either (is_stored n p.place) _ buffer buffer (length-set buffer (p.place - 9) b) refl

pub phase_buffer_lem : (x : Phase) (seen : Lines) (buffer : List ℕ) → length (phase_buffer x seen buffer) ≡ length buffer
phase_buffer_lem Idle seen buffer = refl
phase_buffer_lem (Selecting ear half low) seen buffer = refl
phase_buffer_lem (Receiving ear (Taking p)) seen buffer =
    let b = byte_from p.low seen.nibble in
    either (taken_of ear seen.hsk) _ buffer buffer (either p.half (byte_buffer p b buffer) buffer buffer (byte_buffer_lem p b buffer) refl) refl
phase_buffer_lem (Receiving ear (Answered reply)) seen buffer = refl
phase_buffer_lem (Responding reply i sender wait) seen buffer = refl
phase_buffer_lem (SittingOut last) seen buffer = refl

byte_output_lem : (own : ℕ) (s : Serial) (p : Partial) (b : ℕ) (buffer output : List ℕ) → length (byte_output own s p b buffer output) ≡ length output
byte_output_lem own s p b buffer output =
    let h = with_byte p.header p.place b in
    let buffer' = byte_buffer p b buffer in
    either (is_last h.data_length p.place) _ output output (length-after s (verdict_on own s h buffer').effect (stored_data h.data_length buffer') output) refl

pub phase_output_lem : (x : Phase) (own : ℕ) (s : Serial) (seen : Lines) (buffer output : List ℕ) → length (phase_output x own s seen buffer output) ≡ length output
phase_output_lem Idle own s seen buffer output = refl
phase_output_lem (Selecting ear half low) own s seen buffer output = refl
phase_output_lem (Receiving ear (Taking p)) own s seen buffer output =
    let b = byte_from p.low seen.nibble in
    either (taken_of ear seen.hsk) _ output output (either p.half (byte_output own s p b buffer output) output output (byte_output_lem own s p b buffer output) refl) refl
phase_output_lem (Receiving ear (Answered reply)) own s seen buffer output = refl
phase_output_lem (Responding reply i sender wait) own s seen buffer output = refl
phase_output_lem (SittingOut last) own s seen buffer output = refl

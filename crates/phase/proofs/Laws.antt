-- The two ways of a byte that is there: it is the last of its message, or more follow.
use Prim.Native.Nat.{ℕ, ◌+◌, ◌<◌, ◌≤◌}
use mathlib.Core.Path.{◌≡◌, sym, ◌∙◌, ap, ap₂, subst}
use mathlib.Core.Bool.{Bool, true, false, cond}
use mathlib.Core.List.{List}
use borrow.Author.Tests.{le-leb, lt-leb}
use Rattle.header.specs.declared.Header.{Header}
use Rattle.line.specs.declared.Listener.TheVariants.{Holding}
use Rattle.serial.specs.declared.Serial.{Serial}
use Rattle.phase.specs.Phase.{moves, partial, with_byte, is_last, answered, stored, byte_step, byte_buffer, byte_output}
use Rattle.phase.specs.declared.Moved.{Moved}
use Rattle.phase.specs.declared.Partial.{Partial}
use Rattle.phase.specs.declared.Progress.TheVariants.{Taking}
use Rattle.phase.specs.declared.Phase.TheVariants.{Receiving}

module _ (own : ℕ) (s : Serial) (p : Partial) (b : ℕ) (buffer output : List ℕ) (h : Header) (e : h ≡ with_byte p.header p.place b) where
  more : Moved
  more = moves (Receiving Holding (Taking (partial (with_byte p.header p.place b) (p.place + 1)))) s

  last : 8 + h.data_length ≤ p.place → is_last (with_byte p.header p.place b).data_length p.place ≡ true
  last t = le-leb _ _ (subst (λ (x : Header). 8 + x.data_length ≤ p.place) e t)

  not_last : p.place < 8 + h.data_length → is_last (with_byte p.header p.place b).data_length p.place ≡ false
  not_last t = lt-leb _ _ (subst (λ (x : Header). p.place < 8 + x.data_length) e t)

  pub last_byte : (l : List ℕ) → l ≡ byte_buffer p b buffer → 8 + h.data_length ≤ p.place → answered own s h l ≡ byte_step own s p b buffer
  unfolding more
  last_byte l f t =
      ap₂ (answered own s) e f ∙ sym (ap (λ (x : Bool). cond x (answered own s (with_byte p.header p.place b) (byte_buffer p b buffer)) more) (last t))

  pub last-output : (l : List ℕ) → l ≡ byte_buffer p b buffer → 8 + h.data_length ≤ p.place → stored own s h l output ≡ byte_output own s p b buffer output
  last-output l f t =
      ap₂ (λ (x : Header) (y : List ℕ). stored own s x y output) e f
      ∙ sym (ap (λ (x : Bool). cond x (stored own s (with_byte p.header p.place b) (byte_buffer p b buffer) output) output) (last t))

  pub more_bytes : p.place < 8 + h.data_length → moves (Receiving Holding (Taking (partial h (p.place + 1)))) s ≡ byte_step own s p b buffer
  unfolding more
  more_bytes t =
      ap (λ (x : Header). moves (Receiving Holding (Taking (partial x (p.place + 1)))) s) e
      ∙ sym (ap (λ (x : Bool). cond x (answered own s (with_byte p.header p.place b) (byte_buffer p b buffer)) more) (not_last t))

  pub more-output : p.place < 8 + h.data_length → output ≡ byte_output own s p b buffer output
  more-output t = sym (ap (λ (x : Bool). cond x (stored own s (with_byte p.header p.place b) (byte_buffer p b buffer) output) output) (not_last t))

-- An or, by one side; either way of a test, and of the checks that all commands go through; and a command with its code written out.
use Prim.Native.Nat.{ℕ, ◌≤◌}
use mathlib.Core.Path.{◌≡◌, refl, sym, ◌∙◌, ap}
use mathlib.Core.Bool.{Bool, true, false, cond, ◌||◌, false≢true}
use borrow.Author.Tests.{ltb-false}
use lib.Dec.{ltb, eqb}
use Rattle.header.specs.declared.Command.{Command}
use Rattle.serial.specs.Verdict.{says}
use Rattle.serial.specs.declared.Effect.TheVariants.{Keeps}
use Rattle.serial.specs.declared.Reply.TheVariants.{Silent, Status}
use Rattle.serial.specs.declared.Verdict.{Verdict}

-- One that holds, by one side where the other does not.
pub or_right : (a : Bool) {b : Bool} → a ≡ false → (a || b) ≡ true → b ≡ true
or_right a {b} f e = sym (ap (λ (t : Bool). t || b) f) ∙ e

pub or_left : (a b : Bool) → b ≡ false → (a || b) ≡ true → a ≡ true
or_left true b f e = refl
or_left false b f e = absurd (false≢true (sym f ∙ e))

-- One side is enough.
pub or-first : (a b : Bool) → a ≡ true → (a || b) ≡ true
or-first true b e = refl
or-first false b e = absurd (false≢true e)

pub or_second : (a b : Bool) → b ≡ true → (a || b) ≡ true
or_second true b e = refl
or_second false b e = e

-- Either way of a test.
pub by_test : (P : Verdict → Type 0) (t : Bool) (v w : Verdict) → (t ≡ true → P v) → (t ≡ false → P w) → P (cond t v w)
by_test P true v w p q = p refl
by_test P false v w p q = q refl

-- The checks before those of a command that is supported: at code 0 silence, and data above 256 is 08.
pub by_checks : (P : Verdict → Type 0) (device n : ℕ) (v : Verdict) → P (says Silent Keeps) → P (says (Status 0x08) Keeps) → (n ≤ 256 → P v) → P (cond (eqb device 0) (says Silent Keeps) (cond (ltb 256 n) (says (Status 0x08) Keeps) v))
by_checks P device n v silent long p = by_test P (eqb device 0) _ _ (λ _. silent) (λ _. by_test P (ltb 256 n) _ _ (λ _. long) (λ e. p (ltb-false 256 n e)))

abbrev pub with_code : Command → ℕ → Command
with_code c code = record { device = c.device; command = code; logical_unit = c.logical_unit; record_number = c.record_number; buffer_length = c.buffer_length }

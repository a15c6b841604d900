-- What a branch tells of the test that a definition picks by.
use Prim.Native.Nat.{ℕ}
use mathlib.Core.Path.{◌≡◌, sym, ◌∙◌, ap}
use borrow.Author.Tests.{lt-ltb, le-ltb, le-leb, lt-leb, eq-eqb, ne_eqb}
use Rattle.screen.specs.Screen.{reading, placed, with_byte_in, with_byte}
use Rattle.screen.specs.declared.Screen.{Screen}
use Rattle.screen.specs.declared.Sequence.{Sequence}
use Rattle.screen.specs.declared.Sequence.TheVariants.{Plain, Column}

pub ruleset tests = (lt-ltb, le-ltb, le-leb, lt-leb, eq-eqb, ne_eqb)

-- The column behind a row: the sequence is over, and the cursor placed.
pub placed_by : (s t r : Screen) (row b : ℕ) → s.sequence ≡ Column row → t ≡ reading s Plain → r ≡ placed t row b → r ≡ with_byte s b
placed_by s t r row b e f g = g ∙ ap (λ (u : Screen). placed u row b) f ∙ sym (ap (λ (q : Sequence). with_byte_in q s b) e)

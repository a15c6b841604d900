-- What an open comes to: what an accepted one has, and which statuses refuse one.
use Prim.Native.Nat.{ℕ, ◌/◌, ◌%◌, ◌<◌, ◌≤◌}
use native.Mathlib.Omega.{arith}
use mathlib.Core.Path.{◌≡◌, refl}
use mathlib.Core.Bool.{Bool, true, false, cond}
use borrow.Author.Tests.{ltb-false}
use lib.Dec.{ltb, eqb, lit<}
use Rattle.std.specs.Prelude.{Option, Some, None, Result, Ok, Err}
use Rattle.rs232.specs.Checks.{mode_or, open_status}

-- Either way of a test, and of a mode.
by_test : {A : Type 0} (P : A → Type 0) (t : Bool) (v w : A) → (t ≡ true → P v) → (t ≡ false → P w) → P (cond t v w)
by_test P true v w p q = p refl
by_test P false v w p q = q refl

by_mode : (P : Result (Unit {0}) ℕ → Type 0) (refused : Option ℕ) (rest : Result (Unit {0}) ℕ) → ((k : ℕ) → refused ≡ Some k → P (Err k)) → P rest → P (mode_or refused rest)
by_mode P (Some k) rest p q = p k refl
by_mode P None rest p q = q

-- What an accepted open has, of n bytes of data.
pub record Opens (buffer n requested : ℕ) : Type 0 where
  pub has_data : n ≡ 3
  pub has_room : 4 ≤ buffer
  pub is_short : requested ≤ 128

-- An open is accepted, or refused with the status of its mode, or with another byte that is not 0.
pub each_status : (P : Result (Unit {0}) ℕ → Type 0) (refused : Option ℕ) (buffer n requested attributes : ℕ)
    → (Opens buffer n requested → P (Ok tt))
    → ((k : ℕ) → refused ≡ Some k → P (Err k))
    → ((k : ℕ) → 0 < k → k < 256 → P (Err k))
    → P (open_status refused buffer n requested attributes)
each_status P refused buffer n requested attributes opens mode other =
    by_test P (ltb n 3) _ _ (λ e. other 0x02 (lit< tt) (lit< tt))
    (λ long. by_test P (eqb (attributes / 64) 0) _ _ (λ e. other 0x13 (lit< tt) (lit< tt))
    (λ e. by_mode P refused _ mode
    (by_test P (eqb (attributes / 32 % 2) 1) _ _ (λ e. other 0x11 (lit< tt) (lit< tt))
    (λ e. by_test P (ltb 128 requested) _ _ (λ e. other 0x0C (lit< tt) (lit< tt))
    (λ low. by_test P (ltb buffer 4) _ _ (λ e. other 0x0C (lit< tt) (lit< tt))
    (λ room. by_test P (ltb 3 n) _ _ (λ e. other 0x01 (lit< tt) (lit< tt))
    (λ short. opens record {
      has_data = let least = ltb-false n 3 long in let most = ltb-false 3 n short in omega arith;
      has_room = ltb-false buffer 4 room;
      is_short = ltb-false 128 requested low;
    })))))))

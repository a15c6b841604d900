-- Laws of lists that the message's layout is read by.
use Prim.Native.Nat.{ℕ, zero, suc, ◌-◌, ◌<◌}
use native.Mathlib.Nat.{not-suc-le-zero, le_of_suc-le-suc, sub-zero}
use native.Mathlib.Omega.{arith}
use mathlib.Core.Path.{◌≡◌, refl, ap}
use mathlib.Core.Bool.{cond}
use mathlib.Core.List.{List, [], ◌∷◌, ◌++◌}
use borrow.Author.Tests.{lt-ltb}
use lib.Dec.{ltb, leb-suc-zero, leb-suc-suc}
use lib.ListN.{length, get_or, set, take, drop}

-- What stands at i of two lists, one after the other.
pub get_or_split : (a b : List ℕ) (i d e : ℕ) → get_or (a ++ b) i d ≡ cond (ltb i (length a)) (get_or a i e) (get_or b (i - length a) d)
get_or_split [] b i d e = simp (leb-suc-zero, sub-zero)
get_or_split (x ∷ a) b zero d e = simp (lt-ltb 0 (suc (length a)) (omega arith))
get_or_split (x ∷ a) b (suc i) d e =
    let s : suc i - suc (length a) ≡ i - length a = omega arith in
    simp (leb-suc-suc, s) (get_or_split a b i d e)

-- A turn of a copy: the store takes a copy of i elements to one more.
pub copy_next : (s d : List ℕ) (i : ℕ) → i < length s → i < length d → set (take i s ++ drop i d) i (get_or s i 0) ≡ take (suc i) s ++ drop (suc i) d
copy_next [] d i h k = absurd (not-suc-le-zero h)
copy_next (x ∷ s) [] i h k = absurd (not-suc-le-zero k)
copy_next (x ∷ s) (y ∷ d) zero h k = refl
copy_next (x ∷ s) (y ∷ d) (suc i) h k = ap (λ (l : List ℕ). x ∷ l) (copy_next s d i (le_of_suc-le-suc h) (le_of_suc-le-suc k))

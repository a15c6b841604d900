-- A rule over all numbers of a range, tested once: the checker computes what it gives for each of them, and each number has that by its
-- place.
use mathlib.Core.Path.{◌≡◌, sym, ◌∙◌, ap}
use mathlib.Core.List.{List, [], ◌∷◌}
use Prim.Native.Nat.{ℕ, zero, suc, ◌+◌, ◌-◌, ◌<◌, ◌≤◌}
use native.Mathlib.Nat.{add-zero, add-suc, suc-add, le_of_suc-le-suc, not-suc-le-zero}
use native.Mathlib.Omega.{arith}
use lib.ListN.{get_or, replicate, get_or-replicate}

-- What the rule f gives for i and the numbers after it, n in all.
abbrev pub entries : (ℕ → ℕ) → ℕ → ℕ → List ℕ
entries f i zero = []
entries f i (suc n) = f i ∷ entries f (suc i) n

entry : (f : ℕ → ℕ) (i n k : ℕ) → k < n → get_or (entries f i n) k 0 ≡ f (i + k)
entry f i zero k h = absurd (not-suc-le-zero h)
entry f i (suc n) zero h = ap f (sym (add-zero i))
entry f i (suc n) (suc k) h = entry f (suc i) n k (le_of_suc-le-suc h) ∙ ap f (suc-add i k ∙ sym (add-suc i k))

-- The n numbers from i on all have the value v.
pub all_have : (f : ℕ → ℕ) (i n v x : ℕ) → entries f i n ≡ replicate n v → i ≤ x → x < i + n → v ≡ f x
all_have f i n v x tested low high =
    let at : i + (x - i) ≡ x = omega arith in
    let within : x - i < n = omega arith in
    sym (get_or-replicate n (x - i) v 0 within) ∙ ap (λ (l : List ℕ). get_or l (x - i) 0) (sym tested) ∙ entry f i n (x - i) within ∙ ap f at

-- Fields one after the other, over any widths: how long they are, and that values and bytes give each other back.
use Prim.Native.Nat.{ℕ, zero, suc, ◌+◌, ◌^◌, ◌<◌, ◌≤◌}
use native.Mathlib.Omega.{arith}
use mathlib.Core.Path.{◌≡◌, refl, sym, ◌∙◌, ap}
use mathlib.Core.List.{List, [], ◌∷◌, ◌++◌, append_assoc}
use lib.Dec.{lit<}
use lib.ListN.{length, take, drop, set, replicate, length-append, length-drop}
use lib.Seq.{take_at, drop_at, take-add, length-take-le, get_or-drop}
use Rattle.field.specs.Field.{field, value_of, Below}
use Rattle.field.proofs.Laws.{length_digits, number_digits, digits_number}
use Rattle.message.specs.Format.{laid, size}
use Rattle.message.specs.Reading.{values_in}
use Rattle.message.specs.RoundTrip.{Fit, none, next}

pub length-laid : (ws vs : List ℕ) → length (laid ws vs) ≡ size ws
length-laid [] vs = refl
length-laid (w ∷ ws) [] = rw (length-append, length_digits, length-laid ws [])
length-laid (w ∷ ws) (v ∷ vs) = rw (length-append, length_digits, length-laid ws vs)

-- A field at the front: its value, and what is behind it.
pub value_at : (w v : ℕ) (rest : List ℕ) → v < 256 ^ w → value_of (take w (field w v ++ rest)) ≡ v
value_at w v rest h = rw (take_at (field w v) rest w (length_digits 256 w v)) (number_digits 256 w v (lit< tt) h)

pub values_laid : {ws vs : List ℕ} (rest : List ℕ) → Fit ws vs → values_in ws (laid ws vs ++ rest) ≡ vs
values_laid rest none = refl
values_laid rest (next {w = w} {v = v} {ws = ws} {vs = vs} h fs) =
    rw (append_assoc, value_at w v (laid ws vs ++ rest) h, drop_at (field w v) (laid ws vs ++ rest) w (length_digits 256 w v))
    (ap (λ (l : List ℕ). v ∷ l) (values_laid rest fs))

-- A part of bytes is bytes.
pub below_take : (n : ℕ) (s : List ℕ) → Below 256 s → Below 256 (take n s)
below_take zero s h i = lit< tt
below_take (suc n) [] h i = lit< tt
below_take (suc n) (x ∷ s) h zero = h 0
below_take (suc n) (x ∷ s) h (suc i) = below_take n s (λ j. h (suc j)) i

pub below_drop : (n : ℕ) (s : List ℕ) → Below 256 s → Below 256 (drop n s)
below_drop n s h i = rw get_or-drop (h (n + i))

pub below_set : (s : List ℕ) (i x : ℕ) → Below 256 s → x < 256 → Below 256 (set s i x)
below_set [] i x h p j = lit< tt
below_set (y ∷ s) zero x h p zero = p
below_set (y ∷ s) zero x h p (suc j) = h (suc j)
below_set (y ∷ s) (suc i) x h p zero = h 0
below_set (y ∷ s) (suc i) x h p (suc j) = below_set s i x (λ k. h (suc k)) p j

pub zeros_below : (n : ℕ) → Below 256 (replicate n 0)
zeros_below zero i = lit< tt
zeros_below (suc n) zero = lit< tt
zeros_below (suc n) (suc i) = zeros_below n i

-- The bytes of a field's value are the field's bytes.
pub field_value : (w : ℕ) (s : List ℕ) → w ≤ length s → Below 256 s → field w (value_of (take w s)) ≡ take w s
field_value w s h b =
    ap (λ (k : ℕ). field k (value_of (take w s))) (sym (length-take-le w s h)) ∙ digits_number 256 (take w s) (lit< tt) (below_take w s b)

pub laid_values : (ws s : List ℕ) → size ws ≤ length s → Below 256 s → laid ws (values_in ws s) ≡ take (size ws) s
laid_values [] s h b = refl
laid_values (w ∷ ws) s h b =
    rw (field_value w s (omega arith) b, laid_values ws (drop w s) (rw length-drop (omega arith)) (below_drop w s b), take-add w (size ws) s)

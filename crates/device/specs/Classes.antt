-- Document 01, "Device codes" (000, 4.3.1): a table of 256 entries gives each code its class.
use Rattle.std.specs.Prelude.{ℕ, suc, cond, ◌&&◌, List, [], ◌∷◌, leb}

pub record Range : Type 0 where
  pub first : ℕ
  pub last : ℕ

abbrev pub codes : ℕ → ℕ → Range
codes a b = record { first = a; last = b }

-- Classes 1 to 21, in order.
abbrev pub classes : List Range
classes =
    codes 0 0 ∷
    codes 1 8 ∷
    codes 10 11 ∷
    codes 12 13 ∷
    codes 14 15 ∷
    codes 16 17 ∷
    codes 18 19 ∷
    codes 20 23 ∷
    codes 30 33 ∷
    codes 40 43 ∷
    codes 50 53 ∷
    codes 60 67 ∷
    codes 70 73 ∷
    codes 80 87 ∷
    codes 90 93 ∷
    codes 94 95 ∷
    codes 100 109 ∷
    codes 110 117 ∷
    codes 240 244 ∷
    codes 245 254 ∷
    codes 255 255 ∷
    []

-- The number of the first range that holds the code, counted from k; 0 where none does.
abbrev pub class_from : ℕ → List Range → ℕ → ℕ
class_from k [] code = 0
class_from k (r ∷ rs) code = cond (leb r.first code && leb code r.last) k (class_from (suc k) rs code)

-- The class of a device code. All other codes are class 0.
abbrev pub class_of : ℕ → ℕ
class_of code = class_from 1 classes code

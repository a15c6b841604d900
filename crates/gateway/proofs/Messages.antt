-- A message's data is short.
use Prim.Native.Nat.{ℕ, ◌+◌, ◌<◌}
use native.Mathlib.Nat.{min-le_left}
use native.Mathlib.Omega.{arith}
use mathlib.Core.Bool.{Bool, true, false, cond}
use mathlib.Core.List.{List, [], ◌∷◌}
use lib.Dec.{ltb, eqb}
use lib.ListN.{length, drop, take, length-take}
use Rattle.field.specs.Field.{Below, value_of}
use Rattle.message.specs.Answer.{gives, refused}
use Rattle.message.specs.Format.{Format, size}
use Rattle.message.specs.Reading.{announced, data_by, data_in}
use Rattle.message.proofs.Fields.{below_drop}

two_below : (l : List ℕ) → Below 256 l → value_of (take 2 l) < 65536
two_below [] b = omega arith
two_below (x ∷ []) b = omega (arith, b 0)
two_below (x ∷ y ∷ l) b = omega (arith, b 0, b 1)

data_by_lem : (t u : Bool) (n at : ℕ) (s : List ℕ) → n < 65536 → length (data_by (cond t (refused 9) (cond u (gives n) (refused 10))) at s) < 65536
data_by_lem true u n at s h = omega arith
data_by_lem false true n at s h = rw length-take (omega (arith, min-le_left n (length (drop (at + 2) s))))
data_by_lem false false n at s h = omega arith

-- A message's data is announced in two bytes.
pub data_short : (f : Format) (s : List ℕ) → Below 256 s → length (data_in f s) < 65536
data_short f s b =
    let at = size f.before in
    let least = at + 2 + size f.after in
    data_by_lem (ltb (length s) least) (eqb (length s) (least + announced at s)) (announced at s) at s (two_below (drop at s) (below_drop at s b))

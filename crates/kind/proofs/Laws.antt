-- The kinds of unit: what follows from the definitions that differ between them.
use Prim.Native.Nat.{ℕ, ◌≤◌}
use mathlib.Core.Path.{◌≡◌, refl}
use mathlib.Core.Bool.{Bool, true, false, ◌||◌}
use borrow.Author.Tests.{le-ltb, ltb-false}
use lib.Dec.{ltb, lit≤}
use Rattle.kind.specs.Kinds.{lent_to, is_short}
use Rattle.kind.specs.declared.Kind.{Kind}
use Rattle.kind.specs.declared.Kind.TheVariants.{Serial, Video}

neither : (a b : Bool) → (a || b) ≡ false → (a ≡ false) × (b ≡ false)
neither false b e = (refl, e)
neither true b e = (e, cc)

-- Memory that is long enough has room for a command, and for what is written to the unit.
pub roomy : (kind : Kind) (room lent : ℕ) → is_short kind room lent ≡ false → 256 ≤ room
roomy kind room lent e = ltb-false room 256 (neither (ltb room 256) _ e).0

pub lent_enough : (kind : Kind) (room lent : ℕ) → is_short kind room lent ≡ false → lent_to kind ≤ lent
lent_enough kind room lent e = ltb-false lent (lent_to kind) (neither (ltb room 256) _ e).1

pub not_short : (kind : Kind) (room lent : ℕ) → 256 ≤ room → lent_to kind ≤ lent → is_short kind room lent ≡ false
not_short kind room lent h k = rw (le-ltb room 256 h, le-ltb lent (lent_to kind) k)

-- What a bus lends is enough for every kind.
pub lent_most : (kind : Kind) → lent_to kind ≤ 1920
lent_most Serial = lit≤ tt
lent_most Video = lit≤ tt

-- The place of a byte says which byte of the message it is; so does the nibble there.
use Prim.Native.Nat.{ℕ, ◌-◌, ◌/◌}
use mathlib.Core.Path.{◌≡◌, refl, sym, ◌∙◌, ap}
use mathlib.Core.Bool.{Bool, true, false, cond}
use mathlib.Core.List.{List, [], ◌++◌, append-nil}
use lib.Dec.{ltb}
use lib.ListN.{length, get_or}
use Rattle.field.specs.Field.{nibble_of}
use Rattle.field.proofs.Laws.{nibble-at}
use Rattle.place.specs.Place.{place_in, byte_at}
use Rattle.message.specs.Nibbles.{nibble_in}
use Rattle.place.specs.declared.Place.{Place}
use Rattle.message.proofs.Lists.{get_or_split}

byte_of_cond : (ds : List ℕ) (t : Bool) (p q : Place) → byte_at ds (cond t p q) ≡ cond t (byte_at ds p) (byte_at ds q)
byte_of_cond ds true p q = refl
byte_of_cond ds false p q = refl

pub byte_at-place : (head d end : List ℕ) (i : ℕ) → get_or (head ++ (d ++ end)) i 255 ≡ byte_at d (place_in head (length d) end i)
byte_at-place head d end i =
    let j = i - length head in
    let k = j - length d in
    let last : get_or end k 255 ≡ cond (ltb k (length end)) (get_or end k 0) 255 =
    ap (λ (l : List ℕ). get_or l k 255) (sym (append-nil end)) ∙ get_or_split end [] k 255 0 in
    get_or_split head (d ++ end) i 255 0
    ∙ ap (cond (ltb i (length head)) (get_or head i 0)) (get_or_split d end j 255 255 ∙ ap (cond (ltb j (length d)) (get_or d j 255)) last)
    ∙ sym (simp byte_of_cond)

-- Nibble i of a message is that of the byte at place i / 2.
pub nibble-at-place : (head d end : List ℕ) (i : ℕ) → nibble_in (head ++ (d ++ end)) i ≡ nibble_of (byte_at d (place_in head (length d) end (i / 2))) i
nibble-at-place head d end i = nibble-at (head ++ (d ++ end)) i ∙ ap (λ (b : ℕ). nibble_of b i) (byte_at-place head d end (i / 2))

-- Where a unit stands in the ring behind each thing that can be done to the ring.
use Prim.Native.Nat.{ℕ, suc, ◌+◌, ◌<◌, ◌≤◌}
use native.Mathlib.Omega.{arith}
use mathlib.Core.Path.{◌≡◌, refl, ◌∙◌, ap}
use mathlib.Core.Bool.{Bool, true, false, cond, true≢false}
use mathlib.Core.List.{List, [], ◌∷◌, ◌++◌}
use borrow.Author.Tests.{eqb-true}
use lib.Dec.{eqb}
use lib.ListN.{length, length-append}
use Rattle.ring.specs.Ring.{entry_of, place_of, cut_at, joins, joined, removed, turned, mark_at, with_mark}
use Rattle.ring.specs.declared.Entry.{Entry}
use Rattle.ring.proofs.Laws.{marked_length}

-- Found in a list: before its end.
abbrev pub Found : ℕ → List Entry → Type 0
Found own l = place_of own l < length l

cond_same : (t : Bool) (a b : ℕ) → (t ≡ false → a ≡ b) → cond t 0 (suc a) ≡ cond t 0 (suc b)
cond_same true a b f = refl
cond_same false a b f = ap suc (f refl)

cond_below : (t : Bool) (a b : ℕ) → (t ≡ false → a ≤ b) → cond t 0 (suc a) ≤ cond t 0 (suc b)
cond_below true a b f = omega arith
cond_below false a b f = let h = f refl in omega arith

cond-found : (t : Bool) (a n : ℕ) → (t ≡ false → a < n) → cond t 0 (suc a) < suc n
cond-found true a n f = omega arith
cond-found false a n f = let h = f refl in omega arith

found-further : (t : Bool) (a n : ℕ) → cond t 0 (suc a) < suc n → t ≡ false → a < n
found-further true a n h e = absurd (true≢false e)
found-further false a n h e = omega arith

-- More entries behind.
pub place-append : (own : ℕ) (l r : List Entry) → Found own l → place_of own (l ++ r) ≡ place_of own l
place-append own [] r h = absurd (omega arith)
place-append own (e ∷ es) r h =
    cond_same (eqb e.code own) (place_of own (es ++ r)) (place_of own es) (λ f. place-append own es r (found-further (eqb e.code own) (place_of own es) (length es) h f))

pub found-append : (own : ℕ) (l r : List Entry) → Found own l → Found own (l ++ r)
found-append own l r h = let e = place-append own l r h in let n : length (l ++ r) ≡ length l + length r = length-append l r in omega arith

-- Another unit is removed.
module _ (own code : ℕ) (other : eqb code own ≡ false) where
  same_code : (e : Entry) → eqb e.code code ≡ true → eqb e.code own ≡ false
  same_code e h = ap (λ (x : ℕ). eqb x own) (eqb-true e.code code h) ∙ other

  pub place-removed : (l : List Entry) → Found own l → (place_of own (removed code l) ≤ place_of own l) × Found own (removed code l)
  place-removed [] h = absurd (omega arith)
  place-removed (e ∷ es) h = by (eqb e.code code) refl (λ f. place-removed es (found-further (eqb e.code own) (place_of own es) (length es) h f))
    where
      by : (t : Bool) → eqb e.code code ≡ t → (eqb e.code own ≡ false → (place_of own (removed code es) ≤ place_of own es) × Found own (removed code es))
          → (place_of own (cut_at (cond t 0 (suc (place_of code es))) (e ∷ es)) ≤ cond (eqb e.code own) 0 (suc (place_of own es))) × Found own (cut_at (cond t 0 (suc (place_of code es))) (e ∷ es))
      by true g next =
          let f : eqb e.code own ≡ false = same_code e g in
          let p : cond (eqb e.code own) 0 (suc (place_of own es)) ≡ suc (place_of own es) = ap (λ (t : Bool). cond t 0 (suc (place_of own es))) f in
          (omega arith, omega arith)
      by false g next = (
        cond_below (eqb e.code own) (place_of own (removed code es)) (place_of own es) (λ f. (next f).0),
        cond-found (eqb e.code own) (place_of own (removed code es)) (length (removed code es)) (λ f. (next f).1),
      )

-- A mark is set or cleared.
pub place_marked : (own code : ℕ) (m : Bool) (l : List Entry) → place_of own (with_mark m code l) ≡ place_of own l
place_marked own code m [] = refl
place_marked own code m (e ∷ es) = by (eqb e.code code) refl (place_marked own code m es)
  where
    by : (t : Bool) → eqb e.code code ≡ t → place_of own (with_mark m code es) ≡ place_of own es → place_of own (mark_at m (cond t 0 (suc (place_of code es))) (e ∷ es)) ≡ cond (eqb e.code own) 0 (suc (place_of own es))
    by true g next = refl
    by false g next = ap (λ (n : ℕ). cond (eqb e.code own) 0 (suc n)) next

pub found_marked : (own code : ℕ) (m : Bool) (l : List Entry) → Found own l → Found own (with_mark m code l)
found_marked own code m l h =
    let p = place_marked own code m l in
    let n : length (with_mark m code l) ≡ length l = marked_length m code l in
    omega arith

-- Somebody joins, or does not.
pub place-joined : (own code : ℕ) (l : List Entry) → Found own l → (place_of own (joined code l) ≡ place_of own l) × Found own (joined code l)
place-joined own code l h = by (joins code l)
  where
    by : (t : Bool) → (place_of own (cond t (l ++ (entry_of code false ∷ [])) l) ≡ place_of own l) × Found own (cond t (l ++ (entry_of code false ∷ [])) l)
    by true = (place-append own l (entry_of code false ∷ []) h, found-append own l (entry_of code false ∷ []) h)
    by false = (refl, h)

-- The front moves to the back, and is not this unit.
pub place-turned : (own p : ℕ) (l : List Entry) → Found own l → place_of own l ≡ suc p → (place_of own (turned l) ≡ p) × Found own (turned l)
place-turned own p [] h e = absurd (omega arith)
place-turned own p (x ∷ xs) h e = by (eqb x.code own) refl
  where
    by : (t : Bool) → eqb x.code own ≡ t → (place_of own (turned (x ∷ xs)) ≡ p) × Found own (turned (x ∷ xs))
    by true g = let z : cond (eqb x.code own) 0 (suc (place_of own xs)) ≡ 0 = ap (λ (t : Bool). cond t 0 (suc (place_of own xs))) g in absurd (omega arith)
    by false g =
        let z : cond (eqb x.code own) 0 (suc (place_of own xs)) ≡ suc (place_of own xs) = ap (λ (t : Bool). cond t 0 (suc (place_of own xs))) g in
        let f : place_of own xs < length xs = omega arith in
        let a = place-append own xs (x ∷ []) f in
        (omega arith, found-append own xs (x ∷ []) f)

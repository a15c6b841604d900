-- The ring's operations on the list of its entries, and that list in sixteen slots.
use Prim.Native.Nat.{ℕ, zero, suc, ◌+◌, ◌-◌, ◌≤◌, ◌<◌, min}
use native.Mathlib.Nat.{zero-add}
use native.Mathlib.Omega.{arith}
use mathlib.Core.Logic.{◌≢◌}
use mathlib.Core.Path.{◌≡◌, refl, sym, ◌∙◌, ap, ap₂, subst}
use mathlib.Core.Bool.{Bool, true, false, cond}
use mathlib.Core.List.{List, [], ◌∷◌, ◌++◌, map}
use borrow.Author.Tests.{lt-ltb, le-ltb, eq-eqb, ne_eqb}
use lib.Dec.{eqb}
use lib.ListN.{length, take, drop, get_or, set, length-take, length-append, length-set, length-map, get_or-append, get_or-eq_default, drop_of_length-le}
use lib.Seq.{get_or-take, get_or_at, get_or-set_same, get_or-set_other, drop-cons, drop-length}
use Rattle.ring.specs.Ring.{entry_of, none, counted, live, slots_from, ring_of, place_of, is_in, cut_at, joined, turned, with_mark}
use Rattle.ring.specs.declared.Entry.{Entry}
use Rattle.ring.specs.declared.Ring.{Ring}

-- An array's length, as its ownership tells it.
pub mapped_length : {A B : Type 0} (f : A → B) (l : List A) {n : ℕ} → length (map f l) ≡ n → length l ≡ n
mapped_length f l e = sym (length-map l f) ∙ e

-- The entries at the front of an array of sixteen.
pub front_length : {A : Type 0} (l : List A) (n : ℕ) → length l ≡ 16 → length (take (min n 16) l) ≡ min n 16
front_length l n h =
    let e : length (take (min n 16) l) ≡ min (min n 16) (length l) = length-take (min n 16) l in
    e ∙ rw h (omega arith)

pub length-live : (r : Ring) → length r.entries ≡ 16 → length (live r) ≡ counted r
length-live r h = front_length r.entries r.count h

pub live_below : (r : Ring) → length (live r) ≤ 16
live_below r = rw (length-take (counted r) r.entries) (omega arith)

pub live-within : (r : Ring) → length (live r) ≤ counted r
live-within r = rw (length-take (counted r) r.entries) (omega arith)

-- An entry, and what stands past the last.
pub entry_live : (r : Ring) (i : ℕ) → i < counted r → get_or r.entries i none ≡ get_or (live r) i none
entry_live r i h = sym (get_or-take (counted r) r.entries i none h)

pub past_live : (r : Ring) (i : ℕ) → length r.entries ≡ 16 → counted r ≤ i → none ≡ get_or (live r) i none
past_live r i e h = sym (get_or-eq_default (live r) none (subst (λ (k : ℕ). k ≤ i) (sym (length-live r e)) h))

-- Cutting.
pub length_cut : (i : ℕ) (l : List Entry) → i < length l → length (cut_at i l) ≡ length l - 1
length_cut i [] h = absurd (omega arith)
length_cut zero (e ∷ es) h = omega arith
length_cut (suc i) (e ∷ es) h = let below : i < length es = omega arith in rw (length_cut i es below) (omega arith)

pub cut_past : (i : ℕ) (l : List Entry) → length l ≤ i → cut_at i l ≡ l
cut_past i [] h = refl
cut_past zero (e ∷ es) h = absurd (omega arith)
cut_past (suc i) (e ∷ es) h = ap (λ (r : List Entry). e ∷ r) (cut_past i es (omega arith))

pub get_or-cut-before : (at i : ℕ) (l : List Entry) → i < at → get_or (cut_at at l) i none ≡ get_or l i none
get_or-cut-before at i [] h = refl
get_or-cut-before zero i (e ∷ es) h = absurd (omega arith)
get_or-cut-before (suc at) zero (e ∷ es) h = refl
get_or-cut-before (suc at) (suc i) (e ∷ es) h = get_or-cut-before at i es (omega arith)

pub get_or-cut-after : (at i : ℕ) (l : List Entry) → at ≤ i → get_or (cut_at at l) i none ≡ get_or l (suc i) none
get_or-cut-after at i [] h = refl
get_or-cut-after zero i (e ∷ es) h = refl
get_or-cut-after (suc at) zero (e ∷ es) h = absurd (omega arith)
get_or-cut-after (suc at) (suc i) (e ∷ es) h = get_or-cut-after at i es (omega arith)

pub count_cut : (r : Ring) (at n : ℕ) → length r.entries ≡ 16 → n ≡ counted r → at < n → n - 1 ≡ length (cut_at at (live r))
count_cut r at n full e h =
    let long : length (live r) ≡ n = length-live r full ∙ sym e in
    let within : at < length (live r) = omega arith in
    rw (length_cut at (live r) within, long)

pub count_past : (r : Ring) (at n : ℕ) → length r.entries ≡ 16 → n ≡ counted r → n ≤ at → n ≡ length (cut_at at (live r))
count_past r at n full e h =
    let long : length (live r) ≡ n = length-live r full ∙ sym e in
    rw (cut_past at (live r) (omega arith)) (sym long)

pub none-after-cut : (r : Ring) (at i : ℕ) → at ≤ i → 16 ≤ i → none ≡ get_or (cut_at at (live r)) i none
none-after-cut r at i h k =
    let below : length (live r) ≤ 16 = live_below r in
    let past : length (live r) ≤ suc i = omega arith in
    sym (get_or-cut-after at i (live r) h ∙ get_or-eq_default (live r) none past)

-- An entry at the back.
pub back_before : (l : List Entry) (e : Entry) (i : ℕ) → i < length l → get_or l i none ≡ get_or (l ++ (e ∷ [])) i none
back_before l e i h = sym (get_or-append l (e ∷ []) none i h)

pub back_at : (l : List Entry) (e : Entry) (i : ℕ) → i ≡ length l → e ≡ get_or (l ++ (e ∷ [])) i none
back_at l e i p = sym (get_or_at l e [] none i (sym p))

pub back_past : (l : List Entry) (e : Entry) (i : ℕ) → length l < i → none ≡ get_or (l ++ (e ∷ [])) i none
back_past l e i h =
    let long : length (l ++ (e ∷ [])) ≡ length l + 1 = length-append l (e ∷ []) in
    let past : length (l ++ (e ∷ [])) ≤ i = omega arith in
    sym (get_or-eq_default (l ++ (e ∷ [])) none past)

-- Slots.
pub slots_same : (k i : ℕ) (l m : List Entry) → ((j : ℕ) → get_or l j none ≡ get_or m j none) → slots_from k i l ≡ slots_from k i m
slots_same zero i l m p = refl
slots_same (suc k) i l m p = ap₂ (λ (e : Entry) (r : List Entry). e ∷ r) (p i) (slots_same k (suc i) l m p)

pub get_or-none : (l : List Entry) (i : ℕ) → get_or (l ++ (none ∷ [])) i none ≡ get_or l i none
get_or-none [] zero = refl
get_or-none [] (suc i) = refl
get_or-none (e ∷ es) zero = refl
get_or-none (e ∷ es) (suc i) = get_or-none es i

slots_after : (k i j : ℕ) (l : List Entry) (e : Entry) → j < i → slots_from k i (set l j e) ≡ slots_from k i l
slots_after zero i j l e h = refl
slots_after (suc k) i j l e h =
    let apart : i ≢ j = omega arith in
    ap₂ (λ (x : Entry) (r : List Entry). x ∷ r) (get_or-set_other l j i e none apart) (slots_after k (suc i) j l e (omega arith))

pub slots_set : (k i at j : ℕ) (l : List Entry) (e : Entry) → j ≡ i + at → j < length l → set (slots_from k i l) at e ≡ slots_from k i (set l j e)
slots_set zero i at j l e p h = refl
slots_set (suc k) i zero j l e p h =
    let same : i ≡ j = omega arith in
    rw same (ap₂ (λ (x : Entry) (r : List Entry). x ∷ r) (sym (get_or-set_same l j e none h)) (sym (slots_after k (suc j) j l e (omega arith))))
slots_set (suc k) i (suc at) j l e p h =
    let apart : i ≢ j = omega arith in
    let next : j ≡ suc i + at = omega arith in
    ap₂ (λ (x : Entry) (r : List Entry). x ∷ r) (sym (get_or-set_other l j i e none apart)) (slots_set k (suc i) at j l e next h)

-- One entry is changed.
pub put_in : (l : List Entry) (q : Ring) (at : ℕ) (e : Entry) → q ≡ ring_of l → at < length l
    → record { entries = set q.entries at e; count = q.count } ≡ ring_of (set l at e)
put_in l q at e p h =
    λ i.
    record {
      entries = (ap (λ (x : Ring). set x.entries at e) p ∙ slots_set 16 0 at at l e (sym (zero-add at)) h) i;
      count = (ap (λ (x : Ring). x.count) p ∙ sym (length-set l at e)) i;
    }

-- A mark takes no entry away.
pub marked_length : (marked : Bool) (code : ℕ) (l : List Entry) → length (with_mark marked code l) ≡ length l
marked_length marked code l = length-set l (place_of code l) _

-- The front moves to the back.
pub turned_empty : (l : List Entry) → length l ≤ 0 → cut_at 0 l ≡ turned l
turned_empty [] h = refl
turned_empty (e ∷ es) h = absurd (omega arith)

pub turned_some : (l : List Entry) → 0 < length l → cut_at 0 l ++ (get_or l 0 none ∷ []) ≡ turned l
turned_some [] h = absurd (omega arith)
turned_some (e ∷ es) h = refl

take_slots : (k : ℕ) (i : ℕ) (l : List Entry) (n : ℕ) → n ≤ k → i + n ≡ length l → take n (slots_from k i l) ≡ drop i l
take_slots k i l zero h e = let end : i ≡ length l = omega arith in rw end (sym (drop-length l))
take_slots zero i l (suc n) h e = absurd (omega arith)
take_slots (suc k) i l (suc n) h e =
    let below : i < length l = omega arith in
    let next : suc i + n ≡ length l = omega arith in
    let more : n ≤ k = omega arith in
    ap (λ (r : List Entry). get_or l i none ∷ r) (take_slots k (suc i) l n more next) ∙ sym (drop-cons l i none below)

-- The entries of the ring of a list.
pub live_ring : (l : List Entry) → length l ≤ 16 → live (ring_of l) ≡ l
live_ring l h =
    let n : min (length l) 16 ≡ length l = omega arith in
    ap (λ (k : ℕ). take k (slots_from 16 0 l)) n ∙ take_slots 16 0 l (length l) h (zero-add (length l))

-- Where a code is found.
within : (b : Bool) (n m : ℕ) → n ≤ m → cond b 0 (suc n) ≤ suc m
within true n m h = omega arith
within false n m h = omega arith

pub place_below : (code : ℕ) (l : List Entry) → place_of code l ≤ length l
place_below code [] = omega arith
place_below code (e ∷ es) = within (eqb e.code code) (place_of code es) (length es) (place_below code es)

pub place_found : (code i : ℕ) (l : List Entry) → i < length l → (get_or l i none).code ≡ code → place_of code (drop i l) ≡ 0
place_found code i l h e = rw (drop-cons l i none h) (simp (eq-eqb _ _ e))

pub place-next : (code i : ℕ) (l : List Entry) → i < length l → (get_or l i none).code ≢ code → place_of code (drop i l) ≡ suc (place_of code (drop (suc i) l))
place-next code i l h e = rw (drop-cons l i none h) (simp (ne_eqb _ _ e))

pub place_end : (code i : ℕ) (l : List Entry) → length l ≤ i → place_of code (drop i l) ≡ 0
place_end code i l h = rw (drop_of_length-le l h)

-- Who joins, and who doesn't.
module _ (code : ℕ) (l : List Entry) where
  pub out-all : eqb code 0 ≡ true → joined code l ≡ l
  out-all p = rw p

  pub out-in : eqb code 0 ≡ false → is_in code l ≡ true → joined code l ≡ l
  out-in p q = rw (p, q)

  pub out-full : eqb code 0 ≡ false → is_in code l ≡ false → 16 ≤ length l → joined code l ≡ l
  out-full p q h = rw (p, q, le-ltb _ _ h)

  pub joins-back : eqb code 0 ≡ false → is_in code l ≡ false → length l < 16 → joined code l ≡ l ++ (entry_of code false ∷ [])
  joins-back p q h = rw (p, q, lt-ltb _ _ h)

-- The units of a bus, one after the other: what their pulls leave, and their round in their memory.
use Prim.Native.Nat.{ℕ, suc, ◌+◌, ◌-◌, ◌*◌, ◌/◌, ◌≤◌, ◌<◌}
use native.Mathlib.Omega.{arith}
use mathlib.Core.Path.{◌≡◌, sym, ◌∙◌, ap, ap₂}
use mathlib.Core.Bool.{Bool}
use mathlib.Core.List.{List, [], ◌∷◌, ◌++◌, append_assoc, append-nil}
use borrow.Rule.Slice.PartMut.{mid_of, put_mid, drop_put, mid_len}
use lib.ListN.{length, take, drop, get_or, set, length-append, length-drop, drop_of_length-le}
use lib.Seq.{drop-cons, drop-drop, drop_at, drop-set-lt, take-add, take_at, take-length, take-take, take-suc-set, length-take-le, append_snoc}
use Rattle.line.specs.declared.Lines.{Lines}
use Rattle.unit.specs.Calls.{stepping, buffer_after, output_after}
use Rattle.unit.specs.declared.Unit.{Unit}
use Rattle.bus.specs.Bus.{unit_after, station_step, station_at, stations_of, units_in, bytes_of, memory_of, is_odd, units_after}
use Rattle.bus.specs.declared.Station.{Station}

-- A unit's part of the memory is all that it sees of it.
drop-take : (n k : ℕ) (l : List ℕ) → n ≤ length l → drop n (take (n + k) l) ≡ take k (drop n l)
drop-take n k l h = ap (drop n) (take-add n k l) ∙ drop_at (take n l) (take k (drop n l)) n (length-take-le n l h)

part_alone : (u : Unit) (m : List ℕ) → 2432 ≤ length m → station_at u (take 2432 m) ≡ station_at u m
part_alone u m h = λ k. record {
  unit = u;
  buffer = take-take 256 2432 m (omega arith) k;
  input = (ap (take 256) (drop-take 256 2176 m (omega arith)) ∙ take-take 256 2176 (drop 256 m) (omega arith)) k;
  output = (ap (take 1920) (drop-take 512 1920 m (omega arith)) ∙ take-take 1920 1920 (drop 512 m) (omega arith)) k;
}

-- What the units from place i on, of n, come to, with their memory from `at` on; and the whole array and the whole memory: those that
-- have stepped, those that are to step, and what is behind them.
abbrev pub to_step : Lines → ℕ → ℕ → ℕ → ℕ → List Unit → List ℕ → List Station
to_step seen busy n i at us m = units_after seen busy (stations_of (take (n - i) (drop i us)) (drop at m))

abbrev pub whole_units : Lines → ℕ → ℕ → ℕ → ℕ → List Unit → List ℕ → List Unit
whole_units seen busy n i at us m = take i us ++ (units_in (to_step seen busy n i at us m) ++ drop n us)

abbrev pub whole_memory : Lines → ℕ → ℕ → ℕ → ℕ → List Unit → List ℕ → List ℕ
whole_memory seen busy n i at us m = take at m ++ (memory_of (to_step seen busy n i at us m) ++ drop (2432 * n) m)

module _ (seen : Lines) (busy n i at : ℕ) (us : List Unit) (m : List ℕ) (d : Unit) (below : i < n) (enough : n ≤ length us) (place : at ≡ 2432 * i) (room : 2432 * n ≤ length m) where
  -- What the unit at place i becomes.
  abbrev pub next : Station
  next = station_step (station_at (get_or us i d) (mid_of at (at + 2432 - at) m)) seen (is_odd busy)

  next-steps : to_step seen busy n i at us m ≡ next ∷ to_step seen (busy / 2) n (suc i) (at + 2432) us m
  next-steps =
      let one : n - i ≡ suc (n - suc i) = omega arith in
      let k : at + 2432 - at ≡ 2432 = omega arith in
      let u = get_or us i d in
      let l : length (drop at m) ≡ length m - at = length-drop at m in
      let its : station_at u (drop at m) ≡ station_at u (mid_of at (at + 2432 - at) m) =
      sym (ap (λ (j : ℕ). station_at u (take j (drop at m))) k ∙ part_alone u (drop at m) (omega arith)) in
      ap (λ (j : ℕ). units_after seen busy (stations_of (take j (drop i us)) (drop at m))) one
      ∙ ap (λ (r : List Unit). units_after seen busy (stations_of (take (suc (n - suc i)) r) (drop at m))) (drop-cons us i d (omega arith))
      ∙ ap₂ (λ (s : Station) (r : List ℕ). station_step s seen (is_odd busy) ∷ units_after seen (busy / 2) (stations_of (take (n - suc i) (drop (suc i) us)) r)) its (drop-drop 2432 at m)

  -- With it in its place, and its bytes in theirs, those behind it are left.
  module _ (v : Unit) (ys : List ℕ) (its : v ≡ next.unit) (bytes : ys ≡ bytes_of next) (full : length ys ≡ length (mid_of at (at + 2432 - at) m)) where
    abbrev units' : List Unit
    units' = set us i v

    abbrev memory' : List ℕ
    memory' = put_mid at (at + 2432 - at) m ys

    long : length ys ≡ 2432
    long = full ∙ mid_len at (at + 2432) m (omega arith) ∙ omega arith

    behind : (j : ℕ) → at + 2432 ≤ j → drop j memory' ≡ drop j m
    behind j h =
        let at_j : at + 2432 + (j - (at + 2432)) ≡ j = omega arith in
        let rest = drop_put at (at + 2432) m ys (omega arith) (omega arith) (long ∙ omega arith) in
        ap (λ (x : ℕ). drop x memory') (sym at_j) ∙ sym (drop-drop (j - (at + 2432)) (at + 2432) memory') ∙ ap (drop (j - (at + 2432))) rest ∙ drop-drop (j - (at + 2432)) (at + 2432) m ∙ ap (λ (x : ℕ). drop x m) at_j

    same-steps : to_step seen (busy / 2) n (suc i) (at + 2432) units' memory' ≡ to_step seen (busy / 2) n (suc i) (at + 2432) us m
    same-steps = ap₂ (λ (r : List Unit) (x : List ℕ). units_after seen (busy / 2) (stations_of (take (n - suc i) r) x)) (drop-set-lt (suc i) us i v (omega arith)) (behind (at + 2432) (omega arith))

    pub units-next : whole_units seen busy n i at us m ≡ whole_units seen (busy / 2) n (suc i) (at + 2432) units' memory'
    units-next =
        let more = to_step seen (busy / 2) n (suc i) (at + 2432) us m in
        let front : take (suc i) units' ≡ take i us ++ (v ∷ []) = take-suc-set us i v (omega arith) in
        let unused : drop n units' ≡ drop n us = drop-set-lt n us i v below in
        ap (λ (ss : List Station). take i us ++ (units_in ss ++ drop n us)) next-steps
        ∙ ap (λ (x : Unit). take i us ++ (x ∷ (units_in more ++ drop n us))) (sym its)
        ∙ sym (rw (front, unused, same-steps) (append_snoc (take i us) v (units_in more ++ drop n us)))

    pub memory-next : whole_memory seen busy n i at us m ≡ whole_memory seen (busy / 2) n (suc i) (at + 2432) units' memory'
    memory-next =
        let more = memory_of (to_step seen (busy / 2) n (suc i) (at + 2432) us m) in
        let rest = drop (2432 * n) m in
        let l : length (take at m ++ ys) ≡ at + 2432 = length-append (take at m) ys ∙ ap₂ (λ (a b : ℕ). a + b) (length-take-le at m (omega arith)) long in
        let front : take (at + 2432) memory' ≡ take at m ++ ys =
        ap (take (at + 2432)) (sym (append_assoc (take at m) ys (drop (at + 2432 - at) (drop at m)))) ∙ take_at (take at m ++ ys) (drop (at + 2432 - at) (drop at m)) (at + 2432) l in
        ap (λ (ss : List Station). take at m ++ (memory_of ss ++ rest)) next-steps
        ∙ ap (λ (x : List ℕ). take at m ++ (x ++ more ++ rest)) (sym bytes)
        ∙ ap (λ (x : List ℕ). take at m ++ x) (append_assoc ys more rest)
        ∙ sym (append_assoc (take at m) ys (more ++ rest))
        ∙ sym (λ k. front k ++ (memory_of (same-steps k) ++ behind (2432 * n) (omega arith) k))

-- A unit's memory with what was lent of it put back, and then its command buffer.
put_back : (m b o p q : List ℕ) → length m ≡ 2432 → p ≡ put_mid 512 (length m - 512) m o → q ≡ b ++ drop 256 p
    → q ≡ b ++ (take 256 (drop 256 m) ++ o)
put_back m b o p q hm first second =
    let l : length (drop 512 m) ≡ length m - 512 = length-drop 512 m in
    let past : length (drop 512 m) ≤ length m - 512 = omega arith in
    let none : drop (length m - 512) (drop 512 m) ≡ [] = drop_of_length-le (drop 512 m) past in
    let p-is : p ≡ take 256 m ++ (take 256 (drop 256 m) ++ o) =
    first
    ∙ (λ k. take-add 256 256 m k ++ (o ++ none k))
    ∙ append_assoc (take 256 m) (take 256 (drop 256 m)) (o ++ [])
    ∙ ap (λ (x : List ℕ). take 256 m ++ (take 256 (drop 256 m) ++ x)) (append-nil o) in
    second ∙ ap (λ (x : List ℕ). b ++ x) (ap (drop 256) p-is ∙ drop_at (take 256 m) (take 256 (drop 256 m) ++ o) 256 (length-take-le 256 m (omega arith)))

-- A unit's round in copies b and i of its parts, and in its own memory for what is written to it, which is o' then; b' is put back, and p and
-- q are its memory before and after that.
pub round_in_parts : (u : Unit) (seen : Lines) (busy : Bool) (m b i b' o' p q : List ℕ) {r : Unit} → let o = mid_of 512 (length m - 512) m in
    length m ≡ 2432 → b ≡ take 256 m → i ≡ take 256 (drop 256 m)
    → r ≡ unit_after (stepping u seen busy b i o) u → b' ≡ buffer_after u seen busy b i o → o' ≡ output_after u seen busy b i o
    → p ≡ put_mid 512 (length m - 512) m o' → q ≡ b' ++ drop 256 p
    → (r ≡ (station_step (station_at u m) seen busy).unit) × (q ≡ bytes_of (station_step (station_at u m) seen busy))
round_in_parts u seen busy m b i b' o' p q hm eb ei er eb' eo' ep eq =
    let o = mid_of 512 (length m - 512) m in
    let eo : o ≡ take 1920 (drop 512 m) = ap (λ (k : ℕ). take (k - 512) (drop 512 m)) hm in
    let its : ◌≡◌ {A = Station} (record { unit = u; buffer = b; input = i; output = o }) (station_at u m) = λ k. record { unit = u; buffer = eb k; input = ei k; output = eo k } in
    let b-is : b' ≡ (station_step (station_at u m) seen busy).buffer = eb' ∙ ap (λ (s : Station). (station_step s seen busy).buffer) its in
    let o_is : o' ≡ (station_step (station_at u m) seen busy).output = eo' ∙ ap (λ (s : Station). (station_step s seen busy).output) its in (
      er ∙ ap (λ (s : Station). (station_step s seen busy).unit) its,
      put_back m b' o' p q hm ep eq ∙ (λ k. b-is k ++ (take 256 (drop 256 m) ++ o_is k)),
    )

-- 256 bytes of a slice, copied over an array of as many.
pub copied_whole : (s z out : List ℕ) (from : ℕ) → from + 256 ≤ length s → length z ≡ 256
    → out ≡ take (length (mid_of from (from + 256 - from) s)) (mid_of from (from + 256 - from) s) ++ drop (length (mid_of from (from + 256 - from) s)) z
    → out ≡ take 256 (drop from s)
copied_whole s z out from room full e =
    let part = mid_of from (from + 256 - from) s in
    let k : from + 256 - from ≡ 256 = omega arith in
    let l : length part ≡ 256 = mid_len from (from + 256) s room ∙ k in
    let past : length z ≤ length part = omega arith in
    e ∙ (λ i. take-length part i ++ drop_of_length-le z past i) ∙ append-nil part ∙ ap (λ (j : ℕ). take j (drop from s)) k

-- A round leaves each part of a unit's memory as long as it was, so that units are found again in the memory after it.
use Prim.Native.Nat.{ℕ, zero, suc, ◌+◌, ◌-◌, ◌*◌, ◌/◌, ◌≤◌, ◌<◌}
use native.Mathlib.Omega.{arith}
use mathlib.Core.Path.{◌≡◌, refl, sym, ◌∙◌, ap, ap₂}
use mathlib.Core.Bool.{Bool}
use mathlib.Core.List.{List, [], ◌∷◌, ◌++◌, append_assoc}
use lib.ListN.{length, take, drop, get_or, set, length-append, length-drop}
use lib.Seq.{length-take-le, take_at, take-add, drop_at, drop-drop}
use Rattle.line.specs.declared.Lines.{Lines}
use Rattle.message.specs.Answer.{Answer, gives, refused, kept}
use Rattle.phase.proofs.Lengths.{either, phase_buffer_lem, phase_output_lem}
use Rattle.phase.specs.Phase.{phase_buffer, phase_output}
use Rattle.unit.specs.Calls.{stepping, buffer_after, output_after}
use Rattle.unit.specs.Unit.{unit_buffer, unit_output}
use Rattle.unit.specs.declared.Unit.{Unit}
use Rattle.bus.specs.Bus.{station_step, station_at, stations_of, units_in, bytes_of, memory_of, is_odd, units_after}
use Rattle.bus.specs.declared.Station.{Station}

answered : (a : Answer Unit) (x l : List ℕ) → length x ≡ length l → length (kept a x l) ≡ length l
answered (gives u) x l p = p
answered (refused k) x l p = refl

pub buffer_length : (u : Unit) (seen : Lines) (busy : Bool) (buffer input output : List ℕ) → length (buffer_after u seen busy buffer input output) ≡ length buffer
buffer_length u seen busy buffer input output =
    answered (stepping u seen busy buffer input output) (unit_buffer u seen buffer) buffer
    (either seen.bav (phase_buffer u.phase seen buffer) buffer buffer (phase_buffer_lem u.phase seen buffer) refl)

pub output_length : (u : Unit) (seen : Lines) (busy : Bool) (buffer input output : List ℕ) → length (output_after u seen busy buffer input output) ≡ length output
output_length u seen busy buffer input output =
    answered (stepping u seen busy buffer input output) (unit_output u seen buffer output) output
    (either seen.bav (phase_output u.phase u.own u.serial seen buffer output) output output (phase_output_lem u.phase u.own u.serial seen buffer output) refl)

-- A part of n bytes.
pub part_length : (k n : ℕ) (m : List ℕ) {part : List ℕ} → k + n ≤ length m → part ≡ take n (drop k m) → length part ≡ n
part_length k n m h e =
    let l : length (drop k m) ≡ length m - k = length-drop k m in
    ap length e ∙ length-take-le n (drop k m) (omega arith)

pub bytes_length : (s : Station) → length s.buffer ≡ 256 → length s.input ≡ 256 → length s.output ≡ 1920 → length (bytes_of s) ≡ 2432
bytes_length s b i o = length-append s.buffer (s.input ++ s.output) ∙ ap₂ (λ (x y : ℕ). x + y) b (length-append s.input s.output ∙ ap₂ (λ (x y : ℕ). x + y) i o)

-- Units with their memory are found again in their bytes, whatever stands behind these.
module _ (s : Station) (t : List ℕ) (b : length s.buffer ≡ 256) (i : length s.input ≡ 256) (o : length s.output ≡ 1920) where
  pub station-back : station_at s.unit (bytes_of s ++ t) ≡ s
  station-back =
      let flat : bytes_of s ++ t ≡ s.buffer ++ (s.input ++ (s.output ++ t)) = simp append_assoc in
      let two : length (s.buffer ++ s.input) ≡ 512 = length-append s.buffer s.input ∙ ap₂ (λ (x y : ℕ). x + y) b i in
      ap (station_at s.unit) flat
      ∙ (λ k.
      record {
        unit = s.unit;
        buffer = take_at s.buffer (s.input ++ (s.output ++ t)) 256 b k;
        input = (ap (take 256) (drop_at s.buffer (s.input ++ (s.output ++ t)) 256 b) ∙ take_at s.input (s.output ++ t) 256 i) k;
        output = (ap (λ (x : List ℕ). take 1920 (drop 512 x)) (sym (append_assoc s.buffer s.input (s.output ++ t))) ∙ ap (take 1920) (drop_at (s.buffer ++ s.input) (s.output ++ t) 512 two) ∙ take_at s.output t 1920 o) k;
      })

  pub behind-station : drop 2432 (bytes_of s ++ t) ≡ t
  behind-station = drop_at (bytes_of s) t 2432 (bytes_length s b i o)

pub units_back : (seen : Lines) (busy : ℕ) (us : List Unit) (m rest : List ℕ) → 2432 * length us ≤ length m
    → let after = units_after seen busy (stations_of us m) in stations_of (units_in after) (memory_of after ++ rest) ≡ after
units_back seen busy [] m rest h = refl
units_back seen busy (u ∷ us) m rest h =
    let x = station_step (station_at u m) seen (is_odd busy) in
    let more = units_after seen (busy / 2) (stations_of us (drop 2432 m)) in
    let b : length x.buffer ≡ 256 = buffer_length u seen (is_odd busy) (take 256 m) (take 256 (drop 256 m)) (take 1920 (drop 512 m)) ∙ part_length 0 256 m (omega arith) refl in
    let i : length x.input ≡ 256 = part_length 256 256 m (omega arith) refl in
    let o : length x.output ≡ 1920 = output_length u seen (is_odd busy) (take 256 m) (take 256 (drop 256 m)) (take 1920 (drop 512 m)) ∙ part_length 512 1920 m (omega arith) refl in
    let l : length (drop 2432 m) ≡ length m - 2432 = length-drop 2432 m in
    let t = memory_of more ++ rest in
    ap (λ (r : List ℕ). station_at x.unit r ∷ stations_of (units_in more) (drop 2432 r)) (append_assoc (bytes_of x) (memory_of more) rest)
    ∙ (λ k. station-back x t b i o k ∷ (ap (stations_of (units_in more)) (behind-station x t b i o) ∙ units_back seen (busy / 2) us (drop 2432 m) rest (omega arith)) k)

-- The units alone.
pub units_alone : (us : List Unit) (m : List ℕ) → units_in (stations_of us m) ≡ us
units_alone [] m = refl
units_alone (u ∷ us) m = ap (λ (r : List Unit). u ∷ r) (units_alone us (drop 2432 m))

pub units_length : (seen : Lines) (busy : ℕ) (us : List Unit) (m : List ℕ) → length (units_in (units_after seen busy (stations_of us m))) ≡ length us
units_length seen busy [] m = refl
units_length seen busy (u ∷ us) m = ap suc (units_length seen (busy / 2) us (drop 2432 m))

pub memory_length : (seen : Lines) (busy : ℕ) (us : List Unit) (m : List ℕ) → 2432 * length us ≤ length m → length (memory_of (units_after seen busy (stations_of us m))) ≡ 2432 * length us
memory_length seen busy [] m h = refl
memory_length seen busy (u ∷ us) m h =
    let x = station_step (station_at u m) seen (is_odd busy) in
    let more = memory_of (units_after seen (busy / 2) (stations_of us (drop 2432 m))) in
    let b : length x.buffer ≡ 256 = buffer_length u seen (is_odd busy) (take 256 m) (take 256 (drop 256 m)) (take 1920 (drop 512 m)) ∙ part_length 0 256 m (omega arith) refl in
    let i : length x.input ≡ 256 = part_length 256 256 m (omega arith) refl in
    let o : length x.output ≡ 1920 = output_length u seen (is_odd busy) (take 256 m) (take 256 (drop 256 m)) (take 1920 (drop 512 m)) ∙ part_length 512 1920 m (omega arith) refl in
    let l : length (drop 2432 m) ≡ length m - 2432 = length-drop 2432 m in
    let own : length (bytes_of x) ≡ 2432 = bytes_length x b i o in
    let rest : length more ≡ 2432 * length us = memory_length seen (busy / 2) us (drop 2432 m) (omega arith) in
    let all : length (bytes_of x ++ more) ≡ length (bytes_of x) + length more = length-append (bytes_of x) more in
    omega arith

-- One unit, in its 2432 bytes of the memory; and with another in its place, its bytes in theirs, the others are found as they were.
pub station_at_lem : (i : ℕ) (us : List Unit) (m : List ℕ) (u : Unit) (s : Station) → i < length us → get_or (stations_of us m) i s ≡ station_at (get_or us i u) (drop (2432 * i) m)
station_at_lem i [] m u s h = absurd (omega arith)
station_at_lem zero (v ∷ us) m u s h = refl
station_at_lem (suc i) (v ∷ us) m u s h =
    let next : 2432 + 2432 * i ≡ 2432 * suc i = omega arith in
    station_at_lem i us (drop 2432 m) u s (omega arith) ∙ ap (station_at (get_or us i u)) (drop-drop (2432 * i) 2432 m ∙ ap (λ (k : ℕ). drop k m) next)

own_bytes : (u : Unit) (m : List ℕ) → bytes_of (station_at u m) ≡ take 2432 m
own_bytes u m =
    sym (take-add 256 2176 m ∙ ap (λ (r : List ℕ). take 256 m ++ r) (take-add 256 1920 (drop 256 m) ∙ ap (λ (r : List ℕ). take 256 (drop 256 m) ++ take 1920 r) (drop-drop 256 256 m)))

pub stations_set : (i : ℕ) (us : List Unit) (m : List ℕ) (s : Station) → length s.buffer ≡ 256 → length s.input ≡ 256 → length s.output ≡ 1920 → i < length us → 2432 * length us ≤ length m
    → stations_of (set us i s.unit) (take (2432 * i) m ++ (bytes_of s ++ drop (2432 * i + 2432) m)) ≡ set (stations_of us m) i s
stations_set i [] m s b n o h room = absurd (omega arith)
stations_set zero (u ∷ us) m s b n o h room = λ k. station-back s (drop 2432 m) b n o k ∷ stations_of us (behind-station s (drop 2432 m) b n o k)
stations_set (suc i) (u ∷ us) m s b n o h room =
    let l : length (drop 2432 m) ≡ length m - 2432 = length-drop 2432 m in
    let t = take (2432 * i) (drop 2432 m) ++ (bytes_of s ++ drop (2432 * i + 2432) (drop 2432 m)) in
    let next : 2432 * suc i ≡ 2432 + 2432 * i = omega arith in
    let past : 2432 + (2432 * i + 2432) ≡ 2432 * suc i + 2432 = omega arith in
    let front : take (2432 * suc i) m ≡ take 2432 m ++ take (2432 * i) (drop 2432 m) = ap (λ (k : ℕ). take k m) next ∙ take-add 2432 (2432 * i) m in
    let back : drop (2432 * suc i + 2432) m ≡ drop (2432 * i + 2432) (drop 2432 m) = sym (drop-drop (2432 * i + 2432) 2432 m ∙ ap (λ (k : ℕ). drop k m) past) in
    let x = station_at u m in
    let xb : length x.buffer ≡ 256 = part_length 0 256 m (omega arith) refl in
    let xi : length x.input ≡ 256 = part_length 256 256 m (omega arith) refl in
    let xo : length x.output ≡ 1920 = part_length 512 1920 m (omega arith) refl in
    let whole : take (2432 * suc i) m ++ (bytes_of s ++ drop (2432 * suc i + 2432) m) ≡ bytes_of x ++ t =
    (λ k. front k ++ (bytes_of s ++ back k)) ∙ append_assoc (take 2432 m) (take (2432 * i) (drop 2432 m)) (bytes_of s ++ drop (2432 * i + 2432) (drop 2432 m)) ∙ ap (λ (r : List ℕ). r ++ t) (sym (own_bytes u m)) in
    ap (λ (r : List ℕ). station_at u r ∷ stations_of (set us i s.unit) (drop 2432 r)) whole
    ∙ (λ k. station-back x t xb xi xo k ∷ (ap (stations_of (set us i s.unit)) (behind-station x t xb xi xo) ∙ stations_set i us (drop 2432 m) s b n o (omega arith) (omega arith)) k)

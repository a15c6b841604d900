-- What a list of units leaves on the lines.
use Prim.Native.Nat.{ℕ, ◌+◌, ◌*◌, ◌/◌, ◌%◌, ◌<◌, min}
use native.Mathlib.Nat.{min-eq_left, min_comm, le_of_suc-le-suc, mod-lt}
use mathlib.Core.Path.{◌≡◌, refl, ◌∙◌, ap}
use mathlib.Core.Bool.{Bool, true, false, ◌||◌}
use mathlib.Core.List.{List, [], ◌∷◌}
use lib.Dec.{lit<}
use Rattle.bus.specs.Bus.{levels_with}
use Rattle.bus.specs.declared.Station.{Station}
use Rattle.field.proofs.Laws.{number_digits}
use Rattle.line.specs.Line.{wired, wired_nibble}
use Rattle.line.specs.declared.Lines.{Lines}
use Rattle.unit.specs.Unit.{pulls_of, pulls_hsk, pulls_nibble}
use Rattle.delivery.specs.Lists.{All, none, also}

-- Released data lines change nothing.
bit : (x : ℕ) → min (x % 2) 1 ≡ x % 2
bit x = min-eq_left (le_of_suc-le-suc (mod-lt x (lit< tt)))

bit' : (x : ℕ) → min 1 (x % 2) ≡ x % 2
bit' x = min_comm 1 (x % 2) ∙ bit x

pub wired_free : (a : ℕ) → a < 16 → wired_nibble a 15 ≡ a
wired_free a h =
    (λ i. bit a i + 2 * (bit (a / 2) i + 2 * (bit (a / 2 / 2) i + 2 * (bit (a / 2 / 2 / 2) i + 2 * 0))))
    ∙ number_digits 2 4 a (lit< tt) h

pub free_wired : (a : ℕ) → a < 16 → wired_nibble 15 a ≡ a
free_wired a h =
    (λ i. bit' a i + 2 * (bit' (a / 2) i + 2 * (bit' (a / 2 / 2) i + 2 * (bit' (a / 2 / 2 / 2) i + 2 * 0))))
    ∙ number_digits 2 4 a (lit< tt) h

or_true : (a : Bool) → (a || true) ≡ true
or_true true = refl
or_true false = refl

-- HSK and BAV: low if one pulls.
pub hsk_kept : (l : Lines) (ss : List Station) → l.hsk ≡ true → (levels_with l ss).hsk ≡ true
hsk_kept l [] e = e
hsk_kept l (s ∷ ss) e = hsk_kept (wired l (pulls_of s.unit)) ss (ap (λ (b : Bool). b || pulls_hsk s.unit.phase) e)

pub bav_kept : (l : Lines) (ss : List Station) → l.bav ≡ true → (levels_with l ss).bav ≡ true
bav_kept l [] e = e
bav_kept l (s ∷ ss) e = bav_kept (wired l (pulls_of s.unit)) ss (ap (λ (b : Bool). b || s.unit.asking) e)

pub hsk_high_lem : (l : Lines) {ss : List Station} → l.hsk ≡ false → All (λ (s : Station). pulls_hsk s.unit.phase ≡ false) ss → (levels_with l ss).hsk ≡ false
hsk_high_lem l e none = e
hsk_high_lem l e (also {x = s} p a) = hsk_high_lem (wired l (pulls_of s.unit)) (rw (e, p)) a

pub bav_high : (l : Lines) {ss : List Station} → l.bav ≡ false → All (λ (s : Station). s.unit.asking ≡ false) ss → (levels_with l ss).bav ≡ false
bav_high l e none = e
bav_high l e (also {x = s} p a) = bav_high (wired l (pulls_of s.unit)) (rw (e, p)) a

-- Whoever pulls HSK sees it low.
pub hsk_own : (l : Lines) (ss : List Station) → All (λ (s : Station). pulls_hsk s.unit.phase ≡ true → (levels_with l ss).hsk ≡ true) ss
hsk_own l [] = none
hsk_own l (s ∷ ss) =
    also (λ p. hsk_kept (wired l (pulls_of s.unit)) ss (ap (λ (b : Bool). l.hsk || b) p ∙ or_true l.hsk)) (hsk_own (wired l (pulls_of s.unit)) ss)

-- The data lines, where no unit pulls one.
pub nibble-kept : (l : Lines) {ss : List Station} → l.nibble < 16 → All (λ (s : Station). pulls_nibble s.unit.phase ≡ 15) ss → (levels_with l ss).nibble ≡ l.nibble
nibble-kept l h none = refl
nibble-kept l h (also {x = s} {xs = ss} p a) =
    let e : wired_nibble l.nibble (pulls_nibble s.unit.phase) ≡ l.nibble = ap (wired_nibble l.nibble) p ∙ wired_free l.nibble h in
    nibble-kept (wired l (pulls_of s.unit)) (rw e h) a ∙ e

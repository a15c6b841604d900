-- Data goes into a tail piece by piece: each brings the copy from its first i bytes to its first j.
use Prim.Native.Nat.{ℕ, ◌+◌, ◌*◌, ◌-◌, ◌/◌, ◌%◌, ◌≤◌}
use native.Mathlib.Nat.{mul-one, mul-zero, add-zero, mul-add, mul_assoc, mod-add-div, mod_def, div-div-eq-div-mul}
use native.Mathlib.Omega.{arith}
use mathlib.Core.Path.{◌≡◌, sym, ◌∙◌, ap, ap₂}
use mathlib.Core.List.{List, ◌++◌, append_assoc}
use borrow.Author.Tests.{le-leb}
use borrow.Rule.Slice.PartMut.{mid_of, put_mid, mid_len}
use lib.ListN.{length, take, drop, take-append-drop}
use lib.Seq.{take_at, drop_at, drop-drop, take-add, take-length, length-take-le}
use Rattle.tail.specs.Pieces.{with_part}
use Rattle.tail.specs.Tail.{filled_with}
use Rattle.tail.proofs.Over.{over, tail_back}

-- For a caller: the buffer whose tail from place k on was lent.
pub tail-filled : (k : ℕ) (d o t : List ℕ) → k + length d ≤ length o → t ≡ filled_with d (mid_of k (length o - k) o) → put_mid k (length o - k) o t ≡ over k d o
tail-filled k d o t room e =
    let tail : length (mid_of k (length o - k) o) ≡ length o - k = mid_len k (length o) o (omega arith) in
    tail_back k d o t room (e ∙ rw (le-leb (length d) (length (mid_of k (length o - k) o)) (omega arith)))

-- The first i bytes of s stand at the front of what was d.
abbrev pub up_to : ℕ → List ℕ → List ℕ → List ℕ
up_to i s d = take i s ++ drop i d

pub up_to-all : (i : ℕ) (s d : List ℕ) → length s ≡ i → up_to i s d ≡ s ++ drop (length s) d
up_to-all i s d e = ap (λ (j : ℕ). up_to j s d) (sym e) ∙ ap (λ (l : List ℕ). l ++ drop (length s) d) (take-length s)

-- The bytes from i to j, behind the first i.
pub further : (i j : ℕ) (s d o : List ℕ) → i ≤ j → j ≤ length s → o ≡ up_to i s d → with_part i j s o ≡ up_to j s d
further i j s d o h g e =
    let front : length (take i s) ≡ i = length-take-le i s (omega arith) in
    let all : i + (j - i) ≡ j = omega arith in
    let kept : take i (up_to i s d) ≡ take i s = take_at (take i s) (drop i d) i front in
    let rest : drop j (up_to i s d) ≡ drop j d =
    ap (λ (k : ℕ). drop k (up_to i s d)) (sym all)
    ∙ sym (drop-drop (j - i) i (up_to i s d))
    ∙ ap (drop (j - i)) (drop_at (take i s) (drop i d) i front)
    ∙ drop-drop (j - i) i d
    ∙ ap (λ (k : ℕ). drop k d) all in
    ap (with_part i j s) e
    ∙ ap₂ (λ (a b : List ℕ). a ++ (take (j - i) (drop i s) ++ b)) kept rest
    ∙ sym (append_assoc (take i s) (take (j - i) (drop i s)) (drop j d))
    ∙ ap (λ (l : List ℕ). l ++ drop j d) (sym (take-add i (j - i) s) ∙ ap (λ (k : ℕ). take k s) all)

pub no_part : (i j : ℕ) (s d : List ℕ) → i ≡ j → with_part i j s d ≡ d
no_part i j s d e =
    let none : j - i ≡ 0 = omega arith in
    ap (λ (k : ℕ). take i d ++ (take k (drop i s) ++ drop j d)) none ∙ ap (λ (k : ℕ). take i d ++ drop k d) (sym e) ∙ take-append-drop i d

-- A number is what is left of it below p, p where it has that bit, and whole p * 2.
bit : (n p : ℕ) → n % (p * 2) ≡ n % p + p * (n / p % 2)
bit n p =
    let a = n / p in
    let whole = p * 2 * (a / 2) in
    let halves : p * a ≡ p * (a % 2) + whole = ap (λ (x : ℕ). p * x) (sym (mod-add-div a 2)) ∙ mul-add p (a % 2) (2 * (a / 2)) ∙ ap (λ (x : ℕ). p * (a % 2) + x) (sym (mul_assoc p 2 (a / 2))) in
    let all : n % p + p * a ≡ n = mod-add-div n p in
    let left : n % (p * 2) ≡ n - whole = mod_def n (p * 2) ∙ ap (λ (x : ℕ). n - p * 2 * x) (sym (div-div-eq-div-mul n p 2)) in
    without (n % (p * 2)) n whole (n % p) (p * (a % 2)) (p * a) left halves all
  where
    without : (x n w r b pa : ℕ) → x ≡ n - w → pa ≡ b + w → r + pa ≡ n → x ≡ r + b
    without x n w r b pa e f g = omega arith

pub with_bit : (n p : ℕ) → n / p % 2 ≡ 1 → n % (p * 2) ≡ n % p + p
with_bit n p h = bit n p ∙ ap (λ (x : ℕ). n % p + p * x) h ∙ ap (λ (x : ℕ). n % p + x) (mul-one p)

pub without_bit : (n p : ℕ) → (n / p % 2 ≡ 1 → ⊥) → n % (p * 2) ≡ n % p
without_bit n p h =
    let none : n / p % 2 ≡ 0 = omega arith in
    bit n p ∙ ap (λ (x : ℕ). n % p + p * x) none ∙ ap (λ (x : ℕ). n % p + x) (mul-zero p) ∙ add-zero (n % p)

-- What is copied where fewer than p * 2 bytes are left, and then fewer than p.
pub bit_further : (p : ℕ) (s d o t : List ℕ) → o ≡ up_to (length s - length s % (p * 2)) s d
    → t ≡ with_part (length s - length s % (p * 2)) (length s - length s % p) s o
    → t ≡ up_to (length s - length s % p) s d
bit_further p s d o t so_far stored =
    let n = length s in
    let e = bit n p in
    stored ∙ further (n - n % (p * 2)) (n - n % p) s d o (omega arith) (omega arith) so_far

-- A list laid over another from a place on, and two of them, in either order.
use Prim.Native.Nat.{ℕ, ◌+◌, ◌-◌, ◌≤◌}
use native.Mathlib.Omega.{arith}
use mathlib.Core.Path.{◌≡◌, sym, ◌∙◌, ap, ap₂}
use mathlib.Core.List.{List, ◌++◌, append_assoc}
use borrow.Rule.Slice.PartMut.{mid_of, put_mid}
use lib.ListN.{length, take, drop, length-append}
use lib.Seq.{take_at, drop_at, drop-drop, take-add, take-length, length-take-le}
use Rattle.message.proofs.Writings.{put_tail}

-- The buffer with d from place k on.
abbrev pub over : ℕ → List ℕ → List ℕ → List ℕ
over k d o = take k o ++ (d ++ drop (k + length d) o)

-- What a lent tail comes back as, with d at its front.
pub tail_back : (k : ℕ) (d o t : List ℕ) → k + length d ≤ length o
    → t ≡ d ++ drop (length d) (mid_of k (length o - k) o)
    → put_mid k (length o - k) o t ≡ over k d o
tail_back k d o t room e =
    put_tail k d o t room (e ∙ ap (λ (l : List ℕ). l ++ drop (length d) (mid_of k (length o - k) o)) (sym (take-length d)))

module _ (k : ℕ) (d e o : List ℕ) (room : k + length d + length e ≤ length o) where
  both : over k (d ++ e) o ≡ take k o ++ (d ++ (e ++ drop (k + length d + length e) o))
  both =
      let l : length (d ++ e) ≡ length d + length e = length-append d e in
      let all : k + length (d ++ e) ≡ k + length d + length e = omega arith in
      ap (λ (j : ℕ). take k o ++ ((d ++ e) ++ drop j o)) all ∙ ap (λ (r : List ℕ). take k o ++ r) (append_assoc d e (drop (k + length d + length e) o))

  -- d, and then e behind it.
  pub over-then : over (k + length d) e (over k d o) ≡ over k (d ++ e) o
  over-then =
      let m = k + length d in
      let p = take k o ++ d in
      let r = drop m o in
      let lk : length (take k o) ≡ k = length-take-le k o (omega arith) in
      let lp : length p ≡ m = length-append (take k o) d ∙ ap (λ (j : ℕ). j + length d) lk in
      let o_is : over k d o ≡ p ++ r = sym (append_assoc (take k o) d r) in
      let front = ap (take m) o_is ∙ take_at p r m lp in
      let rest = sym (drop-drop (length e) m (over k d o)) ∙ ap (drop (length e)) (ap (drop m) o_is ∙ drop_at p r m lp) ∙ drop-drop (length e) m o in
      ap₂ (λ (x y : List ℕ). x ++ (e ++ y)) front rest ∙ append_assoc (take k o) d (e ++ drop (m + length e) o) ∙ sym both

  -- e, and then d before it.
  pub over-before : over k d (over (k + length d) e o) ≡ over k (d ++ e) o
  over-before =
      let m = k + length d in
      let r = e ++ drop (m + length e) o in
      let lk : length (take k o) ≡ k = length-take-le k o (omega arith) in
      let lm : length (take m o) ≡ m = length-take-le m o (omega arith) in
      let between = take (length d) (drop k o) in
      let front = ap (λ (l : List ℕ). take k (l ++ r)) (take-add k (length d) o) ∙ ap (take k) (append_assoc (take k o) between r) ∙ take_at (take k o) (between ++ r) k lk in
      ap₂ (λ (x y : List ℕ). x ++ (d ++ y)) front (drop_at (take m o) r m lm) ∙ sym both

-- What a writer answers, by the tests it makes; and what a copy into a lent tail leaves in the buffer.
use Prim.Native.Nat.{ℕ, ◌+◌, ◌-◌, ◌≤◌, ◌<◌}
use native.Mathlib.Omega.{arith}
use mathlib.Core.Path.{◌≡◌, sym, ◌∙◌, ap, ap₂}
use mathlib.Core.List.{List, [], ◌++◌, append-nil}
use borrow.Author.Tests.{lt-ltb, le-ltb}
use borrow.Rule.Slice.PartMut.{mid_of, put_mid}
use lib.ListN.{length, take, drop, length-drop}
use lib.Seq.{drop-drop, take_all, take-length, drop-length}
use Rattle.message.specs.Answer.{gives, refused}
use Rattle.message.specs.Writing.{writing}

module _ (fields n room : ℕ) where
  pub write-long : 65535 < n → writing fields n room ≡ refused 2
  write-long h = rw (lt-ltb 65535 n h)

  pub write-short : n ≤ 65535 → room < fields + n → writing fields n room ≡ refused 11
  write-short h k = rw (le-ltb 65535 n h, lt-ltb room (fields + n) k)

  pub write-whole : n ≤ 65535 → fields + n ≤ room → writing fields n room ≡ gives (fields + n)
  write-whole h k = rw (le-ltb 65535 n h, le-ltb room (fields + n) k)

-- A copy of d into the tail of o from place k, which left t.
pub put_tail : (k : ℕ) (d o t : List ℕ) → k + length d ≤ length o
    → t ≡ take (length d) d ++ drop (length d) (mid_of k (length o - k) o)
    → put_mid k (length o - k) o t ≡ take k o ++ (d ++ drop (k + length d) o)
put_tail k d o t room tail =
    let l : length (drop k o) ≡ length o - k = length-drop k o in
    let mid : mid_of k (length o - k) o ≡ drop k o = take_all (length o - k) (drop k o) (omega arith) in
    let rest : drop (length o - k) (drop k o) ≡ [] = ap (λ (j : ℕ). drop j (drop k o)) (sym l) ∙ drop-length (drop k o) in
    let filled : t ≡ d ++ drop (k + length d) o =
    tail ∙ ap₂ (λ (a b : List ℕ). a ++ drop (length d) b) (take-length d) mid ∙ ap (λ (l : List ℕ). d ++ l) (drop-drop (length d) k o) in
    (λ i. take k o ++ (filled i ++ rest i)) ∙ ap (λ (l : List ℕ). take k o ++ l) (append-nil (d ++ drop (k + length d) o))

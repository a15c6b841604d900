-- The parts of a message, laid over a buffer: the head at its front, the end from its place on, and then the data between them.
use Prim.Native.Nat.{ℕ, ◌+◌, ◌≤◌}
use native.Mathlib.Nat.{zero-add}
use native.Mathlib.Omega.{arith}
use mathlib.Core.Path.{◌≡◌, sym, ◌∙◌, ap, ap₂}
use mathlib.Core.List.{List, ◌++◌}
use lib.ListN.{length, take, drop, length-append}
use lib.Seq.{take-length}
use Rattle.tail.proofs.Over.{over, over-then, over-before}

-- o, p and q are the buffer after each.
pub all-parts : (h d e out o p q : List ℕ) → length h + length d + length e ≤ length out → length o ≡ length out
    → o ≡ take (length h) h ++ drop (length h) out
    → p ≡ over (length h + length d) e o
    → q ≡ over (length h) d p
    → q ≡ (h ++ (d ++ e)) ++ drop (length h + length e + length d) out
all-parts h d e out o p q room long first second third =
    let k = length h in
    let o_is : o ≡ over 0 h out = first ∙ ap₂ (λ (l : List ℕ) (j : ℕ). l ++ drop j out) (take-length h) (sym (zero-add k)) in
    let lde : length (d ++ e) ≡ length d + length e = length-append d e in
    let lall : length (h ++ (d ++ e)) ≡ k + length (d ++ e) = length-append h (d ++ e) in
    let total : 0 + length (h ++ (d ++ e)) ≡ k + length e + length d = omega arith in
    third
    ∙ ap (over k d) second
    ∙ over-before k d e o (omega arith)
    ∙ ap₂ (λ (j : ℕ) (l : List ℕ). over j (d ++ e) l) (sym (zero-add k)) o_is
    ∙ over-then 0 h (d ++ e) out (omega arith)
    ∙ ap (λ (j : ℕ). (h ++ (d ++ e)) ++ drop j out) total

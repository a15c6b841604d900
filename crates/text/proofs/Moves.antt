-- Closing up: a copy of what is kept, and then the gap erased.
use Prim.Native.Nat.{ℕ, ◌+◌, ◌-◌, ◌≤◌}
use native.Mathlib.Omega.{arith}
use mathlib.Core.Path.{◌≡◌, refl, sym, ◌∙◌, ap}
use mathlib.Core.List.{List, ◌++◌, append_assoc}
use lib.ListN.{length, take, drop, replicate, length-drop}
use lib.Seq.{paste, take-paste, drop-paste, drop-drop}
use Rattle.screen.specs.Cells.{erased, closed_up}

pub closed_all : (cells : List ℕ) (from n : ℕ) → from + n ≤ length cells → (g : ℕ) → g ≤ n
    → erased (from + (n - g)) g (paste cells from (drop (from + g) cells) (n - g)) ≡ closed_up from n g cells
closed_all cells from n room g gap =
    let s : List ℕ = drop (from + g) cells in
    let k : ℕ = n - g in
    let l : length s ≡ length cells - (from + g) = length-drop (from + g) cells in
    let end : from + k + g ≡ from + n = omega arith in
    let rest : drop (from + k + g) (paste cells from s k) ≡ drop (from + n) cells =
    sym (drop-drop g (from + k) (paste cells from s k))
    ∙ ap (drop g) (drop-paste cells from s k (omega arith) (omega arith))
    ∙ drop-drop g (from + k) cells
    ∙ ap (λ (j : ℕ). drop j cells) end in
    rw (take-paste cells from s k (omega arith) (omega arith), rest)
    (append_assoc (take from cells) (take k s) (replicate g 0x20 ++ drop (from + n) cells))

-- The same change, of the same cells.
pub same-closed : {from from' n n' : ℕ} → from ≡ from' → n ≡ n' → (g : ℕ) (cells : List ℕ) → closed_up from n g cells ≡ closed_up from' n' g cells
same-closed p q g cells = rw (p, q) refl

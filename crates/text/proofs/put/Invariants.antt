-- `text::put` meets its contract: at each turn one character more of a copy of the text into the cells.
use Prim.Native.Nat.{ℕ, ◌+◌, ◌≤◌, ◌<◌}
use mathlib.Core.Path.{◌≡◌}
use lib.ListN.{length, drop, get_or}
use lib.Seq.{paste}
use Rattle.text.proofs.put.Given as goal

abbrev pub invariant-loop-n : goal.invariant-loop-n
invariant-loop-n l =
    (length l.cells ≡ length l.initial.cells)
    × ((l.cells ≡ paste l.initial.cells l.place (drop l.i l.text) l.n) × ((k : ℕ) → k < l.n → 0x20 ≤ get_or l.text (l.i + k) 0))

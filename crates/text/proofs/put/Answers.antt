-- `text::put` meets its contract: at each turn one character more of a copy of the text into the cells.
use Prim.Native.Nat.{ℕ, ◌+◌, ◌-◌, ◌≤◌}
use native.Mathlib.Numerals.{add-one}
use native.Mathlib.Omega.{arith}
use mathlib.Core.List.{List}
use mathlib.Core.Path.{◌≡◌}
use borrow.Author.Count.{below_more}
use lib.ListN.{length, drop, take, get_or, length-set, length-drop}
use lib.Seq.{paste-suc, get_or-take, get_or-drop, length-take-le}
use Rattle.text.proofs.put.Goals as goal

pub loop-n-preserved : goal.loop-n-preserved
loop-n-preserved c =
    let a = c.args in
    let n = c.loop-n.n in
    let end = a.i + c.min-end.result - a.i in
    let rest : List ℕ = drop a.i a.text.now in
    let inv = c.loop-n.invariant in
    let left : length rest ≡ length a.text.now - a.i = length-drop a.i a.text.now in
    let size : length (take end rest) ≡ end = length-take-le end rest (omega arith) in
    let same : get_or (take end rest) n 0 ≡ get_or rest n 0 = get_or-take end rest n 0 (omega arith) in
    let there : get_or rest n 0 ≡ get_or a.text.now (a.i + n) 0 = get_or-drop a.i a.text.now n 0 in
    let here : 0x20 ≤ get_or a.text.now (a.i + n) 0 = omega (arith, same, there) in
    let store = paste-suc a.cells.now a.place rest n 0 (omega arith) (omega arith) in
    (simp length-set inv.0, (rw (add-one, inv.1.0, same) store, below_more (λ (k : ℕ). 0x20 ≤ get_or a.text.now (a.i + k) 0) n inv.1.1 here))

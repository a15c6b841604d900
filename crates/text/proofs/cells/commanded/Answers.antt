-- `text::cells::commanded` meets its contract, by the sequences that change cells.
use Prim.Native.Nat.{◌*◌}
use native.Mathlib.Omega.{arith}
use mathlib.Core.Path.{◌≡◌, ◌∙◌}
use Rattle.text.proofs.Moves.{same-closed}
use Rattle.text.proofs.cells.commanded.Goals as goal

pub returns-in-82 : goal.returns-in-82
returns-in-82 c =
    let a = c.args in
    let line : c.place-line.result ≡ 80 * a.s.row = omega (arith, c.place-line.ensures) in
    simp c.in-82.is (c.close_up-in-82.ensures ∙ same-closed line c.lines_down-down.ensures 80 a.cells.now)

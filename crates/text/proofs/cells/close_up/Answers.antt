-- `text::cells::close_up` meets its contract: the cells behind the gap are copied to its start, and the gap comes behind them.
use Prim.Native.Nat.{◌+◌, ◌-◌}
use native.Mathlib.Omega.{arith}
use mathlib.Core.Path.{◌≡◌, ◌∙◌}
use Rattle.text.proofs.Moves.{closed_all}
use Rattle.text.proofs.cells.close_up.Goals as goal

pub returns : goal.returns
returns c =
    let a = c.args in
    let count : a.from + a.n - (a.from + a.g) ≡ a.n - a.g = omega arith in
    c.erase.ensures ∙ rw (c.copy_within.ensures.after, count) (closed_all a.cells.now a.from a.n c.requires.0 a.g c.requires.1)

-- `reply::queued_item` meets its contract: a byte of the queue by its place, or none past what is given.
use native.Mathlib.Omega.{arith}
use mathlib.Core.Path.{◌∙◌}
use Rattle.reply.proofs.Laws.{queued_at, queued_past}
use Rattle.reply.proofs.queued_item.Goals as goal

pub returns-then-j-most : goal.returns-then-j-most
returns-then-j-most c =
    let a = c.args in
    c.at.ensures ∙ queued_at a.input.now a.q a.n a.j (omega (arith, c.if-j-most.true, c.min-most.ensures, c.len.ensures))

pub returns : goal.returns
returns c =
    let a = c.args in
    queued_past a.input.now a.q a.n a.j (omega (arith, c.if-j-most.false, c.min-most.ensures, c.len.ensures))

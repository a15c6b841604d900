-- `frame::nibble` meets its contract: only a submitted command has data.
use mathlib.Core.Path.{sym, ◌∙◌}
use mathlib.Core.Bool.{true, false}
use Rattle.frame.proofs.Laws.{nibble_with}
use Rattle.frame.proofs.nibble.Goals as goal

pub returns-then-is_submitted : goal.returns-then-is_submitted
returns-then-is_submitted c =
    let a = c.args in
    c.nibble.ensures ∙ nibble_with a.f a.«data».now a.i true (sym c.is_submitted.ensures ∙ c.if-is_submitted.true)

pub returns : goal.returns
returns c =
    let a = c.args in
    c.nibble-2.ensures
    ∙ nibble_with a.f a.«data».now a.i false (sym c.is_submitted.ensures ∙ c.if-is_submitted.false)

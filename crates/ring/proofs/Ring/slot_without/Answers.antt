-- `Ring::slot_without` meets its contract: before the gap nothing moves, behind it each entry moves up.
use native.Mathlib.Numerals.{add-one}
use mathlib.Core.Path.{sym, ◌∙◌}
use Rattle.ring.specs.Ring.{live}
use Rattle.ring.proofs.Laws.{get_or-cut-before, get_or-cut-after, none-after-cut}
use Rattle.ring.proofs.Ring.slot_without.Goals as goal

pub returns-then-i-at : goal.returns-then-i-at
returns-then-i-at c =
    let a = c.args in
    c.entry.ensures ∙ sym (get_or-cut-before a.at a.i (live a.self) c.if-i-at.true)

pub returns-then-i-lt16 : goal.returns-then-i-lt16
returns-then-i-lt16 c =
    let a = c.args in
    c.entry-then-i-lt16.ensures ∙ rw add-one (sym (get_or-cut-after a.at a.i (live a.self) c.if-i-at.false))

pub returns : goal.returns
returns c =
    let a = c.args in
    none-after-cut a.self a.at a.i c.if-i-at.false c.if-i-lt16.false

-- `text::show` meets its contract: at each turn the rest of the text, from the state and the cells so far, gives what all of it gives.
use Prim.Native.Nat.{◌+◌, ◌<◌}
use native.Mathlib.Omega.{arith}
use mathlib.Core.Bool.{Bool}
use mathlib.Core.Path.{◌∙◌, ap}
use lib.ListN.{length}
use Rattle.screen.specs.Screen.{at}
use Rattle.text.proofs.Texts.{drawn_if, text_end, drawn_if_end, after_run, after_byte}
use Rattle.text.proofs.show.Goals as goal

pub returns-then-text-i : goal.returns-then-text-i
returns-then-text-i c =
    let s = c.loop-i.after in
    let cells = c.loop-i.cells in
    let i = c.loop-i.i in
    let n = c.run-n.result in
    let inv = c.loop-i.invariant in
    let told = c.is_drawn-draws in
    let a = c.args in
    let text = a.text.now in
    let t = at s s.row (s.column + n) in
    let ran = after_run told.result s text cells _ i n inv.1.0 c.run-n.ensures.draws_value.0 c.run-n.ensures.result_in_bounds c.run-n.ensures.cells_after in (
      text_end t text (i + n) c.if-text-i.true ∙ ran.1.1.0 ∙ inv.1.1.1.0,
      drawn_if_end told.result t text _ (i + n) c.if-text-i.true ∙ ran.1.1.1 ∙ inv.1.1.1.1 ∙ ap (λ (d : Bool). drawn_if d a.s text a.cells.now) told.ensures,
    )

pub loop-i-preserved : goal.loop-i-preserved
loop-i-preserved c =
    let s = c.loop-i.after in
    let cells = c.loop-i.cells in
    let i = c.loop-i.i in
    let n = c.run-n.result in
    let inv = c.loop-i.invariant in
    let told = c.is_drawn-draws in
    let a = c.args in
    let text = a.text.now in
    let t = at s s.row (s.column + n) in
    let ran = after_run told.result s text cells _ i n inv.1.0 c.run-n.ensures.draws_value.0 c.run-n.ensures.result_in_bounds c.run-n.ensures.cells_after in
    let more : i + n < length text = c.if-text-i.false in
    let step = after_byte told.result t c.with_byte-after.result text _ _ (i + n) ran.0 more c.with_byte-after.ensures c.draw.ensures in (
      omega (arith, more),
      (
        step.0,
        (step.1.0 ∙ ran.1.0 ∙ inv.1.1.0, (step.1.1.0 ∙ ran.1.1.0 ∙ inv.1.1.1.0, step.1.1.1 ∙ ran.1.1.1 ∙ inv.1.1.1.1)),
      ),
    )

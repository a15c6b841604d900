-- `unitround::take_any` meets its contract: the last byte of its message, or one before it.
use mathlib.Core.Path.{◌∙◌, refl}
use Rattle.phase.specs.Phase.{with_byte}
use Rattle.unitround.proofs.Laws.{last-of-all, more-to-come, next_header}
use Rattle.unitround.proofs.take_any.Goals as goal

pub returns-then-n-place : goal.returns-then-n-place
returns-then-n-place c = let a = c.args in
    let with-is = c.with-header.ensures in
    let load-header-is = c.load_header-old.ensures in
    let wide_is = c.wide.ensures in
    last-of-all a.words.now a.buffer.now a.output.now a.b (with-is ∙ (λ i. with_byte (load-header-is i) (wide_is i) a.b)) refl c.put.ensures c.if-n-place.true c.number8-own.ensures c.load_serial-serial.ensures c.answer.ensures c.save_moved.ensures

pub returns : goal.returns
returns c = let a = c.args in
    let with-is = c.with-header.ensures in
    let load-header-is = c.load_header-old.ensures in
    let wide_is = c.wide.ensures in
    more-to-come a.words.now a.buffer.now a.output.now a.b (with-is ∙ (λ i. with_byte (load-header-is i) (wide_is i) a.b)) refl c.put.ensures c.if-n-place.false (next_header a.words.now c.requires c.whole_bytes.ensures c.save_partial.ensures)

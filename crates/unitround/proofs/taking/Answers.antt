-- `unitround::taking` meets its contract: the tests are those of `taking_step`.
use Rattle.unitround.proofs.Laws.{first-half, no_nibble, second-half}
use Rattle.unitround.proofs.taking.Goals as goal

pub returns-then-flag : goal.returns-then-flag
returns-then-flag c = let a = c.args in
    let takes-is = c.takes.ensures in
    let flag_is = c.flag.ensures in
    let number_is = c.number8.ensures in
    let byte-of-is = c.byte_of-b.ensures in
    second-half a.words.now c.requires a.seen a.busy a.buffer.now a.output.now takes-is c.if-takes.true flag_is c.if-flag.true number_is byte-of-is c.take_byte.ensures

pub returns-then-takes : goal.returns-then-takes
returns-then-takes c = let a = c.args in
    first-half a.words.now c.requires a.seen a.busy a.buffer.now a.output.now c.takes.ensures c.if-takes.true c.flag.ensures c.if-flag.false c.take_low.ensures

pub returns : goal.returns
returns c = let a = c.args in
    no_nibble a.words.now c.requires a.seen a.busy a.buffer.now a.output.now c.takes.ensures c.if-takes.false c.heard.ensures

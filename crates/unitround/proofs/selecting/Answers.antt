-- `unitround::selecting` meets its contract: the tests are those of `selecting_step`.
use Rattle.unitround.proofs.Laws.{half-a-code, no_code, whole_code}
use Rattle.unitround.proofs.selecting.Goals as goal

pub returns-then-flag : goal.returns-then-flag
returns-then-flag c = let a = c.args in
    let takes-is = c.takes.ensures in
    let flag_is = c.flag.ensures in
    whole_code a.words.now a.seen a.busy c.requires takes-is c.if-takes.true flag_is c.if-flag.true c.number8.ensures c.byte_of-code.ensures c.leave.ensures

pub returns-then-takes : goal.returns-then-takes
returns-then-takes c = let a = c.args in
    half-a-code a.words.now a.seen a.busy c.requires c.takes.ensures c.if-takes.true c.flag.ensures c.if-flag.false c.take_low.ensures

pub returns : goal.returns
returns c = let a = c.args in
    no_code a.words.now a.seen a.busy c.requires c.takes.ensures c.if-takes.false c.heard.ensures

-- `unitround::take_byte` meets its contract: a data byte before the last leaves the header as it is.
use Rattle.unitround.proofs.Laws.{header-stays, more-to-come, next-data}
use Rattle.unitround.proofs.take_byte.Goals as goal

pub returns-then-place-n : goal.returns-then-place-n
returns-then-place-n c = let a = c.args in
    let number_is = c.number16-n.ensures in
    more-to-come a.words.now a.buffer.now a.output.now a.b (header-stays a.words.now a.b c.if-place-ge9.true) number_is c.put.ensures c.if-place-n.true (next-data a.words.now c.requires c.save_low.ensures)

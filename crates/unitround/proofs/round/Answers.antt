-- `unitround::round` meets its contract: BAV seen low: the row, then the phase; BAV seen high: the message is dropped.
use Rattle.unitround.proofs.Laws.{high-done, low-round}
use Rattle.unitround.proofs.round.Goals as goal

pub returns-then-seen : goal.returns-then-seen
returns-then-seen c = let a = c.args in
    low-round a.words.now a.seen a.busy a.buffer.now a.input.now a.output.now c.lowered.ensures c.if-seen.true c.phase.ensures

pub returns : goal.returns
returns c = let a = c.args in
    high-done a.words.now a.seen a.busy a.buffer.now a.input.now a.output.now c.if-seen.false c.dropped.ensures

-- `unitround::answered` meets its contract: whether the listener is ready decides.
use Rattle.unitround.proofs.Laws.{all-heard, not-yet-heard}
use Rattle.unitround.proofs.answered.Goals as goal

pub returns-then-is_ready : goal.returns-then-is_ready
returns-then-is_ready c = let a = c.args in
    all-heard a.words.now a.hsk a.busy c.requires c.heard-ear.ensures c.listener.ensures c.is_ready.ensures c.if-is_ready.true c.leave.ensures

pub returns : goal.returns
returns c = let a = c.args in
    not-yet-heard a.words.now a.hsk a.busy c.requires c.heard-ear.ensures c.listener.ensures c.is_ready.ensures c.if-is_ready.false

-- `unitround::dropped` meets its contract: the settings and the state stay as they stand.
use Rattle.unitround.proofs.Laws.{high-round}
use Rattle.unitround.proofs.dropped.Goals as goal

pub returns : goal.returns
returns c = let a = c.args in
    let enabled-is = c.flag-enabled.ensures in
    let requesting-is = c.flag-requesting.ensures in
    let retry-is = c.number16-retry.ensures in
    let Quiet-is = c.number16.ensures in
    let quiet-after-is = c.quiet_after-quiet.ensures in
    high-round a.words.now a.hsk enabled-is requesting-is retry-is Quiet-is quiet-after-is c.flag.ensures c.asks-asking.ensures c.save_row.ensures c.with_tag.ensures

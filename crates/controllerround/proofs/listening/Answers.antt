-- `controllerround::listening` meets its contract: a nibble is taken, or none, and then the frame goes on or is over.
use Prim.Native.Nat.{◌%◌}
use mathlib.Core.Path.{sym, ap}
use Rattle.controllerwords.specs.Layout.{QUIET}
use Rattle.frame.specs.Frame.{quiet_after}
use Rattle.words.specs.Words.{at}
use Rattle.controllerround.proofs.Heard.{nibble-taken, goes_on, is_over_now}
use Rattle.controllerround.proofs.listening.Goals as goal

pub returns-then-takes : goal.returns-then-takes
returns-then-takes c =
    nibble-taken c.args.words.now c.args.response.now c.args.seen c.args.busy c.takes.ensures c.requires.0 c.if-takes.true c.take.ensures.0 c.take.ensures.1 c.requires.1

pub returns-then-waits : goal.returns-then-waits
returns-then-waits c =
    let waited = c.waits.ensures in
    is_over_now c.args.words.now c.args.response.now c.args.seen c.args.busy c.takes.ensures c.if-takes.false c.heard-next.ensures (ap (quiet_after (at c.args.words.now QUIET % 65536)) (sym c.if-seen.true))
    waited.0 c.if-waits.true waited.1 c.over.ensures

pub returns-then-seen : goal.returns-then-seen
returns-then-seen c =
    let waited = c.waits.ensures in
    goes_on c.args.words.now c.args.response.now c.args.seen c.args.busy c.takes.ensures c.if-takes.false c.heard-next.ensures (ap (quiet_after (at c.args.words.now QUIET % 65536)) (sym c.if-seen.true))
    waited.0 c.requires.0 c.if-waits.false waited.1 c.requires.1

pub returns-then-waits-2 : goal.returns-then-waits-2
returns-then-waits-2 c =
    let waited = c.waits-2.ensures in
    is_over_now c.args.words.now c.args.response.now c.args.seen c.args.busy c.takes.ensures c.if-takes.false c.heard-next.ensures (ap (quiet_after (at c.args.words.now QUIET % 65536)) (sym c.if-seen.false))
    waited.0 c.if-waits-2.true waited.1 c.over-then-waits-2.ensures

pub returns : goal.returns
returns c =
    let waited = c.waits-2.ensures in
    goes_on c.args.words.now c.args.response.now c.args.seen c.args.busy c.takes.ensures c.if-takes.false c.heard-next.ensures (ap (quiet_after (at c.args.words.now QUIET % 65536)) (sym c.if-seen.false))
    waited.0 c.requires.0 c.if-waits-2.false waited.1 c.requires.1

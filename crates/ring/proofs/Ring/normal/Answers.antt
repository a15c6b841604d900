-- `Ring::normal` meets its contract: a cut behind the last entry takes none away.
use mathlib.Core.Path.{◌∙◌, ap}
use Rattle.ring.specs.Ring.{ring_of, live}
use Rattle.ring.proofs.Laws.{cut_past, live_below}
use Rattle.ring.proofs.Ring.normal.Goals as goal

pub returns : goal.returns
returns c = c.cut.ensures ∙ ap ring_of (cut_past 16 (live c.args.self) (live_below c.args.self))

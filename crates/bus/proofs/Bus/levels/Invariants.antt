-- `Bus::levels` meets its contract: at each turn, the levels so far with the pulls of the units that are left.
use mathlib.Core.Path.{◌≡◌}
use lib.ListN.{drop}
use Rattle.bus.specs.Bus.{levels_left, levels_of}
use Rattle.bus.proofs.Bus.levels.Given as goal

abbrev pub invariant-loop-u : goal.invariant-loop-u
invariant-loop-u l = levels_left l.l (drop l.u-index l.u-items) ≡ levels_of l.fn.self

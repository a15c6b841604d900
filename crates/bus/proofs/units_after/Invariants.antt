-- `bus::units_after` meets its contract: at each turn, those that have stepped, and those that are to step; and so of their memory.
use Prim.Native.Nat.{◌*◌, ◌≤◌}
use mathlib.Core.Path.{◌≡◌}
use lib.ListN.{length}
use Rattle.bus.proofs.Laws.{whole_units, whole_memory}
use Rattle.bus.proofs.units_after.Given as goal

abbrev pub invariant-loop-u : goal.invariant-loop-u
invariant-loop-u l =
    let n = length l.initial.units in
    ((n ≤ 16) × (l.at ≡ 2432 * l.u-index) × (length l.units ≡ n) × (length l.memory ≡ 38912))
    × (whole_units l.seen l.hosts n l.u-index l.at l.units l.memory ≡ whole_units l.seen l.busy n 0 0 l.initial.units l.initial.memory)
    × (whole_memory l.seen l.hosts n l.u-index l.at l.units l.memory ≡ whole_memory l.seen l.busy n 0 0 l.initial.units l.initial.memory)

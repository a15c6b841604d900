-- `bus::units_after` meets its contract: at each turn, those that have stepped, and those that are to step; and so of their memory.
use Prim.Native.Nat.{◌+◌, ◌-◌, ◌*◌, ◌≤◌, ◌<◌}
use native.Mathlib.Omega.{arith}
use native.Mathlib.Numerals.{add-one}
use mathlib.Core.Path.{sym, ◌∙◌}
use borrow.Rule.Slice.PartMut.{same_len_mid}
use lib.ListN.{length, length-set}
use Rattle.bus.proofs.Laws.{units-next, memory-next}
use Rattle.bus.proofs.units_after.Goals as goal

pub loop-u-preserved : goal.loop-u-preserved
loop-u-preserved c =
    let a = c.args in
    let n = length a.units.now in
    let inv = c.loop-u.invariant in
    let i = c.loop-u.u-index in
    let at = c.loop-u.at in
    let us = c.loop-u.units in
    let m = c.loop-u.memory in
    let hosts = c.loop-u.hosts in
    let v = c.unit_round.result in
    let ys = c.unit_round.new.memory in
    let e = c.unit_round.ensures in
    let kept = c.unit_round.auto.memory in
    let test : i < n = omega (arith, c.loop-u-test.true, inv.0.2) in
    let enough : n ≤ length us = omega (arith, inv.0.2) in
    let room : 2432 * n ≤ length m = omega (arith, inv.0.0, inv.0.3) in
    let units = units-next a.seen hosts n i at us m _ test enough inv.0.1 room v ys e.value e.memory_after kept in
    let memory = memory-next a.seen hosts n i at us m _ test enough inv.0.1 room v ys e.value e.memory_after kept in (
      (inv.0.0, omega (arith, inv.0.1), length-set us i v ∙ inv.0.2, same_len_mid at (at + 2432 - at) m ys kept ∙ inv.0.3),
      rw add-one (sym units ∙ inv.1),
      rw add-one (sym memory ∙ inv.2),
    )

-- `bus::unit_round` meets its contract: the copied command buffer goes back to where it stood; what is written to the unit is there already.
use mathlib.Core.Path.{refl}
use Rattle.bus.proofs.Laws.{round_in_parts}
use Rattle.bus.proofs.unit_round.Goals as goal

pub returns : goal.returns
returns c =
    let a = c.args in
    let e = c.unit_after-after.ensures in
    let both =
    round_in_parts
    a.u
    a.seen
    a.busy
    a.memory.now
    c.copied-buffer.result
    c.copied-input.result
    c.unit_after-after.new.buffer
    c.unit_after-after.new.output
    _
    c.put.new.s
    c.requires
    c.copied-buffer.ensures
    c.copied-input.ensures
    e.value
    e.buffer_after
    e.output_after
    refl
    c.put.ensures in
    record { value = both.0; memory_after = both.1 }

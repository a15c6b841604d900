-- `hexbus_unit_step` meets its contract: 5 before 11, and nothing is written where one of them comes.
use Rattle.gateway.specs.Unit.{lines_of}
use Rattle.gateway.proofs.Laws.{short_by_kind, level-refused, buffer-refused, steps}
use Rattle.gateway.proofs.unit_calls.hexbus_unit_step.Goals as goal

pub returns-then-nibble-gt15 : goal.returns-then-nibble-gt15
returns-then-nibble-gt15 c =
    let a = c.args in
    level-refused a.unit.now (lines_of a.bav a.hsk a.nibble) a.busy a.command.now a.input.now a.output.now c.if-nibble-gt15.true

pub returns-then-is_short : goal.returns-then-is_short
returns-then-is_short c =
    let a = c.args in
    let short = short_by_kind a.unit.now a.command.now a.output.now c.number8.ensures c.kind_of.ensures c.is_short.ensures c.if-is_short.true in
    buffer-refused a.unit.now (lines_of a.bav a.hsk a.nibble) a.busy a.command.now a.input.now a.output.now c.if-nibble-gt15.false short

pub returns : goal.returns
returns c =
    let a = c.args in
    let enough = short_by_kind a.unit.now a.command.now a.output.now c.number8.ensures c.kind_of.ensures c.is_short.ensures c.if-is_short.false in
    steps a.unit.now (lines_of a.bav a.hsk a.nibble) a.busy a.command.now a.input.now a.output.now c.if-nibble-gt15.false enough c.round.ensures

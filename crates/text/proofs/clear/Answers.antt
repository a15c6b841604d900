-- `text::clear` meets its contract: memory for the cells is erased, other memory is as it was.
use Rattle.screen.proofs.Rules.{tests}
use Rattle.text.proofs.clear.Goals as goal

pub returns-then-cells-ge-CELLS : goal.returns-then-cells-ge-CELLS
returns-then-cells-ge-CELLS c = simp (tests, c.if-cells-ge-CELLS.true) c.erase.ensures

-- `line::wired_nibble` meets its contract: the four lowest bits of both.
use Rattle.line.proofs.Laws.{wired_digits}
use Rattle.line.proofs.wired_nibble.Goals as goal

pub returns : goal.returns
returns c = wired_digits 4 c.args.a c.args.b

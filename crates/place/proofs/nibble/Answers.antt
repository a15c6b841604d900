-- `place::nibble` meets its contract: a message's nibble is that of the byte at its place.
use Rattle.place.proofs.Places.{nibble-at-place}
use Rattle.place.proofs.nibble.Goals as goal

pub returns : goal.returns
returns c = cc (nibble-at-place c.args.head.now c.args.«data».now c.args.end.now c.args.i)

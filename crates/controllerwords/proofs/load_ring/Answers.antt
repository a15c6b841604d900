-- `controllerwords::load_ring` meets its contract: slot by slot; those before i are loaded.
use Rattle.std.proofs.Common.{arith}
use Rattle.controllerwords.proofs.Laws.{ring_of_words}
use Rattle.controllerwords.proofs.load_ring.Goals as goal

pub returns : goal.returns
returns c = ring_of_words c.loop-i.entries c.number8.result c.args.words.now c.loop-i.invariant.0 (λ j h. c.loop-i.invariant.1 j (omega (arith, h, c.loop-i-test.false))) c.number8.ensures

-- `controllerwords::load_ring` meets its contract: slot by slot; those before i are loaded.
use Rattle.std.proofs.Common.{◌≡◌, ℕ, ◌+◌, ◌<◌, get_or, length}
use Rattle.ring.specs.Ring.{none}
use Rattle.words.specs.Words.{at}
use Rattle.controllerwords.specs.Layout.{ENTRY}
use Rattle.controllerwords.specs.Controller.{entry_of}
use Rattle.controllerwords.proofs.load_ring.Given as goal

abbrev pub invariant-loop-i : goal.invariant-loop-i
invariant-loop-i l = (length l.entries ≡ 16) × ((k : ℕ) → k < l.i → get_or l.entries k none ≡ entry_of (at l.words (ENTRY + k)))

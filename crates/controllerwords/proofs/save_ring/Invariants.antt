-- `controllerwords::save_ring` meets its contract: slot by slot; the slots that are still to be written are those of `slots_in` from here on.
use Prim.Native.Nat.{◌-◌}
use mathlib.Core.Path.{◌≡◌}
use Rattle.controllerwords.specs.Controller.{slots_in}
use Rattle.controllerwords.proofs.save_ring.Given as goal

abbrev pub invariant-loop-i : goal.invariant-loop-i
invariant-loop-i l = slots_in (16 - l.i) l.i l.r.entries l.words ≡ slots_in 16 0 l.r.entries l.initial.words

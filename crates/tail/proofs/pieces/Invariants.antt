-- `tail::pieces` meets its contract: after k turns 128 * k bytes are copied.
use Prim.Native.Nat.{◌*◌}
use mathlib.Core.Path.{◌≡◌}
use lib.ListN.{length}
use Rattle.tail.proofs.Copies.{up_to}
use Rattle.tail.proofs.pieces.Given as goal

abbrev pub invariant-loop-k : goal.invariant-loop-k
invariant-loop-k l = (l.out ≡ up_to (128 * l.k) l.data l.initial.out) × (length l.out ≡ length l.initial.out)

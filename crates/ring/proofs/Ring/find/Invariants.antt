-- `Ring::find` meets its contract: while nobody before i has the code, it stands as far behind i as in the rest.
use Prim.Native.Nat.{◌+◌, ◌-◌, ◌≤◌}
use mathlib.Core.Path.{◌≡◌}
use lib.ListN.{length, drop}
use Rattle.ring.specs.Ring.{live, place_of}
use Rattle.ring.proofs.Ring.find.Given as goal

abbrev pub invariant-loop-i : goal.invariant-loop-i
invariant-loop-i l = (l.i ≤ l.n) × ((length (live l.self) ≡ l.n) × (place_of l.code (live l.self) ≡ l.i + place_of l.code (drop l.i (live l.self))))

abbrev pub decreases-loop-i : goal.decreases-loop-i
decreases-loop-i l = l.n - l.i

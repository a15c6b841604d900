-- `tail::bit` meets its contract: the piece is between the higher bits and the lower ones, or there is none.
use Prim.Native.Nat.{◌+◌, ◌*◌, ◌-◌, ◌%◌}
use native.Mathlib.Nat.{mod-le}
use native.Mathlib.Omega.{arith}
use mathlib.Core.Path.{◌≡◌, sym, ◌∙◌, ap₂}
use lib.ListN.{length}
use Rattle.tail.specs.Pieces.{with_part}
use Rattle.tail.proofs.Copies.{no_part, with_bit, without_bit}
use Rattle.tail.proofs.bit.Goals as goal

pub returns-then-n-eq1 : goal.returns-then-n-eq1
returns-then-n-eq1 g c =
    let n = length c.args.«data».now in
    let p = g.row.N in
    let e = with_bit n p c.if-n-eq1.true in
    let m = mod-le n (p * 2) in
    let from : n - n % p - p ≡ n - n % (p * 2) = omega arith in
    let to : n - n % p - p + p ≡ n - n % p = omega arith in
    c.piece.ensures ∙ ap₂ (λ i j. with_part i j c.args.«data».now c.args.out.now) from to

pub returns-else-n-eq1 : goal.returns-else-n-eq1
returns-else-n-eq1 g c =
    let n = length c.args.«data».now in
    let e = without_bit n g.row.N c.if-n-eq1.false in
    sym (no_part (n - n % (g.row.N * 2)) (n - n % g.row.N) c.args.«data».now c.args.out.now (omega arith))

-- `tail::pieces` meets its contract: what the loop has copied, and then each bit, from the highest to the lowest.
use Prim.Native.Nat.{ℕ, ◌+◌, ◌*◌, ◌-◌, ◌%◌}
use native.Mathlib.Omega.{arith}
use mathlib.Core.Path.{◌≡◌, ◌∙◌, ap}
use lib.ListN.{length}
use Rattle.tail.proofs.Copies.{up_to, up_to-all, further, bit_further}
use Rattle.tail.proofs.pieces.Goals as goal

pub loop-k-preserved : goal.loop-k-preserved
loop-k-preserved c =
    let s = c.args.«data».now in
    let d = c.args.out.now in
    let i = 128 * c.loop-k.k in
    let next : i + 128 ≡ 128 * (c.loop-k.k + 1) = omega arith in
    let more = further i (i + 128) s d c.loop-k.out (omega arith) (omega arith) c.loop-k.invariant.0 in
    (c.piece.ensures ∙ more ∙ ap (λ (j : ℕ). up_to j s d) next, omega arith)

pub returns : goal.returns
returns c =
    let s = c.args.«data».now in
    let d = c.args.out.now in
    let n = length s in
    let all : 128 * c.loop-k.k ≡ n - n % 128 = omega arith in
    let blocks : c.loop-k.out ≡ up_to (n - n % 128) s d = c.loop-k.invariant.0 ∙ ap (λ (j : ℕ). up_to j s d) all in
    let left_64 = bit_further 64 s d _ _ blocks c.bit.ensures in
    let left_32 = bit_further 32 s d _ _ left_64 c.bit-2.ensures in
    let left_16 = bit_further 16 s d _ _ left_32 c.bit-3.ensures in
    let left_8 = bit_further 8 s d _ _ left_16 c.bit-4.ensures in
    let left_4 = bit_further 4 s d _ _ left_8 c.bit-5.ensures in
    let left_2 = bit_further 2 s d _ _ left_4 c.bit-6.ensures in
    let left_1 = bit_further 1 s d _ _ left_2 c.bit-7.ensures in
    left_1 ∙ up_to-all (n - n % 1) s d (omega arith)

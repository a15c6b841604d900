-- Of two nibbles, bit by bit.
use Rattle.std.proofs.Common.{◌≡◌, ℕ, zero, suc, ◌+◌, ◌*◌, ◌/◌, ◌%◌, ◌^◌, min, bit_and, arith, ◌∙◌, ap}
use Rattle.std.proofs.lemmas.Nat.{mod-pow-add, and_shr}
use Rattle.std.proofs.lemmas.Nat.Bits.{bit_at_and, bit_at_lowest}
use Rattle.field.specs.Field.{digits, number}
use Rattle.line.specs.Line.{both_high}

lowest : (a b : ℕ) → bit_and a b % 2 ≡ min (a % 2) (b % 2)
lowest a b = omega (arith, bit_at_and a b 0, bit_at_lowest (bit_and a b), bit_at_lowest a, bit_at_lowest b)

pub wired_digits : (k a b : ℕ) → bit_and a b % 2 ^ k ≡ number 2 (both_high (digits 2 k a) (digits 2 k b))
wired_digits zero a b = omega arith
wired_digits (suc k) a b =
    let more : bit_and (a / 2) (b / 2) % 2 ^ k ≡ number 2 (both_high (digits 2 k (a / 2)) (digits 2 k (b / 2))) = wired_digits k (a / 2) (b / 2) in
    let half : bit_and a b / 2 ≡ bit_and (a / 2) (b / 2) = and_shr a b 1 in
    let whole : bit_and a b % 2 ^ (k + 1) ≡ (bit_and a b / 2 % 2 ^ k) * 2 + bit_and a b % 2 = mod-pow-add (bit_and a b) k 1 in
    let one : suc k ≡ k + 1 = omega arith in
    ap (λ (n : ℕ). bit_and a b % 2 ^ n) one ∙ whole ∙ omega (arith, ap (λ (n : ℕ). n % 2 ^ k) half, more, lowest a b)

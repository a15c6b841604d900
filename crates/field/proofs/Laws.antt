-- Laws of digits, over any base and any number of them: a byte's nibbles and a field's bytes are instances.
use Prim.Native.Nat.{ℕ, zero, suc, ◌+◌, ◌*◌, ◌/◌, ◌%◌, ◌^◌, ◌<◌}
use native.Mathlib.Nat.{mod-lt, mod-add-div, mod-eq_of_lt, add-mul-mod_self_left, add-mul-div_left, div-eq_of_lt, div-lt_iff_lt-mul, zero-add, add_comm, mul_comm, pow-zero, pow-suc}
use native.Mathlib.Omega.{arith}
use mathlib.Core.Path.{◌≡◌, refl, sym, ◌∙◌, ap}
use mathlib.Core.List.{List, [], ◌∷◌}
use lib.Arith.{lt-one, digits_lt}
use lib.ListN.{length, get_or}
use Rattle.field.specs.Field.{digits, number, nibbles, nibble_of, Below}

pub length_digits : (b k n : ℕ) → length (digits b k n) ≡ k
length_digits b zero n = refl
length_digits b (suc k) n = ap suc (length_digits b k (n / b))

pub digits_below : (b k n : ℕ) → 0 < b → Below b (digits b k n)
digits_below b zero n p i = p
digits_below b (suc k) n p zero = mod-lt n p
digits_below b (suc k) n p (suc i) = digits_below b k (n / b) p i

-- The value of a number's digits is the number, where they are enough.
pub number_digits : (b k n : ℕ) → 0 < b → n < b ^ k → number b (digits b k n) ≡ n
number_digits b zero n p h = sym (lt-one (rw pow-zero at h))
number_digits b (suc k) n p h =
    rw (number_digits b k (n / b) p ((div-lt_iff_lt-mul p).1 (rw pow-suc at h))) (mod-add-div n b)

-- The digits of digits' value are those digits.
pub digits_number : (b : ℕ) (ds : List ℕ) → 0 < b → Below b ds → digits b (length ds) (number b ds) ≡ ds
digits_number b [] p h = refl
digits_number b (d ∷ ds) p h =
    let low : (d + b * number b ds) % b ≡ d = add-mul-mod_self_left d b (number b ds) ∙ mod-eq_of_lt (h 0) in
    let rest : (d + b * number b ds) / b ≡ number b ds = add-mul-div_left d (number b ds) p ∙ rw (div-eq_of_lt (h 0)) (zero-add (number b ds)) in
    rw (low, rest) (ap (λ (l : List ℕ). d ∷ l) (digits_number b ds p (λ i. h (suc i))))

pub number_below : (b : ℕ) (ds : List ℕ) → 0 < b → Below b ds → number b ds < b ^ length ds
number_below b [] p h = rw pow-zero (omega arith)
number_below b (d ∷ ds) p h =
    rw (pow-suc, add_comm d, mul_comm b) (digits_lt (number_below b ds p (λ i. h (suc i))) (h 0))

-- Two nibbles to each byte.
pub length-nibbles : (bytes : List ℕ) → length (nibbles bytes) ≡ length bytes + length bytes
length-nibbles [] = refl
length-nibbles (b ∷ bytes) = let e = length-nibbles bytes in omega arith

-- Nibble i of bytes is nibble i of byte i / 2. Past the end all bits are set.
pub nibble-at : (bytes : List ℕ) (i : ℕ) → get_or (nibbles bytes) i 15 ≡ nibble_of (get_or bytes (i / 2) 255) i
nibble-at [] zero = refl
nibble-at [] (suc zero) = refl
nibble-at [] (suc (suc i)) = let side : suc (suc i) % 2 ≡ i % 2 = omega arith in rw side (nibble-at [] i)
nibble-at (b ∷ bytes) zero = refl
nibble-at (b ∷ bytes) (suc zero) = refl
nibble-at (b ∷ bytes) (suc (suc i)) =
    let half : suc (suc i) / 2 ≡ suc (i / 2) = omega arith in
    let side : suc (suc i) % 2 ≡ i % 2 = omega arith in
    rw (half, side) (nibble-at bytes i)

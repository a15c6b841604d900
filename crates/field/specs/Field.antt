-- Document 01, "Messages" (000, 3.1 and 3.4): two-byte fields go low byte first, each byte as two nibbles, low first.
use Rattle.std.specs.Prelude.{ℕ, zero, suc, ◌+◌, ◌*◌, ◌/◌, ◌%◌, ◌<◌, List, [], ◌∷◌, ◌++◌, get_or}

-- The k lowest digits of n in base b, lowest first.
abbrev pub digits : ℕ → ℕ → ℕ → List ℕ
digits b zero n = []
digits b (suc k) n = n % b ∷ digits b k (n / b)

-- The number that digits in base b stand for, lowest first.
abbrev pub number : ℕ → List ℕ → ℕ
number b [] = 0
number b (d ∷ ds) = d + b * number b ds

-- A field of w bytes: its bytes, and its value from them.
abbrev pub field : ℕ → ℕ → List ℕ
field w n = digits 256 w n

abbrev pub value_of : List ℕ → ℕ
value_of bytes = number 256 bytes

-- Nibble i of a byte, 0 the low one and 1 the high one, in turn; and the nibbles of bytes, one byte after the other.
abbrev pub nibble_of : ℕ → ℕ → ℕ
nibble_of b i = get_or (digits 16 2 b) (i % 2) 0

abbrev pub nibbles : List ℕ → List ℕ
nibbles [] = []
nibbles (b ∷ bytes) = digits 16 2 b ++ nibbles bytes

-- A byte from its two nibbles, low first. Of a number over 15 the lowest four bits count.
abbrev pub byte_from : ℕ → ℕ → ℕ
byte_from low high = number 16 (low % 16 ∷ high % 16 ∷ [])

-- Every element is a digit of base b; past the end `get_or` gives 0.
abbrev pub Below : ℕ → List ℕ → Type 0
Below b ds = (i : ℕ) → get_or ds i 0 < b

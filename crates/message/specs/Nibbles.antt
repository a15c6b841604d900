-- Document 01, "Messages": the nibbles of a message.
use Rattle.std.specs.Prelude.{ℕ, List, get_or}
use Rattle.field.specs.Field.{nibbles}

-- Nibble i of bytes. Past their end it is 15, as on released lines.
abbrev pub nibble_in : List ℕ → ℕ → ℕ
nibble_in bytes i = get_or (nibbles bytes) i 15

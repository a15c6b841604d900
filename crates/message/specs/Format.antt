-- Document 01, "Messages" (000, 4.3 and 4.4): how a message is laid out, said once for its reader, its writer and its nibbles.
use Rattle.std.specs.Prelude.{ℕ, ◌+◌, List, [], ◌∷◌, ◌++◌, length}
use Rattle.field.specs.Field.{field}

-- A message is fields, the data length in two bytes, the data, and fields again: the fields' widths in bytes, in order.
pub record Format : Type 0 where
  pub before : List ℕ
  pub after : List ℕ

-- Device code 1, command code 1, logical unit 1, record number 2, buffer length 2; data length 2, then the data.
abbrev pub command_format : Format
command_format = record { before = 1 ∷ 1 ∷ 1 ∷ 2 ∷ 2 ∷ []; after = [] }

-- Data length 2, data; status 1.
abbrev pub response_format : Format
response_format = record { before = []; after = 1 ∷ [] }

-- What a message says: the values of its fields, and its data.
pub record Message : Type 0 where
  pub before : List ℕ
  pub «data» : List ℕ
  pub after : List ℕ

-- Fields of these widths and values, one after the other. A value that is missing counts as 0.
abbrev pub laid : List ℕ → List ℕ → List ℕ
laid [] vs = []
laid (w ∷ ws) [] = field w 0 ++ laid ws []
laid (w ∷ ws) (v ∷ vs) = field w v ++ laid ws vs

-- What stands before the data of n bytes, and what stands behind it.
abbrev pub head_of : Format → List ℕ → ℕ → List ℕ
head_of f vs n = laid f.before vs ++ field 2 n

abbrev pub end_of : Format → List ℕ → List ℕ
end_of f vs = laid f.after vs

-- The bytes of a message.
abbrev pub bytes_of : Format → Message → List ℕ
bytes_of f m = head_of f m.before (length m.«data») ++ (m.«data» ++ end_of f m.after)

-- How many bytes fields of these widths take.
abbrev pub size : List ℕ → ℕ
size [] = 0
size (w ∷ ws) = w + size ws

-- Where the data starts: byte 9 of a command, byte 2 of a response.
abbrev pub start : Format → ℕ
start f = size f.before + 2

-- The bytes of a message without data: 9 of a command, 3 of a response.
abbrev pub least : Format → ℕ
least f = start f + size f.after

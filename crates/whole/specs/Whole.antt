-- Document 01, "Lines and rounds" and "The serial peripheral": what a unit has taken of a command, byte by byte, the lines aside, and
-- the whole command that it comes to. `proofs/Whole.antt` proves the statements.
use Rattle.std.specs.Prelude.{ℕ, zero, suc, ◌+◌, ◌<◌, ◌≤◌, ◌≡◌, true, false, cond, List, [], ◌++◌, ltb, length, get_or, set, drop, replicate}
use Rattle.command.specs.Command.{message_of}
use Rattle.field.specs.Field.{Below}
use Rattle.header.specs.Header.{InRange, header_in}
use Rattle.header.specs.declared.Command.{Command}
use Rattle.header.specs.declared.Header.{Header}
use Rattle.message.specs.Format.{command_format, bytes_of}
use Rattle.phase.specs.Phase.{buffer_with, stored_data, with_byte, is_last}

-- The bytes of a command with its data. Past their end a byte has all bits set, as released lines have.
abbrev pub bytes_for : Command → List ℕ → List ℕ
bytes_for c d = bytes_of command_format (message_of c d)

abbrev pub byte_at : List ℕ → ℕ → ℕ
byte_at bytes j = get_or bytes j 255

-- The header of which the first j bytes are there, the others still zero; and the lent buffer then.
abbrev pub front_at : List ℕ → ℕ → List ℕ
front_at bytes zero = replicate 9 0
front_at bytes (suc j) = set (front_at bytes j) j (byte_at bytes j)

abbrev pub head_at : List ℕ → ℕ → Header
head_at bytes j = header_in (front_at bytes j)

abbrev pub buffer_at : List ℕ → ℕ → List ℕ → List ℕ
buffer_at bytes zero buffer = buffer
buffer_at bytes (suc j) buffer = buffer_with (head_at bytes (suc j)).data_length j (byte_at bytes j) (buffer_at bytes j buffer)

-- Data byte i goes to place i of the buffer, and nothing else in it changes; of more than 256 bytes none is stored.
abbrev pub with_data : List ℕ → List ℕ → List ℕ
with_data d buffer = cond (ltb 256 (length d)) buffer (d ++ drop (length d) buffer)

abbrev pub stored_of : List ℕ → List ℕ
stored_of d = cond (ltb 256 (length d)) [] d

-- What the types of a command, its data and a unit's lent memory say of them.
pub record Sent (c : Command) (d : List ℕ) : Type 0 where
  pub fields : InRange c
  pub bytes : Below 256 d
  pub short : length d ≤ 65535

abbrev pub header_for : Command → List ℕ → Header
header_for c d = record { command = c; data_length = length d }

-- Each byte of a command is a byte.
abbrev pub Bytes : Type 0
Bytes = (c : Command) (d : List ℕ) (j : ℕ) → Sent c d → byte_at (bytes_for c d) j < 256

-- A header with one byte more is the next one.
abbrev pub NextHeader : Type 0
NextHeader = (c : Command) (d : List ℕ) (j : ℕ) → Sent c d → with_byte (head_at (bytes_for c d) j) j (byte_at (bytes_for c d) j) ≡ head_at (bytes_for c d) (suc j)

-- From byte 9 on the header is the command's own, with its data's length.
abbrev pub WholeHeader : Type 0
WholeHeader = (c : Command) (d : List ℕ) (j : ℕ) → Sent c d → 9 ≤ j → head_at (bytes_for c d) j ≡ header_for c d

-- A byte is the last exactly when it is the last of the message.
abbrev pub Length : Type 0
Length = (c : Command) (d : List ℕ) → length (bytes_for c d) ≡ 9 + length d

abbrev pub NotLast : Type 0
NotLast = (c : Command) (d : List ℕ) (j : ℕ) → Sent c d → suc j < 9 + length d → is_last (head_at (bytes_for c d) (suc j)).data_length j ≡ false

abbrev pub Last : Type 0
Last = (c : Command) (d : List ℕ) (j : ℕ) → Sent c d → suc j ≡ 9 + length d → is_last (head_at (bytes_for c d) (suc j)).data_length j ≡ true

-- When the last byte is there, the buffer holds the data at its front, and the checks see just the data.
abbrev pub WholeBuffer : Type 0
WholeBuffer = (c : Command) (d buffer : List ℕ) → Sent c d → 256 ≤ length buffer → buffer_at (bytes_for c d) (9 + length d) buffer ≡ with_data d buffer

abbrev pub WholeData : Type 0
WholeData = (d buffer : List ℕ) → stored_data (length d) (with_data d buffer) ≡ stored_of d

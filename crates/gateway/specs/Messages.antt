-- The calls of messages from C: a command's fields in six words, a response's in two, the last the data's length.
use Rattle.std.specs.Prelude.{ℕ, ◌≡◌, List, [], ◌∷◌, ◌++◌, length}
use Rattle.header.specs.declared.Command.{Command}
use Rattle.message.specs.Answer.{Answer, gives, refused}
use Rattle.message.specs.Format.{Format, Message, least}
use Rattle.message.specs.Reading.{reading}
use Rattle.message.specs.Writing.{writing, written_as}
use Rattle.words.specs.Words.{at, command_of, number}

-- A command's fields in words, by name.
abbrev DEVICE : ℕ
DEVICE = 0

abbrev COMMAND : ℕ
COMMAND = 1

abbrev LOGICAL_UNIT : ℕ
LOGICAL_UNIT = 2

abbrev RECORD_NUMBER : ℕ
RECORD_NUMBER = 3

abbrev BUFFER_LENGTH : ℕ
BUFFER_LENGTH = 4

-- The command that six words say. Its data length is that of the data beside it, and the sixth word is not looked at.
abbrev pub command_in : List ℕ → Command
command_in ws = command_of (at ws DEVICE) (at ws COMMAND) (at ws LOGICAL_UNIT) (at ws RECORD_NUMBER) (at ws BUFFER_LENGTH)

-- The words after a message was read: its fields in the order of the paper, and its data's length. A refusal leaves them as they are.
abbrev pub read_words : Answer Message → List ℕ → List ℕ
read_words (gives m) ws = m.before ++ (m.after ++ (length m.«data» ∷ []))
read_words (refused k) ws = ws

-- What reading and writing a message promise, for all bytes: what the call returns, and every word or byte that it was lent.
abbrev pub MessageRead : Format → List ℕ → List ℕ → ℕ → List ℕ → Type 0
MessageRead format message ws r ws' = (r ≡ number (reading format message)) × (ws' ≡ read_words (reading format message) ws)

abbrev pub MessageWritten : Format → Message → List ℕ → ℕ → List ℕ → Type 0
MessageWritten format m out r out' = (r ≡ number (writing (least format) (length m.«data») (length out))) × (out' ≡ written_as format m out)

-- Document 01, "Messages" (000, 4.3): the message of a command, and its reader's answers.
use Rattle.std.specs.Prelude.{ℕ, List, [], Result}
use Rattle.message.specs.Answer.{Answer, answered_as}
use Rattle.message.specs.Format.{Message}
use Rattle.header.specs.Header.{fields_of}
use Rattle.header.specs.declared.Command.{Command}
use Rattle.reader.specs.Numbers.{number}
use Rattle.reader.specs.declared.Misread.{Misread}

-- The message of a command and its data.
abbrev pub message_of : Command → List ℕ → Message
message_of c d = record { before = fields_of c; «data» = d; after = [] }

-- The number and values of each answer of the reader; the data is handed back beside it.
abbrev pub numbered : List ℕ → Result Command Misread → Answer Message
numbered d r = answered_as (λ (c : Command). message_of c d) number r

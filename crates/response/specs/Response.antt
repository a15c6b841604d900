-- Document 01, "Messages" (000, 4.4): a response as the code holds it, and the message that it is.
use Rattle.std.specs.Prelude.{ℕ, List, [], ◌∷◌, Result}
use Rattle.message.specs.Answer.{Answer, answered_as}
use Rattle.message.specs.Format.{Message}
use Rattle.reader.specs.Numbers.{number}
use Rattle.reader.specs.declared.Misread.{Misread}

-- The message of a response's data and status.
abbrev pub message_of : List ℕ → ℕ → Message
message_of d status = record { before = []; «data» = d; after = status ∷ [] }

-- The number and values of each answer of the reader; the data is handed back beside it.
abbrev pub numbered : List ℕ → Result ℕ Misread → Answer Message
numbered d r = answered_as (λ (status : ℕ). message_of d status) number r

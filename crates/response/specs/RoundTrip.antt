-- Document 01, "Messages": the two round trips, for a response as the code holds it.
use Rattle.std.specs.Prelude.{ℕ, ◌<◌, ◌≤◌, ◌≡◌, List, ◌++◌, length, take, drop}
use Rattle.field.specs.Field.{Below}
use Rattle.message.specs.Answer.{gives}
use Rattle.message.specs.Format.{response_format, least}
use Rattle.message.specs.Reading.{reading}
use Rattle.message.specs.Writing.{writing, written_as}
use Rattle.response.specs.Response.{message_of}

-- "Writing then reading gives the same fields."
abbrev pub ReadWritten : Type 0
ReadWritten =
    (d : List ℕ) (status : ℕ) (out : List ℕ) (n : ℕ)
    → status < 256
    → writing (least response_format) (length d) (length out) ≡ gives n
    → reading response_format (take n (written_as response_format (message_of d status) out)) ≡ gives (message_of d status)

-- "Reading then writing gives the same bytes."
abbrev pub WrittenRead : Type 0
WrittenRead =
    (s d : List ℕ) (status : ℕ) (out : List ℕ)
    → Below 256 s
    → reading response_format s ≡ gives (message_of d status)
    → length s ≤ length out
    → written_as response_format (message_of d status) out ≡ s ++ drop (length s) out

-- Document 01, "Messages": the two round trips, for a command as the code holds it.
use Rattle.std.specs.Prelude.{ℕ, ◌≤◌, ◌≡◌, List, ◌++◌, length, take, drop}
use Rattle.field.specs.Field.{Below}
use Rattle.message.specs.Answer.{gives}
use Rattle.message.specs.Format.{command_format, least}
use Rattle.message.specs.Reading.{reading}
use Rattle.message.specs.Writing.{writing, written_as}
use Rattle.header.specs.Header.{InRange}
use Rattle.command.specs.Command.{message_of}
use Rattle.header.specs.declared.Command.{Command}

-- "Writing then reading gives the same fields."
abbrev pub ReadWritten : Type 0
ReadWritten =
    (c : Command) (d out : List ℕ) (n : ℕ)
    → InRange c
    → writing (least command_format) (length d) (length out) ≡ gives n
    → reading command_format (take n (written_as command_format (message_of c d) out)) ≡ gives (message_of c d)

-- "Reading then writing gives the same bytes."
abbrev pub WrittenRead : Type 0
WrittenRead =
    (s : List ℕ) (c : Command) (d out : List ℕ)
    → Below 256 s
    → reading command_format s ≡ gives (message_of c d)
    → length s ≤ length out
    → written_as command_format (message_of c d) out ≡ s ++ drop (length s) out

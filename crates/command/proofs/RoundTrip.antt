-- A command's round trips are those of its format: its types put each field within its width.
use Rattle.message.specs.Format.{command_format}
use Rattle.message.specs.RoundTrip.{none, next}
use Rattle.message.proofs.RoundTrip
use Rattle.command.specs.Command.{message_of}
use Rattle.command.specs.RoundTrip.{ReadWritten, WrittenRead}

pub read_written : ReadWritten
read_written c d out n r e =
    RoundTrip.read_written command_format (message_of c d) out n
    (next r.device (next r.command (next r.unit (next r.number (next r.buffer none)))))
    none
    e

pub written_read : WrittenRead
written_read s c d out b e h = RoundTrip.written_read command_format s (message_of c d) out b e h

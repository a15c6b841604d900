-- A response's round trips are those of its format.
use Rattle.message.specs.Format.{response_format}
use Rattle.message.specs.RoundTrip.{none, next}
use Rattle.message.proofs.RoundTrip
use Rattle.response.specs.Response.{message_of}
use Rattle.response.specs.RoundTrip.{ReadWritten, WrittenRead}

pub read_written : ReadWritten
read_written d status out n r e = RoundTrip.read_written response_format (message_of d status) out n none (next r none) e

pub written_read : WrittenRead
written_read s d status out b e h = RoundTrip.written_read response_format s (message_of d status) out b e h

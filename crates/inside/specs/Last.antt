-- Document 01, "Lines and rounds": the two moments in which a step changes something inside a unit, read off its phase and the lines, while
-- BAV is seen low.
use Rattle.std.specs.Prelude.{ℕ, ◌≡◌, true, false, List, ltb}
use Rattle.field.specs.Field.{byte_from}
use Rattle.header.specs.declared.Command.{Command}
use Rattle.header.specs.declared.Header.{Header}
use Rattle.line.specs.Line.{sent_of, taken_of}
use Rattle.line.specs.declared.Lines.{Lines}
use Rattle.line.specs.declared.Listener.{Listener}
use Rattle.line.specs.declared.Sender.{Sender}
use Rattle.phase.specs.Phase.{byte_buffer, stored_data, with_byte, is_last}
use Rattle.phase.specs.declared.Partial.{Partial}
use Rattle.phase.specs.declared.Phase.{Phase}
use Rattle.phase.specs.declared.Phase.TheVariants.{Receiving, Responding}
use Rattle.phase.specs.declared.Progress.TheVariants.{Taking}
use Rattle.queue.specs.declared.Queue.{Queue}
use Rattle.reply.specs.Reply.{last_nibble}
use Rattle.serial.specs.declared.Reply.{Reply}

-- A header with the byte whose second nibble is this one.
abbrev pub header_with : Partial → ℕ → Header
header_with p nibble = with_byte p.header p.place (byte_from p.low nibble)

-- The unit takes the last nibble of the command k with n bytes of data, of which d are stored: it is ready, HSK is low, and the byte that
-- is there with this nibble is the last one of the announced length.
pub data TakesLast (phase : Phase) (seen : Lines) (buffer : List ℕ) : Command → ℕ → List ℕ → Type 0 where
  takes_last :
      (ear : Listener) (p : Partial) → phase ≡ Receiving ear (Taking p) → taken_of ear seen.hsk ≡ true → p.half ≡ true
      → is_last (header_with p seen.nibble).data_length p.place ≡ true
      → TakesLast phase seen buffer (header_with p seen.nibble).command (header_with p seen.nibble).data_length
      (stored_data (header_with p seen.nibble).data_length (byte_buffer p (byte_from p.low seen.nibble) buffer))

-- The last nibble of its response r is done, where its input queue is q: it was placed, HSK is high, and no other follows.
pub data SendsLast (phase : Phase) (q : Queue) (seen : Lines) : Reply → Type 0 where
  sends_last : (r : Reply) (j : ℕ) (sender : Sender) → phase ≡ Responding r j sender false → sent_of sender seen.hsk ≡ true → ltb j (last_nibble q r) ≡ false → SendsLast phase q seen r

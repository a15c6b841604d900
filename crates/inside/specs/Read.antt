-- Document 01, "The serial peripheral", read: the oldest bytes of the input queue, as many as the least of queued, buffer length and accepted
-- length. They leave it when the last response nibble is done.
use Rattle.std.specs.Prelude.{ℕ, ◌≤◌, ◌≡◌, List, ◌++◌, length}
use Rattle.header.specs.declared.Command.{Command}
use Rattle.kind.specs.Kinds.{kind_of}
use Rattle.kind.specs.declared.Kind.TheVariants.{Serial as SerialUnit}
use Rattle.reply.specs.Reply.{reply_status}
use Rattle.rs232.specs.Checks.{requested_in}
use Rattle.inside.specs.Inside.{Inside, incoming, data_in, reply_for, taken_for, responded}

-- A read, 03, of a serial unit whose answer has status 00: what is answered and what is queued behind the answer are what was queued, in order.
abbrev pub ReadInOrder : Type 0
ReadInOrder =
    (own : ℕ) (x : Inside) (c : Command) (d : List ℕ)
    → kind_of own ≡ SerialUnit
    → c.command ≡ 0x03
    → reply_status (reply_for own x c d) ≡ 0x00
    → data_in x (reply_for own x c d) ++ incoming (responded (taken_for own x c d) (reply_for own x c d)) ≡ incoming x

-- Change request P5: "Scale records run past 80 bytes and owners who leave the requested length at zero get them in two." As long as a serial unit
-- is open as an open with requested length 0 has left it, one read gets all that is queued, up to 128 bytes and the buffer length.
abbrev pub ReadAtOnce : Type 0
ReadAtOnce =
    (own : ℕ) (x y : Inside) (opens reads : Command) (d e : List ℕ)
    → kind_of own ≡ SerialUnit
    → opens.command ≡ 0x00
    → requested_in d ≡ 0
    → reply_status (reply_for own x opens d) ≡ 0x00
    → y.state.opening ≡ (taken_for own x opens d).state.opening
    → reads.command ≡ 0x03
    → reply_status (reply_for own y reads e) ≡ 0x00
    → length (incoming y) ≤ 128
    → length (incoming y) ≤ reads.buffer_length
    → data_in y (reply_for own y reads e) ≡ incoming y

-- A unit in words: `loaded` says which unit stands there, for all words; `saved_in` what a save makes of the words that were there.
use Rattle.std.specs.Prelude.{ℕ, ◌+◌, ◌*◌, ◌/◌, ◌%◌, Bool, cond, List, [], ◌∷◌, eqb, replicate}
use Rattle.header.specs.declared.Header.{Header}
use Rattle.line.specs.declared.Listener.{Listener}
use Rattle.line.specs.declared.Sender.{Sender}
use Rattle.phase.specs.declared.Moved.{Moved}
use Rattle.phase.specs.declared.Partial.{Partial}
use Rattle.phase.specs.declared.Progress.TheVariants.{Taking, Answered}
use Rattle.phase.specs.declared.Phase.{Phase}
use Rattle.phase.specs.declared.Phase.TheVariants.{Idle, Selecting, Receiving, Responding, SittingOut}
use Rattle.queue.specs.declared.Queue.{Queue}
use Rattle.screen.specs.declared.Screen.{Screen}
use Rattle.screen.specs.declared.Sequence.{Sequence}
use Rattle.screen.specs.declared.Sequence.TheVariants.{Plain, Escape, Row, Column, Skips}
use Rattle.serial.specs.declared.Mode.{Mode}
use Rattle.serial.specs.declared.Mode.TheVariants.{Input, Output, Update}
use Rattle.serial.specs.declared.Opening.{Opening}
use Rattle.serial.specs.declared.Opening.TheVariants.{Closed, OpenFor}
use Rattle.serial.specs.declared.Reply.{Reply}
use Rattle.serial.specs.declared.Reply.TheVariants.{Silent, Status, Opened, Bytes, Address, Polled}
use Rattle.serial.specs.declared.Serial.{Serial}
use Rattle.unit.specs.declared.Unit.{Unit}
use Rattle.words.specs.Words.{at, written, ◌≔◌, number_in, flag_of, flag_in, tag_in, listener_of, listener_in, sender_of, sender_in, nibble_in, command_of}
use Rattle.unitwords.specs.Layout.{WORDS, OWN, RETRY, QUIET, ASKING, OPENING, ACCEPTED, ENABLED, REQUESTING, INPUT_HEAD, INPUT_COUNT, OUTPUT_HEAD, OUTPUT_COUNT, PHASE, EAR, HALF, LOW, PLACE, DEVICE, COMMAND, LOGICAL_UNIT, RECORD_NUMBER, BUFFER_LENGTH, DATA_LENGTH, REPLY, VALUE, SENDER, WAIT, NIBBLE, NEXT, LAST, ROW, COLUMN, SCROLLS, WRAPS, TOP, BOTTOM, ASKED, SEQUENCE, ARGUMENT}

-- Closed 0, open for input 1, output 2, update 3: two bits, and the word of the accepted length.
abbrev pub opening_of : ℕ → ℕ → Opening
opening_of word accepted =
    cond (eqb (word % 4) 1) (OpenFor Input (accepted % 256))
    (cond (eqb (word % 4) 2) (OpenFor Output (accepted % 256)) (cond (eqb (word % 4) 3) (OpenFor Update (accepted % 256)) Closed))

abbrev pub mode_number : Mode → ℕ
mode_number Input = 1
mode_number Output = 2
mode_number Update = 3

abbrev pub opening_number : Opening → ℕ
opening_number Closed = 0
opening_number (OpenFor m accepted) = mode_number m

abbrev pub accepted_in : ℕ → Opening → ℕ
accepted_in word Closed = word
accepted_in word (OpenFor m accepted) = number_in 256 word accepted

-- A queue: where its oldest byte stands, and how many there are.
abbrev pub queue_of : ℕ → ℕ → Queue
queue_of head count = record { head = head % 256; count = count % 65536 }

-- The sequence that a screen is reading, in the word of its tag and the word of its argument: a row, or how many arguments are still to be
-- skipped.
abbrev pub sequence_of : ℕ → ℕ → Sequence
sequence_of word argument =
    cond (eqb word 1) Escape
    (cond (eqb word 2) Row (cond (eqb word 3) (Column (argument % 256)) (cond (eqb word 4) (Skips (argument % 256)) Plain)))

abbrev pub sequence_tag : Sequence → ℕ
sequence_tag Plain = 0
sequence_tag Escape = 1
sequence_tag Row = 2
sequence_tag (Column row) = 3
sequence_tag (Skips n) = 4

abbrev pub argument_in : ℕ → Sequence → ℕ
argument_in word Plain = word
argument_in word Escape = word
argument_in word Row = word
argument_in word (Column row) = number_in 256 word row
argument_in word (Skips n) = number_in 256 word n

abbrev pub loaded_screen : List ℕ → Screen
loaded_screen ws = record {
  row = at ws ROW % 256;
  column = at ws COLUMN % 256;
  scrolls = flag_of (at ws SCROLLS);
  wraps = flag_of (at ws WRAPS);
  top = flag_of (at ws TOP);
  bottom = flag_of (at ws BOTTOM);
  asked = flag_of (at ws ASKED);
  sequence = sequence_of (at ws SEQUENCE) (at ws ARGUMENT);
}

abbrev pub screen_in : List ℕ → Screen → List ℕ
screen_in ws s =
    written ws
    (ROW ≔ number_in 256 (at ws ROW) s.row
    ∷ COLUMN ≔ number_in 256 (at ws COLUMN) s.column
    ∷ SCROLLS ≔ flag_in (at ws SCROLLS) s.scrolls
    ∷ WRAPS ≔ flag_in (at ws WRAPS) s.wraps
    ∷ TOP ≔ flag_in (at ws TOP) s.top
    ∷ BOTTOM ≔ flag_in (at ws BOTTOM) s.bottom
    ∷ ASKED ≔ flag_in (at ws ASKED) s.asked
    ∷ SEQUENCE ≔ tag_in 5 (at ws SEQUENCE) (sequence_tag s.sequence)
    ∷ ARGUMENT ≔ argument_in (at ws ARGUMENT) s.sequence
    ∷ [])

-- Its state besides the lines.
abbrev pub loaded_serial : List ℕ → Serial
loaded_serial ws = record {
  opening = opening_of (at ws OPENING) (at ws ACCEPTED);
  enabled = flag_of (at ws ENABLED);
  requesting = flag_of (at ws REQUESTING);
  input = queue_of (at ws INPUT_HEAD) (at ws INPUT_COUNT);
  output = queue_of (at ws OUTPUT_HEAD) (at ws OUTPUT_COUNT);
  screen = loaded_screen ws;
}

-- All of it but the screen, then the screen.
abbrev pub common_in : List ℕ → Serial → List ℕ
common_in ws s =
    written ws
    (OPENING ≔ number_in 4 (at ws OPENING) (opening_number s.opening)
    ∷ ACCEPTED ≔ accepted_in (at ws ACCEPTED) s.opening
    ∷ ENABLED ≔ flag_in (at ws ENABLED) s.enabled
    ∷ REQUESTING ≔ flag_in (at ws REQUESTING) s.requesting
    ∷ INPUT_HEAD ≔ number_in 256 (at ws INPUT_HEAD) s.input.head
    ∷ INPUT_COUNT ≔ number_in 65536 (at ws INPUT_COUNT) s.input.count
    ∷ OUTPUT_HEAD ≔ number_in 256 (at ws OUTPUT_HEAD) s.output.head
    ∷ OUTPUT_COUNT ≔ number_in 65536 (at ws OUTPUT_COUNT) s.output.count
    ∷ [])

abbrev pub serial_in : List ℕ → Serial → List ℕ
serial_in ws s = screen_in (common_in ws s) s.screen

-- How many bytes of the cursor's address are answered, its row and its column, in one word of three bytes.
abbrev pub address_of : ℕ → Reply
address_of value = Address (value % 256) ((value / 256) % 256) ((value / 65536) % 256)

abbrev pub address_in : ℕ → ℕ → ℕ → ℕ → ℕ
address_in word n row column = number_in 16777216 word (n + 256 * row + 65536 * column)

-- A reply in the word of its tag and the word of its value.
abbrev pub reply_of : ℕ → ℕ → Reply
reply_of word value =
    cond (eqb word 1) (Status (value % 256))
    (cond (eqb word 2) (Opened (value % 256))
    (cond (eqb word 3) (Bytes (value % 65536)) (cond (eqb word 4) Polled (cond (eqb word 5) (address_of value) Silent))))

abbrev pub reply_tag : Reply → ℕ
reply_tag Silent = 0
reply_tag (Status status) = 1
reply_tag (Opened accepted) = 2
reply_tag (Bytes n) = 3
reply_tag Polled = 4
reply_tag (Address n row column) = 5

abbrev pub value_in : ℕ → Reply → ℕ
value_in word Silent = word
value_in word (Status status) = number_in 256 word status
value_in word (Opened accepted) = number_in 256 word accepted
value_in word (Bytes n) = number_in 65536 word n
value_in word Polled = word
value_in word (Address n row column) = address_in word n row column

abbrev pub reply_in : List ℕ → Reply → List ℕ
reply_in ws reply = written ws (REPLY ≔ tag_in 6 (at ws REPLY) (reply_tag reply) ∷ VALUE ≔ value_in (at ws VALUE) reply ∷ [])

-- The header of a command that is being taken, and the rest of it.
abbrev pub loaded_header : List ℕ → Header
loaded_header ws = record {
  command = command_of (at ws DEVICE) (at ws COMMAND) (at ws LOGICAL_UNIT) (at ws RECORD_NUMBER) (at ws BUFFER_LENGTH);
  data_length = at ws DATA_LENGTH % 65536;
}

abbrev pub header_in : List ℕ → Header → List ℕ
header_in ws h =
    written ws
    (DEVICE ≔ number_in 256 (at ws DEVICE) h.command.device
    ∷ COMMAND ≔ number_in 256 (at ws COMMAND) h.command.command
    ∷ LOGICAL_UNIT ≔ number_in 256 (at ws LOGICAL_UNIT) h.command.logical_unit
    ∷ RECORD_NUMBER ≔ number_in 65536 (at ws RECORD_NUMBER) h.command.record_number
    ∷ BUFFER_LENGTH ≔ number_in 65536 (at ws BUFFER_LENGTH) h.command.buffer_length
    ∷ DATA_LENGTH ≔ number_in 65536 (at ws DATA_LENGTH) h.data_length
    ∷ [])

abbrev pub loaded_partial : List ℕ → Partial
loaded_partial ws = record { header = loaded_header ws; place = at ws PLACE; half = flag_of (at ws HALF); low = at ws LOW % 256 }

abbrev pub low_in : List ℕ → Bool → ℕ → List ℕ
low_in ws half low = written ws (HALF ≔ flag_in (at ws HALF) half ∷ LOW ≔ number_in 256 (at ws LOW) low ∷ [])

abbrev pub partial_in : List ℕ → Partial → List ℕ
partial_in ws p = header_in (written (low_in ws p.half p.low) (PLACE ≔ p.place ∷ [])) p.header

-- The phase. Tags: idle 0, selecting 1, receiving 2 until the command is whole, then 3, responding 4, sitting out 5.
abbrev pub phase_by : ℕ → List ℕ → Phase
phase_by tag ws =
    cond (eqb tag 1) (Selecting (listener_of (at ws EAR)) (flag_of (at ws HALF)) (at ws LOW % 256))
    (cond (eqb tag 2) (Receiving (listener_of (at ws EAR)) (Taking (loaded_partial ws)))
    (cond (eqb tag 3) (Receiving (listener_of (at ws EAR)) (Answered (reply_of (at ws REPLY) (at ws VALUE))))
    (cond (eqb tag 4) (Responding (reply_of (at ws REPLY) (at ws VALUE)) (at ws NEXT) (sender_of (at ws SENDER) (at ws NIBBLE)) (flag_of (at ws WAIT)))
    (cond (eqb tag 5) (SittingOut (flag_of (at ws LAST))) Idle))))

abbrev pub loaded_phase : List ℕ → Phase
loaded_phase ws = phase_by (at ws PHASE) ws

abbrev pub tagged : List ℕ → ℕ → List ℕ
tagged ws tag = written ws (PHASE ≔ tag_in 6 (at ws PHASE) tag ∷ [])

abbrev pub listening : List ℕ → ℕ → Listener → List ℕ
listening ws tag ear = written (tagged ws tag) (EAR ≔ listener_in (at ws EAR) ear ∷ [])

abbrev pub sending : List ℕ → ℕ → Sender → Bool → List ℕ
sending ws i sender wait =
    written (tagged ws 4)
    (SENDER ≔ sender_in (at ws SENDER) sender ∷ WAIT ≔ flag_in (at ws WAIT) wait ∷ NIBBLE ≔ nibble_in (at ws NIBBLE) sender ∷ NEXT ≔ i ∷ [])

abbrev pub phase_in : List ℕ → Phase → List ℕ
phase_in ws Idle = tagged ws 0
phase_in ws (Selecting ear half low) = low_in (listening ws 1 ear) half low
phase_in ws (Receiving ear (Taking p)) = partial_in (listening ws 2 ear) p
phase_in ws (Receiving ear (Answered reply)) = reply_in (listening ws 3 ear) reply
phase_in ws (Responding reply i sender wait) = reply_in (sending ws i sender wait) reply
phase_in ws (SittingOut last) = written (tagged ws 5) (LAST ≔ flag_in (at ws LAST) last ∷ [])

-- A phase, and the state beside it.
abbrev pub moved_in : List ℕ → Moved → List ℕ
moved_in ws m = phase_in (serial_in ws m.serial) m.phase

-- The unit.
abbrev pub loaded : List ℕ → Unit
loaded ws = record {
  own = at ws OWN % 256;
  retry = at ws RETRY % 65536;
  quiet = at ws QUIET % 65536;
  asking = flag_of (at ws ASKING);
  phase = loaded_phase ws;
  serial = loaded_serial ws;
}

abbrev pub row_in : List ℕ → ℕ → Bool → List ℕ
row_in ws quiet asking = written ws (QUIET ≔ number_in 65536 (at ws QUIET) quiet ∷ ASKING ≔ flag_in (at ws ASKING) asking ∷ [])

abbrev pub settings_in : List ℕ → Unit → List ℕ
settings_in ws u =
    written ws
    (OWN ≔ number_in 256 (at ws OWN) u.own
    ∷ RETRY ≔ number_in 65536 (at ws RETRY) u.retry
    ∷ QUIET ≔ number_in 65536 (at ws QUIET) u.quiet
    ∷ ASKING ≔ flag_in (at ws ASKING) u.asking
    ∷ [])

abbrev pub saved_in : List ℕ → Unit → List ℕ
saved_in ws u = phase_in (serial_in (settings_in ws u) u.serial) u.phase

-- Into cleared words: what making a unit leaves.
abbrev pub saved : Unit → List ℕ
saved u = saved_in (replicate WORDS 0) u

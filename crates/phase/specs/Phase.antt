-- Document 01, "Lines and rounds" and "The serial peripheral": a unit's round while BAV is seen low, phase by phase, in the order of
-- the paper's table.
use Rattle.std.specs.Prelude.{ℕ, ◌+◌, ◌-◌, Bool, true, false, cond, ◌&&◌, ◌||◌, List, [], ltb, leb, eqb, set, take}
use Rattle.field.specs.Field.{byte_from}
use Rattle.header.specs.Header.{header_bytes, header_in}
use Rattle.header.specs.declared.Header.{Header}
use Rattle.kind.specs.Kinds.{kind_of, verdict_of}
use Rattle.line.specs.Line.{send_of, sent_of, hear_of, taken_of, is_ready}
use Rattle.line.specs.declared.Lines.{Lines}
use Rattle.line.specs.declared.Listener.{Listener}
use Rattle.line.specs.declared.Listener.TheVariants.{Ready, Holding}
use Rattle.line.specs.declared.Sender.{Sender}
use Rattle.line.specs.declared.Sender.TheVariants.{Next}
use Rattle.message.specs.Nibbles.{nibble_in}
use Rattle.queue.specs.Queue.{contents}
use Rattle.reply.specs.Reply.{is_silent, response_bytes, last_nibble}
use Rattle.serial.specs.Serial.{applied, output_after, finished}
use Rattle.serial.specs.declared.Reply.{Reply}
use Rattle.serial.specs.declared.Serial.{Serial}
use Rattle.serial.specs.declared.Verdict.{Verdict}
use Rattle.phase.specs.declared.Partial.{Partial}
use Rattle.phase.specs.declared.Progress.{Progress}
use Rattle.phase.specs.declared.Progress.TheVariants.{Taking, Answered}
use Rattle.phase.specs.declared.Phase.{Phase}
use Rattle.phase.specs.declared.Phase.TheVariants.{Idle, Selecting, Receiving, Responding, SittingOut}
use Rattle.phase.specs.declared.Moved.{Moved}

abbrev pub moves : Phase → Serial → Moved
moves phase serial = record { phase = phase; serial = serial }

-- Idle leaves when BAV is seen low: to selecting, or to sitting out if HSK is seen low in that same round.
abbrev pub idle_step : Bool → Phase
idle_step hsk = cond hsk (SittingOut false) (Selecting Ready false 0)

-- A command of which so much is there: its header, and the byte that is next.
abbrev pub partial : Header → ℕ → Partial
partial h place = record { header = h; place = place; half = false; low = 0 }

-- A header with b as the byte at a place.
abbrev pub with_byte : Header → ℕ → ℕ → Header
with_byte h place b = header_in (set (header_bytes h) place b)

-- Two nibbles taken: own code or code 0 goes on to receiving, any other sits out. In this round the pull of HSK stands.
abbrev pub selected : ℕ → ℕ → Phase
selected own code =
    cond (eqb code own || eqb code 0) (Receiving Holding (Taking (partial (with_byte (header_in []) 0 code) 1))) (SittingOut true)

abbrev pub selecting_step : ℕ → Listener → Bool → ℕ → Lines → Bool → Phase
selecting_step own ear half low seen busy =
    cond (taken_of ear seen.hsk)
    (cond half (selected own (byte_from low seen.nibble)) (Selecting Holding true seen.nibble))
    (Selecting (hear_of ear seen.hsk busy) half low)

-- Data byte i, from 0, goes to place i of the lent buffer. When more than 256 are announced, all are handshaken and none is stored.
abbrev pub is_stored : ℕ → ℕ → Bool
is_stored n place = leb 9 place && (leb n 256 && ltb (place - 9) n)

abbrev pub buffer_with : ℕ → ℕ → ℕ → List ℕ → List ℕ
buffer_with n place b buffer = cond (is_stored n place) (set buffer (place - 9) b) buffer

-- The data that a check and an effect see.
abbrev pub stored_data : ℕ → List ℕ → List ℕ
stored_data n buffer = cond (ltb 256 n) [] (take n buffer)

-- The last nibble of the announced length is taken: the answer is fixed, and effects happen.
abbrev pub verdict_on : ℕ → Serial → Header → List ℕ → Verdict
verdict_on own s h buffer = verdict_of (kind_of own) s h.command h.data_length (stored_data h.data_length buffer)

abbrev pub answered : ℕ → Serial → Header → List ℕ → Moved
answered own s h buffer =
    moves (Receiving Holding (Answered (verdict_on own s h buffer).reply))
    (applied s (verdict_on own s h buffer).effect (stored_data h.data_length buffer))

abbrev pub stored : ℕ → Serial → Header → List ℕ → List ℕ → List ℕ
stored own s h buffer output = output_after s (verdict_on own s h buffer).effect (stored_data h.data_length buffer) output

-- The byte at a place is the last of a message with n bytes of data.
abbrev pub is_last : ℕ → ℕ → Bool
is_last n place = leb (8 + n) place

-- A byte is there: what the phase and state, the lent buffer and the memory for what is written to it become.
abbrev pub byte_step : ℕ → Serial → Partial → ℕ → List ℕ → Moved
byte_step own s p b buffer =
    cond (is_last (with_byte p.header p.place b).data_length p.place)
    (answered own s (with_byte p.header p.place b) (buffer_with (with_byte p.header p.place b).data_length p.place b buffer))
    (moves (Receiving Holding (Taking (partial (with_byte p.header p.place b) (p.place + 1)))) s)

abbrev pub byte_buffer : Partial → ℕ → List ℕ → List ℕ
byte_buffer p b buffer = buffer_with (with_byte p.header p.place b).data_length p.place b buffer

abbrev pub byte_output : ℕ → Serial → Partial → ℕ → List ℕ → List ℕ → List ℕ
byte_output own s p b buffer output =
    cond (is_last (with_byte p.header p.place b).data_length p.place)
    (stored own s (with_byte p.header p.place b) (byte_buffer p b buffer) output)
    output

-- Receiving, until the last nibble is taken.
abbrev pub taking_step : ℕ → Serial → Listener → Partial → Lines → Bool → List ℕ → Moved
taking_step own s ear p seen busy buffer =
    cond (taken_of ear seen.hsk)
    (cond p.half (byte_step own s p (byte_from p.low seen.nibble) buffer)
    (moves (Receiving Holding (Taking (record { header = p.header; place = p.place; half = true; low = seen.nibble }))) s))
    (moves (Receiving (hear_of ear seen.hsk busy) (Taking p)) s)

abbrev pub taking_buffer : Listener → Partial → Lines → List ℕ → List ℕ
taking_buffer ear p seen buffer =
    cond (taken_of ear seen.hsk) (cond p.half (byte_buffer p (byte_from p.low seen.nibble) buffer) buffer) buffer

abbrev pub taking_output : ℕ → Serial → Listener → Partial → Lines → List ℕ → List ℕ → List ℕ
taking_output own s ear p seen buffer output =
    cond (taken_of ear seen.hsk) (cond p.half (byte_output own s p (byte_from p.low seen.nibble) buffer output) output) output

-- Receiving leaves when the last nibble of the announced length is taken and HSK seen high. A response begins exactly two rounds
-- after; a command that draws none leads to sitting out.
abbrev pub replied : Reply → Phase
replied reply = cond (is_silent reply) (SittingOut false) (Responding reply 0 Next true)

abbrev pub answered_step : Listener → Reply → Bool → Bool → Phase
answered_step ear reply hsk busy =
    cond (is_ready (hear_of ear hsk busy)) (replied reply) (Receiving (hear_of ear hsk busy) (Answered reply))

-- Responding: last nibble done, to sitting out, and what waited for it happens.
abbrev pub done : Serial → Reply → Moved
done s reply = moves (SittingOut false) (finished s reply)

abbrev pub sent_step : Serial → Reply → ℕ → Moved
sent_step s reply i = cond (ltb i (last_nibble s.input reply)) (moves (Responding reply (i + 1) Next false) s) (done s reply)

abbrev pub responding_step : Serial → Reply → ℕ → Sender → Bool → Bool → List ℕ → Moved
responding_step s reply i sender wait hsk input =
    cond wait (moves (Responding reply i sender false) s)
    (cond (sent_of sender hsk) (sent_step s reply i)
    (moves (Responding reply i (send_of sender hsk (nibble_in (response_bytes (contents input s.input) reply) i)) false) s))

-- The round of a phase, while BAV is seen low. Sitting out leaves when BAV is seen high.
abbrev pub receiving_step : ℕ → Serial → Listener → Progress → Lines → Bool → List ℕ → Moved
receiving_step own s ear (Taking p) seen busy buffer = taking_step own s ear p seen busy buffer
receiving_step own s ear (Answered reply) seen busy buffer = moves (answered_step ear reply seen.hsk busy) s

abbrev pub phase_step : Phase → ℕ → Serial → Lines → Bool → List ℕ → List ℕ → Moved
phase_step Idle own s seen busy buffer input = moves (idle_step seen.hsk) s
phase_step (Selecting ear half low) own s seen busy buffer input = moves (selecting_step own ear half low seen busy) s
phase_step (Receiving ear progress) own s seen busy buffer input = receiving_step own s ear progress seen busy buffer
phase_step (Responding reply i sender wait) own s seen busy buffer input = responding_step s reply i sender wait seen.hsk input
phase_step (SittingOut last) own s seen busy buffer input = moves (SittingOut false) s

-- The lent buffer and the memory for what is written to it, after it: only receiving changes them.
abbrev pub receiving_buffer : Listener → Progress → Lines → List ℕ → List ℕ
receiving_buffer ear (Taking p) seen buffer = taking_buffer ear p seen buffer
receiving_buffer ear (Answered reply) seen buffer = buffer

abbrev pub phase_buffer : Phase → Lines → List ℕ → List ℕ
phase_buffer Idle seen buffer = buffer
phase_buffer (Selecting ear half low) seen buffer = buffer
phase_buffer (Receiving ear progress) seen buffer = receiving_buffer ear progress seen buffer
phase_buffer (Responding reply i sender wait) seen buffer = buffer
phase_buffer (SittingOut last) seen buffer = buffer

abbrev pub receiving_output : ℕ → Serial → Listener → Progress → Lines → List ℕ → List ℕ → List ℕ
receiving_output own s ear (Taking p) seen buffer output = taking_output own s ear p seen buffer output
receiving_output own s ear (Answered reply) seen buffer output = output

abbrev pub phase_output : Phase → ℕ → Serial → Lines → List ℕ → List ℕ → List ℕ
phase_output Idle own s seen buffer output = output
phase_output (Selecting ear half low) own s seen buffer output = output
phase_output (Receiving ear progress) own s seen buffer output = receiving_output own s ear progress seen buffer output
phase_output (Responding reply i sender wait) own s seen buffer output = output
phase_output (SittingOut last) own s seen buffer output = output

-- Document 01, "The serial peripheral" (000, 5.4 and its RS-232 chapter): the checks of a serial unit on a whole command, and what they
-- answer.
use Rattle.std.specs.Prelude.{ℕ, ◌/◌, ◌%◌, min, Bool, true, false, cond, ◌||◌, Option, Some, None, Result, Ok, Err, List, [], ◌∷◌, ltb, eqb, get_or}
use Rattle.field.specs.Field.{value_of}
use Rattle.header.specs.declared.Command.{Command}
use Rattle.queue.specs.Queue.{held, room}
use Rattle.serial.specs.declared.Mode.{Mode}
use Rattle.serial.specs.declared.Mode.TheVariants.{Input, Output, Update}
use Rattle.serial.specs.declared.Opening.{Opening}
use Rattle.serial.specs.declared.Opening.TheVariants.{Closed, OpenFor}
use Rattle.serial.specs.declared.Serial.{Serial}
use Rattle.serial.specs.declared.Reply.TheVariants.{Status, Opened, Bytes}
use Rattle.serial.specs.declared.Effect.TheVariants.{Keeps, Opens, Closes, Enables, Disables, Stores}
use Rattle.serial.specs.Verdict.{says, status, poll_by}
use Rattle.serial.specs.declared.Verdict.{Verdict}

-- Attribute bits 7-6: 01 input, 10 output, 11 update.
abbrev pub mode_of : ℕ → Mode
mode_of attributes = cond (eqb (attributes / 64) 1) Input (cond (eqb (attributes / 64) 2) Output Update)

-- Requested length 0 means 128 (change request P5).
abbrev pub accepted_of : ℕ → ℕ
accepted_of requested = cond (eqb requested 0) 128 requested

-- What an open's data asks for: the requested length in its first two bytes, the attributes in the third.
abbrev pub requested_in : List ℕ → ℕ
requested_in d = value_of (get_or d 0 0 ∷ get_or d 1 0 ∷ [])

abbrev pub attributes_in : List ℕ → ℕ
attributes_in d = get_or d 2 0

-- Whether an open with n bytes of data is accepted by a closed unit of any kind, else the status that refuses it: under 3 data bytes 02;
-- append mode 13; a mode that its kind does not open for, the status that refuses it; relative bit set 11; requested length over 128, or the
-- buffer length field under 4, 0C; option bytes present 01.
abbrev pub mode_or : Option ℕ → Result (Unit {0}) ℕ → Result (Unit {0}) ℕ
mode_or (Some status) rest = Err status
mode_or None rest = rest

abbrev pub open_status : Option ℕ → ℕ → ℕ → ℕ → ℕ → Result (Unit {0}) ℕ
open_status refused buffer n requested attributes =
    cond (ltb n 3) (Err 0x02)
    (cond (eqb (attributes / 64) 0) (Err 0x13)
    (mode_or refused
    (cond (eqb (attributes / 32 % 2) 1) (Err 0x11)
    (cond (ltb 128 requested) (Err 0x0C)
    (cond (ltb buffer 4) (Err 0x0C)
    (cond (ltb 3 n) (Err 0x01) (Ok tt)))))))

-- What an open that comes to this answers: the verdict, or the status that refuses it.
abbrev pub opened_or : Result (Unit {0}) ℕ → Verdict → Verdict
opened_or (Ok done) verdict = verdict
opened_or (Err number) verdict = status number

-- A serial unit opens for input, output and update. Success answers four data bytes.
abbrev pub open_by : ℕ → ℕ → ℕ → ℕ → Verdict
open_by buffer n requested attributes =
    opened_or (open_status None buffer n requested attributes)
    (says (Opened (accepted_of requested)) (Opens (mode_of attributes) (accepted_of requested)))

-- How many bytes a read answers: the least of those that there are, buffer length and accepted length.
abbrev pub read_length : ℕ → ℕ → ℕ → ℕ
read_length n buffer accepted = min n (min buffer accepted)

-- Read: opened for output 0F. Else the oldest bytes.
abbrev pub read_by : Mode → ℕ → ℕ → ℕ → Verdict
read_by Input accepted buffer queued = says (Bytes (read_length queued buffer accepted)) Keeps
read_by Output accepted buffer queued = status 0x0F
read_by Update accepted buffer queued = says (Bytes (read_length queued buffer accepted)) Keeps

-- Write: opened for input 0E; more than the output room 08 and none stored; else all stored.
abbrev pub write_by : Mode → ℕ → ℕ → Verdict
write_by Input n room = status 0x0E
write_by Output n room = cond (ltb room n) (status 0x08) (says (Status 0x00) Stores)
write_by Update n room = cond (ltb room n) (status 0x08) (says (Status 0x00) Stores)

-- 7 to 10, of a unit that is open for a mode. 08 enables service. 09 ends service and request.
abbrev pub opened_by : Mode → ℕ → Serial → Command → ℕ → Verdict
opened_by m accepted s c n =
    cond (eqb c.command 0x01) (says (Status 0x00) Closes)
    (cond (eqb c.command 0x03) (read_by m accepted c.buffer_length (held s.input))
    (cond (eqb c.command 0x04) (write_by m n (room s.output))
    (cond (eqb c.command 0x08) (says (Status 0x00) Enables)
    (says (Status 0x00) Disables))))

-- 5: open, already open 05. 6: all others but the poll, not open 04.
abbrev pub closed_by : Serial → Command → ℕ → List ℕ → Verdict
closed_by s c n d =
    cond (eqb c.command 0x00) (open_by c.buffer_length n (requested_in d) (attributes_in d))
    (cond (eqb c.command 0x0A) (poll_by s.enabled s.requesting) (status 0x04))

abbrev pub command_by : Opening → Serial → Command → ℕ → List ℕ → Verdict
command_by Closed s c n d = closed_by s c n d
command_by (OpenFor m accepted) s c n d =
    cond (eqb c.command 0x00) (status 0x05)
    (cond (eqb c.command 0x0A) (poll_by s.enabled s.requesting) (opened_by m accepted s c n))

-- 3: codes other than 00, 01, 03, 04, 08, 09, 0A.
abbrev pub supported : ℕ → Bool
supported code =
    eqb code 0x00 || (eqb code 0x01 || (eqb code 0x03 || (eqb code 0x04 || (eqb code 0x08 || (eqb code 0x09 || eqb code 0x0A)))))

-- Checks 3 to 11 on a command with n bytes of data, of which d are stored. 3: 0D. 4: data above 256, 08.
abbrev pub checked : Serial → Command → ℕ → List ℕ → Verdict
checked s c n d = cond (supported c.command) (cond (ltb 256 n) (status 0x08) (command_by s.opening s c n d)) (status 0x0D)

-- Fed only while open for input or update.
abbrev pub takes_bytes : Opening → Bool
takes_bytes Closed = false
takes_bytes (OpenFor Input accepted) = true
takes_bytes (OpenFor Output accepted) = false
takes_bytes (OpenFor Update accepted) = true

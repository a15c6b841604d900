-- Document 01, "Marked cases": what the definitions give beside what the paper says, in one list.
use Rattle.std.specs.Prelude.{ℕ, ◌≡◌, true, false, List, [], ◌∷◌, ◌++◌, map, length, replicate, take}
use Rattle.field.specs.Field.{nibbles}
use Rattle.message.specs.Answer.{Answer, gives, refused}
use Rattle.message.specs.Format.{command_format, bytes_of, least}
use Rattle.message.specs.Reading.{reading}
use Rattle.message.specs.Writing.{writing, written_as}
use Rattle.command.specs.Command.{message_of}
use Rattle.application.specs.Calls.{controller_submitted}
use Rattle.controller.specs.Controller.{new_controller, with_ring, controller_step}
use Rattle.controller.specs.declared.Controller.{Controller}
use Rattle.header.specs.declared.Command.{Command}
use Rattle.kind.specs.Kinds.{kind_of, verdict_of}
use Rattle.line.specs.declared.Lines.{Lines}
use Rattle.queue.specs.Queue.{contents}
use Rattle.reply.specs.Reply.{response_bytes}
use Rattle.ring.specs.Ring.{entry_of, live, ring_of}
use Rattle.ring.specs.declared.Entry.{Entry}
use Rattle.serial.specs.Serial.{new_serial, applied, with_input}
use Rattle.serial.specs.declared.Serial.{Serial}

-- What a case is about: bytes, nibbles, a ring's codes in order, the number of a refusal, or that none came.
pub data Outcome : Type 0 where
  bytes : List ℕ → Outcome
  in_nibbles : List ℕ → Outcome
  in_ring : List ℕ → Outcome
  refusal : ℕ → Outcome
  done : Outcome

abbrev pub outcome : {A : Type 0} → Answer A → Outcome
outcome (gives a) = done
outcome (refused k) = refusal k

pub record Case : Type 0 where
  pub given : Outcome
  pub paper : Outcome

-- Open, device 20, unit 1, record 0, buffer 4; length 80, update.
abbrev pub open_device20 : Command
open_device20 = record { device = 20; command = 0x00; logical_unit = 1; record_number = 0; buffer_length = 4 }

abbrev pub open_data : List ℕ
open_data = 0x50 ∷ 0x00 ∷ 0xC0 ∷ []

abbrev pub open_bytes : List ℕ
open_bytes = 0x14 ∷ 0x00 ∷ 0x01 ∷ 0x00 ∷ 0x00 ∷ 0x04 ∷ 0x00 ∷ 0x03 ∷ 0x00 ∷ 0x50 ∷ 0x00 ∷ 0xC0 ∷ []

-- The response of the unit with code 20 in a state, whose input queue has these bytes, to a command with data.
abbrev pub answer_of : Serial → List ℕ → Command → List ℕ → List ℕ
answer_of s input c d = response_bytes (contents input s.input) (verdict_of (kind_of 20) s c (length d) d).reply

-- That unit after a command with data; a read of device 20 with a buffer length.
abbrev pub unit_after : Serial → Command → List ℕ → Serial
unit_after s c d = applied s (verdict_of (kind_of 20) s c (length d) d).effect d

abbrev pub read_device20 : ℕ → Command
read_device20 buffer = record { device = 20; command = 0x03; logical_unit = 1; record_number = 0; buffer_length = buffer }

-- A unit that is open by M1, with the three bytes 41 42 43 in its input queue.
abbrev pub with_three : Serial
with_three = with_input (unit_after new_serial open_device20 open_data) (record { head = 0; count = 3 })

abbrev pub three : List ℕ
three = 0x41 ∷ 0x42 ∷ 0x43 ∷ []

-- A controller after rounds with these levels, its host not busy.
abbrev pub after : Controller → List Lines → Controller
after c [] = c
after c (seen ∷ rest) = after (controller_step c seen false []) rest

-- Levels: HSK high while BAV is low; an answer 00 00 00, each of its six nibbles with HSK low, then high.
abbrev pub hsk_high : Lines
hsk_high = record { bav = true; hsk = false; nibble = 15 }

abbrev pub hsk_low : ℕ → Lines
hsk_low nibble = record { bav = true; hsk = true; nibble = nibble }

abbrev pub nibble_sent : ℕ → List Lines
nibble_sent nibble = hsk_low nibble ∷ hsk_high ∷ hsk_high ∷ []

abbrev pub good_answer : List Lines
good_answer = nibble_sent 0 ++ (nibble_sent 0 ++ (nibble_sent 0 ++ (nibble_sent 0 ++ (nibble_sent 0 ++ nibble_sent 0))))

-- Ring 20, 21, 22 with time-out 8. A frame of 18 nibbles takes 56 rounds until it listens, then 8 to the time-out; 2 of rest follow.
abbrev pub three_units : Controller
three_units = with_ring (new_controller 8) (ring_of (entry_of 20 false ∷ entry_of 21 false ∷ entry_of 22 false ∷ []))

abbrev pub enable23 : Command
enable23 = record { device = 23; command = 0x08; logical_unit = 0; record_number = 0; buffer_length = 0 }

-- One service frame from idle; then 08 to 23 is submitted, its frame begins, and its answer is 00.
abbrev pub after_service : Controller
after_service = after three_units (replicate 66 hsk_high)

abbrev pub after_join : Controller
after_join = after (controller_submitted after_service enable23 0 0) (replicate 56 hsk_high ++ good_answer)

abbrev pub codes_in : Controller → List ℕ
codes_in c = map (λ (e : Entry). e.code) (live c.ring)

abbrev pub cases : List Case
cases =
    -- M1: the bytes; first nibbles 4, 1
    record { given = bytes (bytes_of command_format (message_of open_device20 open_data)); paper = bytes open_bytes } ∷
    record { given = in_nibbles (take 2 (nibbles open_bytes)); paper = in_nibbles (4 ∷ 1 ∷ []) } ∷
    -- M2: answer from a closed unit
    record { given = bytes (answer_of new_serial [] open_device20 open_data); paper = bytes (0x04 ∷ 0x00 ∷ 0x50 ∷ 0x00 ∷ 0x00 ∷ 0x00 ∷ 0x00 ∷ []) } ∷
    -- M3: M1 again while open
    record { given = bytes (answer_of (unit_after new_serial open_device20 open_data) [] open_device20 open_data); paper = bytes (0x00 ∷ 0x00 ∷ 0x05 ∷ []) } ∷
    -- M4: closed, data 50 00
    record { given = bytes (answer_of new_serial [] open_device20 (0x50 ∷ 0x00 ∷ [])); paper = bytes (0x00 ∷ 0x00 ∷ 0x02 ∷ []) } ∷
    -- M5: attributes 00, and E0
    record { given = bytes (answer_of new_serial [] open_device20 (0x50 ∷ 0x00 ∷ 0x00 ∷ [])); paper = bytes (0x00 ∷ 0x00 ∷ 0x13 ∷ []) } ∷
    record { given = bytes (answer_of new_serial [] open_device20 (0x50 ∷ 0x00 ∷ 0xE0 ∷ [])); paper = bytes (0x00 ∷ 0x00 ∷ 0x11 ∷ []) } ∷
    -- M6, its first clause by change request P5: requested 0 accepts 128; 128 accepts 128; 129 gives 0C
    record { given = bytes (answer_of new_serial [] open_device20 (0 ∷ 0x00 ∷ 0xC0 ∷ [])); paper = bytes (0x04 ∷ 0x00 ∷ 128 ∷ 0x00 ∷ 0x00 ∷ 0x00 ∷ 0x00 ∷ []) } ∷
    record { given = bytes (answer_of new_serial [] open_device20 (128 ∷ 0x00 ∷ 0xC0 ∷ [])); paper = bytes (0x04 ∷ 0x00 ∷ 128 ∷ 0x00 ∷ 0x00 ∷ 0x00 ∷ 0x00 ∷ []) } ∷
    record { given = bytes (answer_of new_serial [] open_device20 (129 ∷ 0x00 ∷ 0xC0 ∷ [])); paper = bytes (0x00 ∷ 0x00 ∷ 0x0C ∷ []) } ∷
    -- M7: queue 41 42 43, read with buffer 5, and with buffer 2
    record { given = bytes (answer_of with_three three (read_device20 5) []); paper = bytes (0x03 ∷ 0x00 ∷ 0x41 ∷ 0x42 ∷ 0x43 ∷ 0x00 ∷ []) } ∷
    record { given = bytes (answer_of with_three three (read_device20 2) []); paper = bytes (0x02 ∷ 0x00 ∷ 0x41 ∷ 0x42 ∷ 0x00 ∷ []) } ∷
    -- M8: read when opened with attributes 80 (output)
    record { given = bytes (answer_of (unit_after new_serial open_device20 (0x50 ∷ 0x00 ∷ 0x80 ∷ [])) [] (read_device20 5) []); paper = bytes (0x00 ∷ 0x00 ∷ 0x0F ∷ []) } ∷
    -- M9: ring 20, 21, 22; after one service frame, 23 joins
    record { given = in_ring (codes_in three_units); paper = in_ring (20 ∷ 21 ∷ 22 ∷ []) } ∷
    record { given = in_ring (codes_in after_join); paper = in_ring (21 ∷ 22 ∷ 20 ∷ 23 ∷ []) } ∷
    -- M10: command slices of 8 bytes, and of 9 bytes announcing 1
    record { given = outcome (reading command_format (replicate 8 0)); paper = refusal 9 } ∷
    record { given = outcome (reading command_format (0 ∷ 0 ∷ 0 ∷ 0 ∷ 0 ∷ 0 ∷ 0 ∷ 1 ∷ 0 ∷ [])); paper = refusal 10 } ∷
    -- M10: M1 into 11 bytes, and into 12
    record { given = outcome (writing (least command_format) (length open_data) 11); paper = refusal 11 } ∷
    record { given = bytes (written_as command_format (message_of open_device20 open_data) (replicate 11 0)); paper = bytes (replicate 11 0) } ∷
    record { given = outcome (writing (least command_format) (length open_data) 12); paper = done } ∷
    record { given = bytes (written_as command_format (message_of open_device20 open_data) (replicate 12 0)); paper = bytes open_bytes } ∷
    []

-- All of them at once.
abbrev pub Marked : Type 0
Marked = map (λ (c : Case). c.given) cases ≡ map (λ (c : Case). c.paper) cases

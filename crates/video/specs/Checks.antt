-- 000, the display chapter, section 4: the checks of a video unit on a whole command, and what they answer. They are numbered and ordered as
-- the serial unit's.
use Rattle.std.specs.Prelude.{ℕ, ◌/◌, Bool, cond, ◌||◌, Option, Some, None, List, ltb, eqb}
use Rattle.header.specs.declared.Command.{Command}
use Rattle.rs232.specs.Checks.{mode_of, accepted_of, requested_in, attributes_in, open_status, opened_or, read_length}
use Rattle.screen.specs.declared.Screen.{Screen}
use Rattle.serial.specs.declared.Effect.TheVariants.{Keeps, OpensScreen, ResetsScreen, Closes, Shows}
use Rattle.serial.specs.declared.Effect.{Effect}
use Rattle.serial.specs.declared.Mode.{Mode}
use Rattle.serial.specs.declared.Mode.TheVariants.{Input, Output, Update}
use Rattle.serial.specs.declared.Opening.{Opening}
use Rattle.serial.specs.declared.Opening.TheVariants.{Closed, OpenFor}
use Rattle.serial.specs.declared.Reply.TheVariants.{Status, Opened, Address}
use Rattle.serial.specs.declared.Serial.{Serial}
use Rattle.serial.specs.declared.Verdict.{Verdict}
use Rattle.serial.specs.Verdict.{says, status}

-- Output and update mode open it; input mode is 15, right behind append.
abbrev pub refused_mode : ℕ → Option ℕ
refused_mode attributes = cond (eqb (attributes / 64) 1) (Some 0x15) None

-- An open with n bytes of data, in a unit that is closed. Success answers as a serial unit does, and clears the screen.
abbrev pub open_by : ℕ → ℕ → ℕ → ℕ → Verdict
open_by buffer n requested attributes =
    opened_or (open_status (refused_mode attributes) buffer n requested attributes)
    (says (Opened (accepted_of requested)) (OpensScreen (mode_of attributes) (accepted_of requested)))

-- Read: opened for output 0F. Else the cursor's row and column where they are asked for; where not, no data.
abbrev pub address_by : Screen → ℕ → ℕ → Verdict
address_by s accepted buffer = cond s.asked (says (Address (read_length 2 buffer accepted) s.row s.column) Keeps) (status 0x00)

abbrev pub read_by : Mode → Screen → ℕ → ℕ → Verdict
read_by Input s accepted buffer = address_by s accepted buffer
read_by Output s accepted buffer = status 0x0F
read_by Update s accepted buffer = address_by s accepted buffer

-- Write: its text goes to the screen.
abbrev pub write_by : Mode → Verdict
write_by Input = status 0x0E
write_by Output = says (Status 0x00) Shows
write_by Update = says (Status 0x00) Shows

-- 5: open, already open 05. 7 to 9, of a unit that is open for a mode.
abbrev pub opened_by : Mode → ℕ → Screen → Command → Verdict
opened_by m accepted s c =
    cond (eqb c.command 0x00) (status 0x05)
    (cond (eqb c.command 0x01) (says (Status 0x00) Closes)
    (cond (eqb c.command 0x03) (read_by m s accepted c.buffer_length) (write_by m)))

-- 6: all others but the poll, not open 04.
abbrev pub closed_by : Command → ℕ → List ℕ → Verdict
closed_by c n d = cond (eqb c.command 0x00) (open_by c.buffer_length n (requested_in d) (attributes_in d)) (status 0x04)

abbrev pub command_by : Opening → Screen → Command → ℕ → List ℕ → Verdict
command_by Closed s c n d = closed_by c n d
command_by (OpenFor m accepted) s c n d = opened_by m accepted s c

-- 3: codes other than 00, 01, 03, 04, 0A; so 08 and 09 too.
abbrev pub supported : ℕ → Bool
supported code = eqb code 0x00 || (eqb code 0x01 || (eqb code 0x03 || (eqb code 0x04 || eqb code 0x0A)))

-- Checks 3 to 11 on a command with n bytes of data, of which d are stored. 3: 0D. 4: data above 256, 08. 11: a poll, open or not, 0A.
abbrev pub checked : Serial → Command → ℕ → List ℕ → Verdict
checked s c n d =
    cond (supported c.command)
    (cond (ltb 256 n) (status 0x08) (cond (eqb c.command 0x0A) (status 0x0A) (command_by s.opening s.screen c n d)))
    (status 0x0D)

-- Bus reset, FF: an open unit is new, and its screen clear; a closed one does nothing.
abbrev pub reset_by : Opening → Effect
reset_by Closed = Keeps
reset_by (OpenFor m accepted) = ResetsScreen

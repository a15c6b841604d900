-- The kinds of unit: all that differs between them stands here, one line to a kind. A unit's kind follows from its own code, and nothing
-- else tells units apart.
use Rattle.std.specs.Prelude.{ℕ, Bool, false, cond, ◌||◌, ◌&&◌, List, ltb, leb, eqb}
use Rattle.header.specs.declared.Command.{Command}
use Rattle.rs232.specs.Checks.{checked as serialChecked, takes_bytes}
use Rattle.serial.specs.Verdict.{says}
use Rattle.serial.specs.declared.Effect.{Effect}
use Rattle.serial.specs.declared.Effect.TheVariants.{Keeps, Resets}
use Rattle.serial.specs.declared.Opening.{Opening}
use Rattle.serial.specs.declared.Reply.TheVariants.{Silent}
use Rattle.serial.specs.declared.Serial.{Serial}
use Rattle.serial.specs.declared.Verdict.{Verdict}
use Rattle.video.specs.Checks.{checked as videoChecked, reset_by}
use Rattle.kind.specs.declared.Kind.{Kind}
use Rattle.kind.specs.declared.Kind.TheVariants.{Serial as SerialUnit, Video as VideoUnit}

-- By the own code: 30 to 33 are video units (000, 4.3.1: TV interface), all others serial units. It stays shut where it is not named: lines,
-- bus and ring know no kind.
unfoldable pub kind_of : ℕ → Kind
kind_of own = cond (leb 30 own && leb own 33) VideoUnit SerialUnit

-- Checks 3 to 11.
abbrev pub checks_of : Kind → Serial → Command → ℕ → List ℕ → Verdict
checks_of SerialUnit s c n d = serialChecked s c n d
checks_of VideoUnit s c n d = videoChecked s c n d

-- What a bus reset, FF, does. It closes a serial unit, empties both queues, and ends service and request.
abbrev pub reset_of : Kind → Serial → Effect
reset_of SerialUnit s = Resets
reset_of VideoUnit s = reset_by s.opening

-- Document 01, "The serial peripheral", checks 1 and 2, of every kind: FE does nothing, FF resets the unit; neither draws a response, at
-- any code; at device code 0 nothing else acts. The command has n bytes of data, of which d are stored.
abbrev pub verdict_of : Kind → Serial → Command → ℕ → List ℕ → Verdict
verdict_of kind s c n d =
    cond (eqb c.command 0xFE) (says Silent Keeps)
    (cond (eqb c.command 0xFF) (says Silent (reset_of kind s))
    (cond (eqb c.device 0) (says Silent Keeps) (checks_of kind s c n d)))

-- Whether a unit that is so open is fed.
abbrev pub is_fed : Kind → Opening → Bool
is_fed SerialUnit opening = takes_bytes opening
is_fed VideoUnit opening = false

-- How many bytes a unit is lent for what is written to it: those of a serial unit's output queue, or the cells of a screen.
abbrev pub lent_to : Kind → ℕ
lent_to SerialUnit = 256
lent_to VideoUnit = 1920

-- Whether the memory that a step of such a unit is lent is too short: a command buffer of `room` bytes under 256, or `lent` bytes for what
-- is written to it under what its kind needs.
abbrev pub is_short : Kind → ℕ → ℕ → Bool
is_short kind room lent = ltb room 256 || ltb lent (lent_to kind)

-- Scripts for demand 2's bus: rounds and calls, one after the other. A script leads from a world to another, and is a run between them.
use Rattle.std.specs.Prelude.{ℕ, zero, suc, ◌≡◌, Bool, true, false, ◌&&◌, List, [], ◌∷◌, map, ltb, length, replicate}
use Rattle.std.proofs.lemmas.Bool.{false≢true}
use Rattle.std.proofs.Common.{ltb-true, lit<}
use Rattle.bus.specs.declared.Station.{Station}
use Rattle.controller.specs.Controller.{new_controller}
use Rattle.delivery.specs.Calls.{Call, submits, called}
use Rattle.delivery.specs.Run.{Run, a_round, a_call}
use Rattle.delivery.specs.World.{World, Busy, round}
use Rattle.field.specs.Field.{Below}
use Rattle.header.specs.Header.{InRange}
use Rattle.header.specs.declared.Command.{Command}
use Rattle.kind.specs.Kinds.{kind_of, lent_to}
use Rattle.unit.specs.Unit.{new_unit}

-- A quiet start: new units with these codes, each lent what its kind needs; before anything is written to it, that memory holds 2A everywhere.
-- The time-out is 8 and every retry count 4, the least that the papers allow.
abbrev pub station_of : ℕ → Station
station_of own = record { unit = new_unit own 4; buffer = replicate 256 0; input = replicate 256 0; output = replicate (lent_to (kind_of own)) 0x2A }

abbrev pub quiet_bus : List ℕ → World
quiet_bus codes = record { controller = new_controller 8; units = map station_of codes; lent = []; response = [] }

-- So many rounds with these hosts busy, or a call.
pub data Doing : Type 0 where
  rounds : ℕ → Busy → Doing
  calls : Call → Doing

-- The world after them.
abbrev pub after_rounds : ℕ → Busy → World → World
after_rounds zero busy w = w
after_rounds (suc n) busy w = after_rounds n busy (round w busy)

abbrev pub after : List Doing → World → World
after [] w = w
after (rounds n busy ∷ script) w = after script (after_rounds n busy w)
after (calls call ∷ script) w = after script (called w call)

-- A run that goes on with them.
abbrev pub run_rounds : (n : ℕ) (busy : Busy) {w v : World} → Run w v → Run w (after_rounds n busy v)
run_rounds zero busy r = r
run_rounds (suc n) busy r = run_rounds n busy (a_round r busy)

abbrev pub run_on : (script : List Doing) {w v : World} → Run w v → Run w (after script v)
run_on [] r = r
run_on (rounds n busy ∷ script) r = run_on script (run_rounds n busy r)
run_on (calls call ∷ script) r = run_on script (a_call r call)

-- What the types say of a submitted command: codes and data are bytes, and two bytes hold the buffer length.
abbrev pub are_bytes : List ℕ → Bool
are_bytes [] = true
are_bytes (b ∷ d) = ltb b 256 && are_bytes d

abbrev pub is_typed : (device command : ℕ) (d response : List ℕ) → Bool
is_typed device command d response = are_bytes (device ∷ command ∷ d) && ltb (length response) 65536

pub both : (a b : Bool) → (a && b) ≡ true → (a ≡ true) × (b ≡ true)
both true true e = (e, e)
both true false e = absurd (false≢true e)
both false b e = absurd (false≢true e)

below : (d : List ℕ) → are_bytes d ≡ true → Below 256 d
below [] e i = lit< tt
below (b ∷ d) e zero = ltb-true b 256 (both (ltb b 256) (are_bytes d) e).0
below (b ∷ d) e (suc i) = below d (both (ltb b 256) (are_bytes d) e).1 i

-- The application submits a command with its data. It lends a response buffer that is as long as the buffer length field says.
abbrev pub command_to : ℕ → ℕ → ℕ → Command
command_to device command buffer = record { device = device; command = command; logical_unit = 0; record_number = 0; buffer_length = buffer }

pub in_range : (device command : ℕ) (d response : List ℕ) → is_typed device command d response ≡ true → InRange (command_to device command (length response))
in_range device command d response e =
    let typed = both (are_bytes (device ∷ command ∷ d)) (ltb (length response) 65536) e in
    let bytes = below (device ∷ command ∷ d) typed.0 in
    record { device = bytes 0; command = bytes 1; unit = lit< tt; number = lit< tt; buffer = ltb-true (length response) 65536 typed.1 }

pub data_below : (device command : ℕ) (d response : List ℕ) → is_typed device command d response ≡ true → Below 256 d
data_below device command d response e i = below (device ∷ command ∷ d) (both (are_bytes (device ∷ command ∷ d)) (ltb (length response) 65536) e).0 (suc (suc i))

abbrev pub sends : (device command : ℕ) (d response : List ℕ) → is_typed device command d response ≡ true → Call
sends device command d response e = submits (command_to device command (length response)) d response (in_range device command d response e) (data_below device command d response e)

-- A unit is opened for update with length 80; it is enabled; it is disabled.
abbrev pub opens : (device : ℕ) → is_typed device 0x00 (0x50 ∷ 0x00 ∷ 0xC0 ∷ []) (0 ∷ 0 ∷ 0 ∷ 0 ∷ []) ≡ true → Doing
opens device e = calls (sends device 0x00 (0x50 ∷ 0x00 ∷ 0xC0 ∷ []) (0 ∷ 0 ∷ 0 ∷ 0 ∷ []) e)

abbrev pub enables : (device : ℕ) → is_typed device 0x08 [] [] ≡ true → Doing
enables device e = calls (sends device 0x08 [] [] e)

abbrev pub disables : (device : ℕ) → is_typed device 0x09 [] [] ≡ true → Doing
disables device e = calls (sends device 0x09 [] [] e)

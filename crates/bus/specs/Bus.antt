-- Document 01, "Lines and rounds": a line is low if any party pulls it, and a released nibble reads 15. In a round each party steps
-- once and sees the levels left by all pulls of the round before.
use Rattle.std.specs.Prelude.{ℕ, ◌+◌, ◌*◌, ◌/◌, ◌%◌, min, Bool, cond, List, [], ◌∷◌, ◌++◌, map, ltb, eqb, take, drop, set, replicate}
use Rattle.controller.specs.Calls.{stepping as controller·stepping, controller_stepped, buffer_after as responseAfter}
use Rattle.controller.specs.declared.Controller.{Controller}
use Rattle.frame.specs.Frame.{pulls_of as framePulls}
use Rattle.line.specs.Line.{wired}
use Rattle.line.specs.declared.Lines.{Lines}
use Rattle.message.specs.Answer.{Answer, gives, refused}
use Rattle.turn.specs.declared.Event.{Event}
use Rattle.unit.specs.Calls.{stepping, buffer_after, output_after}
use Rattle.unit.specs.Unit.{new_unit, pulls_of}
use Rattle.unit.specs.declared.Unit.{Unit}
use Rattle.bus.specs.declared.Station.{Station}
use Rattle.bus.specs.declared.Bus.{Bus}

-- A unit with the memory that its calls are lent, cleared at first: its command buffer, and two queues.
abbrev pub new_station : Unit → Station
new_station u = record { unit = u; buffer = replicate 256 0; input = replicate 256 0; output = replicate 256 0 }

-- Its round. A refused step changes nothing.
abbrev pub unit_after : Answer Unit → Unit → Unit
unit_after (gives after) before = after
unit_after (refused k) before = before

abbrev pub station_step : Station → Lines → Bool → Station
station_step s seen busy = record {
  unit = unit_after (stepping s.unit seen busy s.buffer s.input s.output) s.unit;
  buffer = buffer_after s.unit seen busy s.buffer s.input s.output;
  input = s.input;
  output = output_after s.unit seen busy s.buffer s.input s.output;
}

-- Units with their memory, 2,432 bytes each in the units' order: command buffer 256, input queue 256, and 1,920 for what is written to it,
-- of which a serial unit uses the first 256, its output queue.
abbrev pub station_at : Unit → List ℕ → Station
station_at u memory = record { unit = u; buffer = take 256 memory; input = take 256 (drop 256 memory); output = take 1920 (drop 512 memory) }

abbrev pub stations_of : List Unit → List ℕ → List Station
stations_of [] memory = []
stations_of (u ∷ us) memory = station_at u memory ∷ stations_of us (drop 2432 memory)

-- The units alone, and the memory alone.
abbrev pub units_in : List Station → List Unit
units_in ss = map (λ (s : Station). s.unit) ss

abbrev pub bytes_of : Station → List ℕ
bytes_of s = s.buffer ++ (s.input ++ s.output)

abbrev pub memory_of : List Station → List ℕ
memory_of [] = []
memory_of (s ∷ ss) = bytes_of s ++ memory_of ss

-- The units of a bus, with the memory that its round is lent.
abbrev pub counted : Bus → ℕ
counted b = min b.count 16

abbrev pub units_of : Bus → List ℕ → List Station
units_of b memory = stations_of (take (counted b) b.units) memory

-- A bus without units, and one with one more; a bus of sixteen stays as it is.
abbrev pub bus_of : Controller → List Unit → ℕ → Bus
bus_of c units count = record { controller = c; units = units; count = count }

abbrev pub new_bus : Controller → Bus
new_bus c = bus_of c (replicate 16 (new_unit 1 20)) 0

abbrev pub with_unit : Bus → Unit → Bus
with_unit b u = cond (ltb b.count 16) (bus_of b.controller (set b.units b.count u) (b.count + 1)) b

-- The levels left by all pulls.
abbrev pub levels_left : Lines → List Unit → Lines
levels_left l [] = l
levels_left l (u ∷ us) = levels_left (wired l (pulls_of u)) us

abbrev pub levels_with : Lines → List Station → Lines
levels_with l ss = levels_left l (units_in ss)

abbrev pub levels_of : Bus → Lines
levels_of b = levels_left (framePulls b.controller.stage) (take (counted b) b.units)

-- Bit i of `busy` says whether the host of unit i is busy, bit 16 whether the controller's is.
abbrev pub is_odd : ℕ → Bool
is_odd n = eqb (n % 2) 1

abbrev pub units_after : Lines → ℕ → List Station → List Station
units_after seen busy [] = []
units_after seen busy (s ∷ ss) = station_step s seen (is_odd busy) ∷ units_after seen (busy / 2) ss

-- A round of the bus at the levels `seen`, those left by all pulls of the round before where no fault changes them. Slots without a
-- unit and their memory stay as they are.
abbrev pub stations_after : Bus → Lines → ℕ → List ℕ → List Station
stations_after b seen busy memory = units_after seen busy (units_of b memory)

abbrev pub round_of : Bus → Lines → ℕ → List ℕ → List ℕ → List ℕ → Bus
round_of b seen busy d response memory =
    bus_of (controller_stepped b.controller seen (is_odd (busy / 65536)) d response)
    (units_in (stations_after b seen busy memory) ++ drop (counted b) b.units)
    b.count

abbrev pub outcome_of : Bus → Lines → ℕ → List ℕ → List ℕ → Answer Event
outcome_of b seen busy d response = controller·stepping b.controller seen (is_odd (busy / 65536)) d response

abbrev pub response_of : Bus → Lines → ℕ → List ℕ → List ℕ → List ℕ
response_of b seen busy d response = responseAfter b.controller seen (is_odd (busy / 65536)) d response

abbrev pub memory_after : Bus → Lines → ℕ → List ℕ → List ℕ
memory_after b seen busy memory = memory_of (stations_after b seen busy memory) ++ drop (2432 * counted b) memory

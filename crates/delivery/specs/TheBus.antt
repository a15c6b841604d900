-- The code's own bus is demand 2's: `new` and `with` make a quiet start of it; its rounds, run at its own levels, are the world's (`TheBus`
-- in `World`), and so is what each comes to for the application; and all calls at it are the world's. So whatever is used of it is a run.
-- The statements; `proofs/TheBus.antt` proves them.
use Rattle.std.specs.Prelude.{ℕ, ◌+◌, ◌*◌, ◌/◌, ◌≤◌, ◌≡◌, cond, List, [], ◌∷◌, ◌++◌, ltb, length, take, drop, get_or, set}
use Rattle.application.specs.Calls.{submitting, controller_submitted, controller_acknowledged}
use Rattle.bus.specs.Bus.{bus_of, new_bus, with_unit, counted, station_at, units_in, bytes_of, is_odd, levels_of, round_of, outcome_of, response_of, memory_after}
use Rattle.bus.specs.declared.Bus.{Bus}
use Rattle.bus.specs.declared.Station.{Station}
use Rattle.controller.specs.Controller.{new_controller}
use Rattle.controller.specs.declared.Controller.{Controller}
use Rattle.field.specs.Field.{Below}
use Rattle.inside.specs.Calls.{called_by}
use Rattle.message.specs.Answer.{gives, kept}
use Rattle.turn.specs.declared.Event.{Event}
use Rattle.unit.specs.Unit.{new_unit}
use Rattle.unit.specs.declared.Unit.{Unit}
use Rattle.delivery.specs.Calls.{Call, host, submits, acknowledges, lends, lends_unit, called, is_kept, in_frame, with_buffer}
use Rattle.delivery.specs.Run.{QuietStart, Run}
use Rattle.delivery.specs.Lists.{All}
use Rattle.delivery.specs.World.{World, Busy, round, outcome, world_of}

-- What a caller holds: the bus, and what it lends: data and response buffer to the controller's steps, memory to the units.
pub record Caller : Type 0 where
  pub bus : Bus
  pub lent : List ℕ
  pub response : List ℕ
  pub memory : List ℕ

-- What the types say of these.
pub record Typed (h : Caller) : Type 0 where
  pub places : length h.bus.units ≡ 16
  pub room : length h.memory ≡ 38912

abbrev pub world_in : Caller → World
world_in h = world_of h.bus h.lent h.response h.memory

-- `new` with a new controller, and then `with` for one unit after the other.
abbrev pub with_units : Bus → List Unit → Bus
with_units b [] = b
with_units b (u ∷ us) = with_units (with_unit b u) us

abbrev pub caller_with : ℕ → List Unit → List ℕ → List ℕ → List ℕ → Caller
caller_with timeout us lent response memory = record { bus = with_units (new_bus (new_controller timeout)) us; lent = lent; response = response; memory = memory }

-- New units with different codes, none of them 0.
pub data Made : List Unit → Type 0 where
  no_unit : Made []
  one_more : {own retry : ℕ} {us : List Unit} → (own ≡ 0 → ⊥) → All (λ (u : Unit). u.own ≡ own → ⊥) us → Made us → Made (new_unit own retry ∷ us)

-- A quiet start of these units, in this order.
pub record Begun (us : List Unit) (h : Caller) : Type 0 where
  pub typed : Typed h
  pub quiet : QuietStart (world_in h)
  pub units : units_in (world_in h).units ≡ us

-- So begins a bus of up to sixteen of them, whatever bytes are in the memory.
abbrev pub Starts : Type 0
Starts =
    (timeout : ℕ) (us : List Unit) (lent response memory : List ℕ)
    → 8 ≤ timeout
    → Made us
    → length us ≤ 16
    → length memory ≡ 38912
    → Below 256 memory
    → Begun us (caller_with timeout us lent response memory)

-- A round of the code's bus at its own levels, in which these hosts are busy.
abbrev pub busy_of : ℕ → Busy
busy_of busy = record { here = is_odd (busy / 65536); there = busy }

abbrev pub round_on : Caller → ℕ → Caller
round_on h busy = record {
  bus = round_of h.bus (levels_of h.bus) busy h.lent h.response h.memory;
  lent = h.lent;
  response = response_of h.bus (levels_of h.bus) busy h.lent h.response;
  memory = memory_after h.bus (levels_of h.bus) busy h.memory;
}

abbrev pub Rounds : Type 0
Rounds = (h : Caller) (busy : ℕ) → Typed h → world_in (round_on h busy) ≡ round (world_in h) (busy_of busy)

abbrev pub Outcomes : Type 0
Outcomes = (h : Caller) (busy : ℕ) → outcome_of h.bus (levels_of h.bus) busy h.lent h.response ≡ outcome (world_in h) (busy_of busy)

-- The unit at place i with its 2,432 bytes of the memory; and another in its place, with its bytes in theirs.
abbrev pub station_in : Caller → ℕ → Station
station_in h i = station_at (get_or h.bus.units i (new_unit 1 20)) (drop (2432 * i) h.memory)

abbrev pub with_station : Caller → ℕ → Station → Caller
with_station h i st = record {
  bus = bus_of h.bus.controller (set h.bus.units i st.unit) h.bus.count;
  lent = h.lent;
  response = h.response;
  memory = take (2432 * i) h.memory ++ (bytes_of st ++ drop (2432 * i + 2432) h.memory);
}

-- Something done at it, if there is one at that place.
abbrev pub at_unit : Caller → ℕ → (Station → Station) → Caller
at_unit h i f = cond (ltb i (counted h.bus)) (with_station h i (f (station_in h i))) h

abbrev pub with_controller : Bus → Controller → Bus
with_controller b c = bus_of c b.units b.count

-- The calls at its parties: `feed`, `take` and `raise` at a unit in its own bytes, `submit` and `acknowledge` at the controller. A caller keeps
-- what it lends for the frame, and may lend others elsewhere: other bytes in a unit's command buffer.
abbrev pub called_on : Caller → Call → Caller
called_on h (host i call) = at_unit h i (called_by call)
called_on h (submits k d response r b) = record {
  bus = with_controller h.bus (controller_submitted h.bus.controller k (length d) (length response));
  lent = kept (submitting h.bus.controller k (length d) (length response)) d h.lent;
  response = kept (submitting h.bus.controller k (length d) (length response)) response h.response;
  memory = h.memory;
}
called_on h (acknowledges code b) = record {
  bus = with_controller h.bus (controller_acknowledged h.bus.controller code);
  lent = h.lent;
  response = h.response;
  memory = h.memory;
}
called_on h (lends d response) = record {
  bus = h.bus;
  lent = cond (is_kept h.bus.controller.stage) h.lent d;
  response = cond (is_kept h.bus.controller.stage) h.response response;
  memory = h.memory;
}
called_on h (lends_unit i buffer) = cond (in_frame h.bus.controller.stage) h (at_unit h i (with_buffer buffer))

-- A command buffer in this memory has 256 bytes.
abbrev pub Fitting : Call → Type 0
Fitting call = (i : ℕ) (buffer : List ℕ) → call ≡ lends_unit i buffer → length buffer ≡ 256

abbrev pub Calls : Type 0
Calls = (h : Caller) (call : Call) → Typed h → Fitting call → world_in (called_on h call) ≡ called (world_in h) call

-- Rounds and calls, one after the other.
pub data Uses (h : Caller) : Caller → Type 0 where
  as_it_was : Uses h h
  then_round : {g : Caller} → Uses h g → (busy : ℕ) → Uses h (round_on g busy)
  then_call : {g : Caller} → Uses h g → (call : Call) → Fitting call → Uses h (called_on g call)

-- They are a run of the world: with `Starts`, all statements of demands 2 and 3 hold of the code's own bus.
abbrev pub UsesRun : Type 0
UsesRun = (h g : Caller) → Typed h → Uses h g → Run (world_in h) (world_in g)

-- So no round of it is refused: each tells the application something, or nothing.
abbrev pub Tells : Type 0
Tells = (h g : Caller) → Typed h → QuietStart (world_in h) → Uses h g → (busy : ℕ) → (e : Event) × (outcome_of g.bus (levels_of g.bus) busy g.lent g.response ≡ gives e)

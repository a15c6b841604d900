-- The calls of a unit's host: at a unit with its memory, and what they make of what is inside it. A refused call changes nothing.
use Rattle.std.specs.Prelude.{ℕ, ◌<◌, Option, Some, None, List, [], ◌∷◌}
use Rattle.bus.specs.Bus.{unit_after}
use Rattle.bus.specs.declared.Station.{Station}
use Rattle.host.specs.Calls.{feeding, feeding_in, input_after, taking, taking_in, raising, raising_in}
use Rattle.kind.specs.declared.Kind.{Kind}
use Rattle.message.specs.Answer.{Answer, gives, refused, kept}
use Rattle.queue.specs.Queue.{bytes_with, popped}
use Rattle.serial.specs.declared.Serial.{Serial}
use Rattle.unit.specs.declared.Unit.{Unit}
use Rattle.inside.specs.Inside.{Inside, with_state}

pub data HostCall : Type 0 where
  feeds : (b : ℕ) → b < 256 → HostCall
  takes : HostCall
  raises : HostCall

-- At a unit.
abbrev pub unit_taken : Option (ℕ × Unit) → Unit → Unit
unit_taken (Some taken) before = taken.1
unit_taken None before = before

abbrev pub called_by : HostCall → Station → Station
called_by (feeds b h) st = record { unit = unit_after (feeding st.unit b) st.unit; buffer = st.buffer; input = input_after st.unit b st.input; output = st.output }
called_by takes st = record { unit = unit_taken (taking st.unit st.output) st.unit; buffer = st.buffer; input = st.input; output = st.output }
called_by raises st = record { unit = unit_after (raising st.unit) st.unit; buffer = st.buffer; input = st.input; output = st.output }

-- Inside it.
abbrev pub state_after : Answer Serial → Serial → Serial
state_after (gives after) before = after
state_after (refused k) before = before

abbrev pub called : Kind → HostCall → Inside → Inside
called kind (feeds b h) x = record {
  state = state_after (feeding_in kind x.state b) x.state;
  input = kept (feeding_in kind x.state b) (bytes_with x.input x.state.input (b ∷ [])) x.input;
  output = x.output;
}
called kind takes x = with_state x (taking_in x.state (popped x.output x.state.output))
called kind raises x = with_state x (state_after (raising_in x.state) x.state)

-- Calls one after the other, the latest in front.
abbrev pub called_all : Kind → List HostCall → Inside → Inside
called_all kind [] x = x
called_all kind (call ∷ calls) x = called kind call (called_all kind calls x)

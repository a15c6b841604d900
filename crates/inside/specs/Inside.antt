-- Document 01, "The serial peripheral": what is inside a unit, lines and command buffer aside, and what a whole command makes of it.
use Rattle.std.specs.Prelude.{ℕ, Bool, true, false, List, length}
use Rattle.bus.specs.declared.Station.{Station}
use Rattle.header.specs.declared.Command.{Command}
use Rattle.kind.specs.Kinds.{kind_of, verdict_of}
use Rattle.kind.specs.declared.Kind.{Kind}
use Rattle.queue.specs.Queue.{contents}
use Rattle.reply.specs.Reply.{reply_data}
use Rattle.serial.specs.Serial.{applied, output_after, finished}
use Rattle.serial.specs.declared.Reply.{Reply}
use Rattle.serial.specs.declared.Reply.TheVariants.{Silent, Status, Opened, Bytes, Address, Polled}
use Rattle.serial.specs.declared.Serial.{Serial}
use Rattle.whole.specs.Whole.{stored_of}

-- Its opening, enabling, request and queues, and the bytes of the memory that it is lent for these.
pub record Inside : Type 0 where
  pub state : Serial
  pub input : List ℕ
  pub output : List ℕ

abbrev pub inside_of : Station → Inside
inside_of st = record { state = st.unit.serial; input = st.input; output = st.output }

-- The same with another state.
abbrev pub with_state : Inside → Serial → Inside
with_state x s = record { state = s; input = x.input; output = x.output }

-- Whether service is enabled, and whether a request is held.
abbrev pub is_served : Inside → Bool
is_served x = x.state.enabled

abbrev pub has_request : Inside → Bool
has_request x = x.state.requesting

-- The answer of a unit of a kind to a command c with n bytes of data, of which d are stored: fixed when the last nibble is taken.
abbrev pub reply_of : Kind → Inside → Command → ℕ → List ℕ → Reply
reply_of kind x c n d = (verdict_of kind x.state c n d).reply

-- The effects, which happen then.
abbrev pub taken : Kind → Inside → Command → ℕ → List ℕ → Inside
taken kind x c n d = record {
  state = applied x.state (verdict_of kind x.state c n d).effect d;
  input = x.input;
  output = output_after x.state (verdict_of kind x.state c n d).effect d x.output;
}

-- What waits until the last response nibble is done.
abbrev pub responded : Inside → Reply → Inside
responded x r = with_state x (finished x.state r)

-- What its input queue holds, oldest byte first; the data of the response.
abbrev pub incoming : Inside → List ℕ
incoming x = contents x.input x.state.input

abbrev pub data_in : Inside → Reply → List ℕ
data_in x r = reply_data (incoming x) r

-- Whether its end clears a request.
abbrev pub clears : Reply → Bool
clears Silent = false
clears (Status number) = false
clears (Opened accepted) = false
clears (Bytes n) = false
clears (Address n row column) = false
clears Polled = true

-- The same of the unit with a code, for a command with its whole data.
abbrev pub reply_for : ℕ → Inside → Command → List ℕ → Reply
reply_for own x c d = reply_of (kind_of own) x c (length d) (stored_of d)

abbrev pub taken_for : ℕ → Inside → Command → List ℕ → Inside
taken_for own x c d = taken (kind_of own) x c (length d) (stored_of d)

-- A host call reaches what is inside a unit, and nothing of its lines.
use mathlib.Core.Path.{◌≡◌, refl}
use mathlib.Core.Bool.{Bool, true, false, cond}
use mathlib.Core.List.{[], ◌∷◌}
use lib.Dec.{eqb}
use lib.ListN.{length}
use Rattle.bus.specs.declared.Station.{Station}
use Rattle.host.specs.Calls.{feeding, feeding_in, taking_in, raising_in}
use Rattle.kind.specs.Kinds.{kind_of, is_fed}
use Rattle.kind.specs.declared.Kind.{Kind}
use Rattle.message.specs.Answer.{Answer, gives, refused, kept}
use Rattle.queue.specs.Queue.{popped, queue_with, bytes_with, room}
use Rattle.std.specs.Prelude.{ℕ, Option, Some, None}
use Rattle.queue.specs.declared.Queue.{Queue}
use Rattle.queue.proofs.Laws.{length_with_lem}
use Rattle.serial.specs.Serial.{with_input, with_request}
use Rattle.serial.specs.declared.Serial.{Serial}
use Rattle.unit.specs.declared.Unit.{Unit}
use Rattle.inside.specs.Calls.{HostCall, feeds, takes, raises, called_by, called, state_after}
use Rattle.inside.specs.Inside.{Inside, inside_of, has_request}

pub record Called (call : HostCall) (st after : Station) : Type 0 where
  pub own : after.unit.own ≡ st.unit.own
  pub retry : after.unit.retry ≡ st.unit.retry
  pub quiet : after.unit.quiet ≡ st.unit.quiet
  pub asking : after.unit.asking ≡ st.unit.asking
  pub phase : after.unit.phase ≡ st.unit.phase
  pub buffer : after.buffer ≡ st.buffer
  pub inside : inside_of after ≡ called (kind_of st.unit.own) call (inside_of st)

pub unit_called : (call : HostCall) (st : Station) → Called call st (called_by call st)
unit_called (feeds b h) st = by (feeding_in (kind_of st.unit.own) st.unit.serial b) refl
  where
    by : (a : Answer Serial) → feeding_in (kind_of st.unit.own) st.unit.serial b ≡ a → Called (feeds b h) st (called_by (feeds b h) st)
    by (gives s) e = record { own = rw e; retry = rw e; quiet = rw e; asking = rw e; phase = rw e; buffer = refl; inside = rw e }
    by (refused k) e = record { own = rw e; retry = rw e; quiet = rw e; asking = rw e; phase = rw e; buffer = refl; inside = rw e }
unit_called takes st = by (popped st.output st.unit.serial.output) refl
  where
    by : (p : Option (ℕ × Queue)) → popped st.output st.unit.serial.output ≡ p → Called takes st (called_by takes st)
    by (Some front) e = record { own = rw e; retry = rw e; quiet = rw e; asking = rw e; phase = rw e; buffer = refl; inside = rw e }
    by None e = record { own = rw e; retry = rw e; quiet = rw e; asking = rw e; phase = rw e; buffer = refl; inside = rw e }
unit_called raises st = by (raising_in st.unit.serial) refl
  where
    by : (a : Answer Serial) → raising_in st.unit.serial ≡ a → Called raises st (called_by raises st)
    by (gives s) e = record { own = rw e; retry = rw e; quiet = rw e; asking = rw e; phase = rw e; buffer = refl; inside = rw e }
    by (refused k) e = record { own = rw e; retry = rw e; quiet = rw e; asking = rw e; phase = rw e; buffer = refl; inside = rw e }

-- A unit's memory stays as long as it was.
pub input_length : (call : HostCall) (st : Station) → length (called_by call st).input ≡ length st.input
input_length (feeds b h) st = by (feeding st.unit b)
  where
    by : (a : Answer Unit) → length (kept a (bytes_with st.input st.unit.serial.input (b ∷ [])) st.input) ≡ length st.input
    by (gives u) = length_with_lem st.input st.unit.serial.input (b ∷ [])
    by (refused k) = refl
input_length takes st = refl
input_length raises st = refl

-- No call reaches what was written to it; a byte that is taken stays where it stands.
pub output_called : (kind : Kind) (call : HostCall) (x : Inside) → (called kind call x).output ≡ x.output
output_called kind (feeds b h) x = refl
output_called kind takes x = refl
output_called kind raises x = refl

-- No call ends a request.
pub request_called : (kind : Kind) (x : Inside) (call : HostCall) → has_request x ≡ true → has_request (called kind call x) ≡ true
request_called kind x (feeds b h) r = by (is_fed kind x.state.opening) (eqb (room x.state.input) 0)
  where
    by : (t v : Bool) → (state_after (cond t (cond v (refused 6) (gives (with_input x.state (queue_with x.state.input (b ∷ []))))) (refused 7)) x.state).requesting ≡ true
    by true true = r
    by true false = r
    by false v = r
request_called kind x takes r = by (popped x.output x.state.output)
  where
    by : (p : Option (ℕ × Queue)) → (taking_in x.state p).requesting ≡ true
    by (Some front) = r
    by None = r
request_called kind x raises r = by x.state.enabled
  where
    by : (t : Bool) → (state_after (cond t (gives (with_request x.state true)) (refused 7)) x.state).requesting ≡ true
    by true = refl
    by false = r

-- Document 01, "Refusal numbers" (5, 6, 7): the calls of a unit's host, each with its number or its values, and what may be looked at.
use Rattle.std.specs.Prelude.{ℕ, true, cond, Option, Some, None, Result, List, [], ◌∷◌, ltb, eqb}
use Rattle.kind.specs.Kinds.{kind_of, is_fed}
use Rattle.kind.specs.declared.Kind.{Kind}
use Rattle.message.specs.Answer.{Answer, gives, refused, answered, kept}
use Rattle.queue.specs.Queue.{held, room, queue_with, bytes_with, popped}
use Rattle.queue.specs.declared.Queue.{Queue}
use Rattle.serial.specs.Serial.{with_input, with_output, with_request}
use Rattle.serial.specs.declared.Serial.{Serial}
use Rattle.unit.specs.Unit.{new_unit}
use Rattle.unit.specs.declared.Unit.{Unit}
use Rattle.host.specs.declared.MakeError.{MakeError}
use Rattle.host.specs.declared.MakeError.TheVariants.{Setting}
use Rattle.host.specs.declared.FeedError.{FeedError}
use Rattle.host.specs.declared.FeedError.TheVariants.{Full, NotOpen}
use Rattle.host.specs.declared.RaiseError.{RaiseError}
use Rattle.host.specs.declared.RaiseError.TheVariants.{NotEnabled}
use Rattle.host.specs.declared.Looks.{Looks}

-- Making: 5 for own code 0, or retry not 4 to 65,535.
abbrev pub making : ℕ → ℕ → Answer Unit
making own retry =
    cond (eqb own 0) (refused 5) (cond (ltb retry 4) (refused 5) (cond (ltb 65535 retry) (refused 5) (gives (new_unit own retry))))

abbrev pub make_number : MakeError → ℕ
make_number Setting = 5

abbrev pub made : Result Unit MakeError → Answer Unit
made r = answered make_number r

-- A unit with another state beside its lines, and so what a call makes of it from what it makes of the state.
abbrev pub with_serial : Unit → Serial → Unit
with_serial u s = record { own = u.own; retry = u.retry; quiet = u.quiet; asking = u.asking; phase = u.phase; serial = s }

abbrev pub in_unit : Unit → Answer Serial → Answer Unit
in_unit u (gives s) = gives (with_serial u s)
in_unit u (refused k) = refused k

-- Feeding: 7 while it is not open so that its kind is fed, then 6 for a full input queue. Else the byte is the newest there.
abbrev pub feeding_in : Kind → Serial → ℕ → Answer Serial
feeding_in kind s b =
    cond (is_fed kind s.opening)
    (cond (eqb (room s.input) 0) (refused 6) (gives (with_input s (queue_with s.input (b ∷ [])))))
    (refused 7)

abbrev pub feeding : Unit → ℕ → Answer Unit
feeding u b = in_unit u (feeding_in (kind_of u.own) u.serial b)

abbrev pub input_after : Unit → ℕ → List ℕ → List ℕ
input_after u b input = kept (feeding u b) (bytes_with input u.serial.input (b ∷ [])) input

abbrev pub feed_number : FeedError → ℕ
feed_number Full = 6
feed_number NotOpen = 7

abbrev pub fed : Result Unit FeedError → Answer Unit
fed r = answered feed_number r

-- Taking: the oldest byte of the output queue, or nothing.
abbrev pub taking_in : Serial → Option (ℕ × Queue) → Serial
taking_in s (Some front) = with_output s front.1
taking_in s None = s

abbrev pub taken_by : Unit → Option (ℕ × Queue) → Option (ℕ × Unit)
taken_by u (Some front) = Some (front.0, with_serial u (taking_in u.serial (Some front)))
taken_by u None = None

abbrev pub taking : Unit → List ℕ → Option (ℕ × Unit)
taking u output = taken_by u (popped output u.serial.output)

-- Raising: 7 while not enabled. Raising twice is accepted and changes nothing more.
abbrev pub raising_in : Serial → Answer Serial
raising_in s = cond s.enabled (gives (with_request s true)) (refused 7)

abbrev pub raising : Unit → Answer Unit
raising u = in_unit u (raising_in u.serial)

abbrev pub raise_number : RaiseError → ℕ
raise_number NotEnabled = 7

abbrev pub raised : Result Unit RaiseError → Answer Unit
raised r = answered raise_number r

-- Open and how, queued counts, enabled, requesting.
abbrev pub looks_of : Unit → Looks
looks_of u = record {
  opening = u.serial.opening;
  input = held u.serial.input;
  output = held u.serial.output;
  enabled = u.serial.enabled;
  requesting = u.serial.requesting;
}

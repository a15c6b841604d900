-- Document 01, "Lines and rounds": a unit's state, its round, and what it pulls.
use Rattle.std.specs.Prelude.{ℕ, ◌+◌, min, Bool, true, false, cond, not, ◌&&◌, List, leb}
use Rattle.line.specs.Line.{sender_hsk, sender_nibble, listener_hsk}
use Rattle.line.specs.declared.Lines.{Lines}
use Rattle.serial.specs.Serial.{new_serial}
use Rattle.phase.specs.Phase.{phase_step, phase_buffer, phase_output}
use Rattle.phase.specs.declared.Moved.{Moved}
use Rattle.phase.specs.declared.Phase.{Phase}
use Rattle.phase.specs.declared.Phase.TheVariants.{Idle, Selecting, Receiving, Responding, SittingOut}
use Rattle.unit.specs.declared.Unit.{Unit}

-- A new unit is idle, and pulls no line.
abbrev pub new_unit : ℕ → ℕ → Unit
new_unit own retry = record { own = own; retry = retry; quiet = 0; asking = false; phase = Idle; serial = new_serial }

-- What it pulls: HSK and data as its listener or sender does. A unit that sits out pulls no line, busy or not; only the HSK pull of
-- the round in which it took its last nibble stands for that round.
abbrev pub pulls_hsk : Phase → Bool
pulls_hsk Idle = false
pulls_hsk (Selecting ear half low) = listener_hsk ear
pulls_hsk (Receiving ear progress) = listener_hsk ear
pulls_hsk (Responding reply i sender wait) = sender_hsk sender
pulls_hsk (SittingOut last) = last

abbrev pub pulls_nibble : Phase → ℕ
pulls_nibble Idle = 15
pulls_nibble (Selecting ear half low) = 15
pulls_nibble (Receiving ear progress) = 15
pulls_nibble (Responding reply i sender wait) = sender_nibble sender
pulls_nibble (SittingOut last) = 15

-- BAV for a request alone.
abbrev pub pulls_of : Unit → Lines
pulls_of u = record { bav = u.asking; hsk = pulls_hsk u.phase; nibble = pulls_nibble u.phase }

-- For how many rounds in a row BAV was seen high, this one included; past the retry count it need not be told.
abbrev pub quiet_after : Unit → ℕ
quiet_after u = min (u.quiet + 1) u.retry

-- An idle peripheral that is enabled and holds a request pulls BAV once BAV has been seen high for the retry count of rounds in a
-- row, the present one included, counted with or without a request. It releases it at the first HSK low it sees in a later round.
abbrev pub asks : Bool → Bool → Bool → ℕ → ℕ → Bool → Bool
asks true enabled requesting retry quiet hsk = not hsk
asks false enabled requesting retry quiet hsk = enabled && (requesting && leb retry quiet)

-- BAV seen high is looked at before everything else, in every phase: all lines are released (a request's pull is the exception),
-- the message is dropped, phase idle.
abbrev pub high_step : Unit → Bool → Unit
high_step u hsk = record {
  own = u.own;
  retry = u.retry;
  quiet = quiet_after u;
  asking = asks u.asking u.serial.enabled u.serial.requesting u.retry (quiet_after u) hsk;
  phase = Idle;
  serial = u.serial;
}

-- BAV seen low: the round of its phase, and a request's pull released at HSK low.
abbrev pub low_step : Unit → Bool → Moved → Unit
low_step u hsk m = record {
  own = u.own;
  retry = u.retry;
  quiet = 0;
  asking = u.asking && not hsk;
  phase = m.phase;
  serial = m.serial;
}

abbrev pub unit_step : Unit → Lines → Bool → List ℕ → List ℕ → Unit
unit_step u seen busy buffer input =
    cond seen.bav (low_step u seen.hsk (phase_step u.phase u.own u.serial seen busy buffer input)) (high_step u seen.hsk)

-- The lent command buffer, and the memory for what is written to it, after the round.
abbrev pub unit_buffer : Unit → Lines → List ℕ → List ℕ
unit_buffer u seen buffer = cond seen.bav (phase_buffer u.phase seen buffer) buffer

abbrev pub unit_output : Unit → Lines → List ℕ → List ℕ → List ℕ
unit_output u seen buffer output = cond seen.bav (phase_output u.phase u.own u.serial seen buffer output) output

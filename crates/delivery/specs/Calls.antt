-- Host calls on demand 2's bus: feed, take and raise at a unit, submit and acknowledge at the controller. Each may fall between any two
-- rounds. A refused call changes nothing. And which memory the steps are lent from then on, wherever the caller is free to choose it.
use Rattle.std.specs.Prelude.{ℕ, zero, suc, ◌<◌, Bool, true, false, cond, List, [], ◌∷◌, length}
use Rattle.application.specs.Calls.{submitting, controller_submitted, controller_acknowledged}
use Rattle.bus.specs.declared.Station.{Station}
use Rattle.field.specs.Field.{Below}
use Rattle.frame.specs.Frame.{is_submitted}
use Rattle.frame.specs.declared.Frame.{Frame}
use Rattle.frame.specs.declared.Stage.{Stage}
use Rattle.frame.specs.declared.Stage.TheVariants.{Free, Resting, Waiting, Sending, Listening}
use Rattle.header.specs.Header.{InRange}
use Rattle.header.specs.declared.Command.{Command}
use Rattle.inside.specs.Calls.{HostCall, called_by}
use Rattle.kind.specs.Kinds.{kind_of, is_short}
use Rattle.message.specs.Answer.{kept}
use Rattle.delivery.specs.World.{World}

-- At the unit at place i; past the last nothing happens.
abbrev pub called_at : ℕ → HostCall → List Station → List Station
called_at i call [] = []
called_at zero call (st ∷ ss) = called_by call st ∷ ss
called_at (suc i) call (st ∷ ss) = st ∷ called_at i call ss

-- Document 01: "Each step of a submitted frame is lent the command data and response buffer, kept the same by the caller for the frame (a
-- premise of demand 2). Other steps don't look at them." So they are kept while a submitted frame waits or runs, and then only.
abbrev pub is_kept : Stage → Bool
is_kept Free = false
is_kept (Resting again) = false
is_kept (Waiting f) = is_submitted f.kind
is_kept (Sending f i sender wait) = is_submitted f.kind
is_kept (Listening f ear taken quiet) = is_submitted f.kind

-- The frame that runs, in the stages from its beginning to its end.
abbrev pub running : Stage → List Frame
running Free = []
running (Resting again) = []
running (Waiting f) = []
running (Sending f i sender wait) = f ∷ []
running (Listening f ear taken quiet) = f ∷ []

-- "Each step is lent a command buffer ... The caller keeps it for the frame, a premise of demand 2." So a unit's is kept while a frame runs.
abbrev pub in_frame : Stage → Bool
in_frame Free = false
in_frame (Resting again) = false
in_frame (Waiting f) = false
in_frame (Sending f i sender wait) = true
in_frame (Listening f ear taken quiet) = true

-- A unit that is lent another command buffer; one that is too short for it would be refused (11), and is not lent.
abbrev pub with_buffer : List ℕ → Station → Station
with_buffer buffer st = record {
  unit = st.unit;
  buffer = cond (is_short (kind_of st.unit.own) (length buffer) (length st.output)) st.buffer buffer;
  input = st.input;
  output = st.output;
}

abbrev pub buffer_at : ℕ → List ℕ → List Station → List Station
buffer_at i buffer [] = []
buffer_at zero buffer (st ∷ ss) = with_buffer buffer st ∷ ss
buffer_at (suc i) buffer (st ∷ ss) = st ∷ buffer_at i buffer ss

-- A call at any party, with what the types say of its values. Or from now on the controller's steps are lent this data and this response
-- buffer, or those of the unit at place i this command buffer.
pub data Call : Type 0 where
  host : ℕ → HostCall → Call
  submits : (k : Command) (d response : List ℕ) → InRange k → Below 256 d → Call
  acknowledges : (code : ℕ) → code < 256 → Call
  lends : (d response : List ℕ) → Call
  lends_unit : (i : ℕ) (buffer : List ℕ) → Call

-- A command that is accepted brings its own data and response buffer, which are kept for its frame. What the caller keeps stays as it is,
-- whatever else is lent.
abbrev pub called : World → Call → World
called w (host i call) = record { controller = w.controller; units = called_at i call w.units; lent = w.lent; response = w.response }
called w (submits k d response r b) = record {
  controller = controller_submitted w.controller k (length d) (length response);
  units = w.units;
  lent = kept (submitting w.controller k (length d) (length response)) d w.lent;
  response = kept (submitting w.controller k (length d) (length response)) response w.response;
}
called w (acknowledges code h) = record { controller = controller_acknowledged w.controller code; units = w.units; lent = w.lent; response = w.response }
called w (lends d response) = record {
  controller = w.controller;
  units = w.units;
  lent = cond (is_kept w.controller.stage) w.lent d;
  response = cond (is_kept w.controller.stage) w.response response;
}
called w (lends_unit i buffer) = record {
  controller = w.controller;
  units = cond (in_frame w.controller.stage) w.units (buffer_at i buffer w.units);
  lent = w.lent;
  response = w.response;
}

-- A row of calls, the first one first.
abbrev pub called_all : World → List Call → World
called_all w [] = w
called_all w (call ∷ calls) = called_all (called w call) calls

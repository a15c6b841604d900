-- What happens in a run, in order, as it is written down beside the bus: made from the lines, from what the line machines of each party
-- say of them (taken, counted as sent), and from the calls. No step is refused on demand 2's bus (`Steps`).
use Rattle.std.specs.Prelude.{ℕ, zero, suc, ◌/◌, Bool, cond, List, [], ◌∷◌, ◌++◌, map, eqb, length}
use Rattle.application.specs.Calls.{Done, submitting}
use Rattle.bus.specs.Bus.{station_step, is_odd}
use Rattle.bus.specs.declared.Station.{Station}
use Rattle.controller.specs.Controller.{event_in}
use Rattle.frame.specs.Frame.{data_of, is_submitted}
use Rattle.frame.specs.declared.Frame.{Frame}
use Rattle.frame.specs.declared.Stage.{Stage}
use Rattle.frame.specs.declared.Stage.TheVariants.{Free, Resting, Waiting, Sending, Listening}
use Rattle.header.specs.declared.Command.{Command}
use Rattle.inside.specs.Calls.{HostCall}
use Rattle.inside.specs.Inside.{Inside, inside_of}
use Rattle.line.specs.Line.{sent_of, taken_of, sender_nibble}
use Rattle.line.specs.declared.Lines.{Lines}
use Rattle.message.specs.Answer.{Answer, gives, refused}
use Rattle.phase.specs.declared.Phase.{Phase}
use Rattle.phase.specs.declared.Phase.TheVariants.{Idle, Selecting, Receiving, Responding, SittingOut}
use Rattle.phase.specs.declared.Progress.TheVariants.{Taking, Answered}
use Rattle.turn.specs.declared.Event.{Event}
use Rattle.delivery.specs.Calls.{Call, host, submits, acknowledges, lends, lends_unit}
use Rattle.delivery.specs.Run.{Run, start, a_round, a_call}
use Rattle.delivery.specs.World.{World, Busy, levels, round}

-- What the controller does in a frame: a nibble of the command counts as sent; it takes a nibble of the response; the frame ends, and the
-- application is told of it, with what stands in the response buffer of a submitted command.
pub data Act : Type 0 where
  sent : ℕ → Act
  heard : ℕ → Act
  told : Event → List ℕ → Act

-- What a unit does: it takes a nibble; the last one, with this inside it, so that its answer is fixed; a nibble of its response counts as
-- sent; the last one, so that its response is done.
pub data Deed : Type 0 where
  took : ℕ → Deed
  settled : Inside → Deed
  spoke : ℕ → Deed
  done : Deed

-- A frame begins, with its data and the response buffer that it finds; the controller acts; the unit with a code does something; its host
-- makes a call; a submission is accepted.
pub data Mark : Type 0 where
  begins : Frame → (lent found : List ℕ) → Mark
  acts : Act → Mark
  does : (own : ℕ) → Deed → Mark
  asks : (own : ℕ) → HostCall → Mark
  submitted : Command → (d response : List ℕ) → Mark

-- The controller's marks of a round, by its stages before and behind it.
abbrev pub begun_by : Stage → List ℕ → List ℕ → List Mark
begun_by Free lent response = []
begun_by (Resting first) lent response = []
begun_by (Waiting f) lent response = []
begun_by (Sending f i sender wait) lent response = begins f (data_of f lent) response ∷ []
begun_by (Listening f ear taken quiet) lent response = []

abbrev pub ended_by : Stage → Act → List Mark
ended_by Free end = []
ended_by (Resting first) end = acts end ∷ []
ended_by (Waiting f) end = []
ended_by (Sending f i sender wait) end = []
ended_by (Listening f ear taken quiet) end = []

abbrev pub stage_marks : Stage → Stage → Lines → Event → (lent response after : List ℕ) → List Mark
stage_marks Free next seen event lent response after = begun_by next lent response
stage_marks (Resting first) next seen event lent response after = []
stage_marks (Waiting f) next seen event lent response after = begun_by next lent response
stage_marks (Sending f i sender wait) next seen event lent response after = cond (sent_of sender seen.hsk) (acts (sent (sender_nibble sender)) ∷ []) []
stage_marks (Listening f ear taken quiet) next seen event lent response after =
    cond (taken_of ear seen.hsk) (acts (heard seen.nibble) ∷ []) [] ++ ended_by next (told event (cond (is_submitted f.kind) after []))

-- What a unit does in a round, by its phases before and behind it, while BAV is seen low.
abbrev pub settled_by : Phase → Inside → List Deed
settled_by Idle x = []
settled_by (Selecting ear half low) x = []
settled_by (Receiving ear (Taking p)) x = []
settled_by (Receiving ear (Answered r)) x = settled x ∷ []
settled_by (Responding r i sender wait) x = []
settled_by (SittingOut last) x = []

abbrev pub done_by : Phase → List Deed
done_by Idle = []
done_by (Selecting ear half low) = []
done_by (Receiving ear progress) = []
done_by (Responding r i sender wait) = []
done_by (SittingOut last) = done ∷ []

abbrev pub deeds_by : Phase → Phase → Inside → Lines → List Deed
deeds_by Idle next x seen = []
deeds_by (Selecting ear half low) next x seen = cond (taken_of ear seen.hsk) (took seen.nibble ∷ []) []
deeds_by (Receiving ear (Taking p)) next x seen = cond (taken_of ear seen.hsk) (took seen.nibble ∷ settled_by next x) []
deeds_by (Receiving ear (Answered r)) next x seen = []
deeds_by (Responding r i sender wait) next x seen = cond (sent_of sender seen.hsk) (spoke (sender_nibble sender) ∷ done_by next) []
deeds_by (SittingOut last) next x seen = []

abbrev pub station_deeds : Station → Lines → Bool → List Deed
station_deeds st seen busy = cond seen.bav (deeds_by st.unit.phase (station_step st seen busy).unit.phase (inside_of st) seen) []

abbrev pub units_marks : Lines → ℕ → List Station → List Mark
units_marks seen hosts [] = []
units_marks seen hosts (st ∷ ss) = map (does st.unit.own) (station_deeds st seen (is_odd hosts)) ++ units_marks seen (hosts / 2) ss

-- What the application is told in a round.
abbrev pub told_in : World → Busy → Event
told_in v busy = event_in v.controller (levels v) busy.here v.lent

-- All marks of a round, and of a call.
abbrev pub round_marks : World → Busy → List Mark
round_marks v busy =
    units_marks (levels v) busy.there v.units
    ++ stage_marks v.controller.stage (round v busy).controller.stage (levels v) (told_in v busy) v.lent v.response (round v busy).response

abbrev pub host_marks : ℕ → HostCall → List Station → List Mark
host_marks i call [] = []
host_marks zero call (st ∷ ss) = asks st.unit.own call ∷ []
host_marks (suc i) call (st ∷ ss) = host_marks i call ss

abbrev pub submission_marks : Answer Done → Mark → List Mark
submission_marks (gives accepted) mark = mark ∷ []
submission_marks (refused k) mark = []

abbrev pub call_marks : World → Call → List Mark
call_marks v (host i call) = host_marks i call v.units
call_marks v (submits k d response r b) = submission_marks (submitting v.controller k (length d) (length response)) (submitted k d response)
call_marks v (acknowledges code h) = []
call_marks v (lends d response) = []
call_marks v (lends_unit i buffer) = []

-- The log of a run.
abbrev pub log : {w v : World} → Run w v → List Mark
log start = []
log (a_round {v = v} r busy) = log r ++ round_marks v busy
log (a_call {v = v} r call) = log r ++ call_marks v call

-- A frame of the log: what it began with, and its marks up to the beginning of the next.
pub record Capture : Type 0 where
  pub frame : Frame
  pub lent : List ℕ
  pub found : List ℕ
  pub marks : List Mark

abbrev pub with_mark : Mark → List Capture → List Capture
with_mark m [] = []
with_mark m (l ∷ ls) = record { frame = l.frame; lent = l.lent; found = l.found; marks = l.marks ++ (m ∷ []) } ∷ ls

abbrev pub cut : List Capture → Mark → List Capture
cut ls (begins f lent found) = record { frame = f; lent = lent; found = found; marks = [] } ∷ ls
cut ls (acts a) = with_mark (acts a) ls
cut ls (does own e) = with_mark (does own e) ls
cut ls (asks own call) = with_mark (asks own call) ls
cut ls (submitted k d response) = with_mark (submitted k d response) ls

abbrev pub cut_all : List Capture → List Mark → List Capture
cut_all ls [] = ls
cut_all ls (m ∷ ms) = cut_all (cut ls m) ms

-- The frames of a log, the latest in front.
abbrev pub frames_of : List Mark → List Capture
frames_of ms = cut_all [] ms

-- The controller's acts among marks, and the deeds of the unit with a code.
abbrev pub act_in : Mark → List Act
act_in (begins f lent found) = []
act_in (acts a) = a ∷ []
act_in (does own e) = []
act_in (asks own call) = []
act_in (submitted k d response) = []

abbrev pub acts_in : List Mark → List Act
acts_in [] = []
acts_in (m ∷ ms) = act_in m ++ acts_in ms

abbrev pub deed_in : ℕ → Mark → List Deed
deed_in own (begins f lent found) = []
deed_in own (acts a) = []
deed_in own (does code e) = cond (eqb code own) (e ∷ []) []
deed_in own (asks code call) = []
deed_in own (submitted k d response) = []

abbrev pub deeds_in : ℕ → List Mark → List Deed
deeds_in own [] = []
deeds_in own (m ∷ ms) = deed_in own m ++ deeds_in own ms

-- What is due behind marks: an accepted submission that has not begun, or else a service frame.
pub data Due : Type 0 where
  service : Due
  command : Command → (d response : List ℕ) → Due

abbrev pub due_by : Due → Mark → Due
due_by due (begins f lent found) = service
due_by due (acts a) = due
due_by due (does own e) = due
due_by due (asks own call) = due
due_by due (submitted k d response) = command k d response

abbrev pub due_all : Due → List Mark → Due
due_all due [] = due
due_all due (m ∷ ms) = due_all (due_by due m) ms

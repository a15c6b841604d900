-- Demand 2: "On a bus run in rounds, from a quiet start, with one controller, different codes and no step refused, each nibble sent
-- reaches the addressed unit once and in order; code 0 addresses all. That unit gives the one response defined for its state, or the
-- defined silence. No other unit's opening, queues, enabling or request is changed by the frame." `Run` is the bus, `log` what happens on it.
use Rattle.std.specs.Prelude.{ℕ, ◌<◌, ◌≤◌, min, ◌≡◌, Bool, true, false, cond, ◌||◌, List, [], ◌∷◌, ◌++◌, map, eqb, length, take, drop}
use Rattle.bus.specs.declared.Station.{Station}
use Rattle.field.specs.Field.{nibbles}
use Rattle.frame.specs.Frame.{is_submitted}
use Rattle.frame.specs.declared.Frame.{Frame}
use Rattle.frame.specs.declared.Kind.{Kind}
use Rattle.frame.specs.declared.Kind.TheVariants.{Submitted, Poll, Null}
use Rattle.inside.specs.Inside.{Inside, inside_of, reply_for, data_in}
use Rattle.message.specs.Answer.{Answer, gives}
use Rattle.reply.specs.Reply.{is_silent, reply_status}
use Rattle.serial.specs.declared.Reply.{Reply}
use Rattle.turn.specs.declared.Event.{Event}
use Rattle.turn.specs.declared.Event.TheVariants.{Nothing, Ended as EndedWith, Handed}
use Rattle.unit.specs.Unit.{pulls_of}
use Rattle.whole.specs.Back.{response_for}
use Rattle.whole.specs.Whole.{bytes_for}
use Rattle.delivery.specs.Calls.{in_frame}
use Rattle.delivery.specs.Run.{QuietStart, Run, codes_of}
use Rattle.delivery.specs.Lists.{All, One, Has, Pairs, Front}
use Rattle.delivery.specs.Following.{whole_of, following_all}
use Rattle.delivery.specs.Log.{Act, sent, heard, told, Deed, took, settled, spoke, done, Mark, begins, acts, round_marks, log, units_marks, Capture, frames_of, acts_in, deeds_in, Due, service, command, due_all}
use Rattle.delivery.specs.World.{World, Busy, levels, outcome}

-- A frame's message. Own code or code 0 is addressed.
abbrev pub message : Capture → List ℕ
message l = nibbles (bytes_for l.frame.command l.lent)

abbrev pub is_addressed : Capture → ℕ → Bool
is_addressed l own = eqb l.frame.command.device own || eqb l.frame.command.device 0

-- The one response of the unit with a code in which x is inside as it takes the last nibble.
abbrev pub reply_to : Capture → ℕ → Inside → Reply
reply_to l own x = reply_for own x l.frame.command l.lent

abbrev pub response : Capture → ℕ → Inside → List ℕ
response l own x = nibbles (response_for (data_in x (reply_to l own x)) (reply_status (reply_to l own x)))

-- All that it does in the frame: it takes each nibble once, and responds or is silent. A unit that is not addressed takes the device code.
abbrev pub answer_of : Capture → ℕ → Inside → List Deed
answer_of l own x = cond (is_silent (reply_to l own x)) [] (map spoke (response l own x) ++ (done ∷ []))

abbrev pub deeds_of : Capture → ℕ → Inside → List Deed
deeds_of l own x = cond (is_addressed l own) (map took (message l) ++ (settled x ∷ answer_of l own x)) (map took (take 2 (message l)))

-- All that the controller does, by who answers: it sends each nibble once, takes each of the response once, and tells the application
-- status and count, with the data at the front of the response buffer and the rest unchanged; or FF and 0, with the buffer unchanged. A poll
-- that ends with 00 hands its code over, and of other service frames nothing is told.
pub data Answerer : Type 0 where
  nobody : Answerer
  unit : (own : ℕ) → Inside → Answerer

abbrev pub status_by : Capture → Answerer → ℕ
status_by l nobody = 0xFF
status_by l (unit own x) = reply_status (reply_to l own x)

abbrev pub data_by : Capture → Answerer → List ℕ
data_by l nobody = []
data_by l (unit own x) = data_in x (reply_to l own x)

abbrev pub heard_by : Capture → Answerer → List ℕ
heard_by l nobody = []
heard_by l (unit own x) = response l own x

abbrev pub event_told : Kind → (code status count : ℕ) → Event
event_told Submitted code status count = EndedWith status count
event_told Poll code status count = cond (eqb status 0x00) (Handed code) Nothing
event_told Null code status count = Nothing

abbrev pub end_by : Capture → Answerer → Act
end_by l a = told (event_told l.frame.kind l.frame.command.device (status_by l a) (length (data_by l a))) (cond (is_submitted l.frame.kind) (data_by l a ++ drop (length (data_by l a)) l.found) [])

abbrev pub acts_of : Capture → Answerer → List Act
acts_of l a = map sent (message l) ++ (map heard (heard_by l a) ++ (end_by l a ∷ []))

-- Who answers: the one addressed unit for which a response is defined, with what was inside it at the last nibble; nobody, where every
-- addressed unit's definition says silence, or no unit has the code.
pub data Hushes (l : Capture) (own : ℕ) : Type 0 where
  not_meant : is_addressed l own ≡ false → Hushes l own
  by_the_rule : (x : Inside) → Has (settled x) (deeds_in own l.marks) → is_silent (reply_to l own x) ≡ true → Hushes l own

pub record Speaks (l : Capture) (own : ℕ) (x : Inside) (code : ℕ) : Type 0 where
  pub named : code ≡ own
  pub meant : is_addressed l own ≡ true
  pub inside : Has (settled x) (deeds_in own l.marks)
  pub defined : is_silent (reply_to l own x) ≡ false

abbrev pub Answers : List ℕ → Capture → Answerer → Type 0
Answers codes l nobody = All (Hushes l) codes
Answers codes l (unit own x) = One (Speaks l own x) (Hushes l) codes

-- A frame that has ended: the controller has done all of it, and so has each unit.
pub record Ended (codes : List ℕ) (l : Capture) : Type 0 where
  pub answerer : Answerer
  pub acted : acts_in l.marks ≡ acts_of l answerer
  pub answers : Answers codes l answerer
  pub parts : All (λ (own : ℕ). (x : Inside) × (deeds_in own l.marks ≡ deeds_of l own x)) codes

-- A frame that runs: a front of all that, each unit as far as the controller. Behind the last command nibble it is settled who answers.
pub record Part (l : Capture) (own : ℕ) : Type 0 where
  pub inside : Inside
  pub in_order : Front (deeds_in own l.marks) (deeds_of l own inside)
  pub reached : min (length (acts_in l.marks)) (min (length (message l)) (length (deeds_of l own inside))) ≤ length (deeds_in own l.marks)

pub record Underway (codes : List ℕ) (l : Capture) : Type 0 where
  pub answerer : Answerer
  pub in_order : Front (acts_in l.marks) (acts_of l answerer)
  pub answers : length (message l) < length (acts_in l.marks) → Answers codes l answerer
  pub parts : All (Part l) codes

-- The frames of a log, the latest in front: all have ended, but the one that runs, if one does.
pub data Delivered (codes : List ℕ) : (runs : Bool) → List Capture → Type 0 where
  all_ended : {ls : List Capture} → All (Ended codes) ls → Delivered codes false ls
  one_runs : {l : Capture} {ls : List Capture} → Underway codes l → All (Ended codes) ls → Delivered codes true (l ∷ ls)

-- An accepted submission is the next frame that begins, in the next round, with its own command, data and response buffer. Every other
-- frame is a service frame.
abbrev pub InTurn : Due → List Mark → Type 0
InTurn service ms = All (λ (m : Mark). (f : Frame) (lent found : List ℕ) → m ≡ begins f lent found → is_submitted f.kind ≡ false) ms
InTurn (command k d response) ms = ms ≡ begins (record { kind = Submitted; command = k; data_length = length d }) d response ∷ []

-- A unit pulls a data line only in its response: no other has placed a nibble.
pub data Places (frames : List Capture) (st : Station) : Type 0 where
  no_nibble : (pulls_of st.unit).nibble ≡ 15 → Places frames st
  its_own : (l : Capture) (before : List Capture) (x : Inside) → frames ≡ l ∷ before → Speaks l st.unit.own x st.unit.own → Places frames st

-- The application is told something only as a frame ends, and that is in the log.
pub data TellsEnds (answer : Answer Event) (ms : List Mark) : Type 0 where
  nothing : answer ≡ gives Nothing → TellsEnds answer ms
  of_a_frame : (e : Event) (buffer : List ℕ) → answer ≡ gives e → Has (acts (told e buffer)) ms → TellsEnds answer ms

-- The demand, for a run, and so for every shorter one, with the next round of it. What is inside each unit changes by its own deeds and its
-- host's calls alone, and between frames no unit does anything.
pub record Demand2 {w v : World} (r : Run w v) : Type 0 where
  pub frames : Delivered (codes_of v.units) (in_frame v.controller.stage) (frames_of (log r))
  pub in_turn : (busy : Busy) → InTurn (due_all service (log r)) (round_marks v busy)
  pub insides : Pairs (λ (st after : Station). inside_of after ≡ (following_all st.unit.own (whole_of st) (log r)).inside) w.units v.units
  pub placed : All (Places (frames_of (log r))) v.units
  pub tells : (busy : Busy) → TellsEnds (outcome v busy) (round_marks v busy)
  pub between : in_frame v.controller.stage ≡ false → (busy : Busy) → units_marks (levels v) busy.there v.units ≡ []

abbrev pub Demand : Type 0
Demand = (w v : World) → QuietStart w → (r : Run w v) → Demand2 r

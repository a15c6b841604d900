-- Where every party of demand 2's bus can be: between frames, and in each stretch of a frame. The statements of `Demand2` say that a run
-- from a quiet start is never anywhere else, and what each stretch means.
use Prim.Native.Nat.{ℕ, suc, ◌+◌, ◌*◌, ◌<◌, ◌≤◌}
use mathlib.Core.Path.{◌≡◌}
use mathlib.Core.Bool.{Bool, true, false, ◌||◌}
use mathlib.Core.List.{List}
use lib.Dec.{eqb}
use lib.ListN.{length}
use Rattle.answer.specs.Answer.{nothing_taken}
use Rattle.answer.specs.declared.Response.{Response}
use Rattle.answer.specs.declared.Response.TheVariants.{Complete}
use Rattle.bus.specs.declared.Station.{Station}
use Rattle.controller.specs.Controller.{controller_of, controller_moved, frame_of}
use Rattle.frame.specs.Frame.{begun, data_of, is_submitted, lent_to, over}
use Rattle.frame.specs.declared.Frame.{Frame}
use Rattle.std.specs.Prelude.{Ok}
use Rattle.frame.specs.declared.Moved.{Moved}
use Rattle.frame.specs.declared.Stage.{Stage}
use Rattle.frame.specs.declared.Stage.TheVariants.{Free, Resting, Waiting, Sending, Listening}
use Rattle.header.specs.declared.Command.{Command}
use Rattle.inside.specs.Inside.{Inside, inside_of, reply_for, responded, data_in}
use Rattle.inside.specs.Lawful.{Fit}
use Rattle.kind.specs.Kinds.{kind_of, is_short}
use Rattle.line.specs.declared.Listener.{Listener}
use Rattle.line.specs.declared.Listener.TheVariants.{Ready}
use Rattle.line.specs.declared.Sender.{Sender}
use Rattle.line.specs.declared.Sender.TheVariants.{Next, Placed, Kept}
use Rattle.message.specs.Nibbles.{nibble_in}
use Rattle.phase.specs.declared.Phase.{Phase}
use Rattle.phase.specs.declared.Phase.TheVariants.{Idle, Selecting, Receiving, Responding, SittingOut}
use Rattle.phase.specs.declared.Progress.TheVariants.{Taking, Answered}
use Rattle.reply.specs.Reply.{reply_status, is_silent}
use Rattle.ring.specs.Ring.{live}
use Rattle.ring.specs.declared.Entry.{Entry}
use Rattle.ring.specs.declared.Ring.{Ring}
use Rattle.serial.specs.declared.Reply.{Reply}
use Rattle.whole.specs.Back.{response_for, taken_at, stored_at, length_of, received}
use Rattle.whole.specs.Whole.{bytes_for, Sent}
use Rattle.delivery.proofs.Moves.{Becomes, Nearer}
use Rattle.delivery.proofs.Taking.{Fits, Heard}
use Rattle.delivery.specs.Lists.{All, One, Has}
use Rattle.delivery.proofs.Promised.{Moment, Promised}
use Rattle.delivery.specs.World.{World, Busy, levels, round, Different}

-- A unit whose lent memory is long enough, and whose inside fits its kind.
pub record Sound (st : Station) : Type 0 where
  pub room : is_short (kind_of st.unit.own) (length st.buffer) (length st.output) ≡ false
  pub fit : Fit (kind_of st.unit.own) (inside_of st)

-- Own code or code 0.
abbrev pub addressed : Command → ℕ → Bool
addressed c own = eqb c.device own || eqb c.device 0

-- A unit that no frame has reached yet.
pub data Fresh (st : Station) : Type 0 where
  idles : st.unit.phase ≡ Idle → Fresh st
  selects : st.unit.phase ≡ Selecting Ready false 0 → Fresh st

-- A sender whose nibble is n.
pub data Sends (n : ℕ) : Sender → Type 0 where
  s_next : Sends n Next
  s_placed : Sends n (Placed n)
  s_kept : Sends n (Kept n)

-- A unit listens, has answered the whole command, or sits out. P is what is to be known of a reply, and of what is inside the unit.
pub data Part (P : Reply → Inside → Type 0) (c : Command) (d : List ℕ) (i : ℕ) (sender : Sender) (st : Station) : Type 0 where
  listens :
      (ear : Listener) (t : ℕ) → Fits (nibble_in (bytes_for c d) i) sender ear t → Heard (bytes_for c d) ear (i + t) st.unit.phase st.buffer
      → (2 ≤ i + t → addressed c st.unit.own ≡ true) → (1 ≤ i + t → st.unit.asking ≡ false)
      → Part P c d i sender st
  answers :
      (ear : Listener) (r : Reply) → Fits (nibble_in (bytes_for c d) i) sender ear 1 → suc i ≡ 2 * length (bytes_for c d) → addressed c st.unit.own ≡ true
      → st.unit.phase ≡ Receiving ear (Answered r) → P r (inside_of st) → st.unit.asking ≡ false
      → Part P c d i sender st
  sits :
      (now : Bool) → addressed c st.unit.own ≡ false → st.unit.phase ≡ SittingOut now → (now ≡ true → (n : ℕ) × (sender ≡ Kept n)) → st.unit.asking ≡ false
      → Part P c d i sender st

-- A unit that sits out.
abbrev pub Sits : Station → Type 0
Sits st = (st.unit.phase ≡ SittingOut false) × (st.unit.asking ≡ false)

-- A unit that has no response to give: the command does not address it, or silence is defined for what was inside it when it took the
-- last nibble.
pub data Hushed (T : Moment) (c : Command) (d : List ℕ) (st : Station) : Type 0 where
  not_its_own : addressed c st.unit.own ≡ false → Hushed T c d st
  by_the_rule : (given : Inside) → T st.unit.own given → is_silent (reply_for st.unit.own given c d) ≡ true → Hushed T c d st

-- How long HSK may have been seen high, by where the sender is.
abbrev pub Quiet : Sender → ℕ → Type 0
Quiet Next q = q ≤ 1
Quiet (Placed n) q = q ≤ 2
Quiet (Kept n) q = q ≡ 0

-- The data and the bytes of a promised response.
abbrev pub answer_data : {T : Moment} {own : ℕ} {c : Command} {d : List ℕ} {r : Reply} {x : Inside} → Promised T own c d r x → List ℕ
answer_data {r = r} p = data_in p.given r

abbrev pub answer_bytes : {T : Moment} {own : ℕ} {c : Command} {d : List ℕ} {r : Reply} {x : Inside} → Promised T own c d r x → List ℕ
answer_bytes {r = r} p = response_for (answer_data p) (reply_status r)

-- A unit that responds to a command c while the controller's listener, what it has taken and how long it has seen HSK high are these,
-- and the response buffer is what the frame found, with what was taken stored.
pub data Talk (T : Moment) (c : Command) (d : List ℕ) (stores : Bool) (found : List ℕ) (ear : Listener) (taken : Response) (quiet : ℕ) (buffer : List ℕ) (st : Station) : Type 0 where
  talks :
      (r : Reply) (j t : ℕ) (sender : Sender) (wait : Bool) → st.unit.phase ≡ Responding r j sender wait → (p : Promised T st.unit.own c d r (inside_of st))
      → Fits (nibble_in (answer_bytes p) j) sender ear t → taken ≡ taken_at (answer_bytes p) c.buffer_length (j + t) → buffer ≡ stored_at (answer_bytes p) c.buffer_length stores (j + t) found
      → j < length_of (answer_data p) → (wait ≡ true → (sender ≡ Next) × (quiet ≡ 0)) → Quiet sender quiet → st.unit.asking ≡ false
      → addressed c st.unit.own ≡ true
      → Talk T c d stores found ear taken quiet buffer st

-- A unit whose response has arrived whole in a round that comes to m: `before` is that unit among those which the round found. What
-- waited for the last nibble is done to what was inside it.
pub data Spoke (T : Moment) (f : Frame) (d found : List ℕ) (m : Moved) (buffer : List ℕ) (ss : List Station) (st : Station) : Type 0 where
  spoke :
      (r : Reply) (j : ℕ) (sender : Sender) (before : Station) → Has before ss → before.unit.phase ≡ Responding r j sender false → st.unit.own ≡ before.unit.own → addressed f.command before.unit.own ≡ true
      → (p : Promised T before.unit.own f.command d r (inside_of before))
      → m ≡ over f (Complete (reply_status r) (length (answer_data p))) → buffer ≡ received (is_submitted f.kind) (answer_data p) found
      → inside_of st ≡ responded (inside_of before) r → Sits st → Spoke T f d found m buffer ss st

-- What the types and the calls say of a frame: its command and data, and that what is lent is long enough. A service frame asks for none.
pub record Framed (f : Frame) (lent found : List ℕ) (timeout : ℕ) : Type 0 where
  pub sent : Sent f.command (data_of f lent)
  pub announced : f.data_length ≡ length (data_of f lent)
  pub room : f.command.buffer_length ≤ length found
  pub service : is_submitted f.kind ≡ false → f.command.buffer_length ≡ 0
  pub fits : lent_to f (length lent) (length found) ≡ Ok tt
  pub eight : 8 ≤ timeout

abbrev pub world : ℕ → Stage → Ring → List Station → List ℕ → List ℕ → World
world timeout stage ring units lent response = record { controller = controller_of timeout stage ring; units = units; lent = lent; response = response }

-- A unit that has answered the whole command: it has taken the last nibble.
abbrev pub is_answered : Phase → Bool
is_answered Idle = false
is_answered (Selecting ear half low) = false
is_answered (Receiving ear (Taking p)) = false
is_answered (Receiving ear (Answered r)) = true
is_answered (Responding reply i sender wait) = false
is_answered (SittingOut last) = false

-- A unit that responds, and that whoever responds goes on to: no response is done in this round.
abbrev pub is_responding : Phase → Bool
is_responding Idle = false
is_responding (Selecting ear half low) = false
is_responding (Receiving ear progress) = false
is_responding (Responding reply i sender wait) = true
is_responding (SittingOut last) = false

abbrev pub Speaking : World → Busy → Type 0
Speaking w busy = (st after : Station) → Becomes (levels w) busy.there w.units st after → is_responding st.unit.phase ≡ true → is_responding after.unit.phase ≡ true

-- T is known of each unit that takes the last nibble in this round.
abbrev pub Noted : Moment → World → Busy → Type 0
Noted T w busy = (st after : Station) → Becomes (levels w) busy.there w.units st after → is_answered st.unit.phase ≡ false → is_answered after.unit.phase ≡ true → T st.unit.own (inside_of st)

-- The stages of a frame f that has found the response buffer `found`; T is known of the moments in which units have taken its last
-- nibble.
pub data InFrame (T : Moment) (f : Frame) (found : List ℕ) : World → Type 0 where
  begins :
      {timeout : ℕ} {ring : Ring} {units : List Station} {lent : List ℕ} → Framed f lent found timeout → Different units → All (λ (st : Station). Fresh st × Sound st) units
      → InFrame T f found (world timeout (begun f) ring units lent found)
  sends :
      (i : ℕ) (sender : Sender) {timeout : ℕ} {ring : Ring} {units : List Station} {lent : List ℕ} → Framed f lent found timeout → Different units
      → Sends (nibble_in (bytes_for f.command (data_of f lent)) i) sender → i < 2 * length (bytes_for f.command (data_of f lent))
      → All (λ (st : Station). Part (Promised T st.unit.own f.command (data_of f lent)) f.command (data_of f lent) i sender st × Sound st) units
      → InFrame T f found (world timeout (Sending f i sender false) ring units lent found)
  hears :
      (ear : Listener) (taken : Response) (quiet : ℕ) {timeout : ℕ} {ring : Ring} {units : List Station} {lent response : List ℕ} → Framed f lent found timeout → Different units → length response ≡ length found
      → One (λ (st : Station). Talk T f.command (data_of f lent) (is_submitted f.kind) found ear taken quiet response st × Sound st) (λ (st : Station). Sits st × Sound st) units
      → InFrame T f found (world timeout (Listening f ear taken quiet) ring units lent response)
  waits :
      (quiet : ℕ) {timeout : ℕ} {ring : Ring} {units : List Station} {lent : List ℕ} → Framed f lent found timeout → Different units → All (λ (st : Station). Sits st × Sound st) units
      → All (Hushed T f.command (data_of f lent)) units
      → InFrame T f found (world timeout (Listening f Ready nothing_taken quiet) ring units lent found)

-- What a round of it comes to. A frame ends unanswered only where no unit was responding: no response is lost to the time-out.
abbrev pub moved_in : World → Busy → Moved
moved_in w busy = frame_of w.controller (levels w) busy.here w.lent

abbrev pub Finishes : World → Busy → Type 0
Finishes w busy = (round w busy).controller ≡ controller_moved w.controller (moved_in w busy)

pub data Goes (T : Moment) (f : Frame) (found : List ℕ) (w : World) (busy : Busy) : Type 0 where
  on : (round w busy).controller.ring ≡ w.controller.ring → InFrame T f found (round w busy) → Speaking w busy → Nearer w busy → Goes T f found w busy
  answered :
      Finishes w busy → Different (round w busy).units
      → One (λ (st : Station). Spoke T f (data_of f w.lent) found (moved_in w busy) (round w busy).response w.units st × Sound st) (λ (st : Station). Sits st × Sound st) (round w busy).units
      → Goes T f found w busy
  unanswered :
      Finishes w busy → moved_in w busy ≡ over f nothing_taken → (round w busy).response ≡ found → Different (round w busy).units → All (λ (st : Station). Sits st × Sound st) (round w busy).units
      → All (Hushed T f.command (data_of f w.lent)) (round w busy).units
      → All Sits w.units
      → Goes T f found w busy

-- Codes of a ring are bytes.
abbrev pub Codes : Ring → Type 0
Codes ring = All (λ (e : Entry). e.code < 256) (live ring)

-- A world of a run: between frames, in the first round of a rest, or in a frame.
pub data AtRest : Stage → Type 0 where
  is_free : AtRest Free
  is_resting : AtRest (Resting false)

pub data On (T : Moment) : World → Type 0 where
  rests :
      {timeout : ℕ} {stage : Stage} {ring : Ring} {units : List Station} {lent response : List ℕ} → AtRest stage → 8 ≤ timeout → Codes ring → Different units → All (λ (st : Station). Fresh st × Sound st) units
      → On T (world timeout stage ring units lent response)
  submitted :
      (f : Frame) {timeout : ℕ} {ring : Ring} {units : List Station} {lent response : List ℕ} → Framed f lent response timeout → Codes ring → Different units → All (λ (st : Station). Fresh st × Sound st) units
      → On T (world timeout (Waiting f) ring units lent response)
  ended :
      {timeout : ℕ} {ring : Ring} {units : List Station} {lent response : List ℕ} → 8 ≤ timeout → Codes ring → Different units → All (λ (st : Station). Sits st × Sound st) units
      → On T (world timeout (Resting true) ring units lent response)
  runs : (f : Frame) (found : List ℕ) {w : World} → InFrame T f found w → Codes w.controller.ring → On T w

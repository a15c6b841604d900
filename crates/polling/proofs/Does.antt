-- What a call of the controller does, at any levels: to the ring, to the frame that it has, and what it tells the application.
use Prim.Native.Nat.{ℕ, ◌<◌}
use native.Mathlib.Omega.{arith}
use mathlib.Core.Path.{◌≡◌, refl, sym, ◌∙◌, ap, subst}
use mathlib.Core.Bool.{Bool, true, false, cond, ◌&&◌, true≢false, false≢true}
use mathlib.Core.List.{List, [], ◌∷◌}
use borrow.Author.Tests.{eqb-true, eqb-false}
use lib.Dec.{eqb, ltb}
use lib.ListN.{length}
use Rattle.answer.specs.Answer.{taken_with, status_of, count_of}
use Rattle.answer.specs.declared.Response.{Response}
use Rattle.application.specs.Calls.{Done, done, submitting, is_shut_out, with_command, without_mark}
use Rattle.controller.specs.Calls.{stepping}
use Rattle.controller.specs.Controller.{is_idle, service, controller_moved, controller_step, event_in, ring_after, event_after, frame_of}
use Rattle.controller.specs.declared.Controller.{Controller}
use Rattle.frame.specs.Frame.{end_of, submitted_frame, frame_step, lent_at, next_nibble, waited, over, stays, quiet_after, ends, rest_step, last_nibble}
use Rattle.std.specs.Prelude.{Some, None, Result, Ok, Err}
use Rattle.delivery.proofs.Ends.{and_left}
use Rattle.delivery.proofs.Running.{first_of}
use Rattle.frame.specs.declared.Frame.{Frame}
use Rattle.frame.specs.declared.Kind.{Kind}
use Rattle.frame.specs.declared.Kind.TheVariants.{Submitted, Poll, Null}
use Rattle.frame.specs.declared.LentError.{LentError}
use Rattle.frame.specs.declared.LentError.TheVariants.{Data, Buffer}
use Rattle.frame.specs.declared.Moved.{Moved}
use Rattle.frame.specs.declared.Stage.{Stage}
use Rattle.frame.specs.declared.Stage.TheVariants.{Free, Resting, Waiting, Sending, Listening}
use Rattle.header.specs.declared.Command.{Command}
use Rattle.line.specs.Line.{sent_of, hear_of, taken_of}
use Rattle.line.specs.declared.Lines.{Lines}
use Rattle.line.specs.declared.Listener.{Listener}
use Rattle.line.specs.declared.Sender.{Sender}
use Rattle.message.specs.Answer.{Answer, gives, refused, kept}
use Rattle.ring.specs.Ring.{counted, live, ring_of, with_mark, is_marked}
use Rattle.turn.specs.Turn.{ring_ended, event_of as frameEvent}
use Rattle.turn.specs.declared.Event.{Event}
use Rattle.turn.specs.declared.Event.TheVariants.{Nothing}
use Rattle.polling.specs.Beyond.{SeesLow, sees_low}
use Rattle.polling.specs.Moves.{Move, steps, submits, acknowledges, after, is_begun, begins, is_for, told, event_of, Stays, runs, goes_on, ends as ends_now}
use Rattle.delivery.specs.Calls.{running}
use Rattle.polling.specs.History.{is_done, any_for, settles}

-- A poll's frame.
abbrev pub is_poll : Kind → Bool
is_poll Submitted = false
is_poll Poll = true
is_poll Null = false

-- The frame that a stage has, submitted or running.
abbrev pub held : Stage → List Frame
held Free = []
held (Resting first) = []
held (Waiting f) = f ∷ []
held (Sending f i sender wait) = f ∷ []
held (Listening f ear response quiet) = f ∷ []

-- The same frame, or none.
pub data Onward (before now : Stage) : Type 0 where
  same_frame : held now ≡ held before → ((f : Frame) → running before ≡ f ∷ [] → running now ≡ f ∷ []) → Onward before now
  no_more : running before ≡ [] → held now ≡ [] → Onward before now

-- It settles nothing of a unit with a mark.
abbrev pub Unsettled : Controller → Move → Type 0
Unsettled c m = (own : ℕ) → is_marked own (live c.ring) ≡ true → settles own c m ≡ false

pub data Does (c : Controller) (m : Move) : Type 0 where
  keeps : (after c m).ring ≡ c.ring → begins c m ≡ false → event_of c m ≡ Nothing → Unsettled c m → Onward c.stage (after c m).stage → Does c m
  accepts : (k : Command) (n : ℕ) → (after c m).ring ≡ c.ring → begins c m ≡ false → event_of c m ≡ Nothing → Unsettled c m → is_shut_out k c.ring ≡ false
      → eqb k.command 0x0A ≡ false → (after c m).stage ≡ Waiting (submitted_frame k n) → running c.stage ≡ [] → Does c m
  serves : begins c m ≡ true → event_of c m ≡ Nothing → Unsettled c m → 0 < counted c.ring → SeesLow m → after c m ≡ service c → Does c m
  frame_ends :
      (f : Frame) (status count : ℕ) → running c.stage ≡ f ∷ [] → held c.stage ≡ f ∷ [] → begins c m ≡ false → event_of c m ≡ frameEvent f status count
      → ((own : ℕ) → settles own c m ≡ (is_done (frameEvent f status count) && is_for own f))
      → (after c m).ring ≡ ring_ended c.ring f status → held (after c m).stage ≡ [] → Does c m
  clears :
      (code : ℕ) → m ≡ acknowledges code → is_marked code (live c.ring) ≡ true → begins c m ≡ false → event_of c m ≡ Nothing → ((own : ℕ) → settles own c m ≡ eqb code own) → (after c m).ring ≡ ring_of (with_mark false code (live c.ring))
      → (after c m).stage ≡ c.stage → Does c m

-- An idle stage has no frame, and a stage that has none runs none.
pub idle_runs : (stage : Stage) → is_idle stage ≡ true → running stage ≡ []
idle_runs Free e = refl
idle_runs (Resting first) e = refl
idle_runs (Waiting f) e = refl
idle_runs (Sending f i sender wait) e = absurd (false≢true e)
idle_runs (Listening f ear response quiet) e = absurd (false≢true e)

pub none_runs : (stage : Stage) → held stage ≡ [] → running stage ≡ []
none_runs Free e = refl
none_runs (Resting first) e = refl
none_runs (Waiting f) e = refl
none_runs (Sending f i sender wait) e = e
none_runs (Listening f ear response quiet) e = e

-- Where the stage stays, no frame begins.
pub still : (stage : Stage) → (is_idle stage && is_begun (running stage)) ≡ false
still Free = refl
still (Resting first) = refl
still (Waiting f) = refl
still (Sending f i sender wait) = refl
still (Listening f ear response quiet) = refl

pub and_false : (b : Bool) → (b && false) ≡ false
and_false true = refl
and_false false = refl

unchanged : (c : Controller) (m : Move) → after c m ≡ c → event_of c m ≡ Nothing → Unsettled c m → Does c m
unchanged c m e v u =
    keeps (ap (λ (x : Controller). x.ring) e) (ap (λ (x : Controller). is_idle c.stage && is_begun (running x.stage)) e ∙ still c.stage) v u
    (same_frame (ap (λ (x : Controller). held x.stage) e) (λ f r. ap (λ (x : Controller). running x.stage) e ∙ r))

-- A frame's step, of a stage that is not idle.
pub data Moves (stage : Stage) (mv : Moved) : Type 0 where
  not_yet : mv.end ≡ None → Onward stage mv.stage → Moves stage mv
  now : (f : Frame) (status count : ℕ) → running stage ≡ f ∷ [] → held stage ≡ f ∷ [] → mv.end ≡ Some (end_of f status count) → held mv.stage ≡ [] → Moves stage mv

either : (frames : Stage → List Frame) (t : Bool) (a b : Stage) (fs : List Frame) → frames a ≡ fs → frames b ≡ fs → frames (cond t a b) ≡ fs
either frames true a b fs e g = e
either frames false a b fs e g = g

rest-held : (first : Bool) → held (rest_step first) ≡ []
rest-held true = refl
rest-held false = refl

waited_by : (t : Bool) (f : Frame) (ear : Listener) (response : Response) (quiet : ℕ) (stage : Stage) → running stage ≡ f ∷ [] → held stage ≡ f ∷ [] → Moves stage (cond t (over f response) (stays (Listening f ear response quiet)))
waited_by true f ear response quiet stage r h = now f (status_of response) (count_of response) r h refl refl
waited_by false f ear response quiet stage r h = not_yet refl (same_frame (sym h) (λ g x. sym r ∙ x))

listens_by : (t : Bool) (f : Frame) (ear ear' : Listener) (response response' : Response) (timeout quiet : ℕ) (stage : Stage) → running stage ≡ f ∷ [] → held stage ≡ f ∷ []
    → Moves stage (cond t (stays (Listening f ear response' 0)) (waited f ear' response timeout quiet))
listens_by true f ear ear' response response' timeout quiet stage r h = not_yet refl (same_frame (sym h) (λ g x. sym r ∙ x))
listens_by false f ear ear' response response' timeout quiet stage r h = waited_by (ends ear' response timeout quiet) f ear' response quiet stage r h

moves : (stage : Stage) (timeout : ℕ) (seen : Lines) (busy : Bool) (d : List ℕ) → Moves stage (frame_step stage timeout seen busy d)
moves Free timeout seen busy d = not_yet refl (same_frame refl (λ f r. r))
moves (Resting first) timeout seen busy d = not_yet refl (no_more refl (rest-held first))
moves (Waiting f) timeout seen busy d = not_yet refl (same_frame refl (λ g r. absurd (false≢true (ap is_begun r))))
moves (Sending f i sender wait) timeout seen busy d =
    not_yet refl (same_frame (sends held (λ j s w. refl) (λ e t q. refl)) (λ g r. sends running (λ j s w. refl) (λ e t q. refl) ∙ r))
  where
    sends : (frames : Stage → List Frame) → ((j : ℕ) (s : Sender) (w : Bool) → frames (Sending f j s w) ≡ f ∷ [])
        → ((e : Listener) (t : Response) (q : ℕ) → frames (Listening f e t q) ≡ f ∷ []) → frames (frame_step (Sending f i sender wait) timeout seen busy d).stage ≡ f ∷ []
    sends frames s l =
        either frames wait (Sending f i sender false) _ (f ∷ []) (s i sender false)
        (either frames (sent_of sender seen.hsk) (next_nibble f i) _ (f ∷ []) (either frames (ltb i (last_nibble f)) _ _ (f ∷ []) (s _ _ _) (l _ _ _)) (s _ _ _))
moves (Listening f ear response quiet) timeout seen busy d =
    listens_by (taken_of ear seen.hsk) f (hear_of ear seen.hsk busy) (hear_of ear seen.hsk busy) response
    (taken_with response seen.nibble f.command.buffer_length) timeout (quiet_after quiet seen.hsk) (Listening f ear response quiet) refl refl

-- A step that is not refused.
busy_begins : (stage next : Stage) → is_idle stage ≡ false → (is_idle stage && is_begun (running next)) ≡ false
busy_begins stage next e = ap (λ (t : Bool). t && is_begun (running next)) e

module _ (c : Controller) (seen : Lines) (busy : Bool) (lent response : List ℕ) (goes : stepping c seen busy lent response ≡ gives (event_in c seen busy lent)) where
  abbrev m : Move
  m = steps seen busy lent response

  stepped : after c m ≡ controller_step c seen busy lent
  stepped = ap (λ (a : Answer Event). kept a (controller_step c seen busy lent) c) goes

  event : event_of c m ≡ event_in c seen busy lent
  event = ap told goes

  told-nothing : event_of c m ≡ Nothing → Unsettled c m
  told-nothing e own marked = ap (λ (x : Event). is_done x && any_for own (running c.stage)) e

  -- In a frame, or resting.
  framed : is_idle c.stage ≡ false → Does c m
  framed i = by (moves c.stage c.timeout seen busy lent)
    where
      mv : after c m ≡ controller_moved c (frame_of c seen busy lent)
      mv = stepped ∙ rw i

      tells : event_of c m ≡ event_after (frame_of c seen busy lent).end
      tells = event ∙ rw i

      by : Moves c.stage (frame_step c.stage c.timeout seen busy lent) → Does c m
      by (not_yet e onward) =
          keeps (ap (λ (x : Controller). x.ring) mv ∙ ap (ring_after c.ring) e) (busy_begins c.stage (after c m).stage i) (tells ∙ ap event_after e) (told-nothing (tells ∙ ap event_after e))
          (subst (Onward c.stage) (sym (ap (λ (x : Controller). x.stage) mv)) onward)
      by (now f status count r h e z) =
          frame_ends f status count r h (busy_begins c.stage (after c m).stage i) (tells ∙ ap event_after e)
          (λ own. ap (λ (x : Event). is_done x && any_for own (running c.stage)) (tells ∙ ap event_after e) ∙ ap (λ (fs : List Frame). is_done (frameEvent f status count) && any_for own fs) r)
          (ap (λ (x : Controller). x.ring) mv ∙ ap (ring_after c.ring) e)
          (ap (λ (x : Controller). held x.stage) mv ∙ z)

  -- Idle.
  idle : (t u : Bool) → is_idle c.stage ≡ true → seen.bav ≡ t → eqb (counted c.ring) 0 ≡ u → Does c m
  idle false u i b e = unchanged c m (stepped ∙ rw (i, b)) (event ∙ rw i) (told-nothing (event ∙ rw i))
  idle true true i b e = unchanged c m (stepped ∙ rw (i, b, e)) (event ∙ rw i) (told-nothing (event ∙ rw i))
  idle true false i b e =
      let serve : after c m ≡ service c = stepped ∙ rw (i, b, e) in
      let some : counted c.ring ≡ 0 → ⊥ = eqb-false (counted c.ring) 0 e in
      serves (ap (λ (x : Controller). is_idle c.stage && is_begun (running x.stage)) serve ∙ ap (λ (t : Bool). t && true) i) (event ∙ rw i) (told-nothing (event ∙ rw i)) (omega arith) (sees_low b) serve

  step-does : (t : Bool) → is_idle c.stage ≡ t → Does c m
  step-does true i = idle seen.bav (eqb (counted c.ring) 0) i refl refl
  step-does false i = framed i

refused_does : (c : Controller) (seen : Lines) (busy : Bool) (lent response : List ℕ) (k : ℕ) → stepping c seen busy lent response ≡ refused k → Does c (steps seen busy lent response)
refused_does c seen busy lent response k e =
    unchanged c (steps seen busy lent response) (ap (λ (a : Answer Event). kept a (controller_step c seen busy lent) c) e) (ap told e)
    (λ own marked. ap (λ (x : Answer Event). is_done (told x) && any_for own (running c.stage)) e)

steps_do : (c : Controller) (seen : Lines) (busy : Bool) (lent response : List ℕ) (t : Bool) (l : Result (Unit {0}) LentError) → ltb 15 seen.nibble ≡ t → lent_at c.stage (length lent) (length response) ≡ l → Does c (steps seen busy lent response)
steps_do c seen busy lent response true l e g = refused_does c seen busy lent response 5 (rw e)
steps_do c seen busy lent response false (Ok u) e g = step-does c seen busy lent response (rw (e, g)) (is_idle c.stage) refl
steps_do c seen busy lent response false (Err Data) e g = refused_does c seen busy lent response 10 (rw (e, g))
steps_do c seen busy lent response false (Err Buffer) e g = refused_does c seen busy lent response 11 (rw (e, g))

-- Submissions and acknowledgements.
accepted_does : (c : Controller) (k : Command) (n room : ℕ) → submitting c k n room ≡ gives done → is_shut_out k c.ring ≡ false → eqb k.command 0x0A ≡ false → running c.stage ≡ [] → Does c (submits k n room)
accepted_does c k n room e out poll none =
    let a : after c (submits k n room) ≡ with_command c k n = ap (λ (x : Answer Done). kept x (with_command c k n) c) e in
    accepts k n (ap (λ (x : Controller). x.ring) a) (ap (λ (x : Controller). is_idle c.stage && is_begun (running x.stage)) a ∙ and_false (is_idle c.stage)) refl
    (λ own marked. refl) out poll (ap (λ (x : Controller). x.stage) a) none

submit_refused : (c : Controller) (k : Command) (n room j : ℕ) → submitting c k n room ≡ refused j → Does c (submits k n room)
submit_refused c k n room j e = unchanged c (submits k n room) (ap (λ (x : Answer Done). kept x (with_command c k n) c) e) refl (λ own marked. refl)

submits_do : (c : Controller) (k : Command) (n room : ℕ) (i p q r s : Bool) → is_idle c.stage ≡ i → ltb 65535 n ≡ p → eqb k.command 0x0A ≡ q → is_shut_out k c.ring ≡ r → ltb room k.buffer_length ≡ s → Does c (submits k n room)
submits_do c k n room false p q r s e0 e1 e2 e3 e4 = submit_refused c k n room 1 (rw e0)
submits_do c k n room true true q r s e0 e1 e2 e3 e4 = submit_refused c k n room 2 (rw (e0, e1))
submits_do c k n room true false true r s e0 e1 e2 e3 e4 = submit_refused c k n room 3 (rw (e0, e1, e2))
submits_do c k n room true false false true s e0 e1 e2 e3 e4 = submit_refused c k n room 4 (rw (e0, e1, e2, e3))
submits_do c k n room true false false false true e0 e1 e2 e3 e4 = submit_refused c k n room 11 (rw (e0, e1, e2, e3, e4))
submits_do c k n room true false false false false e0 e1 e2 e3 e4 = accepted_does c k n room (rw (e0, e1, e2, e3, e4)) e3 e2 (idle_runs c.stage e0)

acknowledges_do : (c : Controller) (code : ℕ) (t : Bool) → is_marked code (live c.ring) ≡ t → Does c (acknowledges code)
acknowledges_do c code true e =
    let a : after c (acknowledges code) ≡ without_mark c code = ap (λ (t : Bool). kept (cond t (gives done) (refused 8)) (without_mark c code) c) e in
    clears code refl e (ap (λ (x : Controller). is_idle c.stage && is_begun (running x.stage)) a ∙ still c.stage) refl (λ own. refl) (ap (λ (x : Controller). x.ring) a) (ap (λ (x : Controller). x.stage) a)
acknowledges_do c code false e = unchanged c (acknowledges code) (ap (λ (t : Bool). kept (cond t (gives done) (refused 8)) (without_mark c code) c) e) refl another
  where
    another : Unsettled c (acknowledges code)
    another own marked = by (eqb code own) refl
      where
        by : (t : Bool) → eqb code own ≡ t → t ≡ false
        by true x = absurd (true≢false (sym marked ∙ ap (λ (n : ℕ). is_marked n (live c.ring)) (sym (eqb-true code own x)) ∙ e))
        by false x = refl

pub does : (c : Controller) (m : Move) → Does c m
does c (steps seen busy lent response) = steps_do c seen busy lent response (ltb 15 seen.nibble) (lent_at c.stage (length lent) (length response)) refl refl
does c (submits k n room) = submits_do c k n room (is_idle c.stage) (ltb 65535 n) (eqb k.command 0x0A) (is_shut_out k c.ring) (ltb room k.buffer_length) refl refl refl refl refl
does c (acknowledges code) = acknowledges_do c code (is_marked code (live c.ring)) refl

-- The first of them, if there is one.
-- A frame that runs stays until its end.
pub stays_on : (f : Frame) (c : Controller) (ms : List Move) → running c.stage ≡ f ∷ [] → Stays f c ms
stays_on f c [] r = runs r
stays_on f c (m ∷ ms) r = by (does c m) (λ e. stays_on f (after c m) ms e)
  where
    no-frame : running c.stage ≡ [] → Stays f c (m ∷ ms)
    no-frame e = absurd (false≢true (ap is_begun (sym e ∙ r)))

    by : Does c m → (running (after c m).stage ≡ f ∷ [] → Stays f (after c m) ms) → Stays f c (m ∷ ms)
    by (keeps ring b v u (same_frame e same)) go = goes_on r (go (same f r))
    by (keeps ring b v u (no_more none e)) go = no-frame none
    by (accepts k n ring b v u out poll st resting) go = no-frame resting
    by (serves b v u some low e) go = no-frame (idle_runs c.stage (and_left (is_idle c.stage) (is_begun (running (after c m).stage)) b))
    by (frame_ends g status count q h b v u ring z) go = ends_now status count r (v ∙ ap (λ (x : Frame). frameEvent x status count) (ap (first_of g) (sym q ∙ r))) (none_runs (after c m).stage z)
    by (clears code x marked b v u ring st) go = goes_on r (go (ap running st ∙ r))

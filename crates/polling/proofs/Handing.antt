-- The beginning and the end of a turn.
use Prim.Native.Nat.{ℕ, ◌<◌}
use native.Mathlib.Omega.{arith}
use mathlib.Core.Path.{◌≡◌, refl, sym, ◌∙◌, ap, subst}
use mathlib.Core.Bool.{Bool, true, false, cond, ◌&&◌, true≢false, false≢true}
use mathlib.Core.List.{List, [], ◌∷◌}
use borrow.Author.Tests.{ne_eqb, eqb-true}
use lib.Dec.{eqb}
use lib.ListN.{get_or}
use Rattle.controller.specs.Calls.{stepping}
use Rattle.controller.specs.Controller.{is_idle, service, controller_step, event_in, event_after, new_controller}
use Rattle.controller.specs.declared.Controller.{Controller}
use Rattle.frame.specs.Frame.{poll_of, null_frame}
use Rattle.frame.specs.declared.Frame.{Frame}
use Rattle.frame.specs.declared.Kind.{Kind}
use Rattle.frame.specs.declared.Kind.TheVariants.{Submitted, Poll, Null}
use Rattle.frame.specs.declared.Stage.{Stage}
use Rattle.frame.specs.declared.Stage.TheVariants.{Free, Resting, Waiting, Sending, Listening}
use Rattle.header.specs.declared.Command.{Command}
use Rattle.message.specs.Answer.{Answer, gives, kept}
use Rattle.ring.specs.Ring.{none, live, counted}
use Rattle.ring.specs.declared.Entry.{Entry}
use Rattle.turn.specs.Turn.{turn_of, event_by}
use Rattle.turn.specs.declared.Event.{Event}
use Rattle.turn.specs.declared.Event.TheVariants.{Nothing, Ended, Handed}
use Rattle.polling.specs.Beyond.{SeesLow, StartsOnly, PollEnds}
use Rattle.polling.specs.Demand3.{Starts, HandsOnly}
use Rattle.polling.specs.History.{since}
use Rattle.polling.specs.Moves.{Move, steps, after, after_all, is_begun, told, event_of}
use Rattle.delivery.specs.Calls.{running}
use Rattle.polling.proofs.Does.{is_poll, held, Onward, same_frame, no_more, Does, keeps, accepts, serves, frame_ends, clears, does}

-- An idle stage is free, so nothing that is lent can be refused.
pub free : (stage : Stage) → is_idle stage ≡ true → stage ≡ Free
free Free e = refl
free (Resting first) e = absurd (false≢true e)
free (Waiting f) e = absurd (false≢true e)
free (Sending f i sender wait) e = absurd (false≢true e)
free (Listening f ear response quiet) e = absurd (false≢true e)

pub starts : Starts
starts c seen busy lent response i n low some =
    let at : c.stage ≡ Free = free c.stage i in
    let goes : stepping c seen busy lent response ≡ gives (event_in c seen busy lent) = rw (n, at) in
    let more : eqb (counted c.ring) 0 ≡ false = ne_eqb (counted c.ring) 0 (omega arith) in
    let serve : after c (steps seen busy lent response) ≡ service c = ap (λ (a : Answer Event). kept a (controller_step c seen busy lent) c) goes ∙ rw (i, low, more) in
    (ap (λ (x : Controller). is_idle c.stage && is_begun (running x.stage)) serve ∙ ap (λ (t : Bool). t && true) i, serve)

pub starts_only : StartsOnly
starts_only c m e = by (does c m)
  where
    by : Does c m → SeesLow m × (0 < counted c.ring)
    by (keeps r b v u o) = absurd (true≢false (sym e ∙ b))
    by (accepts k n r b v u s p z w) = absurd (true≢false (sym e ∙ b))
    by (serves b v u some low s) = (low, some)
    by (frame_ends f status count r h b v u ring z) = absurd (true≢false (sym e ∙ b))
    by (clears code is marked b v u ring s) = absurd (true≢false (sym e ∙ b))

pub poll_ends : PollEnds
poll_ends c seen busy lent response code status count goes i e = ap told goes ∙ rw i (ap event_after e)

-- A poll under way is the poll of its code.
pub data Shape (f : Frame) : Type 0 where
  a_command : f.kind ≡ Submitted → eqb f.command.command 0x0A ≡ false → Shape f
  a_poll : (code : ℕ) → f ≡ poll_of code → Shape f
  a_null : f ≡ null_frame → Shape f

abbrev pub Shapes : List Frame → Type 0
Shapes [] = Unit
Shapes (f ∷ fs) = Shape f

turn_shape : (e : Entry) → Shape (turn_of e)
turn_shape e = by e.marked
  where
    by : (t : Bool) → Shape (cond t null_frame (poll_of e.code))
    by true = a_null refl
    by false = a_poll e.code refl

onward_shape : {old new : Stage} → Onward old new → Shapes (held old) → Shapes (held new)
onward_shape (same_frame e same) s = subst Shapes (sym e) s
onward_shape (no_more none e) s = subst Shapes (sym e) tt

shape_after : (c : Controller) (m : Move) → Shapes (held c.stage) → Shapes (held (after c m).stage)
shape_after c m s = by (does c m)
  where
    by : Does c m → Shapes (held (after c m).stage)
    by (keeps ring b v u o) = onward_shape o s
    by (accepts k n ring b v u out poll st resting) = subst (λ (x : Stage). Shapes (held x)) (sym st) (a_command refl poll)
    by (serves b v u some low e) = subst (λ (x : Controller). Shapes (held x.stage)) (sym e) (turn_shape (get_or (live c.ring) 0 none))
    by (frame_ends f status count r g b v u ring z) = subst Shapes (sym z) tt
    by (clears code x marked b v u ring st) = subst (λ (y : Stage). Shapes (held y)) (sym st) s

shape_from : (c : Controller) (ms : List Move) → Shapes (held c.stage) → Shapes (held (after_all c ms).stage)
shape_from c [] s = s
shape_from c (m ∷ ms) s = shape_from (after c m) ms (shape_after c m s)

pub shape_since : (timeout : ℕ) (ms : List Move) → Shapes (held (since timeout ms).stage)
shape_since timeout ms = shape_from (new_controller timeout) ms tt

-- Who is handed over.
abbrev code_in : Event → ℕ
code_in Nothing = 0
code_in (Ended status count) = 0
code_in (Handed code) = code

abbrev pub is_hand : Event → Bool
is_hand Nothing = false
is_hand (Ended status count) = false
is_hand (Handed code) = true

-- A frame whose end hands a code over is a poll of it that ended with 00.
pub hands_by : (k : Kind) (c : Command) (status count code : ℕ) → event_by k c status count ≡ Handed code → (is_poll k ≡ true) × ((c.device ≡ code) × (status ≡ 0x00))
hands_by Submitted c status count code e = absurd (false≢true (ap is_hand e))
hands_by Null c status count code e = absurd (false≢true (ap is_hand e))
hands_by Poll c status count code e = by (eqb status 0x00) refl
  where
    by : (t : Bool) → eqb status 0x00 ≡ t → (is_poll Poll ≡ true) × ((c.device ≡ code) × (status ≡ 0x00))
    by true x = (refl, (ap code_in (sym (ap (λ (t : Bool). cond t (Handed c.device) Nothing) x) ∙ e), eqb-true status 0x00 x))
    by false x = absurd (false≢true (ap is_hand (sym (ap (λ (t : Bool). cond t (Handed c.device) Nothing) x) ∙ e)))

pub poll_shape : (f : Frame) (code : ℕ) → Shape f → is_poll f.kind ≡ true → f.command.device ≡ code → f ≡ poll_of code
poll_shape f code (a_command k n) p d = absurd (false≢true (sym (ap is_poll k) ∙ p))
poll_shape f code (a_poll c e) p d = e ∙ ap poll_of (sym (ap (λ (x : Frame). x.command.device) e) ∙ d)
poll_shape f code (a_null e) p d = absurd (false≢true (sym (ap (λ (x : Frame). is_poll x.kind) e) ∙ p))

pub hands_only : HandsOnly
hands_only timeout ms m code e = by (does (since timeout ms) m)
  where
    nothing : event_of (since timeout ms) m ≡ Nothing → running (since timeout ms).stage ≡ poll_of code ∷ []
    nothing v = absurd (false≢true (ap is_hand (sym v ∙ e)))

    by : Does (since timeout ms) m → running (since timeout ms).stage ≡ poll_of code ∷ []
    by (keeps ring b v u o) = nothing v
    by (accepts k n ring b v u out poll st resting) = nothing v
    by (serves b v u some low x) = nothing v
    by (clears k x marked b v u ring st) = nothing v
    by (frame_ends f status count r g b v u ring z) =
        let h = hands_by f.kind f.command status count code (sym v ∙ e) in
        r ∙ ap (λ (x : Frame). x ∷ []) (poll_shape f code (subst Shapes g (shape_since timeout ms)) h.0 h.1.0)

-- What is due by a run's log is what its controller is about to do: an accepted submission waits there, with its own data and response buffer,
-- and begins in the next round. Where none waits, only a service frame can begin.
use Prim.Native.Nat.{ℕ, ◌+◌}
use mathlib.Core.Path.{◌≡◌, refl, sym, ap, subst}
use mathlib.Core.Bool.{Bool, true, false, cond, true≢false}
use mathlib.Core.List.{List, [], ◌∷◌, ◌++◌}
use lib.Dec.{ltb, eqb}
use lib.ListN.{length, get_or}
use Rattle.answer.specs.Answer.{nothing_taken, taken_with}
use Rattle.answer.specs.declared.Response.{Response}
use Rattle.application.specs.Calls.{Done, submitting, acknowledging, without_mark, with_command, is_submitted as isWaiting}
use Rattle.bus.specs.declared.Station.{Station}
use Rattle.controller.specs.Calls.{stepping, controller_stepped}
use Rattle.controller.specs.Controller.{controller_of, controller_step, event_in, service as servedBy}
use Rattle.controller.specs.declared.Controller.{Controller}
use Rattle.frame.specs.Frame.{submitted_frame, poll_of, null_frame, is_submitted, begun, nibble_of, last_nibble, stays, over, quiet_after, ends, rest_step}
use Rattle.frame.specs.declared.Frame.{Frame}
use Rattle.frame.specs.declared.Stage.{Stage}
use Rattle.frame.specs.declared.Stage.TheVariants.{Free, Resting, Waiting, Sending, Listening}
use Rattle.header.specs.declared.Command.{Command}
use Rattle.line.specs.Line.{send_of, sent_of, hear_of, taken_of}
use Rattle.line.specs.declared.Lines.{Lines}
use Rattle.line.specs.declared.Listener.{Listener}
use Rattle.line.specs.declared.Listener.TheVariants.{Ready}
use Rattle.line.specs.declared.Sender.{Sender}
use Rattle.line.specs.declared.Sender.TheVariants.{Next}
use Rattle.message.specs.Answer.{Answer, gives, refused, kept}
use Rattle.ring.specs.Ring.{none as nobody-there, counted, live}
use Rattle.ring.specs.declared.Entry.{Entry}
use Rattle.ring.specs.declared.Ring.{Ring}
use Rattle.turn.specs.Turn.{turn_of}
use Rattle.turn.specs.declared.Event.{Event}
use Rattle.delivery.specs.Calls.{Call, host, submits, acknowledges, lends, lends_unit, called}
use Rattle.delivery.specs.Demand2.{InTurn}
use Rattle.delivery.specs.Lists.{All, none, also}
use Rattle.delivery.specs.Log.{Mark, begins, acts, does, asks, submitted, begun_by, stage_marks, round_marks, submission_marks, call_marks, log, Due, service, command, due_all}
use Rattle.delivery.specs.Run.{QuietStart, Run, start, a_round, a_call}
use Rattle.delivery.specs.World.{World, Busy, levels, round}
use Rattle.delivery.proofs.Stages.{world}
use Rattle.delivery.proofs.Between.{nothing_between}
use Rattle.delivery.proofs.Captured.{frame_plain}
use Rattle.delivery.proofs.EveryRound.{every_run, every_outcome}
use Rattle.delivery.proofs.Lists.{all_map}
use Rattle.delivery.proofs.Logs.{Plain, due_append, due_plain, all_append, units_plain, host_plain}

-- What is due, seen in the controller: no command waits, or the one that is due does.
pub data Waits : World → Due → Type 0 where
  nobody_waits : {v : World} → isWaiting v.controller.stage ≡ false → Waits v service
  it_waits :
      (k : Command) (d response : List ℕ) {timeout : ℕ} {ring : Ring} {units : List Station}
      → Waits (world timeout (Waiting (submitted_frame k (length d))) ring units d response) (command k d response)

-- Marks with which no submitted frame begins, and nothing is submitted.
abbrev Serves : Mark → Type 0
Serves (begins f lent found) = is_submitted f.kind ≡ false
Serves (acts a) = Unit
Serves (does own e) = Unit
Serves (asks own call) = Unit
Serves (submitted k d response) = ⊥

plain_serves : (m : Mark) → Plain m → Serves m
plain_serves (begins f lent found) p = absurd p
plain_serves (acts a) p = p
plain_serves (does own e) p = p
plain_serves (asks own call) p = p
plain_serves (submitted k d response) p = p

serves_begin : (m : Mark) → Serves m → (f : Frame) (lent found : List ℕ) → m ≡ begins f lent found → is_submitted f.kind ≡ false
serves_begin m s f lent found e = subst Serves e s

serves_due : {ms : List Mark} → All Serves ms → due_all service ms ≡ service
serves_due none = refl
serves_due (also {x = begins f lent found} s a) = serves_due a
serves_due (also {x = acts y} s a) = serves_due a
serves_due (also {x = does own e} s a) = serves_due a
serves_due (also {x = asks own call} s a) = serves_due a
serves_due (also {x = submitted k d response} s a) = absurd s

-- A turn's frame is a service frame.
turn_serves : (e : Entry) → is_submitted (turn_of e).kind ≡ false
turn_serves e = by e.marked
  where
    by : (t : Bool) → is_submitted (cond t null_frame (poll_of e.code)).kind ≡ false
    by true = refl
    by false = refl

-- No command waits behind a call or a step, where none waits before it and none is put there.
none_put : {A : Type 0} (a : Answer A) (after before : Controller) → isWaiting after.stage ≡ false → isWaiting before.stage ≡ false → isWaiting (kept a after before).stage ≡ false
none_put (gives x) after before e f = e
none_put (refused k) after before e f = f

idle_puts_none : (c : Controller) (bav empty : Bool) → isWaiting c.stage ≡ false → isWaiting (cond bav (cond empty c (servedBy c)) c).stage ≡ false
idle_puts_none c false empty e = e
idle_puts_none c true true e = e
idle_puts_none c true false e = refl

rest_puts_none : (first : Bool) → isWaiting (rest_step first) ≡ false
rest_puts_none true = refl
rest_puts_none false = refl

sending_puts_none : (f : Frame) (i : ℕ) (sender moved : Sender) (wait counts more : Bool)
    → isWaiting (cond wait (Sending f i sender false) (cond counts (cond more (Sending f (i + 1) Next false) (Listening f Ready nothing_taken 0)) (Sending f i moved false))) ≡ false
sending_puts_none f i sender moved true counts more = refl
sending_puts_none f i sender moved false false more = refl
sending_puts_none f i sender moved false true true = refl
sending_puts_none f i sender moved false true false = refl

listening_puts_none : (f : Frame) (ear : Listener) (before after : Response) (quiet : ℕ) (takes ended : Bool)
    → isWaiting (cond takes (stays (Listening f ear after 0)) (cond ended (over f before) (stays (Listening f ear before quiet)))).stage ≡ false
listening_puts_none f ear before after quiet true ended = refl
listening_puts_none f ear before after quiet false true = refl
listening_puts_none f ear before after quiet false false = refl

-- A round of a controller in which none waits.
module _ (timeout : ℕ) (ring : Ring) (seen : Lines) (here : Bool) (lent response : List ℕ) where
  abbrev at : Stage → Controller
  at stage = controller_of timeout stage ring

  abbrev next : Stage → Stage
  next stage = (controller_stepped (at stage) seen here lent response).stage

  -- It begins a turn's frame, or none.
  idle-serves : (a : Answer Event) (bav empty : Bool) → All Serves (begun_by (kept a (cond bav (cond empty (at Free) (servedBy (at Free))) (at Free)) (at Free)).stage lent response)
  idle-serves (refused k) bav empty = none
  idle-serves (gives x) false empty = none
  idle-serves (gives x) true true = none
  idle-serves (gives x) true false = also (turn_serves (get_or (live ring) 0 nobody-there)) none

  stage-serves : (event : Event) (after : List ℕ) (stage : Stage) → isWaiting stage ≡ false → All Serves (stage_marks stage (next stage) seen event lent response after)
  stage-serves event after Free e = idle-serves (stepping (at Free) seen here lent response) seen.bav (eqb (counted ring) 0)
  stage-serves event after (Resting first) e = none
  stage-serves event after (Waiting f) e = absurd (true≢false e)
  stage-serves event after (Sending f i sender wait) e =
      let stage = Sending f i sender wait in
      all_map plain_serves (frame_plain stage (next stage) seen event lent response after refl)
  stage-serves event after (Listening f ear taken quiet) e =
      let stage = Listening f ear taken quiet in
      all_map plain_serves (frame_plain stage (next stage) seen event lent response after refl)

  -- And none waits behind it.
  step-puts-none : (stage : Stage) → isWaiting stage ≡ false → isWaiting (controller_step (at stage) seen here lent).stage ≡ false
  step-puts-none Free e = idle_puts_none (at Free) seen.bav (eqb (counted ring) 0) e
  step-puts-none (Resting first) e = rest_puts_none first
  step-puts-none (Waiting f) e = absurd (true≢false e)
  step-puts-none (Sending f i sender wait) e = sending_puts_none f i sender (send_of sender seen.hsk (nibble_of f lent i)) wait (sent_of sender seen.hsk) (ltb i (last_nibble f))
  step-puts-none (Listening f ear taken quiet) e =
      let moved = hear_of ear seen.hsk here in
      let now = quiet_after quiet seen.hsk in
      listening_puts_none f moved taken (taken_with taken seen.nibble f.command.buffer_length) now (taken_of ear seen.hsk) (ends moved taken timeout now)

  none-waits-next : (stage : Stage) → isWaiting stage ≡ false → isWaiting (next stage) ≡ false
  none-waits-next stage e = none_put (stepping (at stage) seen here lent response) (controller_step (at stage) seen here lent) (at stage) (step-puts-none stage e) e

round_serves : (v : World) (busy : Busy) → isWaiting v.controller.stage ≡ false → All Serves (round_marks v busy)
round_serves v busy e =
    let c = v.controller in
    all_append (all_map plain_serves (units_plain (levels v) busy.there v.units))
    (stage-serves c.timeout c.ring (levels v) busy.here v.lent v.response (event_in c (levels v) busy.here v.lent) (round v busy).response c.stage e)

none_waits_behind : (v : World) (busy : Busy) → isWaiting v.controller.stage ≡ false → isWaiting (round v busy).controller.stage ≡ false
none_waits_behind v busy e = let c = v.controller in none-waits-next c.timeout c.ring (levels v) busy.here v.lent v.response c.stage e

-- A round in which one waits: its frame begins.
module _ (k : Command) (d response : List ℕ) (timeout : ℕ) (ring : Ring) (units : List Station) where
  abbrev before : World
  before = world timeout (Waiting (submitted_frame k (length d))) ring units d response

  module _ {w : World} (q : QuietStart w) (r : Run w before) (busy : Busy) where
    begins_now : (round before busy).controller.stage ≡ begun (submitted_frame k (length d))
    begins_now = ap (λ (a : Answer Event). (kept a (controller_step before.controller (levels before) busy.here d) before.controller).stage) (every_outcome w before q r busy)

    begin-marks : round_marks before busy ≡ begins (submitted_frame k (length d)) d response ∷ []
    begin-marks = λ i. nothing_between (every_run w before q r) refl busy.there i ++ begun_by (begins_now i) d response

round_waits : {w v : World} → QuietStart w → (r : Run w v) (busy : Busy) {due : Due} → Waits v due → Waits (round v busy) (due_all due (round_marks v busy))
round_waits {v = v} q r busy (nobody_waits e) = subst (Waits (round v busy)) (sym (serves_due (round_serves v busy e))) (nobody_waits (none_waits_behind v busy e))
round_waits {v = v} q r busy (it_waits k d response {timeout = timeout} {ring = ring} {units = units}) =
    subst (λ (ms : List Mark). Waits (round v busy) (due_all (command k d response) ms)) (sym (begin-marks k d response timeout ring units q r busy))
    (nobody_waits (ap isWaiting (begins_now k d response timeout ring units q r busy)))

-- A call: an accepted submission waits, and one that waits is kept.
submission_waits : (v : World) (k : Command) (d response : List ℕ) (a : Answer Done) → isWaiting v.controller.stage ≡ false
    → Waits (record { controller = kept a (with_command v.controller k (length d)) v.controller; units = v.units; lent = kept a d v.lent; response = kept a response v.response })
    (due_all service (submission_marks a (submitted k d response)))
submission_waits v k d response (gives x) e = it_waits k d response
submission_waits v k d response (refused n) e = nobody_waits e

call_waits : (v : World) (call : Call) {due : Due} → Waits v due → Waits (called v call) (due_all due (call_marks v call))
call_waits v (host i call) (nobody_waits e) = subst (Waits (called v (host i call))) (sym (due_plain service (host_plain i call v.units))) (nobody_waits e)
call_waits v (submits k d response r b) (nobody_waits e) = submission_waits v k d response (submitting v.controller k (length d) (length response)) e
call_waits v (acknowledges code h) (nobody_waits e) = nobody_waits (none_put (acknowledging v.controller code) (without_mark v.controller code) v.controller e e)
call_waits v (lends d response) (nobody_waits e) = nobody_waits e
call_waits v (lends_unit i buffer) (nobody_waits e) = nobody_waits e
call_waits v (host i call) (it_waits k d response) = subst (Waits (called v (host i call))) (sym (due_plain (command k d response) (host_plain i call v.units))) (it_waits k d response)
call_waits v (submits k' d' response' r b) (it_waits k d response) = it_waits k d response
call_waits v (acknowledges code h) (it_waits k d response) = by (acknowledging v.controller code)
  where
    by : (a : Answer Done) → Waits (record { controller = kept a (without_mark v.controller code) v.controller; units = v.units; lent = d; response = response }) (command k d response)
    by (gives x) = it_waits k d response
    by (refused n) = it_waits k d response
call_waits v (lends d' response') (it_waits k d response) = it_waits k d response
call_waits v (lends_unit i buffer) (it_waits k d response) = it_waits k d response

pub waits_run : (w v : World) → QuietStart w → (r : Run w v) → Waits v (due_all service (log r))
waits_run w _ q start = nobody_waits (ap (λ (c : Controller). isWaiting c.stage) q.is_new)
waits_run w _ q (a_round {v = v} r busy) = subst (Waits (round v busy)) (sym (due_append service (log r) (round_marks v busy))) (round_waits q r busy (waits_run w v q r))
waits_run w _ q (a_call {v = v} r call) = subst (Waits (called v call)) (sym (due_append service (log r) (call_marks v call))) (call_waits v call (waits_run w v q r))

-- The frame that begins in the next round is the one that is due.
next_in_turn : {w v : World} → QuietStart w → (r : Run w v) (busy : Busy) {due : Due} → Waits v due → InTurn due (round_marks v busy)
next_in_turn {v = v} q r busy (nobody_waits e) = all_map serves_begin (round_serves v busy e)
next_in_turn q r busy (it_waits k d response {timeout = timeout} {ring = ring} {units = units}) = begin-marks k d response timeout ring units q r busy

pub in_turn_run : (w v : World) → QuietStart w → (r : Run w v) (busy : Busy) → InTurn (due_all service (log r)) (round_marks v busy)
in_turn_run w v q r busy = next_in_turn q r busy (waits_run w v q r)

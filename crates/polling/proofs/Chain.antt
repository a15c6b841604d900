-- The whole chain on demand 2's bus.
use Prim.Native.Nat.{ℕ, zero, suc, ◌+◌, ◌/◌, ◌<◌, ◌≤◌}
use native.Mathlib.Omega.{arith}
use mathlib.Core.Path.{◌≡◌, refl, sym, ◌∙◌, ap, subst}
use mathlib.Core.Bool.{Bool, true, false, cond, ◌&&◌, ◌||◌, true≢false, false≢true}
use mathlib.Core.List.{List, [], ◌∷◌}
use borrow.Author.Tests.{eqb-true, eq-eqb, ltb-true, lt-ltb}
use lib.Dec.{eqb}
use lib.ListN.{length, get_or}
use Rattle.bus.specs.Bus.{station_step}
use Rattle.bus.specs.declared.Station.{Station}
use Rattle.controller.specs.Controller.{is_idle}
use Rattle.controller.specs.declared.Controller.{Controller}
use Rattle.delivery.specs.Calls.{Call, host, submits as submitsTo, acknowledges as acknowledgesTo, lends, lends_unit, called, called_at, in_frame, running}
use Rattle.delivery.specs.Run.{QuietStart, Run, start, a_round, a_call}
use Rattle.delivery.proofs.Moves.{Becomes, behind, in_front as first_one}
use Rattle.delivery.proofs.Rounds.{Took, takes_it, took_it, Changed, unchanged, fixed_now, done_now}
use Rattle.delivery.specs.Lists.{All, none, also, One, this, that, Has, here, there}
use Rattle.delivery.proofs.Promised.{Moment}
use Rattle.delivery.proofs.Stages.{On, rests, submitted, ended, runs, InFrame, begins, sends, hears, waits, Goes, on, answered, unanswered, Spoke, spoke, addressed, moved_in, Sound, Sits, Fresh, idles, selects, Talk, talks, is_responding, answer_data}
use Rattle.delivery.specs.World.{World, Busy, levels, round, Different, another}
use Rattle.delivery.proofs.EveryRound.{every_run, every_response, changes, on_different, on_nibble}
use Rattle.delivery.proofs.Frame.{becomes_all, own_kept, fresh_quiet, part_quiet}
use Rattle.line.specs.declared.Listener.{Listener}
use Rattle.answer.specs.Answer.{status_of, count_of}
use Rattle.answer.specs.declared.Response.{Response}
use Rattle.answer.specs.declared.Response.TheVariants.{Complete}
use Rattle.polling.proofs.Handing.{Shape, a_command, a_poll, a_null, Shapes, shape_since}
use Rattle.delivery.proofs.Part.{low_step_lem}
use Rattle.delivery.proofs.Rest.{high_step_lem}
use Rattle.delivery.proofs.Calls.{all_lends}
use Rattle.delivery.proofs.Run.{in_frame_called}
use Rattle.inside.proofs.Ors.{or_left}
use Rattle.delivery.proofs.Lists.{has_all, all_map, all_zip, all_step, all_becomes}
use Rattle.frame.specs.Frame.{poll_of, data_of, over}
use Rattle.delivery.proofs.Running.{RunsOne, runs_one, frame_running, is_frame, runs_it}
use Rattle.frame.specs.declared.Frame.{Frame}
use Rattle.frame.specs.declared.Stage.{Stage}
use Rattle.frame.specs.declared.Stage.TheVariants.{Free, Resting, Waiting, Sending, Listening}
use Rattle.header.specs.declared.Command.{Command}
use Rattle.inside.specs.Calls.{HostCall}
use Rattle.inside.specs.Inside.{Inside, inside_of, has_request, reply_for, taken_for, clears}
use Rattle.inside.proofs.Calls.{unit_called, request_called}
use Rattle.inside.proofs.Lawful.{every_lawful}
use Rattle.inside.proofs.Replies.{clears_speaks, clears-says, request_ended}
use Rattle.inside.proofs.Round.{inside_after}
use Rattle.kind.specs.Kinds.{kind_of}
use Rattle.line.specs.declared.Lines.{Lines}
use Rattle.line.specs.declared.Sender.{Sender}
use Rattle.message.specs.Answer.{Answer, gives, refused, kept}
use Rattle.phase.specs.declared.Phase.{Phase}
use Rattle.phase.specs.declared.Phase.TheVariants.{Idle, Selecting, Receiving, Responding, SittingOut}
use Rattle.reply.specs.Reply.{reply_status}
use Rattle.ring.specs.Ring.{none as no-entry, live, is_marked, place_of, entry_of}
use Rattle.ring.specs.declared.Entry.{Entry}
use Rattle.serial.specs.declared.Reply.{Reply}
use Rattle.serial.specs.declared.Reply.TheVariants.{Silent}
use Rattle.turn.specs.Turn.{turn_of, event_of as frameEvent}
use Rattle.turn.specs.declared.Event.{Event}
use Rattle.turn.specs.declared.Event.TheVariants.{Nothing, Ended, Handed}
use Rattle.whole.specs.Whole.{stored_of}
use Rattle.polling.specs.Chain.{HasCode, Requests, Harmless, Calm, now, earlier, HandedIn, Chain}
use Rattle.polling.specs.BusMoves.{move_of, moves_of}
use Rattle.delivery.specs.Log.{told_in}
use Rattle.polling.specs.History.{is_pending, since, is_handed, settles}
use Rattle.polling.specs.Moves.{Move, submits, acknowledges, after, begins as beginsIn, services, is_begun, Without, ahead, event_of}
use Rattle.polling.proofs.History.{Ok, ok-after, ok_since, front_mark, agrees-mark}
use Rattle.polling.proofs.OnTheBus.{told_move, made, has_round, has_called, has_lent, run_coded, addressed_own, frame_told, frame_held, spoken, said_by, said_handed, took_fit, hushed_none}
use Rattle.polling.proofs.Turns.{Placed, no_service, one_nearer, in_front, placed, none-counted, one_counted}
use Rattle.polling.proofs.Places.{Found}
use Rattle.polling.proofs.Does.{held as heldBy, still as none-begins, and_false}
use Rattle.application.specs.Calls.{Done, submitting, acknowledging, with_command, without_mark}

-- A run that goes on.
abbrev further : {w v u : World} → Run w v → Run v u → Run w u
further r start = r
further r (a_round more busy) = a_round (further r more) busy
further r (a_call more call) = a_call (further r more) call

-- Outside frames nothing inside a unit changes.
same_by : (st : Station) (seen : Lines) (busy : Bool) {x : Phase} → seen.nibble < 16 → Sound st → st.unit.phase ≡ x
    → ((own : ℕ) (y : Inside) (buffer : List ℕ) → inside_after x own y seen busy buffer ≡ y) → inside_of (station_step st seen busy) ≡ inside_of st
same_by st seen busy n s e f = by seen.bav refl
  where
    by : (t : Bool) → seen.bav ≡ t → inside_of (station_step st seen busy) ≡ inside_of st
    by true low = (low_step_lem st seen busy n s.room low).inside ∙ ap (λ (y : Phase). inside_after y st.unit.own (inside_of st) seen busy st.buffer) e ∙ f st.unit.own (inside_of st) st.buffer
    by false high = (high_step_lem st seen busy n s.room high).1.1

fresh_same : (st : Station) (seen : Lines) (busy : Bool) → seen.nibble < 16 → Sound st → Fresh st → inside_of (station_step st seen busy) ≡ inside_of st
fresh_same st seen busy n s (idles e) = same_by st seen busy n s e (λ own y buffer. refl)
fresh_same st seen busy n s (selects e) = same_by st seen busy n s e (λ own y buffer. refl)

sits_same : (st : Station) (seen : Lines) (busy : Bool) → seen.nibble < 16 → Sound st → Sits st → inside_of (station_step st seen busy) ≡ inside_of st
sits_same st seen busy n s p = same_by st seen busy n s p.0 (λ own y buffer. refl)

-- A frame that is harmless to the unit ends no request of it with its effects.
harmless_effect : (own : ℕ) (f : Frame) (x : Inside) (d : List ℕ) → Harmless own (f ∷ []) → addressed f.command own ≡ true → has_request (taken_for own x f.command d) ≡ has_request x
harmless_effect own f x d h a = by (eqb f.command.device 0) refl
  where
    both_false : (x y z : Bool) → (y || x) ≡ false → z ≡ false → (x || (y || z)) ≡ false
    both_false true true z e g = e
    both_false true false z e g = e
    both_false false true z e g = e
    both_false false false z e g = g

    not_both : (x y : Bool) → x ≡ true → (x && y) ≡ false → y ≡ false
    not_both true y p q = q
    not_both false y p q = absurd (false≢true p)

    by : (t : Bool) → eqb f.command.device 0 ≡ t → has_request (taken_for own x f.command d) ≡ has_request x
    by true z = ap has_request ((every_lawful (kind_of own)).zero_keeps x f.command (length d) (stored_of d) (eqb-true f.command.device 0 z) h.1)
    by false z =
        let mine : eqb f.command.device own ≡ true = or_left (eqb f.command.device own) (eqb f.command.device 0) z a in
        let other : (eqb f.command.command 0x09 || eqb f.command.command 0x01) ≡ false = not_both (eqb f.command.device own) _ mine h.0 in
        (every_lawful (kind_of own)).request_taken x f.command (length d) (stored_of d) (both_false (eqb f.command.command 0x01) (eqb f.command.command 0x09) (eqb f.command.command 0xFF) other h.1)

-- A unit's request in a round of a frame, where it is not the round in which its answer 00 has gone out.
request_kept : (own : ℕ) (f : Frame) (d : List ℕ) (st new : Station) → Harmless own (f ∷ []) → st.unit.own ≡ own → has_request (inside_of st) ≡ true
    → ((r : Reply) (j : ℕ) (sender : Sender) → st.unit.phase ≡ Responding r j sender false → new.unit.phase ≡ SittingOut false → clears r ≡ true → ⊥)
    → Changed f.command d st new → has_request (inside_of new) ≡ true
request_kept own f d st new h o q go (unchanged same same-phase) = ap has_request same ∙ q
request_kept own f d st new h o q go (fixed_now a old fixed) =
    ap has_request fixed.inside ∙ harmless_effect st.unit.own f (inside_of st) d (subst (λ (k : ℕ). Harmless k (f ∷ [])) (sym o) h) a ∙ q
request_kept own f d st new h o q go (done_now a r j sender p phase inside) = by (clears r) refl
  where
    by : (t : Bool) → clears r ≡ t → has_request (inside_of new) ≡ true
    by true e = absurd (go r j sender p phase e)
    by false e = ap has_request inside ∙ request_ended (inside_of st) r e ∙ q

-- Who responds while a frame runs is the one unit that its command addresses, and its reply the one that is promised.
data Talking (T : Moment) (c : Command) (d : List ℕ) (st : Station) : Type 0 where
  talking : (r : Reply) (j : ℕ) (sender : Sender) (wait : Bool) (given : Inside) → st.unit.phase ≡ Responding r j sender wait → r ≡ reply_for st.unit.own given c d → addressed c st.unit.own ≡ true → Talking T c d st

talk_of : {T : Moment} {c : Command} {d : List ℕ} {stores : Bool} {found : List ℕ} {ear : Listener} {taken : Response} {quiet : ℕ} {buffer : List ℕ} {st : Station} → Talk T c d stores found ear taken quiet buffer st → Talking T c d st
talk_of (talks r j t sender wait e p fits g b l w z q own) = talking r j sender wait p.given e p.said own

one_talks : {T : Moment} {c : Command} {d : List ℕ} {stores : Bool} {found : List ℕ} {ear : Listener} {taken : Response} {quiet : ℕ} {buffer : List ℕ} {seen : Lines} {hosts : ℕ} {ss : List Station} {st new : Station}
    → One (λ (x : Station). Talk T c d stores found ear taken quiet buffer x × Sound x) (λ (x : Station). Sits x × Sound x) ss → Becomes seen hosts ss st new → is_responding st.unit.phase ≡ true → Talking T c d st
one_talks (this p a) first_one e = talk_of p.0
one_talks (this p a) (behind b) e = absurd (true≢false (sym e ∙ ap is_responding (becomes_all a b).0.0))
one_talks (that q o) first_one e = absurd (true≢false (sym e ∙ ap is_responding q.0.0))
one_talks {hosts = hosts} (that q o) (behind b) e = one_talks {hosts = hosts / 2} o b e

frame_talks : {T : Moment} {f : Frame} {found : List ℕ} {w : World} {seen : Lines} {hosts : ℕ} {st new : Station} → InFrame T f found w → Becomes seen hosts w.units st new
    → is_responding st.unit.phase ≡ true → Talking T f.command (data_of f w.lent) st
frame_talks (begins framed d a) b e = absurd (true≢false (sym e ∙ fresh_quiet (becomes_all a b).0))
frame_talks (sends i sender framed d s l a) b e = absurd (true≢false (sym e ∙ part_quiet (becomes_all a b).0))
frame_talks (hears ear taken quiet framed d l o) b e = one_talks o b e
frame_talks (waits quiet framed d a why) b e = absurd (true≢false (sym e ∙ ap is_responding (becomes_all a b).0.0))

becomes_has : {seen : Lines} {hosts : ℕ} {ss : List Station} {st new : Station} → Becomes seen hosts ss st new → Has st ss
becomes_has first_one = here
becomes_has (behind b) = there (becomes_has b)

same_has : {x y : Station} {ss : List Station} → Different ss → Has x ss → Has y ss → x.unit.own ≡ y.unit.own → x ≡ y
same_has d here here e = refl
same_has (another a d) here (there h) e = absurd (has_all a h (sym e))
same_has (another a d) (there h) here e = absurd (has_all a h e)
same_has (another a d) (there h) (there k) e = same_has d h k e

abbrev reply_in : Reply → Phase → Reply
reply_in x Idle = x
reply_in x (Selecting ear half low) = x
reply_in x (Receiving ear progress) = x
reply_in x (Responding r j sender wait) = r
reply_in x (SittingOut last) = x

-- Whose response has arrived whole.
record Arrived (f : Frame) (x : World) (busy : Busy) : Type 0 where
  reply : Reply
  before : Station
  has : Has before x.units
  response : Response
  phase : reply_in Silent before.unit.phase ≡ reply
  addresses : addressed f.command before.unit.own ≡ true
  moved : moved_in x busy ≡ over f response
  status : status_of response ≡ reply_status reply

arrived : {T : Moment} {f : Frame} {d found : List ℕ} {x : World} {busy : Busy} {buffer : List ℕ} {ss : List Station}
    → One (λ (st : Station). Spoke T f d found (moved_in x busy) buffer x.units st × Sound st) (λ (st : Station). Sits st × Sound st) ss → Arrived f x busy
arrived (that q o) = arrived o
arrived (this (spoke r j sender before has k own a p m b inside s, y) all) = record {
  reply = r;
  before = before;
  has = has;
  response = Complete (reply_status r) (length (answer_data p));
  phase = ap (reply_in Silent) k;
  addresses = a;
  moved = m;
  status = refl;
}

handed_is : (own : ℕ) (e : Event) → is_handed own e ≡ true → e ≡ Handed own
handed_is own Nothing h = absurd (false≢true h)
handed_is own (Ended status count) h = absurd (false≢true h)
handed_is own (Handed code) h = ap Handed (eqb-true code own h)

-- A frame of demand 2's bus whose reply is the answer 00 to a poll is the poll of the unit.
poll_frame : (f : Frame) (own : ℕ) → Shape f → eqb f.command.command 0x0A ≡ true → f.command.device ≡ own → f ≡ poll_of own
poll_frame f own (a_command k n) c d = absurd (true≢false (sym c ∙ n))
poll_frame f own (a_poll code e) c d = e ∙ ap poll_of (sym (ap (λ (x : Frame). x.command.device) e) ∙ d)
poll_frame f own (a_null e) c d = absurd (false≢true (sym (ap (λ (x : Frame). eqb x.command.command 0x0A) e) ∙ c))

-- Where a run is.
data View (T : Moment) (x : World) : Type 0 where
  all_fresh : All (λ (st : Station). Fresh st × Sound st) x.units → View T x
  all_sit : All (λ (st : Station). Sits st × Sound st) x.units → View T x
  one_frame : (f : Frame) (found : List ℕ) → InFrame T f found x → View T x

view : {T : Moment} {x : World} → On T x → View T x
view (rests at eight codes d a) = all_fresh a
view (submitted f framed codes d a) = all_fresh a
view (ended eight codes d a) = all_sit a
view (runs f found i codes) = one_frame f found i

either : (P : Bool → Type 0) → P true → P false → (b : Bool) → P b
either P p q true = p
either P p q false = q

module _ (w x : World) (own : ℕ) (q : QuietStart w) (r : Run w x) (busy : Busy) (has : HasCode own x.units) (requests : All (Requests own) x.units) (calm : Harmless own (running x.controller.stage)) where
  nonzero : own ≡ 0 → ⊥
  nonzero = run_coded w x own q r has

  -- It holds its request behind the round, or its code is handed over in it.
  data HoldsOn : Type 0 where
    told-now : told_in x busy ≡ Handed own → HoldsOn
    still : All (Requests own) (round x busy).units → HoldsOn

  same-states : {P : Station → Type 0} → ((st : Station) (host : Bool) → P st → inside_of (station_step st (levels x) host) ≡ inside_of st) → All P x.units → HoldsOn
  same-states same a = still (all_step (levels x) (λ st host p e. ap has_request (same st host p.1) ∙ p.0 (sym (own_kept st (levels x) host) ∙ e)) busy.there (all_zip requests a))

  module _ (f : Frame) (found : List ℕ) (i : InFrame (Took r) f found x) where
    safe : Harmless own (f ∷ [])
    safe = subst (Harmless own) (frame_running i) calm

    both-hosts : All (λ (st : Station). (host : Bool) → Changed f.command (data_of f x.lent) st (station_step st (levels x) host)) x.units
    both-hosts = all_map (λ st p. either (λ (host : Bool). Changed f.command (data_of f x.lent) st (station_step st (levels x) host)) p.0 p.1) (all_zip (changes (Took r) f found x i true) (changes (Took r) f found x i false))

    -- Unless its answer 00 has gone out in this round.
    kept_by : ((st new : Station) → Becomes (levels x) busy.there x.units st new → (p : Reply) (j : ℕ) (sender : Sender) → st.unit.own ≡ own → st.unit.phase ≡ Responding p j sender false → new.unit.phase ≡ SittingOut false → clears p ≡ true → ⊥)
        → HoldsOn
    kept_by never =
        still (all_becomes (levels x) busy.there (λ st host b p e.
        let mine : st.unit.own ≡ own = sym (own_kept st (levels x) host) ∙ e in
        request_kept own f (data_of f x.lent) st (station_step st (levels x) host) safe mine (p.0 mine)
        (λ reply j sender phase new polled. never st (station_step st (levels x) host) b reply j sender mine phase new polled) (p.1 host)) (all_zip requests both-hosts))

    shape : Shape f
    shape =
        let c = made w x q r in
        let all : Shapes (heldBy x.controller.stage) = subst (λ (k : Controller). Shapes (heldBy k.stage)) (sym c) (shape_since q.timeout (moves_of r [])) in
        subst Shapes (frame_held i) all

    -- The round in which its answer 00 has gone out hands its code over.
    answered-now : Arrived f x busy → (st new : Station) → Becomes (levels x) busy.there x.units st new → (p : Reply) (j : ℕ) (sender : Sender) → st.unit.own ≡ own
        → st.unit.phase ≡ Responding p j sender false → clears p ≡ true → told_in x busy ≡ Handed own
    answered-now came st new b p j sender mine phase polled = by (frame_talks i b (ap is_responding phase))
      where
        by : Talking (Took r) f.command (data_of f x.lent) st → told_in x busy ≡ Handed own
        by (talking reply k sender' wait given e said a) =
            let d = data_of f x.lent in
            let same : reply ≡ p = ap (reply_in Silent) (sym e ∙ phase) in
            let given-reply = reply_for st.unit.own given f.command d in
            let is-poll : clears given-reply ≡ true = ap clears (sym said ∙ same) ∙ polled in
            let law = every_lawful (kind_of st.unit.own) in
            let command : eqb f.command.command 0x0A ≡ true = law.clears_poll given f.command (length d) (stored_of d) is-poll in
            let device : f.command.device ≡ 0 → ⊥ = λ z. true≢false (sym (law.zero_silent given f.command (length d) (stored_of d) z) ∙ clears_speaks given-reply is-poll) in
            let at_own : own ≡ f.command.device = sym mine ∙ addressed_own f.command st.unit.own device a in
            let frame : f ≡ poll_of own = poll_frame f own shape command (sym at_own) in
            let one : came.before ≡ st = same_has (on_different (every_run w x q r)) came.has (becomes_has b) (addressed_own f.command came.before.unit.own device came.addresses ∙ sym at_own ∙ sym mine) in
            let zero-status : status_of came.response ≡ 0x00 = came.status ∙ ap reply_status (sym came.phase ∙ ap (λ (y : Station). reply_in Silent y.unit.phase) one ∙ ap (reply_in Silent) phase) ∙ clears-says p polled in
            frame_told w x q r busy i came.response came.moved ∙ (λ m. frameEvent (frame m) (zero-status m) (count_of came.response))

    goes_by : Goes (Took (a_round r busy)) f found x busy → HoldsOn
    goes_by (on ring y speaks less) =
        kept_by (λ st new b p j sender mine phase after polled. true≢false (sym (speaks st new b (ap is_responding phase)) ∙ ap is_responding after))
    goes_by (answered fin d o) = by (is_handed own (told_in x busy)) refl
      where
        by : (t : Bool) → is_handed own (told_in x busy) ≡ t → HoldsOn
        by true e = told-now (handed_is own (told_in x busy) e)
        by false e =
            kept_by (λ st new b p j sender mine phase after polled.
            true≢false (sym (ap (is_handed own) (answered-now (arrived o) st new b p j sender mine phase polled) ∙ eq-eqb own own refl) ∙ e))
    goes_by (unanswered fin m b d a why sit) = kept_by (λ st new b p j sender mine phase after polled. true≢false (sym (ap is_responding phase) ∙ ap is_responding (becomes_all sit b).0))

    frame-holds : HoldsOn
    frame-holds = goes_by (every_response w x r f found i busy)

  holds-round : HoldsOn
  holds-round = by (view (every_run w x q r))
    where
      small : (levels x).nibble < 16
      small = on_nibble (every_run w x q r)

      by : View (Took r) x → HoldsOn
      by (all_fresh a) = same-states (λ st host p. fresh_same st (levels x) host small p.1 p.0) a
      by (all_sit a) = same-states (λ st host p. sits_same st (levels x) host small p.1 p.0) a
      by (one_frame f found i) = frame-holds f found i

-- A host call leaves a request.
requests_called : (own i : ℕ) (call : HostCall) {ss : List Station} → All (Requests own) ss → All (Requests own) (called_at i call ss)
requests_called own i call none = none
requests_called own zero call (also {x = st} p a) = also (λ e. let k = unit_called call st in ap has_request k.inside ∙ request_called (kind_of st.unit.own) (inside_of st) call (p (sym k.own ∙ e))) a
requests_called own (suc i) call (also p a) = also p (requests_called own i call a)

-- Service frames of a run that goes on.
split : (c : Controller) (m : Move) (ms : List Move) → services c (m ∷ ms) ≡ services c (m ∷ []) + services (after c m) ms
split c m ms = by (beginsIn c m)
  where
    by : (t : Bool) → cond t (suc (services (after c m) ms)) (services (after c m) ms) ≡ cond t 1 0 + services (after c m) ms
    by true = omega arith
    by false = omega arith

pub services_then : {v u : World} (more : Run v u) (ms : List Move) → services v.controller (moves_of more ms) ≡ services v.controller (moves_of more []) + services u.controller ms
services_then start ms = omega arith
services_then {v} (a_round {v = x} more busy) ms =
    let a = services_then more (move_of x busy ∷ ms) in
    let b = services_then more (move_of x busy ∷ []) in
    let c = split x.controller (move_of x busy) ms in
    omega arith
services_then (a_call more (host i call)) ms = services_then more ms
services_then (a_call {v = x} more (submitsTo k d response p b)) ms =
    let m = submits k (length d) (length response) in
    let e = services_then more (m ∷ ms) in
    let f = services_then more (m ∷ []) in
    let c = split x.controller m ms in
    omega arith
services_then (a_call {v = x} more (acknowledgesTo code h)) ms =
    let m = acknowledges code in
    let e = services_then more (m ∷ ms) in
    let f = services_then more (m ∷ []) in
    let c = split x.controller m ms in
    omega arith
services_then (a_call more (lends d response)) ms = services_then more ms
services_then (a_call more (lends_unit i buffer)) ms = services_then more ms

-- Neither a submission nor an acknowledgement begins a service frame.
submit_none : (c : Controller) (k : Command) (n room : ℕ) → beginsIn c (submits k n room) ≡ false
submit_none c k n room = by (submitting c k n room)
  where
    by : (a : Answer Done) → (is_idle c.stage && is_begun (running (kept a (with_command c k n) c).stage)) ≡ false
    by (gives x) = and_false (is_idle c.stage)
    by (refused j) = none-begins c.stage

acknowledge_none : (c : Controller) (code : ℕ) → beginsIn c (acknowledges code) ≡ false
acknowledge_none c code = by (acknowledging c code)
  where
    by : (a : Answer Done) → (is_idle c.stage && is_begun (running (kept a (without_mark c code) c).stage)) ≡ false
    by (gives x) = none-begins c.stage
    by (refused j) = none-begins c.stage

idle_rests : (stage : Stage) (b : Bool) → (is_idle stage && b) ≡ true → in_frame stage ≡ false
idle_rests Free b e = refl
idle_rests (Resting first) b e = refl
idle_rests (Waiting f) b e = refl
idle_rests (Sending f i sender wait) b e = absurd (false≢true e)
idle_rests (Listening f ear response quiet) b e = absurd (false≢true e)

spares : (own : ℕ) (fs : List Frame) → Harmless own fs → Without own fs
spares own [] h = tt
spares own (f ∷ fs) h = h.0

module _ (w v : World) (own : ℕ) (q : QuietStart w) (r : Run w v) where
  abbrev k : ℕ
  k = ahead own v.controller

  abbrev counted : {u : World} → Run v u → ℕ
  counted more = services v.controller (moves_of more [])

  data Stand {u : World} (more : Run v u) : Type 0 where
    handed-over : HandedIn own more → Stand more
    waits-on : HasCode own u.units → All (Requests own) u.units → Found own (live u.controller.ring) → Ok own false u.controller → ahead own u.controller + counted more ≤ k → Stand more
    polled-now : HasCode own u.units → All (Requests own) u.units → running u.controller.stage ≡ poll_of own ∷ [] → ((y : Inside) → Took (further r more) own y → has_request y ≡ true) → Stand more

  -- What a unit that holds its request was in when it took the last nibble.
  asked : {x : World} (more : Run v x) (busy : Busy) → All (Requests own) x.units → (in_frame x.controller.stage ≡ true → (y : Inside) → Took (further r more) own y → has_request y ≡ true)
      → (y : Inside) → Took (a_round (further r more) busy) own y → has_request y ≡ true
  asked more busy requests old y (takes_it st new b e n o i) = ap has_request (sym i) ∙ becomes_all requests b o
  asked more busy requests old y (took_it i t) = old i y t

  -- The mark stays clear where nothing is handed over.
  clear-on : (c : Controller) (m : Move) → is_handed own (event_of c m) ≡ false → Ok own false c → Ok own false (after c m)
  clear-on c m e ok = subst (λ (p : Bool). Ok own p (after c m)) (ap (λ (t : Bool). cond t true (cond (settles own c m) false false)) e ∙ clear (settles own c m)) (ok-after own false c m ok)
    where
      clear : (t : Bool) → cond t false false ≡ false
      clear true = refl
      clear false = refl

  -- A round.
  module _ {x : World} (more : Run v x) (busy : Busy) (calm : Harmless own (running x.controller.stage)) where
    abbrev c : Controller
    c = x.controller

    abbrev m : Move
    m = move_of x busy

    counts : counted (a_round more busy) ≡ counted more + services c (m ∷ [])
    counts = services_then more (m ∷ [])

    waits-round : HasCode own x.units → All (Requests own) x.units → Found own (live c.ring) → Ok own false c → ahead own c + counted more ≤ k
        → is_handed own (told_in x busy) ≡ false → All (Requests own) (round x busy).units → Stand (a_round more busy)
    waits-round has requests found ok sum quiet next = by (placed own c m found (spares own (running c.stage) calm))
      where
        there' : HasCode own (round x busy).units
        there' = has_round own (levels x) busy.there has

        ok' : Ok own false (after c m)
        ok' = clear-on c m (ap (is_handed own) (told_move w x q (further r more) busy) ∙ quiet) ok

        by : Placed own c m → Stand (a_round more busy)
        by (no_service b near f) = let n = counts in let z : services c (m ∷ []) ≡ 0 = none-counted c m [] b in waits-on there' next f ok' (omega arith)
        by (one_nearer p b z e f) = let n = counts in let one : services c (m ∷ []) ≡ 1 = one_counted c m [] b in waits-on there' next f ok' (omega arith)
        by (in_front b z e) =
            let front : get_or (live c.ring) 0 no-entry ≡ entry_of own false = front_mark own false (live c.ring) ok.agrees (lt-ltb (place_of own (live c.ring)) (length (live c.ring)) found) z in
            let run : running (after c m).stage ≡ poll_of own ∷ [] = ap (λ (y : Controller). running y.stage) e ∙ ap (λ (y : Entry). turn_of y ∷ []) front in
            polled-now there' next run (asked more busy requests (λ i. absurd (false≢true (sym (idle_rests c.stage (is_begun (running (after c m).stage)) b) ∙ i))))

    polled-round : HasCode own x.units → All (Requests own) x.units → running c.stage ≡ poll_of own ∷ []
        → ((y : Inside) → Took (further r more) own y → has_request y ≡ true) → All (Requests own) (round x busy).units → Stand (a_round more busy)
    polled-round has requests run old next = by (runs_it (poll_of own) (every_run w x q (further r more)) run)
      where
        nonzero' : own ≡ 0 → ⊥
        nonzero' = run_coded w x own q (further r more) has

        there' : HasCode own (round x busy).units
        there' = has_round own (levels x) busy.there has

        all : (y : Inside) → Took (a_round (further r more) busy) own y → has_request y ≡ true
        all = asked more busy requests (λ i. old)

        goes : (found : List ℕ) → InFrame (Took (further r more)) (poll_of own) found x → Goes (Took (a_round (further r more) busy)) (poll_of own) found x busy → Stand (a_round more busy)
        goes found i (on ring y speaks less) = polled-now there' next (frame_running y) all
        goes found i (answered fin d o) =
            let said = spoken w x q (further r more) busy own found i o in
            handed-over (now (said_handed nonzero' said (all said.inside (said_by nonzero' said))))
        goes found i (unanswered fin e b d a why sit) = absurd (hushed_none own nonzero' (took_fit w (round x busy) q (a_round (further r more) busy)) there' why)

        by : RunsOne (Took (further r more)) x (poll_of own) → Stand (a_round more busy)
        by (runs_one found i) = goes found i (every_response w x (further r more) (poll_of own) found i busy)

    round-stand : Stand more → Stand (a_round more busy)
    round-stand (handed-over h) = handed-over (earlier h)
    round-stand (waits-on has requests found ok sum) = by (holds-round w x own q (further r more) busy has requests calm)
      where
        quietly-by : (t : Bool) → is_handed own (told_in x busy) ≡ t → All (Requests own) (round x busy).units → Stand (a_round more busy)
        quietly-by true e next = handed-over (now (handed_is own (told_in x busy) e))
        quietly-by false e next = waits-round has requests found ok sum e next

        by : HoldsOn w x own q (further r more) busy has requests calm → Stand (a_round more busy)
        by (told-now e) = handed-over (now e)
        by (still next) = quietly-by (is_handed own (told_in x busy)) refl next
    round-stand (polled-now has requests run old) = by (holds-round w x own q (further r more) busy has requests calm)
      where
        by : HoldsOn w x own q (further r more) busy has requests calm → Stand (a_round more busy)
        by (told-now e) = handed-over (now e)
        by (still next) = polled-round has requests run old next

  -- A call.
  move-stand : {x u : World} (more : Run v x) (m : Move) (next : Run v u) → u.controller ≡ after x.controller m → u.units ≡ x.units
      → counted next ≡ counted more + services x.controller (m ∷ []) → beginsIn x.controller m ≡ false → event_of x.controller m ≡ Nothing
      → Harmless own (running x.controller.stage) → HasCode own x.units → All (Requests own) x.units → Found own (live x.controller.ring)
      → Ok own false x.controller → ahead own x.controller + counted more ≤ k → Stand next
  move-stand {x} {u} more m next same units n none-begun silent calm has requests found ok sum = by (placed own x.controller m found (spares own (running x.controller.stage) calm))
    where
      by : Placed own x.controller m → Stand next
      by (no_service b near f) =
          let z : services x.controller (m ∷ []) ≡ 0 = none-counted x.controller m [] b in
          let a : ahead own u.controller ≡ ahead own (after x.controller m) = ap (ahead own) same in
          waits-on (subst (HasCode own) (sym units) has) (subst (All (Requests own)) (sym units) requests) (subst (λ (y : Controller). Found own (live y.ring)) (sym same) f)
          (subst (Ok own false) (sym same) (clear-on x.controller m (ap (is_handed own) silent) ok)) (omega arith)
      by (one_nearer p b z e f) = absurd (true≢false (sym b ∙ none-begun))
      by (in_front b z e) = absurd (true≢false (sym b ∙ none-begun))

  call-polled : {x : World} (more : Run v x) (call : Call) → HasCode own x.units → All (Requests own) x.units → running x.controller.stage ≡ poll_of own ∷ [] → ((y : Inside) → Took (further r more) own y → has_request y ≡ true)
      → HasCode own (called x call).units → All (Requests own) (called x call).units → Stand (a_call more call)
  call-polled {x} more call has requests run old has' requests' = by (runs_it (poll_of own) (every_run w x q (further r more)) run)
    where
      by : RunsOne (Took (further r more)) x (poll_of own) → Stand (a_call more call)
      by (runs_one found i) = polled-now has' requests' (frame_running (in_frame_called call i)) old

  call-stand : {x : World} (more : Run v x) (call : Call) → Harmless own (running x.controller.stage) → Stand more → Stand (a_call more call)
  call-stand more call calm (handed-over h) = handed-over h
  call-stand {x} more (host i call) calm (waits-on has requests found ok sum) =
      waits-on (has_called own i call has) (requests_called own i call requests) found ok sum
  call-stand {x} more (submitsTo c d response p b) calm (waits-on has requests found ok sum) =
      let m = submits c (length d) (length response) in
      move-stand more m (a_call more (submitsTo c d response p b)) refl refl (services_then more (m ∷ [])) (submit_none x.controller c (length d) (length response)) refl calm has requests found ok sum
  call-stand {x} more (acknowledgesTo code h) calm (waits-on has requests found ok sum) =
      let m = acknowledges code in
      move-stand more m (a_call more (acknowledgesTo code h)) refl refl (services_then more (m ∷ [])) (acknowledge_none x.controller code) refl calm has requests found ok sum
  call-stand more (lends d response) calm (waits-on has requests found ok sum) = waits-on has requests found ok sum
  call-stand {x} more (lends_unit i buffer) calm (waits-on has requests found ok sum) =
      let t = in_frame x.controller.stage in
      waits-on (has_lent own t i buffer has) (all_lends t i buffer (λ st p. p) requests) found ok sum
  call-stand {x} more (host i call) calm (polled-now has requests run old) =
      call-polled more (host i call) has requests run old (has_called own i call has) (requests_called own i call requests)
  call-stand {x} more (submitsTo c d response p b) calm (polled-now has requests run old) = call-polled more (submitsTo c d response p b) has requests run old has requests
  call-stand {x} more (acknowledgesTo code h) calm (polled-now has requests run old) = call-polled more (acknowledgesTo code h) has requests run old has requests
  call-stand more (lends d response) calm (polled-now has requests run old) = call-polled more (lends d response) has requests run old has requests
  call-stand {x} more (lends_unit i buffer) calm (polled-now has requests run old) =
      let t = in_frame x.controller.stage in
      call-polled more (lends_unit i buffer) has requests run old (has_lent own t i buffer has) (all_lends t i buffer (λ st p. p) requests)

  stand : {u : World} (more : Run v u) → HasCode own v.units → All (Requests own) v.units → Found own (live v.controller.ring) → Ok own false v.controller → Calm own more → Stand more
  stand start has requests found ok calm = waits-on has requests found ok (omega arith)
  stand (a_round more busy) has requests found ok calm = round-stand more busy calm.1 (stand more has requests found ok calm.0)
  stand (a_call more call) has requests found ok calm = call-stand more call calm.1 (stand more has requests found ok calm.0)

running_rests : (stage : Stage) {f : Frame} → in_frame stage ≡ false → running stage ≡ f ∷ [] → ⊥
running_rests Free e run = false≢true (ap is_frame run)
running_rests (Resting first) e run = false≢true (ap is_frame run)
running_rests (Waiting f) e run = false≢true (ap is_frame run)
running_rests (Sending f i sender wait) e run = true≢false e
running_rests (Listening f ear response quiet) e run = true≢false e

pub chain : Chain
chain w v u own q r more has requests ring unmarked calm enough rests-now = by (stand w v own q r more has requests (ltb-true (place_of own (live v.controller.ring)) (length (live v.controller.ring)) ring) ok calm)
  where
    ok : Ok own false v.controller
    ok =
        let c = made w v q r in
        let known = ok_since own q.timeout (moves_of r []) in
        let clear : is_pending own q.timeout (moves_of r []) ≡ false = sym (agrees-mark own known.agrees) ∙ ap (λ (x : Controller). is_marked own (live x.ring)) (sym c) ∙ unmarked in
        subst (Ok own false) (sym c) (subst (λ (p : Bool). Ok own p (since q.timeout (moves_of r []))) clear known)

    by : Stand w v own q r more → HandedIn own more
    by (handed-over h) = h
    by (waits-on has' requests' found ok' sum) = absurd (omega arith)
    by (polled-now has' requests' run old) = absurd (running_rests u.controller.stage rests-now run)

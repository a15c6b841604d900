-- What is inside each unit, followed through the log of a run. A round changes it by the unit's own deeds, which its line machine makes;
-- a call by what its own host asks. Beside it the answer that was fixed last is the one that stands in the unit's phase.
use Prim.Native.Nat.{ℕ, zero, suc, ◌/◌, ◌<◌}
use mathlib.Core.Path.{◌≡◌, refl, sym, ◌∙◌, ap, subst}
use mathlib.Core.Bool.{Bool, true, false, cond, ◌||◌, true≢false, false≢true}
use mathlib.Core.List.{List, [], ◌∷◌, ◌++◌, map}
use borrow.Author.Tests.{eq-eqb, ne_eqb}
use lib.Dec.{ltb, eqb}
use lib.ListN.{length}
use Rattle.application.specs.Calls.{Done, submitting}
use Rattle.bus.specs.Bus.{station_step, units_after, is_odd}
use Rattle.bus.specs.declared.Station.{Station}
use Rattle.controller.specs.Controller.{event_in}
use Rattle.field.specs.Field.{byte_from}
use Rattle.frame.specs.Frame.{is_submitted}
use Rattle.frame.specs.declared.Stage.{Stage}
use Rattle.frame.specs.declared.Stage.TheVariants.{Free, Resting, Waiting, Sending, Listening}
use Rattle.header.specs.declared.Command.{Command}
use Rattle.header.specs.declared.Header.{Header}
use Rattle.inside.specs.Calls.{HostCall, called_by, called as calledIn}
use Rattle.inside.specs.Inside.{Inside, inside_of, with_state, reply_for, taken_for, responded}
use Rattle.inside.specs.Last.{header_with}
use Rattle.inside.proofs.Calls.{unit_called}
use Rattle.inside.proofs.Round.{inside_after}
use Rattle.kind.specs.Kinds.{kind_of}
use Rattle.line.specs.Line.{hear_of, taken_of, sent_of, sender_nibble, is_ready}
use Rattle.line.specs.declared.Lines.{Lines}
use Rattle.line.specs.declared.Listener.TheVariants.{Ready, Holding}
use Rattle.line.specs.declared.Sender.{Sender}
use Rattle.line.specs.declared.Sender.TheVariants.{Next}
use Rattle.message.specs.Answer.{Answer, gives, refused}
use Rattle.phase.specs.Phase.{phase_step, moves, answered, stored, byte_buffer, is_last}
use Rattle.phase.specs.declared.Moved.{Moved}
use Rattle.phase.specs.declared.Partial.{Partial}
use Rattle.phase.specs.declared.Phase.{Phase}
use Rattle.phase.specs.declared.Phase.TheVariants.{Idle, Selecting, Receiving, Responding, SittingOut}
use Rattle.phase.specs.declared.Progress.TheVariants.{Taking, Answered}
use Rattle.reply.specs.Reply.{is_silent, last_nibble}
use Rattle.serial.specs.Serial.{finished}
use Rattle.serial.specs.declared.Reply.{Reply}
use Rattle.serial.specs.declared.Reply.TheVariants.{Silent}
use Rattle.turn.specs.declared.Event.{Event}
use Rattle.unit.specs.declared.Unit.{Unit as Device}
use Rattle.delivery.specs.Calls.{Call, host as at_unit, submits, acknowledges, lends, lends_unit, called, called_at, in_frame}
use Rattle.delivery.specs.Following.{Whole, whole_of, with_inside, doing, following, following_all}
use Rattle.delivery.specs.Lists.{All, none, also, Pairs, no_pair, a_pair}
use Rattle.delivery.specs.Log.{Act, sent, heard, told, Deed, took, settled, spoke, done, Mark, begins, acts, does, asks, submitted, settled_by, done_by, deeds_by, station_deeds, units_marks, begun_by, ended_by, stage_marks, round_marks, host_marks, submission_marks, call_marks, log, Capture, cut, cut_all, with_mark, frames_of, deeds_in}
use Rattle.delivery.specs.Run.{New, QuietStart, Run, start, a_round, a_call}
use Rattle.delivery.specs.World.{World, Busy, levels, round, Different, nobody, another}
use Rattle.delivery.proofs.Moves.{Becomes, in_front, behind}
use Rattle.delivery.proofs.Called.{pairs_same, pairs_lends}
use Rattle.delivery.proofs.Captured.{Frames, at_rest, in_one, frames_run}
use Rattle.delivery.proofs.EveryRound.{every_run, changes, on_nibble, on_sound, on_different}
use Rattle.delivery.proofs.Frame.{becomes_all, own_kept}
use Rattle.delivery.proofs.Lists.{all_map}
use Rattle.delivery.proofs.Logs.{following-append, units_deeds}
use Rattle.delivery.proofs.Part.{low_step_lem}
use Rattle.delivery.proofs.Promised.{Moment}
use Rattle.delivery.proofs.Rest.{high_step_lem}
use Rattle.delivery.proofs.Rounds.{Took, Changed, unchanged, fixed_now, done_now}
use Rattle.delivery.proofs.Run.{frame_runs}
use Rattle.delivery.proofs.Stages.{Fresh, idles, selects, Sound, On, rests, submitted as has-submitted, ended, runs, is_answered}

-- A unit's own deeds, one after the other.
abbrev doing_all : ℕ → Whole → List Deed → Whole
doing_all own u [] = u
doing_all own u (e ∷ es) = doing_all own (doing own u e) es

-- An answer stands in a phase from the last nibble of the command to that of the response.
abbrev Standing : Phase → Reply → Type 0
Standing Idle r = Unit
Standing (Selecting ear half low) r = Unit
Standing (Receiving ear (Taking p)) r = Unit
Standing (Receiving ear (Answered reply)) r = r ≡ reply
Standing (Responding reply i sender wait) r = r ≡ reply
Standing (SittingOut last) r = Unit

-- A unit in this phase, with x inside it, is the followed one.
record Follows (p : Phase) (x : Inside) (u : Whole) : Type 0 where
  pub inside : x ≡ u.inside
  pub reply : Standing p u.reply

abbrev FollowsAt : Station → Whole → Type 0
FollowsAt st u = Follows st.unit.phase (inside_of st) u

-- The phase in which the last nibble can be taken.
abbrev is_taking : Phase → Bool
is_taking Idle = false
is_taking (Selecting ear half low) = false
is_taking (Receiving ear (Taking p)) = true
is_taking (Receiving ear (Answered r)) = false
is_taking (Responding reply i sender wait) = false
is_taking (SittingOut last) = false

taking_open : (p : Phase) → is_taking p ≡ true → is_answered p ≡ false
taking_open Idle e = refl
taking_open (Selecting ear half low) e = refl
taking_open (Receiving ear (Taking p)) e = refl
taking_open (Receiving ear (Answered r)) e = absurd (false≢true e)
taking_open (Responding reply i sender wait) e = refl
taking_open (SittingOut last) e = refl

-- Behind the last nibble its answer is fixed, and the effects have happened, as the followed unit has it.
abbrev Fixes : ℕ → Whole → Phase → Inside → Phase → Inside → Type 0
Fixes own u p x after y = is_taking p ≡ true → is_answered after ≡ true → Follows after y (doing own u (settled x))

abbrev FixesAt : Station → Station → Whole → Type 0
FixesAt st after u = Fixes st.unit.own u st.unit.phase (inside_of st) after.unit.phase (inside_of after)

-- A round with BAV seen low, phase by phase: what it leaves inside the unit is what its deeds make of the followed one.
module _ (own : ℕ) (x : Inside) (seen : Lines) (busy : Bool) (buffer : List ℕ) (u : Whole) where
  abbrev next : Phase → Phase
  next p = (phase_step p own x.state seen busy buffer x.input).phase

  abbrev left : Phase → Inside
  left p = inside_after p own x seen busy buffer

  low-follows : (p : Phase) → Fixes own u p x (next p) (left p) → Follows p x u → Follows (next p) (left p) (doing_all own u (deeds_by p (next p) x seen))
  low-follows Idle fixes f = by seen.hsk
    where
      by : (t : Bool) → Follows (cond t (SittingOut false) (Selecting Ready false 0)) x u
      by true = record { inside = f.inside; reply = tt }
      by false = record { inside = f.inside; reply = tt }
  low-follows (Selecting ear half low) fixes f = by (taken_of ear seen.hsk) half (eqb (byte_from low seen.nibble) own || eqb (byte_from low seen.nibble) 0) _
    where
      moved : Bool → Bool → Bool → Partial → Phase
      moved t h mine p = cond t (cond h (cond mine (Receiving Holding (Taking p)) (SittingOut true)) (Selecting Holding true seen.nibble)) (Selecting (hear_of ear seen.hsk busy) half low)

      by : (t h mine : Bool) (p : Partial) → Follows (moved t h mine p) x (doing_all own u (cond t (took seen.nibble ∷ []) []))
      by true true true p = record { inside = f.inside; reply = tt }
      by true true false p = record { inside = f.inside; reply = tt }
      by true false mine p = record { inside = f.inside; reply = tt }
      by false h mine p = record { inside = f.inside; reply = tt }
  low-follows (Receiving ear (Taking p)) fixes f = by (taken_of ear seen.hsk) p.half (is_last h.data_length p.place) _ _ (fixes refl)
    where
      h : Header
      h = header_with p seen.nibble

      whole : List ℕ
      whole = byte_buffer p (byte_from p.low seen.nibble) buffer

      moved : Bool → Bool → Bool → Partial → Partial → Moved
      moved t half last more low =
          cond t (cond half (cond last (answered own x.state h whole) (moves (Receiving Holding (Taking more)) x.state)) (moves (Receiving Holding (Taking low)) x.state))
          (moves (Receiving (hear_of ear seen.hsk busy) (Taking p)) x.state)

      output : Bool → Bool → Bool → List ℕ
      output t half last = cond t (cond half (cond last (stored own x.state h whole x.output) x.output) x.output) x.output

      FollowsIt : Moved → List ℕ → Whole → Type 0
      FollowsIt m o z = Follows m.phase (record { state = m.serial; input = x.input; output = o }) z

      by : (t half last : Bool) (more low : Partial)
          → (is_answered (moved t half last more low).phase ≡ true → FollowsIt (moved t half last more low) (output t half last) (doing own u (settled x)))
          → FollowsIt (moved t half last more low) (output t half last) (doing_all own u (cond t (took seen.nibble ∷ settled_by (moved t half last more low).phase x) []))
      by true true true more low fixed = fixed refl
      by true true false more low fixed = record { inside = f.inside; reply = tt }
      by true false last more low fixed = record { inside = f.inside; reply = tt }
      by false half last more low fixed = record { inside = f.inside; reply = tt }
  low-follows (Receiving ear (Answered r)) fixes f = by (is_ready (hear_of ear seen.hsk busy)) (is_silent r)
    where
      by : (ready silent : Bool) → Follows (cond ready (cond silent (SittingOut false) (Responding r 0 Next true)) (Receiving (hear_of ear seen.hsk busy) (Answered r))) x u
      by true true = record { inside = f.inside; reply = tt }
      by true false = record { inside = f.inside; reply = f.reply }
      by false silent = record { inside = f.inside; reply = f.reply }
  low-follows (Responding r j sender wait) fixes f = by wait (sent_of sender seen.hsk) (ltb j (last_nibble x.state.input r)) _ _
    where
      moved : Bool → Bool → Bool → ℕ → Sender → Moved
      moved waits counts more k on =
          cond waits (moves (Responding r j sender false) x.state)
          (cond counts (cond more (moves (Responding r k Next false) x.state) (moves (SittingOut false) (finished x.state r))) (moves (Responding r j on false) x.state))

      FollowsIt : Moved → Bool → Type 0
      FollowsIt m counts = Follows m.phase (with_state x m.serial) (doing_all own u (cond counts (spoke (sender_nibble sender) ∷ done_by m.phase) []))

      by : (waits counts more : Bool) (k : ℕ) (on : Sender) → FollowsIt (moved waits counts more k on) counts
      by true true more k on = record { inside = f.inside; reply = f.reply }
      by true false more k on = record { inside = f.inside; reply = f.reply }
      by false true true k on = record { inside = f.inside; reply = f.reply }
      by false true false k on = record { inside = λ i. responded (f.inside i) (sym f.reply i); reply = tt }
      by false false more k on = record { inside = f.inside; reply = f.reply }
  low-follows (SittingOut last) fixes f = record { inside = f.inside; reply = tt }

-- A round of a unit, at any levels.
module _ (st : Station) (seen : Lines) (busy : Bool) (n : seen.nibble < 16) (s : Sound st) (u : Whole) where
  abbrev own : ℕ
  own = st.unit.own

  abbrev stepped : Station
  stepped = station_step st seen busy

  step_follows : FixesAt st stepped u → FollowsAt st u → FollowsAt stepped (doing_all own u (station_deeds st seen busy))
  step_follows fixes f = by seen.bav refl
    where
      p : Phase
      p = st.unit.phase

      FollowsIt : Phase → Inside → Type 0
      FollowsIt z y = Fixes own u p (inside_of st) z y → Follows z y (doing_all own u (deeds_by p z (inside_of st) seen))

      by : (t : Bool) → seen.bav ≡ t → FollowsAt stepped (doing_all own u (cond t (deeds_by p stepped.unit.phase (inside_of st) seen) []))
      by true low =
          let k = low_step_lem st seen busy n s.room low in
          subst (FollowsIt stepped.unit.phase) (sym k.inside)
          (subst (λ (z : Phase). FollowsIt z (inside_after p own (inside_of st) seen busy st.buffer)) (sym k.phase) (λ h. low-follows own (inside_of st) seen busy st.buffer u p h f)) fixes
      by false high =
          let k = high_step_lem st seen busy n s.room high in
          record { inside = k.1.1 ∙ f.inside; reply = subst (λ (z : Phase). Standing z u.reply) (sym k.0) tt }

-- In a round of a frame, for the followed unit with its command and its data.
changed_fixes : {c : Command} {d : List ℕ} {st after : Station} {u : Whole} → u.command ≡ c → u.lent ≡ d → Changed c d st after → FollowsAt st u → FixesAt st after u
changed_fixes {st = st} command lent (unchanged same as_before) f taking now = absurd (true≢false (sym (as_before now) ∙ taking_open st.unit.phase taking))
changed_fixes {st = st} {u = u} command lent (fixed_now a old k) f taking now =
    let own = st.unit.own in
    record {
      inside = k.inside ∙ (λ i. taken_for own (f.inside i) (sym command i) (sym lent i));
      reply = subst (λ (z : Phase). Standing z (reply_for own u.inside u.command u.lent)) (sym k.reply) (λ i. reply_for own (sym f.inside i) (command i) (lent i));
    }
changed_fixes command lent (done_now a r j sender p phase inside) f taking now = absurd (true≢false (sym now ∙ ap is_answered phase))

-- Between frames no unit is about to take a last nibble.
fresh_untaking : (st : Station) → Fresh st → is_taking st.unit.phase ≡ false
fresh_untaking st (idles e) = ap is_taking e
fresh_untaking st (selects e) = ap is_taking e

rest_untaking : {T : Moment} {v : World} → On T v → in_frame v.controller.stage ≡ false → All (λ (st : Station). is_taking st.unit.phase ≡ false) v.units
rest_untaking (rests r eight codes d a) e = all_map (λ st p. fresh_untaking st p.0) a
rest_untaking (has-submitted f framed codes d a) e = all_map (λ st p. fresh_untaking st p.0) a
rest_untaking (ended eight codes d a) e = all_map (λ st p. ap is_taking p.0.0) a
rest_untaking (runs f found x codes) e = absurd (true≢false (sym (frame_runs x) ∙ e))

-- Of the marks of units only its own deeds touch a unit.
abbrev ByDeeds : ℕ → List Mark → Type 0
ByDeeds own ms = (u : Whole) → following_all own u ms ≡ doing_all own u (deeds_in own ms)

deeds_first : (own code : ℕ) (es : List Deed) (ms : List Mark) → ByDeeds own ms → ByDeeds own (map (does code) es ++ ms)
deeds_first own code [] ms rest u = rest u
deeds_first own code (e ∷ es) ms rest u = by (eqb code own) (deeds_first own code es ms rest)
  where
    later : List Mark
    later = map (does code) es ++ ms

    by : (t : Bool) → ByDeeds own later → following_all own (cond t (doing own u e) u) later ≡ doing_all own u (cond t (e ∷ []) [] ++ deeds_in own later)
    by true more = more (doing own u e)
    by false more = more u

units_by_deeds : (own : ℕ) (seen : Lines) (hosts : ℕ) (ss : List Station) → ByDeeds own (units_marks seen hosts ss)
units_by_deeds own seen hosts [] u = refl
units_by_deeds own seen hosts (st ∷ ss) u = deeds_first own st.unit.own (station_deeds st seen (is_odd hosts)) (units_marks seen (hosts / 2) ss) (units_by_deeds own seen (hosts / 2) ss) u

-- The controller's marks touch nothing inside it.
module _ (own : ℕ) (st : Station) (u : Whole) (f : FollowsAt st u) where
  abbrev Untouched : List Mark → Type 0
  Untouched ms = FollowsAt st (following_all own u ms)

  begun-follows : (next : Stage) (lent response : List ℕ) → Untouched (begun_by next lent response)
  begun-follows Free lent response = f
  begun-follows (Resting first) lent response = f
  begun-follows (Waiting g) lent response = f
  begun-follows (Sending g i sender wait) lent response = record { inside = f.inside; reply = f.reply }
  begun-follows (Listening g ear taken quiet) lent response = f

  ended-follows : (next : Stage) (end : Act) → Untouched (ended_by next end)
  ended-follows Free end = f
  ended-follows (Resting first) end = f
  ended-follows (Waiting g) end = f
  ended-follows (Sending g i sender wait) end = f
  ended-follows (Listening g ear taken quiet) end = f

  sent-follows : (t : Bool) (act : Act) → Untouched (cond t (acts act ∷ []) [])
  sent-follows true act = f
  sent-follows false act = f

  heard-follows : (t : Bool) (act : Act) (ms : List Mark) → Untouched ms → Untouched (cond t (acts act ∷ []) [] ++ ms)
  heard-follows true act ms k = k
  heard-follows false act ms k = k

  stage-follows : (stage next : Stage) (seen : Lines) (event : Event) (lent response after : List ℕ) → Untouched (stage_marks stage next seen event lent response after)
  stage-follows Free next seen event lent response after = begun-follows next lent response
  stage-follows (Resting first) next seen event lent response after = f
  stage-follows (Waiting g) next seen event lent response after = begun-follows next lent response
  stage-follows (Sending g i sender wait) next seen event lent response after = sent-follows (sent_of sender seen.hsk) (sent (sender_nibble sender))
  stage-follows (Listening g ear taken quiet) next seen event lent response after =
      let end = told event (cond (is_submitted g.kind) after []) in
      heard-follows (taken_of ear seen.hsk) (heard seen.nibble) (ended_by next end) (ended-follows next end)

-- The followed unit has the command and the data of the frame that began last.
abbrev BeganWith : List Capture → Command → List ℕ → Type 0
BeganWith [] c d = Unit
BeganWith (l ∷ ls) c d = (c ≡ l.frame.command) × (d ≡ l.lent)

abbrev Latest : List Capture → Whole → Type 0
Latest ls u = BeganWith ls u.command u.lent

marked_latest : (m : Mark) (ls : List Capture) (u : Whole) → Latest ls u → Latest (with_mark m ls) u
marked_latest m [] u p = p
marked_latest m (l ∷ ls) u p = p

doing_latest : (own : ℕ) (u : Whole) (ls : List Capture) (e : Deed) → Latest ls u → Latest ls (doing own u e)
doing_latest own u ls (took n) p = p
doing_latest own u ls (settled x) p = p
doing_latest own u ls (spoke n) p = p
doing_latest own u ls done p = p

either_latest : (t : Bool) (a b : Whole) (ls : List Capture) → Latest ls a → Latest ls b → Latest ls (cond t a b)
either_latest true a b ls p q = p
either_latest false a b ls p q = q

mark_latest : (own : ℕ) (u : Whole) (ls : List Capture) (m : Mark) → Latest ls u → Latest (cut ls m) (following own u m)
mark_latest own u ls (begins f lent found) p = (refl, refl)
mark_latest own u ls (acts a) p = marked_latest (acts a) ls u p
mark_latest own u ls (does code e) p =
    let m = does code e in
    marked_latest m ls (following own u m) (either_latest (eqb code own) (doing own u e) u ls (doing_latest own u ls e p) p)
mark_latest own u ls (asks code call) p =
    let m = asks code call in
    marked_latest m ls (following own u m) (either_latest (eqb code own) (with_inside u (calledIn (kind_of own) call u.inside)) u ls p p)
mark_latest own u ls (submitted k d response) p = marked_latest (submitted k d response) ls u p

following_latest : (own : ℕ) (u : Whole) (ls : List Capture) (ms : List Mark) → Latest ls u → Latest (cut_all ls ms) (following_all own u ms)
following_latest own u ls [] p = p
following_latest own u ls (m ∷ ms) p = following_latest own (following own u m) (cut ls m) ms (mark_latest own u ls m p)

-- Marks lead from a unit to what it becomes, behind a log with these frames.
record Leads (ls : List Capture) (ms : List Mark) (st after : Station) : Type 0 where
  pub own : after.unit.own ≡ st.unit.own
  pub follows : (u : Whole) → Latest ls u → FollowsAt st u → FollowsAt after (following_all st.unit.own u ms)

-- A round.
pairs_becomes : {R : Station → Station → Type 0} (seen : Lines) (hosts : ℕ) (ss : List Station)
    → ((st : Station) (busy : Bool) → Becomes seen hosts ss st (station_step st seen busy) → R st (station_step st seen busy)) → Pairs R ss (units_after seen hosts ss)
pairs_becomes seen hosts [] f = no_pair
pairs_becomes seen hosts (st ∷ ss) f = a_pair (f st (is_odd hosts) in_front) (pairs_becomes seen (hosts / 2) ss (λ x busy m. f x busy (behind m)))

module _ {w v : World} (q : QuietStart w) (r : Run w v) (busy : Busy) where
  abbrev o : On (Took r) v
  o = every_run w v q r

  module _ (st : Station) (host : Bool) (b : Becomes (levels v) busy.there v.units st (station_step st (levels v) host)) (u : Whole) (f : FollowsAt st u) where
    abbrev after : Station
    after = station_step st (levels v) host

    round-fixes : {ls : List Capture} → Frames (Took r) v ls → Latest ls u → FixesAt st after u
    round-fixes (at_rest e a) p taking now = absurd (true≢false (sym taking ∙ becomes_all (rest_untaking o e) b))
    round-fixes (in_one {l = l} s a) p taking now = changed_fixes p.0 (p.1 ∙ sym s.lent) (becomes_all (changes (Took r) l.frame s.found v s.frame host) b) f taking now

    abbrev units : List Mark
    units = units_marks (levels v) busy.there v.units

    units-follow : Latest (frames_of (log r)) u → FollowsAt after (following_all st.unit.own u units)
    units-follow p =
        subst (FollowsAt after) (sym (units_by_deeds st.unit.own (levels v) busy.there v.units u ∙ ap (doing_all st.unit.own u) (units_deeds (on_different o) b)))
        (step_follows st (levels v) host (on_nibble o) (becomes_all (on_sound o) b) u (round-fixes (frames_run w v q r) p) f)

    round-follows : Latest (frames_of (log r)) u → FollowsAt after (following_all st.unit.own u (round_marks v busy))
    round-follows p =
        let stage = v.controller.stage in
        let next = round v busy in
        let event = event_in v.controller (levels v) busy.here v.lent in
        subst (FollowsAt after) (sym (following-append st.unit.own u units (stage_marks stage next.controller.stage (levels v) event v.lent v.response next.response)))
        (stage-follows st.unit.own after (following_all st.unit.own u units) (units-follow p) stage next.controller.stage (levels v) event v.lent v.response next.response)

  round-leads : Pairs (Leads (frames_of (log r)) (round_marks v busy)) v.units (round v busy).units
  round-leads = pairs_becomes (levels v) busy.there v.units (λ st host b. record { own = own_kept st (levels v) host; follows = λ u p f. round-follows st host b u f p })

-- A call: of a unit's own host, or of no concern to it.
untouched_leads : {ls : List Capture} {ms : List Mark} (st : Station) → ((u : Whole) → following_all st.unit.own u ms ≡ u) → Leads ls ms st st
untouched_leads st same = record { own = refl; follows = λ u p f. subst (FollowsAt st) (sym (same u)) f }

asked_leads : {ls : List Capture} (call : HostCall) (st : Station) → Leads ls (asks st.unit.own call ∷ []) st (called_by call st)
asked_leads call st =
    let k = unit_called call st in
    let own = st.unit.own in
    record {
      own = k.own;
      follows = λ u p f.
          subst (λ (t : Bool). FollowsAt (called_by call st) (cond t (with_inside u (calledIn (kind_of own) call u.inside)) u)) (sym (eq-eqb own own refl))
          (record { inside = k.inside ∙ ap (calledIn (kind_of own) call) f.inside; reply = subst (λ (z : Phase). Standing z u.reply) (sym k.phase) f.reply });
    }

not_asked : (own code : ℕ) (call : HostCall) → (code ≡ own → ⊥) → (u : Whole) → following own u (asks code call) ≡ u
not_asked own code call p u = ap (λ (t : Bool). cond t (with_inside u (calledIn (kind_of own) call u.inside)) u) (ne_eqb code own p)

none_asked : (own i : ℕ) (call : HostCall) {ss : List Station} → All (λ (x : Station). x.unit.own ≡ own → ⊥) ss → (u : Whole) → following_all own u (host_marks i call ss) ≡ u
none_asked own i call none u = refl
none_asked own zero call (also {x = x} p a) u = not_asked own x.unit.own call p u
none_asked own (suc i) call (also p a) u = none_asked own i call a u

all_pairs : {P : Station → Type 0} {R : Station → Station → Type 0} → ((st : Station) → P st → R st st) → {ss : List Station} → All P ss → Pairs R ss ss
all_pairs f none = no_pair
all_pairs f (also {x = st} p a) = a_pair (f st p) (all_pairs f a)

host_leads : {ls : List Capture} (i : ℕ) (call : HostCall) {ss : List Station} → Different ss → Pairs (Leads ls (host_marks i call ss)) ss (called_at i call ss)
host_leads i call nobody = no_pair
host_leads zero call (another {st = st} a d) = a_pair (asked_leads call st) (all_pairs (λ x p. untouched_leads x (not_asked x.unit.own st.unit.own call (λ e. p (sym e)))) a)
host_leads (suc i) call (another {st = st} a d) = a_pair (untouched_leads st (none_asked st.unit.own i call a)) (host_leads i call d)

submission_unseen : (own : ℕ) (a : Answer Done) (k : Command) (d response : List ℕ) (u : Whole) → following_all own u (submission_marks a (submitted k d response)) ≡ u
submission_unseen own (gives x) k d response u = refl
submission_unseen own (refused n) k d response u = refl

call_leads : {ls : List Capture} (v : World) (call : Call) → Different v.units → Pairs (Leads ls (call_marks v call)) v.units (called v call).units
call_leads v (at_unit i call) d = host_leads i call d
call_leads v (submits k e response range bytes) d =
    let a = submitting v.controller k (length e) (length response) in
    pairs_same (λ st. untouched_leads st (submission_unseen st.unit.own a k e response)) v.units
call_leads v (acknowledges code h) d = pairs_same (λ st. untouched_leads st (λ u. refl)) v.units
call_leads v (lends e response) d = pairs_same (λ st. untouched_leads st (λ u. refl)) v.units
call_leads v (lends_unit i buffer) d = pairs_lends (in_frame v.controller.stage) i buffer (λ st. untouched_leads st (λ u. refl)) (λ st. record { own = refl; follows = λ u p f. f }) v.units

-- A run.
record Followed (ms : List Mark) (st after : Station) : Type 0 where
  pub own : after.unit.own ≡ st.unit.own
  pub follows : FollowsAt after (following_all st.unit.own (whole_of st) ms)

new_followed : (st : Station) → New st → Followed [] st st
new_followed st n = record { own = refl; follows = record { inside = refl; reply = subst (λ (x : Device). Standing x.phase Silent) (sym n.is_new) tt } }

followed_on : {before ms : List Mark} {st now after : Station} → Followed before st now → Leads (frames_of before) ms now after → Followed (before ++ ms) st after
followed_on {before} {ms} {st} {now} {after} k leads =
    let u = following_all st.unit.own (whole_of st) before in
    record {
      own = leads.own ∙ k.own;
      follows = subst (FollowsAt after) (sym (following-append st.unit.own (whole_of st) before ms))
          (subst (λ (own : ℕ). FollowsAt after (following_all own u ms)) k.own (leads.follows u (following_latest st.unit.own (whole_of st) [] before tt) k.follows));
    }

pairs_then : {P Q R : Station → Station → Type 0} → ((x y z : Station) → P x y → Q y z → R x z) → {xs ys zs : List Station} → Pairs P xs ys → Pairs Q ys zs → Pairs R xs zs
pairs_then f no_pair no_pair = no_pair
pairs_then f (a_pair {x = x} {y = y} p ps) (a_pair {y = z} q qs) = a_pair (f x y z p q) (pairs_then f ps qs)

followed_run : (w v : World) → QuietStart w → (r : Run w v) → Pairs (Followed (log r)) w.units v.units
followed_run w _ q start = all_pairs new_followed q.units
followed_run w _ q (a_round {v = v} r busy) = pairs_then (λ x y z p k. followed_on p k) (followed_run w v q r) (round-leads q r busy)
followed_run w _ q (a_call {v = v} r call) = pairs_then (λ x y z p k. followed_on p k) (followed_run w v q r) (call_leads v call (on_different (every_run w v q r)))

pub insides_run : (w v : World) → QuietStart w → (r : Run w v)
    → Pairs (λ (st after : Station). inside_of after ≡ (following_all st.unit.own (whole_of st) (log r)).inside) w.units v.units
insides_run w v q r = pairs-map (λ x y p. p.follows.inside) (followed_run w v q r)
  where
    pairs-map : {P Q : Station → Station → Type 0} → ((x y : Station) → P x y → Q x y) → {xs ys : List Station} → Pairs P xs ys → Pairs Q xs ys
    pairs-map f no_pair = no_pair
    pairs-map f (a_pair {x = x} {y = y} p ps) = a_pair (f x y p) (pairs-map f ps)

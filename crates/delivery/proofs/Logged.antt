-- A frame that runs, with its log: each round of it leads on in it, or completes it.
use Prim.Native.Nat.{ℕ}
use mathlib.Core.Path.{◌≡◌, refl, sym, ◌∙◌, ap, subst}
use mathlib.Core.Bool.{Bool, true, false, cond, ◌||◌, true≢false, false≢true}
use mathlib.Core.List.{List, [], ◌∷◌, map, append-nil}
use lib.ListN.{take}
use lib.Dec.{ltb, eqb}
use Rattle.answer.specs.Answer.{nothing_taken}
use Rattle.answer.specs.declared.Response.{Response}
use Rattle.bus.specs.declared.Station.{Station}
use Rattle.controller.specs.declared.Controller.{Controller}
use Rattle.field.specs.Field.{byte_from}
use Rattle.frame.specs.Frame.{data_of, is_submitted, over}
use Rattle.frame.specs.declared.Frame.{Frame}
use Rattle.frame.specs.declared.Moved.{Moved}
use Rattle.frame.specs.declared.Stage.{Stage}
use Rattle.frame.specs.declared.Stage.TheVariants.{Free, Resting, Waiting, Sending, Listening}
use Rattle.header.specs.declared.Command.{Command}
use Rattle.inside.specs.Inside.{Inside, inside_of}
use Rattle.line.specs.Line.{sent_of, taken_of}
use Rattle.line.specs.declared.Lines.{Lines}
use Rattle.line.specs.declared.Listener.{Listener}
use Rattle.line.specs.declared.Listener.TheVariants.{Ready}
use Rattle.line.specs.declared.Sender.{Sender}
use Rattle.line.specs.declared.Sender.TheVariants.{Next}
use Rattle.phase.specs.Phase.{phase_step}
use Rattle.phase.specs.declared.Moved.{Moved as Step}
use Rattle.phase.specs.declared.Phase.{Phase}
use Rattle.phase.specs.declared.Phase.TheVariants.{Idle, Selecting, Receiving, Responding, SittingOut}
use Rattle.phase.specs.declared.Progress.TheVariants.{Taking, Answered}
use Rattle.reply.specs.Reply.{last_nibble}
use Rattle.delivery.specs.Run.{codes_of}
use Rattle.delivery.specs.Calls.{in_frame}
use Rattle.delivery.specs.Demand2.{Ended}
use Rattle.delivery.specs.Lists.{All, also, One, this, that, Has, here, there}
use Rattle.delivery.specs.Log.{sent, took, settled, settled_by, deeds_by, Capture, acts_in, deeds_in}
use Rattle.delivery.proofs.Promised.{Moment}
use Rattle.delivery.proofs.Stages.{Sits, Sound, Talk, talks, InFrame, begins, sends, hears, waits, Goes, on, answered, unanswered, Spoke, spoke, Finishes, moved_in, is_answered, is_responding}
use Rattle.delivery.specs.World.{World, Busy, levels, round}
use Rattle.delivery.proofs.Deeds.{nibbles_for}
use Rattle.delivery.proofs.EveryRound.{in_frame_nibble, in_frame_low}
use Rattle.delivery.proofs.Frame.{control, begin_high}
use Rattle.delivery.proofs.Listened.{Known, hears-did, hears-acted, hears-complete}
use Rattle.delivery.proofs.Lists.{all_map, has_all, one_all}
use Rattle.delivery.proofs.Part.{Stepped}
use Rattle.delivery.proofs.Rest.{spoke_moved}
use Rattle.delivery.proofs.Run.{frame_runs}
use Rattle.delivery.proofs.Story.{DidAt, TellsAt, Still, Acted, sending_so, listening_so, later_of, acts-now, begins-did, sends-did, sends-acted, place_in, is_sending, not-over}
use Rattle.delivery.proofs.Waited.{waits-did, waits-acted, waits-complete}

-- A frame that runs.
pub record Story (T : Moment) (l : Capture) (v : World) : Type 0 where
  pub found : List ℕ
  pub frame : InFrame T l.frame found v
  pub kept : is_submitted l.frame.kind ≡ true → found ≡ l.found
  pub lent : data_of l.frame v.lent ≡ l.lent
  pub did : All (DidAt l (data_of l.frame v.lent)) v.units
  pub acted : Acted l (data_of l.frame v.lent) v.controller.stage v.units
  pub moments : (own : ℕ) (y : Inside) → T own y → Has (settled y) (deeds_in own l.marks)

pub data Onward (T : Moment) (l : Capture) (v : World) : Type 0 where
  runs_on : Story T l v → Onward T l v
  is_complete : in_frame v.controller.stage ≡ false → Ended (codes_of v.units) l → Onward T l v

abbrev ear_in : Stage → Listener
ear_in Free = Ready
ear_in (Resting first) = Ready
ear_in (Waiting f) = Ready
ear_in (Sending f i sender wait) = Ready
ear_in (Listening f ear taken quiet) = ear

-- What was done before the round, by the stage.
pub sent_so_far : {l : Capture} {d : List ℕ} {units : List Station} {i : ℕ} {sender : Sender} {wait : Bool} → Acted l d (Sending l.frame i sender wait) units → acts_in l.marks ≡ map sent (take i (nibbles_for l.frame.command d))
sent_so_far {l} {d} (sending_so j k w e was) = was ∙ ap (λ (n : ℕ). map sent (take n (nibbles_for l.frame.command d))) (sym (ap place_in e))
sent_so_far (listening_so ear taken quiet e tells nobody) = absurd (true≢false (ap is_sending e))

pub told_so_far : {l : Capture} {d : List ℕ} {units : List Station} {ear : Listener} {taken : Response} {quiet : ℕ} → Acted l d (Listening l.frame ear taken quiet) units → All (TellsAt l d ear) units
told_so_far (sending_so j k w e was) = absurd (false≢true (ap is_sending e))
told_so_far {l} {d} {units} (listening_so ear taken quiet e tells nobody) = subst (λ (x : Listener). All (TellsAt l d x) units) (sym (ap ear_in e)) tells

pub nobody_so_far : {l : Capture} {d : List ℕ} {units : List Station} {ear : Listener} {taken : Response} {quiet : ℕ} → Acted l d (Listening l.frame ear taken quiet) units
    → All Still units → acts_in l.marks ≡ map sent (nibbles_for l.frame.command d)
nobody_so_far (sending_so j k w e was) = absurd (false≢true (ap is_sending e))
nobody_so_far (listening_so ear taken quiet e tells nobody) = nobody

-- Nobody responds where all sit out.
talk_and_still : {T : Moment} {c : Command} {d : List ℕ} {stores : Bool} {found : List ℕ} {ear : Listener} {taken : Response} {quiet : ℕ} {buffer : List ℕ} {ss : List Station}
    → One (λ (st : Station). Talk T c d stores found ear taken quiet buffer st × Sound st) (λ (st : Station). Sits st × Sound st) ss → All Sits ss → ⊥
talk_and_still (this (talks r j t sender wait e p fits g b l w z q own, s) a) (also q' b') = true≢false (sym (ap is_responding e) ∙ ap is_responding q'.0)
talk_and_still (that q o) (also q' b) = talk_and_still o b

spoke_and_still : {T : Moment} {f : Frame} {d found : List ℕ} {m : Moved} {buffer : List ℕ} {old ss : List Station}
    → One (λ (st : Station). Spoke T f d found m buffer old st × Sound st) (λ (st : Station). Sits st × Sound st) ss → All (λ (st : Station). Sits st × Sound st) old → ⊥
spoke_and_still (this (spoke r j sender before has z own a p e b inside sits, s) all) still = true≢false (sym (ap is_responding z) ∙ ap is_responding (has_all still has).0.0)
spoke_and_still (that q o) still = spoke_and_still o still

over_free : (f : Frame) (v : World) (busy : Busy) (r : Response) → Finishes v busy → moved_in v busy ≡ over f r → in_frame (round v busy).controller.stage ≡ false
over_free f v busy r fin m = ap (λ (c : Controller). in_frame c.stage) fin ∙ ap (λ (x : Moved). in_frame x.stage) m

all_still : {T : Moment} {f : Frame} {d found : List ℕ} {m : Moved} {buffer : List ℕ} {old ss : List Station} → One (λ (st : Station). Spoke T f d found m buffer old st × Sound st) (λ (st : Station). Sits st × Sound st) ss → All Still ss
all_still o = one_all by (λ st p. ap is_responding p.0.0) o
  where
    by : {T : Moment} {f : Frame} {d found : List ℕ} {m : Moved} {buffer : List ℕ} {old : List Station} (st : Station) → Spoke T f d found m buffer old st × Sound st → Still st
    by st (spoke r j sender before has z own a p e b inside sits, s) = ap is_responding sits.0

-- With the data that the frame began with.
as_begun : (l : Capture) (v : World) (busy : Busy) {codes : List ℕ} → data_of l.frame v.lent ≡ l.lent
    → Ended codes (record { frame = l.frame; lent = data_of l.frame v.lent; found = l.found; marks = (later_of l v busy).marks }) → Ended codes (later_of l v busy)
as_begun l v busy {codes} e k = subst (Ended codes) (λ i. record { frame = l.frame; lent = e i; found = l.found; marks = (later_of l v busy).marks }) k

module _ {T T' : Moment} (l : Capture) {found : List ℕ} where
  pub round_by : (v : World) (busy : Busy) → InFrame T l.frame found v → (is_submitted l.frame.kind ≡ true → found ≡ l.found) → data_of l.frame v.lent ≡ l.lent
      → All (DidAt l (data_of l.frame v.lent)) v.units → Acted l (data_of l.frame v.lent) v.controller.stage v.units
      → ((own : ℕ) (y : Inside) → T own y → Has (settled y) (deeds_in own l.marks)) → ((own : ℕ) (y : Inside) → T' own y → Has (settled y) (deeds_in own (later_of l v busy).marks))
      → Goes T' l.frame found v busy → Onward T' (later_of l v busy) (round v busy)
  round_by v busy (begins {lent = lent} framed different a) kept same did acted moments now (on r y speaks nearer) =
      let x : InFrame T l.frame found v = begins framed different a in
      let stage : (round v busy).controller.stage ≡ Sending l.frame 0 Next false = ap (λ (c : Controller). c.stage) (control v.controller (levels v) busy.here lent found (in_frame_nibble x) framed.fits refl) in
      runs_on (record {
        found = found;
        frame = y;
        kept = kept;
        lent = same;
        did = begins-did l v busy x a (begin_high a) (data_of l.frame lent) did;
        acted = sending_so 0 Next false stage (acts-now l v busy different (in_frame_low x) ∙ append-nil (acts_in l.marks) ∙ sent_so_far acted);
        moments = now;
      })
  round_by v busy (begins framed different a) kept same did acted moments now (answered fin d o) = absurd (not-over (spoke_moved o).0 (spoke_moved o).1)
  round_by v busy (begins framed different a) kept same did acted moments now (unanswered fin m b d e why still) = absurd (not-over nothing_taken m)
  round_by v busy (sends i sender {timeout = timeout} {ring = ring} {units = units} {lent = lent} framed different s less a) kept same did acted moments now (on r y speaks nearer) =
      runs_on (record {
        found = found;
        frame = y;
        kept = kept;
        lent = same;
        did = sends-did l i sender timeout ring units lent framed different s less a busy did;
        acted = sends-acted l i sender timeout ring units lent framed different s less a busy acted;
        moments = now;
      })
  round_by v busy (sends i sender framed different s less a) kept same did acted moments now (answered fin d o) = absurd (not-over (spoke_moved o).0 (spoke_moved o).1)
  round_by v busy (sends i sender framed different s less a) kept same did acted moments now (unanswered fin m b d e why still) = absurd (not-over nothing_taken m)
  round_by v busy (hears ear taken quiet {timeout = timeout} {ring = ring} {units = units} {lent = lent} {response = response} framed different long o) kept same did acted moments now (on r y speaks nearer) =
      let known : Known T l (data_of l.frame lent) ear units = record { did = did; tells = told_so_far acted; moments = moments } in
      runs_on (record {
        found = found;
        frame = y;
        kept = kept;
        lent = same;
        did = hears-did l ear taken quiet timeout ring units lent response framed different long o busy known speaks;
        acted = hears-acted l ear taken quiet timeout ring units lent response framed different long o busy known speaks (frame_runs y);
        moments = now;
      })
  round_by v busy (hears ear taken quiet {timeout = timeout} {ring = ring} {units = units} {lent = lent} {response = response} framed different long o) kept same did acted moments now (answered fin d spoken) =
      let known : Known T l (data_of l.frame lent) ear units = record { did = did; tells = told_so_far acted; moments = moments } in
      is_complete (over_free l.frame v busy (spoke_moved spoken).0 fin (spoke_moved spoken).1)
      (as_begun l v busy same (hears-complete l ear taken quiet timeout ring units lent response framed different long o busy known (all_still spoken) now kept fin spoken))
  round_by v busy (hears ear taken quiet framed different long o) kept same did acted moments now (unanswered fin m b d e why still) = absurd (talk_and_still o still)
  round_by v busy (waits quiet {timeout = timeout} {ring = ring} {units = units} {lent = lent} framed different a why) kept same did acted moments now (on r y speaks nearer) =
      let so_far = nobody_so_far acted (all_map (λ st p. ap is_responding p.0.0) a) in
      runs_on (record {
        found = found;
        frame = y;
        kept = kept;
        lent = same;
        did = waits-did l quiet timeout ring units lent framed different a why busy did so_far;
        acted = waits-acted l quiet timeout ring units lent framed different a why busy did so_far (frame_runs y);
        moments = now;
      })
  round_by v busy (waits quiet framed different a why) kept same did acted moments now (answered fin d spoken) = absurd (spoke_and_still spoken a)
  round_by v busy (waits quiet {timeout = timeout} {ring = ring} {units = units} {lent = lent} framed different a why) kept same did acted moments now (unanswered fin m b d e why' still) =
      let so_far = nobody_so_far acted (all_map (λ st p. ap is_responding p.0.0) a) in
      is_complete (over_free l.frame v busy nothing_taken fin m) (as_begun l v busy same (waits-complete l quiet timeout ring units lent framed different a why busy did so_far kept fin m b))

-- A unit that takes the last nibble settles.
open_either : (t : Bool) (a b : Phase) → is_answered a ≡ false → is_answered b ≡ false → is_answered (cond t a b) ≡ false
open_either true a b p q = p
open_either false a b p q = q

open_moved : (t : Bool) (a b : Step) → is_answered a.phase ≡ false → is_answered b.phase ≡ false → is_answered (cond t a b).phase ≡ false
open_moved true a b p q = p
open_moved false a b p q = q

settles : (next : Phase) (x : Inside) → is_answered next ≡ true → Has (settled x) (settled_by next x)
settles Idle x e = absurd (false≢true e)
settles (Selecting ear half low) x e = absurd (false≢true e)
settles (Receiving ear (Taking p)) x e = absurd (false≢true e)
settles (Receiving ear (Answered r)) x e = here
settles (Responding r j sender wait) x e = absurd (false≢true e)
settles (SittingOut last) x e = absurd (false≢true e)

pub answered_deeds : {st st' : Station} {seen : Lines} {busy : Bool} → Stepped st seen busy st' → is_answered st.unit.phase ≡ false → is_answered st'.unit.phase ≡ true
    → Has (settled (inside_of st)) (deeds_by st.unit.phase st'.unit.phase (inside_of st) seen)
answered_deeds {st} {st'} {seen} {busy} step before after = by st.unit.phase refl
  where
    never : {p : Phase} → st.unit.phase ≡ p → is_answered (phase_step p st.unit.own st.unit.serial seen busy st.buffer st.input).phase ≡ false → ⊥
    never e q = true≢false (sym after ∙ ap is_answered step.phase ∙ ap (λ (x : Phase). is_answered (phase_step x st.unit.own st.unit.serial seen busy st.buffer st.input).phase) e ∙ q)

    taking : (t : Bool) (ear : Listener) (n : ℕ) → taken_of ear seen.hsk ≡ t → (t ≡ false → ⊥) → Has (settled (inside_of st)) (cond (taken_of ear seen.hsk) (took n ∷ settled_by st'.unit.phase (inside_of st)) [])
    taking true ear n e f = subst (λ (b : Bool). Has (settled (inside_of st)) (cond b (took n ∷ settled_by st'.unit.phase (inside_of st)) [])) (sym e) (there (settles st'.unit.phase (inside_of st) after))
    taking false ear n e f = absurd (f refl)

    by : (p : Phase) → st.unit.phase ≡ p → Has (settled (inside_of st)) (deeds_by p st'.unit.phase (inside_of st) seen)
    by Idle e = absurd (never e (open_either seen.hsk _ _ refl refl))
    by (Selecting ear half low) e =
        absurd (never e (open_either (taken_of ear seen.hsk) _ _ (open_either half _ _ (open_either (eqb (byte_from low seen.nibble) st.unit.own || eqb (byte_from low seen.nibble) 0) _ _ refl refl) refl) refl))
    by (Receiving ear (Taking p)) e = taking (taken_of ear seen.hsk) ear seen.nibble refl (λ t. never e (rw t))
    by (Receiving ear (Answered r)) e = absurd (true≢false (sym (ap is_answered e) ∙ before))
    by (Responding r j sender wait) e =
        absurd (never e (open_moved wait _ _ refl (open_moved (sent_of sender seen.hsk) _ _ (open_moved (ltb j (last_nibble st.unit.serial.input r)) _ _ refl refl) refl)))
    by (SittingOut last) e = absurd (never e refl)

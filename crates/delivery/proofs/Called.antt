-- A call between the rounds: it is nobody's deed, and leaves the frame that runs, and those that have ended, as they are in the log.
use Prim.Native.Nat.{ℕ, zero, suc}
use mathlib.Core.Path.{◌≡◌, refl, sym, ◌∙◌, ap, subst}
use mathlib.Core.Bool.{Bool, true, false, cond}
use mathlib.Core.List.{List, [], ◌∷◌, ◌++◌, append-nil}
use lib.ListN.{length}
use Rattle.application.specs.Calls.{Done, submitting, acknowledging, without_mark}
use Rattle.bus.specs.declared.Station.{Station}
use Rattle.frame.specs.Frame.{data_of, is_submitted}
use Rattle.frame.specs.declared.Frame.{Frame}
use Rattle.header.specs.declared.Command.{Command}
use Rattle.inside.specs.Calls.{HostCall}
use Rattle.inside.specs.Inside.{Inside}
use Rattle.inside.proofs.Calls.{unit_called}
use Rattle.line.specs.declared.Listener.{Listener}
use Rattle.message.specs.Answer.{Answer, gives, refused, kept}
use Rattle.phase.specs.declared.Phase.{Phase}
use Rattle.delivery.specs.Run.{codes_of}
use Rattle.delivery.specs.Calls.{Call, host, submits, acknowledges, lends, lends_unit, called, called_at, buffer_at, with_buffer, in_frame}
use Rattle.delivery.specs.Demand2.{Answerer, nobody, unit, acts_of, Answers, Hushes, not_meant, by_the_rule, Ended}
use Rattle.delivery.specs.Lists.{All, none, also, Has, Pairs, no_pair, a_pair}
use Rattle.delivery.specs.Log.{Act, Deed, settled, Mark, submitted, call_marks, submission_marks, Capture, acts_in, deeds_in}
use Rattle.delivery.proofs.Moves.{found_after}
use Rattle.delivery.proofs.Promised.{Moment}
use Rattle.delivery.proofs.Stages.{InFrame, is_responding}
use Rattle.delivery.specs.World.{World}
use Rattle.delivery.proofs.Completed.{one_both}
use Rattle.delivery.proofs.Deeds.{Did}
use Rattle.delivery.proofs.Lists.{all_map}
use Rattle.delivery.proofs.Logged.{Story}
use Rattle.delivery.proofs.Logs.{acts_append, deeds_append, Same, plain_same, grown, host_plain, host_no_acts, host_no_deeds}
use Rattle.delivery.proofs.Run.{not_idle, frame_busy, frame_kept, in_frame_called, same_data}
use Rattle.delivery.proofs.Story.{DidAt, TellsBy, TellsAt, Acted, sending_so, listening_so}

-- Marks of which none is an act, a deed or a beginning.
pub record Idle (ms : List Mark) : Type 0 where
  pub same : All Same ms
  pub no_acts : acts_in ms ≡ []
  pub no_deeds : (own : ℕ) → deeds_in own ms ≡ []

no_marks : Idle []
no_marks = record { same = none; no_acts = refl; no_deeds = λ own. refl }

submission_idle : (a : Answer Done) (k : Command) (d response : List ℕ) → Idle (submission_marks a (submitted k d response))
submission_idle (gives x) k d response = record { same = also tt none; no_acts = refl; no_deeds = λ own. refl }
submission_idle (refused n) k d response = no_marks

pub call_idle : (v : World) (call : Call) → Idle (call_marks v call)
call_idle v (host i call) = record { same = all_map plain_same (host_plain i call v.units); no_acts = host_no_acts i call v.units; no_deeds = λ own. host_no_deeds own i call v.units }
call_idle v (submits k d response r b) = submission_idle (submitting v.controller k (length d) (length response)) k d response
call_idle v (acknowledges code h) = no_marks
call_idle v (lends d response) = no_marks
call_idle v (lends_unit i buffer) = no_marks

module _ (l : Capture) (ms : List Mark) (idle : Idle ms) where
  pub acts-same : acts_in (grown l ms).marks ≡ acts_in l.marks
  acts-same = acts_append l.marks ms ∙ ap (λ (x : List Act). acts_in l.marks ++ x) idle.no_acts ∙ append-nil (acts_in l.marks)

  pub deeds-same : (own : ℕ) → deeds_in own (grown l ms).marks ≡ deeds_in own l.marks
  deeds-same own = deeds_append own l.marks ms ∙ ap (λ (x : List Deed). deeds_in own l.marks ++ x) (idle.no_deeds own) ∙ append-nil (deeds_in own l.marks)

  settled_same : (own : ℕ) (x : Inside) → Has (settled x) (deeds_in own l.marks) → Has (settled x) (deeds_in own (grown l ms).marks)
  settled_same own x h = subst (Has (settled x)) (sym (deeds-same own)) h

  -- A frame that has ended.
  hushes-same : (own : ℕ) → Hushes l own → Hushes (grown l ms) own
  hushes-same own (not_meant e) = not_meant e
  hushes-same own (by_the_rule x h e) = by_the_rule x (settled_same own x h) e

  answers-same : (codes : List ℕ) (a : Answerer) → Answers codes l a → Answers codes (grown l ms) a
  answers-same codes nobody k = all_map hushes-same k
  answers-same codes (unit own x) k = one_both (λ code s. record { named = s.named; meant = s.meant; inside = settled_same own x s.inside; defined = s.defined }) hushes-same k

  acts-of-same : (a : Answerer) → acts_of l a ≡ acts_of (grown l ms) a
  acts-of-same nobody = refl
  acts-of-same (unit own x) = refl

  pub complete-idle : {codes : List ℕ} → Ended codes l → Ended codes (grown l ms)
  complete-idle {codes} k = record {
    answerer = k.answerer;
    acted = acts-same ∙ k.acted ∙ acts-of-same k.answerer;
    answers = answers-same codes k.answerer k.answers;
    parts = all_map (λ own p. (p.0, deeds-same own ∙ p.1)) k.parts;
  }

-- A call changes no code and no phase.
pub record Alike (st after : Station) : Type 0 where
  pub own : after.unit.own ≡ st.unit.own
  pub phase : after.unit.phase ≡ st.unit.phase

-- At no unit of a list, or at one that is lent another command buffer.
pub pairs_same : {R : Station → Station → Type 0} → ((st : Station) → R st st) → (ss : List Station) → Pairs R ss ss
pairs_same f [] = no_pair
pairs_same f (st ∷ ss) = a_pair (f st) (pairs_same f ss)

pairs_lent : {R : Station → Station → Type 0} (i : ℕ) (buffer : List ℕ) → ((st : Station) → R st st) → ((st : Station) → R st (with_buffer buffer st)) → (ss : List Station) → Pairs R ss (buffer_at i buffer ss)
pairs_lent i buffer f g [] = no_pair
pairs_lent zero buffer f g (st ∷ ss) = a_pair (g st) (pairs_same f ss)
pairs_lent (suc i) buffer f g (st ∷ ss) = a_pair (f st) (pairs_lent i buffer f g ss)

pub pairs_lends : {R : Station → Station → Type 0} (t : Bool) (i : ℕ) (buffer : List ℕ) → ((st : Station) → R st st) → ((st : Station) → R st (with_buffer buffer st)) → (ss : List Station) → Pairs R ss (cond t ss (buffer_at i buffer ss))
pairs_lends true i buffer f g ss = pairs_same f ss
pairs_lends false i buffer f g ss = pairs_lent i buffer f g ss

as_it_was : (st : Station) → Alike st st
as_it_was st = record { own = refl; phase = refl }

alike_at : (i : ℕ) (call : HostCall) (ss : List Station) → Pairs Alike ss (called_at i call ss)
alike_at i call [] = no_pair
alike_at zero call (st ∷ ss) = let k = unit_called call st in a_pair (record { own = k.own; phase = k.phase }) (pairs_same as_it_was ss)
alike_at (suc i) call (st ∷ ss) = a_pair (as_it_was st) (alike_at i call ss)

pub alike_called : (v : World) (call : Call) → Pairs Alike v.units (called v call).units
alike_called v (host i call) = alike_at i call v.units
alike_called v (submits k d response r b) = pairs_same as_it_was v.units
alike_called v (acknowledges code h) = pairs_same as_it_was v.units
alike_called v (lends d response) = pairs_same as_it_was v.units
alike_called v (lends_unit i buffer) = pairs_lends (in_frame v.controller.stage) i buffer as_it_was (λ st. record { own = refl; phase = refl }) v.units

pub pairs_all : {P Q : Station → Type 0} {R : Station → Station → Type 0} → ((st after : Station) → R st after → P st → Q after) → {ss after : List Station} → Pairs R ss after → All P ss → All Q after
pairs_all f no_pair none = none
pairs_all f (a_pair {x = x} {y = y} r rs) (also p a) = also (f x y r p) (pairs_all f rs a)

-- Back from the units behind the call.
pub pairs_back : {P Q : Station → Type 0} {R : Station → Station → Type 0} → ((st after : Station) → R st after → Q after → P st) → {ss after : List Station} → Pairs R ss after → All Q after → All P ss
pairs_back f no_pair none = none
pairs_back f (a_pair {x = x} {y = y} r rs) (also q a) = also (f x y r q) (pairs_back f rs a)

pub codes_alike : {ss after : List Station} → Pairs Alike ss after → codes_of after ≡ codes_of ss
codes_alike no_pair = refl
codes_alike (a_pair a more) = λ i. a.own i ∷ codes_alike more i

-- The frame that runs.
acknowledged_stage : (v : World) (code : ℕ) (a : Answer Done) → (kept a (without_mark v.controller code) v.controller).stage ≡ v.controller.stage
acknowledged_stage v code (gives x) = refl
acknowledged_stage v code (refused k) = refl

module _ {T : Moment} {f : Frame} {found : List ℕ} where
  stage-called : {v : World} (call : Call) → InFrame T f found v → (called v call).controller.stage ≡ v.controller.stage
  stage-called (host i call) x = refl
  stage-called {v} (submits k d response r b) x = ap (λ (u : World). u.controller.stage) (not_idle v k d response r b (frame_busy x))
  stage-called {v} (acknowledges code h) x = acknowledged_stage v code (acknowledging v.controller code)
  stage-called (lends d response) x = refl
  stage-called (lends_unit i buffer) x = refl

  lent-called : {v : World} (call : Call) → InFrame T f found v → data_of f (called v call).lent ≡ data_of f v.lent
  lent-called (host i call) x = refl
  lent-called {v} (submits k d response r b) x = ap (λ (u : World). data_of f u.lent) (not_idle v k d response r b (frame_busy x))
  lent-called (acknowledges code h) x = refl
  lent-called {v} (lends d response) x = ap (λ (t : Bool). data_of f (cond t v.lent d)) (frame_kept x) ∙ by (is_submitted f.kind) refl
    where
      by : (t : Bool) → is_submitted f.kind ≡ t → data_of f (cond t v.lent d) ≡ data_of f v.lent
      by true e = refl
      by false e = same_data f d v.lent e
  lent-called (lends_unit i buffer) x = refl

  found-called : {v : World} (call : Call) → InFrame T f found v → is_submitted f.kind ≡ true → found_after v call found ≡ found
  found-called (host i call) x s = refl
  found-called (submits k d response r b) x s = refl
  found-called (acknowledges code h) x s = refl
  found-called (lends d response) x s = ap (λ (t : Bool). cond t found response) (frame_kept x ∙ s)
  found-called (lends_unit i buffer) x s = refl

module _ {T : Moment} (l : Capture) (v : World) (call : Call) (s : Story T l v) where
  abbrev ms : List Mark
  ms = call_marks v call

  abbrev d : List ℕ
  d = data_of l.frame v.lent

  did-alike : (st after : Station) → Alike st after → DidAt l d st → DidAt (grown l ms) d after
  did-alike st after a q =
      subst (λ (own : ℕ). Did l.frame.command d own after.unit.phase (deeds_in own (grown l ms).marks)) (sym a.own)
      (subst (λ (p : Phase). Did l.frame.command d st.unit.own p (deeds_in st.unit.own (grown l ms).marks)) (sym a.phase)
      (subst (Did l.frame.command d st.unit.own st.unit.phase) (sym (deeds-same l ms (call_idle v call) st.unit.own)) q))

  tells_alike : (ear : Listener) (st after : Station) → Alike st after → TellsAt l d ear st → TellsAt (grown l ms) d ear after
  tells_alike ear st after a q =
      subst (λ (own : ℕ). TellsBy l.frame.command d ear (acts_in (grown l ms).marks) own after.unit.phase (deeds_in own (grown l ms).marks)) (sym a.own)
      (subst (λ (p : Phase). TellsBy l.frame.command d ear (acts_in (grown l ms).marks) st.unit.own p (deeds_in st.unit.own (grown l ms).marks)) (sym a.phase)
      (subst (TellsBy l.frame.command d ear (acts_in (grown l ms).marks) st.unit.own st.unit.phase) (sym (deeds-same l ms (call_idle v call) st.unit.own))
      (subst (λ (x : List Act). TellsBy l.frame.command d ear x st.unit.own st.unit.phase (deeds_in st.unit.own l.marks)) (sym (acts-same l ms (call_idle v call))) q)))

  acted-called : Acted l d v.controller.stage v.units → Acted (grown l ms) d (called v call).controller.stage (called v call).units
  acted-called (sending_so i sender wait e was) = sending_so i sender wait (stage-called call s.frame ∙ e) (acts-same l ms (call_idle v call) ∙ was)
  acted-called (listening_so ear taken quiet e tells nobody_does) =
      listening_so ear taken quiet (stage-called call s.frame ∙ e) (pairs_all (tells_alike ear) (alike_called v call) tells)
      (λ still. acts-same l ms (call_idle v call) ∙ nobody_does (pairs_back (λ st after a q. ap is_responding (sym a.phase) ∙ q) (alike_called v call) still))

  pub story-called : Story T (grown l ms) (called v call)
  story-called =
      let same : data_of l.frame (called v call).lent ≡ d = lent-called call s.frame in
      record {
        found = found_after v call s.found;
        frame = in_frame_called call s.frame;
        kept = λ e. found-called call s.frame e ∙ s.kept e;
        lent = same ∙ s.lent;
        did = subst (λ (x : List ℕ). All (DidAt (grown l ms) x) (called v call).units) (sym same) (pairs_all did-alike (alike_called v call) s.did);
        acted = subst (λ (x : List ℕ). Acted (grown l ms) x (called v call).controller.stage (called v call).units) (sym same) (acted-called s.acted);
        moments = λ own y t. subst (Has (settled y)) (sym (deeds-same l ms (call_idle v call) own)) (s.moments own y t);
      }

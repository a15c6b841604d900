-- A frame's log while the controller listens and nobody responds.
use Prim.Native.Nat.{ℕ}
use mathlib.Core.Path.{◌≡◌, refl, sym, ◌∙◌, ap, subst}
use mathlib.Core.Bool.{Bool, true, false, cond}
use mathlib.Core.List.{List, [], ◌∷◌, ◌++◌, append-nil, map}
use Rattle.bus.specs.declared.Station.{Station}
use Rattle.controller.specs.Controller.{event_in, event_after}
use Rattle.controller.specs.declared.Controller.{Controller}
use Rattle.frame.specs.Frame.{data_of, is_submitted, over}
use Rattle.frame.specs.declared.Stage.TheVariants.{Listening, Resting}
use Rattle.header.specs.declared.Command.{Command}
use Rattle.inside.specs.Inside.{inside_of}
use Rattle.line.specs.Line.{hear_of}
use Rattle.line.specs.declared.Lines.{Lines}
use Rattle.phase.specs.declared.Phase.{Phase}
use Rattle.ring.specs.declared.Ring.{Ring}
use Rattle.delivery.specs.Run.{codes_of}
use Rattle.delivery.specs.Lists.{All}
use Rattle.delivery.specs.Log.{Act, heard, told, acts, ended_by, Capture, acts_in, deeds_in, sent}
use Rattle.delivery.proofs.Promised.{Moment}
use Rattle.delivery.proofs.Stages.{Sits, Sound, InFrame, is_responding, Framed, world, Finishes, moved_in, waits, Hushed}
use Rattle.delivery.specs.World.{World, Busy, levels, round, Different}
use Rattle.delivery.proofs.Deeds.{Did, sits-did, Hush, nibbles_for}
use Rattle.delivery.proofs.EveryRound.{in_frame_nibble, in_frame_low}
use Rattle.delivery.proofs.Frame.{control, own_kept}
use Rattle.delivery.proofs.Lists.{all_map, all_zip, all_becomes}
use Rattle.delivery.proofs.Story.{DidAt, Acted, listening_so, later_of, acts-now, did-now, not_answering, step_in}
use Rattle.delivery.specs.Demand2.{event_told, end_by, Ended, nobody}
use Rattle.delivery.proofs.Completed.{tells_so, all_codes, hush-hushes, hush-part}
use Rattle.frame.specs.declared.Moved.{Moved}
use Rattle.answer.specs.Answer.{nothing_taken}
use Rattle.delivery.proofs.Listening.{still-hsk, units-sit}
use Rattle.delivery.proofs.Listened.{listening-next}
use Rattle.line.specs.declared.Listener.TheVariants.{Ready}
use Rattle.delivery.specs.Calls.{in_frame}

module _
    {T : Moment} (l : Capture) {found : List ℕ} (quiet timeout : ℕ) (ring : Ring) (units : List Station) (lent : List ℕ) (framed : Framed l.frame lent found timeout)
    (different : Different units) (a : All (λ (st : Station). Sits st × Sound st) units) (why : All (Hushed T l.frame.command (data_of l.frame lent)) units) (busy : Busy)
    (did : All (DidAt l (data_of l.frame lent)) units) (so_far : acts_in l.marks ≡ map sent (nibbles_for l.frame.command (data_of l.frame lent)))
  where
    abbrev c : Command
    c = l.frame.command

    abbrev d : List ℕ
    d = data_of l.frame lent

    abbrev v : World
    v = world timeout (Listening l.frame Ready nothing_taken quiet) ring units lent found

    x : InFrame T l.frame found v
    x = waits quiet framed different a why

    abbrev seen : Lines
    seen = levels v

    abbrev later : Capture
    later = later_of l v busy

    abbrev told-now : Act
    told-now = told (event_in v.controller seen busy.here lent) (cond (is_submitted l.frame.kind) (round v busy).response [])

    high : seen.hsk ≡ false
    high = still-hsk Ready 0 units a

    -- Nothing is heard.
    waits-acts : acts_in later.marks ≡ acts_in l.marks ++ acts_in (ended_by (round v busy).controller.stage told-now)
    waits-acts =
        acts-now l v busy different (in_frame_low x)
        ∙ ap (λ (y : List Act). acts_in l.marks ++ y) (ap (λ (b : Bool). acts_in (cond b (acts (heard seen.nibble) ∷ []) [] ++ ended_by (round v busy).controller.stage told-now)) high)

    pub waits-did : All (DidAt later d) (round v busy).units
    waits-did =
        all_becomes seen busy.there (λ st host b p.
        did-now l v busy different (in_frame_low x) b (own_kept st seen host) d (sits-did c d (step_in l x st host p.0.1) (deeds_in st.unit.own l.marks) p.0.0.0 p.1)) (all_zip a did)

    pub waits-acted : in_frame (round v busy).controller.stage ≡ true → Acted later d (round v busy).controller.stage (round v busy).units
    waits-acted going =
        let stage = ap (λ (y : Controller). y.stage) (control v.controller seen busy.here lent found (in_frame_nibble x) framed.fits refl) in
        let next = listening-next l.frame Ready nothing_taken quiet timeout seen busy.here (sym (ap in_frame stage) ∙ going) in
        let at = stage ∙ next.2 in
        let now : acts_in later.marks ≡ map sent (nibbles_for c d) = waits-acts ∙ (λ k. acts_in l.marks ++ acts_in (ended_by (at k) told-now)) ∙ append-nil (acts_in l.marks) ∙ so_far in
        listening_so (hear_of Ready seen.hsk busy.here) next.0 next.1 at
        (all_map (λ st p r j s answers. absurd (not_answering (ap is_responding p.0.0) answers)) (units-sit Ready busy.there units a)) (λ still. now)

    -- The time-out.
    abbrev ended : Capture
    ended = record { frame = l.frame; lent = d; found = l.found; marks = later.marks }

    pub waits-complete : (is_submitted l.frame.kind ≡ true → found ≡ l.found) → Finishes v busy → moved_in v busy ≡ over l.frame nothing_taken → (round v busy).response ≡ found → Ended (codes_of (round v busy).units) ended
    waits-complete kept fin m b =
        let stage : (round v busy).controller.stage ≡ Resting true = ap (λ (q : Controller). q.stage) fin ∙ ap (λ (q : Moved). q.stage) m in
        let event : event_in v.controller seen busy.here lent ≡ event_told l.frame.kind l.frame.command.device 0xFF 0 = ap (λ (q : Moved). event_after q.end) m ∙ tells_so l.frame 0xFF 0 in
        let end : told-now ≡ end_by ended nobody =
        (λ i. told (event i) (cond (is_submitted l.frame.kind) (b i) [])) ∙ ap (told (event_told l.frame.kind l.frame.command.device 0xFF 0))
        (buffer-by (is_submitted l.frame.kind) refl) in
        record {
          answerer = nobody;
          acted = waits-acts ∙ (λ i. so_far i ++ acts_in (ended_by (stage i) (end i)));
          answers = all_codes (all_map (λ st p. hush-hushes ended st.unit.own p.1) hushed);
          parts = all_codes (all_map (λ st p. hush-part ended st.unit.own (inside_of st) p.1) hushed);
        }
      where
        buffer-by : (t : Bool) → is_submitted l.frame.kind ≡ t → cond t found [] ≡ cond t l.found []
        buffer-by true s = kept s
        buffer-by false s = refl

        hushed : All (λ (st : Station). (Sits st × Sound st) × Hush c d st.unit.own (deeds_in st.unit.own later.marks)) (round v busy).units
        hushed = all_map (λ st p. (p.0, subst (λ (y : Phase). Did c d st.unit.own y (deeds_in st.unit.own later.marks)) p.0.0.0 p.1)) (all_zip (units-sit Ready busy.there units a) waits-did)

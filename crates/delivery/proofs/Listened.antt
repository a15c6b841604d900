-- A frame's log while the controller listens.
use Prim.Native.Nat.{ℕ, ◌+◌, ◌/◌}
use mathlib.Core.Path.{◌≡◌, refl, sym, ◌∙◌, ap, subst}
use mathlib.Core.Bool.{Bool, true, false, cond, ◌||◌, true≢false, false≢true}
use mathlib.Core.List.{List, [], ◌∷◌, ◌++◌, append-nil, append_assoc, map}
use lib.ListN.{length, drop}
use Rattle.answer.specs.Answer.{taken_with}
use Rattle.answer.specs.declared.Response.{Response}
use Rattle.bus.specs.Bus.{station_step, units_after, is_odd}
use Rattle.bus.specs.declared.Station.{Station}
use Rattle.controller.specs.Controller.{event_in, event_after}
use Rattle.controller.specs.declared.Controller.{Controller}
use Rattle.frame.specs.Frame.{data_of, is_submitted, stays, over, ends, quiet_after, listening_step, lent_to}
use Rattle.frame.specs.declared.Frame.{Frame}
use Rattle.frame.specs.declared.Stage.TheVariants.{Listening, Resting}
use Rattle.header.specs.declared.Command.{Command}
use Rattle.inside.specs.Inside.{Inside, inside_of, data_in, reply_for}
use Rattle.line.specs.Line.{hear_of, taken_of, listener_hsk}
use Rattle.line.specs.declared.Lines.{Lines}
use Rattle.line.specs.declared.Listener.{Listener}
use Rattle.phase.specs.declared.Phase.{Phase}
use Rattle.ring.specs.declared.Ring.{Ring}
use Rattle.serial.specs.declared.Reply.{Reply}
use Rattle.unit.specs.Unit.{pulls_hsk, pulls_nibble}
use Rattle.delivery.specs.Run.{codes_of}
use Rattle.delivery.specs.Lists.{All, none, also, One, this, that, Has, there}
use Rattle.delivery.specs.Log.{Act, heard, told, Deed, settled, Mark, acts, deeds_by, ended_by, Capture, acts_in, deeds_in, sent, took, spoke, done}
use Rattle.delivery.proofs.Moves.{Becomes, in_front, behind}
use Rattle.delivery.proofs.Promised.{Moment, Promised}
use Rattle.delivery.proofs.Stages.{Sits, Sound, Talk, InFrame, hears, is_responding, Speaking, Framed, world}
use Rattle.delivery.specs.World.{World, Busy, levels, round, Different}
use Rattle.delivery.proofs.Deeds.{answer_for, Stands, Did, sits-did, Hush, nibbles_for}
use Rattle.delivery.proofs.EveryRound.{in_frame_nibble, in_frame_low}
use Rattle.delivery.proofs.Frame.{talk_responds, control, own_kept}
use Rattle.delivery.proofs.Lists.{all_map, all_zip, all_becomes, one_all}
use Rattle.delivery.proofs.Listening.{hearing as lines, one_seen, talk_nibble, sits_step}
use Rattle.delivery.proofs.Spoken.{count, hearing, HeardOf, Spoken, goes_on, is_done, Speech, talk-spoken, only, took_no, spoke_no, settled_first}
use Rattle.delivery.proofs.Story.{DidAt, TellsBy, TellsAt, Still, Acted, listening_so, later_of, acts-now, did-now, tells-now, not_answering, answers_at, stands_has, step_in, deeds-now}
use Rattle.answer.specs.declared.Response.TheVariants.{Complete as Whole}
use Rattle.reply.specs.Reply.{is_silent, reply_status}
use Rattle.whole.specs.Back.{received}
use Rattle.delivery.specs.Demand2.{event_told, unit, acts_of, end_by, Ended}
use Rattle.delivery.proofs.Stages.{addressed, Finishes, moved_in, Spoke, spoke as spoke-it, answer_data}
use Rattle.delivery.proofs.Completed.{tells_so, codes-after, all_codes, one_codes, one_both, one_zip, has_one, hush-hushes, hush-part, spoken-has, spoken-part}
use Rattle.delivery.proofs.Listening.{Seen}
use Rattle.frame.specs.declared.Moved.{Moved}
use Rattle.delivery.specs.Calls.{in_frame}

-- While the controller listens: it goes on to, or the frame ends.
pub listening-next : (f : Frame) (ear : Listener) (taken : Response) (quiet timeout : ℕ) (seen : Lines) (host : Bool) → in_frame (listening_step f ear taken quiet timeout seen host).stage ≡ true
    → (taken' : Response) × (quiet' : ℕ) × ((listening_step f ear taken quiet timeout seen host).stage ≡ Listening f (hear_of ear seen.hsk host) taken' quiet')
listening-next f ear taken quiet timeout seen host = by (taken_of ear seen.hsk) (ends (hear_of ear seen.hsk host) taken timeout (quiet_after quiet seen.hsk)) refl refl
  where
    by : (t u : Bool) → taken_of ear seen.hsk ≡ t → ends (hear_of ear seen.hsk host) taken timeout (quiet_after quiet seen.hsk) ≡ u → in_frame (listening_step f ear taken quiet timeout seen host).stage ≡ true
        → (taken' : Response) × (quiet' : ℕ) × ((listening_step f ear taken quiet timeout seen host).stage ≡ Listening f (hear_of ear seen.hsk host) taken' quiet')
    by true u e g h = (taken_with taken seen.nibble f.command.buffer_length, 0, rw e)
    by false true e g h =
        absurd (false≢true ((λ k. in_frame (cond (sym e k) (stays (Listening f (hear_of ear seen.hsk host) (taken_with taken seen.nibble f.command.buffer_length) 0))
        (cond (sym g k) (over f taken) (stays (Listening f (hear_of ear seen.hsk host) taken (quiet_after quiet seen.hsk))))).stage) ∙ h))
    by false false e g h = (taken, quiet_after quiet seen.hsk, rw (e, g))

heard_acts : (t : Bool) (n : ℕ) (rest : List Mark) → acts_in (cond t (acts (heard n) ∷ []) [] ++ rest) ≡ cond t (heard n ∷ []) [] ++ acts_in rest
heard_acts true n rest = refl
heard_acts false n rest = refl

-- Both stand at the same moment.
pub same_given : {c : Command} {d : List ℕ} {own : ℕ} {r r' : Reply} {j j' : ℕ} {e : List Deed} (s : Stands c d own r j e) (s' : Stands c d own r' j' e) → s'.given ≡ s.given
same_given s s' = only s s'.given (stands_has s')

pub becomes_after : {P : Station → Type 0} {seen : Lines} {hosts : ℕ} {ss : List Station} {st after : Station} → Becomes seen hosts ss st after → All P (units_after seen hosts ss) → P after
becomes_after in_front (also p a) = p
becomes_after (behind b) (also p a) = becomes_after b a

spoke_done_no : {y : Inside} (xs : List ℕ) → Has (settled y) (map spoke xs ++ (done ∷ [])) → ⊥
spoke_done_no [] (there h) = spoke_no [] h
spoke_done_no (n ∷ xs) (there h) = spoke_done_no xs h

-- A unit while the controller listens.
pub data Role (T : Moment) (c : Command) (d : List ℕ) (stores : Bool) (found : List ℕ) (ear : Listener) (taken : Response) (quiet : ℕ) (buffer : List ℕ) (seen : Lines) (st : Station) : Type 0 where
  talking : Talk T c d stores found ear taken quiet buffer st → seen.hsk ≡ (listener_hsk ear || pulls_hsk st.unit.phase) → seen.nibble ≡ pulls_nibble st.unit.phase → Role T c d stores found ear taken quiet buffer seen st
  sitting : Sits st → Role T c d stores found ear taken quiet buffer seen st

pub all_becoming : (seen : Lines) (hosts : ℕ) (ss : List Station) → All (λ (st : Station). (host : Bool) × (Becomes seen hosts ss st (station_step st seen host))) ss
all_becoming seen hosts [] = none
all_becoming seen hosts (st ∷ ss) = also (is_odd hosts, in_front) (all_map (λ x p. (p.0, behind p.1)) (all_becoming seen (hosts / 2) ss))

-- What is known of the log while a frame runs.
pub record Known (T : Moment) (l : Capture) (d : List ℕ) (ear : Listener) (units : List Station) : Type 0 where
  pub did : All (DidAt l d) units
  pub tells : All (TellsAt l d ear) units
  pub moments : (own : ℕ) (y : Inside) → T own y → Has (settled y) (deeds_in own l.marks)

module _
    {T : Moment} (l : Capture) {found : List ℕ} (ear : Listener) (taken : Response) (quiet timeout : ℕ) (ring : Ring) (units : List Station) (lent response : List ℕ)
    (framed : Framed l.frame lent found timeout) (different : Different units) (long : length response ≡ length found)
    (o : One (λ (st : Station). Talk T l.frame.command (data_of l.frame lent) (is_submitted l.frame.kind) found ear taken quiet response st × Sound st) (λ (st : Station). Sits st × Sound st) units)
    (busy : Busy) (known : Known T l (data_of l.frame lent) ear units)
  where
    abbrev c : Command
    c = l.frame.command

    abbrev d : List ℕ
    d = data_of l.frame lent

    abbrev v : World
    v = world timeout (Listening l.frame ear taken quiet) ring units lent response

    x : InFrame T l.frame found v
    x = hears ear taken quiet framed different long o

    abbrev seen : Lines
    seen = levels v

    abbrev ear' : Listener
    ear' = hear_of ear seen.hsk busy.here

    abbrev later : Capture
    later = later_of l v busy

    abbrev RoleOf : Station → Type 0
    RoleOf st = Role T c d (is_submitted l.frame.kind) found ear taken quiet response seen st × Sound st

    roles : All RoleOf units
    roles = one_all (λ st p. (talking p.0.0 p.1.0 p.1.1, p.0.1)) (λ st p. (sitting p.0, p.1)) (one_seen (lines ear) refl (λ st p. talk_nibble p.0) o)

    pub frame-acts : acts_in later.marks ≡ acts_in l.marks ++
        (hearing ear seen ++ acts_in (ended_by (round v busy).controller.stage (told (event_in v.controller seen busy.here lent) (cond (is_submitted l.frame.kind) (round v busy).response []))))
    frame-acts =
        acts-now l v busy different (in_frame_low x)
        ∙ ap (λ (y : List Act). acts_in l.marks ++ y)
        (heard_acts (taken_of ear seen.hsk) seen.nibble (ended_by (round v busy).controller.stage (told (event_in v.controller seen busy.here lent) (cond (is_submitted l.frame.kind) (round v busy).response []))))

    -- What the unit that responds does.
    module _ (st : Station) (host : Bool) (sound : Sound st) where
      abbrev e : List Deed
      e = deeds_in st.unit.own l.marks

      abbrev newly : List Deed
      newly = deeds_by st.unit.phase (station_step st seen host).unit.phase (inside_of st) seen

      abbrev SpeechOf : Type 0
      SpeechOf = Speech c d st.unit.own (station_step st seen host).unit.phase ear' (e ++ newly) (acts_in l.marks ++ hearing ear seen)

      speech : Talk T c d (is_submitted l.frame.kind) found ear taken quiet response st → seen.hsk ≡ (listener_hsk ear || pulls_hsk st.unit.phase)
          → seen.nibble ≡ pulls_nibble st.unit.phase → DidAt l d st → TellsAt l d ear st → SpeechOf
      speech t h n did tells = talk-spoken T c d (step_in l x st host sound) busy.here e (acts_in l.marks) ear t h n did (known.moments st.unit.own) tells

      -- It goes on to.
      spoken-did : is_responding (station_step st seen host).unit.phase ≡ true → SpeechOf → Did c d st.unit.own (station_step st seen host).unit.phase (e ++ newly)
      spoken-did going s = by s.spoken
        where
          by : Spoken c d st.unit.own s.reply s.given (station_step st seen host).unit.phase ear' (e ++ newly) (acts_in l.marks ++ hearing ear seen) → Did c d st.unit.own (station_step st seen host).unit.phase (e ++ newly)
          by (goes_on j sender wait p n q a) =
              subst (λ (y : Phase). Did c d st.unit.own y (e ++ newly)) (sym p) (record { given = s.given; meant = s.meant; said = s.said; deeds = q }, s.speaks)
          by (is_done p q a) = absurd (true≢false (sym going ∙ ap is_responding p))

      spoken-tells : is_responding (station_step st seen host).unit.phase ≡ true → SpeechOf → TellsBy c d ear' (acts_in l.marks ++ hearing ear seen) st.unit.own (station_step st seen host).unit.phase (e ++ newly)
      spoken-tells going s r j s' answers = by s.spoken
        where
          by : Spoken c d st.unit.own s.reply s.given (station_step st seen host).unit.phase ear' (e ++ newly) (acts_in l.marks ++ hearing ear seen)
              → HeardOf c d (answer_for c d st.unit.own s'.given) (j + count ear') (acts_in l.marks ++ hearing ear seen)
          by (goes_on k sender wait p n q a) =
              let mine : Stands c d st.unit.own s.reply k (e ++ newly) = record { given = s.given; meant = s.meant; said = s.said; deeds = q } in
              let same = same_given mine s' in
              let at = answers_at p answers in
              subst (λ (y : Inside). HeardOf c d (answer_for c d st.unit.own y) (j + count ear') (acts_in l.marks ++ hearing ear seen)) (sym same)
              (subst (λ (n : ℕ). HeardOf c d (answer_for c d st.unit.own s.given) (n + count ear') (acts_in l.marks ++ hearing ear seen)) (sym at) a)
          by (is_done p q a) = absurd (true≢false (sym going ∙ ap is_responding p))

    -- Each goes on in its role.
    module _ (speaking : Speaking v busy) where
      role-did : (st : Station) (host : Bool) → Becomes seen busy.there units st (station_step st seen host) → RoleOf st → DidAt l d st → TellsAt l d ear st
          → Did c d st.unit.own (station_step st seen host).unit.phase (deeds_in st.unit.own l.marks ++ deeds_by st.unit.phase (station_step st seen host).unit.phase (inside_of st) seen)
      role-did st host b (talking t h n, s) did tells = spoken-did st host s (speaking st (station_step st seen host) b (talk_responds t)) (speech st host s t h n did tells)
      role-did st host b (sitting q, s) did tells = sits-did c d (step_in l x st host s) (deeds_in st.unit.own l.marks) q.0 did

      role-tells : (st : Station) (host : Bool) → Becomes seen busy.there units st (station_step st seen host) → RoleOf st → DidAt l d st → TellsAt l d ear st
          → TellsBy c d ear' (acts_in l.marks ++ hearing ear seen) st.unit.own (station_step st seen host).unit.phase (deeds_in st.unit.own l.marks ++ deeds_by st.unit.phase (station_step st seen host).unit.phase (inside_of st) seen)
      role-tells st host b (talking t h n, s) did tells = spoken-tells st host s (speaking st (station_step st seen host) b (talk_responds t)) (speech st host s t h n did tells)
      role-tells st host b (sitting q, s) did tells = λ r j k answers. absurd (not_answering (ap is_responding (sits_step seen (in_frame_low x) (in_frame_nibble x) st host (q, s)).0.0) answers)

      abbrev facts : All (λ (st : Station). (RoleOf st × DidAt l d st) × TellsAt l d ear st) units
      facts = all_zip (all_zip roles known.did) known.tells

      pub hears-did : All (DidAt later d) (round v busy).units
      hears-did = all_becomes seen busy.there (λ st host b p. did-now l v busy different (in_frame_low x) b (own_kept st seen host) d (role-did st host b p.0.0 p.0.1 p.1)) facts

      pub hears-acted : in_frame (round v busy).controller.stage ≡ true → Acted later d (round v busy).controller.stage (round v busy).units
      hears-acted going =
          let stage = ap (λ (y : Controller). y.stage) (control v.controller seen busy.here lent response (in_frame_nibble x) (ap (lent_to l.frame (length lent)) long ∙ framed.fits) refl) in
          let next = listening-next l.frame ear taken quiet timeout seen busy.here (sym (ap in_frame stage) ∙ going) in
          let at = stage ∙ next.2 in
          let now : acts_in later.marks ≡ acts_in l.marks ++ hearing ear seen =
          frame-acts ∙ (λ k. acts_in l.marks ++ (hearing ear seen ++ acts_in (ended_by (at k) (told (event_in v.controller seen busy.here lent) (cond (is_submitted l.frame.kind) (round v busy).response [])))))
          ∙ ap (λ (y : List Act). acts_in l.marks ++ y) (append-nil (hearing ear seen)) in
          listening_so ear' next.0 next.1 at
          (all_becomes seen busy.there (λ st host b p. tells-now l v busy different (in_frame_low x) b (own_kept st seen host) d ear' now (role-tells st host b p.0.0 p.0.1 p.1)) facts)
          (λ still. absurd (nobody-still still))
        where
          nobody-still : All Still (round v busy).units → ⊥
          nobody-still still = by o (all_becoming seen busy.there units)
            where
              by : {ss : List Station}
                  → One (λ (st : Station). Talk T c d (is_submitted l.frame.kind) found ear taken quiet response st × Sound st) (λ (st : Station). Sits st × Sound st) ss
                  → All (λ (st : Station). (host : Bool) × (Becomes seen busy.there units st (station_step st seen host))) ss → ⊥
              by (this {x = st} p a) (also b bs) = true≢false (sym (speaking st (station_step st seen b.0) b.1 (talk_responds p.0)) ∙ becomes_after b.1 still)
              by (that q more) (also b bs) = by more bs

    -- The frame ends answered: the one unit that responded has done its part, the others have sat out.
    abbrev ended : Capture
    ended = record { frame = l.frame; lent = d; found = l.found; marks = later.marks }

    record DoneAt (own : ℕ) (y : Inside) (st : Station) : Type 0 where
      code : st.unit.own ≡ own
      responding : is_responding st.unit.phase ≡ true
      meant : addressed c st.unit.own ≡ true
      defined : is_silent (reply_for st.unit.own y c d) ≡ false
      deeds : deeds_in st.unit.own later.marks ≡ map took (nibbles_for c d) ++ (settled y ∷ (map spoke (answer_for c d st.unit.own y) ++ (done ∷ [])))
      heards : acts_in l.marks ++ hearing ear seen ≡ map sent (nibbles_for c d) ++ map heard (answer_for c d st.unit.own y)

    abbrev HushAt : Station → Type 0
    HushAt st = Still st × Hush c d st.unit.own (deeds_in st.unit.own later.marks)

    abbrev MovedAt : Station → Type 0
    MovedAt st = ((host : Bool) × (Becomes seen busy.there units st (station_step st seen host))) × (DidAt l d st × TellsAt l d ear st)

    module _ (still : All Still (round v busy).units) where
      hush-at : (st : Station) → Sits st → MovedAt st → HushAt st
      hush-at st q m = (
        ap is_responding q.0,
        subst (Hush c d st.unit.own) (sym (deeds-now l v busy different (in_frame_low x) m.0.1 ∙ ap (λ (y : List Deed). deeds_in st.unit.own l.marks ++ y)
            (ap (λ (y : Phase). deeds_by y (station_step st seen m.0.0).unit.phase (inside_of st) seen) q.0) ∙ append-nil (deeds_in st.unit.own l.marks)))
            (subst (λ (y : Phase). Did c d st.unit.own y (deeds_in st.unit.own l.marks)) q.0 m.1.0),
      )

      done_at : (st : Station) → Talk T c d (is_submitted l.frame.kind) found ear taken quiet response st → Sound st → seen.hsk ≡ (listener_hsk ear || pulls_hsk st.unit.phase)
          → seen.nibble ≡ pulls_nibble st.unit.phase → MovedAt st → (y : Inside) × DoneAt st.unit.own y st
      done_at st t sound h n m = by (speech st m.0.0 sound t h n m.1.0 m.1.1)
        where
          by : SpeechOf st m.0.0 sound → (y : Inside) × DoneAt st.unit.own y st
          by s = at s.spoken
            where
              at : Spoken c d st.unit.own s.reply s.given (station_step st seen m.0.0).unit.phase ear'
                  (deeds_in st.unit.own l.marks ++ deeds_by st.unit.phase (station_step st seen m.0.0).unit.phase (inside_of st) seen)
                  (acts_in l.marks ++ hearing ear seen) → (y : Inside) × DoneAt st.unit.own y st
              at (goes_on j sender wait p k q a) = absurd (true≢false (sym (ap is_responding p) ∙ becomes_after m.0.1 still))
              at (is_done p q a) = (
                s.given,
                record {
                  code = refl;
                  responding = talk_responds t;
                  meant = s.meant;
                  defined = sym (ap is_silent s.said)
                      ∙ s.speaks;
                  deeds = deeds-now l v busy different (in_frame_low x) m.0.1 ∙ q;
                  heards = a;
                },
              )

      all_done : {ss : List Station}
          → One (λ (st : Station). ((Talk T c d (is_submitted l.frame.kind) found ear taken quiet response st × Sound st) × Seen seen (listener_hsk ear) st) × MovedAt st) (λ (st : Station). (Sits st × Sound st) × MovedAt st) ss
          → (own : ℕ) × (y : Inside) × One (DoneAt own y) HushAt ss
      all_done (this {x = st} p a) = let k = done_at st p.0.0.0 p.0.0.1 p.0.1.0 p.0.1.1 p.1 in (st.unit.own, k.0, this k.1 (all_map (λ z q. hush-at z q.0.0 q.1) a))
      all_done (that {x = st} q o) = let k = all_done o in (k.0, k.1, that (hush-at st q.0.0 q.1) k.2)

      who-answered : (own : ℕ) × (y : Inside) × One (DoneAt own y) HushAt units
      who-answered = all_done (one_zip (one_seen (lines ear) refl (λ st p. talk_nibble p.0) o) (all_zip (all_becoming seen busy.there units) (all_zip known.did known.tells)))

      -- What the round that ends it tells.
      module _ {T' : Moment} (moments : (own : ℕ) (y : Inside) → T' own y → Has (settled y) (deeds_in own later.marks)) (kept : is_submitted l.frame.kind ≡ true → found ≡ l.found) (fin : Finishes v busy) where
        abbrev told-now : Act
        told-now = told (event_in v.controller seen busy.here lent) (cond (is_submitted l.frame.kind) (round v busy).response [])

        spoke-data : {own : ℕ} {y : Inside} (st : Station) (r : Reply) → DoneAt own y st → (p : Promised T' st.unit.own c d r (inside_of st)) → (p.given ≡ y) × (r ≡ reply_for own y c d)
        spoke-data {own} {y} st r k p =
            let same : p.given ≡ y = settled_first (took_no (nibbles_for c d) (subst (Has (settled p.given)) k.deeds (moments st.unit.own p.given p.took))) (spoke_done_no (answer_for c d st.unit.own y)) in
            (same, p.said ∙ (λ i. reply_for (k.code i) (same i) c d))

        buffer-by : (t : Bool) (f e : List ℕ) → is_submitted l.frame.kind ≡ t → f ≡ found → cond t (received t e f) [] ≡ cond t (e ++ drop (length e) l.found) []
        buffer-by true f e s z = ap (λ (b : List ℕ). e ++ drop (length e) b) (z ∙ kept s)
        buffer-by false f e s z = refl

        spoke-end : {own : ℕ} {y : Inside} (st : Station) (r : Reply) → DoneAt own y st → (p : Promised T' st.unit.own c d r (inside_of st))
            → moved_in v busy ≡ over l.frame (Whole (reply_status r) (length (answer_data p))) → (round v busy).response ≡ received (is_submitted l.frame.kind) (answer_data p) found
            → acts_in later.marks ≡ acts_of ended (unit own y)
        spoke-end {own} {y} st r k p m b =
            let same = spoke-data st r k p in
            let stage : (round v busy).controller.stage ≡ Resting true = ap (λ (q : Controller). q.stage) fin ∙ ap (λ (q : Moved). q.stage) m in
            let event : event_in v.controller seen busy.here lent ≡ event_told l.frame.kind l.frame.command.device (reply_status r) (length (answer_data p)) =
            ap (λ (q : Moved). event_after q.end) m ∙ tells_so l.frame (reply_status r) (length (answer_data p)) in
            let end : told-now ≡ told (event_told l.frame.kind l.frame.command.device (reply_status r) (length (answer_data p))) (cond (is_submitted l.frame.kind) (answer_data p ++ drop (length (answer_data p)) l.found) []) =
            (λ i. told (event i) (cond (is_submitted l.frame.kind) (b i) [])) ∙ ap
            (told (event_told l.frame.kind l.frame.command.device (reply_status r) (length (answer_data p))))
            (buffer-by (is_submitted l.frame.kind) found (answer_data p) refl refl) in
            let its : told (event_told l.frame.kind l.frame.command.device (reply_status r) (length (answer_data p))) (cond (is_submitted l.frame.kind) (answer_data p ++ drop (length (answer_data p)) l.found) []) ≡ end_by ended (unit own y) =
            λ i. told (event_told l.frame.kind l.frame.command.device (reply_status (same.1 i)) (length (data_in (same.0 i) (same.1 i))))
            (cond (is_submitted l.frame.kind) (data_in (same.0 i) (same.1 i) ++ drop (length (data_in (same.0 i) (same.1 i))) l.found) []) in
            let heards : acts_in l.marks ++ hearing ear seen ≡ map sent (nibbles_for c d) ++ map heard (answer_for c d own y) = k.heards ∙ ap (λ (n : ℕ). map sent (nibbles_for c d) ++ map heard (answer_for c d n y)) k.code in
            frame-acts
            ∙ (λ i. acts_in l.marks ++ (hearing ear seen ++ acts_in (ended_by (stage i) ((end ∙ its) i))))
            ∙ sym (append_assoc (acts_in l.marks) (hearing ear seen) (end_by ended (unit own y) ∷ []))
            ∙ ap (λ (a : List Act). a ++ (end_by ended (unit own y) ∷ [])) heards
            ∙ append_assoc (map sent (nibbles_for c d)) (map heard (answer_for c d own y)) (end_by ended (unit own y) ∷ [])

        end_of : {own : ℕ} {y : Inside} {ss : List Station} → One (DoneAt own y) HushAt units
            → One (λ (st : Station). Spoke T' l.frame d found (moved_in v busy) (round v busy).response units st × Sound st) (λ (st : Station). Sits st × Sound st) ss
            → acts_in later.marks ≡ acts_of ended (unit own y)
        end_of k (this (spoke-it r j sender before has z own m p e b inside sits, s) a) = spoke-end before r (has_one k has (λ q. true≢false (sym (ap is_responding z) ∙ q.0))) p e b
        end_of k (that q o) = end_of k o

        pub hears-complete : One (λ (st : Station). Spoke T' l.frame d found (moved_in v busy) (round v busy).response units st × Sound st) (λ (st : Station). Sits st × Sound st) (round v busy).units
            → Ended (codes_of (round v busy).units) ended
        hears-complete spoken =
            let w = who-answered in
            subst (λ (codes : List ℕ). Ended codes ended) (sym (codes-after seen busy.there units)) (record {
              answerer = unit w.0 w.1;
              acted = end_of w.2 spoken;
              answers = one_codes (one_both (λ st k.
                  let own = k.code in
                  record {
                    named = own;
                    meant = subst (λ (n : ℕ). addressed c n ≡ true) own k.meant;
                    inside = subst (λ (n : ℕ). Has (settled w.1) (deeds_in n later.marks)) own (spoken-has ended st.unit.own w.1 (map spoke (answer_for c d st.unit.own w.1) ++ (done ∷ [])) k.deeds);
                    defined = subst (λ (n : ℕ). is_silent (reply_for n w.1 c d) ≡ false) own k.defined;
                  }) (λ st q. hush-hushes ended st.unit.own q.1) w.2);
              parts = all_codes (one_all (λ st k. (w.1, spoken-part ended st.unit.own w.1 k.meant k.defined k.deeds)) (λ st q. hush-part ended st.unit.own w.1 q.1) w.2);
            })

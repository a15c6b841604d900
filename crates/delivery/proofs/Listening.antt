-- The lines while the controller listens: the one unit that responds is seen by all.
use Prim.Native.Nat.{◌-◌, ℕ, ◌<◌, ◌≤◌}
use mathlib.Core.Path.{◌≡◌, refl, sym, ◌∙◌, ap, subst}
use mathlib.Core.Bool.{Bool, true, false, not, ◌&&◌, ◌||◌, or-false}
use mathlib.Core.List.{List, ◌∷◌}
use lib.Dec.{lit<}
use lib.ListN.{length}
use Rattle.answer.specs.declared.Response.{Response}
use Rattle.bus.specs.Bus.{levels_with, station_step, units_after}
use Rattle.bus.specs.declared.Station.{Station}
use Rattle.frame.specs.Frame.{listening_step, listening_buffer, is_submitted, stays}
use Rattle.frame.specs.declared.Frame.{Frame}
use Rattle.frame.specs.declared.Moved.{Moved}
use Rattle.frame.specs.declared.Stage.TheVariants.{Listening}
use Rattle.header.specs.declared.Command.{Command}
use Rattle.line.specs.Line.{wired, wired_nibble, listener_hsk, sender_nibble}
use Rattle.line.specs.declared.Lines.{Lines}
use Rattle.line.specs.declared.Listener.{Listener}
use Rattle.line.specs.declared.Sender.{Sender}
use Rattle.phase.specs.Phase.{phase_step}
use Rattle.phase.specs.declared.Phase.{Phase}
use Rattle.unit.specs.Unit.{pulls_of, pulls_hsk, pulls_nibble}
use Rattle.delivery.proofs.Moves.{Falls}
use Rattle.delivery.proofs.Stages.{Sits, Sound, Spoke, Talk, answer_bytes, spoke, talks}
use Rattle.delivery.specs.Ends.{phase_left, units_left}
use Rattle.delivery.proofs.Taking.{Fits, f_next, f_placed, f_holds, f_waits}
use Rattle.delivery.proofs.Promised.{Moment}
use Rattle.delivery.specs.Lists.{Has, All, none, also, One, this, that}
use Rattle.delivery.proofs.Lines.{free_wired, bav_kept, nibble-kept}
use Rattle.delivery.proofs.Lists.{one_has, one_map, all_map, all_step, one_step}
use Rattle.delivery.proofs.Part.{low_step_lem}
use Rattle.delivery.proofs.Stage.{sound_low, nibble_below}
use Rattle.delivery.proofs.Talk.{talk_left, Talked, still, done, talk-step}

-- What the controller pulls while it listens.
abbrev pub hearing : Listener → Lines
hearing ear = record { bav = true; hsk = listener_hsk ear; nibble = 15 }

sits_hsk : {st : Station} → Sits st × Sound st → pulls_hsk st.unit.phase ≡ false
sits_hsk p = ap pulls_hsk p.0.0

sits_nibble : {st : Station} → Sits st × Sound st → pulls_nibble st.unit.phase ≡ 15
sits_nibble p = ap pulls_nibble p.0.0

hsk_same : (l : Lines) {ss : List Station} → All (λ (st : Station). Sits st × Sound st) ss → (levels_with l ss).hsk ≡ l.hsk
hsk_same l none = refl
hsk_same l (also {x = st} p a) = hsk_same (wired l (pulls_of st.unit)) a ∙ ap (λ (b : Bool). l.hsk || b) (sits_hsk p) ∙ or-false l.hsk

-- The one unit, and what is seen of it.
abbrev pub Seen : Lines → Bool → Station → Type 0
Seen seen low st = (seen.hsk ≡ (low || pulls_hsk st.unit.phase)) × (seen.nibble ≡ pulls_nibble st.unit.phase)

pub one_seen : {P : Station → Type 0} (l : Lines) → l.nibble ≡ 15 → ((st : Station) → P st → pulls_nibble st.unit.phase < 16) → {ss : List Station}
    → One P (λ (st : Station). Sits st × Sound st) ss → One (λ (st : Station). P st × Seen (levels_with l ss) l.hsk st) (λ (st : Station). Sits st × Sound st) ss
one_seen l e small (this {x = st} p a) =
    let w : wired_nibble l.nibble (pulls_nibble st.unit.phase) ≡ pulls_nibble st.unit.phase =
    ap (λ (x : ℕ). wired_nibble x (pulls_nibble st.unit.phase)) e ∙ free_wired (pulls_nibble st.unit.phase) (small st p) in
    this (p, (hsk_same (wired l (pulls_of st.unit)) a, nibble-kept (wired l (pulls_of st.unit)) (rw w (small st p)) (all_map (λ x q. sits_nibble q) a) ∙ w)) a
one_seen l e small (that {x = st} {xs = ss} q o) =
    let l' = wired l (pulls_of st.unit) in
    let h : l'.hsk ≡ l.hsk = ap (λ (b : Bool). l.hsk || b) (sits_hsk q) ∙ or-false l.hsk in
    let n : l'.nibble ≡ 15 = (λ i. wired_nibble (e i) (sits_nibble q i)) in
    that q (one_map (λ x p. (p.0, (p.1.0 ∙ ap (λ (b : Bool). b || pulls_hsk x.unit.phase) h, p.1.1))) (one_seen l' n small o))

fits-nibble : {n t : ℕ} {sender : Sender} {ear : Listener} → n < 16 → Fits n sender ear t → sender_nibble sender < 16
fits-nibble h f_next = lit< tt
fits-nibble h f_placed = h
fits-nibble h f_holds = h
fits-nibble h f_waits = h

pub talk_nibble : {T : Moment} {c : Command} {d : List ℕ} {stores : Bool} {found : List ℕ} {ear : Listener} {taken : Response} {quiet : ℕ} {buffer : List ℕ} {st : Station}
    → Talk T c d stores found ear taken quiet buffer st → pulls_nibble st.unit.phase < 16
talk_nibble (talks r j t sender wait e p fits g b l w c q own) = subst (λ (x : ℕ). x < 16) (sym (ap pulls_nibble e)) (fits-nibble (nibble_below (answer_bytes p) j) fits)

-- A unit that sits out goes on to.
pub sits_step : (seen : Lines) → seen.bav ≡ true → seen.nibble < 16 → (st : Station) (busy : Bool) → Sits st × Sound st → Sits (station_step st seen busy) × Sound (station_step st seen busy)
sits_step seen low n st busy p =
    let step = low_step_lem st seen busy n p.1.room low in (
      (
        step.phase ∙ ap (λ (x : Phase). (phase_step x st.unit.own st.unit.serial seen busy st.buffer st.input).phase) p.0.0,
        step.asking ∙ ap (λ (b : Bool). b && not seen.hsk) p.0.1,
      ),
      sound_low step p.1,
    )

-- How long it takes goes by the one unit that responds.
talk_phase : {T : Moment} {c : Command} {d : List ℕ} {stores : Bool} {found : List ℕ} {ear : Listener} {taken : Response} {quiet : ℕ} {buffer : List ℕ} (st : Station) → Talk T c d stores found ear taken quiet buffer st
    → (low : Bool) → low ≡ (listener_hsk ear || pulls_hsk st.unit.phase) → (rest : ℕ) → phase_left st.unit.phase st.unit.serial.input low rest ≡ talk_left ear st
talk_phase {ear = ear} st (talks r j t sender wait e p fits g b l w c q own) low h rest =
    ap (λ (x : Bool). phase_left st.unit.phase st.unit.serial.input x rest) h
    ∙ ap (λ (x : Phase). phase_left x st.unit.serial.input (listener_hsk ear || pulls_hsk st.unit.phase) rest) e
    ∙ sym (ap (λ (x : Phase). phase_left x st.unit.serial.input (listener_hsk ear || pulls_hsk st.unit.phase) 0) e)

one_left : {P : Station → Type 0} (ear : Listener) (low : Bool) (rest : ℕ) → ((st : Station) → P st → (k : ℕ) → phase_left st.unit.phase st.unit.serial.input low k ≡ talk_left ear st) → {ss : List Station}
    → One P (λ (st : Station). Sits st × Sound st) ss → One (λ (st : Station). P st × (units_left ss low rest ≡ talk_left ear st)) (λ (st : Station). Sits st × Sound st) ss
one_left ear low rest f (this {x = st} {xs = ss} p a) = this (p, f st p (units_left ss low rest)) a
one_left ear low rest f (that {x = st} {xs = ss} q o) =
    that q (one_map (λ x p. (p.0, ap (λ (y : Phase). phase_left y st.unit.serial.input low (units_left ss low rest)) q.0.0 ∙ p.1)) (one_left ear low rest f o))

-- What is known of the rounds that the one unit's response still takes.
pub one_known : {T : Moment} {c : Command} {d : List ℕ} {stores : Bool} {found : List ℕ} {ear : Listener} {taken : Response} {quiet : ℕ} {buffer : List ℕ} (Q : ℕ → Type 0) (rest : ℕ) {ss : List Station}
    → One (λ (st : Station). (Talk T c d stores found ear taken quiet buffer st × Q (talk_left ear st)) × Sound st) (λ (st : Station). Sits st × Sound st) ss → Q (units_left ss (levels_with (hearing ear) ss).hsk rest)
one_known {T} {c} {d} {stores} {found} {ear} {taken} {quiet} {buffer} Q rest {ss} o =
    pick (one_left ear (levels_with (hearing ear) ss).hsk rest (λ st p k. talk_phase st p.0.0.0 (levels_with (hearing ear) ss).hsk p.1.0 k) (one_seen (hearing ear) refl (λ st p. talk_nibble p.0.0) o))
  where
    pick : {n : ℕ} {X : Station → Type 0} {s : List Station}
        → One (λ (st : Station). (((Talk T c d stores found ear taken quiet buffer st × Q (talk_left ear st)) × Sound st) × X st) × (n ≡ talk_left ear st)) (λ (st : Station). Sits st × Sound st) s
        → Q n
    pick (this p a) = subst Q (sym p.1) p.0.0.0.1
    pick (that q o) = pick o

-- What a round comes to while one unit responds, where its response took at most `most` rounds before.
pub data Heard' (T : Moment) (f : Frame) (d found : List ℕ) (m : Moved) (buffer : List ℕ) (free : Bool) (most : ℕ) (old ss : List Station) : Type 0 where
  goes_on :
      (ear : Listener) (taken : Response) (quiet : ℕ) → m ≡ stays (Listening f ear taken quiet)
      → One (λ (st : Station). (Talk T f.command d (is_submitted f.kind) found ear taken quiet buffer st × Falls free (talk_left ear st) most) × Sound st) (λ (st : Station). Sits st × Sound st) ss
      → Heard' T f d found m buffer free most old ss
  comes_to_its_end : One (λ (st : Station). Spoke T f d found m buffer old st × Sound st) (λ (st : Station). Sits st × Sound st) ss → Heard' T f d found m buffer free most old ss

parted : {T : Moment} {f : Frame} {d found : List ℕ} {m : Moved} {buffer : List ℕ} {free : Bool} {most : ℕ} {old ss : List Station}
    → One (λ (st : Station). ((before : Station) × (Has before old × Talked T f d found m buffer free most before st)) × Sound st) (λ (st : Station). Sits st × Sound st) ss
    → Heard' T f d found m buffer free most old ss
parted (this ((before, (has, still ear taken quiet e t n)), s) a) = goes_on ear taken quiet e (this ((t, n), s) a)
parted (this ((before, (has, done r j sender k p e b phase inside q own a)), x) all) = comes_to_its_end (this (spoke r j sender before has k own a p e b inside (phase, q), x) all)
parted (that q o) = behind q (parted o)
  where
    behind : {T : Moment} {f : Frame} {d found : List ℕ} {m : Moved} {buffer : List ℕ} {free : Bool} {most : ℕ} {old : List Station} {st : Station} {ss : List Station}
        → Sits st × Sound st → Heard' T f d found m buffer free most old ss → Heard' T f d found m buffer free most old (st ∷ ss)
    behind q (goes_on ear taken quiet e o) = goes_on ear taken quiet e (that q o)
    behind q (comes_to_its_end o) = comes_to_its_end (that q o)

module _
    (T : Moment) (f : Frame) (d found : List ℕ) (timeout : ℕ) (eight : 8 ≤ timeout) (room : f.command.buffer_length ≤ length found) (host : Bool) (hosts : ℕ) (ear : Listener)
    (taken : Response) (quiet : ℕ) (buffer : List ℕ) (ss : List Station)
    (o : One (λ (st : Station). Talk T f.command d (is_submitted f.kind) found ear taken quiet buffer st × Sound st) (λ (st : Station). Sits st × Sound st) ss)
  where
    abbrev seen : Lines
    seen = levels_with (hearing ear) ss

    known : One (λ (st : Station). (Talk T f.command d (is_submitted f.kind) found ear taken quiet buffer st × Sound st) × Seen seen (listener_hsk ear) st) (λ (st : Station). Sits st × Sound st) ss
    known = one_seen (hearing ear) refl (λ st p. talk_nibble p.0) o

    bav : seen.bav ≡ true
    bav = bav_kept (hearing ear) ss refl

    small : {s : List Station} → One (λ (st : Station). (Talk T f.command d (is_submitted f.kind) found ear taken quiet buffer st × Sound st) × Seen seen (listener_hsk ear) st) (λ (st : Station). Sits st × Sound st) s → seen.nibble < 16
    small (this p a) = subst (λ (x : ℕ). x < 16) (sym p.1.1) (talk_nibble p.0.0)
    small (that q o) = small o

    pub heard-nibble : seen.nibble < 16
    heard-nibble = small known

    abbrev most : ℕ
    most = units_left ss seen.hsk (timeout - quiet)

    counted : One (λ (st : Station). ((Talk T f.command d (is_submitted f.kind) found ear taken quiet buffer st × Sound st) × Seen seen (listener_hsk ear) st) × (most ≡ talk_left ear st)) (λ (st : Station). Sits st × Sound st) ss
    counted = one_left ear seen.hsk (timeout - quiet) (λ st p k. talk_phase st p.0.0 seen.hsk p.1.0 k) known

    pub units-heard : Heard' T f d found (listening_step f ear taken quiet timeout seen host) (listening_buffer f ear taken seen buffer) (not (listener_hsk ear && host)) most ss (units_after seen hosts ss)
    units-heard =
        parted (one_step seen (λ st busy p.
        let step = low_step_lem st seen busy heard-nibble p.0.0.0.1.room bav in (
          (
            st,
            (
              p.1,
              subst (λ (k : ℕ). Talked T f d found (listening_step f ear taken quiet timeout seen host) (listening_buffer f ear taken seen buffer) (not (listener_hsk ear && host)) k st (station_step st seen busy)) (sym p.0.1)
                  (talk-step T f d found timeout eight room st (station_step st seen busy) seen host busy step ear taken quiet buffer p.0.0.0.0 p.0.0.1.0 p.0.0.1.1),
            ),
          ),
          sound_low step p.0.0.0.1,
        )) (sits_step seen bav heard-nibble) hosts (one_has counted))

-- What a round comes to while nobody responds.
module _ (ear : Listener) (hosts : ℕ) (ss : List Station) (a : All (λ (st : Station). Sits st × Sound st) ss) where
  pub still-nibble : (levels_with (hearing ear) ss).nibble ≡ 15
  still-nibble = nibble-kept (hearing ear) (lit< tt) (all_map (λ x q. sits_nibble q) a)

  pub still-hsk : (levels_with (hearing ear) ss).hsk ≡ listener_hsk ear
  still-hsk = hsk_same (hearing ear) a

  pub units-sit : All (λ (st : Station). Sits st × Sound st) (units_after (levels_with (hearing ear) ss) hosts ss)
  units-sit = all_step (levels_with (hearing ear) ss) (sits_step (levels_with (hearing ear) ss) (bav_kept (hearing ear) ss refl) (subst (λ (x : ℕ). x < 16) (sym still-nibble) (lit< tt))) hosts a

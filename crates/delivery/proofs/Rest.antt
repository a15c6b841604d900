-- Between frames, and frame after frame: every round and every call of a run leads from one such world to the next.
use Prim.Native.Nat.{ℕ, zero, suc, ◌+◌, ◌<◌, ◌≤◌}
use native.Mathlib.Omega.{arith}
use mathlib.Core.Path.{◌≡◌, refl, sym, ◌∙◌, ap, subst}
use mathlib.Core.Bool.{Bool, true, false, cond, ◌||◌, false≢true}
use mathlib.Core.List.{List, [], ◌∷◌, ◌++◌}
use borrow.Author.Tests.{le-ltb, ltb-true}
use lib.Dec.{ltb, eqb, lit<}
use lib.ListN.{length, get_or, set, length-append}
use Rattle.answer.specs.Answer.{nothing_taken, status_of}
use Rattle.answer.specs.declared.Response.{Response}
use Rattle.answer.specs.declared.Response.TheVariants.{Complete}
use Rattle.reply.specs.Reply.{reply_status}
use Rattle.bus.specs.Bus.{levels_with, station_step, units_after}
use Rattle.bus.specs.declared.Station.{Station}
use Rattle.controller.specs.Controller.{controller_of, ring_after}
use Rattle.controller.specs.Calls.{controller_stepped, buffer_after}
use Rattle.inside.specs.Inside.{inside_of}
use Rattle.inside.specs.Lawful.{Fit}
use Rattle.kind.specs.Kinds.{kind_of, is_short}
use Rattle.frame.specs.Frame.{begun, poll_of, null_frame, over}
use Rattle.frame.specs.declared.Frame.{Frame}
use Rattle.frame.specs.declared.Kind.{Kind}
use Rattle.frame.specs.declared.Kind.TheVariants.{Submitted, Poll, Null}
use Rattle.frame.specs.declared.Moved.{Moved}
use Rattle.frame.specs.declared.Stage.{Stage}
use Rattle.frame.specs.declared.Stage.TheVariants.{Free, Resting, Waiting}
use Rattle.header.specs.Header.{InRange}
use Rattle.header.specs.declared.Command.{Command}
use Rattle.line.specs.declared.Lines.{Lines}
use Rattle.phase.specs.declared.Phase.TheVariants.{Idle}
use Rattle.ring.specs.Ring.{none as nobody-there, counted, live, ring_of, place_of, is_in, cut_at, joins, joined, removed, turned, with_mark, entry_of}
use Rattle.ring.specs.declared.Entry.{Entry}
use Rattle.ring.specs.declared.Ring.{Ring}
use Rattle.ring.proofs.Laws.{live_ring, live_below, marked_length}
use Rattle.turn.specs.Turn.{turn_of, ring_by, ring_ended}
use Rattle.unit.specs.Unit.{pulls_nibble}
use Rattle.whole.specs.Whole.{Sent}
use Rattle.delivery.proofs.Stages.{AtRest, Codes, Finishes, Framed, Fresh, Goes, InFrame, Noted, On, Sits, Sound, Spoke, answer_data, answered, begins, ended, hears, idles, is_free, is_resting, moved_in, on, rests, runs, selects, sends, spoke, submitted, unanswered, waits, world}
use Rattle.delivery.proofs.Promised.{Moment}
use Rattle.delivery.specs.Lists.{All, none, also, One, this, that}
use Rattle.delivery.specs.World.{World, Busy, round, Different}
use Rattle.delivery.proofs.Lists.{all_map, all_step, one_all}
use Rattle.delivery.proofs.Lines.{hsk_high_lem, bav_high, nibble-kept}
use Rattle.delivery.proofs.Part.{low_step_lem}
use Rattle.delivery.proofs.Stage.{sound_low}
use Rattle.delivery.proofs.Frame.{fresh_hsk, fresh_nibble, fresh_selects, frame_round, different_kept, own_kept}

codes_of_lem : (l : List Entry) → length l ≤ 16 → All (λ (e : Entry). e.code < 256) l → Codes (ring_of l)
codes_of_lem l h a = subst (All (λ (e : Entry). e.code < 256)) (sym (live_ring l h)) a

all_back {ℓ κ} : {A : Type ℓ} {P : A → Type κ} {l : List A} {x : A} → All P l → P x → All P (l ++ (x ∷ []))
all_back none p = also p none
all_back (also q a) p = also q (all_back a p)

all_set {ℓ κ} : {A : Type ℓ} {P : A → Type κ} {l : List A} (i : ℕ) (x : A) → All P l → P x → All P (set l i x)
all_set i x none p = none
all_set zero x (also q a) p = also p a
all_set (suc i) x (also q a) p = also q (all_set i x a p)

all-cut : {P : Entry → Type 0} (i : ℕ) {l : List Entry} → All P l → All P (cut_at i l)
all-cut i none = none
all-cut zero (also q a) = a
all-cut (suc i) (also q a) = also q (all-cut i a)

all-at : {P : Entry → Type 0} (i : ℕ) {l : List Entry} → All P l → P nobody-there → P (get_or l i nobody-there)
all-at i none p = p
all-at zero (also q a) p = q
all-at (suc i) (also q a) p = all-at i a p

all-turned : {P : Entry → Type 0} {l : List Entry} → All P l → All P (turned l)
all-turned none = none
all-turned (also q a) = all_back a q

pub cut_below : (i : ℕ) (l : List Entry) → length (cut_at i l) ≤ length l
cut_below i [] = omega arith
cut_below zero (e ∷ l) = omega arith
cut_below (suc i) (e ∷ l) = let h = cut_below i l in omega arith

pub turned-length : (l : List Entry) → length (turned l) ≡ length l
turned-length [] = refl
turned-length (e ∷ l) = let h : length (l ++ (e ∷ [])) ≡ length l + 1 = length-append l (e ∷ []) in omega arith

joined_by : (t : Bool) (code : ℕ) (l : List Entry) → joins code l ≡ t → code < 256 → length l ≤ 16 → All (λ (e : Entry). e.code < 256) l
    → All (λ (e : Entry). e.code < 256) (cond t (l ++ (entry_of code false ∷ [])) l)
joined_by true code l e h n a = all_back a h
joined_by false code l e h n a = a

joins-room : (a b c : Bool) → cond a false (cond b false c) ≡ true → c ≡ true
joins-room true b c e = absurd (false≢true e)
joins-room false true c e = absurd (false≢true e)
joins-room false false c e = e

pub joined_length : (t : Bool) (code : ℕ) (l : List Entry) → joins code l ≡ t → length l ≤ 16 → length (cond t (l ++ (entry_of code false ∷ [])) l) ≤ 16
joined_length true code l e h =
    let r : length l < 16 = ltb-true (length l) 16 (joins-room (eqb code 0) (is_in code l) (ltb (length l) 16) e) in
    let n : length (l ++ (entry_of code false ∷ [])) ≡ length l + 1 = length-append l (entry_of code false ∷ []) in
    omega arith
joined_length false code l e h = h

module _ (ring : Ring) (a : Codes ring) where
  codes-cond : (t : Bool) (r s : Ring) → Codes r → Codes s → Codes (cond t r s)
  codes-cond true r s p q = p
  codes-cond false r s p q = q

  codes-joined : (code : ℕ) → code < 256 → Codes (ring_of (joined code (live ring)))
  codes-joined code h = codes_of_lem (joined code (live ring)) (joined_length (joins code (live ring)) code (live ring) refl (live_below ring)) (joined_by (joins code (live ring)) code (live ring) refl h (live_below ring) a)

  codes-removed : (code : ℕ) → Codes (ring_of (removed code (live ring)))
  codes-removed code = codes_of_lem (removed code (live ring)) (let h = cut_below (place_of code (live ring)) (live ring) in let l = live_below ring in omega arith) (all-cut (place_of code (live ring)) a)

  pub codes_marked : (m : Bool) (code : ℕ) → code < 256 → Codes (ring_of (with_mark m code (live ring)))
  codes_marked m code h =
      codes_of_lem (with_mark m code (live ring)) (let n = marked_length m code (live ring) in let l = live_below ring in omega arith)
      (all_set (place_of code (live ring)) _ a (all-at {P = λ (e : Entry). e.code < 256} (place_of code (live ring)) a (omega arith)))

  codes-turned : Codes (ring_of (turned (live ring)))
  codes-turned = codes_of_lem (turned (live ring)) (let n = turned-length (live ring) in let l = live_below ring in omega arith) (all-turned a)

  codes-by : (k : Kind) (c : Command) → c.device < 256 → Codes (ring_by k ring c)
  codes-by Submitted c h =
      codes-cond (eqb c.command 0x08) (ring_of (joined c.device (live ring))) _ (codes-joined c.device h)
      (codes-cond (eqb c.command 0x09 || eqb c.command 0x01) (ring_of (removed c.device (live ring))) ring (codes-removed c.device) a)
  codes-by Poll c h = codes_marked true c.device h
  codes-by Null c h = a

  codes-ended : (f : Frame) (status : ℕ) → f.command.device < 256 → Codes (ring_ended ring f status)
  codes-ended f status h = codes-cond (eqb status 0x00) (ring_by f.kind ring f.command) ring (codes-by f.kind f.command h) a

-- A unit that no frame has reached stays so while HSK is high.
pub high_step_lem : (st : Station) (seen : Lines) (busy : Bool) → seen.nibble < 16 → is_short (kind_of st.unit.own) (length st.buffer) (length st.output) ≡ false → seen.bav ≡ false
    → ((station_step st seen busy).unit.phase ≡ Idle) × (((station_step st seen busy).buffer ≡ st.buffer) × (inside_of (station_step st seen busy) ≡ inside_of st))
high_step_lem st seen busy n room high =
    let a : ltb 15 seen.nibble ≡ false = le-ltb 15 seen.nibble (omega arith) in
    (rw (a, room, high), (rw (a, room, high), rw (a, room, high)))

sound_high : {st after : Station} → after.unit.own ≡ st.unit.own → after.buffer ≡ st.buffer → inside_of after ≡ inside_of st → Sound st → Sound after
sound_high {st} {after} o b i s = record {
  room = (λ k. is_short (kind_of (o k)) (length (b k)) (length (i k).output)) ∙ s.room;
  fit = subst (λ (own : ℕ). Fit (kind_of own) (inside_of after)) (sym o) (subst (Fit (kind_of st.unit.own)) (sym i) s.fit);
}

idle_step_lem : (seen : Lines) → seen.nibble < 16 → seen.bav ≡ false → (st : Station) (busy : Bool) → Sound st → Fresh (station_step st seen busy) × Sound (station_step st seen busy)
idle_step_lem seen n high st busy s = let h = high_step_lem st seen busy n s.room high in (idles h.0, sound_high (own_kept st seen busy) h.1.0 h.1.1 s)

fresh_by : (t : Bool) (seen : Lines) → seen.bav ≡ t → seen.nibble < 16 → seen.hsk ≡ false → (st : Station) (busy : Bool) → Fresh st × Sound st → Fresh (station_step st seen busy) × Sound (station_step st seen busy)
fresh_by true seen low n high st busy p = let s = low_step_lem st seen busy n p.1.room low in (selects (fresh_selects s high p.0), sound_low s p.1)
fresh_by false seen b n high st busy p = idle_step_lem seen n b st busy p.1

-- What the controller leaves on the lines between frames.
abbrev pub released : Lines
released = record { bav = false; hsk = false; nibble = 15 }

module _ (units : List Station) (a : All (λ (st : Station). Fresh st × Sound st) units) where
  pub rest-hsk : (levels_with released units).hsk ≡ false
  rest-hsk = hsk_high_lem released refl (all_map (λ st p. fresh_hsk p.0) a)

  pub rest-nibble : (levels_with released units).nibble < 16
  rest-nibble = subst (λ (x : ℕ). x < 16) (sym (nibble-kept released (lit< tt) (all_map (λ st p. fresh_nibble p.0) a))) (lit< tt)

  units-rest-on : (hosts : ℕ) → All (λ (st : Station). Fresh st × Sound st) (units_after (levels_with released units) hosts units)
  units-rest-on hosts = all_step (levels_with released units) (fresh_by (levels_with released units).bav (levels_with released units) refl rest-nibble rest-hsk) hosts a

-- A turn's frame is a frame, whatever is lent.
turn_framed : (e : Entry) (lent found : List ℕ) (timeout : ℕ) → e.code < 256 → 8 ≤ timeout → Framed (turn_of e) lent found timeout
turn_framed e lent found timeout h eight = by e.marked
  where
    empty : {c : Command} → InRange c → Sent c []
    empty r = record { fields = r; bytes = λ i. lit< tt; short = omega arith }

    by : (t : Bool) → Framed (cond t null_frame (poll_of e.code)) lent found timeout
    by true = record { sent = empty (record { device = lit< tt; command = lit< tt; unit = lit< tt; number = lit< tt; buffer = lit< tt }); announced = refl; room = omega arith; service = λ e. refl; fits = refl; eight = eight }
    by false = record { sent = empty (record { device = h; command = lit< tt; unit = lit< tt; number = lit< tt; buffer = lit< tt }); announced = refl; room = omega arith; service = λ e. refl; fits = refl; eight = eight }

module _ (T : Moment) (timeout : ℕ) (ring : Ring) (units : List Station) (lent response : List ℕ) (busy : Busy) (codes : Codes ring) (different : Different units) where
  abbrev unitsNext : List Station
  unitsNext = units_after (levels_with released units) busy.there units

  different' : Different unitsNext
  different' = different_kept (levels_with released units) busy.there different

  -- The world after a round between frames, from what it does to the controller.
  next-world : (stage stage' : Stage) (ring' : Ring) → controller_stepped (controller_of timeout stage ring) (levels_with released units) busy.here lent response ≡ controller_of timeout stage' ring'
      → buffer_after (controller_of timeout stage ring) (levels_with released units) busy.here lent response ≡ response
      → ◌≡◌ {A = World} (record { controller = controller_stepped (controller_of timeout stage ring) (levels_with released units) busy.here lent response; units = unitsNext; lent = lent; response = buffer_after (controller_of timeout stage ring) (levels_with released units) busy.here lent response }) (world timeout stage' ring' unitsNext lent response)
  next-world stage stage' ring' c b = λ k. record { controller = c k; units = unitsNext; lent = lent; response = b k }

  module _ (a : All (λ (st : Station). Fresh st × Sound st) units) (eight : 8 ≤ timeout) where
    nibble-fine : ltb 15 (levels_with released units).nibble ≡ false
    nibble-fine = le-ltb 15 (levels_with released units).nibble (let n = rest-nibble units a in omega arith)

    -- Idle: nothing, or a service frame begins.
    free-round : (t u : Bool) → (levels_with released units).bav ≡ t → eqb (counted ring) 0 ≡ u → On T (round (world timeout Free ring units lent response) busy)
    free-round false u b e =
        let eq : round (world timeout Free ring units lent response) busy ≡ world timeout Free ring unitsNext lent response = next-world Free Free ring (rw (nibble-fine, b)) (rw nibble-fine) in
        subst (On T) (sym eq) (rests is_free eight codes different' (units-rest-on units a busy.there))
    free-round true true b e =
        let eq : round (world timeout Free ring units lent response) busy ≡ world timeout Free ring unitsNext lent response = next-world Free Free ring (rw (nibble-fine, b, e)) (rw nibble-fine) in
        subst (On T) (sym eq) (rests is_free eight codes different' (units-rest-on units a busy.there))
    free-round true false b e =
        let f = turn_of (get_or (live ring) 0 nobody-there) in
        let eq : round (world timeout Free ring units lent response) busy ≡ world timeout (begun f) (ring_of (turned (live ring))) unitsNext lent response =
        next-world Free (begun f) (ring_of (turned (live ring))) (rw (nibble-fine, b, e)) (rw nibble-fine) in
        subst (On T) (sym eq)
        (runs f response (begins (turn_framed (get_or (live ring) 0 nobody-there) lent response timeout (all-at 0 codes (lit< tt)) eight) different' (units-rest-on units a busy.there)) (codes-turned ring codes))

    rest-round : On T (round (world timeout (Resting false) ring units lent response) busy)
    rest-round =
        let eq : round (world timeout (Resting false) ring units lent response) busy ≡ world timeout Free ring unitsNext lent response = next-world (Resting false) Free ring (rw nibble-fine) (rw nibble-fine) in
        subst (On T) (sym eq) (rests is_free eight codes different' (units-rest-on units a busy.there))

  -- A submitted command begins its frame.
  submitted-round : (f : Frame) → Framed f lent response timeout → All (λ (st : Station). Fresh st × Sound st) units → On T (round (world timeout (Waiting f) ring units lent response) busy)
  submitted-round f framed a =
      let eq : round (world timeout (Waiting f) ring units lent response) busy ≡ world timeout (begun f) ring unitsNext lent response =
      next-world (Waiting f) (begun f) ring (rw (nibble-fine a framed.eight, framed.fits)) (rw (nibble-fine a framed.eight, framed.fits)) in
      subst (On T) (sym eq) (runs f response (begins framed different' (units-rest-on units a busy.there)) codes)

  -- The first round of a rest: BAV is high, and every unit is idle.
  ended-round : 8 ≤ timeout → All (λ (st : Station). Sits st × Sound st) units → On T (round (world timeout (Resting true) ring units lent response) busy)
  ended-round eight a =
      let n : (levels_with released units).nibble ≡ 15 = nibble-kept released (lit< tt) (all_map (λ st p. ap pulls_nibble p.0.0) a) in
      let small : (levels_with released units).nibble < 16 = subst (λ (x : ℕ). x < 16) (sym n) (lit< tt) in
      let fine : ltb 15 (levels_with released units).nibble ≡ false = le-ltb 15 (levels_with released units).nibble (omega arith) in
      let high : (levels_with released units).bav ≡ false = bav_high released refl (all_map (λ st p. p.0.1) a) in
      let eq : round (world timeout (Resting true) ring units lent response) busy ≡ world timeout (Resting false) ring unitsNext lent response = next-world (Resting true) (Resting false) ring (rw fine) (rw fine) in
      subst (On T) (sym eq) (rests is_resting eight codes different' (all_step (levels_with released units) (λ st host p. idle_step_lem (levels_with released units) small high st host p.1) busy.there a))

-- The round that ends a frame.
frame_timeout : {T : Moment} {f : Frame} {found : List ℕ} {w : World} → InFrame T f found w → 8 ≤ w.controller.timeout
frame_timeout (begins framed d a) = framed.eight
frame_timeout (sends i sender framed d s l a) = framed.eight
frame_timeout (hears ear taken quiet framed d l o) = framed.eight
frame_timeout (waits quiet framed d a why) = framed.eight

frame_device : {T : Moment} {f : Frame} {found : List ℕ} {w : World} → InFrame T f found w → f.command.device < 256
frame_device (begins framed d a) = framed.sent.fields.device
frame_device (sends i sender framed d s l a) = framed.sent.fields.device
frame_device (hears ear taken quiet framed d l o) = framed.sent.fields.device
frame_device (waits quiet framed d a why) = framed.sent.fields.device

pub spoke_moved : {T : Moment} {f : Frame} {d found : List ℕ} {m : Moved} {buffer : List ℕ} {old ss : List Station}
    → One (λ (st : Station). Spoke T f d found m buffer old st × Sound st) (λ (st : Station). Sits st × Sound st) ss → (r : Response) × (m ≡ over f r)
spoke_moved (this (spoke r j sender before has k own a p e b inside x, y) all) = (Complete (reply_status r) (length (answer_data p)), e)
spoke_moved (that q o) = spoke_moved o

spoke_sits : {T : Moment} {f : Frame} {d found : List ℕ} {m : Moved} {buffer : List ℕ} {old : List Station} (st : Station) → Spoke T f d found m buffer old st × Sound st → Sits st × Sound st
spoke_sits st (spoke r j sender before has k own a p e b inside x, y) = (x, y)

finish : {T : Moment} (f : Frame) (found : List ℕ) (w : World) (busy : Busy) (r : Response) → InFrame T f found w → Codes w.controller.ring → Finishes w busy
    → moved_in w busy ≡ over f r → Different (round w busy).units → All (λ (st : Station). Sits st × Sound st) (round w busy).units → On T (round w busy)
finish {T} f found w busy r x codes fin m d a =
    let c : (round w busy).controller ≡ controller_of w.controller.timeout (Resting true) (ring_ended w.controller.ring f (status_of r)) =
    fin ∙ ap (λ (y : Moved). controller_of w.controller.timeout y.stage (ring_after w.controller.ring y.end)) m in
    let eq : round w busy ≡ world w.controller.timeout (Resting true) (ring_ended w.controller.ring f (status_of r)) (round w busy).units w.lent (round w busy).response =
    λ k. record { controller = c k; units = (round w busy).units; lent = w.lent; response = (round w busy).response } in
    subst (On T) (sym eq) (ended (frame_timeout x) (codes-ended w.controller.ring codes f (status_of r) (frame_device x)) d a)

frame_on : {T : Moment} (f : Frame) (found : List ℕ) (w : World) (busy : Busy) → InFrame T f found w → Codes w.controller.ring → Goes T f found w busy → On T (round w busy)
frame_on f found w busy x codes (on r y speaks less) = runs f found y (subst Codes (sym r) codes)
frame_on f found w busy x codes (answered fin d o) = let m = spoke_moved o in finish f found w busy m.0 x codes fin m.1 d (one_all spoke_sits (λ st p. p) o)
frame_on f found w busy x codes (unanswered fin m b d a why still) = finish f found w busy nothing_taken x codes fin m d a

-- Every round of a run.
rest_on : (T : Moment) (timeout : ℕ) (stage : Stage) (ring : Ring) (units : List Station) (lent response : List ℕ) (busy : Busy) → AtRest stage → 8 ≤ timeout → Codes ring
    → Different units → All (λ (st : Station). Fresh st × Sound st) units → On T (round (world timeout stage ring units lent response) busy)
rest_on T timeout stage ring units lent response busy is_free eight codes d a = free-round T timeout ring units lent response busy codes d a eight (levels_with released units).bav (eqb (counted ring) 0) refl refl
rest_on T timeout stage ring units lent response busy is_resting eight codes d a = rest-round T timeout ring units lent response busy codes d a eight

pub on_round : (T : Moment) {w : World} (busy : Busy) → Noted T w busy → On T w → On T (round w busy)
on_round T busy noted (rests {timeout = timeout} {stage = stage} {ring = ring} {units = units} {lent = lent} {response = response} r eight codes d a) = rest_on T timeout stage ring units lent response busy r eight codes d a
on_round T busy noted (submitted f {timeout = timeout} {ring = ring} {units = units} {lent = lent} {response = response} framed codes d a) = submitted-round T timeout ring units lent response busy codes d f framed a
on_round T busy noted (ended {timeout = timeout} {ring = ring} {units = units} {lent = lent} {response = response} eight codes d a) = ended-round T timeout ring units lent response busy codes d eight a
on_round T busy noted (runs f found {w = w} x codes) = frame_on f found w busy x codes (frame_round T f found busy noted x)

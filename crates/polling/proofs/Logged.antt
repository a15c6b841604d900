-- What the marks of a run's log say: which frames begin, and which units take last nibbles.
use Prim.Native.Nat.{ℕ, zero, suc, ◌/◌}
use mathlib.Core.Path.{◌≡◌, refl, sym, ◌∙◌, ap, subst}
use mathlib.Core.Bool.{Bool, true, false, cond}
use mathlib.Core.List.{List, [], ◌∷◌, map}
use borrow.Author.Tests.{eqb-true}
use lib.Dec.{eqb}
use lib.ListN.{length}
use Rattle.application.specs.Calls.{Done, submitting}
use Rattle.bus.specs.Bus.{station_step, is_odd}
use Rattle.bus.specs.declared.Station.{Station}
use Rattle.controller.specs.Controller.{event_in}
use Rattle.controller.specs.declared.Controller.{Controller}
use Rattle.delivery.specs.Calls.{Call, host, submits, acknowledges, lends, lends_unit}
use Rattle.delivery.specs.Lists.{All, none, also, Has, here, there}
use Rattle.delivery.specs.Log.{Act, told, Deed, took, settled, spoke, done, Mark, begins, acts, does, asks, submitted, begun_by, ended_by, stage_marks, settled_by, done_by, deeds_by, units_marks, host_marks, submission_marks, call_marks, log, Capture, with_mark, cut_all, frames_of, deed_in, deeds_in}
use Rattle.delivery.specs.Run.{QuietStart, Run, start, a_round, a_call, codes_of}
use Rattle.delivery.specs.World.{World, levels, round}
use Rattle.delivery.proofs.Called.{alike_called, codes_alike}
use Rattle.delivery.proofs.Completed.{codes-after}
use Rattle.delivery.proofs.EveryRound.{every_run, on_sound}
use Rattle.delivery.proofs.Lists.{all_map, all_zip, has_all}
use Rattle.delivery.proofs.Logs.{all_append}
use Rattle.frame.specs.Frame.{is_submitted}
use Rattle.frame.specs.declared.Frame.{Frame}
use Rattle.frame.specs.declared.Stage.{Stage}
use Rattle.frame.specs.declared.Stage.TheVariants.{Free, Resting, Waiting, Sending, Listening}
use Rattle.header.specs.declared.Command.{Command}
use Rattle.inside.specs.Calls.{HostCall}
use Rattle.inside.specs.Inside.{Inside, inside_of}
use Rattle.inside.specs.Lawful.{Fit}
use Rattle.kind.specs.Kinds.{kind_of}
use Rattle.line.specs.Line.{sent_of, taken_of}
use Rattle.line.specs.declared.Lines.{Lines}
use Rattle.message.specs.Answer.{Answer, gives, refused}
use Rattle.phase.specs.declared.Phase.{Phase}
use Rattle.phase.specs.declared.Phase.TheVariants.{Idle, Selecting, Receiving, Responding, SittingOut}
use Rattle.phase.specs.declared.Progress.TheVariants.{Taking, Answered}
use Rattle.turn.specs.declared.Event.{Event}
use Rattle.polling.proofs.Does.{held}
use Rattle.polling.proofs.Handing.{Shape, Shapes, shape_since}
use Rattle.polling.proofs.OnTheBus.{made, every_coded}
use Rattle.polling.specs.BusMoves.{moves_of}

-- A frame that begins: of which shape it is, and that a service frame has no data.
pub record Begins (f : Frame) (lent : List ℕ) : Type 0 where
  pub shape : Shape f
  pub bare : is_submitted f.kind ≡ false → lent ≡ []

-- A unit that takes the last nibble is on the bus, its code is not 0, and what is inside it fits its kind.
pub record Settles (codes : List ℕ) (own : ℕ) (x : Inside) : Type 0 where
  pub on_bus : Has own codes
  pub coded : own ≡ 0 → ⊥
  pub fit : Fit (kind_of own) x

abbrev DeedSays : List ℕ → ℕ → Deed → Type 0
DeedSays codes own (took n) = Unit
DeedSays codes own (settled x) = Settles codes own x
DeedSays codes own (spoke n) = Unit
DeedSays codes own done = Unit

abbrev Says : List ℕ → Mark → Type 0
Says codes (begins f lent found) = Begins f lent
Says codes (acts a) = Unit
Says codes (does own e) = DeedSays codes own e
Says codes (asks own call) = Unit
Says codes (submitted k d response) = Unit

pub either {ℓ κ} : {A : Type ℓ} {P : A → Type κ} (t : Bool) {xs ys : List A} → All P xs → All P ys → All P (cond t xs ys)
either true a b = a
either false a b = b

module _ (codes : List ℕ) where
  -- The units in a round.
  module _ (own : ℕ) (x : Inside) (s : Settles codes own x) where
    settled-say : (next : Phase) → All (DeedSays codes own) (settled_by next x)
    settled-say Idle = none
    settled-say (Selecting ear half low) = none
    settled-say (Receiving ear (Taking p)) = none
    settled-say (Receiving ear (Answered r)) = also s none
    settled-say (Responding r i sender wait) = none
    settled-say (SittingOut last) = none

    done-say : (next : Phase) → All (DeedSays codes own) (done_by next)
    done-say Idle = none
    done-say (Selecting ear half low) = none
    done-say (Receiving ear progress) = none
    done-say (Responding r i sender wait) = none
    done-say (SittingOut last) = also tt none

    deeds-say : (phase next : Phase) (seen : Lines) → All (DeedSays codes own) (deeds_by phase next x seen)
    deeds-say Idle next seen = none
    deeds-say (Selecting ear half low) next seen = either (taken_of ear seen.hsk) (also tt none) none
    deeds-say (Receiving ear (Taking p)) next seen = either (taken_of ear seen.hsk) (also tt (settled-say next)) none
    deeds-say (Receiving ear (Answered r)) next seen = none
    deeds-say (Responding r i sender wait) next seen = either (sent_of sender seen.hsk) (also tt (done-say next)) none
    deeds-say (SittingOut last) next seen = none

  does-say : (own : ℕ) {es : List Deed} → All (DeedSays codes own) es → All (Says codes) (map (does own) es)
  does-say own none = none
  does-say own (also p a) = also p (does-say own a)

  abbrev SettlesNow : Station → Type 0
  SettlesNow st = Settles codes st.unit.own (inside_of st)

  units-say : (seen : Lines) (hosts : ℕ) {ss : List Station} → All SettlesNow ss → All (Says codes) (units_marks seen hosts ss)
  units-say seen hosts none = none
  units-say seen hosts (also {x = st} s a) =
      all_append
      (does-say st.unit.own
      (either seen.bav (deeds-say st.unit.own (inside_of st) s st.unit.phase (station_step st seen (is_odd hosts)).unit.phase seen) none))
      (units-say seen (hosts / 2) a)

  -- The controller in a round.
  begun-says : (next : Stage) (lent response : List ℕ) → Shapes (held next) → All (Says codes) (begun_by next lent response)
  begun-says Free lent response s = none
  begun-says (Resting first) lent response s = none
  begun-says (Waiting f) lent response s = none
  begun-says (Sending f i sender wait) lent response s =
      let b : Begins f (cond (is_submitted f.kind) lent []) = record { shape = s; bare = λ e. ap (λ (t : Bool). cond t lent []) e } in
      also b none
  begun-says (Listening f ear taken quiet) lent response s = none

  ended-says : (next : Stage) (end : Act) → All (Says codes) (ended_by next end)
  ended-says Free end = none
  ended-says (Resting first) end = also tt none
  ended-says (Waiting f) end = none
  ended-says (Sending f i sender wait) end = none
  ended-says (Listening f ear taken quiet) end = none

  stage-says : (stage next : Stage) (seen : Lines) (event : Event) (lent response after : List ℕ) → Shapes (held next) → All (Says codes) (stage_marks stage next seen event lent response after)
  stage-says Free next seen event lent response after s = begun-says next lent response s
  stage-says (Resting first) next seen event lent response after s = none
  stage-says (Waiting f) next seen event lent response after s = begun-says next lent response s
  stage-says (Sending f i sender wait) next seen event lent response after s = either (sent_of sender seen.hsk) (also tt none) none
  stage-says (Listening f ear taken quiet) next seen event lent response after s =
      all_append (either (taken_of ear seen.hsk) (also tt none) none) (ended-says next (told event (cond (is_submitted f.kind) after [])))

  -- A call.
  host-says : (i : ℕ) (call : HostCall) (ss : List Station) → All (Says codes) (host_marks i call ss)
  host-says i call [] = none
  host-says zero call (st ∷ ss) = also tt none
  host-says (suc i) call (st ∷ ss) = host-says i call ss

  submission-says : (a : Answer Done) (k : Command) (d response : List ℕ) → All (Says codes) (submission_marks a (submitted k d response))
  submission-says (gives x) k d response = also tt none
  submission-says (refused n) k d response = none

  call-says : (v : World) (call : Call) → All (Says codes) (call_marks v call)
  call-says v (host i call) = host-says i call v.units
  call-says v (submits k d response r b) = submission-says (submitting v.controller k (length d) (length response)) k d response
  call-says v (acknowledges code h) = none
  call-says v (lends d response) = none
  call-says v (lends_unit i buffer) = none

  -- The frames that marks are cut into.
  pub record FrameSays (l : Capture) : Type 0 where
    pub begin : Begins l.frame l.lent
    pub all : All (Says codes) l.marks

  with-says : (m : Mark) → Says codes m → {ls : List Capture} → All FrameSays ls → All FrameSays (with_mark m ls)
  with-says m p none = none
  with-says m p (also k ks) = also (record { begin = k.begin; all = all_append k.all (also p none) }) ks

  cut-says : {ms : List Mark} {ls : List Capture} → All (Says codes) ms → All FrameSays ls → All FrameSays (cut_all ls ms)
  cut-says none ks = ks
  cut-says (also {x = begins f lent found} p a) ks = cut-says a (also (record { begin = p; all = none }) ks)
  cut-says (also {x = acts y} p a) ks = cut-says a (with-says (acts y) p ks)
  cut-says (also {x = does own e} p a) ks = cut-says a (with-says (does own e) p ks)
  cut-says (also {x = asks own call} p a) ks = cut-says a (with-says (asks own call) p ks)
  cut-says (also {x = submitted k d response} p a) ks = cut-says a (with-says (submitted k d response) p ks)

  -- The deeds of a unit in such a frame.
  deed-says : (own : ℕ) (m : Mark) → Says codes m → All (DeedSays codes own) (deed_in own m)
  deed-says own (begins f lent found) p = none
  deed-says own (acts a) p = none
  deed-says own (does code e) p = by (eqb code own) refl
    where
      by : (t : Bool) → eqb code own ≡ t → All (DeedSays codes own) (cond t (e ∷ []) [])
      by true q = also (subst (λ (k : ℕ). DeedSays codes k e) (eqb-true code own q) p) none
      by false q = none
  deed-says own (asks code call) p = none
  deed-says own (submitted k d response) p = none

  deeds-of : (own : ℕ) {ms : List Mark} → All (Says codes) ms → All (DeedSays codes own) (deeds_in own ms)
  deeds-of own none = none
  deeds-of own (also {x = m} p a) = all_append (deed-says own m p) (deeds-of own a)

  pub settles : {l : Capture} → FrameSays l → (own : ℕ) (x : Inside) → Has (settled x) (deeds_in own l.marks) → Settles codes own x
  settles k own x h = has_all (deeds-of own k.all) h

-- Codes stay on a run, and every unit has one of them.
pub codes-run : {w v : World} → Run w v → codes_of v.units ≡ codes_of w.units
codes-run start = refl
codes-run (a_round {v = v} r busy) = codes-after (levels v) busy.there v.units ∙ codes-run r
codes-run (a_call {v = v} r call) = codes_alike (alike_called v call) ∙ codes-run r

each_code : (ss : List Station) → All (λ (st : Station). Has st.unit.own (codes_of ss)) ss
each_code [] = none
each_code (st ∷ ss) = also here (all_map (λ x h. there h) (each_code ss))

-- All marks of a run.
log-says : (w v : World) → QuietStart w → (r : Run w v) → All (Says (codes_of w.units)) (log r)
log-says w v q start = none
log-says w _ q (a_round {v = v} r busy) =
    let now = a_round r busy in
    let shapes : Shapes (held (round v busy).controller.stage) = subst (λ (c : Controller). Shapes (held c.stage)) (sym (made w (round v busy) q now)) (shape_since q.timeout (moves_of now [])) in
    let each : All (λ (st : Station). Has st.unit.own (codes_of w.units)) v.units = subst (λ (codes : List ℕ). All (λ (st : Station). Has st.unit.own codes) v.units) (codes-run r) (each_code v.units) in
    let units : All (SettlesNow (codes_of w.units)) v.units =
    all_map (λ st p. record { on_bus = p.0; coded = p.1.0; fit = p.1.1.fit }) (all_zip each (all_zip (every_coded w v q r) (on_sound (every_run w v q r)))) in
    all_append (log-says w v q r)
    (all_append (units-say (codes_of w.units) (levels v) busy.there units)
    (stage-says (codes_of w.units) v.controller.stage (round v busy).controller.stage (levels v) (event_in v.controller (levels v) busy.here v.lent) v.lent v.response (round v busy).response shapes))
log-says w _ q (a_call {v = v} r call) = all_append (log-says w v q r) (call-says (codes_of w.units) v call)

pub frames_say : (w v : World) → QuietStart w → (r : Run w v) → All (FrameSays (codes_of v.units)) (frames_of (log r))
frames_say w v q r = subst (λ (codes : List ℕ). All (FrameSays codes) (frames_of (log r))) (sym (codes-run r)) (cut-says (codes_of w.units) (log-says w v q r) none)

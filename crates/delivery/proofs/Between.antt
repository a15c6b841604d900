-- Between frames no unit does anything, and a call is nobody's deed.
use Prim.Native.Nat.{ℕ, ◌/◌}
use mathlib.Core.Path.{◌≡◌, refl, sym, ◌∙◌, ap, subst}
use mathlib.Core.Bool.{Bool, true, false, cond, true≢false, false≢true}
use mathlib.Core.List.{List, [], ◌++◌, map}
use lib.Dec.{ltb, eqb}
use lib.ListN.{length}
use Rattle.bus.specs.Bus.{levels_with, station_step, is_odd}
use Rattle.bus.specs.declared.Station.{Station}
use Rattle.controller.specs.Calls.{stepping, controller_stepped, buffer_after, if_lent}
use Rattle.controller.specs.Controller.{event_in, controller_of, controller_moved, service}
use Rattle.controller.specs.declared.Controller.{Controller}
use Rattle.frame.specs.declared.Stage.{Stage}
use Rattle.frame.specs.declared.Stage.TheVariants.{Free, Resting, Waiting, Sending, Listening}
use Rattle.inside.specs.Inside.{Inside, inside_of}
use Rattle.line.specs.declared.Lines.{Lines}
use Rattle.message.specs.Answer.{Answer, gives, refused, kept}
use Rattle.phase.specs.declared.Phase.{Phase}
use Rattle.ring.specs.Ring.{counted}
use Rattle.turn.specs.declared.Event.{Event}
use Rattle.delivery.specs.Calls.{in_frame}
use Rattle.delivery.specs.Lists.{All, none, also}
use Rattle.delivery.specs.Log.{Deed, does, deeds_by, station_deeds, units_marks, stage_marks, begun_by}
use Rattle.delivery.proofs.Promised.{Moment}
use Rattle.delivery.proofs.Stages.{Fresh, idles, selects, Sits, On, rests, submitted, ended, runs}
use Rattle.delivery.specs.World.{World, levels}
use Rattle.delivery.proofs.EveryRound.{rest_pulls}
use Rattle.delivery.proofs.Lists.{all_map}
use Rattle.delivery.proofs.Rest.{released, rest-hsk}
use Rattle.delivery.proofs.Run.{frame_runs}
use Rattle.frame.specs.Frame.{begun, stays, rest_step, lent_to}
use Rattle.frame.specs.declared.Frame.{Frame}
use Rattle.frame.specs.declared.LentError.{LentError}
use Rattle.frame.specs.declared.LentError.TheVariants.{Data as OtherData, Buffer as ShortBuffer}
use Rattle.std.specs.Prelude.{Result, Ok, Err}
use Rattle.ring.specs.declared.Ring.{Ring}

same_either : {A : Type 0} (t : Bool) (a : A) → cond t a a ≡ a
same_either true a = refl
same_either false a = refl

-- What a unit that no frame has reached does, or one that sits out.
abbrev Quiet : Lines → Station → Type 0
Quiet seen st = (host : Bool) → station_deeds st seen host ≡ []

quiet_by : {p : Phase} (seen : Lines) (st : Station) → st.unit.phase ≡ p → ((next : Phase) (x : Inside) → deeds_by p next x seen ≡ []) → Quiet seen st
quiet_by seen st e q host =
    let next = (station_step st seen host).unit.phase in
    ap (λ (x : List Deed). cond seen.bav x []) (ap (λ (y : Phase). deeds_by y next (inside_of st) seen) e ∙ q next (inside_of st)) ∙ same_either seen.bav []

fresh_does : (seen : Lines) → seen.hsk ≡ false → (st : Station) → Fresh st → Quiet seen st
fresh_does seen high st (idles e) = quiet_by seen st e (λ next x. refl)
fresh_does seen high st (selects e) = quiet_by seen st e (λ next x. rw high)

sits_does : (seen : Lines) (st : Station) → Sits st → Quiet seen st
sits_does seen st q = quiet_by seen st q.0 (λ next x. refl)

quiet_marks : (seen : Lines) (hosts : ℕ) {ss : List Station} → All (Quiet seen) ss → units_marks seen hosts ss ≡ []
quiet_marks seen hosts none = refl
quiet_marks seen hosts (also {x = st} q a) = λ i. map (does st.unit.own) (q (is_odd hosts) i) ++ quiet_marks seen (hosts / 2) a i

pub nothing_between : {T : Moment} {v : World} → On T v → in_frame v.controller.stage ≡ false → (hosts : ℕ) → units_marks (levels v) hosts v.units ≡ []
nothing_between (rests {units = units} r eight codes d a) e hosts =
    subst (λ (l : Lines). units_marks (levels_with l units) hosts units ≡ []) (sym (rest_pulls r)) (quiet_marks (levels_with released units) hosts (all_map (λ st p. fresh_does (levels_with released units) (rest-hsk units a) st p.0) a))
nothing_between (submitted f {units = units} framed codes d a) e hosts = quiet_marks (levels_with released units) hosts (all_map (λ st p. fresh_does (levels_with released units) (rest-hsk units a) st p.0) a)
nothing_between (ended {units = units} eight codes d a) e hosts = quiet_marks (levels_with released units) hosts (all_map (λ st p. sits_does (levels_with released units) st p.0) a)
nothing_between (runs f found x codes) e hosts = absurd (true≢false (sym (frame_runs x) ∙ e))

-- The controller's round from a rest: a frame begins, or nothing does.
abbrev pub is_begun : Stage → Bool
is_begun Free = false
is_begun (Resting first) = false
is_begun (Waiting f) = false
is_begun (Sending f i sender wait) = wait
is_begun (Listening f ear taken quiet) = false

module _ (timeout : ℕ) (ring : Ring) (seen : Lines) (host : Bool) (lent response : List ℕ) where
  abbrev at : Stage → Controller
  at stage = controller_of timeout stage ring

  abbrev next : Stage → Stage
  next stage = (controller_stepped (at stage) seen host lent response).stage

  -- Idle, in a rest, or with a command that waits.
  abbrev freeBy : Bool → Bool → Bool → Stage
  freeBy bad bav empty = (kept (cond bad (refused 5) (gives (event_in (at Free) seen host lent))) (cond bav (cond empty (at Free) (service (at Free))) (at Free)) (at Free)).stage

  free-begins : (bad bav empty : Bool) → in_frame (freeBy bad bav empty) ≡ true → is_begun (freeBy bad bav empty) ≡ true
  free-begins true bav empty e = absurd (false≢true e)
  free-begins false false empty e = absurd (false≢true e)
  free-begins false true true e = absurd (false≢true e)
  free-begins false true false e = refl

  rests-on : (bad first : Bool) → in_frame (kept (cond bad (refused 5) (gives (event_in (at (Resting first)) seen host lent))) (controller_moved (at (Resting first)) (stays (rest_step first))) (at (Resting first))).stage ≡ true → ⊥
  rests-on true first e = false≢true e
  rests-on false true e = false≢true e
  rests-on false false e = false≢true e

  abbrev waits_by : Frame → Bool → Result (Unit {0}) LentError → Stage
  waits_by f bad fits = (kept (cond bad (refused 5) (if_lent fits (event_in (at (Waiting f)) seen host lent))) (controller_moved (at (Waiting f)) (stays (begun f))) (at (Waiting f))).stage

  waiting-begins : (f : Frame) (bad : Bool) (fits : Result (Unit {0}) LentError) → in_frame (waits_by f bad fits) ≡ true → is_begun (waits_by f bad fits) ≡ true
  waiting-begins f true fits e = absurd (false≢true e)
  waiting-begins f false (Ok u) e = refl
  waiting-begins f false (Err OtherData) e = absurd (false≢true e)
  waiting-begins f false (Err ShortBuffer) e = absurd (false≢true e)

  pub begins-by : (stage : Stage) → in_frame stage ≡ false → in_frame (next stage) ≡ true → is_begun (next stage) ≡ true
  begins-by Free e q = free-begins (ltb 15 seen.nibble) seen.bav (eqb (counted ring) 0) q
  begins-by (Resting first) e q = absurd (rests-on (ltb 15 seen.nibble) first q)
  begins-by (Waiting f) e q = waiting-begins f (ltb 15 seen.nibble) (lent_to f (length lent) (length response)) q
  begins-by (Sending f i sender wait) e q = absurd (true≢false e)
  begins-by (Listening f ear taken quiet) e q = absurd (true≢false e)

  kept_same : {A : Type 0} (a : Answer A) → kept a response response ≡ response
  kept_same (gives x) = refl
  kept_same (refused k) = refl

  pub buffer-rests : (stage : Stage) → in_frame stage ≡ false → buffer_after (at stage) seen host lent response ≡ response
  buffer-rests Free e = kept_same (stepping (at Free) seen host lent response)
  buffer-rests (Resting first) e = kept_same (stepping (at (Resting first)) seen host lent response)
  buffer-rests (Waiting f) e = kept_same (stepping (at (Waiting f)) seen host lent response)
  buffer-rests (Sending f i sender wait) e = absurd (true≢false e)
  buffer-rests (Listening f ear taken quiet) e = absurd (true≢false e)

  -- The marks of such a round.
  none-begun : (u : Stage) → in_frame u ≡ false → begun_by u lent response ≡ []
  none-begun Free q = refl
  none-begun (Resting first) q = refl
  none-begun (Waiting f) q = refl
  none-begun (Sending f i sender wait) q = absurd (true≢false q)
  none-begun (Listening f ear taken quiet) q = absurd (true≢false q)

  pub rest-marks : (event : Event) (after : List ℕ) (stage u : Stage) → in_frame stage ≡ false → in_frame u ≡ false → stage_marks stage u seen event lent response after ≡ []
  rest-marks event after Free u e q = none-begun u q
  rest-marks event after (Resting first) u e q = refl
  rest-marks event after (Waiting f) u e q = none-begun u q
  rest-marks event after (Sending f i sender wait) u e q = absurd (true≢false e)
  rest-marks event after (Listening f ear taken quiet) u e q = absurd (true≢false e)

  pub begun-marks : (event : Event) (after : List ℕ) (stage : Stage) → in_frame stage ≡ false → in_frame (next stage) ≡ true → stage_marks stage (next stage) seen event lent response after ≡ begun_by (next stage) lent response
  begun-marks event after Free e q = refl
  begun-marks event after (Resting first) e q = absurd (rests-on (ltb 15 seen.nibble) first q)
  begun-marks event after (Waiting f) e q = refl
  begun-marks event after (Sending f i sender wait) e q = absurd (true≢false e)
  begun-marks event after (Listening f ear taken quiet) e q = absurd (true≢false e)

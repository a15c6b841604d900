-- The frame that runs, by its name in the controller's stage.
use mathlib.Core.Path.{◌≡◌, refl, sym, ◌∙◌, ap, subst}
use mathlib.Core.Bool.{Bool, true, false, false≢true}
use mathlib.Core.List.{List, [], ◌∷◌}
use Prim.Native.Nat.{ℕ}
use Rattle.frame.specs.declared.Frame.{Frame}
use Rattle.frame.specs.declared.Stage.{Stage}
use Rattle.delivery.specs.Calls.{running}
use Rattle.delivery.specs.World.{World}
use Rattle.delivery.proofs.Promised.{Moment}
use Rattle.delivery.proofs.Stages.{InFrame, begins, sends, hears, waits, AtRest, is_free, is_resting, On, rests, submitted, ended, runs}

pub data RunsOne (T : Moment) (v : World) (f : Frame) : Type 0 where
  runs_one : (found : List ℕ) → InFrame T f found v → RunsOne T v f

pub frame_running : {T : Moment} {f : Frame} {found : List ℕ} {w : World} → InFrame T f found w → running w.controller.stage ≡ f ∷ []
frame_running (begins framed d a) = refl
frame_running (sends i sender framed d s l a) = refl
frame_running (hears ear taken quiet framed d l o) = refl
frame_running (waits quiet framed d a why) = refl

pub rest-running : {stage : Stage} → AtRest stage → running stage ≡ []
rest-running is_free = refl
rest-running is_resting = refl

abbrev pub is_frame : List Frame → Bool
is_frame [] = false
is_frame (f ∷ fs) = true

abbrev pub first_of : Frame → List Frame → Frame
first_of g [] = g
first_of g (f ∷ fs) = f

pub runs_it : {T : Moment} {v : World} (f : Frame) → On T v → running v.controller.stage ≡ f ∷ [] → RunsOne T v f
runs_it f (rests r eight codes d a) e = absurd (false≢true (ap is_frame (sym (rest-running r) ∙ e)))
runs_it f (submitted g framed codes d a) e = absurd (false≢true (ap is_frame e))
runs_it f (ended eight codes d a) e = absurd (false≢true (ap is_frame e))
runs_it {T} {v} f (runs g found x codes) e = runs_one found (subst (λ (h : Frame). InFrame T h found v) (ap (first_of g) (sym (frame_running x) ∙ e)) x)

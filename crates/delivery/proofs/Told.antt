-- The application is told something only as a frame ends: every other round of the controller ends none.
use Prim.Native.Nat.{ℕ}
use mathlib.Core.Path.{◌≡◌, refl, ap, subst, sym}
use mathlib.Core.Bool.{Bool, true, false, cond}
use mathlib.Core.List.{List, [], ◌∷◌, ◌++◌}
use Rattle.answer.specs.declared.Response.{Response}
use Rattle.controller.specs.Controller.{controller_of, controller_step, event_in, event_after}
use Rattle.controller.specs.declared.Controller.{Controller}
use Rattle.frame.specs.Frame.{is_submitted, stays, over, ends, quiet_after}
use Rattle.frame.specs.declared.Frame.{Frame}
use Rattle.frame.specs.declared.Moved.{Moved}
use Rattle.frame.specs.declared.Stage.{Stage}
use Rattle.frame.specs.declared.Stage.TheVariants.{Free, Resting, Waiting, Sending, Listening}
use Rattle.line.specs.Line.{hear_of, taken_of}
use Rattle.line.specs.declared.Lines.{Lines}
use Rattle.message.specs.Answer.{Answer, gives, kept}
use Rattle.ring.specs.declared.Ring.{Ring}
use Rattle.turn.specs.declared.Event.{Event}
use Rattle.delivery.specs.Demand2.{TellsEnds, nothing, of_a_frame}
use Rattle.delivery.specs.Lists.{here}
use Rattle.delivery.specs.Log.{Mark, acts, heard, told, ended_by, stage_marks, units_marks, told_in, round_marks}
use Rattle.delivery.specs.Run.{QuietStart, Run}
use Rattle.delivery.specs.World.{World, Busy, levels, round, outcome}
use Rattle.delivery.proofs.EveryRound.{every_outcome}
use Rattle.delivery.proofs.Lists.{has_right}

-- A round of a controller that is not refused.
module _ (timeout : ℕ) (ring : Ring) (seen : Lines) (busy : Bool) (lent response after : List ℕ) where
  abbrev event : Stage → Event
  event stage = event_in (controller_of timeout stage ring) seen busy lent

  abbrev marks : Stage → List Mark
  marks stage = stage_marks stage (controller_step (controller_of timeout stage ring) seen busy lent).stage seen (event stage) lent response after

  -- It takes a nibble, ends the frame, or waits.
  listens : (f : Frame) (before : Response) (takes ended : Bool) (on waits : Stage) (buffer : List ℕ) (first : List Mark)
      → (m : Moved) → m ≡ cond takes (stays on) (cond ended (over f before) (stays waits)) → TellsEnds (gives (event_after m.end)) (first ++ ended_by m.stage (told (event_after m.end) buffer))
  listens f before true ended on waits buffer first m e = nothing (ap (λ (x : Moved). gives (event_after x.end)) e)
  listens f before false true on waits buffer first m e =
      subst (λ (x : Moved). TellsEnds (gives (event_after x.end)) (first ++ ended_by x.stage (told (event_after x.end) buffer))) (sym e) (of_a_frame (event_after (over f before).end) buffer refl (has_right first here))
  listens f before false false on waits buffer first m e = nothing (ap (λ (x : Moved). gives (event_after x.end)) e)

  pub stage-tells : (stage : Stage) → TellsEnds (gives (event stage)) (marks stage)
  stage-tells Free = nothing refl
  stage-tells (Resting first) = nothing refl
  stage-tells (Waiting f) = nothing refl
  stage-tells (Sending f i sender wait) = nothing refl
  stage-tells (Listening f ear taken quiet) =
      listens f taken (taken_of ear seen.hsk) (ends (hear_of ear seen.hsk busy) taken timeout (quiet_after quiet seen.hsk)) _ _ (cond (is_submitted f.kind) after [])
      (cond (taken_of ear seen.hsk) (acts (heard seen.nibble) ∷ []) []) _ refl

more_tells : {a : Answer Event} (first : List Mark) {ms : List Mark} → TellsEnds a ms → TellsEnds a (first ++ ms)
more_tells first (nothing e) = nothing e
more_tells first (of_a_frame e buffer given h) = of_a_frame e buffer given (has_right first h)

pub tells_run : (w v : World) → QuietStart w → (r : Run w v) (busy : Busy) → TellsEnds (outcome v busy) (round_marks v busy)
tells_run w v q r busy =
    let c = v.controller in
    let given = every_outcome w v q r busy in
    let steps : (round v busy).controller ≡ controller_step c (levels v) busy.here v.lent = ap (λ (a : Answer Event). kept a (controller_step c (levels v) busy.here v.lent) c) given in
    subst (λ (a : Answer Event). TellsEnds a (round_marks v busy)) (sym given)
    (more_tells (units_marks (levels v) busy.there v.units)
    (subst (λ (x : Controller). TellsEnds (gives (told_in v busy)) (stage_marks c.stage x.stage (levels v) (told_in v busy) v.lent v.response (round v busy).response)) (sym steps)
    (stage-tells c.timeout c.ring (levels v) busy.here v.lent v.response (round v busy).response c.stage)))

-- A controller that sends, in words.
use Rattle.std.specs.Prelude.{ℕ, ◌≡◌, Bool, false, List}
use Rattle.controllerwords.specs.Controller.{loaded_frame, sending, stage_in}
use Rattle.controllerwords.specs.Layout.{WAIT, SENDER, NIBBLE, NEXT}
use Rattle.frame.specs.Frame.{sending_step}
use Rattle.frame.specs.declared.Stage.{Stage}
use Rattle.frame.specs.declared.Stage.TheVariants.{Free, Resting, Waiting, Sending, Listening}
use Rattle.words.specs.Words.{at, flag_of, sender_of}

-- The stage after a round of sending, with all that the words say.
abbrev pub stage_after : List ℕ → Bool → List ℕ → Stage
stage_after ws hsk d = sending_step (loaded_frame ws) (at ws NEXT) (sender_of (at ws SENDER) (at ws NIBBLE)) (flag_of (at ws WAIT)) hsk d

-- The words with that stage: while it sends, its tag and its frame stand as they are.
abbrev pub carried_in : List ℕ → Stage → List ℕ
carried_in ws Free = stage_in ws Free
carried_in ws (Resting first) = stage_in ws (Resting first)
carried_in ws (Waiting f) = stage_in ws (Waiting f)
carried_in ws (Sending f i sender wait) = sending ws i sender wait
carried_in ws (Listening f ear response quiet) = stage_in ws (Listening f ear response quiet)

-- Words of a sender that keeps a nibble, and has no round to pass before.
pub record Keeps (ws : List ℕ) : Type 0 where
  pub wait : flag_of (at ws WAIT) ≡ false
  pub sender : at ws SENDER ≡ 2

-- A controller that was saved is loaded as it was, its ring of sixteen slots with it, whatever stood in the words before.
use Rattle.std.specs.Prelude.{ℕ, ◌<◌, ◌≡◌, Bool, List, length, get_or}
use Rattle.answer.specs.declared.Partial.{Partial}
use Rattle.answer.specs.declared.Response.{Response}
use Rattle.answer.specs.declared.Response.TheVariants.{Taking, Complete, TooLarge}
use Rattle.controller.specs.declared.Controller.{Controller}
use Rattle.frame.specs.declared.Frame.{Frame}
use Rattle.frame.specs.declared.Stage.{Stage}
use Rattle.frame.specs.declared.Stage.TheVariants.{Free, Resting, Waiting, Sending, Listening}
use Rattle.header.specs.Header
use Rattle.line.specs.declared.Listener.{Listener}
use Rattle.line.specs.declared.Sender.{Sender}
use Rattle.ring.specs.Ring.{none}
use Rattle.ring.specs.declared.Ring.{Ring}
use Rattle.words.specs.Ranges.{SenderFits}
use Rattle.controllerwords.specs.Layout.{WORDS}
use Rattle.controllerwords.specs.Controller.{loaded, saved_in, saved}

-- What the types of a controller's fields say of them.
pub record FrameFits (f : Frame) : Type 0 where
  pub command : Header.InRange f.command
  pub length : f.data_length < 65536

pub data ResponseFits : Response → Type 0 where
  taking : {p : Partial} → p.length < 65536 → p.low < 256 → ResponseFits (Taking p)
  complete : {status count : ℕ} → status < 256 → count < 65536 → ResponseFits (Complete status count)
  too_large : ResponseFits TooLarge

pub data StageFits : Stage → Type 0 where
  free : StageFits Free
  resting : {first : Bool} → StageFits (Resting first)
  waiting : {f : Frame} → FrameFits f → StageFits (Waiting f)
  sending : {f : Frame} {i : ℕ} {sender : Sender} {wait : Bool} → FrameFits f → SenderFits sender → StageFits (Sending f i sender wait)
  listening : {f : Frame} {ear : Listener} {response : Response} {quiet : ℕ} → FrameFits f → ResponseFits response → quiet < 65536
      → StageFits (Listening f ear response quiet)

pub record RingFits (r : Ring) : Type 0 where
  pub slots : length r.entries ≡ 16
  pub codes : (i : ℕ) → (get_or r.entries i none).code < 256
  pub count : r.count < 256

pub record InRange (c : Controller) : Type 0 where
  pub timeout : c.timeout < 65536
  pub stage : StageFits c.stage
  pub ring : RingFits c.ring

abbrev pub LoadedSavedIn : Type 0
LoadedSavedIn = (ws : List ℕ) (c : Controller) → length ws ≡ WORDS → InRange c → loaded (saved_in ws c) ≡ c

-- What was loaded and is saved changes no word, whatever stands there.
abbrev pub SavedLoaded : Type 0
SavedLoaded = (ws : List ℕ) → saved_in ws (loaded ws) ≡ ws

abbrev pub LoadedSaved : Type 0
LoadedSaved = (c : Controller) → InRange c → loaded (saved c) ≡ c

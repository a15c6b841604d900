-- The calls of the controller from C: what each returns, and what it leaves in the words that hold the controller.
use Rattle.std.specs.Prelude.{ℕ, ◌≡◌, Bool, List, [], ◌∷◌}
use Rattle.application.specs.Calls.{making, controller_made, submitting, controller_submitted, acknowledging, controller_acknowledged}
use Rattle.application.specs.declared.Looks.{Looks}
use Rattle.controller.specs.Calls.{stepping, controller_stepped, buffer_after}
use Rattle.controller.specs.declared.Controller.{Controller}
use Rattle.controllerround.specs.Round.{event_words}
use Rattle.controllerwords.specs.Controller.{loaded, saved_in, saved}
use Rattle.header.specs.declared.Command.{Command}
use Rattle.line.specs.declared.Lines.{Lines}
use Rattle.message.specs.Answer.{Answer, gives, refused}
use Rattle.ring.specs.Ring.{counted}
use Rattle.turn.specs.declared.Event.{Event}
use Rattle.words.specs.Words.{bit, number}

-- The words after a call: those of the controller that stands beside its answer. A refusal leaves them as they are.
abbrev pub controller_after : {A : Type 0} → Answer A → Controller → List ℕ → List ℕ
controller_after (gives a) c ws = saved_in ws c
controller_after (refused k) c ws = ws

-- The words after a controller is made: whole words, whatever stood there.
abbrev pub controller_made_in : {A : Type 0} → Answer A → Controller → List ℕ → List ℕ
controller_made_in (gives a) c ws = saved c
controller_made_in (refused k) c ws = ws

-- The event of a step. A refusal leaves its words as they are.
abbrev pub events_after : Answer Event → List ℕ → List ℕ
events_after (gives event) ws = event_words event
events_after (refused k) ws = ws

-- Looking, in three words: how many entries the ring has, whether no frame and no rest runs, whether a command is submitted.
abbrev pub looks_words : Looks → List ℕ
looks_words l = counted l.ring ∷ bit l.may_start ∷ bit l.submitted ∷ []

-- What each call promises, for all words: what it returns, the words after it, and every byte and word that it was lent.
abbrev pub ControllerMade : ℕ → List ℕ → ℕ → List ℕ → Type 0
ControllerMade timeout ws r ws' = (r ≡ number (making timeout)) × (ws' ≡ controller_made_in (making timeout) (controller_made timeout) ws)

abbrev pub ControllerStepped : Lines → Bool → List ℕ → List ℕ → List ℕ → List ℕ → ℕ → List ℕ → List ℕ → List ℕ → Type 0
ControllerStepped seen busy ws «data» response event r ws' response' event' =
    (r ≡ number (stepping (loaded ws) seen busy «data» response))
    × ((ws' ≡ controller_after (stepping (loaded ws) seen busy «data» response) (controller_stepped (loaded ws) seen busy «data» response) ws)
    × ((response' ≡ buffer_after (loaded ws) seen busy «data» response) × (event' ≡ events_after (stepping (loaded ws) seen busy «data» response) event)))

abbrev pub ControllerSubmitted : Command → ℕ → ℕ → List ℕ → ℕ → List ℕ → Type 0
ControllerSubmitted k n room ws r ws' =
    (r ≡ number (submitting (loaded ws) k n room)) × (ws' ≡ controller_after (submitting (loaded ws) k n room) (controller_submitted (loaded ws) k n room) ws)

abbrev pub ControllerAcknowledged : ℕ → List ℕ → ℕ → List ℕ → Type 0
ControllerAcknowledged code ws r ws' =
    (r ≡ number (acknowledging (loaded ws) code)) × (ws' ≡ controller_after (acknowledging (loaded ws) code) (controller_acknowledged (loaded ws) code) ws)

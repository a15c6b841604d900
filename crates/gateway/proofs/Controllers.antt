-- What a call leaves in the controller's words, once its answer is known.
use Prim.Native.Nat.{ℕ, ◌≤◌, ◌<◌}
use mathlib.Core.Path.{◌≡◌, sym, ◌∙◌, ap}
use mathlib.Core.Bool.{Bool}
use mathlib.Core.List.{List, [], ◌∷◌}
use borrow.Author.Tests.{lt-ltb, le-ltb}
use lib.ListN.{length}
use Rattle.std.specs.Prelude.{Result}
use Rattle.application.specs.declared.Looks.{Looks}
use Rattle.controller.specs.Calls.{if_lent, stepping, controller_stepped, buffer_after}
use Rattle.controller.specs.Controller.{controller_step, event_in}
use Rattle.controller.specs.declared.Controller.{Controller}
use Rattle.controllerwords.specs.Controller.{loaded_stage, loaded, saved_in, saved}
use Rattle.frame.specs.Frame.{frame_buffer, lent_at}
use Rattle.frame.specs.declared.LentError.{LentError}
use Rattle.line.specs.declared.Lines.{Lines}
use Rattle.message.specs.Answer.{Answer, gives, refused, kept}
use Rattle.ring.specs.Ring.{counted}
use Rattle.turn.specs.declared.Event.{Event}
use Rattle.words.specs.Words.{bit, number}
use Rattle.controllerround.specs.Round.{event_words}
use Rattle.gateway.specs.Controller.{controller_after, controller_made_in, events_after, looks_words}

-- An answer that gives, and one that refuses.
module _ {A : Type 0} {a : Answer A} (c : Controller) (ws : List ℕ) where
  pub controller-given : {x : A} {after : List ℕ} → gives x ≡ a → after ≡ saved_in ws c → (0 ≡ number a) × (after ≡ controller_after a c ws)
  controller-given p q = (ap number p, q ∙ ap (λ (b : Answer A). controller_after b c ws) p)

  pub controller-kept : {k : ℕ} → refused k ≡ a → (k ≡ number a) × (ws ≡ controller_after a c ws)
  controller-kept p = (ap number p, ap (λ (b : Answer A). controller_after b c ws) p)

  pub controller-made : {x : A} {after : List ℕ} → gives x ≡ a → after ≡ saved c → (0 ≡ number a) × (after ≡ controller_made_in a c ws)
  controller-made p q = (ap number p, q ∙ ap (λ (b : Answer A). controller_made_in b c ws) p)

  pub not_made : {k : ℕ} → refused k ≡ a → (k ≡ number a) × (ws ≡ controller_made_in a c ws)
  not_made p = (ap number p, ap (λ (b : Answer A). controller_made_in b c ws) p)

-- A step that goes on, and one that is refused.
module _ (ws d response : List ℕ) (seen : Lines) (busy : Bool) where
  pub level : 15 < seen.nibble → refused 5 ≡ stepping (loaded ws) seen busy d response
  level h = sym (rw (lt-ltb 15 seen.nibble h))

  pub lent : {l x : Result (Unit {0}) LentError} → seen.nibble ≤ 15 → l ≡ lent_at (loaded_stage ws) (length d) (length response) → l ≡ x
      → if_lent x (event_in (loaded ws) seen busy d) ≡ stepping (loaded ws) seen busy d response
  lent h p q = ap (λ (l : Result (Unit {0}) LentError). if_lent l (event_in (loaded ws) seen busy d)) (sym q ∙ p) ∙ sym (rw (le-ltb 15 seen.nibble h))

  abbrev Left : ℕ → List ℕ → List ℕ → List ℕ → List ℕ → Type 0
  Left r after response' events events' =
      (r ≡ number (stepping (loaded ws) seen busy d response))
      × ((after ≡ controller_after (stepping (loaded ws) seen busy d response) (controller_stepped (loaded ws) seen busy d response) ws)
      × ((response' ≡ buffer_after (loaded ws) seen busy d response) × (events' ≡ events_after (stepping (loaded ws) seen busy d response) events)))

  pub step-refused : {k : ℕ} (events : List ℕ) → refused k ≡ stepping (loaded ws) seen busy d response → Left k ws response events events
  step-refused events p = (
    ap number p,
    (
      ap (λ (a : Answer Event). controller_after a (kept a (controller_step (loaded ws) seen busy d) (loaded ws)) ws) p,
      (ap (λ (a : Answer Event). kept a (frame_buffer (loaded_stage ws) seen response) response) p, ap (λ (a : Answer Event). events_after a events) p),
    ),
  )

  pub step-goes-on : {after response' events' : List ℕ} (events : List ℕ)
      → gives (event_in (loaded ws) seen busy d) ≡ stepping (loaded ws) seen busy d response
      → (after ≡ saved_in ws (controller_step (loaded ws) seen busy d))
      × ((response' ≡ frame_buffer (loaded_stage ws) seen response) × (events' ≡ event_words (event_in (loaded ws) seen busy d)))
      → Left 0 after response' events events'
  step-goes-on events p q = (
    ap number p,
    (
      q.0 ∙ ap (λ (a : Answer Event). controller_after a (kept a (controller_step (loaded ws) seen busy d) (loaded ws)) ws) p,
      (
        q.1.0 ∙ ap (λ (a : Answer Event). kept a (frame_buffer (loaded_stage ws) seen response) response) p,
        q.1.1 ∙ ap (λ (a : Answer Event). events_after a events) p,
      ),
    ),
  )

-- What is looked at, word by word.
pub looked : (l : Looks) {n start submitted : ℕ} → n ≡ counted l.ring → start ≡ bit l.may_start → submitted ≡ bit l.submitted
    → n ∷ start ∷ submitted ∷ [] ≡ looks_words l
looked l p q r = λ i. p i ∷ q i ∷ r i ∷ []

-- What a call leaves, once its answer is known.
use Prim.Native.Nat.{ℕ, ◌<◌, ◌≤◌}
use mathlib.Core.Path.{◌≡◌, refl, sym, ◌∙◌, ap}
use mathlib.Core.Bool.{Bool, true, false}
use mathlib.Core.List.{List, [], ◌∷◌}
use borrow.Author.Tests.{lt-ltb, le-ltb}
use lib.ListN.{length}
use Rattle.host.specs.declared.Looks.{Looks}
use Rattle.kind.specs.Kinds.{kind_of, is_short}
use Rattle.kind.specs.declared.Kind.{Kind}
use Rattle.line.specs.declared.Lines.{Lines}
use Rattle.message.specs.Answer.{Answer, gives, refused}
use Rattle.screen.specs.declared.Screen.{Screen}
use Rattle.unit.specs.Calls.{stepping, buffer_after, output_after}
use Rattle.unit.specs.Unit.{unit_step, unit_buffer, unit_output}
use Rattle.unit.specs.declared.Unit.{Unit}
use Rattle.unitwords.specs.Unit.{opening_number, loaded, saved_in}
use Rattle.words.specs.Words.{bit, number}
use Rattle.gateway.specs.Unit.{unit_after, taken_number, taken_words, accepted_of, looks_words, is_reading, screen_looks}

pub given : {a : Answer Unit} {v : Unit} (ws : List ℕ) {after : List ℕ} → gives v ≡ a → after ≡ saved_in ws v → (0 ≡ number a) × (after ≡ unit_after a ws)
given ws p q = (ap number p, q ∙ ap (λ (a : Answer Unit). unit_after a ws) p)

pub kept-words : {a : Answer Unit} {k : ℕ} (ws : List ℕ) → refused k ≡ a → (k ≡ number a) × (ws ≡ unit_after a ws)
kept-words ws p = (ap number p, ap (λ (a : Answer Unit). unit_after a ws) p)

-- Whether lent memory is too short for the unit in the words, by its kind.
pub short_by_kind : (ws buffer output : List ℕ) {own : ℕ} {kind : Kind} {short v : Bool} → own ≡ (loaded ws).own → kind ≡ kind_of own
    → short ≡ is_short kind (length buffer) (length output) → short ≡ v → is_short (kind_of (loaded ws).own) (length buffer) (length output) ≡ v
short_by_kind ws buffer output p q r t = sym (r ∙ ap (λ (kind : Kind). is_short kind (length buffer) (length output)) (q ∙ ap kind_of p)) ∙ t

-- A step: refused with everything as it was, or the round in the words.
module _ (ws : List ℕ) (seen : Lines) (busy : Bool) (buffer input output : List ℕ) where
  abbrev Steps : ℕ → List ℕ → List ℕ → List ℕ → Type 0
  Steps k after buffer' output' =
      (k ≡ number (stepping (loaded ws) seen busy buffer input output))
      × ((after ≡ unit_after (stepping (loaded ws) seen busy buffer input output) ws)
      × ((buffer' ≡ buffer_after (loaded ws) seen busy buffer input output) × (output' ≡ output_after (loaded ws) seen busy buffer input output)))

  pub level-refused : 15 < seen.nibble → Steps 5 ws buffer output
  level-refused t = rw (lt-ltb 15 seen.nibble t) (refl, (refl, (refl, refl)))

  pub buffer-refused : seen.nibble ≤ 15 → is_short (kind_of (loaded ws).own) (length buffer) (length output) ≡ true → Steps 11 ws buffer output
  buffer-refused f t = rw (le-ltb 15 seen.nibble f, t) (refl, (refl, (refl, refl)))

  pub steps : {after buffer' output' : List ℕ} → seen.nibble ≤ 15 → is_short (kind_of (loaded ws).own) (length buffer) (length output) ≡ false
      → (after ≡ saved_in ws (unit_step (loaded ws) seen busy buffer input)) × ((buffer' ≡ unit_buffer (loaded ws) seen buffer) × (output' ≡ unit_output (loaded ws) seen buffer output))
      → Steps 0 after buffer' output'
  steps f g q = rw (le-ltb 15 seen.nibble f, g) (refl, q)

-- What is looked at, word by word.
pub looked : (l : Looks) {opening accepted enabled requesting : ℕ}
    → opening ≡ opening_number l.opening
    → accepted ≡ accepted_of l.opening
    → enabled ≡ bit l.enabled
    → requesting ≡ bit l.requesting
    → opening ∷ accepted ∷ l.input ∷ l.output ∷ enabled ∷ requesting ∷ [] ≡ looks_words l
looked l p q r s = λ i. p i ∷ q i ∷ l.input ∷ l.output ∷ r i ∷ s i ∷ []

pub looked-at : (s : Screen) {scrolls wraps top bottom asked reading : ℕ}
    → scrolls ≡ bit s.scrolls
    → wraps ≡ bit s.wraps
    → top ≡ bit s.top
    → bottom ≡ bit s.bottom
    → asked ≡ bit s.asked
    → reading ≡ bit (is_reading s.sequence)
    → s.row ∷ s.column ∷ scrolls ∷ wraps ∷ top ∷ bottom ∷ asked ∷ reading ∷ [] ≡ screen_looks s
looked-at s p q r t u v = λ i. s.row ∷ s.column ∷ p i ∷ q i ∷ r i ∷ t i ∷ u i ∷ v i ∷ []

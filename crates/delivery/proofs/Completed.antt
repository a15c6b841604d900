-- The end of a frame in its log: who answered, and that every unit has done all that is its part.
use mathlib.Core.Path.{◌≡◌, refl, sym, ◌∙◌, subst}
use mathlib.Core.Bool.{true, false}
use mathlib.Core.List.{List, [], ◌∷◌, ◌++◌, map}
use Prim.Native.Nat.{ℕ, ◌/◌}
use Rattle.bus.specs.Bus.{units_after, is_odd}
use Rattle.bus.specs.declared.Station.{Station}
use Rattle.frame.specs.declared.Frame.{Frame}
use Rattle.frame.specs.declared.Kind.{Kind}
use Rattle.frame.specs.declared.Kind.TheVariants.{Submitted, Poll, Null}
use Rattle.header.specs.declared.Command.{Command}
use Rattle.inside.specs.Inside.{Inside, reply_for}
use Rattle.line.specs.declared.Lines.{Lines}
use Rattle.reply.specs.Reply.{is_silent}
use Rattle.turn.specs.Turn.{event_by, event_of}
use Rattle.delivery.specs.Run.{codes_of}
use Rattle.delivery.specs.Demand2.{event_told, deeds_of, Hushes, not_meant as not-meant-by, by_the_rule}
use Rattle.delivery.specs.Lists.{All, none, also, One, this, that, Has, here, there}
use Rattle.delivery.specs.Log.{Capture, Deed, took, settled, spoke, done, deeds_in}
use Rattle.delivery.proofs.Stages.{addressed}
use Rattle.delivery.proofs.Deeds.{has_settled, nibbles_for, answer_for, Hush, not_meant, by_rule}
use Rattle.delivery.proofs.Frame.{own_kept}
use Rattle.delivery.proofs.Lists.{all_map, all_zip, has_all}

-- The controller tells what the demand says.
pub tells_so : (f : Frame) (status count : ℕ) → event_of f status count ≡ event_told f.kind f.command.device status count
tells_so f status count = by f.kind f.command
  where
    by : (k : Kind) (c : Command) → event_by k c status count ≡ event_told k c.device status count
    by Submitted c = refl
    by Poll c = refl
    by Null c = refl

-- Codes stay as they are.
pub codes-after : (seen : Lines) (hosts : ℕ) (ss : List Station) → codes_of (units_after seen hosts ss) ≡ codes_of ss
codes-after seen hosts [] = refl
codes-after seen hosts (st ∷ ss) = λ i. own_kept st seen (is_odd hosts) i ∷ codes-after seen (hosts / 2) ss i

-- From units to codes.
pub all_codes : {P : ℕ → Type 0} {ss : List Station} → All (λ (st : Station). P st.unit.own) ss → All P (codes_of ss)
all_codes none = none
all_codes (also p a) = also p (all_codes a)

pub one_codes : {P Q : ℕ → Type 0} {ss : List Station} → One (λ (st : Station). P st.unit.own) (λ (st : Station). Q st.unit.own) ss → One P Q (codes_of ss)
one_codes (this p a) = this p (all_codes a)
one_codes (that q o) = that q (one_codes o)

pub one_both {ℓ κ} : {A : Type ℓ} {P Q R S : A → Type κ} → ((x : A) → P x → R x) → ((x : A) → Q x → S x) → {xs : List A} → One P Q xs → One R S xs
one_both f g (this {x = x} p a) = this (f x p) (all_map g a)
one_both f g (that {x = x} q o) = that (g x q) (one_both f g o)

pub one_zip {ℓ κ} : {A : Type ℓ} {P Q R : A → Type κ} {xs : List A} → One P Q xs → All R xs → One (λ (x : A). P x × R x) (λ (x : A). Q x × R x) xs
one_zip (this p a) (also r b) = this (p, r) (all_zip a b)
one_zip (that q o) (also r b) = that (q, r) (one_zip o b)

pub has_one {ℓ κ} : {A : Type ℓ} {P Q : A → Type κ} {xs : List A} {x : A} → One P Q xs → Has x xs → (Q x → ⊥) → P x
has_one (this p a) here else = p
has_one (this p a) (there h) else = absurd (else (has_all a h))
has_one (that q o) here else = absurd (else q)
has_one (that q o) (there h) else = has_one o h else

-- A unit that sat out has done its part.
module _ (l : Capture) (own : ℕ) where
  pub hush-hushes : Hush l.frame.command l.lent own (deeds_in own l.marks) → Hushes l own
  hush-hushes (not_meant a e) = not-meant-by a
  hush-hushes (by_rule x a s e) = by_the_rule x (subst (Has (settled x)) (sym e) (has_settled (nibbles_for l.frame.command l.lent) [])) s

  pub hush-part : Inside → Hush l.frame.command l.lent own (deeds_in own l.marks) → (x : Inside) × (deeds_in own l.marks ≡ deeds_of l own x)
  hush-part y (not_meant a e) = (y, e ∙ rw a)
  hush-part y (by_rule x a s e) = (x, e ∙ rw (a, s))

  pub spoken-has : (x : Inside) (rest : List Deed) → deeds_in own l.marks ≡ map took (nibbles_for l.frame.command l.lent) ++ (settled x ∷ rest) → Has (settled x) (deeds_in own l.marks)
  spoken-has x rest e = subst (Has (settled x)) (sym e) (has_settled (nibbles_for l.frame.command l.lent) rest)

  pub spoken-part : (x : Inside) → addressed l.frame.command own ≡ true → is_silent (reply_for own x l.frame.command l.lent) ≡ false
      → deeds_in own l.marks ≡ map took (nibbles_for l.frame.command l.lent) ++ (settled x ∷ (map spoke (answer_for l.frame.command l.lent own x) ++ (done ∷ []))) → deeds_in own l.marks ≡ deeds_of l own x
  spoken-part x a s e = e ∙ rw (a, s)

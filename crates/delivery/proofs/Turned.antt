-- When the command is whole, at most one unit responds: the one whose code it carries. To code 0 nobody does.
use Prim.Native.Nat.{ℕ}
use native.Mathlib.Omega.{arith}
use mathlib.Core.Path.{◌≡◌, refl, sym, ◌∙◌, ap}
use mathlib.Core.Bool.{Bool, true, false, ◌||◌, true≢false}
use mathlib.Core.List.{List, ◌∷◌}
use borrow.Author.Tests.{eqb-true}
use lib.Dec.{eqb}
use lib.ListN.{length}
use Rattle.answer.specs.Answer.{nothing_taken}
use Rattle.bus.specs.declared.Station.{Station}
use Rattle.header.specs.declared.Command.{Command}
use Rattle.inside.specs.Inside.{Inside}
use Rattle.inside.proofs.Lawful.{every_lawful}
use Rattle.kind.specs.Kinds.{kind_of}
use Rattle.line.specs.declared.Listener.TheVariants.{Ready}
use Rattle.line.specs.declared.Sender.TheVariants.{Next}
use Rattle.reply.specs.Reply.{is_silent}
use Rattle.serial.specs.declared.Reply.{Reply}
use Rattle.whole.specs.Whole.{stored_of}
use Rattle.delivery.proofs.Stages.{Hushed, not_its_own, by_the_rule, Sits, Sound, Talk, addressed, talks}
use Rattle.delivery.proofs.Taking.{f_next}
use Rattle.delivery.specs.Lists.{All, none, also, One, this, that}
use Rattle.delivery.proofs.Promised.{Moment, Promised}
use Rattle.delivery.specs.World.{Different, nobody, another}
use Rattle.delivery.proofs.Part.{Turned, speaks, silent, Hush, not_mine, ruled}

-- A unit that responds has the command's code.
code_by : (t : Bool) (c : Command) (own : ℕ) (r : Reply) → eqb c.device own ≡ t → addressed c own ≡ true → (c.device ≡ 0 → is_silent r ≡ true) → is_silent r ≡ false → c.device ≡ own
code_by true c own r e a z q = eqb-true c.device own e
code_by false c own r e a z q =
    let zero : eqb c.device 0 ≡ true = sym (ap (λ (t : Bool). t || eqb c.device 0) e) ∙ a in
    absurd (true≢false (sym (z (eqb-true c.device 0 zero)) ∙ q))

spoken_code : {T : Moment} {c : Command} {d : List ℕ} {r : Reply} {x : Inside} (own : ℕ) → Promised T own c d r x → is_silent r ≡ false → addressed c own ≡ true → c.device ≡ own
spoken_code {c = c} {d = d} {r = r} own p z a = code_by (eqb c.device own) c own r refl a (λ e. ap is_silent p.said ∙ (every_lawful (kind_of own)).zero_silent p.given c (length d) (stored_of d) e) z

-- Nobody beside the unit with the command's code responds.
others_sit : (T : Moment) {c : Command} {d : List ℕ} (own : ℕ) → c.device ≡ own → {ss : List Station} → All (λ (x : Station). x.unit.own ≡ own → ⊥) ss
    → All (λ (st : Station). Turned (Promised T st.unit.own c d) c st × Sound st) ss → All (λ (st : Station). Sits st × Sound st) ss
others_sit T own e none none = none
others_sit T own e (also {x = st} h hs) (also (speaks r z a phase p q, s) ts) = absurd (h (sym (spoken_code st.unit.own p z a) ∙ e))
others_sit T own e (also h hs) (also (silent phase q why, s) ts) = also ((phase, q), s) (others_sit T own e hs ts)

hushed : (T : Moment) {c : Command} {d : List ℕ} (st : Station) → Hush (Promised T st.unit.own c d) c st → Hushed T c d st
hushed T st (not_mine a) = not_its_own a
hushed T st (ruled r z p) = by_the_rule p.given p.took (sym (ap is_silent p.said) ∙ z)

-- Who responds.
pub data Answering (T : Moment) (c : Command) (d : List ℕ) (stores : Bool) (found : List ℕ) (ss : List Station) : Type 0 where
  somebody : One (λ (st : Station). Talk T c d stores found Ready nothing_taken 0 found st × Sound st) (λ (st : Station). Sits st × Sound st) ss → Answering T c d stores found ss
  nobody_does : All (λ (st : Station). Sits st × Sound st) ss → All (Hushed T c d) ss → Answering T c d stores found ss

joined : {T : Moment} {c : Command} {d : List ℕ} {stores : Bool} {found : List ℕ} {st : Station} {ss : List Station} → Sits st × Sound st → Hushed T c d st → Answering T c d stores found ss → Answering T c d stores found (st ∷ ss)
joined s h (somebody o) = somebody (that s o)
joined s h (nobody_does a b) = nobody_does (also s a) (also h b)

pub answering : (T : Moment) (c : Command) (d : List ℕ) (stores : Bool) (found : List ℕ) {ss : List Station} → Different ss
    → All (λ (st : Station). Turned (Promised T st.unit.own c d) c st × Sound st) ss → Answering T c d stores found ss
answering T c d stores found nobody none = nobody_does none none
answering T c d stores found (another h hs) (also {x = st} (speaks r z a phase p q, s) ts) =
    somebody (this {x = st} (talks r 0 0 Next true phase p f_next refl refl (omega arith) (λ _. (refl, refl)) (omega arith) q a, s) (others_sit T st.unit.own (spoken_code st.unit.own p z a) h ts))
answering T c d stores found (another h hs) (also {x = st} (silent phase q why, s) ts) = joined ((phase, q), s) (hushed T st why) (answering T c d stores found hs ts)

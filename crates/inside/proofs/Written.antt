-- An accepted write's data stands at the back of the output queue, or has gone to the screen.
use Prim.Native.Nat.{ℕ, ◌≤◌}
use native.Mathlib.Omega.{arith}
use mathlib.Core.Path.{◌≡◌, refl, sym, ◌∙◌, ap, subst}
use mathlib.Core.Bool.{Bool, cond}
use mathlib.Core.List.{List, [], ◌++◌}
use borrow.Author.Tests.{ltb-false, le-ltb}
use lib.Dec.{ltb}
use lib.ListN.{length}
use Rattle.header.specs.declared.Command.{Command}
use Rattle.kind.specs.Kinds.{kind_of, verdict_of}
use Rattle.kind.specs.declared.Kind.{Kind}
use Rattle.kind.specs.declared.Kind.TheVariants.{Serial as SerialUnit, Video as VideoUnit}
use Rattle.queue.specs.Queue.{room}
use Rattle.queue.proofs.Laws.{contents_with}
use Rattle.reply.specs.Reply.{reply_status}
use Rattle.rs232.specs.Checks.{command_by, write_by}
use Rattle.screen.proofs.Laws.{cut}
use Rattle.screen.specs.Text.{with_text, cells_after}
use Rattle.screen.specs.declared.Screen.{Screen}
use Rattle.serial.specs.Serial.{applied, output_after}
use Rattle.serial.specs.Verdict.{says}
use Rattle.serial.specs.declared.Effect.{Effect}
use Rattle.serial.specs.declared.Effect.TheVariants.{Keeps, Stores, Shows}
use Rattle.serial.specs.declared.Mode.{Mode}
use Rattle.serial.specs.declared.Mode.TheVariants.{Input, Output, Update}
use Rattle.serial.specs.declared.Opening.{Opening}
use Rattle.serial.specs.declared.Opening.TheVariants.{Closed, OpenFor}
use Rattle.serial.specs.declared.Reply.{Reply}
use Rattle.serial.specs.declared.Reply.TheVariants.{Silent, Status}
use Rattle.serial.specs.declared.Serial.{Serial}
use Rattle.serial.specs.declared.Verdict.{Verdict}
use Rattle.video.specs.Checks.{command_by as screenBy, write_by as shown_by}
use Rattle.whole.specs.Whole.{stored_of}
use Rattle.inside.specs.Inside.{Inside, taken_for}
use Rattle.inside.specs.Written.{outgoing, StoredBehind, WrittenBehind, WrittenShown, WrittenTwice, WrittenNone}
use Rattle.inside.proofs.Ors.{by_test, by_checks, with_code}

-- What is inside after an effect.
abbrev pub by_effect : Inside → List ℕ → Effect → Inside
by_effect x d effect = record { state = applied x.state effect d; input = x.input; output = output_after x.state effect d x.output }

pub stored-behind : StoredBehind
stored-behind kind x c n d l e h = ap (λ (effect : Effect). outgoing (by_effect x d effect)) e ∙ contents_with x.output x.state.output d l h

-- The verdicts on a write of n bytes: all is stored, in the room that there is, or shown, or none is.
data Write (n space : ℕ) : Kind → Verdict → Type 0 where
  all_stored : n ≤ space → Write n space SerialUnit (says (Status 0x00) Stores)
  all_shown : n ≤ 256 → Write n space VideoUnit (says (Status 0x00) Shows)
  none_stored : (kind : Kind) (r : Reply) → (reply_status r ≡ 0x00 → ⊥) → Write n space kind (says r Keeps)

module _ (n space : ℕ) where
  write-refused : (kind : Kind) (number : ℕ) → 1 ≤ number → Write n space kind (says (Status number) Keeps)
  write-refused kind number h = none_stored kind (Status number) (λ (e : number ≡ 0x00). omega arith)

  write-tested : Write n space SerialUnit (cond (ltb space n) (says (Status 0x08) Keeps) (says (Status 0x00) Stores))
  write-tested = by_test (Write n space SerialUnit) (ltb space n) _ _ (λ _. write-refused SerialUnit 0x08 (omega arith)) (λ e. all_stored (ltb-false space n e))

  write-mode : (m : Mode) → Write n space SerialUnit (write_by m n space)
  write-mode Input = write-refused SerialUnit 0x0E (omega arith)
  write-mode Output = write-tested
  write-mode Update = write-tested

  show-mode : n ≤ 256 → (m : Mode) → Write n space VideoUnit (shown_by m)
  show-mode h Input = write-refused VideoUnit 0x0E (omega arith)
  show-mode h Output = all_shown h
  show-mode h Update = all_shown h

-- The checks of each kind on it.
write_opening : (o : Opening) (s : Serial) (c : Command) (n : ℕ) (d : List ℕ) → Write n (room s.output) SerialUnit (command_by o s (with_code c 0x04) n d)
write_opening Closed s c n d = write-refused n (room s.output) SerialUnit 0x04 (omega arith)
write_opening (OpenFor m accepted) s c n d = write-mode n (room s.output) m

show_opening : (o : Opening) (s : Serial) (c : Command) (n : ℕ) (d : List ℕ) → n ≤ 256 → Write n (room s.output) VideoUnit (screenBy o s.screen (with_code c 0x04) n d)
show_opening Closed s c n d h = write-refused n (room s.output) VideoUnit 0x04 (omega arith)
show_opening (OpenFor m accepted) s c n d h = show-mode n (room s.output) h m

write_checked : (kind : Kind) (s : Serial) (c : Command) (n : ℕ) (d : List ℕ) → Write n (room s.output) kind (verdict_of kind s (with_code c 0x04) n d)
write_checked SerialUnit s c n d =
    by_checks (Write n (room s.output) SerialUnit) c.device n _
    (none_stored SerialUnit Silent (λ (e : 0xFF ≡ 0x00). omega arith)) (write-refused n (room s.output) SerialUnit 0x08 (omega arith)) (λ _. write_opening s.opening s c n d)
write_checked VideoUnit s c n d =
    by_checks (Write n (room s.output) VideoUnit) c.device n _
    (none_stored VideoUnit Silent (λ (e : 0xFF ≡ 0x00). omega arith)) (write-refused n (room s.output) VideoUnit 0x08 (omega arith)) (show_opening s.opening s c n d)

write_verdict : (kind : Kind) (s : Serial) (c : Command) (n : ℕ) (d : List ℕ) → c.command ≡ 0x04 → Write n (room s.output) kind (verdict_of kind s c n d)
write_verdict kind s c n d e = subst (λ (code : ℕ). Write n (room s.output) kind (verdict_of kind s (with_code c code) n d)) (sym e) (write_checked kind s c n d)

-- Data of up to 256 bytes is stored as a whole.
pub whole : (d : List ℕ) → length d ≤ 256 → stored_of d ≡ d
whole d short = ap (λ (t : Bool). cond t [] d) (le-ltb 256 (length d) short)

module _ (own : ℕ) (x : Inside) (c : Command) (d : List ℕ) where
  abbrev pub verdict : Verdict
  verdict = verdict_of (kind_of own) x.state c (length d) (stored_of d)

  abbrev IsKind : Kind → Kind → Type 0
  IsKind SerialUnit SerialUnit = Unit
  IsKind SerialUnit VideoUnit = ⊥
  IsKind VideoUnit SerialUnit = ⊥
  IsKind VideoUnit VideoUnit = Unit

  is-kind : (a : Kind) {b : Kind} → a ≡ b → IsKind a b
  is-kind SerialUnit e = subst (IsKind SerialUnit) e tt
  is-kind VideoUnit e = subst (IsKind VideoUnit) e tt

  written-by : (kind : Kind) (v : Verdict) → kind ≡ SerialUnit → verdict ≡ v → Write (length d) (room x.state.output) kind v → 256 ≤ length x.output → reply_status verdict.reply ≡ 0x00 → outgoing (taken_for own x c d) ≡ outgoing x ++ d
  written-by kind v k e (all_stored h) l s =
      let short : length d ≤ 256 = omega arith in
      stored-behind (kind_of own) x c (length d) (stored_of d) l (ap (λ (v : Verdict). v.effect) e) (subst (λ (y : List ℕ). length y ≤ room x.state.output) (sym (whole d short)) h)
      ∙ ap (λ (y : List ℕ). outgoing x ++ y) (whole d short)
  written-by kind v k e (all_shown h) l s = absurd (is-kind VideoUnit k)
  written-by kind v k e (none_stored same r z) l s = absurd (z (sym (ap (λ (v : Verdict). reply_status v.reply) e) ∙ s))

  abbrev Shown : Type 0
  Shown = ((taken_for own x c d).state.screen ≡ with_text x.state.screen d) × ((taken_for own x c d).output ≡ cells_after x.state.screen d x.output)

  shown_from : (kind : Kind) (v : Verdict) → kind ≡ VideoUnit → verdict ≡ v → Write (length d) (room x.state.output) kind v → reply_status verdict.reply ≡ 0x00 → Shown
  shown_from kind v k e (all_stored h) s = absurd (is-kind SerialUnit k)
  shown_from kind v k e (all_shown h) s = (
    ap (λ (v : Verdict). (by_effect x (stored_of d) v.effect).state.screen) e ∙ ap (with_text x.state.screen) (whole d h),
    ap (λ (v : Verdict). (by_effect x (stored_of d) v.effect).output) e ∙ ap (λ (y : List ℕ). cells_after x.state.screen y x.output) (whole d h),
  )
  shown_from kind v k e (none_stored same r z) s = absurd (z (sym (ap (λ (v : Verdict). reply_status v.reply) e) ∙ s))

  kept_by : (kind : Kind) (v : Verdict) → verdict ≡ v → Write (length d) (room x.state.output) kind v → (reply_status verdict.reply ≡ 0x00 → ⊥) → taken_for own x c d ≡ x
  kept_by kind v e (all_stored h) s = absurd (s (ap (λ (v : Verdict). reply_status v.reply) e))
  kept_by kind v e (all_shown h) s = absurd (s (ap (λ (v : Verdict). reply_status v.reply) e))
  kept_by kind v e (none_stored same r k) s = ap (λ (v : Verdict). by_effect x (stored_of d) v.effect) e

pub written_behind : WrittenBehind
written_behind own x c d k l e s = written-by own x c d (kind_of own) (verdict own x c d) k refl (write_verdict (kind_of own) x.state c (length d) (stored_of d) e) l s

pub written-shown : WrittenShown
written-shown own x c d k e s = shown_from own x c d (kind_of own) (verdict own x c d) k refl (write_verdict (kind_of own) x.state c (length d) (stored_of d) e) s

pub written_twice : WrittenTwice
written_twice own x c a b k on e first second once =
    let p = written-shown own x c a k e first in
    let q = written-shown own (taken_for own x c a) c b k e second in
    let r = written-shown own x c (a ++ b) k e once in
    let law = cut x.state.screen a b x.output on in
    (q.0 ∙ ap (λ (s : Screen). with_text s b) p.0 ∙ law.0 ∙ sym r.0, q.1 ∙ (λ i. cells_after (p.0 i) b (p.1 i)) ∙ law.1 ∙ sym r.1)

pub written_none : WrittenNone
written_none own x c d e s = kept_by own x c d (kind_of own) (verdict own x c d) refl (write_verdict (kind_of own) x.state c (length d) (stored_of d) e) s

-- A read's bytes and those that stay are what was queued; a unit that is opened with requested length 0 gives up to 128 of them at once.
use Prim.Native.Nat.{ℕ, ◌≤◌}
use native.Mathlib.Omega.{arith}
use mathlib.Core.Path.{◌≡◌, refl, sym, ◌∙◌, ap, subst}
use mathlib.Core.Bool.{cond}
use mathlib.Core.List.{List, ◌++◌}
use lib.Dec.{ltb, eqb}
use lib.ListN.{length, take, take-append-drop}
use lib.Seq.{take_all}
use Rattle.header.specs.declared.Command.{Command}
use Rattle.kind.specs.Kinds.{kind_of, verdict_of}
use Rattle.kind.specs.declared.Kind.{Kind}
use Rattle.kind.specs.declared.Kind.TheVariants.{Serial as SerialUnit}
use Rattle.queue.specs.Queue.{held}
use Rattle.queue.proofs.Laws.{contents_without, length-contents}
use Rattle.reply.specs.Reply.{reply_status}
use Rattle.rs232.specs.Checks.{mode_of, accepted_of, requested_in, attributes_in, opened_or, read_length, open_by, command_by}
use Rattle.std.specs.Prelude.{None, Result}
use Rattle.rs232.proofs.Laws.{each_status}
use Rattle.serial.specs.Serial.{applied}
use Rattle.serial.specs.Verdict.{says}
use Rattle.serial.specs.declared.Effect.TheVariants.{Keeps, Opens}
use Rattle.serial.specs.declared.Mode.{Mode}
use Rattle.serial.specs.declared.Mode.TheVariants.{Input, Output, Update}
use Rattle.serial.specs.declared.Opening.{Opening}
use Rattle.serial.specs.declared.Opening.TheVariants.{Closed, OpenFor}
use Rattle.serial.specs.declared.Reply.{Reply}
use Rattle.serial.specs.declared.Reply.TheVariants.{Silent, Status, Opened, Bytes}
use Rattle.serial.specs.declared.Serial.{Serial}
use Rattle.serial.specs.declared.Verdict.{Verdict}
use Rattle.whole.specs.Whole.{stored_of}
use Rattle.inside.specs.Inside.{Inside, incoming, data_in, taken_for, responded}
use Rattle.inside.specs.Read.{ReadInOrder, ReadAtOnce}
use Rattle.inside.proofs.Ors.{by_checks, with_code}
use Rattle.inside.proofs.Written.{by_effect, whole, verdict}

-- A verdict of this form, or one with another status than 00, which keeps all that is inside.
data Either (good : Verdict → Type 0) : Verdict → Type 0 where
  accepts : (v : Verdict) → good v → Either good v
  declines : (r : Reply) → (reply_status r ≡ 0x00 → ⊥) → Either good (says r Keeps)

declined : {good : Verdict → Type 0} (number : ℕ) → 1 ≤ number → Either good (says (Status number) Keeps)
declined number h = declines (Status number) (λ (e : number ≡ 0x00). omega arith)

-- With status 00 it is of that form.
accepted : {good : Verdict → Type 0} {v : Verdict} → Either good v → reply_status v.reply ≡ 0x00 → good v
accepted (accepts v g) e = g
accepted (declines r z) e = absurd (z e)

-- A read, where the unit is open: so many bytes.
data Reads (o : Opening) (s : Serial) (buffer : ℕ) : Verdict → Type 0 where
  reads : (m : Mode) (longest : ℕ) → o ≡ OpenFor m longest → Reads o s buffer (says (Bytes (read_length (held s.input) buffer longest)) Keeps)

read_opening : (o : Opening) (s : Serial) (c : Command) (n : ℕ) (d : List ℕ) → Either (Reads o s c.buffer_length) (command_by o s (with_code c 0x03) n d)
read_opening Closed s c n d = declined 0x04 (omega arith)
read_opening (OpenFor Input longest) s c n d = accepts _ (reads Input longest refl)
read_opening (OpenFor Output longest) s c n d = declined 0x0F (omega arith)
read_opening (OpenFor Update longest) s c n d = accepts _ (reads Update longest refl)

-- An open of 3 bytes of data.
data OpensWith (n : ℕ) (d : List ℕ) : Verdict → Type 0 where
  opens_with : n ≡ 3 → OpensWith n d (says (Opened (accepted_of (requested_in d))) (Opens (mode_of (attributes_in d)) (accepted_of (requested_in d))))

open_closed : (buffer n : ℕ) (d : List ℕ) → Either (OpensWith n d) (open_by buffer n (requested_in d) (attributes_in d))
open_closed buffer n d =
    each_status (λ (r : Result (Unit {0}) ℕ). Either (OpensWith n d) (opened_or r (says (Opened (accepted_of (requested_in d))) (Opens (mode_of (attributes_in d)) (accepted_of (requested_in d))))))
    None buffer n (requested_in d) (attributes_in d)
    (λ o. accepts _ (opens_with o.has_data))
    (λ k e. cc)
    (λ k p _. declines (Status k) (λ e. omega arith))

open_opening : (o : Opening) (s : Serial) (c : Command) (n : ℕ) (d : List ℕ) → Either (OpensWith n d) (command_by o s (with_code c 0x00) n d)
open_opening Closed s c n d = open_closed c.buffer_length n d
open_opening (OpenFor m longest) s c n d = declined 0x05 (omega arith)

-- By the checks before.
checked : (good : Verdict → Type 0) (device n : ℕ) (v : Verdict) → Either good v → Either good (cond (eqb device 0) (says Silent Keeps) (cond (ltb 256 n) (says (Status 0x08) Keeps) v))
checked good device n v g = by_checks (Either good) device n v (declines Silent (λ (e : 0xFF ≡ 0x00). omega arith)) (declined 0x08 (omega arith)) (λ _. g)

read_verdict : (s : Serial) (c : Command) (n : ℕ) (d : List ℕ) (kind : Kind) → kind ≡ SerialUnit → c.command ≡ 0x03 → Either (Reads s.opening s c.buffer_length) (verdict_of kind s c n d)
read_verdict s c n d kind k e =
    let P = Either (Reads s.opening s c.buffer_length) in
    subst (λ (same : Kind). P (verdict_of same s c n d)) (sym k)
    (subst (λ (code : ℕ). P (verdict_of SerialUnit s (with_code c code) n d)) (sym e)
    (checked (Reads s.opening s c.buffer_length) c.device n _ (read_opening s.opening s c n d)))

open_verdict : (s : Serial) (c : Command) (n : ℕ) (d : List ℕ) (kind : Kind) → kind ≡ SerialUnit → c.command ≡ 0x00 → Either (OpensWith n d) (verdict_of kind s c n d)
open_verdict s c n d kind k e =
    let P = Either (OpensWith n d) in
    subst (λ (same : Kind). P (verdict_of same s c n d)) (sym k)
    (subst (λ (code : ℕ). P (verdict_of SerialUnit s (with_code c code) n d)) (sym e)
    (checked (OpensWith n d) c.device n _ (open_opening s.opening s c n d)))

module _ (own : ℕ) (x : Inside) (c : Command) (d : List ℕ) where
  abbrev given : Verdict
  given = verdict own x c d

  -- What is read, and what stays behind it.
  abbrev both : Verdict → List ℕ
  both v = data_in x v.reply ++ incoming (responded (by_effect x (stored_of d) v.effect) v.reply)

  in_order : (v : Verdict) → given ≡ v → Reads x.state.opening x.state c.buffer_length v → both given ≡ incoming x
  in_order v e (reads m longest o) =
      let k = read_length (held x.state.input) c.buffer_length longest in
      ap both e ∙ ap (λ (rest : List ℕ). take k (incoming x) ++ rest) (contents_without x.input x.state.input k) ∙ take-append-drop k (incoming x)

  -- Of a unit that is open so, a read gets all.
  abbrev length_of : Opening → ℕ
  length_of Closed = 0
  length_of (OpenFor m longest) = longest

  at_once : (v : Verdict) (most : ℕ) → given ≡ v → Reads x.state.opening x.state c.buffer_length v → length_of x.state.opening ≡ most → length (incoming x) ≤ most → length (incoming x) ≤ c.buffer_length → data_in x given.reply ≡ incoming x
  at_once v most e (reads m longest o) l h g =
      let q = x.state.input in
      let same : longest ≡ most = sym (ap length_of o) ∙ l in
      let count : length (incoming x) ≡ held q = length-contents x.input q in
      ap (λ (v : Verdict). data_in x v.reply) e ∙ take_all (read_length (held q) c.buffer_length longest) (incoming x) (omega (arith, same, count))

  -- An open leaves the unit so.
  opened : (v : Verdict) → given ≡ v → OpensWith (length d) (stored_of d) v → requested_in d ≡ 0 → length_of (taken_for own x c d).state.opening ≡ 128
  opened v e (opens_with three) z =
      ap (λ (v : Verdict). length_of (applied x.state v.effect (stored_of d)).opening) e ∙ ap (λ (b : List ℕ). accepted_of (requested_in b)) (whole d (omega arith)) ∙ ap accepted_of z

pub read_in_order : ReadInOrder
read_in_order own x c d k e s = in_order own x c d (verdict own x c d) refl (accepted (read_verdict x.state c (length d) (stored_of d) (kind_of own) k e) s)

pub read_at_once : ReadAtOnce
read_at_once own x y c r d e k opening zero first stays reading second h g =
    let left = opened own x c d (verdict own x c d) refl (accepted (open_verdict x.state c (length d) (stored_of d) (kind_of own) k opening) first) zero in
    at_once own y r e (verdict own y r e) 128 refl (accepted (read_verdict y.state r (length e) (stored_of e) (kind_of own) k reading) second) (ap (length_of own y r e) stays ∙ left) h g

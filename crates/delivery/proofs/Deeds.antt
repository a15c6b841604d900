-- What a unit has done in a frame, by its phase, while the command is sent: each round adds to it what its line machine says.
use Prim.Native.Nat.{ℕ, zero, suc, ◌+◌, ◌*◌, ◌<◌, ◌≤◌}
use native.Mathlib.Omega.{arith}
use mathlib.Core.Path.{◌≡◌, refl, sym, ◌∙◌, ap, subst}
use mathlib.Core.Bool.{Bool, true, false, cond, true≢false}
use mathlib.Core.List.{List, [], ◌∷◌, ◌++◌, map, append-nil, append_assoc}
use borrow.Author.Tests.{ltb-true, ltb-false}
use lib.Dec.{ltb}
use lib.ListN.{length, take, get_or}
use lib.Seq.{take-suc, take_all}
use Rattle.bus.specs.declared.Station.{Station}
use Rattle.field.specs.Field.{nibbles}
use Rattle.field.proofs.Laws.{length-nibbles}
use Rattle.header.specs.declared.Command.{Command}
use Rattle.inside.specs.Inside.{Inside, inside_of, reply_for, data_in}
use Rattle.line.specs.Line.{hear_of, taken_of, is_ready}
use Rattle.line.specs.declared.Lines.{Lines}
use Rattle.line.specs.declared.Listener.{Listener}
use Rattle.line.specs.declared.Listener.TheVariants.{Ready}
use Rattle.line.specs.declared.Sender.{Sender}
use Rattle.line.specs.declared.Sender.TheVariants.{Next}
use Rattle.message.specs.Nibbles.{nibble_in}
use Rattle.phase.specs.Phase.{phase_step}
use Rattle.phase.specs.declared.Phase.{Phase}
use Rattle.phase.specs.declared.Phase.TheVariants.{Idle, Selecting, Receiving, Responding, SittingOut}
use Rattle.phase.specs.declared.Progress.TheVariants.{Taking, Answered}
use Rattle.reply.specs.Reply.{is_silent, reply_status}
use Rattle.serial.specs.declared.Reply.{Reply}
use Rattle.unit.specs.Unit.{pulls_hsk}
use Rattle.whole.specs.Back.{response_for}
use Rattle.whole.specs.Whole.{bytes_for, Sent}
use Rattle.whole.proofs.Whole.{length_bytes}
use Rattle.delivery.proofs.Taking.{Heard, h_none, h_first, h_byte, h_half}
use Rattle.delivery.specs.Lists.{Has, here, there}
use Rattle.delivery.specs.Log.{Deed, took, settled, spoke, deeds_by, settled_by}
use Rattle.delivery.proofs.Stages.{is_answered, Fresh, idles, selects, addressed, Part, listens, answers, sits}
use Rattle.delivery.proofs.Frame.{fresh_selects}
use Rattle.delivery.proofs.Heard.{Pair, rests, takes, sends, pair, Waits, waits, heard_waits, Takes, takes_it, Fixed, heard-takes, heard-last, heard-other}
use Rattle.delivery.proofs.Part.{Stepped, Shows, sees, heard_hsk, heard_open}

abbrev pub nibbles_for : Command → List ℕ → List ℕ
nibbles_for c d = nibbles (bytes_for c d)

abbrev pub answer_for : Command → List ℕ → ℕ → Inside → List ℕ
answer_for c d own x = nibbles (response_for (data_in x (reply_for own x c d)) (reply_status (reply_for own x c d)))

-- A unit that sits out while others respond.
pub data Hush (c : Command) (d : List ℕ) (own : ℕ) (e : List Deed) : Type 0 where
  not_meant : addressed c own ≡ false → e ≡ map took (take 2 (nibbles_for c d)) → Hush c d own e
  by_rule : (x : Inside) → addressed c own ≡ true → is_silent (reply_for own x c d) ≡ true → e ≡ map took (nibbles_for c d) ++ (settled x ∷ []) → Hush c d own e

-- A unit whose answer stands, of which j nibbles count as sent.
pub record Stands (c : Command) (d : List ℕ) (own : ℕ) (r : Reply) (j : ℕ) (e : List Deed) : Type 0 where
  pub given : Inside
  pub meant : addressed c own ≡ true
  pub said : r ≡ reply_for own given c d
  pub deeds : e ≡ map took (nibbles_for c d) ++ (settled given ∷ map spoke (take j (answer_for c d own given)))

abbrev pub Did : Command → List ℕ → ℕ → Phase → List Deed → Type 0
Did c d own Idle e = e ≡ []
Did c d own (Selecting ear half low) e = e ≡ map took (take (cond half 1 0) (nibbles_for c d))
Did c d own (Receiving ear (Taking p)) e = (addressed c own ≡ true) × (e ≡ map took (take (2 * p.place + cond p.half 1 0) (nibbles_for c d)))
Did c d own (Receiving ear (Answered r)) e = Stands c d own r 0 e
Did c d own (Responding r j sender wait) e = Stands c d own r j e × (is_silent r ≡ false)
Did c d own (SittingOut last) e = Hush c d own e

-- Lists of deeds.
pub map-append : {A B : Type 0} (f : A → B) (xs ys : List A) → map f (xs ++ ys) ≡ map f xs ++ map f ys
map-append f [] ys = refl
map-append {A} {B} f (x ∷ xs) ys = ap (λ (r : List B). f x ∷ r) (map-append f xs ys)

pub one_more : {B : Type 0} (f : ℕ → B) (xs : List ℕ) (k n : ℕ) (e : List B) → k < length xs → n ≡ get_or xs k 15 → e ≡ map f (take k xs) → e ++ (f n ∷ []) ≡ map f (take (suc k) xs)
one_more {B} f xs k n e h q z =
    (λ i. z i ++ (f (q i) ∷ [])) ∙ sym (map-append f (take k xs) (get_or xs k 15 ∷ [])) ∙ ap (map f) (sym (take-suc xs k 15 h))

pub twice_as_many : (c : Command) (d : List ℕ) → length (nibbles_for c d) ≡ 2 * length (bytes_for c d)
twice_as_many c d = let n = length-nibbles (bytes_for c d) in omega arith

pub has_settled : {x : Inside} (xs : List ℕ) (rest : List Deed) → Has (settled x) (map took xs ++ (settled x ∷ rest))
has_settled [] rest = here
has_settled (n ∷ xs) rest = there (has_settled xs rest)

-- What a unit that listens has taken.
module _ (c : Command) (d : List ℕ) (own : ℕ) where
  pub heard-did : {ear : Listener} {k : ℕ} {phase : Phase} {buffer : List ℕ} {e : List Deed} → Heard (bytes_for c d) ear k phase buffer → Did c d own phase e → e ≡ map took (take k (nibbles_for c d))
  heard-did (h_none room) q = q
  heard-did (h_first room) q = q
  heard-did (h_byte j buffer room g h) q = q.1 ∙ ap (λ (k : ℕ). map took (take k (nibbles_for c d))) (nothing j)
    where
      nothing : (j : ℕ) → 2 * j + 0 ≡ 2 * j
      nothing j = omega arith
  heard-did (h_half j buffer room g h) q = q.1 ∙ ap (λ (k : ℕ). map took (take k (nibbles_for c d))) (one j)
    where
      one : (j : ℕ) → 2 * j + 1 ≡ suc (2 * j)
      one j = omega arith

  pub did-heard : {ear : Listener} {k : ℕ} {phase : Phase} {buffer : List ℕ} {e : List Deed} → Heard (bytes_for c d) ear k phase buffer → (2 ≤ k → addressed c own ≡ true) → e ≡ map took (take k (nibbles_for c d)) → Did c d own phase e
  did-heard (h_none room) a q = q
  did-heard (h_first room) a q = q
  did-heard (h_byte j buffer room g h) a q = (a (omega arith), q ∙ ap (λ (k : ℕ). map took (take k (nibbles_for c d))) (nothing j))
    where
      nothing : (j : ℕ) → 2 * j ≡ 2 * j + 0
      nothing j = omega arith
  did-heard (h_half j buffer room g h) a q = (a (omega arith), q ∙ ap (λ (k : ℕ). map took (take k (nibbles_for c d))) (one j))
    where
      one : (j : ℕ) → suc (2 * j) ≡ 2 * j + 1
      one j = omega arith

-- The deeds of one round.
settled_no : (next : Phase) (x : Inside) → is_answered next ≡ false → settled_by next x ≡ []
settled_no Idle x e = refl
settled_no (Selecting ear half low) x e = refl
settled_no (Receiving ear (Taking p)) x e = refl
settled_no (Receiving ear (Answered r)) x e = absurd (true≢false e)
settled_no (Responding r j sender wait) x e = refl
settled_no (SittingOut last) x e = refl

rests_deeds : {bytes : List ℕ} {ear : Listener} {k : ℕ} {phase : Phase} {buffer : List ℕ} (seen : Lines) (next : Phase) (x : Inside) → Heard bytes ear k phase buffer → taken_of ear seen.hsk ≡ false → deeds_by phase next x seen ≡ []
rests_deeds seen next x (h_none room) e = rw e
rests_deeds seen next x (h_first room) e = rw e
rests_deeds seen next x (h_byte j buffer room g h) e = rw e
rests_deeds seen next x (h_half j buffer room g h) e = rw e

takes_deeds : {bytes : List ℕ} {k : ℕ} {phase : Phase} {buffer : List ℕ} (seen : Lines) (next : Phase) (x : Inside) → Heard bytes Ready k phase buffer → seen.hsk ≡ true
    → is_answered next ≡ false → deeds_by phase next x seen ≡ took seen.nibble ∷ []
takes_deeds seen next x (h_none room) e a = rw e
takes_deeds seen next x (h_first room) e a = rw e
takes_deeds seen next x (h_byte j buffer room g h) e a = λ i. cond (e i) (took seen.nibble ∷ settled_no next x a i) []
takes_deeds seen next x (h_half j buffer room g h) e a = λ i. cond (e i) (took seen.nibble ∷ settled_no next x a i) []

last_deeds : {bytes : List ℕ} {k : ℕ} {phase : Phase} {buffer : List ℕ} {ear : Listener} {r : Reply} (seen : Lines) (next : Phase) (x : Inside) → Heard bytes Ready k phase buffer
    → 2 ≤ k → seen.hsk ≡ true → next ≡ Receiving ear (Answered r)
    → deeds_by phase next x seen ≡ took seen.nibble ∷ settled x ∷ []
last_deeds seen next x (h_none room) l e q = absurd (omega arith)
last_deeds seen next x (h_first room) l e q = absurd (omega arith)
last_deeds seen next x (h_byte j buffer room g h) l e q = λ i. cond (e i) (took seen.nibble ∷ settled_by (q i) x) []
last_deeds seen next x (h_half j buffer room g h) l e q = λ i. cond (e i) (took seen.nibble ∷ settled_by (q i) x) []

-- A round of a unit while the command is sent.
module _ (c : Command) (d : List ℕ) {st st' : Station} {seen : Lines} {busy : Bool} (step : Stepped st seen busy st') (e : List Deed) where
  abbrev own : ℕ
  own = st.unit.own

  abbrev newly : List Deed
  newly = deeds_by st.unit.phase st'.unit.phase (inside_of st) seen

  -- Where it does nothing, what was said of its phase is said of the next.
  pub nothing-new : {after : Phase} → st'.unit.phase ≡ after → newly ≡ [] → Did c d own after e → Did c d own st'.unit.phase (e ++ newly)
  nothing-new {after} p z q = subst (λ (x : Phase). Did c d own x (e ++ newly)) (sym p) (subst (Did c d own after) (sym (ap (λ (n : List Deed). e ++ n) z ∙ append-nil e)) q)

  module _ {x : Phase} (z : st.unit.phase ≡ x) where
    phase-at : st'.unit.phase ≡ (phase_step x own st.unit.serial seen busy st.buffer st.input).phase
    phase-at = step.phase ∙ ap (λ (y : Phase). (phase_step y own st.unit.serial seen busy st.buffer st.input).phase) z

    newly-at : newly ≡ deeds_by x st'.unit.phase (inside_of st) seen
    newly-at = ap (λ (y : Phase). deeds_by y st'.unit.phase (inside_of st) seen) z

    did_at : Did c d own st.unit.phase e → Did c d own x e
    did_at q = subst (λ (y : Phase). Did c d own y e) z q

  pub sits-did : {now : Bool} → st.unit.phase ≡ SittingOut now → Did c d own st.unit.phase e → Did c d own st'.unit.phase (e ++ newly)
  sits-did z q = nothing-new (phase-at z) (newly-at z) (did_at z q)

  pub fresh_did : seen.hsk ≡ false → Fresh st → e ≡ [] → Did c d own st'.unit.phase (e ++ newly)
  fresh_did high f q = nothing-new (fresh_selects step high f) (by f) q
    where
      by : Fresh st → newly ≡ []
      by (idles z) = newly-at z
      by (selects z) = newly-at z ∙ rw high

  -- The last nibble counts as sent, or not yet.
  replied-by : (t : Bool) (ear : Listener) (r : Reply) → is_silent r ≡ t → is_ready (hear_of ear seen.hsk busy) ≡ true → st.unit.phase ≡ Receiving ear (Answered r)
      → Did c d own st.unit.phase e → Did c d own st'.unit.phase (e ++ newly)
  replied-by true ear r s ready z q =
      let k : Stands c d own r 0 e = did_at z q in
      nothing-new {after = SittingOut false} (phase-at z ∙ rw (ready, s)) (newly-at z) (by_rule k.given k.meant (sym (ap is_silent k.said) ∙ s) k.deeds)
  replied-by false ear r s ready z q = nothing-new {after = Responding r 0 Next true} (phase-at z ∙ rw (ready, s)) (newly-at z) (did_at z q, s)

  answered-did : (t : Bool) (ear : Listener) (r : Reply) → is_ready (hear_of ear seen.hsk busy) ≡ t → st.unit.phase ≡ Receiving ear (Answered r) → Did c d own st.unit.phase e → Did c d own st'.unit.phase (e ++ newly)
  answered-did true ear r ready z q = replied-by (is_silent r) ear r refl ready z q
  answered-did false ear r ready z q = nothing-new {after = Receiving (hear_of ear seen.hsk busy) (Answered r)} (phase-at z ∙ rw ready) (newly-at z) (did_at z q)

  module _ (P : Reply → Inside → Type 0) (ok : Sent c d) (i : ℕ) (sender : Sender) where
    abbrev n : ℕ
    n = nibble_in (bytes_for c d) i

    nine : length (bytes_for c d) ≡ 9 + length d
    nine = length_bytes c d

    rests-so : {ear ear' : Listener} {k : ℕ} → Heard (bytes_for c d) ear k st.unit.phase st.buffer → taken_of ear seen.hsk ≡ false → (2 ≤ k → addressed c own ≡ true) → Did c d own st.unit.phase e
        → Waits (bytes_for c d) k ear' st.unit.phase own (inside_of st) seen busy st.buffer → Did c d own st'.unit.phase (e ++ newly)
    rests-so h t a q (waits after h' r) = nothing-new (step.phase ∙ r.phase) (rests_deeds seen st'.unit.phase (inside_of st) h t) (did-heard c d own h' a (heard-did c d own h q))

    module _ (h : Heard (bytes_for c d) Ready i st.unit.phase st.buffer) (low : seen.hsk ≡ true) (nib : seen.nibble ≡ n) (less : i < 2 * length (bytes_for c d)) (q : Did c d own st.unit.phase e) where
      taken-one : e ++ (took seen.nibble ∷ []) ≡ map took (take (suc i) (nibbles_for c d))
      taken-one = let t = twice_as_many c d in one_more took (nibbles_for c d) i seen.nibble e (omega arith) nib (heard-did c d own h q)

      one-new : {after : Phase} → st'.unit.phase ≡ after → is_answered after ≡ false → newly ≡ took seen.nibble ∷ []
      one-new p a = takes_deeds seen st'.unit.phase (inside_of st) h low (ap is_answered p ∙ a)

      more : (2 ≤ suc i → addressed c own ≡ true) → Takes (bytes_for c d) i st.unit.phase own (inside_of st) seen busy st.buffer → Did c d own st'.unit.phase (e ++ newly)
      more a (takes_it after b h' r) =
          let p = step.phase ∙ r.phase in
          subst (λ (x : Phase). Did c d own x (e ++ newly)) (sym p) (did-heard c d own h' a (ap (λ (l : List Deed). e ++ l) (one-new p (heard_open h')) ∙ taken-one))

      all-taken : suc i ≡ 2 * length (bytes_for c d) → map took (take (suc i) (nibbles_for c d)) ≡ map took (nibbles_for c d)
      all-taken l = let t = twice_as_many c d in ap (map took) (take_all (suc i) (nibbles_for c d) (omega arith))

      last : addressed c own ≡ true → suc i ≡ 2 * length (bytes_for c d) → Fixed c d st.unit.phase own (inside_of st) seen busy st.buffer → Did c d own st'.unit.phase (e ++ newly)
      last a l x =
          let p = step.phase ∙ x.phase in
          let k = nine in
          let new : newly ≡ took seen.nibble ∷ settled (inside_of st) ∷ [] = last_deeds seen st'.unit.phase (inside_of st) h (omega arith) low p in
          let whole : e ++ newly ≡ map took (nibbles_for c d) ++ (settled (inside_of st) ∷ []) =
          ap (λ (l : List Deed). e ++ l) new ∙ sym (append_assoc e (took seen.nibble ∷ []) (settled (inside_of st) ∷ [])) ∙ ap (λ (l : List Deed). l ++ (settled (inside_of st) ∷ [])) (taken-one ∙ all-taken l) in
          subst (λ (y : Phase). Did c d own y (e ++ newly)) (sym p) (record { given = inside_of st; meant = a; said = refl; deeds = whole })

      by-taking : (b t : Bool) → addressed c own ≡ b → ltb (suc i) (2 * length (bytes_for c d)) ≡ t → (2 ≤ i → addressed c own ≡ true) → Did c d own st'.unit.phase (e ++ newly)
      by-taking true true a l z = more (λ _. a) (heard-takes c d ok own (inside_of st) seen busy low h nib (ltb-true (suc i) (2 * length (bytes_for c d)) l) (λ _. a))
      by-taking true false a l z =
          let all : 2 * length (bytes_for c d) ≤ suc i = ltb-false (suc i) (2 * length (bytes_for c d)) l in
          last a (omega arith) (heard-last c d ok own (inside_of st) seen busy low h nib (omega arith))
      by-taking false t a l z = other i refl
        where
          other : (k : ℕ) → k ≡ i → Did c d own st'.unit.phase (e ++ newly)
          other zero w = let k = nine in more (λ two. absurd (omega arith)) (heard-takes c d ok own (inside_of st) seen busy low h nib (omega arith) (λ e'. absurd (omega arith)))
          other (suc zero) w =
              let r = heard-other c d ok own (inside_of st) seen busy low h (sym w) (nib ∙ ap (nibble_in (bytes_for c d)) (sym w)) a in
              let p = step.phase ∙ r.phase in
              subst (λ (x : Phase). Did c d own x (e ++ newly)) (sym p)
              (not_meant a (ap (λ (l : List Deed). e ++ l) (one-new p refl) ∙ taken-one ∙ ap (λ (k : ℕ). map took (take (suc k) (nibbles_for c d))) (sym w)))
          other (suc (suc k)) w = absurd (true≢false (sym (z (omega arith)) ∙ a))

    pub part-did : Shows sender seen → (pulls_hsk st.unit.phase ≡ true → seen.hsk ≡ true) → i < 2 * length (bytes_for c d) → Part P c d i sender st → Did c d own st.unit.phase e → Did c d own st'.unit.phase (e ++ newly)
    part-did shows mine less (listens ear t f h a k) q = by (pair seen.hsk seen.nibble busy f (sees sender ear seen shows (λ z. mine (heard_hsk h ∙ z))))
      where
        by : Pair n sender ear t seen.hsk seen.nibble busy → Did c d own st'.unit.phase (e ++ newly)
        by (rests e1 e2 g) = rests-so h e1 a q (heard_waits own (inside_of st) seen busy h e1)
        by (takes e1 e2 e3 e4 e5 g) =
            let s : i + t ≡ i = omega arith in
            let h' = subst (λ (x : ℕ). Heard (bytes_for c d) Ready x st.unit.phase st.buffer) s (subst (λ (x : Listener). Heard (bytes_for c d) x (i + t) st.unit.phase st.buffer) e1 h) in
            by-taking h' e2 e3 less q (addressed c own) (ltb (suc i) (2 * length (bytes_for c d))) refl refl (λ l. a (omega arith))
        by (sends e1 e2 e3 e4 e5) = rests-so h e1 a q (heard_waits own (inside_of st) seen busy h e1)
    part-did shows mine less (answers ear r f l a z k p) q = answered-did (is_ready (hear_of ear seen.hsk busy)) ear r refl z q
    part-did shows mine less (sits now a z k p) q = sits-did z q

-- What was put into a word is what is read from it, and what is put back where it stood changes nothing; a list of words, word by word.
use Prim.Native.Nat.{ℕ, zero, suc, ◌+◌, ◌*◌, ◌/◌, ◌%◌, ◌≤◌, ◌<◌}
use native.Mathlib.Nat.{add_comm, add-mul-mod_self_right, mod-eq_of_lt, mod-add-div'}
use native.Mathlib.Omega.{arith}
use mathlib.Core.Path.{◌≡◌, refl, sym, ◌∙◌, ap}
use mathlib.Core.Bool.{Bool, true, false, cond}
use mathlib.Core.List.{List, [], ◌∷◌}
use borrow.Author.Tests.{eq-eqb, ne_eqb, eqb-true, eqb-false, ltb-true, ltb-false}
use lib.Dec.{ltb, eqb}
use lib.ListN.{length, drop, get_or, set, drop_of_length-le}
use lib.Seq.{drop-cons, get_or-set_other, set-get_or}
use Rattle.header.specs.Header.{InRange}
use Rattle.header.specs.declared.Command.{Command}
use Rattle.line.specs.declared.Listener.{Listener}
use Rattle.line.specs.declared.Listener.TheVariants.{Ready, Holding, Waiting}
use Rattle.line.specs.declared.Sender.{Sender}
use Rattle.line.specs.declared.Sender.TheVariants.{Next, Placed, Kept}
use Rattle.words.specs.Words.{at, number_in, flag_of, bit, flag_in, tag_of, tag_in, listener_of, listener_tag, listener_in, sender_of, sender_tag, sender_in, nibble_in, command_of}
use Rattle.words.specs.Ranges.{SenderFits, next, placed, kept}

-- What stands beside a word that is written; and a word that is put back where it stood is not written.
pub past : (l : List ℕ) (i j v : ℕ) → eqb j i ≡ false → at (set l i v) j ≡ at l j
past l i j v h = get_or-set_other l i j v 0 (eqb-false j i h)

pub put_back : (l : List ℕ) (i v : ℕ) → at l i ≡ v → set l i v ≡ l
put_back l i v h = ap (set l i) (sym h) ∙ set-get_or l i 0

-- A number of any width.
pub back : (m word n : ℕ) → n < m → number_in m word n % m ≡ n
back m word n h = ap (λ (k : ℕ). k % m) (add_comm (word / m * m) n) ∙ add-mul-mod_self_right n (word / m) m ∙ mod-eq_of_lt h

pub again : (m word : ℕ) → number_in m word (word % m) ≡ word
again m word = add_comm (word / m * m) (word % m) ∙ mod-add-div' word m

-- A flag.
pub flag_back : (word : ℕ) (b : Bool) → flag_of (flag_in word b) ≡ b
flag_back word true = let e : (word / 2 * 2 + 1) % 2 ≡ 1 = omega arith in rw e
flag_back word false = let e : (word / 2 * 2 + 0) % 2 ≡ 0 = omega arith in rw e

pub odd : (word : ℕ) → bit (flag_of word) ≡ word % 2
odd word = by-parity (word % 2) (omega arith)
  where
    by-parity : (p : ℕ) → p < 2 → bit (eqb p 1) ≡ p
    by-parity zero h = refl
    by-parity (suc zero) h = refl
    by-parity (suc (suc p)) h = absurd (omega arith)

pub flag_again : (word : ℕ) (b : Bool) → flag_of word ≡ b → flag_in word b ≡ word
flag_again word b h = ap (λ (x : Bool). flag_in word x) (sym h) ∙ ap (number_in 2 word) (odd word) ∙ again 2 word

-- A tag.
pub tag_again : (cases word tag : ℕ) → tag_of cases word ≡ tag → tag_in cases word tag ≡ word
tag_again cases word tag h = rw (eq-eqb (tag_of cases word) tag h)

pub tag_back : {A : Type 0} (of : ℕ → A) (cases : ℕ) → ((word : ℕ) → of word ≡ of (tag_of cases word)) → (word tag : ℕ) → of (tag_in cases word tag) ≡ of tag
tag_back of cases meant word tag = by_test (eqb (tag_of cases word) tag) refl
  where
    by_test : (t : Bool) → eqb (tag_of cases word) tag ≡ t → of (cond t word tag) ≡ of tag
    by_test true e = meant word ∙ ap of (eqb-true (tag_of cases word) tag e)
    by_test false e = refl

-- A tag is one of its cases.
pub tag_below : (cases word : ℕ) → 0 < cases → tag_of cases word < cases
tag_below cases word h = by_test (ltb word cases) refl
  where
    by_test : (t : Bool) → ltb word cases ≡ t → cond t word 0 < cases
    by_test true e = ltb-true word cases e
    by_test false e = h

-- A tag that is not the first stands in its word as it is.
pub tag_set : (cases word tag : ℕ) → eqb tag 0 ≡ false → tag_in cases word tag ≡ tag
tag_set cases word tag other = by_test (eqb (tag_of cases word) tag) refl
  where
    known : (t : Bool) → ltb word cases ≡ t → cond t word 0 ≡ tag → word ≡ tag
    known true l e = e
    known false l e = absurd (eqb-false tag 0 other (sym e))

    by_test : (t : Bool) → eqb (tag_of cases word) tag ≡ t → cond t word tag ≡ tag
    by_test true e = known (ltb word cases) refl (eqb-true (tag_of cases word) tag e)
    by_test false e = refl

-- A word that no save makes: it is none of the tags.
pub none_of : (word cases k : ℕ) → cases ≤ word → k < cases → eqb word k ≡ false
none_of word cases k h l = ne_eqb word k (λ e. omega arith)

pub tag_meant : {A : Type 0} (of : ℕ → A) (cases word : ℕ) → (cases ≤ word → of word ≡ of 0) → of word ≡ of (tag_of cases word)
tag_meant of cases word h = by_test (ltb word cases) refl
  where
    by_test : (t : Bool) → ltb word cases ≡ t → of word ≡ of (cond t word 0)
    by_test true e = refl
    by_test false e = h (ltb-false word cases e)

pub tag_is : (tag : ℕ → ℕ) (cases word : ℕ) → (cases ≤ word → tag word ≡ 0) → ((k : ℕ) → k < cases → tag k ≡ k) → tag_of cases word ≡ tag word
tag_is tag cases word h same = by_test (ltb word cases) refl
  where
    by_test : (t : Bool) → ltb word cases ≡ t → cond t word 0 ≡ tag word
    by_test true e = sym (same word (ltb-true word cases e))
    by_test false e = sym (h (ltb-false word cases e))

-- A word that is a tag means it; one that is none of the others means the first.
pub tag_of_lem : (cases word tag : ℕ) → eqb word tag ≡ true → ltb tag cases ≡ true → tag_of cases word ≡ tag
tag_of_lem cases word tag e l = let same : word ≡ tag = eqb-true word tag e in rw (same, l)

-- A listener.
listener_meant : (word : ℕ) → listener_of word ≡ listener_of (tag_of 3 word)
listener_meant word = tag_meant listener_of 3 word (λ h. rw (none_of word 3 1 h (omega arith), none_of word 3 2 h (omega arith)))

listener_tag_lem : (word : ℕ) → tag_of 3 word ≡ listener_tag (listener_of word)
listener_tag_lem word = tag_is (λ (w : ℕ). listener_tag (listener_of w)) 3 word (λ h. rw (none_of word 3 1 h (omega arith), none_of word 3 2 h (omega arith))) same
  where
    same : (k : ℕ) → k < 3 → listener_tag (listener_of k) ≡ k
    same zero h = refl
    same (suc zero) h = refl
    same (suc (suc zero)) h = refl
    same (suc (suc (suc n))) h = absurd (omega arith)

pub listener_back : (word : ℕ) (ear : Listener) → listener_of (listener_in word ear) ≡ ear
listener_back word Ready = tag_back listener_of 3 listener_meant word 0
listener_back word Holding = tag_back listener_of 3 listener_meant word 1
listener_back word Waiting = tag_back listener_of 3 listener_meant word 2

pub listener_again : (word : ℕ) → listener_in word (listener_of word) ≡ word
listener_again word = tag_again 3 word (listener_tag (listener_of word)) (listener_tag_lem word)

-- A listener that is ready.
pub ready_tag : (word : ℕ) → eqb word 1 ≡ false → eqb word 2 ≡ false → tag_of 3 word ≡ 0
ready_tag word one two = listener_tag_lem word ∙ rw (one, two)

-- A sender.
sender_meant : (nibble word : ℕ) → sender_of word nibble ≡ sender_of (tag_of 3 word) nibble
sender_meant nibble word = tag_meant (λ (w : ℕ). sender_of w nibble) 3 word (λ h. rw (none_of word 3 1 h (omega arith), none_of word 3 2 h (omega arith)))

sender_tag_lem : (word nibble : ℕ) → tag_of 3 word ≡ sender_tag (sender_of word nibble)
sender_tag_lem word nibble = tag_is (λ (w : ℕ). sender_tag (sender_of w nibble)) 3 word (λ h. rw (none_of word 3 1 h (omega arith), none_of word 3 2 h (omega arith))) same
  where
    same : (k : ℕ) → k < 3 → sender_tag (sender_of k nibble) ≡ k
    same zero h = refl
    same (suc zero) h = refl
    same (suc (suc zero)) h = refl
    same (suc (suc (suc n))) h = absurd (omega arith)

pub sender_back : (word nibble : ℕ) (s : Sender) → SenderFits s → sender_of (sender_in word s) (nibble_in nibble s) ≡ s
sender_back word nibble s next = tag_back (λ (w : ℕ). sender_of w nibble) 3 (sender_meant nibble) word 0
sender_back word nibble s (placed {n} h) = tag_back (λ (w : ℕ). sender_of w (number_in 256 nibble n)) 3 (sender_meant (number_in 256 nibble n)) word 1 ∙ ap Placed (back 256 nibble n h)
sender_back word nibble s (kept {n} h) = tag_back (λ (w : ℕ). sender_of w (number_in 256 nibble n)) 3 (sender_meant (number_in 256 nibble n)) word 2 ∙ ap Kept (back 256 nibble n h)

pub sender_again : (word nibble : ℕ) → sender_in word (sender_of word nibble) ≡ word
sender_again word nibble = tag_again 3 word (sender_tag (sender_of word nibble)) (sender_tag_lem word nibble)

pub nibble_again : (word nibble : ℕ) → nibble_in nibble (sender_of word nibble) ≡ nibble
nibble_again word nibble = by-tag (eqb word 1) (eqb word 2)
  where
    by-tag : (a b : Bool) → nibble_in nibble (cond a (Placed (nibble % 256)) (cond b (Kept (nibble % 256)) Next)) ≡ nibble
    by-tag true b = again 256 nibble
    by-tag false true = again 256 nibble
    by-tag false false = refl

-- A command.
pub command_back : (d c l r b : ℕ) (k : Command) → InRange k
    → command_of (number_in 256 d k.device) (number_in 256 c k.command) (number_in 256 l k.logical_unit) (number_in 65536 r k.record_number) (number_in 65536 b k.buffer_length) ≡ k
command_back d c l r b k h = λ i. record {
  device = back 256 d k.device h.device i;
  command = back 256 c k.command h.command i;
  logical_unit = back 256 l k.logical_unit h.unit i;
  record_number = back 65536 r k.record_number h.number i;
  buffer_length = back 65536 b k.buffer_length h.buffer i;
}

-- What a save writes over words that mean the same already.
pub ruleset unchanged = (past, put_back, again, flag_again, listener_again, sender_again, nibble_again)

-- The elements of a list from place i on, so many of them.
abbrev pub elements_from : {A : Type 0} → A → ℕ → ℕ → List A → List A
elements_from d zero i l = []
elements_from d (suc n) i l = get_or l i d ∷ elements_from d n (suc i) l

elements-from : {A : Type 0} (d : A) (n i : ℕ) (l : List A) → i + n ≡ length l → drop i l ≡ elements_from d n i l
elements-from d zero i l e = drop_of_length-le l {i = i} (omega arith)
elements-from d (suc n) i l e =
    let within : i < length l = omega arith in
    drop-cons l i d within ∙ ap (λ (r : List _). get_or l i d ∷ r) (elements-from d n (suc i) l (omega arith))

pub one_by_one : {A : Type 0} (d : A) (n : ℕ) (l : List A) → length l ≡ n → l ≡ elements_from d n 0 l
one_by_one d n l e = elements-from d n 0 l (omega arith)

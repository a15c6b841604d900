-- Both round trips, once for every format. Reading a message's own bytes: each part is at its place, by the lengths before it.
-- Writing what was read: the parts that reading cut, put together again, are the slice.
use Prim.Native.Nat.{ℕ, ◌+◌, ◌-◌, ◌^◌, ◌<◌, ◌≤◌}
use native.Mathlib.Omega.{arith}
use mathlib.Core.Path.{◌≡◌, refl, sym, ◌∙◌, ap, subst}
use mathlib.Core.Bool.{Bool, true, false, cond}
use mathlib.Core.List.{List, [], ◌++◌, append_assoc, append-nil}
use borrow.Author.Tests.{ltb-false}
use lib.Dec.{ltb, lit<}
use lib.ListN.{length, take, drop, length-append, length-drop, take-append-drop}
use lib.Seq.{take_at, drop_at, drop-drop, length-take-le, take_all}
use Rattle.field.specs.Field.{field, value_of, Below}
use Rattle.field.proofs.Laws.{length_digits, number_below}
use Rattle.message.specs.Answer.{Answer, gives, refused}
use Rattle.message.specs.Format.{Format, Message, laid, head_of, end_of, bytes_of, size, start, least}
use Rattle.message.specs.Reading.{values_in, announced, message_in, checking, read_by, reading}
use Rattle.message.specs.Writing.{writing, written_as, left}
use Rattle.message.specs.RoundTrip.{Fit, ReadWritten, WrittenRead}
use Rattle.message.proofs.Fields.{length-laid, value_at, values_laid, below_take, below_drop, field_value, laid_values}
use Rattle.message.proofs.Readings.{check-whole, found-whole}
use Rattle.message.proofs.Writings.{write-whole}

-- What a reader and a writer that did not refuse had found.
was_read : (f : Format) (s : List ℕ) (m : Message) (a : Answer ℕ) → read_by a f s ≡ gives m → (n : ℕ) × (a ≡ gives n) × (message_in f n s ≡ m)
was_read f s m (gives n) e = (n, refl, (cc))
was_read f s m (refused k) e = absurd (let z : ◌≡◌ {A = ℕ} 0 1 = cc in omega arith)

was_written : (t u : Bool) (x n : ℕ) → cond t (refused 2) (cond u (refused 11) (gives x)) ≡ gives n → (t ≡ false) × (x ≡ n)
was_written true u x m e = absurd (let z : ◌≡◌ {A = ℕ} 0 1 = cc in omega arith)
was_written false true x m e = absurd (let z : ◌≡◌ {A = ℕ} 0 1 = cc in omega arith)
was_written false false x m e = (refl, (cc))

module _ (f : Format) where
  length_bytes : (m : Message) → length (bytes_of f m) ≡ least f + length m.«data»
  length_bytes m = simp (length-append, length-laid, length_digits) (omega arith)

  -- What the fields take.
  fields-size : (m : Message) → length (head_of f m.before (length m.«data»)) + length (end_of f m.after) ≡ least f
  fields-size m = simp (length-append, length-laid, length_digits)

  -- What is behind the fields, what is behind the data length, and what that announces.
  module _ (m : Message) where
    in_parts : bytes_of f m ≡ laid f.before m.before ++ (field 2 (length m.«data») ++ (m.«data» ++ end_of f m.after))
    in_parts = append_assoc (laid f.before m.before) (field 2 (length m.«data»)) (m.«data» ++ end_of f m.after)

    to-length : drop (size f.before) (bytes_of f m) ≡ field 2 (length m.«data») ++ (m.«data» ++ end_of f m.after)
    to-length = ap (drop (size f.before)) in_parts ∙ drop_at (laid f.before m.before) _ _ (length-laid f.before m.before)

    to-data : drop (start f) (bytes_of f m) ≡ m.«data» ++ end_of f m.after
    to-data = sym (drop-drop 2 (size f.before) (bytes_of f m)) ∙ ap (drop 2) to-length

    announced-own : length m.«data» ≤ 65535 → announced (size f.before) (bytes_of f m) ≡ length m.«data»
    announced-own h =
        ap (λ (l : List ℕ). value_of (take 2 l)) to-length ∙ value_at 2 (length m.«data») (m.«data» ++ end_of f m.after) (omega arith)

    checked-own : length m.«data» ≤ 65535 → checking (size f.before) (size f.after) (bytes_of f m) ≡ gives (length m.«data»)
    checked-own h =
        let n = announced-own h in
        check-whole (size f.before) (size f.after) (bytes_of f m) (length_bytes m ∙ ap (λ (k : ℕ). least f + k) (sym n)) ∙ ap gives n

    message-own : Fit f.before m.before → Fit f.after m.after → message_in f (length m.«data») (bytes_of f m) ≡ m
    message-own p q =
        let d = m.«data» in
        let tail = end_of f m.after in
        let fields = ap (values_in f.before) in_parts ∙ values_laid (field 2 (length d) ++ (d ++ tail)) p in
        let items = ap (take (length d)) to-data ∙ take_at d tail (length d) refl in
        let rest = ap (drop (length d)) to-data ∙ drop_at d tail (length d) refl in
        let ends = ap (values_in f.after) (rest ∙ sym (append-nil tail)) ∙ values_laid [] q in
        λ i. record { before = fields i; «data» = items i; after = ends i }

  pub read_written : ReadWritten f
  read_written m out n p q e =
      let d = m.«data» in
      let was = was_written (ltb 65535 (length d)) (ltb (length out) (least f + length d)) (least f + length d) n e in
      let short : length d ≤ 65535 = ltb-false 65535 (length d) was.0 in
      ap (λ (k : ℕ). reading f (take n (left (writing k (length d) (length out)) (bytes_of f m) out))) (fields-size m)
      ∙ ap (λ (a : Answer ℕ). reading f (take n (left a (bytes_of f m) out))) e
      ∙ ap (reading f) (take_at (bytes_of f m) (drop n out) n (length_bytes m ∙ was.1))
      ∙ ap (λ (a : Answer ℕ). read_by a f (bytes_of f m)) (checked-own m short)
      ∙ ap gives (message-own m p q)

  module _ (s : List ℕ) (n : ℕ) (b : Below 256 s) (said : announced (size f.before) s ≡ n) (l : length s ≡ least f + n) where
    data-length : length (take n (drop (start f) s)) ≡ n
    data-length = length-take-le n (drop (start f) s) (rw length-drop (omega arith))

    -- The parts that reading cuts a slice into, put together again.
    bytes_read : bytes_of f (message_in f n s) ≡ s
    bytes_read =
        let k = size f.before in
        let t = drop (start f) s in
        let lk : length (drop k s) ≡ length s - k = length-drop k s in
        let lt : length t ≡ length s - start f = length-drop (start f) s in
        let ln : length (drop n t) ≡ length t - n = length-drop n t in
        let front = laid_values f.before s (omega arith) b in
        let count = ap (field 2) (data-length ∙ sym said) ∙ field_value 2 (drop k s) (omega arith) (below_drop k s b) in
        let ends = laid_values f.after (drop n t) (omega arith) (below_drop n t (below_drop (start f) s b)) ∙ take_all (size f.after) (drop n t) (omega arith) in
        in_parts (message_in f n s)
        ∙ (λ i. front i ++ (count i ++ (take n t ++ ends i)))
        ∙ ap (λ (r : List ℕ). take k s ++ (take 2 (drop k s) ++ r)) (take-append-drop n t ∙ sym (drop-drop 2 k s))
        ∙ ap (λ (r : List ℕ). take k s ++ r) (take-append-drop 2 (drop k s))
        ∙ take-append-drop k s

    announced-below : n ≤ 65535
    announced-below =
        let p = take 2 (drop (size f.before) s) in
        let two : length p ≡ 2 = length-take-le 2 (drop (size f.before) s) (rw length-drop (omega arith)) in
        let small : value_of p < 256 ^ 2 =
        subst (λ (k : ℕ). value_of p < 256 ^ k) two (number_below 256 p (lit< tt) (below_take 2 (drop (size f.before) s) (below_drop (size f.before) s b))) in
        omega arith

  pub written_read : WrittenRead f
  written_read s m out b e h =
      let was = was_read f s m (checking (size f.before) (size f.after) s) e in
      let n = was.0 in
      let whole = found-whole (size f.before) (size f.after) s was.1 in
      let x = message_in f n s in
      let d = x.«data» in
      let items : length d ≡ n = data-length s n b whole.0 whole.1 in
      let small : n ≤ 65535 = announced-below s n b whole.0 whole.1 in
      let room : writing (least f) (length d) (length out) ≡ gives (length s) =
      write-whole (least f) (length d) (length out) (omega arith) (omega arith) ∙ ap gives (omega arith) in
      ap (λ (y : Message). written_as f y out) (sym was.2)
      ∙ ap (λ (k : ℕ). left (writing k (length d) (length out)) (bytes_of f x) out) (fields-size x)
      ∙ ap (λ (a : Answer ℕ). left a (bytes_of f x) out) room
      ∙ ap (λ (y : List ℕ). y ++ drop (length s) out) (bytes_read s n b whole.0 whole.1)

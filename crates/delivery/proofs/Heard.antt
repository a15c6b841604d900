-- One sender and one listener, against one view of the lines; and what a unit that listens takes.
use Prim.Native.Nat.{ℕ, suc, ◌+◌, ◌*◌, ◌/◌, ◌%◌, ◌<◌}
use native.Mathlib.Nat.{mod-eq_of_lt}
use native.Mathlib.Omega.{arith}
use mathlib.Core.Path.{◌≡◌, refl, ◌∙◌, ap, subst}
use mathlib.Core.Bool.{Bool, true, false, cond, ◌||◌, true≢false, false≢true}
use mathlib.Core.List.{List}
use lib.Dec.{eqb}
use lib.ListN.{length}
use Rattle.field.specs.Field.{byte_from}
use Rattle.inside.specs.Inside.{Inside, reply_of, taken, reply_for, taken_for}
use Rattle.inside.proofs.Round.{inside_after, inside_by}
use Rattle.kind.specs.Kinds.{kind_of}
use Rattle.line.specs.Line.{send_of, sent_of, hear_of, taken_of}
use Rattle.line.specs.declared.Lines.{Lines}
use Rattle.line.specs.declared.Listener.{Listener}
use Rattle.line.specs.declared.Listener.TheVariants.{Ready, Holding}
use Rattle.line.specs.declared.Sender.{Sender}
use Rattle.phase.specs.Phase.{phase_step, phase_buffer, phase_output, partial, with_byte, answered, stored, stored_data, selected, is_last, buffer_with, moves}
use Rattle.phase.specs.declared.Phase.{Phase}
use Rattle.phase.specs.declared.Phase.TheVariants.{Selecting, Receiving, SittingOut}
use Rattle.serial.specs.declared.Serial.{Serial}
use Rattle.header.specs.declared.Command.{Command}
use Rattle.header.specs.declared.Header.{Header}
use Rattle.message.specs.Nibbles.{nibble_in}
use Rattle.phase.specs.declared.Moved.{Moved}
use Rattle.phase.specs.declared.Progress.TheVariants.{Taking, Answered}
use Rattle.whole.specs.Whole.{bytes_for, byte_at, head_at, buffer_at, header_for, with_data, stored_of, Sent}
use Rattle.whole.proofs.Whole.{bytes_below, next_header, length_bytes, not_last, last, whole_header, whole_buffer, whole_data}
use Rattle.whole.proofs.Back.{low_nibble, high_nibble, byte_own}
use Rattle.delivery.proofs.Taking.{Fits, f_next, f_placed, f_holds, f_waits, Sees, Heard, h_none, h_first, h_byte, h_half}

-- A round of the pair: nothing changes but the places; or the nibble is taken; or it counts as sent.
pub data Pair (n : ℕ) (sender : Sender) (ear : Listener) (t : ℕ) (low : Bool) (seen : ℕ) (busy : Bool) : Type 0 where
  rests : taken_of ear low ≡ false → sent_of sender low ≡ false → Fits n (send_of sender low n) (hear_of ear low busy) t → Pair n sender ear t low seen busy
  takes : ear ≡ Ready → low ≡ true → seen ≡ n → t ≡ 0 → sent_of sender low ≡ false → Fits n (send_of sender low n) Holding 1 → Pair n sender ear t low seen busy
  sends : taken_of ear low ≡ false → sent_of sender low ≡ true → low ≡ false → hear_of ear low busy ≡ Ready → t ≡ 1 → Pair n sender ear t low seen busy

pub pair : {n t : ℕ} {sender : Sender} {ear : Listener} (low : Bool) (seen : ℕ) (busy : Bool) → Fits n sender ear t → Sees sender ear low seen → Pair n sender ear t low seen busy
pair true seen busy f_next e = absurd (true≢false e)
pair false seen busy f_next e = rests refl refl f_placed
pair true seen busy f_placed e = takes refl refl e.1 refl refl f_holds
pair false seen busy f_placed e = absurd (false≢true e.0)
pair true seen true f_holds e = rests refl refl f_holds
pair true seen false f_holds e = rests refl refl f_waits
pair false seen busy f_holds e = absurd (false≢true e)
pair true seen busy f_waits e = rests refl refl f_waits
pair false seen busy f_waits e = sends refl refl refl refl refl

-- What a unit's round does to its phase, to what is inside it, and to the lent buffer.
pub record Round (p : Phase) (own : ℕ) (x : Inside) (seen : Lines) (busy : Bool) (b : List ℕ) (p' : Phase) (y : Inside) (b' : List ℕ) : Type 0 where
  pub phase : (phase_step p own x.state seen busy b x.input).phase ≡ p'
  pub inside : inside_after p own x seen busy b ≡ y
  pub buffer : phase_buffer p seen b ≡ b'

-- A unit that does not take a nibble keeps what it has, and its listener goes on.
pub data Waits (bytes : List ℕ) (k : ℕ) (ear : Listener) (phase : Phase) (own : ℕ) (x : Inside) (seen : Lines) (busy : Bool) (buffer : List ℕ) : Type 0 where
  waits : (after : Phase) → Heard bytes ear k after buffer → Round phase own x seen busy buffer after x buffer → Waits bytes k ear phase own x seen busy buffer

pub heard_waits :
    {bytes : List ℕ} {ear : Listener} {k : ℕ} {phase : Phase} {buffer : List ℕ} (own : ℕ) (x : Inside) (seen : Lines) (busy : Bool)
    → Heard bytes ear k phase buffer → taken_of ear seen.hsk ≡ false
    → Waits bytes k (hear_of ear seen.hsk busy) phase own x seen busy buffer
heard_waits own x seen busy (h_none room) e = waits _ (h_none room) (record { phase = rw e; inside = refl; buffer = refl })
heard_waits own x seen busy (h_first room) e = waits _ (h_first room) (record { phase = rw e; inside = refl; buffer = refl })
heard_waits own x seen busy (h_byte j buffer room g h) e = waits _ (h_byte j buffer room g h) (record { phase = rw e; inside = rw e; buffer = rw e })
heard_waits own x seen busy (h_half j buffer room g h) e = waits _ (h_half j buffer room g h) (record { phase = rw e; inside = rw e; buffer = rw e })

-- A unit that takes the nibble that is next.
pub data Takes (bytes : List ℕ) (k : ℕ) (phase : Phase) (own : ℕ) (x : Inside) (seen : Lines) (busy : Bool) (buffer : List ℕ) : Type 0 where
  takes_it :
      (after : Phase) (buffer' : List ℕ) → Heard bytes Holding (suc k) after buffer' → Round phase own x seen busy buffer after x buffer'
      → Takes bytes k phase own x seen busy buffer

-- The last nibble: the answer is fixed, and effects happen.
pub record Fixed (c : Command) (d : List ℕ) (p : Phase) (own : ℕ) (x : Inside) (seen : Lines) (busy : Bool) (buffer : List ℕ) : Type 0 where
  pub phase : (phase_step p own x.state seen busy buffer x.input).phase ≡ Receiving Holding (Answered (reply_for own x c d))
  pub inside : inside_after p own x seen busy buffer ≡ taken_for own x c d

module _ (c : Command) (d : List ℕ) (ok : Sent c d) (own : ℕ) (x : Inside) (seen : Lines) (busy : Bool) (low : seen.hsk ≡ true) where
  abbrev bytes : List ℕ
  bytes = bytes_for c d

  abbrev s : Serial
  s = x.state

  -- A byte from its two nibbles.
  byte-from : (j n : ℕ) → n ≡ byte_at bytes j / 16 % 16 → byte_from (byte_at bytes j % 16) n ≡ byte_at bytes j
  byte-from j n e = ap (byte_from (byte_at bytes j % 16)) e ∙ byte_own (byte_at bytes j) (bytes_below c d j ok)

  -- A unit with half of byte j takes the other half.
  abbrev halfAt : ℕ → Phase
  halfAt j = Receiving Ready (Taking (record { header = head_at bytes j; place = j; half = true; low = byte_at bytes j % 16 }))

  abbrev byte_of : ℕ → ℕ
  byte_of j = byte_from (byte_at bytes j % 16) seen.nibble

  abbrev movedBy : ℕ → Header → ℕ → List ℕ → Moved
  movedBy j h b buffer = cond (is_last h.data_length j) (answered own s h (buffer_with h.data_length j b buffer)) (moves (Receiving Holding (Taking (partial h (j + 1)))) s)

  abbrev outputBy : ℕ → Header → ℕ → List ℕ → List ℕ
  outputBy j h b buffer = cond (is_last h.data_length j) (stored own s h (buffer_with h.data_length j b buffer) x.output) x.output

  module _ (j : ℕ) (buffer : List ℕ) (seen-high : seen.nibble ≡ byte_at bytes j / 16 % 16) where
    byte-moved : phase_step (halfAt j) own s seen busy buffer x.input ≡ movedBy j (head_at bytes (suc j)) (byte_at bytes j) buffer
    byte-moved =
        ap
        (λ (t : Bool). cond t (movedBy j (with_byte (head_at bytes j) j (byte_of j)) (byte_of j) buffer) (moves (Receiving (hear_of Ready seen.hsk busy) (Taking (record { header = head_at bytes j; place = j; half = true; low = byte_at bytes j % 16 }))) s)) low
        ∙ ap (λ (n : ℕ). movedBy j (with_byte (head_at bytes j) j n) n buffer) (byte-from j seen.nibble seen-high)
        ∙ ap (λ (h : Header). movedBy j h (byte_at bytes j) buffer) (next_header c d j ok)

    byte_buffer_lem : phase_buffer (halfAt j) seen buffer ≡ buffer_with (head_at bytes (suc j)).data_length j (byte_at bytes j) buffer
    byte_buffer_lem =
        ap (λ (t : Bool). cond t (buffer_with (with_byte (head_at bytes j) j (byte_of j)).data_length j (byte_of j) buffer) buffer) low
        ∙ ap (λ (n : ℕ). buffer_with (with_byte (head_at bytes j) j n).data_length j n buffer) (byte-from j seen.nibble seen-high)
        ∙ ap (λ (h : Header). buffer_with h.data_length j (byte_at bytes j) buffer) (next_header c d j ok)

    byte_output_lem : phase_output (halfAt j) own s seen buffer x.output ≡ outputBy j (head_at bytes (suc j)) (byte_at bytes j) buffer
    byte_output_lem =
        ap (λ (t : Bool). cond t (outputBy j (with_byte (head_at bytes j) j (byte_of j)) (byte_of j) buffer) x.output) low
        ∙ ap (λ (n : ℕ). outputBy j (with_byte (head_at bytes j) j n) n buffer) (byte-from j seen.nibble seen-high)
        ∙ ap (λ (h : Header). outputBy j h (byte_at bytes j) buffer) (next_header c d j ok)

    -- It is not the last byte.
    byte-goes-on : is_last (head_at bytes (suc j)).data_length j ≡ false
        → Round (halfAt j) own x seen busy buffer (Receiving Holding (Taking (partial (head_at bytes (suc j)) (suc j)))) x (buffer_with (head_at bytes (suc j)).data_length j (byte_at bytes j) buffer)
    byte-goes-on e =
        let next : j + 1 ≡ suc j = omega arith in
        let m : phase_step (halfAt j) own s seen busy buffer x.input ≡ moves (Receiving Holding (Taking (partial (head_at bytes (suc j)) (suc j)))) s =
        byte-moved ∙ rw (e, next) in
        let o : phase_output (halfAt j) own s seen buffer x.output ≡ x.output = byte_output_lem ∙ rw e in
        record { phase = ap (λ (y : Moved). y.phase) m; inside = inside_by (halfAt j) own x seen busy buffer m o; buffer = byte_buffer_lem }

    -- It is the last.
    byte-ends : (b : List ℕ) → is_last (head_at bytes (suc j)).data_length j ≡ true → head_at bytes (suc j) ≡ header_for c d → buffer_with (head_at bytes (suc j)).data_length j (byte_at bytes j) buffer ≡ with_data d b
        → Fixed c d (halfAt j) own x seen busy buffer
    byte-ends b e whole full =
        let h = head_at bytes (suc j) in
        let l = buffer_with h.data_length j (byte_at bytes j) buffer in
        let z : stored_data (length d) (with_data d b) ≡ stored_of d = whole_data d b in
        let last-moved : movedBy j h (byte_at bytes j) buffer ≡ answered own s h l = rw e in
        let last-output : outputBy j h (byte_at bytes j) buffer ≡ stored own s h l x.output = rw e in
        let m : phase_step (halfAt j) own s seen busy buffer x.input ≡ answered own s (header_for c d) (with_data d b) = byte-moved ∙ last-moved ∙ (λ k. answered own s (whole k) (full k)) in
        let o : phase_output (halfAt j) own s seen buffer x.output ≡ stored own s (header_for c d) (with_data d b) x.output = byte_output_lem ∙ last-output ∙ (λ k. stored own s (whole k) (full k) x.output) in
        record {
          phase = ap (λ (y : Moved). y.phase) m ∙ ap (λ (e : List ℕ). Receiving Holding (Answered (reply_of (kind_of own) x c (length d) e))) z;
          inside = inside_by (halfAt j) own x seen busy buffer m o ∙ ap (taken (kind_of own) x c (length d)) z;
        }

  -- The device code is the unit's own or 0.
  chosen : (b : ℕ) → (eqb b own || eqb b 0) ≡ true → selected own b ≡ Receiving Holding (Taking (partial (with_byte (head_at bytes 0) 0 b) 1))
  chosen b e = rw e

  device-own : byte_at bytes 0 ≡ c.device
  device-own = mod-eq_of_lt ok.fields.device

  pub heard-takes :
      {k : ℕ} {phase : Phase} {buffer : List ℕ} → Heard bytes Ready k phase buffer → seen.nibble ≡ nibble_in bytes k → suc k < 2 * length bytes
      → (k ≡ 1 → (eqb c.device own || eqb c.device 0) ≡ true)
      → Takes bytes k phase own x seen busy buffer
  heard-takes (h_none room) q l a =
      takes_it _ _ (h_first room) (record {
        phase = ap (λ (t : Bool). cond t (Selecting Holding true seen.nibble) (Selecting (hear_of Ready seen.hsk busy) false 0)) low ∙ ap (Selecting Holding true) (q ∙ low_nibble bytes 0);
        inside = refl;
        buffer = refl;
      })
  heard-takes (h_first {buffer = buffer} room) q l a =
      takes_it _ _ (h_byte 1 buffer room (omega arith) (omega arith)) (record {
        phase =
            ap (λ (t : Bool). cond t (selected own (byte_of 0)) (Selecting (hear_of Ready seen.hsk busy) true (byte_at bytes 0 % 16))) low
            ∙ ap (selected own) (byte-from 0 seen.nibble (q ∙ high_nibble bytes 0))
            ∙ chosen (byte_at bytes 0) (ap (λ (x : ℕ). eqb x own || eqb x 0) device-own ∙ a refl)
            ∙ ap (λ (h : Header). Receiving Holding (Taking (partial h 1))) (next_header c d 0 ok);
        inside = refl;
        buffer = refl;
      })
  heard-takes (h_byte j buffer room g h) q l a =
      let m : phase_step (Receiving Ready (Taking (partial (head_at bytes j) j))) own s seen busy (buffer_at bytes j buffer) x.input ≡ moves (Receiving Holding (Taking (record { header = head_at bytes j; place = j; half = true; low = byte_at bytes j % 16 }))) s =
      ap
      (λ (t : Bool). cond t (moves (Receiving Holding (Taking (record { header = head_at bytes j; place = j; half = true; low = seen.nibble }))) s) (moves (Receiving (hear_of Ready seen.hsk busy) (Taking (partial (head_at bytes j) j))) s)) low
      ∙ ap (λ (n : ℕ). moves (Receiving Holding (Taking (record { header = head_at bytes j; place = j; half = true; low = n }))) s) (q ∙ low_nibble bytes j) in
      takes_it _ _ (h_half j buffer room g h) (record {
        phase = ap (λ (y : Moved). y.phase) m;
        inside = rw low;
        buffer = rw low;
      })
  heard-takes (h_half j buffer room g h) q l a =
      let more : suc j < length bytes = omega arith in
      let next : 2 * suc j ≡ suc (suc (2 * j)) = omega arith in
      let n : length bytes ≡ 9 + length d = length_bytes c d in
      takes_it _ _ (subst (λ (x : ℕ). Heard bytes Holding x (Receiving Holding (Taking (partial (head_at bytes (suc j)) (suc j)))) (buffer_at bytes (suc j) buffer)) next (h_byte (suc j) buffer room (omega arith) more))
      (byte-goes-on j (buffer_at bytes j buffer) (q ∙ high_nibble bytes j) (not_last c d j ok (omega arith)))

  -- The last nibble of the command.
  pub heard-last :
      {k : ℕ} {phase : Phase} {buffer : List ℕ} → Heard bytes Ready k phase buffer → seen.nibble ≡ nibble_in bytes k → suc k ≡ 2 * length bytes
      → Fixed c d phase own x seen busy buffer
  heard-last (h_none room) q l = let n : length bytes ≡ 9 + length d = length_bytes c d in absurd (omega arith)
  heard-last (h_first room) q l = let n : length bytes ≡ 9 + length d = length_bytes c d in absurd (omega arith)
  heard-last (h_byte j buffer room g h) q l = absurd (omega arith)
  heard-last (h_half j buffer room g h) q l =
      let n : length bytes ≡ 9 + length d = length_bytes c d in
      let all : suc j ≡ 9 + length d = omega arith in
      let full : buffer_at bytes (suc j) buffer ≡ with_data d buffer = ap (λ (k : ℕ). buffer_at bytes k buffer) all ∙ whole_buffer c d buffer ok room in
      byte-ends j (buffer_at bytes j buffer) (q ∙ high_nibble bytes j) buffer (last c d j ok all) (whole_header c d (suc j) ok (omega arith)) full

  -- The device code is another's: the unit sits out.
  pub heard-other :
      {k : ℕ} {phase : Phase} {buffer : List ℕ} → Heard bytes Ready k phase buffer → k ≡ 1 → seen.nibble ≡ nibble_in bytes 1 → (eqb c.device own || eqb c.device 0) ≡ false
      → Round phase own x seen busy buffer (SittingOut true) x buffer
  heard-other (h_none room) e q a = absurd (omega arith)
  heard-other (h_first room) e q a =
      let z : (eqb (byte_at bytes 0) own || eqb (byte_at bytes 0) 0) ≡ false = ap (λ (x : ℕ). eqb x own || eqb x 0) device-own ∙ a in
      record {
        phase =
            ap (λ (t : Bool). cond t (selected own (byte_of 0)) (Selecting (hear_of Ready seen.hsk busy) true (byte_at bytes 0 % 16))) low
            ∙ ap (selected own) (byte-from 0 seen.nibble (q ∙ high_nibble bytes 0))
            ∙ rw z;
        inside = refl;
        buffer = refl;
      }
  heard-other (h_byte j buffer room g h) e q a = absurd (omega arith)
  heard-other (h_half j buffer room g h) e q a = absurd (omega arith)

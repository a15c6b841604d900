-- A frame round by round: where the controller is, where every unit is, and that each round leads from one such stage to the next.
use Prim.Native.Nat.{ℕ, suc, ◌+◌, ◌*◌, ◌/◌, ◌%◌, ◌<◌}
use native.Mathlib.Omega.{arith}
use mathlib.Core.Path.{◌≡◌, refl, sym, ◌∙◌, ap, subst}
use mathlib.Core.Bool.{Bool, true, false, cond, true≢false}
use mathlib.Core.List.{List, []}
use lib.Dec.{lit<}
use lib.ListN.{length, get_or}
use Rattle.bus.specs.Bus.{levels_with, station_step, units_after}
use Rattle.bus.specs.declared.Station.{Station}
use Rattle.field.proofs.Laws.{nibble-at, digits_below}
use Rattle.header.specs.declared.Command.{Command}
use Rattle.inside.specs.Inside.{Inside, inside_of, reply_for, taken_for}
use Rattle.inside.specs.Lawful.{Fit}
use Rattle.inside.proofs.Round.{came, came_fit}
use Rattle.kind.specs.Kinds.{kind_of, is_short}
use Rattle.line.specs.Line.{send_of, sent_of, sender_hsk, sender_nibble}
use Rattle.line.specs.declared.Lines.{Lines}
use Rattle.line.specs.declared.Sender.{Sender}
use Rattle.line.specs.declared.Sender.TheVariants.{Next, Placed, Kept}
use Rattle.message.specs.Nibbles.{nibble_in}
use Rattle.phase.proofs.Lengths.{phase_buffer_lem, phase_output_lem}
use Rattle.serial.specs.declared.Reply.{Reply}
use Rattle.unit.specs.Unit.{pulls_hsk}
use Rattle.whole.specs.Whole.{bytes_for, Sent}
use Rattle.whole.proofs.Whole.{length_bytes}
use Rattle.delivery.proofs.Stages.{is_answered, Part, Sends, Sound, s_kept, s_next, s_placed}
use Rattle.delivery.specs.Lists.{All}
use Rattle.delivery.proofs.Promised.{Moment, Promised}
use Rattle.delivery.proofs.Moves.{Becomes}
use Rattle.delivery.proofs.Lines.{hsk_kept, bav_kept, hsk_high_lem, hsk_own, nibble-kept}
use Rattle.delivery.proofs.Lists.{all_map, all_zip, all_step, all_becomes}
use Rattle.delivery.proofs.Part.{Stepped, low_step_lem, Shows, part_high, part_free, part-rests, part-sent, part-over, Turned}

-- The promise of a reply, at the round in which it is fixed.
pub promised : {T : Moment} (own : ℕ) (c : Command) (d : List ℕ) (x y : Inside) → Fit (kind_of own) x → y ≡ taken_for own x c d → T own x → Promised T own c d (reply_for own x c d) y
promised own c d x y fit e took = record { given = x; took = took; fit = fit; said = refl; calls = []; now = e }

-- No round changes how much memory there is.
pub cond-length : (t : Bool) (a b : List ℕ) (n : ℕ) → length a ≡ n → length b ≡ n → length (cond t a b) ≡ n
cond-length true a b n e g = e
cond-length false a b n e g = g

pub sound_low : {st st' : Station} {seen : Lines} {busy : Bool} → Stepped st seen busy st' → Sound st → Sound st'
sound_low {st} {st'} {seen} {busy} e s = record {
  room =
      (λ k.
      is_short (kind_of (e.own k)) ((ap length e.buffer ∙ phase_buffer_lem st.unit.phase seen st.buffer) k)
      ((ap (λ (x : Inside). length x.output) e.inside ∙ phase_output_lem st.unit.phase st.unit.own st.unit.serial seen st.buffer st.output) k))
      ∙ s.room;
  fit =
      subst (λ (own : ℕ). Fit (kind_of own) (inside_of st')) (sym e.own)
      (subst (Fit (kind_of st.unit.own)) (sym e.inside) (came_fit st.unit.own (came st.unit.phase st.unit.own (inside_of st) seen busy st.buffer) s.fit));
}

-- The nibbles of a command.
pub nibble_below : (bytes : List ℕ) (i : ℕ) → nibble_in bytes i < 16
nibble_below bytes i = subst (λ (x : ℕ). x < 16) (sym (nibble-at bytes i)) (digits_below 16 2 (get_or bytes (i / 2) 255) (lit< tt) (i % 2))

sends_below : {n : ℕ} {sender : Sender} → n < 16 → Sends n sender → sender_nibble sender < 16
sends_below h s_next = lit< tt
sends_below h s_placed = h
sends_below h s_kept = h

pub sends_on : {n : ℕ} {sender : Sender} (low : Bool) → Sends n sender → sent_of sender low ≡ false → Sends n (send_of sender low n)
sends_on low s_next e = s_placed
sends_on low s_placed e = s_kept
sends_on true s_kept e = s_kept
sends_on false s_kept e = absurd (true≢false e)

-- What the controller pulls while it sends.
abbrev pub sending : Sender → Lines
sending sender = record { bav = true; hsk = sender_hsk sender; nibble = sender_nibble sender }

pub shows : {P : Station → Reply → Inside → Type 0} {c : Command} {d : List ℕ} {i n : ℕ} (sender : Sender) (ss : List Station) → n < 16 → Sends n sender
    → All (λ (st : Station). Part (P st) c d i sender st × Sound st) ss → Shows sender (levels_with (sending sender) ss)
shows Next ss h s a = hsk_high_lem (sending Next) refl (all_map (λ st p. part_high p.0) a)
shows (Placed m) ss h s a = (hsk_kept (sending (Placed m)) ss refl, nibble-kept (sending (Placed m)) (sends_below h s) (all_map (λ st p. part_free p.0) a))
shows (Kept m) ss h s a = tt

-- What is known of a unit is known of it after a round: it keeps its code.
part_own : (T : Moment) {c : Command} {d : List ℕ} {i : ℕ} {sender : Sender} {st : Station} {own : ℕ} → st.unit.own ≡ own → Part (Promised T own c d) c d i sender st → Part (Promised T st.unit.own c d) c d i sender st
part_own T {c} {d} {i} {sender} {st} e p = subst (λ (own : ℕ). Part (Promised T own c d) c d i sender st) (sym e) p

turned_own : (T : Moment) {c : Command} {d : List ℕ} {st : Station} {own : ℕ} → st.unit.own ≡ own → Turned (Promised T own c d) c st → Turned (Promised T st.unit.own c d) c st
turned_own T {c} {d} {st} e p = subst (λ (own : ℕ). Turned (Promised T own c d) c st) (sym e) p

module _
    (T : Moment) (c : Command) (d : List ℕ) (ok : Sent c d) (i : ℕ) (sender : Sender) (ss : List Station) (hosts : ℕ) (s : Sends (nibble_in (bytes_for c d) i) sender)
    (a : All (λ (st : Station). Part (Promised T st.unit.own c d) c d i sender st × Sound st) ss)
  where
    abbrev seen : Lines
    seen = levels_with (sending sender) ss

    abbrev n : ℕ
    n = nibble_in (bytes_for c d) i

    sent-bav : seen.bav ≡ true
    sent-bav = bav_kept (sending sender) ss refl

    pub sent-nibble : seen.nibble < 16
    sent-nibble =
        let b : sender_nibble sender < 16 = sends_below (nibble_below (bytes_for c d) i) s in
        let e : seen.nibble ≡ sender_nibble sender = nibble-kept (sending sender) b (all_map (λ st p. part_free p.0) a) in
        subst (λ (x : ℕ). x < 16) (sym e) b

    stepped : (st : Station) (busy : Bool) → Sound st → Stepped st seen busy (station_step st seen busy)
    stepped st busy x = low_step_lem st seen busy sent-nibble x.room sent-bav

    known : All (λ (st : Station). (Part (Promised T st.unit.own c d) c d i sender st × Sound st) × (pulls_hsk st.unit.phase ≡ true → seen.hsk ≡ true)) ss
    known = all_zip a (hsk_own (sending sender) ss)

    pub units-rest : ((st after : Station) → Becomes seen hosts ss st after → is_answered st.unit.phase ≡ false → is_answered after.unit.phase ≡ true → T st.unit.own (inside_of st))
        → sent_of sender seen.hsk ≡ false → i < 2 * length (bytes_for c d)
        → All (λ (st : Station). Part (Promised T st.unit.own c d) c d i (send_of sender seen.hsk n) st × Sound st) (units_after seen hosts ss)
    units-rest noted e l =
        all_becomes seen hosts (λ st busy becomes p. (
          part_own T (stepped st busy p.0.1).own (part-rests (Promised T st.unit.own c d) c d i sender st (station_step st seen busy) seen busy (stepped st busy p.0.1) ok
              (λ before now g. promised st.unit.own c d (inside_of st) (inside_of (station_step st seen busy)) p.0.1.fit g (noted st (station_step st seen busy) becomes before now))
              (shows sender ss (nibble_below (bytes_for c d) i) s a) p.1 e l p.0.0),
          sound_low (stepped st busy p.0.1) p.0.1,
        )) known

    pub units-sent : sent_of sender seen.hsk ≡ true → suc i < 2 * length (bytes_for c d)
        → All (λ (st : Station). Part (Promised T st.unit.own c d) c d (suc i) Next st × Sound st) (units_after seen hosts ss)
    units-sent e l =
        all_step seen (λ st busy p. (
          part_own T (stepped st busy p.0.1).own
              (part-sent (Promised T st.unit.own c d) c d i sender st (station_step st seen busy) seen busy (stepped st busy p.0.1) (shows sender ss (nibble_below (bytes_for c d) i) s a) p.1 e l p.0.0),
          sound_low (stepped st busy p.0.1) p.0.1,
        )) hosts known

    pub units-over : sent_of sender seen.hsk ≡ true → suc i ≡ 2 * length (bytes_for c d)
        → All (λ (st : Station). Turned (Promised T st.unit.own c d) c st × Sound st) (units_after seen hosts ss)
    units-over e l =
        let nine : length (bytes_for c d) ≡ 9 + length d = length_bytes c d in
        all_step seen (λ st busy p. (
          turned_own T (stepped st busy p.0.1).own
              (part-over (Promised T st.unit.own c d) c d i sender st (station_step st seen busy) seen busy (stepped st busy p.0.1) (shows sender ss (nibble_below (bytes_for c d) i) s a) p.1 e l (omega arith) p.0.0),
          sound_low (stepped st busy p.0.1) p.0.1,
        )) hosts known

-- The part of a unit in a frame while the command is sent, and its round.
use Prim.Native.Nat.{ℕ, zero, suc, ◌+◌, ◌*◌, ◌<◌, ◌≤◌}
use native.Mathlib.Omega.{arith}
use mathlib.Core.Path.{◌≡◌, refl, sym, ◌∙◌, ap, subst}
use mathlib.Core.Bool.{Bool, true, false, not, ◌&&◌, true≢false, false≢true}
use mathlib.Core.List.{List}
use borrow.Author.Tests.{le-ltb, ltb-true, ltb-false}
use lib.Dec.{ltb}
use lib.ListN.{length}
use Rattle.bus.specs.Bus.{station_step}
use Rattle.bus.specs.declared.Station.{Station}
use Rattle.header.specs.declared.Command.{Command}
use Rattle.inside.specs.Inside.{Inside, inside_of, reply_for, taken_for}
use Rattle.inside.proofs.Round.{inside_after}
use Rattle.kind.specs.Kinds.{kind_of, is_short}
use Rattle.line.specs.Line.{send_of, sent_of, hear_of, is_ready, listener_hsk}
use Rattle.line.specs.declared.Lines.{Lines}
use Rattle.line.specs.declared.Listener.{Listener}
use Rattle.line.specs.declared.Listener.TheVariants.{Ready, Holding, Waiting}
use Rattle.line.specs.declared.Sender.{Sender}
use Rattle.line.specs.declared.Sender.TheVariants.{Next, Placed, Kept}
use Rattle.message.specs.Nibbles.{nibble_in}
use Rattle.phase.specs.Phase.{phase_step, phase_buffer}
use Rattle.phase.specs.declared.Phase.{Phase}
use Rattle.phase.specs.declared.Phase.TheVariants.{Receiving, Responding, SittingOut}
use Rattle.phase.specs.declared.Progress.TheVariants.{Answered}
use Rattle.reply.specs.Reply.{is_silent}
use Rattle.serial.specs.declared.Reply.{Reply}
use Rattle.unit.specs.Unit.{pulls_hsk, pulls_nibble}
use Rattle.whole.specs.Whole.{bytes_for, Sent}
use Rattle.whole.proofs.Whole.{length_bytes}
use Rattle.delivery.proofs.Stages.{is_answered, Part, addressed, answers, listens, sits}
use Rattle.delivery.proofs.Taking.{Fits, f_next, f_holds, f_waits, Sees, Heard, h_none, h_first, h_byte, h_half}
use Rattle.delivery.proofs.Heard.{Pair, rests, takes, sends, pair, Round, Waits, waits, heard_waits, Takes, takes_it, Fixed, heard-takes, heard-last, heard-other}

-- What a round with BAV seen low makes of a unit.
pub record Stepped (st : Station) (seen : Lines) (busy : Bool) (after : Station) : Type 0 where
  pub own : after.unit.own ≡ st.unit.own
  pub asking : after.unit.asking ≡ (st.unit.asking && not seen.hsk)
  pub phase : after.unit.phase ≡ (phase_step st.unit.phase st.unit.own st.unit.serial seen busy st.buffer st.input).phase
  pub buffer : after.buffer ≡ phase_buffer st.unit.phase seen st.buffer
  pub inside : inside_of after ≡ inside_after st.unit.phase st.unit.own (inside_of st) seen busy st.buffer

pub low_step_lem : (st : Station) (seen : Lines) (busy : Bool) → seen.nibble < 16 → is_short (kind_of st.unit.own) (length st.buffer) (length st.output) ≡ false → seen.bav ≡ true → Stepped st seen busy (station_step st seen busy)
low_step_lem st seen busy n room low =
    let a : ltb 15 seen.nibble ≡ false = le-ltb 15 seen.nibble (omega arith) in
    record { own = rw (a, room, low); asking = rw (a, room, low); phase = rw (a, room, low); buffer = rw (a, room, low); inside = rw (a, room, low) }

-- What HSK and the data lines show beside a sender.
abbrev pub Shows : Sender → Lines → Type 0
Shows Next seen = seen.hsk ≡ false
Shows (Placed n) seen = (seen.hsk ≡ true) × (seen.nibble ≡ n)
Shows (Kept n) seen = Unit

-- No unit that listens or sits out pulls a data line, and it pulls HSK as its listener does.
pub heard_hsk : {bytes : List ℕ} {ear : Listener} {k : ℕ} {phase : Phase} {buffer : List ℕ} → Heard bytes ear k phase buffer → pulls_hsk phase ≡ listener_hsk ear
heard_hsk (h_none room) = refl
heard_hsk (h_first room) = refl
heard_hsk (h_byte j buffer room g h) = refl
heard_hsk (h_half j buffer room g h) = refl

pub heard_free : {bytes : List ℕ} {ear : Listener} {k : ℕ} {phase : Phase} {buffer : List ℕ} → Heard bytes ear k phase buffer → pulls_nibble phase ≡ 15
heard_free (h_none room) = refl
heard_free (h_first room) = refl
heard_free (h_byte j buffer room g h) = refl
heard_free (h_half j buffer room g h) = refl

pub sees : (sender : Sender) (ear : Listener) (seen : Lines) → Shows sender seen → (listener_hsk ear ≡ true → seen.hsk ≡ true) → Sees sender ear seen.hsk seen.nibble
sees Next ear seen e own = e
sees (Placed n) ear seen e own = e
sees (Kept n) Ready seen e own = tt
sees (Kept n) Holding seen e own = own refl
sees (Kept n) Waiting seen e own = tt

pub part_free : {P : Reply → Inside → Type 0} {c : Command} {d : List ℕ} {i : ℕ} {sender : Sender} {st : Station} → Part P c d i sender st → pulls_nibble st.unit.phase ≡ 15
part_free (listens ear t f h a q) = heard_free h
part_free (answers ear r f l a e k q) = ap pulls_nibble e
part_free (sits now a e k q) = ap pulls_nibble e

fits_next : {n : ℕ} {ear : Listener} {t : ℕ} → Fits n Next ear t → listener_hsk ear ≡ false
fits_next f_next = refl

abbrev is_next : Sender → Bool
is_next Next = true
is_next (Placed n) = false
is_next (Kept n) = false

kept_next : {n : ℕ} → Next ≡ Kept n → ⊥
kept_next e = true≢false (ap is_next e)

-- Between two nibbles no unit pulls HSK.
pub part_high : {P : Reply → Inside → Type 0} {c : Command} {d : List ℕ} {i : ℕ} {st : Station} → Part P c d i Next st → pulls_hsk st.unit.phase ≡ false
part_high (listens ear t f h a q) = heard_hsk h ∙ fits_next f
part_high (answers ear r f l a e k q) = ap pulls_hsk e ∙ fits_next f
part_high (sits true a e k q) = absurd (kept_next (k refl).1)
part_high (sits false a e k q) = ap pulls_hsk e

-- A unit that still takes has not answered.
pub heard_open : {bytes : List ℕ} {ear : Listener} {k : ℕ} {phase : Phase} {buffer : List ℕ} → Heard bytes ear k phase buffer → is_answered phase ≡ false
heard_open (h_none room) = refl
heard_open (h_first room) = refl
heard_open (h_byte j buffer room g h) = refl
heard_open (h_half j buffer room g h) = refl

fits_one : {n : ℕ} {sender : Sender} {ear : Listener} → Fits n sender ear 1 → is_ready ear ≡ false
fits_one f_holds = refl
fits_one f_waits = refl

pub heard_short : {bytes : List ℕ} {ear : Listener} {k : ℕ} {phase : Phase} {buffer : List ℕ} → 9 ≤ length bytes → Heard bytes ear k phase buffer → k < 2 * length bytes
heard_short l (h_none room) = omega arith
heard_short l (h_first room) = omega arith
heard_short l (h_byte j buffer room g h) = omega arith
heard_short l (h_half j buffer room g h) = omega arith

-- Why a unit sits out.
pub data Hush (P : Reply → Inside → Type 0) (c : Command) (st : Station) : Type 0 where
  not_mine : addressed c st.unit.own ≡ false → Hush P c st
  ruled : (r : Reply) → is_silent r ≡ true → P r (inside_of st) → Hush P c st

-- A unit after its last command nibble is done: it responds, or sits out.
pub data Turned (P : Reply → Inside → Type 0) (c : Command) (st : Station) : Type 0 where
  speaks :
      (r : Reply) → is_silent r ≡ false → addressed c st.unit.own ≡ true → st.unit.phase ≡ Responding r 0 Next true → P r (inside_of st)
      → st.unit.asking ≡ false → Turned P c st
  silent : st.unit.phase ≡ SittingOut false → st.unit.asking ≡ false → Hush P c st → Turned P c st

module _ (P : Reply → Inside → Type 0) (c : Command) (d : List ℕ) (i : ℕ) (sender : Sender) (st st' : Station) (seen : Lines) (busy : Bool) (step : Stepped st seen busy st') where
  abbrev n : ℕ
  n = nibble_in (bytes_for c d) i

  -- What a round of the unit has left as it was.
  same-own : {a : Bool} → addressed c st.unit.own ≡ a → addressed c st'.unit.own ≡ a
  same-own e = ap (addressed c) step.own ∙ e

  not-asking : st.unit.asking ≡ false → st'.unit.asking ≡ false
  not-asking e = step.asking ∙ ap (λ (b : Bool). b && not seen.hsk) e

  asked_low : seen.hsk ≡ true → st'.unit.asking ≡ false
  asked_low e = step.asking ∙ ap (λ (b : Bool). st.unit.asking && not b) e ∙ and_false st.unit.asking
    where
      and_false : (b : Bool) → (b && false) ≡ false
      and_false true = refl
      and_false false = refl

  module _ {phase : Phase} (e : st.unit.phase ≡ phase) where
    phase-is : st'.unit.phase ≡ (phase_step phase st.unit.own st.unit.serial seen busy st.buffer st.input).phase
    phase-is = step.phase ∙ ap (λ (x : Phase). (phase_step x st.unit.own st.unit.serial seen busy st.buffer st.input).phase) e

    inside_is : inside_of st' ≡ inside_after phase st.unit.own (inside_of st) seen busy st.buffer
    inside_is = step.inside ∙ ap (λ (x : Phase). inside_after x st.unit.own (inside_of st) seen busy st.buffer) e

  still-sits : {now : Bool} → st.unit.phase ≡ SittingOut now → st'.unit.phase ≡ SittingOut false
  still-sits e = phase-is e

  -- What was heard, carried to the unit after the round.
  moved-heard : {ear : Listener} {k : ℕ} {after : Phase} {y : Inside} {b : List ℕ}
      → Round st.unit.phase st.unit.own (inside_of st) seen busy st.buffer after y b
      → Heard (bytes_for c d) ear k after b → Heard (bytes_for c d) ear k st'.unit.phase st'.buffer
  moved-heard {ear} {k} {after} {y} {b} r h =
      subst (λ (x : Phase). Heard (bytes_for c d) ear k x st'.buffer) (sym (step.phase ∙ r.phase))
      (subst (λ (x : List ℕ). Heard (bytes_for c d) ear k after x) (sym (step.buffer ∙ r.buffer)) h)

  -- A nibble that counts as sent, with more to come.
  pub part-sent : Shows sender seen → (pulls_hsk st.unit.phase ≡ true → seen.hsk ≡ true) → sent_of sender seen.hsk ≡ true → suc i < 2 * length (bytes_for c d)
      → Part P c d i sender st → Part P c d (suc i) Next st'
  part-sent shows own sent more (listens ear t f h a q) =
      sent-by (pair seen.hsk seen.nibble busy f (sees sender ear seen shows (λ e. own (heard_hsk h ∙ e))))
    where
      sent-by : Pair n sender ear t seen.hsk seen.nibble busy → Part P c d (suc i) Next st'
      sent-by (rests e1 e2 g) = absurd (true≢false (sym sent ∙ e2))
      sent-by (takes e1 e2 e3 e4 e5 g) = absurd (true≢false (sym sent ∙ e5))
      sent-by (sends e1 e2 e3 e4 e5) = goes (heard_waits st.unit.own (inside_of st) seen busy h e1)
        where
          goes : Waits (bytes_for c d) (i + t) (hear_of ear seen.hsk busy) st.unit.phase st.unit.own (inside_of st) seen busy st.buffer → Part P c d (suc i) Next st'
          goes (waits after h' r) =
              let k : i + t ≡ suc i + 0 = omega arith in
              listens Ready 0 f_next
              (subst (λ (x : ℕ). Heard (bytes_for c d) Ready x st'.unit.phase st'.buffer) k (subst (λ (x : Listener). Heard (bytes_for c d) x (i + t) st'.unit.phase st'.buffer) e4 (moved-heard r h')))
              (λ g. same-own (a (omega arith))) (λ g. not-asking (q (omega arith)))
  part-sent shows own sent more (answers ear r f l a e k q) = absurd (omega arith)
  part-sent shows own sent more (sits now a e k q) = sits false (same-own a) (still-sits e) (λ x. absurd (false≢true x)) (not-asking q)

  -- The last nibble counts as sent: the unit responds two rounds later, or sits out.
  answered-by : (t : Bool) (ear : Listener) (r : Reply) → is_silent r ≡ t → hear_of ear seen.hsk busy ≡ Ready → st.unit.phase ≡ Receiving ear (Answered r) → addressed c st.unit.own ≡ true
      → P r (inside_of st) → st.unit.asking ≡ false → Turned P c st'
  answered-by true ear r z e4 e a k q =
      silent (phase-is e ∙ rw (e4, z)) (not-asking q) (ruled r z (subst (P r) (sym (inside_is e)) k))
  answered-by false ear r z e4 e a k q =
      speaks r z (same-own a) (phase-is e ∙ rw (e4, z)) (subst (P r) (sym (inside_is e)) k) (not-asking q)

  pub part-over : Shows sender seen → (pulls_hsk st.unit.phase ≡ true → seen.hsk ≡ true) → sent_of sender seen.hsk ≡ true → suc i ≡ 2 * length (bytes_for c d) → 9 ≤ length (bytes_for c d)
      → Part P c d i sender st → Turned P c st'
  part-over shows own sent all nine (listens ear t f h a q) = over_by (pair seen.hsk seen.nibble busy f (sees sender ear seen shows (λ e. own (heard_hsk h ∙ e))))
    where
      over_by : Pair n sender ear t seen.hsk seen.nibble busy → Turned P c st'
      over_by (rests e1 e2 g) = absurd (true≢false (sym sent ∙ e2))
      over_by (takes e1 e2 e3 e4 e5 g) = absurd (true≢false (sym sent ∙ e5))
      over_by (sends e1 e2 e3 e4 e5) = let s : i + t < 2 * length (bytes_for c d) = heard_short nine h in absurd (omega arith)
  part-over shows own sent all nine (answers ear r f l a e k q) = over_by (pair seen.hsk seen.nibble busy f (sees sender ear seen shows (λ x. own (ap pulls_hsk e ∙ x))))
    where
      over_by : Pair n sender ear 1 seen.hsk seen.nibble busy → Turned P c st'
      over_by (rests e1 e2 g) = absurd (true≢false (sym sent ∙ e2))
      over_by (takes e1 e2 e3 e4 e5 g) = absurd (true≢false (sym sent ∙ e5))
      over_by (sends e1 e2 e3 e4 e5) = answered-by (is_silent r) ear r refl e4 e a k q
  part-over shows own sent all nine (sits now a e k q) = silent (still-sits e) (not-asking q) (not_mine (same-own a))

  -- A nibble that does not count as sent yet.
  module _
      (ok : Sent c d)
      (fixes : is_answered st.unit.phase ≡ false → is_answered st'.unit.phase ≡ true → inside_of st' ≡ taken_for st.unit.own (inside_of st) c d → P (reply_for st.unit.own (inside_of st) c d) (inside_of st'))
    where
      takes-more : Fits n (send_of sender seen.hsk n) Holding 1 → seen.hsk ≡ true
          → Takes (bytes_for c d) i st.unit.phase st.unit.own (inside_of st) seen busy st.buffer
          → (2 ≤ suc i → addressed c st.unit.own ≡ true)
          → Part P c d i (send_of sender seen.hsk n) st'
      takes-more g low (takes_it after b h r) a =
          let k : suc i ≡ i + 1 = omega arith in
          listens Holding 1 g (subst (λ (x : ℕ). Heard (bytes_for c d) Holding x st'.unit.phase st'.buffer) k (moved-heard r h)) (λ l. same-own (a (omega arith))) (λ l. asked_low low)

      takes_last : Fits n (send_of sender seen.hsk n) Holding 1 → seen.hsk ≡ true → suc i ≡ 2 * length (bytes_for c d) → addressed c st.unit.own ≡ true
          → is_answered st.unit.phase ≡ false
          → Fixed c d st.unit.phase st.unit.own (inside_of st) seen busy st.buffer
          → Part P c d i (send_of sender seen.hsk n) st'
      takes_last g low all a before x =
          answers Holding (reply_for st.unit.own (inside_of st) c d) g all (same-own a) (step.phase ∙ x.phase) (fixes before (ap is_answered (step.phase ∙ x.phase)) (step.inside ∙ x.inside)) (asked_low low)

      takes-by : (b t : Bool) → addressed c st.unit.own ≡ b → ltb (suc i) (2 * length (bytes_for c d)) ≡ t → i < 2 * length (bytes_for c d)
          → (2 ≤ i → addressed c st.unit.own ≡ true) → Fits n (send_of sender seen.hsk n) Holding 1 → (m : ℕ) → send_of sender seen.hsk n ≡ Kept m → seen.hsk ≡ true → seen.nibble ≡ n
          → Heard (bytes_for c d) Ready i st.unit.phase st.buffer → Part P c d i (send_of sender seen.hsk n) st'
      takes-by true true a l h z g m keeps low q x =
          takes-more g low (heard-takes c d ok st.unit.own (inside_of st) seen busy low x q (ltb-true (suc i) (2 * length (bytes_for c d)) l) (λ e. a)) (λ e. a)
      takes-by true false a l h z g m keeps low q x =
          let all : 2 * length (bytes_for c d) ≤ suc i = ltb-false (suc i) (2 * length (bytes_for c d)) l in
          takes_last g low (omega arith) a (heard_open x) (heard-last c d ok st.unit.own (inside_of st) seen busy low x q (omega arith))
      takes-by false t a l h z g m keeps low q x = other i refl
        where
          nine : length (bytes_for c d) ≡ 9 + length d
          nine = length_bytes c d

          other : (k : ℕ) → k ≡ i → Part P c d i (send_of sender seen.hsk n) st'
          other zero e =
              takes-more g low (heard-takes c d ok st.unit.own (inside_of st) seen busy low x q (omega arith) (λ e'. absurd (omega arith))) (λ e'. absurd (omega arith))
          other (suc zero) e =
              let r = heard-other c d ok st.unit.own (inside_of st) seen busy low x (sym e) (q ∙ ap (nibble_in (bytes_for c d)) (sym e)) a in
              sits true (same-own a) (step.phase ∙ r.phase) (λ _. (m, keeps)) (asked_low low)
          other (suc (suc k)) e = absurd (true≢false (sym (z (omega arith)) ∙ a))

      placed-kept : {k : Sender} {m : ℕ} → Fits m k Holding 1 → k ≡ Kept m
      placed-kept f_holds = refl

      pub part-rests : Shows sender seen → (pulls_hsk st.unit.phase ≡ true → seen.hsk ≡ true) → sent_of sender seen.hsk ≡ false → i < 2 * length (bytes_for c d)
          → Part P c d i sender st → Part P c d i (send_of sender seen.hsk n) st'
      part-rests shows own sent less (listens ear t f h a q) = rests-by (pair seen.hsk seen.nibble busy f (sees sender ear seen shows (λ e. own (heard_hsk h ∙ e))))
        where
          goes : Fits n (send_of sender seen.hsk n) (hear_of ear seen.hsk busy) t
              → Waits (bytes_for c d) (i + t) (hear_of ear seen.hsk busy) st.unit.phase st.unit.own (inside_of st) seen busy st.buffer
              → Part P c d i (send_of sender seen.hsk n) st'
          goes g (waits after h' r) = listens (hear_of ear seen.hsk busy) t g (moved-heard r h') (λ l. same-own (a l)) (λ l. not-asking (q l))

          rests-by : Pair n sender ear t seen.hsk seen.nibble busy → Part P c d i (send_of sender seen.hsk n) st'
          rests-by (rests e1 e2 g) = goes g (heard_waits st.unit.own (inside_of st) seen busy h e1)
          rests-by (takes e1 e2 e3 e4 e5 g) =
              let k : i + t ≡ i = omega arith in
              takes-by (addressed c st.unit.own) (ltb (suc i) (2 * length (bytes_for c d))) refl refl less (λ l. a (omega arith)) g n (placed-kept g) e2 e3
              (subst (λ (x : ℕ). Heard (bytes_for c d) Ready x st.unit.phase st.buffer) k (subst (λ (x : Listener). Heard (bytes_for c d) x (i + t) st.unit.phase st.buffer) e1 h))
          rests-by (sends e1 e2 e3 e4 e5) = absurd (true≢false (sym e2 ∙ sent))
      part-rests shows own sent less (answers ear r f l a e k q) = rests-by (pair seen.hsk seen.nibble busy f (sees sender ear seen shows (λ x. own (ap pulls_hsk e ∙ x))))
        where
          rests-by : Pair n sender ear 1 seen.hsk seen.nibble busy → Part P c d i (send_of sender seen.hsk n) st'
          rests-by (rests e1 e2 g) =
              answers (hear_of ear seen.hsk busy) r g l (same-own a) (phase-is e ∙ rw (fits_one g)) (subst (P r) (sym (inside_is e)) k) (not-asking q)
          rests-by (takes e1 e2 e3 e4 e5 g) = absurd (omega arith)
          rests-by (sends e1 e2 e3 e4 e5) = absurd (true≢false (sym e2 ∙ sent))
      part-rests shows own sent less (sits now a e k q) = sits false (same-own a) (still-sits e) (λ x. absurd (false≢true x)) (not-asking q)

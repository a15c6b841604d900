-- What need not be written, since it stands in the words already.
use Prim.Native.Nat.{ℕ, ◌+◌, ◌%◌, ◌<◌, ◌≤◌, min}
use native.Mathlib.Omega.{arith}
use mathlib.Core.Path.{◌≡◌, refl, sym, ◌∙◌, ap, subst}
use mathlib.Core.Bool.{Bool, true, false, cond, not, ◌&&◌}
use mathlib.Core.List.{List}
use borrow.Author.Tests.{lt-ltb, le-ltb, eqb-true}
use lib.Dec.{eqb}
use lib.ListN.{set}
use Rattle.field.specs.Field.{byte_from}
use Rattle.header.specs.Header.{InRange}
use Rattle.header.specs.declared.Header.{Header}
use Rattle.header.proofs.Laws.{with_none}
use Rattle.line.specs.Line.{sender_nibble, hear_of, taken_of, is_ready}
use Rattle.line.specs.declared.Lines.{Lines}
use Rattle.line.specs.declared.Listener.{Listener}
use Rattle.line.specs.declared.Listener.TheVariants.{Holding}
use Rattle.line.specs.declared.Sender.{Sender}
use Rattle.line.specs.declared.Sender.TheVariants.{Next, Placed, Kept}
use Rattle.phase.specs.Phase.{moves, partial, with_byte, idle_step, selected, selecting_step, buffer_with, answered, stored, byte_buffer, answered_step, phase_step, phase_buffer, phase_output}
use Rattle.phase.specs.declared.Moved.{Moved}
use Rattle.phase.specs.declared.Partial.{Partial}
use Rattle.phase.specs.declared.Phase.{Phase}
use Rattle.phase.specs.declared.Phase.TheVariants.{Idle, Selecting, Receiving, Responding, SittingOut}
use Rattle.phase.specs.declared.Progress.TheVariants.{Taking, Answered}
use Rattle.phase.proofs.Laws.{last_byte, last-output, more_bytes, more-output}
use Rattle.reply.specs.Reply.{last_nibble}
use Rattle.serial.specs.declared.Serial.{Serial}
use Rattle.unit.specs.Unit.{asks, low_step, high_step, pulls_nibble}
use Rattle.unit.specs.declared.Unit.{Unit}
use Rattle.unitwords.specs.Layout.{OWN, RETRY, QUIET, ASKING, ENABLED, REQUESTING, PHASE, EAR, HALF, LOW, PLACE, SENDER, WAIT, NIBBLE, NEXT, LAST}
use Rattle.unitwords.specs.Unit.{loaded_serial, serial_in, loaded_header, low_in, loaded_partial, partial_in, loaded_phase, listening, phase_in, moved_in, loaded, row_in, settings_in, saved_in}
use Rattle.unitwords.proofs.Laws.{serial_again, reply_again, value_again}
use Rattle.words.specs.Words.{at, number_in, flag_of, flag_in, tag_in, listener_of, listener_in, sender_of}
use Rattle.words.proofs.Laws.{past, tag_set, listener_back, unchanged}
use Rattle.unitround.specs.Round.{Stepped, Moves, selects, Takes, TakesByte, reply, answers, nibble, sends, responds, leaves}

module _ (ws : List ℕ) where
  -- The row of rounds with BAV seen high, and the pull of BAV: nothing else is read from their words.
  row-serial : (q : ℕ) (a : Bool) → loaded_serial (row_in ws q a) ≡ loaded_serial ws
  row-serial q a = simp past

  row-phase : (q : ℕ) (a : Bool) → loaded_phase (row_in ws q a) ≡ loaded_phase ws
  row-phase q a = simp past

  -- BAV seen high: of the settings, only they change.
  module _ (hsk : Bool) where
    abbrev dropped : Unit
    dropped = high_step (loaded ws) hsk

    row-settings : settings_in ws dropped ≡ row_in ws dropped.quiet dropped.asking
    row-settings = simp unchanged

    row-saved : phase_in (row_in ws dropped.quiet dropped.asking) Idle ≡ saved_in ws dropped
    row-saved =
        ap (λ (l : List ℕ). phase_in l Idle)
        (sym (serial_again (row_in ws dropped.quiet dropped.asking)) ∙ ap (serial_in (row_in ws dropped.quiet dropped.asking)) (row-serial dropped.quiet dropped.asking))
        ∙ ap (λ (l : List ℕ). phase_in (serial_in l (loaded_serial ws)) Idle) (sym row-settings)

    pub high-round : {r k q x : ℕ} {e g f a : Bool} {l : List ℕ} → e ≡ flag_of (at ws ENABLED) → g ≡ flag_of (at ws REQUESTING) → r ≡ at ws RETRY % 65536
        → k ≡ at ws QUIET % 65536 → q ≡ min (k + 1) r → f ≡ flag_of (at ws ASKING) → a ≡ asks f e g r q hsk → l ≡ row_in ws q a → x ≡ tag_in 6 (at l PHASE) 0
        → set l PHASE x ≡ saved_in ws dropped
    high-round {q = q} {a = a} {l = l} ee eg er ek eq ef ea el ex =
        let quiet : q ≡ dropped.quiet = eq ∙ (λ i. min (ek i + 1) (er i)) in
        let pull : a ≡ dropped.asking = ea ∙ (λ i. asks (ef i) (ee i) (eg i) (er i) (quiet i) hsk) in
        ap (set l PHASE) ex ∙ ap (λ (y : List ℕ). phase_in y Idle) (el ∙ (λ i. row_in ws (quiet i) (pull i))) ∙ row-saved

  -- The row while BAV is seen low: the pull of BAV is written only where there is one.
  module _ (hsk : Bool) {x : ℕ} (ex : x ≡ number_in 65536 (at ws QUIET) 0) {f : Bool} (ef : f ≡ flag_of (at (set ws QUIET x) ASKING)) where
    pull-is : {v : Bool} → f ≡ v → flag_of (at ws ASKING) ≡ v
    pull-is t = ap flag_of (sym (past ws QUIET ASKING x refl)) ∙ sym ef ∙ t

    pub pull-after : {a : Bool} {v : ℕ} → f ≡ true → a ≡ true && not hsk → v ≡ flag_in (at (set ws QUIET x) ASKING) a → set (set ws QUIET x) ASKING v ≡ row_in ws 0 (flag_of (at ws ASKING) && not hsk)
    pull-after t h e = rw (pull-is t) (λ k. set (set ws QUIET (ex k)) ASKING ((e ∙ (λ j. flag_in (past ws QUIET ASKING x refl j) (h j))) k))

    pub no-pull : f ≡ false → set ws QUIET x ≡ row_in ws 0 (flag_of (at ws ASKING) && not hsk)
    no-pull t = let none : flag_of (at ws ASKING) ≡ false = pull-is t in rw (none, ex) (sym (simp (unchanged, none)))

  -- BAV seen low: the row first, then the round of the phase.
  module _ (seen : Lines) (busy : Bool) (buffer input output : List ℕ) {l : List ℕ} (e : l ≡ row_in ws 0 (flag_of (at ws ASKING) && not seen.hsk)) (low : seen.bav ≡ true) where
    phase-is : loaded_phase l ≡ loaded_phase ws
    phase-is = ap loaded_phase e ∙ row-phase 0 (flag_of (at ws ASKING) && not seen.hsk)

    serial-is : loaded_serial l ≡ loaded_serial ws
    serial-is = ap loaded_serial e ∙ row-serial 0 (flag_of (at ws ASKING) && not seen.hsk)

    own_is : at l OWN ≡ at ws OWN
    own_is = ap (λ (x : List ℕ). at x OWN) e ∙ simp past

    abbrev moved : Moved
    moved = phase_step (loaded_phase ws) (at ws OWN % 256) (loaded_serial ws) seen busy buffer input

    low-settings : settings_in ws (low_step (loaded ws) seen.hsk moved) ≡ row_in ws 0 (flag_of (at ws ASKING) && not seen.hsk)
    low-settings = simp unchanged

    pub low-round : {ws' buffer' output' : List ℕ} → Moves l seen busy buffer input output ws' buffer' output' → Stepped ws seen busy buffer input output ws' buffer' output'
    low-round x = (
      x.0
          ∙ (λ i. moved_in (e i) (phase_step (phase-is i) (own_is i % 256) (serial-is i) seen busy buffer input))
          ∙ ap (λ (y : List ℕ). phase_in (serial_in y moved.serial) moved.phase) (sym low-settings)
          ∙ sym (rw low),
      (x.1.0 ∙ ap (λ (p : Phase). phase_buffer p seen buffer) phase-is ∙ sym (rw low), x.1.1 ∙ (λ i. phase_output (phase-is i) (own_is i % 256) (serial-is i) seen buffer output) ∙ sym (rw low)),
    )

  pub high-done : (seen : Lines) (busy : Bool) (buffer input output : List ℕ) {ws' : List ℕ} → seen.bav ≡ false
      → ws' ≡ saved_in ws (high_step (loaded ws) seen.hsk) → Stepped ws seen busy buffer input output ws' buffer output
  high-done seen busy buffer input output f q = rw f (q, (refl, refl))

  -- A phase without the state beside it.
  alone : {ws' : List ℕ} (next : Phase) → ws' ≡ phase_in ws next → ws' ≡ moved_in ws (moves next (loaded_serial ws))
  alone next q = q ∙ ap (λ (l : List ℕ). phase_in l next) (sym (serial_again ws))

  -- The round of a phase, by its tag.
  module _ (seen : Lines) (busy : Bool) (buffer input output : List ℕ) where
    abbrev Goes : List ℕ → Type 0
    Goes ws' = Moves ws seen busy buffer input output ws' buffer output

    pub in-selecting : {ws' : List ℕ} → eqb (at ws PHASE) 1 ≡ true → ws' ≡ selects ws seen busy → Goes ws'
    in-selecting t q = rw t (alone (selecting_step (at ws OWN % 256) (listener_of (at ws EAR)) (flag_of (at ws HALF)) (at ws LOW % 256) seen busy) q, (refl, refl))

    pub in-taking : {ws' buffer' output' : List ℕ} → eqb (at ws PHASE) 1 ≡ false → eqb (at ws PHASE) 2 ≡ true → Takes ws seen busy buffer output ws' buffer' output'
        → Moves ws seen busy buffer input output ws' buffer' output'
    in-taking f t q = rw (f, t) q

    pub in-answered : {ws' : List ℕ} → eqb (at ws PHASE) 1 ≡ false → eqb (at ws PHASE) 2 ≡ false → eqb (at ws PHASE) 3 ≡ true → ws' ≡ answers ws seen.hsk busy → Goes ws'
    in-answered f g t q = rw (f, g, t) (alone (answered_step (listener_of (at ws EAR)) (reply ws) seen.hsk busy) q, (refl, refl))

    pub in-responding : {ws' : List ℕ} → eqb (at ws PHASE) 1 ≡ false → eqb (at ws PHASE) 2 ≡ false → eqb (at ws PHASE) 3 ≡ false → eqb (at ws PHASE) 4 ≡ true
        → ws' ≡ responds ws seen.hsk input → Goes ws'
    in-responding f g h t q = rw (f, g, h, t) (q, (refl, refl))

    module _ (f : eqb (at ws PHASE) 1 ≡ false) (g : eqb (at ws PHASE) 2 ≡ false) (h : eqb (at ws PHASE) 3 ≡ false) (k : eqb (at ws PHASE) 4 ≡ false) where
      pub in-sitting-out : {v : ℕ} → eqb (at ws PHASE) 5 ≡ true → v ≡ flag_in (at ws LAST) false → Goes (set ws LAST v)
      in-sitting-out t q = let out : at ws PHASE ≡ 5 = eqb-true (at ws PHASE) 5 t in
          rw (f, g, h, k, t) (alone (SittingOut false) (ap (set ws LAST) q ∙ sym (simp (unchanged, out))), (refl, refl))

      pub in-idle : {ws' : List ℕ} → eqb (at ws PHASE) 5 ≡ false → ws' ≡ leaves ws seen.hsk 0 → Goes ws'
      in-idle m q = rw (f, g, h, k, m) (alone (idle_step seen.hsk) (q ∙ rw (f, h, k)), (refl, refl))

  -- Selecting.
  module _ (seen : Lines) (busy : Bool) (tag : eqb (at ws PHASE) 1 ≡ true) where
    is_one : at ws PHASE ≡ 1
    is_one = eqb-true (at ws PHASE) 1 tag

    pub no_code : {k : Bool} {v : ℕ} → k ≡ taken_of (listener_of (at ws EAR)) seen.hsk → k ≡ false → v ≡ listener_in (at ws EAR) (hear_of (listener_of (at ws EAR)) seen.hsk busy)
        → set ws EAR v ≡ selects ws seen busy
    no_code q t g = rw (sym q ∙ t) (ap (set ws EAR) g ∙ sym (simp (unchanged, is_one)))

    pub half-a-code : {k half : Bool} {ws' : List ℕ} → k ≡ taken_of (listener_of (at ws EAR)) seen.hsk → k ≡ true → half ≡ flag_of (at ws HALF) → half ≡ false
        → ws' ≡ low_in (set ws EAR 1) true seen.nibble → ws' ≡ selects ws seen busy
    half-a-code q t h u x = rw (sym q ∙ t, sym h ∙ u) (x ∙ simp (unchanged, tag_set, is_one))

    pub whole_code : {k half : Bool} {low code : ℕ} {ws' : List ℕ} → k ≡ taken_of (listener_of (at ws EAR)) seen.hsk → k ≡ true → half ≡ flag_of (at ws HALF) → half ≡ true
        → low ≡ at ws LOW % 256 → code ≡ byte_from low seen.nibble → ws' ≡ leaves ws false code → ws' ≡ selects ws seen busy
    whole_code q t h u g c x = rw (sym q ∙ t, sym h ∙ u) (x ∙ rw tag (ap (λ (n : ℕ). phase_in ws (selected (at ws OWN % 256) n)) (c ∙ ap (λ (n : ℕ). byte_from n seen.nibble) g)))

  -- A byte that is there: the last of its message, one before it, and one of the data, which leaves the header as it is.
  module _ (buffer output : List ℕ) (b : ℕ) {h : Header} (e : h ≡ with_byte (loaded_header ws) (at ws PLACE) b) where
    pub last-of-all : {k own : ℕ} {s : Serial} {m : Moved} {ws' buffer' output' : List ℕ} → k ≡ h.data_length → buffer' ≡ buffer_with k (at ws PLACE) b buffer → 8 + k ≤ at ws PLACE
        → own ≡ at ws OWN % 256 → s ≡ loaded_serial ws → (m ≡ answered own s h buffer') × (output' ≡ stored own s h buffer' output) → ws' ≡ moved_in ws m
        → TakesByte ws b buffer output ws' buffer' output'
    last-of-all {k} {own} {s} {m} {ws'} {buffer'} f g t eo es x y =
        let same : k ≡ (with_byte (loaded_header ws) (at ws PLACE) b).data_length = f ∙ ap (λ (z : Header). z.data_length) e in
        let put : buffer' ≡ byte_buffer (loaded_partial ws) b buffer = g ∙ ap (λ (n : ℕ). buffer_with n (at ws PLACE) b buffer) same in
        let beyond : 8 + h.data_length ≤ at ws PLACE = subst (λ (n : ℕ). 8 + n ≤ at ws PLACE) f t in (
          y ∙ ap (moved_in ws) (x.0 ∙ (λ i. answered (eo i) (es i) h buffer') ∙ last_byte (at ws OWN % 256) (loaded_serial ws) (loaded_partial ws) b buffer output h e buffer' put beyond),
          (put, x.1 ∙ (λ i. stored (eo i) (es i) h buffer' output) ∙ last-output (at ws OWN % 256) (loaded_serial ws) (loaded_partial ws) b buffer output h e buffer' put beyond),
        )

    pub more-to-come : {k : ℕ} {ws' buffer' : List ℕ} → k ≡ h.data_length → buffer' ≡ buffer_with k (at ws PLACE) b buffer → at ws PLACE < 8 + k
        → ws' ≡ phase_in ws (Receiving Holding (Taking (partial h (at ws PLACE + 1))))
        → TakesByte ws b buffer output ws' buffer' output
    more-to-come {k} {ws'} {buffer'} f g t x =
        let same : k ≡ (with_byte (loaded_header ws) (at ws PLACE) b).data_length = f ∙ ap (λ (z : Header). z.data_length) e in
        let put : buffer' ≡ byte_buffer (loaded_partial ws) b buffer = g ∙ ap (λ (n : ℕ). buffer_with n (at ws PLACE) b buffer) same in
        let short : at ws PLACE < 8 + h.data_length = subst (λ (n : ℕ). at ws PLACE < 8 + n) f t in (
          alone (Receiving Holding (Taking (partial h (at ws PLACE + 1)))) x ∙ ap (moved_in ws) (more_bytes (at ws OWN % 256) (loaded_serial ws) (loaded_partial ws) b buffer output h e short),
          (put, more-output (at ws OWN % 256) (loaded_serial ws) (loaded_partial ws) b buffer output h e short),
        )

  pub header-stays : (b : ℕ) → 9 ≤ at ws PLACE → loaded_header ws ≡ with_byte (loaded_header ws) (at ws PLACE) b
  header-stays b h = sym (with_none (loaded_header ws) (at ws PLACE) b in_range (omega arith) h)
    where
      in_range : InRange (loaded_header ws).command
      in_range = record { device = omega arith; command = omega arith; unit = omega arith; number = omega arith; buffer = omega arith }

  -- Receiving, until the last nibble is taken.
  module _ (tag : eqb (at ws PHASE) 2 ≡ true) where
    is-two : at ws PHASE ≡ 2
    is-two = eqb-true (at ws PHASE) 2 tag

    holding : set ws EAR 1 ≡ listening ws 2 Holding
    holding = sym (simp (unchanged, tag_set, is-two))

    pub next-data : {l : List ℕ} → l ≡ low_in (set ws EAR 1) false 0 → set l PLACE (at ws PLACE + 1) ≡ phase_in ws (Receiving Holding (Taking (partial (loaded_header ws) (at ws PLACE + 1))))
    next-data p = ap (λ (l : List ℕ). set l PLACE (at ws PLACE + 1)) p ∙ simp (unchanged, tag_set, is-two)

    pub next_header : {h : Header} {p : Partial} {ws' : List ℕ} → p ≡ partial h (at ws PLACE + 1) → ws' ≡ partial_in (set ws EAR 1) p
        → ws' ≡ phase_in ws (Receiving Holding (Taking (partial h (at ws PLACE + 1))))
    next_header e q = q ∙ (λ i. partial_in (holding i) (e i))

    abbrev halved : ℕ → Partial
    halved nibble = record { header = loaded_header ws; place = at ws PLACE; half = true; low = nibble }

    module _ (seen : Lines) (busy : Bool) (buffer output : List ℕ) {k : Bool} (q : k ≡ taken_of (listener_of (at ws EAR)) seen.hsk) where
      pub second-half : {half : Bool} {low b : ℕ} {ws' buffer' output' : List ℕ} → k ≡ true → half ≡ flag_of (at ws HALF) → half ≡ true → low ≡ at ws LOW % 256
          → b ≡ byte_from low seen.nibble → TakesByte ws b buffer output ws' buffer' output' → Takes ws seen busy buffer output ws' buffer' output'
      second-half {ws' = ws'} {buffer' = buffer'} {output' = output'} t h u g c x =
          rw (sym q ∙ t, sym h ∙ u) (subst (λ (n : ℕ). TakesByte ws n buffer output ws' buffer' output') (c ∙ ap (λ (n : ℕ). byte_from n seen.nibble) g) x)

      pub first-half : {half : Bool} {ws' : List ℕ} → k ≡ true → half ≡ flag_of (at ws HALF) → half ≡ false → ws' ≡ low_in (set ws EAR 1) true seen.nibble
          → Takes ws seen busy buffer output ws' buffer output
      first-half t h u x = rw (sym q ∙ t, sym h ∙ u) (alone (Receiving Holding (Taking (halved seen.nibble))) (x ∙ simp (unchanged, tag_set, is-two)), (refl, refl))

      pub no_nibble : {v : ℕ} → k ≡ false → v ≡ listener_in (at ws EAR) (hear_of (listener_of (at ws EAR)) seen.hsk busy) → Takes ws seen busy buffer output (set ws EAR v) buffer output
      no_nibble t g = rw (sym q ∙ t) (alone (Receiving (hear_of (listener_of (at ws EAR)) seen.hsk busy) (Taking (loaded_partial ws))) (ap (set ws EAR) g ∙ sym (simp (unchanged, is-two))), (refl, refl))

  -- Receiving, after the last nibble.
  module _ (hsk busy : Bool) (tag : eqb (at ws PHASE) 3 ≡ true) {v : ℕ} (e : v ≡ listener_in (at ws EAR) (hear_of (listener_of (at ws EAR)) hsk busy)) where
    is-three : at ws PHASE ≡ 3
    is-three = eqb-true (at ws PHASE) 3 tag

    ready-is : {ear : Listener} {r t : Bool} → ear ≡ listener_of v → r ≡ is_ready ear → r ≡ t → is_ready (hear_of (listener_of (at ws EAR)) hsk busy) ≡ t
    ready-is l q t = sym (ap is_ready (l ∙ ap listener_of e ∙ listener_back (at ws EAR) (hear_of (listener_of (at ws EAR)) hsk busy))) ∙ sym q ∙ t

    pub all-heard : {ear : Listener} {r : Bool} {ws' : List ℕ} → ear ≡ listener_of v → r ≡ is_ready ear → r ≡ true → ws' ≡ leaves ws hsk 0 → ws' ≡ answers ws hsk busy
    all-heard l q t x = rw (ready-is l q t) (x ∙ rw (is-three))

    pub not-yet-heard : {ear : Listener} {r : Bool} → ear ≡ listener_of v → r ≡ is_ready ear → r ≡ false → set ws EAR v ≡ answers ws hsk busy
    not-yet-heard l q t = rw (ready-is l q t) (ap (set ws EAR) e ∙ sym (simp (unchanged, reply_again, value_again, is-three)))

  -- Responding, by the sender's tag.
  module _ (hsk : Bool) (input : List ℕ) (tag : eqb (at ws PHASE) 4 ≡ true) where
    is-four : at ws PHASE ≡ 4
    is-four = eqb-true (at ws PHASE) 4 tag

    pub begins : {wait : Bool} {v : ℕ} → wait ≡ flag_of (at ws WAIT) → wait ≡ true → v ≡ flag_in (at ws WAIT) false → set ws WAIT v ≡ responds ws hsk input
    begins e t q = rw (sym e ∙ t) (alone (Responding (reply ws) (at ws NEXT) (sender_of (at ws SENDER) (at ws NIBBLE)) false)
        (ap (set ws WAIT) q ∙ sym (simp (unchanged, reply_again, value_again, is-four))))

    module _ (f : flag_of (at ws WAIT) ≡ false) where
      pub was-placed : eqb (at ws SENDER) 1 ≡ true → set ws SENDER 2 ≡ responds ws hsk input
      was-placed t = rw (f, t) (alone (Responding (reply ws) (at ws NEXT) (Kept (at ws NIBBLE % 256)) false) (sym (simp (unchanged, reply_again, value_again, tag_set, is-four, f))))

      pub still_kept : eqb (at ws SENDER) 1 ≡ false → eqb (at ws SENDER) 2 ≡ true → hsk ≡ true → ws ≡ responds ws hsk input
      still_kept g t h =
          let two : at ws SENDER ≡ 2 = eqb-true (at ws SENDER) 2 t in
          rw (f, g, t, h) (alone (Responding (reply ws) (at ws NEXT) (Kept (at ws NIBBLE % 256)) false) (sym (simp (unchanged, reply_again, value_again, tag_set, is-four, two, f))))

      pub is-sent : {ws' : List ℕ} → eqb (at ws SENDER) 1 ≡ false → eqb (at ws SENDER) 2 ≡ true → hsk ≡ false → ws' ≡ sends ws → ws' ≡ responds ws hsk input
      is-sent g t h q = rw (f, g, t, h) q

      pub is-placed : {n v : ℕ} → eqb (at ws SENDER) 1 ≡ false → eqb (at ws SENDER) 2 ≡ false → n ≡ nibble ws input → v ≡ number_in 256 (at ws NIBBLE) n
          → set (set ws SENDER 1) NIBBLE v ≡ responds ws hsk input
      is-placed g h e q =
          rw (f, g, h)
          (alone (Responding (reply ws) (at ws NEXT) (Placed (nibble ws input)) false)
          (ap (set (set ws SENDER 1) NIBBLE) (q ∙ ap (number_in 256 (at ws NIBBLE)) e) ∙ sym (simp (unchanged, reply_again, value_again, tag_set, is-four, f))))

  -- A nibble that is sent: whether it is the last.
  module _ (tag : eqb (at ws PHASE) 4 ≡ true) (f : flag_of (at ws WAIT) ≡ false) {last i : ℕ} (el : last ≡ last_nibble (loaded_serial ws).input (reply ws)) (ei : i ≡ at ws NEXT) where
    pub next-nibble : eqb (at ws SENDER) 2 ≡ true → i < last → set (set ws SENDER 0) NEXT (at ws NEXT + 1) ≡ sends ws
    next-nibble q t =
        let two : at ws SENDER ≡ 2 = eqb-true (at ws SENDER) 2 q in
        let four : at ws PHASE ≡ 4 = eqb-true (at ws PHASE) 4 tag in
        let below : at ws NEXT < last_nibble (loaded_serial ws).input (reply ws) = omega (arith, t, ei, el) in
        rw (lt-ltb (at ws NEXT) (last_nibble (loaded_serial ws).input (reply ws)) below)
        (alone (Responding (reply ws) (at ws NEXT + 1) Next false) (sym (simp (unchanged, reply_again, value_again, two, four, f))))

    pub last-nibble : {ws' : List ℕ} → last ≤ i → ws' ≡ leaves ws false 0 → ws' ≡ sends ws
    last-nibble h q =
        let four : at ws PHASE ≡ 4 = eqb-true (at ws PHASE) 4 tag in
        let beyond : last_nibble (loaded_serial ws).input (reply ws) ≤ at ws NEXT = omega (arith, h, ei, el) in
        rw (le-ltb (at ws NEXT) (last_nibble (loaded_serial ws).input (reply ws)) beyond) (q ∙ rw four)

-- What a unit that is not responding leaves on the data lines.
pub no_nibble_pulled : (ws : List ℕ) → eqb (at ws PHASE) 4 ≡ false → pulls_nibble (loaded_phase ws) ≡ 15
no_nibble_pulled ws f = rw f (by-tag (eqb (at ws PHASE) 1) (eqb (at ws PHASE) 2) (eqb (at ws PHASE) 3) (eqb (at ws PHASE) 5))
  where
    by-tag : (a b c d : Bool)
        → pulls_nibble
        (cond a (Selecting (listener_of (at ws EAR)) (flag_of (at ws HALF)) (at ws LOW % 256))
        (cond b (Receiving (listener_of (at ws EAR)) (Taking (loaded_partial ws)))
        (cond c (Receiving (listener_of (at ws EAR)) (Answered (reply ws))) (cond d (SittingOut (flag_of (at ws LAST))) Idle)))) ≡ 15
    by-tag true b c d = refl
    by-tag false true c d = refl
    by-tag false false true d = refl
    by-tag false false false true = refl
    by-tag false false false false = refl

pub nibble_pulled : (ws : List ℕ) {sender : Sender} {r : ℕ} → eqb (at ws PHASE) 4 ≡ true → sender ≡ sender_of (at ws SENDER) (at ws NIBBLE) → r ≡ sender_nibble sender
    → r ≡ pulls_nibble (loaded_phase ws)
nibble_pulled ws t e p = let four : at ws PHASE ≡ 4 = eqb-true (at ws PHASE) 4 t in rw four (p ∙ ap sender_nibble e)

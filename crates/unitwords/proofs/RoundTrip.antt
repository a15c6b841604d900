-- Word by word, what was put there is read again: first the state besides the lines, then each phase.
use Prim.Native.Nat.{ℕ, ◌/◌, ◌%◌, ◌<◌}
use native.Mathlib.Omega.{arith}
use mathlib.Core.Path.{◌≡◌, refl, ◌∙◌, ap, subst⁻¹}
use mathlib.Core.List.{List}
use lib.ListN.{replicate}
use Rattle.phase.specs.declared.Phase.{Phase}
use Rattle.phase.specs.declared.Phase.TheVariants.{Idle, Selecting, Receiving, Responding, SittingOut}
use Rattle.phase.specs.declared.Progress.TheVariants.{Taking, Answered}
use Rattle.screen.specs.declared.Screen.{Screen}
use Rattle.screen.specs.declared.Sequence.{Sequence}
use Rattle.screen.specs.declared.Sequence.TheVariants.{Column, Skips}
use Rattle.serial.specs.declared.Mode.TheVariants.{Input, Output, Update}
use Rattle.serial.specs.declared.Opening.{Opening}
use Rattle.serial.specs.declared.Reply.{Reply}
use Rattle.serial.specs.declared.Reply.TheVariants.{Status, Opened, Bytes, Address}
use Rattle.unit.specs.declared.Unit.{Unit}
use Rattle.words.specs.Words.{at, number_in, flag_of, flag_in, tag_of, tag_in}
use Rattle.words.proofs.Laws.{back, flag_back, tag_meant, tag_back, none_of, listener_back, sender_back, command_back, elements_from, one_by_one}
use Rattle.unitwords.specs.Layout.{WORDS, OWN, RETRY, QUIET, ASKING, OPENING, ACCEPTED, ENABLED, REQUESTING, INPUT_HEAD, INPUT_COUNT, OUTPUT_HEAD, OUTPUT_COUNT, PHASE, EAR, HALF, LOW, DEVICE, COMMAND, LOGICAL_UNIT, RECORD_NUMBER, BUFFER_LENGTH, DATA_LENGTH, REPLY, VALUE, SENDER, WAIT, NIBBLE, LAST, ROW, COLUMN, SCROLLS, WRAPS, TOP, BOTTOM, ASKED, SEQUENCE, ARGUMENT}
use Rattle.unitwords.specs.Unit.{opening_of, opening_number, accepted_in, queue_of, sequence_of, sequence_tag, argument_in, serial_in, address_in, address_of, reply_of, reply_tag, value_in, phase_by, loaded_phase, phase_in, loaded, settings_in, saved_in}
use Rattle.unitwords.proofs.Laws.{phase_meant}
use Rattle.unitwords.specs.RoundTrip.{OpeningFits, closed, opened_for, ReplyFits, silent, status, opened, bytes, address, polled, PhaseFits, idle, selecting, taking, answered, responding, sitting_out, SequenceFits, plain, escape, at_row, at_column, skips, ScreenFits, InRange, LoadedSavedIn, LoadedSaved}

opening_back : (word accepted : ℕ) (o : Opening) → OpeningFits o → opening_of (number_in 4 word (opening_number o)) (accepted_in accepted o) ≡ o
opening_back word accepted o closed = rw (back 4 word 0 (omega arith))
opening_back word accepted o (opened_for {m = Input} {accepted = n} h) = rw (back 4 word 1 (omega arith), back 256 accepted n h)
opening_back word accepted o (opened_for {m = Output} {accepted = n} h) = rw (back 4 word 2 (omega arith), back 256 accepted n h)
opening_back word accepted o (opened_for {m = Update} {accepted = n} h) = rw (back 4 word 3 (omega arith), back 256 accepted n h)

reply_by : (word value tag : ℕ) → reply_of (tag_in 6 word tag) value ≡ reply_of tag value
reply_by word value tag = tag_back (λ (t : ℕ). reply_of t value) 6 meant word tag
  where
    meant : (w : ℕ) → reply_of w value ≡ reply_of (tag_of 6 w) value
    meant w = tag_meant (λ (t : ℕ). reply_of t value) 6 w (λ h. rw (none_of w 6 1 h (omega arith), none_of w 6 2 h (omega arith), none_of w 6 3 h (omega arith), none_of w 6 4 h (omega arith), none_of w 6 5 h (omega arith)))

address_back : (word n row column : ℕ) → n < 256 → row < 256 → column < 256 → address_of (address_in word n row column) ≡ Address n row column
address_back word n row column h k l = λ i. Address (count i) (line i) (place i)
  where
    count : address_in word n row column % 256 ≡ n
    count = omega arith

    line : (address_in word n row column / 256) % 256 ≡ row
    line = omega arith

    place : (address_in word n row column / 65536) % 256 ≡ column
    place = omega arith

reply_back : (word value : ℕ) (r : Reply) → ReplyFits r → reply_of (tag_in 6 word (reply_tag r)) (value_in value r) ≡ r
reply_back word value r silent = reply_by word value 0
reply_back word value r (status {n} h) = reply_by word (number_in 256 value n) 1 ∙ ap Status (back 256 value n h)
reply_back word value r (opened {n} h) = reply_by word (number_in 256 value n) 2 ∙ ap Opened (back 256 value n h)
reply_back word value r (bytes {n} h) = reply_by word (number_in 65536 value n) 3 ∙ ap Bytes (back 65536 value n h)
reply_back word value r (address {n} {row} {column} h k l) = reply_by word (address_in value n row column) 5 ∙ address_back value n row column h k l
reply_back word value r polled = reply_by word value 4

sequence_back : (word argument : ℕ) (q : Sequence) → SequenceFits q → sequence_of (tag_in 5 word (sequence_tag q)) (argument_in argument q) ≡ q
sequence_back word argument q fits = by-case q fits
  where
    meant : (value w : ℕ) → sequence_of w value ≡ sequence_of (tag_of 5 w) value
    meant value w = tag_meant (λ (t : ℕ). sequence_of t value) 5 w (λ h. rw (none_of w 5 1 h (omega arith), none_of w 5 2 h (omega arith), none_of w 5 3 h (omega arith), none_of w 5 4 h (omega arith)))

    by-tag : (value tag : ℕ) → sequence_of (tag_in 5 word tag) value ≡ sequence_of tag value
    by-tag value tag = tag_back (λ (t : ℕ). sequence_of t value) 5 (meant value) word tag

    by-case : (q : Sequence) → SequenceFits q → sequence_of (tag_in 5 word (sequence_tag q)) (argument_in argument q) ≡ q
    by-case q plain = by-tag argument 0
    by-case q escape = by-tag argument 1
    by-case q at_row = by-tag argument 2
    by-case q (at_column {n} h) = by-tag (number_in 256 argument n) 3 ∙ ap Column (back 256 argument n h)
    by-case q (skips {n} h) = by-tag (number_in 256 argument n) 4 ∙ ap Skips (back 256 argument n h)

-- A screen that was put into words.
abbrev screen_beside : List ℕ → Screen → Screen
screen_beside ws s = record {
  row = number_in 256 (at ws ROW) s.row % 256;
  column = number_in 256 (at ws COLUMN) s.column % 256;
  scrolls = flag_of (flag_in (at ws SCROLLS) s.scrolls);
  wraps = flag_of (flag_in (at ws WRAPS) s.wraps);
  top = flag_of (flag_in (at ws TOP) s.top);
  bottom = flag_of (flag_in (at ws BOTTOM) s.bottom);
  asked = flag_of (flag_in (at ws ASKED) s.asked);
  sequence = sequence_of (tag_in 5 (at ws SEQUENCE) (sequence_tag s.sequence)) (argument_in (at ws ARGUMENT) s.sequence);
}

screen_back : (ws : List ℕ) (s : Screen) → ScreenFits s → screen_beside ws s ≡ s
screen_back ws s h = λ i. record {
  row = back 256 (at ws ROW) s.row h.row i;
  column = back 256 (at ws COLUMN) s.column h.column i;
  scrolls = flag_back (at ws SCROLLS) s.scrolls i;
  wraps = flag_back (at ws WRAPS) s.wraps i;
  top = flag_back (at ws TOP) s.top i;
  bottom = flag_back (at ws BOTTOM) s.bottom i;
  asked = flag_back (at ws ASKED) s.asked i;
  sequence = sequence_back (at ws SEQUENCE) (at ws ARGUMENT) s.sequence h.sequence i;
}

-- A unit of which all but the phase was put into words.
abbrev beside : List ℕ → Unit → Phase → Unit
beside ws u p = record {
  own = number_in 256 (at ws OWN) u.own % 256;
  retry = number_in 65536 (at ws RETRY) u.retry % 65536;
  quiet = number_in 65536 (at ws QUIET) u.quiet % 65536;
  asking = flag_of (flag_in (at ws ASKING) u.asking);
  phase = p;
  serial = record {
    opening = opening_of (number_in 4 (at ws OPENING) (opening_number u.serial.opening)) (accepted_in (at ws ACCEPTED) u.serial.opening);
    enabled = flag_of (flag_in (at ws ENABLED) u.serial.enabled);
    requesting = flag_of (flag_in (at ws REQUESTING) u.serial.requesting);
    input = queue_of (number_in 256 (at ws INPUT_HEAD) u.serial.input.head) (number_in 65536 (at ws INPUT_COUNT) u.serial.input.count);
    output = queue_of (number_in 256 (at ws OUTPUT_HEAD) u.serial.output.head) (number_in 65536 (at ws OUTPUT_COUNT) u.serial.output.count);
    screen = screen_beside ws u.serial.screen;
  };
}

beside_back : (ws : List ℕ) (u : Unit) (p : Phase) → InRange u → p ≡ u.phase → beside ws u p ≡ u
beside_back ws u p h e = λ i. record {
  own = back 256 (at ws OWN) u.own h.own i;
  retry = back 65536 (at ws RETRY) u.retry h.retry i;
  quiet = back 65536 (at ws QUIET) u.quiet h.quiet i;
  asking = flag_back (at ws ASKING) u.asking i;
  phase = e i;
  serial = record {
    opening = opening_back (at ws OPENING) (at ws ACCEPTED) u.serial.opening h.opening i;
    enabled = flag_back (at ws ENABLED) u.serial.enabled i;
    requesting = flag_back (at ws REQUESTING) u.serial.requesting i;
    input = record { head = back 256 (at ws INPUT_HEAD) u.serial.input.head h.input.head i; count = back 65536 (at ws INPUT_COUNT) u.serial.input.count h.input.count i };
    output = record { head = back 256 (at ws OUTPUT_HEAD) u.serial.output.head h.output.head i; count = back 65536 (at ws OUTPUT_COUNT) u.serial.output.count h.output.count i };
    screen = screen_back ws u.serial.screen h.screen i;
  };
}

-- The words after a save, one by one.
abbrev words : List ℕ → Unit → Phase → List ℕ
words ws u p = phase_in (serial_in (settings_in (elements_from 0 WORDS 0 ws) u) u.serial) p

-- Whatever the phase, it stands behind the words of the rest.
rest-stays : (ws : List ℕ) (u : Unit) (p : Phase) → loaded (words ws u p) ≡ beside ws u (loaded_phase (words ws u p))
rest-stays ws u Idle = refl
rest-stays ws u (Selecting ear half low) = refl
rest-stays ws u (Receiving ear (Taking p)) = refl
rest-stays ws u (Receiving ear (Answered reply)) = refl
rest-stays ws u (Responding reply i sender wait) = refl
rest-stays ws u (SittingOut last) = refl

-- A phase by the word of its tag.
phase_by_lem : (l : List ℕ) (word tag : ℕ) → at l PHASE ≡ tag_in 6 word tag → loaded_phase l ≡ phase_by tag l
phase_by_lem l word tag e = ap (λ (t : ℕ). phase_by t l) e ∙ tag_back (λ (t : ℕ). phase_by t l) 6 (phase_meant l) word tag

phase_back : (ws : List ℕ) (u : Unit) (p : Phase) → PhaseFits p → loaded_phase (words ws u p) ≡ p
phase_back ws u p idle = phase_by_lem (words ws u p) (at ws PHASE) 0 refl
phase_back ws u p (selecting {ear} {half} {low} h) =
    phase_by_lem (words ws u p) (at ws PHASE) 1 refl ∙ (λ i. Selecting (listener_back (at ws EAR) ear i) (flag_back (at ws HALF) half i) (back 256 (at ws LOW) low h i))
phase_back ws u q (taking {ear} {p} c n l) = phase_by_lem (words ws u q) (at ws PHASE) 2 refl ∙ (λ i. Receiving (listener_back (at ws EAR) ear i) (Taking (record {
  header = record {
    command = command_back (at ws DEVICE) (at ws COMMAND) (at ws LOGICAL_UNIT) (at ws RECORD_NUMBER) (at ws BUFFER_LENGTH) p.header.command c i;
    data_length = back 65536 (at ws DATA_LENGTH) p.header.data_length n i;
  };
  place = p.place;
  half = flag_back (at ws HALF) p.half i;
  low = back 256 (at ws LOW) p.low l i;
})))
phase_back ws u p (answered {ear} {reply} r) =
    phase_by_lem (words ws u p) (at ws PHASE) 3 refl ∙ (λ i. Receiving (listener_back (at ws EAR) ear i) (Answered (reply_back (at ws REPLY) (at ws VALUE) reply r i)))
phase_back ws u p (responding {reply} {i = n} {sender} {wait} r s) =
    phase_by_lem (words ws u p) (at ws PHASE) 4 refl
    ∙ (λ i. Responding (reply_back (at ws REPLY) (at ws VALUE) reply r i) n (sender_back (at ws SENDER) (at ws NIBBLE) sender s i) (flag_back (at ws WAIT) wait i))
phase_back ws u p (sitting_out {last}) = phase_by_lem (words ws u p) (at ws PHASE) 5 refl ∙ (λ i. SittingOut (flag_back (at ws LAST) last i))

pub loaded-saved_in : LoadedSavedIn
loaded-saved_in ws u n h =
    subst⁻¹ (λ (l : List ℕ). loaded (saved_in l u) ≡ u) (one_by_one 0 WORDS ws n)
    (rest-stays ws u u.phase ∙ beside_back ws u _ h (phase_back ws u u.phase h.phase))

pub loaded-saved : LoadedSaved
loaded-saved u h = loaded-saved_in (replicate WORDS 0) u refl h

-- What was loaded and is saved changes no word.
use Prim.Native.Nat.{ℕ, zero, suc, ◌/◌, ◌%◌, ◌<◌}
use native.Mathlib.Omega.{arith}
use mathlib.Core.Path.{◌≡◌, refl, ◌∙◌, ap}
use mathlib.Core.Bool.{Bool, true, false, cond}
use mathlib.Core.List.{List, [], ◌∷◌}
use lib.Dec.{eqb}
use Rattle.screen.specs.declared.Sequence.TheVariants.{Plain, Escape, Row, Column, Skips}
use Rattle.serial.specs.declared.Reply.TheVariants.{Silent, Status, Opened, Bytes, Polled}
use Rattle.serial.specs.declared.Serial.{Serial}
use Rattle.words.specs.Words.{at, written, ◌≔◌, number_in, flag_in, tag_of, tag_in}
use Rattle.words.proofs.Laws.{again, none_of, tag_again, tag_below, tag_is, tag_meant, unchanged}
use Rattle.unitwords.specs.Unit.{opening_of, opening_number, accepted_in, sequence_of, sequence_tag, argument_in, loaded_screen, screen_in, loaded_serial, common_in, serial_in, address_of, address_in, reply_of, reply_tag, value_in, phase_by, loaded_phase, phase_in, loaded, settings_in}
use Rattle.unitwords.specs.RoundTrip.{SavedLoaded}
use Rattle.unitwords.specs.Layout.{OPENING, ACCEPTED, ENABLED, REQUESTING, INPUT_HEAD, INPUT_COUNT, OUTPUT_HEAD, OUTPUT_COUNT, PHASE}

opening_again : (word accepted : ℕ) → number_in 4 word (opening_number (opening_of word accepted)) ≡ word
opening_again word accepted = by_mode (word % 4) refl
  where
    by_mode : (p : ℕ) → word % 4 ≡ p → number_in 4 word (opening_number (cond (eqb p 1) (opening_of 1 accepted) (cond (eqb p 2) (opening_of 2 accepted) (cond (eqb p 3) (opening_of 3 accepted) (opening_of 0 accepted))))) ≡ word
    by_mode zero e = omega arith
    by_mode (suc zero) e = omega arith
    by_mode (suc (suc zero)) e = omega arith
    by_mode (suc (suc (suc zero))) e = omega arith
    by_mode (suc (suc (suc (suc p)))) e = absurd (omega arith)

accepted_again : (word accepted : ℕ) → accepted_in accepted (opening_of word accepted) ≡ accepted
accepted_again word accepted = by_mode (eqb (word % 4) 1) (eqb (word % 4) 2) (eqb (word % 4) 3)
  where
    by_mode : (a b c : Bool) → accepted_in accepted (cond a (opening_of 1 accepted) (cond b (opening_of 2 accepted) (cond c (opening_of 3 accepted) (opening_of 0 accepted)))) ≡ accepted
    by_mode true b c = again 256 accepted
    by_mode false true c = again 256 accepted
    by_mode false false true = again 256 accepted
    by_mode false false false = refl

reply_tag_lem : (word value : ℕ) → tag_of 6 word ≡ reply_tag (reply_of word value)
reply_tag_lem word value = tag_is (λ (w : ℕ). reply_tag (reply_of w value)) 6 word (λ h. rw (none_of word 6 1 h (omega arith), none_of word 6 2 h (omega arith), none_of word 6 3 h (omega arith), none_of word 6 4 h (omega arith), none_of word 6 5 h (omega arith))) same
  where
    same : (k : ℕ) → k < 6 → reply_tag (reply_of k value) ≡ k
    same zero h = refl
    same (suc zero) h = refl
    same (suc (suc zero)) h = refl
    same (suc (suc (suc zero))) h = refl
    same (suc (suc (suc (suc zero)))) h = refl
    same (suc (suc (suc (suc (suc zero))))) h = refl
    same (suc (suc (suc (suc (suc (suc k)))))) h = absurd (omega arith)

pub reply_again : (word value : ℕ) → tag_in 6 word (reply_tag (reply_of word value)) ≡ word
reply_again word value = tag_again 6 word (reply_tag (reply_of word value)) (reply_tag_lem word value)

address_again : (value : ℕ) → address_in value (value % 256) ((value / 256) % 256) ((value / 65536) % 256) ≡ value
address_again value = omega arith

pub value_again : (word value : ℕ) → value_in value (reply_of word value) ≡ value
value_again word value = by-tag (eqb word 1) (eqb word 2) (eqb word 3) (eqb word 4) (eqb word 5)
  where
    by-tag : (a b c d e : Bool)
        → value_in value (cond a (Status (value % 256)) (cond b (Opened (value % 256)) (cond c (Bytes (value % 65536)) (cond d Polled (cond e (address_of value) Silent))))) ≡ value
    by-tag true b c d e = again 256 value
    by-tag false true c d e = again 256 value
    by-tag false false true d e = again 65536 value
    by-tag false false false true e = refl
    by-tag false false false false true = address_again value
    by-tag false false false false false = refl

settings_again : (ws : List ℕ) → settings_in ws (loaded ws) ≡ ws
settings_again ws = simp unchanged

pub common_written : (ws : List ℕ) (s : Serial) {opening accepted enabled requesting inputHead inputCount outputHead outputCount : ℕ}
    → opening ≡ number_in 4 (at ws OPENING) (opening_number s.opening)
    → accepted ≡ accepted_in (at ws ACCEPTED) s.opening
    → enabled ≡ flag_in (at ws ENABLED) s.enabled
    → requesting ≡ flag_in (at ws REQUESTING) s.requesting
    → inputHead ≡ number_in 256 (at ws INPUT_HEAD) s.input.head
    → inputCount ≡ number_in 65536 (at ws INPUT_COUNT) s.input.count
    → outputHead ≡ number_in 256 (at ws OUTPUT_HEAD) s.output.head
    → outputCount ≡ number_in 65536 (at ws OUTPUT_COUNT) s.output.count
    → written ws (OPENING ≔ opening ∷ ACCEPTED ≔ accepted ∷ ENABLED ≔ enabled ∷ REQUESTING ≔ requesting ∷ INPUT_HEAD ≔ inputHead
    ∷ INPUT_COUNT ≔ inputCount ∷ OUTPUT_HEAD ≔ outputHead ∷ OUTPUT_COUNT ≔ outputCount ∷ []) ≡ common_in ws s
common_written ws s o a e r ih ic oh oc = λ i.
    written ws (OPENING ≔ o i ∷ ACCEPTED ≔ a i ∷ ENABLED ≔ e i ∷ REQUESTING ≔ r i ∷ INPUT_HEAD ≔ ih i
    ∷ INPUT_COUNT ≔ ic i ∷ OUTPUT_HEAD ≔ oh i ∷ OUTPUT_COUNT ≔ oc i ∷ [])

common_again : (ws : List ℕ) → common_in ws (loaded_serial ws) ≡ ws
common_again ws = simp (unchanged, opening_again, accepted_again)

-- A screen.
sequence_tag_lem : (word argument : ℕ) → tag_of 5 word ≡ sequence_tag (sequence_of word argument)
sequence_tag_lem word argument = tag_is (λ (w : ℕ). sequence_tag (sequence_of w argument)) 5 word (λ h. rw (none_of word 5 1 h (omega arith), none_of word 5 2 h (omega arith), none_of word 5 3 h (omega arith), none_of word 5 4 h (omega arith))) same
  where
    same : (k : ℕ) → k < 5 → sequence_tag (sequence_of k argument) ≡ k
    same zero h = refl
    same (suc zero) h = refl
    same (suc (suc zero)) h = refl
    same (suc (suc (suc zero))) h = refl
    same (suc (suc (suc (suc zero)))) h = refl
    same (suc (suc (suc (suc (suc k))))) h = absurd (omega arith)

sequence_again : (word argument : ℕ) → tag_in 5 word (sequence_tag (sequence_of word argument)) ≡ word
sequence_again word argument = tag_again 5 word (sequence_tag (sequence_of word argument)) (sequence_tag_lem word argument)

argument_again : (word argument : ℕ) → argument_in argument (sequence_of word argument) ≡ argument
argument_again word argument = by-tag (eqb word 1) (eqb word 2) (eqb word 3) (eqb word 4)
  where
    by-tag : (a b c d : Bool) → argument_in argument (cond a Escape (cond b Row (cond c (Column (argument % 256)) (cond d (Skips (argument % 256)) Plain)))) ≡ argument
    by-tag true b c d = refl
    by-tag false true c d = refl
    by-tag false false true d = again 256 argument
    by-tag false false false true = again 256 argument
    by-tag false false false false = refl

screen_again : (ws : List ℕ) → screen_in ws (loaded_screen ws) ≡ ws
screen_again ws = simp (unchanged, sequence_again, argument_again)

pub serial_again : (ws : List ℕ) → serial_in ws (loaded_serial ws) ≡ ws
serial_again ws = ap (λ (l : List ℕ). screen_in l (loaded_screen ws)) (common_again ws) ∙ screen_again ws

-- A phase.
pub phase_meant : (l : List ℕ) (word : ℕ) → phase_by word l ≡ phase_by (tag_of 6 word) l
phase_meant l word = tag_meant (λ (t : ℕ). phase_by t l) 6 word (λ h. rw (none_of word 6 1 h (omega arith), none_of word 6 2 h (omega arith), none_of word 6 3 h (omega arith), none_of word 6 4 h (omega arith), none_of word 6 5 h (omega arith)))

phase_again : (ws : List ℕ) → phase_in ws (loaded_phase ws) ≡ ws
phase_again ws = ap (phase_in ws) (phase_meant ws (at ws PHASE)) ∙ by-tag (tag_of 6 (at ws PHASE)) refl (tag_below 6 (at ws PHASE) (omega arith))
  where
    by-tag : (k : ℕ) → tag_of 6 (at ws PHASE) ≡ k → k < 6 → phase_in ws (phase_by k ws) ≡ ws
    by-tag zero e h = simp (unchanged, tag_again 6 (at ws PHASE) 0 e)
    by-tag (suc zero) e h = simp (unchanged, tag_again 6 (at ws PHASE) 1 e)
    by-tag (suc (suc zero)) e h = simp (unchanged, tag_again 6 (at ws PHASE) 2 e)
    by-tag (suc (suc (suc zero))) e h = simp (unchanged, tag_again 6 (at ws PHASE) 3 e, reply_again, value_again)
    by-tag (suc (suc (suc (suc zero)))) e h = simp (unchanged, tag_again 6 (at ws PHASE) 4 e, reply_again, value_again)
    by-tag (suc (suc (suc (suc (suc zero))))) e h = simp (unchanged, tag_again 6 (at ws PHASE) 5 e)
    by-tag (suc (suc (suc (suc (suc (suc n)))))) e h = absurd (omega arith)

pub saved-loaded : SavedLoaded
saved-loaded ws =
    ap (λ (l : List ℕ). phase_in (serial_in l (loaded_serial ws)) (loaded_phase ws)) (settings_again ws)
    ∙ ap (λ (l : List ℕ). phase_in l (loaded_phase ws)) (serial_again ws)
    ∙ phase_again ws

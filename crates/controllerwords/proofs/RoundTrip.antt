-- Word by word, what was put there is read again: the ring's slots, then each stage.
use Prim.Native.Nat.{ℕ, zero, suc, ◌+◌, ◌*◌, ◌/◌, ◌%◌, ◌<◌}
use native.Mathlib.Omega.{arith}
use mathlib.Core.Path.{◌≡◌, refl, sym, ◌∙◌, ap, subst⁻¹}
use mathlib.Core.Bool.{Bool, true, false}
use mathlib.Core.List.{List, [], ◌∷◌}
use lib.ListN.{get_or, replicate}
use Rattle.answer.specs.declared.Response.{Response}
use Rattle.answer.specs.declared.Response.TheVariants.{Taking, Complete, TooLarge}
use Rattle.controller.specs.Controller.{controller_of}
use Rattle.frame.specs.declared.Frame.{Frame}
use Rattle.frame.specs.declared.Kind.{Kind}
use Rattle.frame.specs.declared.Kind.TheVariants.{Submitted, Poll, Null}
use Rattle.frame.specs.declared.Stage.{Stage}
use Rattle.frame.specs.declared.Stage.TheVariants.{Free, Resting, Waiting, Sending, Listening}
use Rattle.line.specs.declared.Listener.{Listener}
use Rattle.ring.specs.Ring.{none}
use Rattle.ring.specs.declared.Entry.{Entry}
use Rattle.ring.specs.declared.Ring.{Ring}
use Rattle.words.specs.Words.{at, written, ◌≔◌, number_in, flag_of, bit, tag_of, tag_in, listener_of, command_of}
use Rattle.words.proofs.Laws.{back, flag_back, tag_meant, tag_back, none_of, listener_back, sender_back, command_back, elements_from, one_by_one}
use Rattle.controllerwords.specs.Layout.{WORDS, TIMEOUT, STAGE, KIND, DEVICE, COMMAND, LOGICAL_UNIT, RECORD_NUMBER, BUFFER_LENGTH, DATA_LENGTH, FIRST, WAIT, SENDER, NIBBLE, EAR, RESPONSE, LENGTH, QUIET, HALF, LOW, STATUS, ENTRIES, ENTRY}
use Rattle.controllerwords.specs.Controller.{kind_of, kind_tag, kind_in, loaded_frame, response_by, loaded_response, stage_by, loaded_stage, stage_in, entry_of, entry_number, slots_in, ring_in, loaded, saved_in}
use Rattle.controllerwords.specs.RoundTrip.{FrameFits, taking, complete, too_large, StageFits, free, resting, waiting, sending, listening, RingFits, LoadedSavedIn, LoadedSaved}
use Rattle.controllerwords.proofs.Laws.{response_meant, stage_meant}

kind_back : (word : ℕ) (k : Kind) → kind_of (kind_in word k) ≡ k
kind_back word k = tag_back kind_of 3 meant word (kind_tag k) ∙ by_kind k
  where
    meant : (w : ℕ) → kind_of w ≡ kind_of (tag_of 3 w)
    meant w = tag_meant kind_of 3 w (λ h. rw (none_of w 3 1 h (omega arith), none_of w 3 2 h (omega arith)))

    by_kind : (k : Kind) → kind_of (kind_tag k) ≡ k
    by_kind Submitted = refl
    by_kind Poll = refl
    by_kind Null = refl

entry_back : (word : ℕ) (e : Entry) → e.code < 256 → entry_of (number_in 512 word (entry_number e)) ≡ e
entry_back word e h = λ i. record { code = code i; marked = marked e.marked i }
  where
    code : number_in 512 word (entry_number e) % 256 ≡ e.code
    code = omega arith

    marked : (b : Bool) → flag_of (number_in 512 word (e.code + 256 * bit b) / 256) ≡ b
    marked true = let odd : (word / 512 * 512 + (e.code + 256)) / 256 % 2 ≡ 1 = omega arith in rw odd
    marked false = let even : (word / 512 * 512 + (e.code + 0)) / 256 % 2 ≡ 0 = omega arith in rw even

-- The slots after they were put into words.
abbrev slots_back : ℕ → ℕ → List ℕ → List Entry → List Entry
slots_back zero i ws es = []
slots_back (suc n) i ws es = entry_of (number_in 512 (at ws (ENTRY + i)) (entry_number (get_or es i none))) ∷ slots_back n (suc i) ws es

slots_back_lem : (n i : ℕ) (ws : List ℕ) (es : List Entry) → ((j : ℕ) → (get_or es j none).code < 256) → slots_back n i ws es ≡ elements_from none n i es
slots_back_lem zero i ws es h = refl
slots_back_lem (suc n) i ws es h = λ k. entry_back (at ws (ENTRY + i)) (get_or es i none) (h i) k ∷ slots_back_lem n (suc i) ws es h k

ring_back : (ws : List ℕ) (r : Ring) → RingFits r → record { entries = slots_back 16 0 ws r.entries; count = number_in 256 (at ws ENTRIES) r.count % 256 } ≡ r
ring_back ws r h = λ k. record {
  entries = (slots_back_lem 16 0 ws r.entries h.codes ∙ sym (one_by_one none 16 r.entries h.slots)) k;
  count = back 256 (at ws ENTRIES) r.count h.count k;
}

frame_back : (ws : List ℕ) (f : Frame) → FrameFits f → record {
  kind = kind_of (kind_in (at ws KIND) f.kind);
  command = command_of (number_in 256 (at ws DEVICE) f.command.device) (number_in 256 (at ws COMMAND) f.command.command) (number_in 256 (at ws LOGICAL_UNIT) f.command.logical_unit) (number_in 65536 (at ws RECORD_NUMBER) f.command.record_number) (number_in 65536 (at ws BUFFER_LENGTH) f.command.buffer_length);
  data_length = number_in 65536 (at ws DATA_LENGTH) f.data_length % 65536;
} ≡ f
frame_back ws f h = λ k. record {
  kind = kind_back (at ws KIND) f.kind k;
  command = command_back (at ws DEVICE) (at ws COMMAND) (at ws LOGICAL_UNIT) (at ws RECORD_NUMBER) (at ws BUFFER_LENGTH) f.command h.command k;
  data_length = back 65536 (at ws DATA_LENGTH) f.data_length h.length k;
}

-- The words after time-out and stage were saved, one by one.
abbrev words : List ℕ → ℕ → Stage → List ℕ
words ws t s = stage_in (written (elements_from 0 WORDS 0 ws) (TIMEOUT ≔ number_in 65536 (at ws TIMEOUT) t ∷ [])) s

-- Whatever the stage, the ring stands behind its words.
apart : (ws : List ℕ) (t : ℕ) (s : Stage) (r : Ring) → loaded (ring_in (words ws t s) r)
    ≡ controller_of (number_in 65536 (at ws TIMEOUT) t % 65536) (loaded_stage (words ws t s)) (record { entries = slots_back 16 0 ws r.entries; count = number_in 256 (at ws ENTRIES) r.count % 256 })
unfolding slots_in
apart ws t Free r = refl
apart ws t (Resting first) r = refl
apart ws t (Waiting f) r = refl
apart ws t (Sending f i sender wait) r = refl
apart ws t (Listening f ear (Taking p) quiet) r = refl
apart ws t (Listening f ear (Complete status count) quiet) r = refl
apart ws t (Listening f ear TooLarge quiet) r = refl

-- A stage and a response by the word of their tag.
stage_by_lem : (l : List ℕ) (word tag : ℕ) → at l STAGE ≡ tag_in 5 word tag → loaded_stage l ≡ stage_by tag l
stage_by_lem l word tag e = ap (λ (t : ℕ). stage_by t l) e ∙ tag_back (λ (t : ℕ). stage_by t l) 5 (stage_meant l) word tag

response_by_lem : (l : List ℕ) (word tag : ℕ) → at l RESPONSE ≡ tag_in 3 word tag → loaded_response l ≡ response_by tag l
response_by_lem l word tag e = ap (λ (t : ℕ). response_by t l) e ∙ tag_back (λ (t : ℕ). response_by t l) 3 (response_meant l) word tag

listens : (l : List ℕ) (word : ℕ) {f : Frame} {ear : Listener} {r : Response} {quiet : ℕ} → at l STAGE ≡ tag_in 5 word 4 → loaded_frame l ≡ f → listener_of (at l EAR) ≡ ear
    → loaded_response l ≡ r → at l QUIET % 65536 ≡ quiet
    → loaded_stage l ≡ Listening f ear r quiet
listens l word e f ear r quiet = stage_by_lem l word 4 e ∙ (λ k. Listening (f k) (ear k) (r k) (quiet k))

stage_back : (ws : List ℕ) (t : ℕ) (s : Stage) → StageFits s → loaded_stage (words ws t s) ≡ s
stage_back ws t s free = stage_by_lem (words ws t s) (at ws STAGE) 0 refl
stage_back ws t s (resting {first}) = stage_by_lem (words ws t s) (at ws STAGE) 1 refl ∙ (λ k. Resting (flag_back (at ws FIRST) first k))
stage_back ws t s (waiting {f} h) = stage_by_lem (words ws t s) (at ws STAGE) 2 refl ∙ (λ k. Waiting (frame_back ws f h k))
stage_back ws t s (sending {f} {i} {sender} {wait} h g) =
    stage_by_lem (words ws t s) (at ws STAGE) 3 refl ∙ (λ k. Sending (frame_back ws f h k) i (sender_back (at ws SENDER) (at ws NIBBLE) sender g k) (flag_back (at ws WAIT) wait k))
stage_back ws t s (listening {f} {ear} {quiet = quiet} h (taking {p} l low) q) =
    listens (words ws t s) (at ws STAGE) refl (frame_back ws f h) (listener_back (at ws EAR) ear) (response_by_lem (words ws t s) (at ws RESPONSE) 0 refl ∙ (λ k. Taking (record {
      length = back 65536 (at ws LENGTH) p.length l k;
      place = p.place;
      half = flag_back (at ws HALF) p.half k;
      low = back 256 (at ws LOW) p.low low k;
    }))) (back 65536 (at ws QUIET) quiet q)
stage_back ws t s (listening {f} {ear} {quiet = quiet} h (complete {status} {count} x y) q) =
    listens (words ws t s) (at ws STAGE) refl (frame_back ws f h) (listener_back (at ws EAR) ear)
    (response_by_lem (words ws t s) (at ws RESPONSE) 1 refl ∙ (λ k. Complete (back 256 (at ws STATUS) status x k) (back 65536 (at ws LENGTH) count y k)))
    (back 65536 (at ws QUIET) quiet q)
stage_back ws t s (listening {f} {ear} {quiet = quiet} h too_large q) =
    listens (words ws t s) (at ws STAGE) refl (frame_back ws f h) (listener_back (at ws EAR) ear) (response_by_lem (words ws t s) (at ws RESPONSE) 2 refl) (back 65536 (at ws QUIET) quiet q)

pub loaded-saved_in : LoadedSavedIn
loaded-saved_in ws c n h =
    subst⁻¹ (λ (l : List ℕ). loaded (saved_in l c) ≡ c) (one_by_one 0 WORDS ws n)
    (apart ws c.timeout c.stage c.ring
    ∙ λ k. controller_of (back 65536 (at ws TIMEOUT) c.timeout h.timeout k) (stage_back ws c.timeout c.stage h.stage k) (ring_back ws c.ring h.ring k))

pub loaded-saved : LoadedSaved
loaded-saved c h = loaded-saved_in (replicate WORDS 0) c refl h

-- What was loaded and is saved changes no word; and what is left out of a save because it is as it was.
use Prim.Native.Nat.{ℕ, zero, suc, ◌+◌, ◌-◌, ◌/◌, ◌%◌, ◌≤◌, ◌<◌}
use native.Mathlib.Nat.{add-zero, zero-add}
use native.Mathlib.Omega.{arith}
use mathlib.Core.Path.{◌≡◌, refl, sym, ◌∙◌, ap, ap₂}
use mathlib.Core.Bool.{Bool, true, false, ◌&&◌, true≢false}
use mathlib.Core.List.{List, ◌∷◌}
use borrow.Author.Tests.{lt-ltb, le-leb, ne_eqb}
use lib.Dec.{ltb, leb}
use lib.ListN.{length, get_or, set}
use Rattle.answer.specs.declared.Response.{Response}
use Rattle.answer.specs.declared.Response.TheVariants.{Taking, Complete, TooLarge}
use Rattle.controller.specs.Controller.{with_stage, with_ring}
use Rattle.frame.specs.declared.Stage.{Stage}
use Rattle.frame.specs.declared.Stage.TheVariants.{Free, Resting, Waiting, Sending, Listening}
use Rattle.line.specs.declared.Listener.{Listener}
use Rattle.line.specs.declared.Sender.{Sender}
use Rattle.ring.specs.Ring.{none}
use Rattle.ring.specs.declared.Entry.{Entry}
use Rattle.ring.specs.declared.Ring.{Ring}
use Rattle.words.specs.Words.{at, number_in, flag_of, tag_of, tag_in, listener_of, listener_in, sender_of}
use Rattle.words.proofs.Laws.{past, put_back, again, elements_from, one_by_one, odd, tag_again, tag_below, tag_meant, tag_is, none_of, unchanged}
use Rattle.controllerwords.specs.Layout.{TIMEOUT, STAGE, WAIT, SENDER, NIBBLE, NEXT, EAR, RESPONSE, QUIET, ENTRIES, ENTRY}
use Rattle.controllerwords.specs.Controller.{kind_of, kind_tag, kind_in, loaded_frame, frame_in, response_by, loaded_response, response_in, stage_by, loaded_stage, tagged, sending, listening, stage_in, entry_of, entry_number, slots_from, loaded_ring, slots_in, ring_in, loaded, saved_in}
use Rattle.controllerwords.specs.RoundTrip.{SavedLoaded}

-- A frame.
kind_again : (word : ℕ) → kind_in word (kind_of word) ≡ word
kind_again word = tag_again 3 word (kind_tag (kind_of word)) (tag_is (λ (w : ℕ). kind_tag (kind_of w)) 3 word (λ h. rw (none_of word 3 1 h (omega arith), none_of word 3 2 h (omega arith))) same)
  where
    same : (k : ℕ) → k < 3 → kind_tag (kind_of k) ≡ k
    same zero h = refl
    same (suc zero) h = refl
    same (suc (suc zero)) h = refl
    same (suc (suc (suc n))) h = absurd (omega arith)

pub frame_again : (ws : List ℕ) (tag : ℕ) → frame_in (tagged ws tag) (loaded_frame ws) ≡ tagged ws tag
frame_again ws tag = simp (unchanged, kind_again)

pub frame_stays : (ws : List ℕ) (tag : ℕ) → tag_of 5 (at ws STAGE) ≡ tag → frame_in (tagged ws tag) (loaded_frame ws) ≡ ws
frame_stays ws tag e = frame_again ws tag ∙ put_back ws STAGE (tag_in 5 (at ws STAGE) tag) (sym (tag_again 5 (at ws STAGE) tag e))

-- A response.
pub response_meant : (ws : List ℕ) (word : ℕ) → response_by word ws ≡ response_by (tag_of 3 word) ws
response_meant ws word = tag_meant (λ (t : ℕ). response_by t ws) 3 word (λ h. rw (none_of word 3 1 h (omega arith), none_of word 3 2 h (omega arith)))

pub response_again : (ws : List ℕ) → response_in ws (loaded_response ws) ≡ ws
response_again ws = ap (response_in ws) (response_meant ws (at ws RESPONSE)) ∙ by-tag (tag_of 3 (at ws RESPONSE)) refl (tag_below 3 (at ws RESPONSE) (omega arith))
  where
    by-tag : (k : ℕ) → tag_of 3 (at ws RESPONSE) ≡ k → k < 3 → response_in ws (response_by k ws) ≡ ws
    by-tag zero e h = simp (unchanged, tag_again 3 (at ws RESPONSE) 0 e)
    by-tag (suc zero) e h = simp (unchanged, tag_again 3 (at ws RESPONSE) 1 e)
    by-tag (suc (suc zero)) e h = simp (unchanged, tag_again 3 (at ws RESPONSE) 2 e)
    by-tag (suc (suc (suc n))) e h = absurd (omega arith)

-- A frame that stays as it is: the other words of the stage are enough.
pub sending-saved : (ws : List ℕ) (i : ℕ) (sender : Sender) (wait : Bool) → tag_of 5 (at ws STAGE) ≡ 3
    → sending ws i sender wait ≡ stage_in ws (Sending (loaded_frame ws) i sender wait)
sending-saved ws i sender wait e = ap (λ (l : List ℕ). sending l i sender wait) (sym (frame_stays ws 3 e))

pub listening-saved : (ws : List ℕ) (ear : Listener) (response : Response) (quiet : ℕ) → tag_of 5 (at ws STAGE) ≡ 4
    → response_in (listening ws (listener_in (at ws EAR) ear) quiet) response ≡ stage_in ws (Listening (loaded_frame ws) ear response quiet)
listening-saved ws ear response quiet e = ap (λ (l : List ℕ). response_in (listening l (listener_in (at ws EAR) ear) quiet) response) (sym (frame_stays ws 4 e))

-- The words of the listener stand beside those of the response.
pub response-beside : (ws : List ℕ) (ear quiet : ℕ) → loaded_response (listening ws ear quiet) ≡ loaded_response ws
response-beside ws ear quiet = simp past

pub response-stays : (ws : List ℕ) (ear quiet : ℕ) → response_in (listening ws ear quiet) (loaded_response ws) ≡ listening ws ear quiet
response-stays ws ear quiet = ap (response_in (listening ws ear quiet)) (sym (response-beside ws ear quiet)) ∙ response_again (listening ws ear quiet)

-- A stage.
pub stage_meant : (ws : List ℕ) (word : ℕ) → stage_by word ws ≡ stage_by (tag_of 5 word) ws
stage_meant ws word = tag_meant (λ (t : ℕ). stage_by t ws) 5 word (λ h. rw (none_of word 5 1 h (omega arith), none_of word 5 2 h (omega arith), none_of word 5 3 h (omega arith), none_of word 5 4 h (omega arith)))

stage_again : (ws : List ℕ) → stage_in ws (loaded_stage ws) ≡ ws
stage_again ws = ap (stage_in ws) (stage_meant ws (at ws STAGE)) ∙ by-tag (tag_of 5 (at ws STAGE)) refl (tag_below 5 (at ws STAGE) (omega arith))
  where
    by-tag : (k : ℕ) → tag_of 5 (at ws STAGE) ≡ k → k < 5 → stage_in ws (stage_by k ws) ≡ ws
    by-tag zero e h = simp (unchanged, tag_again 5 (at ws STAGE) 0 e)
    by-tag (suc zero) e h = simp (unchanged, tag_again 5 (at ws STAGE) 1 e)
    by-tag (suc (suc zero)) e h = frame_stays ws 2 e
    by-tag (suc (suc (suc zero))) e h = sym (sending-saved ws (at ws NEXT) (sender_of (at ws SENDER) (at ws NIBBLE)) (flag_of (at ws WAIT)) e) ∙ simp unchanged
    by-tag (suc (suc (suc (suc zero)))) e h =
        let heard : listening ws (listener_in (at ws EAR) (listener_of (at ws EAR))) (at ws QUIET % 65536) ≡ ws = simp unchanged in
        sym (listening-saved ws (listener_of (at ws EAR)) (loaded_response ws) (at ws QUIET % 65536) e) ∙ ap (λ (l : List ℕ). response_in l (loaded_response ws)) heard ∙ response_again ws
    by-tag (suc (suc (suc (suc (suc n))))) e h = absurd (omega arith)

-- The ring's slots, one after the other.
pub slots_next : (es : List Entry) (ws : List ℕ) (i : ℕ) → i < 16
    → slots_in (16 - i) i es ws ≡ slots_in (16 - suc i) (suc i) es (set ws (ENTRY + i) (number_in 512 (at ws (ENTRY + i)) (entry_number (get_or es i none))))
unfolding slots_in
slots_next es ws i h = let e : 16 - i ≡ suc (16 - suc i) = omega arith in ap (λ (n : ℕ). slots_in n i es ws) e

pub slots_end : (es : List Entry) (ws : List ℕ) (i : ℕ) → 16 ≤ i → slots_in (16 - i) i es ws ≡ ws
unfolding slots_in
slots_end es ws i h = let e : 16 - i ≡ 0 = omega arith in ap (λ (n : ℕ). slots_in n i es ws) e

entry_again : (word : ℕ) → number_in 512 word (entry_number (entry_of word)) ≡ word
entry_again word = rw (odd (word / 256)) (omega arith)

slots_again : (n i : ℕ) (es : List Entry) (ws : List ℕ) → ((j : ℕ) → i ≤ j → j < i + n → get_or es j none ≡ entry_of (at ws (ENTRY + j))) → slots_in n i es ws ≡ ws
unfolding slots_in
slots_again zero i es ws h = refl
slots_again (suc n) i es ws h =
    let same : set ws (ENTRY + i) (number_in 512 (at ws (ENTRY + i)) (entry_number (get_or es i none))) ≡ ws =
    ap (λ (e : Entry). set ws (ENTRY + i) (number_in 512 (at ws (ENTRY + i)) (entry_number e))) (h i (omega arith) (omega arith))
    ∙ put_back ws (ENTRY + i) _ (sym (entry_again (at ws (ENTRY + i)))) in
    ap (slots_in n (suc i) es) same ∙ slots_again n (suc i) es ws (λ j p q. h j (omega arith) (omega arith))

slot_at : (n i j : ℕ) (ws : List ℕ) → j < n → get_or (slots_from n i ws) j none ≡ entry_of (at ws (ENTRY + (i + j)))
slot_at zero i j ws h = absurd (omega arith)
slot_at (suc n) i zero ws h = rw (add-zero i)
slot_at (suc n) i (suc j) ws h = let e : i + suc j ≡ suc i + j = omega arith in rw e (slot_at n (suc i) j ws (omega arith))

-- The ring of entries that are those of the words, one by one.
slots-are : (n i : ℕ) (es : List Entry) (ws : List ℕ) → ((j : ℕ) → j < i + n → get_or es j none ≡ entry_of (at ws (ENTRY + j))) → elements_from none n i es ≡ slots_from n i ws
slots-are zero i es ws h = refl
slots-are (suc n) i es ws h =
    ap₂ (λ (e : Entry) (r : List Entry). e ∷ r) (h i (omega arith)) (slots-are n (suc i) es ws (λ j p. h j (omega arith)))

pub ring_of_words : (es : List Entry) (count : ℕ) (ws : List ℕ) → length es ≡ 16 → ((j : ℕ) → j < 16 → get_or es j none ≡ entry_of (at ws (ENTRY + j)))
    → count ≡ at ws ENTRIES % 256 → record { entries = es; count = count } ≡ loaded_ring ws
ring_of_words es count ws full h p =
    λ i. record { entries = (one_by_one none 16 es full ∙ slots-are 16 0 es ws (λ j q. h j (omega arith))) i; count = p i }

ring_again : (ws : List ℕ) → ring_in ws (loaded_ring ws) ≡ ws
ring_again ws =
    ap (slots_in 16 0 (slots_from 16 0 ws)) (put_back ws ENTRIES _ (sym (again 256 (at ws ENTRIES))))
    ∙ slots_again 16 0 (slots_from 16 0 ws) ws (λ j p q. slot_at 16 0 j ws (omega arith) ∙ ap (λ (k : ℕ). entry_of (at ws (ENTRY + k))) (zero-add j))

-- The words of the ring are no words of the stage.
abbrev in_ring : ℕ → Bool
in_ring i = leb ENTRIES i && ltb i (ENTRY + 16)

module _ (j : ℕ) (h : in_ring j ≡ true) where
  beside : (l : List ℕ) (i v : ℕ) → in_ring i ≡ false → at (set l i v) j ≡ at l j
  beside l i v b = past l i j v (ne_eqb j i (λ e. true≢false (sym h ∙ ap in_ring e ∙ b)))

  stage-beside : (ws : List ℕ) (s : Stage) → at (stage_in ws s) j ≡ at ws j
  stage-beside ws Free = simp beside
  stage-beside ws (Resting first) = simp beside
  stage-beside ws (Waiting f) = simp beside
  stage-beside ws (Sending f i sender wait) = simp beside
  stage-beside ws (Listening f ear (Taking p) quiet) = simp beside
  stage-beside ws (Listening f ear (Complete status count) quiet) = simp beside
  stage-beside ws (Listening f ear TooLarge quiet) = simp beside

slots_same : (n i : ℕ) (ws vs : List ℕ) → i + n ≤ 16 → ((j : ℕ) → in_ring j ≡ true → at ws j ≡ at vs j) → slots_from n i ws ≡ slots_from n i vs
slots_same zero i ws vs l h = refl
slots_same (suc n) i ws vs l h = λ k. entry_of (h (ENTRY + i) inside k) ∷ slots_same n (suc i) ws vs (omega arith) h k
  where
    inside : in_ring (ENTRY + i) ≡ true
    inside = rw (le-leb ENTRIES (ENTRY + i) (omega arith), lt-ltb (ENTRY + i) (ENTRY + 16) (omega arith))

pub ring_beside : (ws : List ℕ) (s : Stage) → loaded_ring (stage_in ws s) ≡ loaded_ring ws
ring_beside ws s = λ k. record {
  entries = slots_same 16 0 (stage_in ws s) ws (omega arith) (λ j h. stage-beside j h ws s) k;
  count = stage-beside ENTRIES refl ws s k % 256;
}

-- Stage and ring saved, the time-out not: as the whole controller is saved.
pub ring_saved : (ws : List ℕ) (s : Stage) (r : Ring) → ring_in (stage_in ws s) r ≡ saved_in ws (with_ring (with_stage (loaded ws) s) r)
ring_saved ws s r = ap (λ (l : List ℕ). ring_in (stage_in l s) r) (sym (put_back ws TIMEOUT _ (sym (again 65536 (at ws TIMEOUT)))))

-- The stage alone saved: as the whole controller is saved, its ring being as it was.
pub stage_saved : (ws : List ℕ) (s : Stage) → stage_in ws s ≡ saved_in ws (with_stage (loaded ws) s)
stage_saved ws s = sym (ring_again (stage_in ws s)) ∙ ap (ring_in (stage_in ws s)) (ring_beside ws s) ∙ ring_saved ws s (loaded_ring ws)

pub saved-loaded : SavedLoaded
saved-loaded ws = sym (stage_saved ws (loaded_stage ws)) ∙ stage_again ws

-- A round of listening: a nibble is taken, or none, and then the frame goes on or is over.
use Prim.Native.Nat.{ℕ, ◌%◌, ◌<◌}
use native.Mathlib.Omega.{arith}
use mathlib.Core.Path.{◌≡◌, refl, sym, ◌∙◌, ap}
use mathlib.Core.Bool.{Bool, true, false, cond, ◌||◌, ◌&&◌, true≢false}
use mathlib.Core.List.{List, [], ◌∷◌}
use lib.Dec.{eqb}
use lib.ListN.{set}
use Rattle.answer.specs.Answer.{is_over, status_of, count_of}
use Rattle.answer.specs.declared.Response.{Response}
use Rattle.controllerlistening.specs.Listening.{with_nibble, taken_in, taken_buffer}
use Rattle.controllerlistening.proofs.Laws.{holds}
use Rattle.controllerwords.specs.Controller.{loaded_frame, response_by, loaded_response, response_in, listening, stage_in, loaded_ring, ring_in}
use Rattle.controllerwords.specs.Layout.{TIMEOUT, STAGE, FIRST, EAR, RESPONSE, QUIET}
use Rattle.controllerwords.proofs.Laws.{listening-saved, response-stays, ring_saved, stage_saved}
use Rattle.frame.specs.Frame.{quiet_after, ends_by, over, stays, waited}
use Rattle.frame.specs.declared.Frame.{Frame}
use Rattle.frame.specs.declared.Moved.{Moved}
use Rattle.frame.specs.declared.Stage.TheVariants.{Resting, Listening}
use Rattle.frame.proofs.Laws.{nibble_heard, not_yet}
use Rattle.line.specs.Line.{hear_of, taken_of, is_ready}
use Rattle.line.specs.declared.Lines.{Lines}
use Rattle.line.specs.declared.Listener.{Listener}
use Rattle.line.specs.declared.Listener.TheVariants.{Ready, Holding, Waiting}
use Rattle.ring.specs.declared.Ring.{Ring}
use Rattle.turn.specs.Turn.{ring_ended, event_of}
use Rattle.turn.specs.declared.Event.{Event}
use Rattle.words.specs.Words.{at, flag_in, tag_of, listener_of, listener_in}
use Rattle.words.proofs.Laws.{tag_set, listener_back}
use Rattle.controllerround.specs.Round.{event_words, moved_in, moved_event, listened, listened_buffer, ends_in}

-- Whether the frame ends, by the tag of the response.
module _ (ws : List ℕ) (ear quiet : ℕ) {timeout : ℕ} (t : timeout ≡ at ws TIMEOUT % 65536) {o : Bool} (e : o ≡ (eqb (at ws RESPONSE) 1 || eqb (at ws RESPONSE) 2)) where
  by-tag : is_over (loaded_response ws) ≡ o
  by-tag = by_tests (eqb (at ws RESPONSE) 1) (eqb (at ws RESPONSE) 2) ∙ sym e
    where
      by_tests : (a b : Bool) → is_over (cond a (response_by 1 ws) (cond b (response_by 2 ws) (response_by 0 ws))) ≡ (a || b)
      by_tests true b = refl
      by_tests false true = refl
      by_tests false false = refl

  pub over-ends : {ends ready : Bool} {l : Listener} → o ≡ true → l ≡ listener_of ear → ready ≡ is_ready l → ends ≡ ends_by ready timeout quiet → ends ≡ ends_in ws ear quiet
  over-ends p l r q = q ∙ (λ j. ends_by ((r ∙ ap is_ready l) j) (t j) quiet) ∙ ap (λ (x : Bool). ends_by (x && is_ready (listener_of ear)) (at ws TIMEOUT % 65536) quiet) (sym (by-tag ∙ p))

  pub going-ends : {ends : Bool} → o ≡ false → ends ≡ ends_by false timeout quiet → ends ≡ ends_in ws ear quiet
  going-ends p q = q ∙ (λ j. ends_by false (t j) quiet) ∙ ap (λ (x : Bool). ends_by (x && is_ready (listener_of ear)) (at ws TIMEOUT % 65536) quiet) (sym (by-tag ∙ p))

-- A count under the time-out fits its word.
pub quiet_fits : (ws : List ℕ) (ear quiet : ℕ) {n : ℕ} {after : List ℕ} → ends_in ws ear quiet ≡ false → n ≡ quiet % 65536 → after ≡ listening ws ear n → after ≡ listening ws ear quiet
quiet_fits ws ear quiet e n p =
    let below : quiet < at ws TIMEOUT % 65536 = not_yet _ (at ws TIMEOUT % 65536) quiet e in
    let fits : quiet % 65536 ≡ quiet = omega arith in
    p ∙ ap (listening ws ear) (n ∙ fits)

-- The frame is over.
pub frame_over : (ws : List ℕ) {f : Frame} {response : Response} {ring ring' : Ring} {status count first : ℕ} {event : Event} {after events : List ℕ}
    → f ≡ loaded_frame ws → response ≡ loaded_response ws → ring ≡ loaded_ring ws → status ≡ status_of response → count ≡ count_of response
    → event ≡ event_of f status count → events ≡ event_words event
    → first ≡ flag_in (at ws FIRST) true → ring' ≡ ring_ended ring f status → after ≡ ring_in (set (set ws STAGE 1) FIRST first) ring'
    → (after ≡ moved_in ws (over (loaded_frame ws) (loaded_response ws))) × (events ≡ moved_event (over (loaded_frame ws) (loaded_response ws)))
frame_over ws f r g s n e w x h p = (
  p
      ∙ (λ j. ring_in (set (set ws STAGE (sym (tag_set 5 (at ws STAGE) 1 refl) j)) FIRST (x j)) (h j))
      ∙ (λ j. ring_in (stage_in ws (Resting true)) (ring_ended (g j) (f j) ((s ∙ ap status_of r) j)))
      ∙ ring_saved ws (Resting true) (ring_ended (loaded_ring ws) (loaded_frame ws) (status_of (loaded_response ws))),
  w ∙ ap event_words (e ∙ (λ j. event_of (f j) ((s ∙ ap status_of r) j) ((n ∙ ap count_of r) j))),
)

taken-holds : (ear : Listener) (hsk busy : Bool) → taken_of ear hsk ≡ true → Holding ≡ hear_of ear hsk busy
taken-holds Ready hsk busy t = sym (rw t)
taken-holds Holding hsk busy t = absurd (true≢false (sym t))
taken-holds Waiting hsk busy t = absurd (true≢false (sym t))

module _ (ws buffer : List ℕ) (seen : Lines) (busy : Bool) {taken : Bool} (k : taken ≡ taken_of (listener_of (at ws EAR)) seen.hsk) where
  abbrev Heard : List ℕ → List ℕ → List ℕ → Type 0
  Heard after buffer' events =
      (after ≡ moved_in ws (listened ws seen busy)) × ((buffer' ≡ listened_buffer ws seen buffer) × (events ≡ moved_event (listened ws seen busy)))

  -- The frame moved so.
  so : {after events : List ℕ} (m : Moved) → m ≡ listened ws seen busy → after ≡ moved_in ws m → events ≡ moved_event m → (after ≡ moved_in ws (listened ws seen busy)) × (events ≡ moved_event (listened ws seen busy))
  so m e p q = (p ∙ ap (moved_in ws) e, q ∙ ap moved_event e)

  pub nibble-taken : {after buffer' events : List ℕ} → at ws STAGE ≡ 4 → taken ≡ true → after ≡ taken_in ws seen.nibble → buffer' ≡ taken_buffer ws seen.nibble buffer → events ≡ 0 ∷ 0 ∷ 0 ∷ []
      → Heard after buffer' events
  nibble-taken s t p b q =
      let stage = Listening (loaded_frame ws) Holding (with_nibble ws seen.nibble) 0 in
      let heard : stays stage ≡ listened ws seen busy =
      ap (λ (ear : Listener). stays (Listening (loaded_frame ws) ear (with_nibble ws seen.nibble) 0)) (taken-holds (listener_of (at ws EAR)) seen.hsk busy (sym k ∙ t))
      ∙ nibble_heard (loaded_frame ws) (listener_of (at ws EAR)) (loaded_response ws) (at ws QUIET % 65536) (at ws TIMEOUT % 65536) seen busy (sym k ∙ t) in
      let moved = so (stays stage) heard (p ∙ holds ws seen.nibble s ∙ stage_saved ws stage) q in
      (moved.0, (b ∙ rw (sym k ∙ t), moved.1))

  -- No nibble: the listener's word and the count of quiet rounds afterwards.
  module _ {ear quiet : ℕ} (t : taken ≡ false) (n : ear ≡ listener_in (at ws EAR) (hear_of (listener_of (at ws EAR)) seen.hsk busy)) (q : quiet ≡ quiet_after (at ws QUIET % 65536) seen.hsk) {ends : Bool} (r : ends ≡ ends_in ws ear quiet) where
    abbrev next : Listener
    next = hear_of (listener_of (at ws EAR)) seen.hsk busy

    moves : cond ends (over (loaded_frame ws) (loaded_response ws)) (stays (Listening (loaded_frame ws) next (loaded_response ws) quiet)) ≡ listened ws seen busy
    moves =
        let same : listener_of ear ≡ next = ap listener_of n ∙ listener_back (at ws EAR) next in
        (λ j. cond (r j) (over (loaded_frame ws) (loaded_response ws)) (stays (Listening (loaded_frame ws) (sym same j) (loaded_response ws) quiet)))
        ∙ (λ j. waited (loaded_frame ws) (same j) (loaded_response ws) (at ws TIMEOUT % 65536) (q j))
        ∙ sym (rw (sym k ∙ t))

    nothing_stored : buffer ≡ listened_buffer ws seen buffer
    nothing_stored = rw (sym k ∙ t)

    pub goes_on : {after events : List ℕ} → at ws STAGE ≡ 4 → ends ≡ false → after ≡ cond ends ws (listening ws ear quiet) → events ≡ 0 ∷ 0 ∷ 0 ∷ [] → Heard after buffer events
    goes_on {after} s e p g =
        let stage = Listening (loaded_frame ws) next (loaded_response ws) quiet in
        let moved-so : stays stage ≡ listened ws seen busy = ap (λ (b : Bool). cond b (over (loaded_frame ws) (loaded_response ws)) (stays stage)) (sym e) ∙ moves in
        let written : after ≡ stage_in ws stage =
        p
        ∙ ap (λ (b : Bool). cond b ws (listening ws ear quiet)) e
        ∙ sym (response-stays ws ear quiet)
        ∙ ap (λ (word : ℕ). response_in (listening ws word quiet) (loaded_response ws)) n
        ∙ listening-saved ws next (loaded_response ws) quiet (ap (tag_of 5) s) in
        let moved = so (stays stage) moved-so (written ∙ stage_saved ws stage) g in
        (moved.0, (nothing_stored, moved.1))

    pub is_over_now : {between after events : List ℕ} → ends ≡ true → between ≡ cond ends ws (listening ws ear quiet)
        → (after ≡ moved_in between (over (loaded_frame between) (loaded_response between))) × (events ≡ moved_event (over (loaded_frame between) (loaded_response between)))
        → Heard after buffer events
    is_over_now {between} e p g =
        let same : between ≡ ws = p ∙ ap (λ (b : Bool). cond b ws (listening ws ear quiet)) e in
        let m = over (loaded_frame ws) (loaded_response ws) in
        let moved-so : m ≡ listened ws seen busy = ap (λ (b : Bool). cond b m (stays (Listening (loaded_frame ws) next (loaded_response ws) quiet))) (sym e) ∙ moves in
        let moved = so m moved-so (g.0 ∙ ap (λ (l : List ℕ). moved_in l (over (loaded_frame l) (loaded_response l))) same) (g.1 ∙ ap (λ (l : List ℕ). moved_event (over (loaded_frame l) (loaded_response l))) same) in
        (moved.0, (nothing_stored, moved.1))

-- The words that a round of sending does not write stand as a save of the whole stage would leave them.
use Prim.Native.Nat.{ℕ, ◌+◌, ◌%◌, ◌≤◌, ◌<◌}
use native.Mathlib.Omega.{arith}
use mathlib.Core.Path.{◌≡◌, refl, sym, ◌∙◌, ap}
use mathlib.Core.Bool.{Bool, true, false, cond}
use mathlib.Core.List.{List}
use borrow.Author.Tests.{lt-ltb, le-ltb}
use lib.Dec.{ltb, eqb}
use lib.ListN.{set}
use Rattle.answer.specs.Answer.{nothing_taken}
use Rattle.controllerwords.specs.Controller.{loaded_frame, response_in, sending, listening, stage_in, tagged}
use Rattle.controllerwords.specs.Layout.{STAGE, WAIT, SENDER, NIBBLE, NEXT, EAR}
use Rattle.controllerwords.proofs.Laws.{frame_again, sending-saved}
use Rattle.frame.specs.Frame.{begun, nibble_of, last_nibble, next_nibble}
use Rattle.frame.specs.declared.Stage.{Stage}
use Rattle.frame.specs.declared.Stage.TheVariants.{Sending, Listening}
use Rattle.line.specs.Line.{send_of, sent_of}
use Rattle.line.specs.declared.Listener.TheVariants.{Ready}
use Rattle.line.specs.declared.Sender.{Sender}
use Rattle.line.specs.declared.Sender.TheVariants.{Next, Placed, Kept}
use Rattle.words.specs.Words.{at, number_in, flag_of, flag_in, tag_of, tag_in, sender_of, listener_in}
use Rattle.words.proofs.Laws.{flag_again, tag_again, tag_set, tag_of_lem, unchanged}
use Rattle.controllersending.specs.Sending.{stage_after, carried_in, Keeps}

pub begins : (ws : List ℕ) {wait sender : ℕ} → wait ≡ flag_in (at ws WAIT) true → sender ≡ tag_in 3 (at ws SENDER) 0
    → set (set (set (set ws STAGE 3) WAIT wait) SENDER sender) NEXT 0 ≡ stage_in ws (begun (loaded_frame ws))
begins ws {wait} {sender} e g =
    let starts : sending (tagged ws 3) 0 Next true ≡ set (set (set (set ws STAGE 3) WAIT wait) SENDER sender) NEXT 0 = simp (unchanged, e, g, tag_set 5 (at ws STAGE) 3 refl) in
    sym starts ∙ ap (λ (l : List ℕ). sending l 0 Next true) (sym (frame_again ws 3))

-- A round, by its tests: the sender afterwards, and the words that this writes.
module _ (ws : List ℕ) (hsk : Bool) (d : List ℕ) where
  after : {l : List ℕ} (sender : Sender) → sending ws (at ws NEXT) sender false ≡ l → stage_after ws hsk d ≡ Sending (loaded_frame ws) (at ws NEXT) sender false → l ≡ carried_in ws (stage_after ws hsk d)
  after sender written e = sym written ∙ ap (carried_in ws) (sym e)

  pub waits-on : {wait : ℕ} → wait ≡ flag_in (at ws WAIT) false → flag_of (at ws WAIT) ≡ true → set ws WAIT wait ≡ carried_in ws (stage_after ws hsk d)
  waits-on e w = after (sender_of (at ws SENDER) (at ws NIBBLE)) (simp (unchanged, e)) (rw w)

  module _ (w : flag_of (at ws WAIT) ≡ false) where
    pub keeps : eqb (at ws SENDER) 1 ≡ true → set ws SENDER 2 ≡ carried_in ws (stage_after ws hsk d)
    keeps p = after (Kept (at ws NIBBLE % 256)) (simp (unchanged, tag_set 3 (at ws SENDER) 2 refl)) (rw (w, p))

    module _ (p : eqb (at ws SENDER) 1 ≡ false) where
      pub places : {nibble : ℕ} → eqb (at ws SENDER) 2 ≡ false → nibble ≡ number_in 256 (at ws NIBBLE) (nibble_of (loaded_frame ws) d (at ws NEXT))
          → set (set ws SENDER 1) NIBBLE nibble ≡ carried_in ws (stage_after ws hsk d)
      places k e = after (Placed (nibble_of (loaded_frame ws) d (at ws NEXT))) (simp (unchanged, e, tag_set 3 (at ws SENDER) 1 refl)) (rw (w, p, k))

      pub stays : eqb (at ws SENDER) 2 ≡ true → hsk ≡ true → ws ≡ carried_in ws (stage_after ws hsk d)
      stays k h = after (Kept (at ws NIBBLE % 256)) (simp (unchanged, tag_again 3 (at ws SENDER) 2 (tag_of_lem 3 (at ws SENDER) 2 k refl))) (rw (w, p, k, h))

      pub is-sent : {l : List ℕ} → eqb (at ws SENDER) 2 ≡ true → hsk ≡ false → l ≡ carried_in ws (next_nibble (loaded_frame ws) (at ws NEXT)) → l ≡ carried_in ws (stage_after ws hsk d)
      is-sent k h e = let next : stage_after ws hsk d ≡ next_nibble (loaded_frame ws) (at ws NEXT) = rw (w, p, k, h) in e ∙ ap (carried_in ws) (sym next)

-- The nibble is sent: there is a next, or it listens.
module _ (ws : List ℕ) (k : Keeps ws) {last : ℕ} (e : last ≡ last_nibble (loaded_frame ws)) where
  pub goes_on : at ws NEXT < last → set (set ws SENDER 0) NEXT (at ws NEXT + 1) ≡ carried_in ws (next_nibble (loaded_frame ws) (at ws NEXT))
  goes_on h =
      let more : at ws NEXT < last_nibble (loaded_frame ws) = omega arith in
      let next : next_nibble (loaded_frame ws) (at ws NEXT) ≡ Sending (loaded_frame ws) (at ws NEXT + 1) Next false = rw (lt-ltb (at ws NEXT) (last_nibble (loaded_frame ws)) more) in
      let written : sending ws (at ws NEXT + 1) Next false ≡ set (set ws SENDER 0) NEXT (at ws NEXT + 1) = simp (unchanged, flag_again (at ws WAIT) false k.wait, ap (λ (word : ℕ). tag_in 3 word 0) k.sender) in
      sym written ∙ ap (carried_in ws) (sym next)

  pub listens : last ≤ at ws NEXT → response_in (listening (set ws STAGE 4) 0 0) nothing_taken ≡ carried_in ws (next_nibble (loaded_frame ws) (at ws NEXT))
  listens h =
      let none : last_nibble (loaded_frame ws) ≤ at ws NEXT = omega arith in
      let next : next_nibble (loaded_frame ws) (at ws NEXT) ≡ Listening (loaded_frame ws) Ready nothing_taken 0 = rw (le-ltb (at ws NEXT) (last_nibble (loaded_frame ws)) none) in
      (λ j. response_in (listening (set ws STAGE (sym (tag_set 5 (at ws STAGE) 4 refl) j)) (tag_in 3 (sym k.sender j) 0) 0) nothing_taken)
      ∙ ap (λ (l : List ℕ). response_in (listening l (listener_in (at ws EAR) Ready) 0) nothing_taken) (sym (frame_again ws 4))
      ∙ ap (carried_in ws) (sym next)

-- In words whose tag says that it sends, this is the whole stage saved.
pub carried : (ws : List ℕ) (hsk : Bool) (d : List ℕ) → at ws STAGE ≡ 3 → carried_in ws (stage_after ws hsk d) ≡ stage_in ws (stage_after ws hsk d)
carried ws hsk d t = by_tests (flag_of (at ws WAIT)) (sent_of (sender_of (at ws SENDER) (at ws NIBBLE)) hsk) (ltb (at ws NEXT) (last_nibble (loaded_frame ws)))
  where
    saves : (i : ℕ) (sender : Sender) → sending ws i sender false ≡ stage_in ws (Sending (loaded_frame ws) i sender false)
    saves i sender = sending-saved ws i sender false (ap (tag_of 5) t)

    by : Bool → Bool → Bool → Stage
    by a b c =
        cond a (Sending (loaded_frame ws) (at ws NEXT) (sender_of (at ws SENDER) (at ws NIBBLE)) false)
        (cond b (cond c (Sending (loaded_frame ws) (at ws NEXT + 1) Next false) (Listening (loaded_frame ws) Ready nothing_taken 0))
        (Sending (loaded_frame ws) (at ws NEXT) (send_of (sender_of (at ws SENDER) (at ws NIBBLE)) hsk (nibble_of (loaded_frame ws) d (at ws NEXT))) false))

    by_tests : (a b c : Bool) → carried_in ws (by a b c) ≡ stage_in ws (by a b c)
    by_tests true b c = saves (at ws NEXT) (sender_of (at ws SENDER) (at ws NIBBLE))
    by_tests false true true = saves (at ws NEXT + 1) Next
    by_tests false true false = refl
    by_tests false false c = saves (at ws NEXT) (send_of (sender_of (at ws SENDER) (at ws NIBBLE)) hsk (nibble_of (loaded_frame ws) d (at ws NEXT)))

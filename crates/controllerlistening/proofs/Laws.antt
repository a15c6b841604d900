-- The words that a nibble does not change stand as a save of the whole stage would leave them.
use Prim.Native.Nat.{ℕ, ◌%◌}
use mathlib.Core.Path.{◌≡◌, refl, sym, ◌∙◌, ap}
use mathlib.Core.Bool.{Bool, true, false, ◌||◌}
use mathlib.Core.List.{List}
use lib.Dec.{eqb}
use lib.ListN.{set}
use Rattle.answer.specs.Answer.{taken_with, buffer_with, half_taken}
use Rattle.answer.specs.declared.Partial.{Partial}
use Rattle.answer.specs.declared.Response.{Response}
use Rattle.answer.specs.declared.Response.TheVariants.{Taking}
use Rattle.controllerwords.specs.Controller.{kind_of, loaded_frame, loaded_response, response_in, listening, stage_in}
use Rattle.controllerwords.specs.Layout.{STAGE, KIND, BUFFER_LENGTH, EAR, RESPONSE, LENGTH, HALF, LOW, PLACE}
use Rattle.controllerwords.proofs.Laws.{response-beside, listening-saved}
use Rattle.frame.specs.Frame.{is_submitted}
use Rattle.frame.specs.declared.Stage.TheVariants.{Listening}
use Rattle.line.specs.declared.Listener.TheVariants.{Holding}
use Rattle.words.specs.Words.{at, number_in, flag_of, flag_in, tag_of}
use Rattle.words.proofs.Laws.{past, tag_again, tag_set, ready_tag, unchanged}
use Rattle.controllerlistening.specs.Listening.{with_nibble, nibble_in, taken_in, taken_buffer}

-- The words of the listener stand beside those of the response.
module _ (ws : List ℕ) (nibble : ℕ) {heard : List ℕ} (e : heard ≡ listening ws 1 0) where
  beside : loaded_response heard ≡ loaded_response ws
  beside = ap loaded_response e ∙ response-beside ws 1 0

  pub taken : {after : List ℕ} → after ≡ nibble_in heard nibble → after ≡ taken_in ws nibble
  taken h =
      let limit : at heard BUFFER_LENGTH ≡ at ws BUFFER_LENGTH = ap (λ (l : List ℕ). at l BUFFER_LENGTH) e ∙ simp past in
      h
      ∙ (λ j. response_in (e j) (taken_with (beside j) nibble (limit j % 65536)))

  pub stored : (buffer : List ℕ) {after : List ℕ} → after ≡ taken_buffer heard nibble buffer → after ≡ taken_buffer ws nibble buffer
  stored buffer h =
      let kind : at heard KIND ≡ at ws KIND = ap (λ (l : List ℕ). at l KIND) e ∙ simp past in
      h ∙ (λ j. buffer_with (beside j) nibble (is_submitted (kind_of (kind j))) buffer)

-- In words whose tag says that it listens, this is the whole stage saved.
pub holds : (ws : List ℕ) (nibble : ℕ) → at ws STAGE ≡ 4 → taken_in ws nibble ≡ stage_in ws (Listening (loaded_frame ws) Holding (with_nibble ws nibble) 0)
holds ws nibble t =
    ap (λ (ear : ℕ). response_in (listening ws ear 0) (with_nibble ws nibble)) (sym (tag_set 3 (at ws EAR) 1 refl))
    ∙ listening-saved ws Holding (with_nibble ws nibble) 0 (ap (tag_of 5) t)

-- The low nibble of a byte.
neither : (a b : Bool) → (a || b) ≡ false → (a ≡ false) × (b ≡ false)
neither true b h = (h, cc)
neither false b h = (refl, h)

module _ (ws : List ℕ) (nibble : ℕ) (going : (eqb (at ws RESPONSE) 1 || eqb (at ws RESPONSE) 2) ≡ false) (h : flag_of (at ws HALF) ≡ false) where
  abbrev part : Partial
  part = record { length = at ws LENGTH % 65536; place = at ws PLACE; half = flag_of (at ws HALF); low = at ws LOW % 256 }

  is-taking : loaded_response ws ≡ Taking part
  is-taking = let n = neither (eqb (at ws RESPONSE) 1) (eqb (at ws RESPONSE) 2) going in rw (n.0, n.1)

  pub low-taken : {half low : ℕ} → half ≡ flag_in (at ws HALF) true → low ≡ number_in 256 (at ws LOW) nibble → set (set ws HALF half) LOW low ≡ nibble_in ws nibble
  low-taken {half} {low} e g =
      let n = neither (eqb (at ws RESPONSE) 1) (eqb (at ws RESPONSE) 2) going in
      let more : with_nibble ws nibble ≡ Taking (half_taken part nibble) = ap (λ (r : Response). taken_with r nibble (at ws BUFFER_LENGTH % 65536)) is-taking ∙ rw h in
      let written : response_in ws (Taking (half_taken part nibble)) ≡ set (set ws HALF half) LOW low = simp (unchanged, e, g, tag_again 3 (at ws RESPONSE) 0 (ready_tag (at ws RESPONSE) n.0 n.1)) in
      sym written ∙ ap (response_in ws) (sym more)

  pub low-stored : (buffer : List ℕ) → buffer ≡ taken_buffer ws nibble buffer
  low-stored buffer = sym (ap (λ (r : Response). buffer_with r nibble (is_submitted (kind_of (at ws KIND))) buffer) is-taking ∙ rw h)

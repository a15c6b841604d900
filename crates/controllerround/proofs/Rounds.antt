-- A round by the stage that the words hold; rest, and the turn of a service frame.
use Prim.Native.Nat.{ℕ}
use mathlib.Core.Path.{◌≡◌, refl, sym, ◌∙◌, ap, subst}
use mathlib.Core.Bool.{Bool, true, false}
use mathlib.Core.List.{List, [], ◌∷◌}
use lib.Dec.{eqb}
use lib.ListN.{get_or, set}
use Rattle.controller.specs.Controller.{with_stage, with_ring, service, idle_step, controller_step, event_in}
use Rattle.controller.specs.declared.Controller.{Controller}
use Rattle.controllerwords.specs.Controller.{loaded_stage, stage_in, loaded_ring, ring_in, loaded, saved_in}
use Rattle.controllerwords.specs.Layout.{STAGE, FIRST}
use Rattle.controllerwords.proofs.Laws.{ring_saved, saved-loaded}
use Rattle.frame.specs.Frame.{begun, rest_step, frame_buffer}
use Rattle.frame.specs.declared.Stage.{Stage}
use Rattle.frame.specs.declared.Stage.TheVariants.{Free, Resting}
use Rattle.line.specs.declared.Lines.{Lines}
use Rattle.ring.specs.Ring.{none, counted, live, ring_of, turned}
use Rattle.ring.specs.declared.Ring.{Ring}
use Rattle.turn.specs.Turn.{turn_of}
use Rattle.words.specs.Words.{at, flag_of, flag_in, tag_of, tag_in}
use Rattle.words.proofs.Laws.{tag_again, unchanged}
use Rattle.controllerround.specs.Round.{event_words}

module _ (ws d buffer : List ℕ) (seen : Lines) (busy : Bool) where
  -- The controller in this stage, the rest of it as the words say.
  abbrev inStage : Stage → Controller
  inStage stage = with_stage (loaded ws) stage

  abbrev Round : Stage → List ℕ → List ℕ → List ℕ → Type 0
  Round stage after buffer' events =
      (after ≡ saved_in ws (controller_step (inStage stage) seen busy d))
      × ((buffer' ≡ frame_buffer stage seen buffer) × (events ≡ event_words (event_in (inStage stage) seen busy d)))

  pub in_words : {stage : Stage} {after buffer' events : List ℕ} → loaded_stage ws ≡ stage → Round stage after buffer' events → Round (loaded_stage ws) after buffer' events
  in_words {after = after} {buffer' = buffer'} {events = events} e p = subst (λ (s : Stage). Round s after buffer' events) (sym e) p

  -- Idle: BAV is seen low, or high.
  module _ (e : loaded_stage ws ≡ Free) where
    idle : {after : List ℕ} → after ≡ saved_in ws (idle_step (loaded ws) seen.bav) → Round (loaded_stage ws) after buffer (0 ∷ 0 ∷ 0 ∷ [])
    idle p = in_words e (p ∙ ap (λ (s : Stage). saved_in ws (idle_step (inStage s) seen.bav)) e, (refl, refl))

    pub idle-low : {after : List ℕ} → seen.bav ≡ true → after ≡ saved_in ws (idle_step (loaded ws) true) → Round (loaded_stage ws) after buffer (0 ∷ 0 ∷ 0 ∷ [])
    idle-low b p = idle (p ∙ ap (λ (bav : Bool). saved_in ws (idle_step (loaded ws) bav)) (sym b))

    pub idle-high : seen.bav ≡ false → Round (loaded_stage ws) ws buffer (0 ∷ 0 ∷ 0 ∷ [])
    idle-high b = idle (sym (saved-loaded ws) ∙ ap (λ (bav : Bool). saved_in ws (idle_step (loaded ws) bav)) (sym b))

-- A round of rest.
module _ (ws : List ℕ) (t : at ws STAGE ≡ 1) where
  pub rests-on : {first : ℕ} → first ≡ flag_in (at ws FIRST) false → flag_of (at ws FIRST) ≡ true → set ws FIRST first ≡ stage_in ws (rest_step (flag_of (at ws FIRST)))
  rests-on {first} e f =
      let written : stage_in ws (Resting false) ≡ set ws FIRST first = simp (unchanged, e, tag_again 5 (at ws STAGE) 1 (ap (tag_of 5) t)) in
      sym written ∙ ap (λ (first : Bool). stage_in ws (rest_step first)) (sym f)

  pub rests-no-more : flag_of (at ws FIRST) ≡ false → set ws STAGE 0 ≡ stage_in ws (rest_step (flag_of (at ws FIRST)))
  rests-no-more f = ap (λ (word : ℕ). set ws STAGE (tag_in 5 word 0)) (sym t) ∙ ap (λ (first : Bool). stage_in ws (rest_step first)) (sym f)

-- The front entry's turn, unless the ring is empty.
module _ (ws : List ℕ) {ring : Ring} (l : ring ≡ loaded_ring ws) {n : ℕ} (k : n ≡ counted ring) where
  entries : {b : Bool} → eqb n 0 ≡ b → eqb (counted (loaded_ring ws)) 0 ≡ b
  entries t = ap (λ (m : ℕ). eqb m 0) (sym (k ∙ ap counted l)) ∙ t

  pub no-turn : eqb n 0 ≡ true → ws ≡ saved_in ws (idle_step (loaded ws) true)
  no-turn t = let stays : idle_step (loaded ws) true ≡ loaded ws = rw (entries t) in sym (saved-loaded ws) ∙ ap (saved_in ws) (sym stays)

  pub turn : {between after : List ℕ} {stage : Stage} {ring' : Ring} → eqb n 0 ≡ false → stage ≡ begun (turn_of (get_or (live ring) 0 none)) → ring' ≡ ring_of (turned (live ring))
      → between ≡ stage_in ws stage → after ≡ ring_in between ring'
      → after ≡ saved_in ws (idle_step (loaded ws) true)
  turn t s r p q =
      let next : Ring → Controller = λ g. service (with_ring (loaded ws) g) in
      let turns : idle_step (loaded ws) true ≡ next (loaded_ring ws) = rw (entries t) in
      q
      ∙ (λ j. ring_in ((p ∙ ap (stage_in ws) s) j) (r j))
      ∙ ring_saved ws (begun (turn_of (get_or (live ring) 0 none))) (ring_of (turned (live ring)))
      ∙ ap (λ (g : Ring). saved_in ws (next g)) l
      ∙ ap (saved_in ws) (sym turns)

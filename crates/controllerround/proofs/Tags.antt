-- The stage by its tag: what it is lent, and what it pulls.
use Prim.Native.Nat.{ℕ, zero, suc, ◌+◌, ◌%◌, ◌≤◌, ◌<◌}
use native.Mathlib.Omega.{arith}
use mathlib.Core.Path.{◌≡◌, refl, sym, ◌∙◌, ap}
use mathlib.Core.Bool.{Bool, true, false, cond}
use mathlib.Core.List.{List}
use borrow.Author.Tests.{eqb-true, le-ltb}
use lib.Dec.{eqb}
use Rattle.answer.specs.declared.Response.TheVariants.{TooLarge}
use Rattle.controllerwords.specs.Controller.{loaded_frame, stage_by, loaded_stage}
use Rattle.controllerwords.specs.Layout.{STAGE, FIRST}
use Rattle.controllerwords.proofs.Laws.{stage_meant}
use Rattle.frame.specs.Frame.{null_frame, lent_to, lent_at, pulls_of}
use Rattle.std.specs.Prelude.{Ok}
use Rattle.frame.specs.declared.Stage.{Stage}
use Rattle.frame.specs.declared.Stage.TheVariants.{Free, Resting, Waiting, Sending, Listening}
use Rattle.line.specs.declared.Listener.TheVariants as Ear
use Rattle.words.specs.Words.{at, flag_of, listener_of, sender_of, lines_number}

pub stage_is : (ws : List ℕ) (tag : ℕ) → eqb (at ws STAGE) tag ≡ true → loaded_stage ws ≡ stage_by tag ws
stage_is ws tag t = ap (λ (k : ℕ). stage_by k ws) (eqb-true (at ws STAGE) tag t)

pub is_free : (ws : List ℕ) → eqb (at ws STAGE) 4 ≡ false → eqb (at ws STAGE) 3 ≡ false → eqb (at ws STAGE) 2 ≡ false → eqb (at ws STAGE) 1 ≡ false → loaded_stage ws ≡ Free
is_free ws d c b a = rw (a, b, c, d)

-- Only a frame looks at what it is lent.
module _ (ws : List ℕ) (n room : ℕ) where
  pub low_fits : (tag : ℕ) → tag < 2 → Ok tt ≡ lent_at (stage_by tag ws) n room
  low_fits zero h = refl
  low_fits (suc zero) h = refl
  low_fits (suc (suc k)) h = absurd (omega arith)

  pub high_fits : (tag : ℕ) → 4 < tag → Ok tt ≡ lent_at (stage_by tag ws) n room
  high_fits tag h =
      let other : stage_by tag ws ≡ Free = stage_meant ws tag ∙ rw (le-ltb tag 5 h) in
      ap (λ (s : Stage). lent_at s n room) (sym other)

  pub frame_lent : (tag : ℕ) → 2 ≤ tag → tag ≤ 4 → lent_to (loaded_frame ws) n room ≡ lent_at (stage_by tag ws) n room
  frame_lent zero h l = absurd (omega arith)
  frame_lent (suc zero) h l = absurd (omega arith)
  frame_lent (suc (suc zero)) h l = refl
  frame_lent (suc (suc (suc zero))) h l = refl
  frame_lent (suc (suc (suc (suc zero)))) h l = refl
  frame_lent (suc (suc (suc (suc (suc k))))) h l = absurd (omega arith)

-- What it pulls.
module _ (ws : List ℕ) where
  pub stage-pulls : (tag : ℕ) → eqb (at ws STAGE) tag ≡ true → lines_number (pulls_of (stage_by tag ws)) ≡ lines_number (pulls_of (loaded_stage ws))
  stage-pulls tag t = ap (λ (s : Stage). lines_number (pulls_of s)) (sym (stage_is ws tag t))

  pub no-pulls : eqb (at ws STAGE) 3 ≡ false → eqb (at ws STAGE) 4 ≡ false → 15 ≡ lines_number (pulls_of (loaded_stage ws))
  no-pulls c d = rw (c, d) (by_tests (eqb (at ws STAGE) 1) (eqb (at ws STAGE) 2))
    where
      by_tests : (a b : Bool) → 15 ≡ lines_number (pulls_of (cond a (Resting (flag_of (at ws FIRST))) (cond b (Waiting (loaded_frame ws)) Free)))
      by_tests true b = refl
      by_tests false true = refl
      by_tests false false = refl

pub placed_pulls : (tag word : ℕ) → eqb tag 1 ≡ true → word % 16 + 48 ≡ lines_number (pulls_of (Sending null_frame 0 (sender_of tag word) false))
placed_pulls tag word t = rw t (omega arith)

pub kept_pulls : (tag word : ℕ) → eqb tag 1 ≡ false → eqb tag 2 ≡ true → word % 16 + 32 ≡ lines_number (pulls_of (Sending null_frame 0 (sender_of tag word) false))
kept_pulls tag word t k = rw (t, k) (omega arith)

pub waiting_pulls : (tag : ℕ) → eqb tag 1 ≡ false → 47 ≡ lines_number (pulls_of (Listening null_frame (listener_of tag) TooLarge 0))
waiting_pulls tag t = rw t (either (eqb tag 2))
  where
    either : (b : Bool) → 47 ≡ lines_number (pulls_of (Listening null_frame (cond b Ear.Waiting Ear.Ready) TooLarge 0))
    either true = refl
    either false = refl

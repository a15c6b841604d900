-- A text, byte by byte: the rest of it after one byte more, and at its end.
use Prim.Native.Nat.{ℕ, zero, suc, ◌+◌, ◌≤◌, ◌<◌}
use native.Mathlib.Nat.{add-zero}
use native.Mathlib.Omega.{arith}
use native.Mathlib.Numerals.{add-one}
use mathlib.Core.Path.{◌≡◌, refl, sym, ◌∙◌, ap}
use mathlib.Core.Bool.{Bool, true, false, cond, false≢true}
use mathlib.Core.List.{List}
use lib.ListN.{length, drop, set, get_or, length-drop, drop_of_length-le}
use lib.Seq.{drop-cons, paste, paste-zero, paste-suc, length-paste, get_or-drop}
use borrow.Author.Tests.{lt-ltb, le-ltb}
use Rattle.screen.specs.Screen.{On, at, line_fed, returned, advanced, controlled, with_byte_in, with_byte}
use Rattle.screen.specs.Cells.{cursor, fed_cells, character_cells, controlled_cells, cells_with_in, cells_with}
use Rattle.screen.specs.Text.{with_text, drawn, is_drawn}
use Rattle.screen.specs.declared.Screen.{Screen}
use Rattle.screen.specs.declared.Sequence.{Sequence}
use Rattle.screen.specs.declared.Sequence.TheVariants.{Plain}
use Rattle.screen.proofs.Laws.{last_low, stays, length_with_lem, drawn_on, drawn-room}

pub text_next : (s t : Screen) (text : List ℕ) (i : ℕ) → i < length text → t ≡ with_byte s (get_or text i 0) → with_text t (drop (i + 1) text) ≡ with_text s (drop i text)
text_next s t text i h e = rw (e, add-one i, drop-cons text i 0 h) refl

pub drawn-next : (s t : Screen) (text cells after : List ℕ) (i : ℕ) → i < length text → t ≡ with_byte s (get_or text i 0) → after ≡ cells_with s (get_or text i 0) cells
    → drawn t (drop (i + 1) text) after ≡ drawn s (drop i text) cells
drawn-next s t text cells after i h e f = rw (e, f, add-one i, drop-cons text i 0 h) refl

pub text_end : (s : Screen) (text : List ℕ) (i : ℕ) → length text ≤ i → s ≡ with_text s (drop i text)
text_end s text i h = rw (drop_of_length-le text h) refl

pub drawn_end : (s : Screen) (text cells : List ℕ) (i : ℕ) → length text ≤ i → cells ≡ drawn s (drop i text) cells
drawn_end s text cells i h = rw (drop_of_length-le text h) refl

-- A character before the last column, while no sequence is being read: one position to the right, and it is the cursor's cell.
pub plain_byte : (s : Screen) (b : ℕ) → s.sequence ≡ Plain → s.column < 79 → 0x20 ≤ b → with_byte s b ≡ at s s.row (s.column + 1)
plain_byte s b e h p =
    ap (λ (q : Sequence). with_byte_in q s b) e
    ∙ ap (λ (t : Bool). cond t (controlled s b) (advanced s)) (le-ltb b 0x20 p)
    ∙ ap (λ (t : Bool). cond t (at s s.row (s.column + 1)) (cond s.wraps (line_fed (returned s)) s)) (lt-ltb s.column 79 h)

pub plain_cells : (s : Screen) (b : ℕ) (cells : List ℕ) → s.sequence ≡ Plain → s.column < 79 → 0x20 ≤ b → cells_with s b cells ≡ set cells (cursor s) b
plain_cells s b cells e h p =
    ap (λ (q : Sequence). cells_with_in q s b cells) e
    ∙ ap (λ (t : Bool). cond t (controlled_cells s b cells) (character_cells s b cells)) (le-ltb b 0x20 p)
    ∙ ap (λ (t : Bool). cond t (set cells (cursor s) b) (cond s.wraps (fed_cells s (set cells (cursor s) b)) (set cells (cursor s) b))) (lt-ltb s.column 79 h)

-- So many such characters from byte i on, in as many cells: what is left of the text after them.
module _ (s : Screen) (text cells : List ℕ) (i : ℕ) where
  abbrev Run : ℕ → Type 0
  Run n =
      ((0 < n → s.sequence ≡ Plain) × (s.column + n < 80))
      × ((i + n ≤ length text) × ((cursor s + n ≤ length cells) × ((k : ℕ) → k < n → 0x20 ≤ get_or text (i + k) 0)))

  less : (n : ℕ) → Run (suc n) → Run n
  less n r = ((λ (h : 0 < n). r.0.0 (omega arith), omega (arith, r.0.1)), (omega (arith, r.1.0), (omega (arith, r.1.1.0), λ k (h : k < n). r.1.1.1 k (omega arith))))

  right : ℕ → Screen
  right n = at s s.row (s.column + n)

  -- The last of them.
  module _ (n : ℕ) (r : Run (suc n)) where
    b : ℕ
    b = get_or text (i + n) 0

    plain : s.sequence ≡ Plain
    plain = r.0.0 (omega arith)

    inner : s.column + n < 79
    inner = omega (arith, r.0.1)

    shown : 0x20 ≤ b
    unfolding b
    shown = r.1.1.1 n (omega arith)

    one_byte : right (suc n) ≡ with_byte (right n) b
    unfolding right
    one_byte =
        let to : s.column + suc n ≡ s.column + n + 1 = omega arith in
        ap (at s s.row) to ∙ sym (plain_byte (right n) b plain inner shown)

    one_cell : paste cells (cursor s) (drop i text) (suc n) ≡ cells_with (right n) b (paste cells (cursor s) (drop i text) n)
    unfolding b right
    one_cell =
        let there : cursor s + n ≡ cursor (right n) = omega arith in
        let left : n < length (drop i text) = rw (length-drop i text) (omega (arith, r.1.0)) in
        let before : List ℕ = paste cells (cursor s) (drop i text) n in
        sym (paste-suc cells (cursor s) (drop i text) n 0 (omega (arith, r.1.1.0)) left)
        ∙ ap (λ (x : ℕ). set before (cursor s + n) x) (get_or-drop i text n 0)
        ∙ ap (λ (k : ℕ). set before k b) there
        ∙ sym (plain_cells (right n) b before plain inner shown)

    one-text : with_text (right (suc n)) (drop (i + suc n) text) ≡ with_text (right n) (drop (i + n) text)
    unfolding b
    one-text =
        let next : i + suc n ≡ i + n + 1 = omega arith in
        rw next (text_next (right n) (right (suc n)) text (i + n) (omega (arith, r.1.0)) one_byte)

    one-drawn : drawn (right (suc n)) (drop (i + suc n) text) (paste cells (cursor s) (drop i text) (suc n))
        ≡ drawn (right n) (drop (i + n) text) (paste cells (cursor s) (drop i text) n)
    unfolding b
    one-drawn =
        let next : i + suc n ≡ i + n + 1 = omega arith in
        rw next
        (drawn-next (right n) (right (suc n)) text (paste cells (cursor s) (drop i text) n) (paste cells (cursor s) (drop i text) (suc n)) (i + n) (omega (arith, r.1.0)) one_byte one_cell)

  pub run-text : (n : ℕ) → Run n → with_text (at s s.row (s.column + n)) (drop (i + n) text) ≡ with_text s (drop i text)
  unfolding right
  run-text zero r = rw (add-zero s.column, add-zero i) refl
  run-text (suc n) r = one-text n r ∙ run-text n (less n r)

  pub run-drawn : (n : ℕ) → Run n → drawn (at s s.row (s.column + n)) (drop (i + n) text) (paste cells (cursor s) (drop i text) n) ≡ drawn s (drop i text) cells
  unfolding right
  run-drawn zero r = rw (add-zero s.column, add-zero i, ← (paste-zero cells (cursor s) (drop i text))) refl
  run-drawn (suc n) r = one-drawn n r ∙ run-drawn n (less n r)

-- What holds where the cells are drawn: the cursor is on the unprotected lines, and the memory holds the cells.
abbrev pub Ready : Bool → Screen → List ℕ → Type 0
Ready draws s cells = draws ≡ true → On s × (1920 ≤ length cells)

pub ready : (s : Screen) (cells : List ℕ) → is_drawn s cells ≡ true → On s × (1920 ≤ length cells)
ready s cells e = (drawn_on s cells e, drawn-room s cells e)

abbrev pub drawn_if : Bool → Screen → List ℕ → List ℕ → List ℕ
drawn_if draws s text cells = cond draws (drawn s text cells) cells

-- What holds after some bytes of a text: that still does, the memory has its length, and the rest of the text gives what all of it gives before
-- them.
abbrev pub After : Bool → Screen → Screen → List ℕ → List ℕ → List ℕ → ℕ → ℕ → Type 0
After draws s t text cells after i j =
    Ready draws t after
    × ((length after ≡ length cells) × ((with_text t (drop j text) ≡ with_text s (drop i text)) × (drawn_if draws t (drop j text) after ≡ drawn_if draws s (drop i text) cells)))

-- After a run of characters.
abbrev Fits : Bool → Screen → ℕ → Type 0
Fits draws s n = 0 < n → (draws ≡ true) × ((s.column + n < 80) × (s.sequence ≡ Plain))

in_line : (column n : ℕ) → column < 80 → (0 < n → column + n < 80) → column + n < 80
in_line column zero h f = omega (arith, h)
in_line column (suc n) h f = f (omega arith)

pub after_run : (draws : Bool) (s : Screen) (text cells after : List ℕ) (i n : ℕ) → Ready draws s cells → Fits draws s n
    → (i + n ≤ length text) × ((k : ℕ) → k < n → 0x20 ≤ get_or text (i + k) 0)
    → after ≡ paste cells (cursor s) (drop i text) n
    → After draws s (at s s.row (s.column + n)) text cells after i (i + n)
after_run true s text cells after i n ready fits run put =
    let on : On s = (ready refl).0 in
    let size : 1920 ≤ length cells = (ready refl).1 in
    let bound : s.row ≤ 23 = omega (arith, last_low s.bottom, on.above_bottom) in
    let inside : s.column + n < 80 = in_line s.column n on.within (λ (h : 0 < n). (fits h).1.0) in
    let there : cursor s + n ≤ length cells = omega (arith, inside, bound, size) in
    let left : n ≤ length (drop i text) = rw (length-drop i text) (omega (arith, run.0)) in
    let of : Run s text cells i n = ((λ (h : 0 < n). (fits h).1.1, inside), (run.0, (there, run.1))) in
    let same : length after ≡ length cells = ap length put ∙ length-paste cells (cursor s) (drop i text) n there left in (
      λ h. (record { below_top = on.below_top; above_bottom = on.above_bottom; within = inside }, omega (arith, same, size)),
      (same, (run-text s text cells i n of, ap (drawn (at s s.row (s.column + n)) (drop (i + n) text)) put ∙ run-drawn s text cells i n of)),
    )
after_run false s text cells after i zero ready fits run put =
    let same : after ≡ cells = put ∙ sym (paste-zero cells (cursor s) (drop i text)) in
    (λ h. absurd (false≢true h), (ap length same, (rw (add-zero s.column, add-zero i) refl, same)))
after_run false s text cells after i (suc n) ready fits run put = absurd (false≢true (fits (omega arith)).0)

-- After a byte.
pub after_byte : (draws : Bool) (s t : Screen) (text cells after : List ℕ) (i : ℕ) → Ready draws s cells → i < length text
    → t ≡ with_byte s (get_or text i 0) → after ≡ cond draws (cells_with s (get_or text i 0) cells) cells
    → After draws s t text cells after i (i + 1)
after_byte true s t text cells after i ready h e f =
    let on : On s = (ready refl).0 in
    let size : 1920 ≤ length cells = (ready refl).1 in
    let same : length after ≡ length cells = ap length f ∙ length_with_lem s (get_or text i 0) cells on size in
    (λ k. (rw e (stays s (get_or text i 0) on), omega (arith, same, size)), (same, (text_next s t text i h e, drawn-next s t text cells after i h e f)))
after_byte false s t text cells after i ready h e f = (λ k. absurd (false≢true k), (ap length f, (text_next s t text i h e, f)))

-- At the end of the text.
pub drawn_if_end : (draws : Bool) (s : Screen) (text cells : List ℕ) (i : ℕ) → length text ≤ i → cells ≡ drawn_if draws s (drop i text) cells
drawn_if_end true s text cells i h = drawn_end s text cells i h
drawn_if_end false s text cells i h = refl

-- The laws of a screen: its cursor stays on the unprotected lines, each change of its cells leaves all others and the memory's length as they
-- were, and a text may be cut anywhere.
use Prim.Native.Nat.{ℕ, suc, ◌+◌, ◌-◌, ◌*◌, ◌≤◌, ◌<◌}
use native.Mathlib.Omega.{arith}
use mathlib.Core.Path.{◌≡◌, refl, sym, ◌∙◌, ap, subst}
use mathlib.Core.Bool.{Bool, true, false, cond, ◌&&◌, ◌||◌, false≢true}
use mathlib.Core.List.{List, [], ◌∷◌, ◌++◌, append_assoc}
use lib.Dec.{ltb, leb, eqb}
use lib.ListN.{length, take, drop, set, replicate, get_or, length-append, length-set, length-drop, length-replicate, get_or-replicate, get_or-append}
use lib.Seq.{length-take-le, get_or-take, get_or-drop, drop-drop, drop-set-lt, get_or-set_same, get_or-set_other, drop_at, get_or-append-add, sets, sets-eq}
use borrow.Author.Tests.{ltb-true, ltb-false, leb-true, leb-false, eqb-true, eqb-false, lt-ltb, le-ltb, le-leb, lt-leb, eq-eqb, ne_eqb}
use Rattle.screen.specs.Screen.{first_line, last_line, lines_of, On, is_on, at, reading, guarding, backward, line_fed, lined_up, forward, returned}
use Rattle.screen.specs.Screen.{homed, advanced, controlled, nearest, placed, protected, guarded, ordered, skipping, sequence_of, with_byte_in, with_byte}
use Rattle.screen.specs.Cells.{cursor, erased, closed_up, opened_up, to_line_end, lines_down, to_page_end, scrolled_up, scrolled_down, inserted, deleted}
use Rattle.screen.specs.Cells.{line_inserted, line_deleted, line_erased, page_erased, fed_cells, up_cells, character_cells, controlled_cells, commanded_cells}
use Rattle.screen.specs.Cells.{cells_with_in, cells_with}
use Rattle.screen.specs.Text.{with_text, drawn, is_drawn, cells_after, cleared}
use Rattle.screen.specs.Laws.{cell, KeepsRest, Becomes, is_open, is_here, up, written, character_scrolls, may_change, Characters}
use Rattle.screen.specs.Laws.{ScrollsUp, ScrollsDown, Writes, Inserts, Deletes, InsertsLine, DeletesLine, ErasesLine, ErasesPage, ErasesAll}
use Rattle.screen.specs.Laws.{Clears, Keeps, Guards, Stays, Shows, Cut}
use Rattle.screen.specs.declared.Screen.{Screen}
use Rattle.screen.specs.declared.Sequence.{Sequence}
use Rattle.screen.specs.declared.Sequence.TheVariants.{Plain, Escape, Row, Column, Skips}

-- Either way of a test, and both of two.
by_test : {A : Type 0} (P : A → Type 0) (t : Bool) (v w : A) → (t ≡ true → P v) → (t ≡ false → P w) → P (cond t v w)
by_test P true v w p q = p refl
by_test P false v w p q = q refl

both_left : (a b : Bool) → (a && b) ≡ true → a ≡ true
both_left true b e = refl
both_left false b e = absurd (false≢true e)

both_right : (a b : Bool) → (a && b) ≡ true → b ≡ true
both_right true b e = e
both_right false b e = absurd (false≢true e)

both : (a b : Bool) → a ≡ true → b ≡ true → (a && b) ≡ true
both true b p q = q
both false b p q = absurd (false≢true p)

not_both : {X : Type 0} (a b : Bool) → (a && b) ≡ false → (a ≡ false → X) → (a ≡ true → b ≡ false → X) → X
not_both true b e p q = q refl e
not_both false b e p q = p refl

neither_right : (a b : Bool) → b ≡ false → (a && b) ≡ false
neither_right true b e = e
neither_right false b e = refl

neither_left : (a b : Bool) → a ≡ false → (a && b) ≡ false
neither_left true b e = absurd (false≢true (sym e))
neither_left false b e = refl

neither : {X : Type 0} (a b : Bool) → (a || b) ≡ false → (a ≡ false → b ≡ false → X) → X
neither true b e p = absurd (false≢true (sym e))
neither false b e p = p refl e

-- A test that holds, one that does not, and the first of two of which neither does.
passes : {A : Type 0} (t : Bool) (v w : A) → t ≡ true → cond t v w ≡ v
passes true v w e = refl
passes false v w e = absurd (false≢true e)

fails : {A : Type 0} (t : Bool) (v w : A) → t ≡ false → cond t v w ≡ w
fails true v w e = absurd (false≢true (sym e))
fails false v w e = refl

fails_first : {A : Type 0} (t u : Bool) (v w x : A) → (t || u) ≡ false → (u ≡ false → w ≡ x) → cond t v w ≡ x
fails_first t u v w x e p = neither t u e (λ a b. fails t v w a ∙ p b)

-- The first unprotected line is 0 or 1, the last is 22 or 23.
pub first_low : (t : Bool) → cond t 1 0 ≤ 1
first_low t = by_test (λ (n : ℕ). n ≤ 1) t 1 0 (λ e. omega arith) (λ e. omega arith)

pub last_low : (t : Bool) → cond t 22 23 ≤ 23
last_low t = by_test (λ (n : ℕ). n ≤ 23) t 22 23 (λ e. omega arith) (λ e. omega arith)

pub last_high : (t : Bool) → 22 ≤ cond t 22 23
last_high t = by_test (λ (n : ℕ). 22 ≤ n) t 22 23 (λ e. omega arith) (λ e. omega arith)

-- The test whether the cursor is on the unprotected lines.
pub on_by : (s : Screen) → is_on s ≡ true → On s
on_by s e =
    let rest = both_right (leb (first_line s) s.row) _ e in
    record {
      below_top = leb-true (first_line s) s.row (both_left (leb (first_line s) s.row) _ e);
      above_bottom = leb-true s.row (last_line s) (both_left (leb s.row (last_line s)) _ rest);
      within = ltb-true s.column 80 (both_right (leb s.row (last_line s)) _ rest);
    }

pub by_on : (s : Screen) → On s → is_on s ≡ true
by_on s on =
    both (leb (first_line s) s.row) _ (le-leb (first_line s) s.row on.below_top)
    (both (leb s.row (last_line s)) _ (le-leb s.row (last_line s) on.above_bottom) (lt-ltb s.column 80 on.within))

-- It stays there, by each code and each sequence.
on_at : (s : Screen) (row column : ℕ) → first_line s ≤ row → row ≤ last_line s → column < 80 → On (at s row column)
on_at s row column p q r = record { below_top = p; above_bottom = q; within = r }

on_kept : (s : Screen) (scrolls wraps asked : Bool) (q : Sequence) → On s
    → On (record { row = s.row; column = s.column; scrolls = scrolls; wraps = wraps; top = s.top; bottom = s.bottom; asked = asked; sequence = q })
on_kept s scrolls wraps asked q on = record { below_top = on.below_top; above_bottom = on.above_bottom; within = on.within }

on_reading : (s : Screen) (q : Sequence) → On s → On (reading s q)
on_reading s q on = on_kept s s.scrolls s.wraps s.asked q on

on_backward : (s : Screen) → On s → On (backward s)
on_backward s on =
    let below : first_line s ≤ s.row = on.below_top in
    let above : s.row ≤ last_line s = on.above_bottom in
    let within : s.column < 80 = on.within in
    by_test On (ltb 0 s.column) _ _
    (λ t. on_at s s.row (s.column - 1) below above (omega arith))
    (λ t. by_test On s.wraps _ _
    (λ w. by_test (λ (row : ℕ). On (at s row 79)) (ltb (first_line s) s.row) (s.row - 1) (last_line s)
    (λ l. let after : first_line s < s.row = ltb-true (first_line s) s.row l in on_at s (s.row - 1) 79 (omega arith) (omega arith) (omega arith))
    (λ l. on_at s (last_line s) 79 (omega arith) (omega arith) (omega arith)))
    (λ w. on))

on_fed : (s : Screen) → On s → On (line_fed s)
on_fed s on =
    let below : first_line s ≤ s.row = on.below_top in
    let above : s.row ≤ last_line s = on.above_bottom in
    by_test (λ (row : ℕ). On (at s row s.column)) (ltb s.row (last_line s)) _ _
    (λ l. let before : s.row < last_line s = ltb-true s.row (last_line s) l in on_at s (s.row + 1) s.column (omega arith) (omega arith) on.within)
    (λ l. by_test (λ (row : ℕ). On (at s row s.column)) s.scrolls _ _
    (λ m. on_at s s.row s.column below above on.within)
    (λ m. on_at s (first_line s) s.column (omega arith) (omega arith) on.within))

on_up : (s : Screen) → On s → On (lined_up s)
on_up s on =
    let below : first_line s ≤ s.row = on.below_top in
    let above : s.row ≤ last_line s = on.above_bottom in
    by_test (λ (row : ℕ). On (at s row s.column)) (ltb (first_line s) s.row) _ _
    (λ l. let after : first_line s < s.row = ltb-true (first_line s) s.row l in on_at s (s.row - 1) s.column (omega arith) (omega arith) on.within)
    (λ l. by_test (λ (row : ℕ). On (at s row s.column)) s.scrolls _ _
    (λ m. on_at s s.row s.column below above on.within)
    (λ m. on_at s (last_line s) s.column (omega arith) (omega arith) on.within))

on_forward : (s : Screen) → On s → On (forward s)
on_forward s on =
    let below : first_line s ≤ s.row = on.below_top in
    let above : s.row ≤ last_line s = on.above_bottom in
    by_test On (ltb s.column 79) _ _
    (λ t. let inner : s.column < 79 = ltb-true s.column 79 t in on_at s s.row (s.column + 1) below above (omega arith))
    (λ t. by_test On s.wraps _ _
    (λ w. by_test (λ (row : ℕ). On (at s row 0)) (ltb s.row (last_line s)) _ _
    (λ l. let before : s.row < last_line s = ltb-true s.row (last_line s) l in on_at s (s.row + 1) 0 (omega arith) (omega arith) (omega arith))
    (λ l. on_at s (first_line s) 0 (omega arith) (omega arith) (omega arith)))
    (λ w. on))

on_returned : (s : Screen) → On s → On (returned s)
on_returned s on = on_at s s.row 0 on.below_top on.above_bottom (omega arith)

on_homed : (s : Screen) → On s → On (homed s)
on_homed s on =
    let below : first_line s ≤ s.row = on.below_top in
    let above : s.row ≤ last_line s = on.above_bottom in
    on_at s (first_line s) 0 (omega arith) (omega arith) (omega arith)

on_advanced : (s : Screen) → On s → On (advanced s)
on_advanced s on =
    by_test On (ltb s.column 79) _ _
    (λ t. let inner : s.column < 79 = ltb-true s.column 79 t in on_at s s.row (s.column + 1) on.below_top on.above_bottom (omega arith))
    (λ t. by_test On s.wraps _ _ (λ w. on_fed (returned s) (on_returned s on)) (λ w. on))

on_controlled : (s : Screen) (b : ℕ) → On s → On (controlled s b)
on_controlled s b on =
    by_test On (eqb b 0x08) _ _ (λ e. on_backward s on)
    (λ e. by_test On (eqb b 0x0A) _ _ (λ e. on_fed s on)
    (λ e. by_test On (eqb b 0x0B) _ _ (λ e. on_up s on)
    (λ e. by_test On (eqb b 0x0C) _ _ (λ e. on_forward s on)
    (λ e. by_test On (eqb b 0x0D) _ _ (λ e. on_returned s on)
    (λ e. by_test On (eqb b 0x1B) _ _ (λ e. on_reading s Escape on)
    (λ e. by_test On (eqb b 0x1F) _ _ (λ e. on_homed s on) (λ e. on)))))))

-- The unprotected line nearest to a row is one.
on_nearest : (s : Screen) (row column : ℕ) → column < 80 → On (at s (nearest s row) column)
on_nearest s row column within =
    let low : first_line s ≤ 1 = first_low s.top in
    let high : 22 ≤ last_line s = last_high s.bottom in
    by_test (λ (r : ℕ). On (at s r column)) (ltb row (first_line s)) _ _
    (λ t. on_at s (first_line s) column (omega arith) (omega arith) within)
    (λ t. by_test (λ (r : ℕ). On (at s r column)) (ltb (last_line s) row) _ _
    (λ u. on_at s (last_line s) column (omega arith) (omega arith) within)
    (λ u. on_at s row column (ltb-false row (first_line s) t) (ltb-false (last_line s) row u) within))

on_placed : (s : Screen) (row column : ℕ) → On s → On (placed s row column)
on_placed s row column on =
    by_test On (ltb row 24) _ _
    (λ t. by_test On (ltb column 80) _ _ (λ u. on_nearest s row column (ltb-true column 80 u)) (λ u. on))
    (λ t. on)

on_guarded : (s : Screen) (b : ℕ) → On s → On (guarded s b)
on_guarded s b on =
    let it : (top bottom : Bool) → On (protected s top bottom) = λ top bottom. on_nearest (guarding s top bottom) s.row s.column on.within in
    by_test On (eqb b 0x30) _ _ (λ e. it true s.bottom)
    (λ e. by_test On (eqb b 0x31) _ _ (λ e. it false s.bottom)
    (λ e. by_test On (eqb b 0x32) _ _ (λ e. it s.top true)
    (λ e. by_test On (eqb b 0x33) _ _ (λ e. it s.top false) (λ e. on))))

on_ordered : (s : Screen) (b : ℕ) → On s → On (ordered s b)
on_ordered s b on =
    by_test On (eqb b 0x4D) _ _ (λ e. on_kept s true s.wraps s.asked s.sequence on)
    (λ e. by_test On (eqb b 0x6D) _ _ (λ e. on_kept s false s.wraps s.asked s.sequence on)
    (λ e. by_test On (eqb b 0x52) _ _ (λ e. on_returned s on)
    (λ e. by_test On (eqb b 0x34) _ _ (λ e. on_kept s s.scrolls false s.asked s.sequence on)
    (λ e. by_test On (eqb b 0x35) _ _ (λ e. on_kept s s.scrolls true s.asked s.sequence on)
    (λ e. by_test On (eqb b 0x39) _ _ (λ e. on_kept s s.scrolls s.wraps true s.sequence on)
    (λ e. on_guarded s b on))))))

stays_in : (q : Sequence) (s : Screen) (b : ℕ) → On s → On (with_byte_in q s b)
stays_in Plain s b on = by_test On (ltb b 0x20) _ _ (λ t. on_controlled s b on) (λ t. on_advanced s on)
stays_in Escape s b on = on_ordered (reading s (sequence_of s b)) b (on_reading s (sequence_of s b) on)
stays_in Row s b on = on_reading s (Column b) on
stays_in (Column row) s b on = on_placed (reading s Plain) row b (on_reading s Plain on)
stays_in (Skips n) s b on = on_reading s (skipping (n - 1)) on

pub stays : Stays
stays s b on = stays_in s.sequence s b on

-- What lies outside a stretch of the cells, and how long they are, stays as it was.
pub record Apart (from to : ℕ) (cells after : List ℕ) : Type 0 where
  pub same_length : length after ≡ length cells
  pub before : (i : ℕ) → i < from → get_or after i 0x20 ≡ get_or cells i 0x20
  pub behind : drop to after ≡ drop to cells

apart_none : (from to : ℕ) (cells : List ℕ) → Apart from to cells cells
apart_none from to cells = record { same_length = refl; before = λ i l. refl; behind = refl }

-- In a wider stretch, and by two changes.
apart_wider : (from to from' to' : ℕ) (cells after : List ℕ)
    → from' ≤ from → to ≤ to' → Apart from to cells after → Apart from' to' cells after
apart_wider from to from' to' cells after p q a =
    let whole : to + (to' - to) ≡ to' = omega arith in
    let tails : drop (to + (to' - to)) after ≡ drop (to + (to' - to)) cells =
    sym (drop-drop (to' - to) to after) ∙ ap (drop (to' - to)) a.behind ∙ drop-drop (to' - to) to cells in
    record {
      same_length = a.same_length;
      before = λ i (l : i < from'). a.before i (omega arith);
      behind = subst (λ (k : ℕ). drop k after ≡ drop k cells) whole tails;
    }

apart_twice : (from to : ℕ) (cells middle after : List ℕ) → Apart from to cells middle → Apart from to middle after → Apart from to cells after
apart_twice from to cells middle after a b =
    record {
      same_length = b.same_length ∙ a.same_length;
      before = λ i l. b.before i l ∙ a.before i l;
      behind = b.behind ∙ a.behind;
    }

pub apart_behind : (from to : ℕ) (cells after : List ℕ) → Apart from to cells after → (i : ℕ) → to ≤ i → get_or after i 0x20 ≡ get_or cells i 0x20
apart_behind from to cells after a i l =
    let whole : to + (i - to) ≡ i = omega arith in
    let there : get_or after (to + (i - to)) 0x20 ≡ get_or cells (to + (i - to)) 0x20 =
    sym (get_or-drop to after (i - to) 0x20) ∙ ap (λ (x : List ℕ). get_or x (i - to) 0x20) a.behind ∙ get_or-drop to cells (i - to) 0x20 in
    subst (λ (k : ℕ). get_or after k 0x20 ≡ get_or cells k 0x20) whole there

-- A place in the second of two lists.
get_or_right : (a b : List ℕ) (n i : ℕ) → length a ≡ n → n ≤ i → get_or (a ++ b) i 0x20 ≡ get_or b (i - n) 0x20
get_or_right a b n i e l =
    let whole : i ≡ length a + (i - n) = omega arith in
    ap (λ (k : ℕ). get_or (a ++ b) k 0x20) whole ∙ get_or-append-add a b (i - n) 0x20

get_or-left : (a b : List ℕ) (n i : ℕ) → length a ≡ n → i < n → get_or (a ++ b) i 0x20 ≡ get_or a i 0x20
get_or-left a b n i e l = get_or-append a b 0x20 i (omega arith)

-- Other cells in place of n from a place on.
abbrev pasted : ℕ → ℕ → List ℕ → List ℕ → List ℕ
pasted from n middle cells = take from cells ++ (middle ++ drop (from + n) cells)

module _ (from n : ℕ) (middle cells : List ℕ) (fits : from + n ≤ length cells) (l : length middle ≡ n) where
  front : length (take from cells) ≡ from
  front = length-take-le from cells (omega arith)

  apart-pasted : Apart from (from + n) cells (pasted from n middle cells)
  apart-pasted =
      let rest : length (drop (from + n) cells) ≡ length cells - (from + n) = length-drop (from + n) cells in
      let two : length (take from cells ++ middle) ≡ from + n = simp (length-append, front, l) in
      record {
        same_length = simp (length-append, front, l, rest) (omega arith);
        before = λ i (b : i < from). get_or-append (take from cells) _ 0x20 i (simp front b) ∙ get_or-take from cells i 0x20 b;
        behind =
            ap (drop (from + n)) (sym (append_assoc (take from cells) middle (drop (from + n) cells)))
            ∙ drop_at (take from cells ++ middle) (drop (from + n) cells) (from + n) two;
      }

  pasted_at : (i : ℕ) → from ≤ i → i < from + n → get_or (pasted from n middle cells) i 0x20 ≡ get_or middle (i - from) 0x20
  pasted_at i p q =
      get_or_right (take from cells) (middle ++ drop (from + n) cells) from i front p ∙ get_or-left middle (drop (from + n) cells) n (i - from) l (omega arith)

-- Each change of n cells from a place on.
pub apart_erased : (from n : ℕ) (cells : List ℕ) → from + n ≤ length cells → Apart from (from + n) cells (erased from n cells)
apart_erased from n cells fits = apart-pasted from n (replicate n 0x20) cells fits (length-replicate n 0x20)

pub erased-blank : (from n : ℕ) (cells : List ℕ) → from + n ≤ length cells → (i : ℕ) → from ≤ i → i < from + n → get_or (erased from n cells) i 0x20 ≡ 0x20
erased-blank from n cells fits i p q =
    pasted_at from n (replicate n 0x20) cells fits (length-replicate n 0x20) i p q ∙ get_or-replicate n (i - from) 0x20 0x20 (omega arith)

abbrev closing : ℕ → ℕ → ℕ → List ℕ → List ℕ
closing from n g cells = take (n - g) (drop (from + g) cells) ++ replicate g 0x20

abbrev opening : ℕ → ℕ → ℕ → List ℕ → List ℕ
opening from n g cells = replicate g 0x20 ++ take (n - g) (drop from cells)

module _ (from n g : ℕ) (cells : List ℕ) (fits : from + n ≤ length cells) (gap : g ≤ n) where
  kept-closing : length (take (n - g) (drop (from + g) cells)) ≡ n - g
  kept-closing =
      let rest : length (drop (from + g) cells) ≡ length cells - (from + g) = length-drop (from + g) cells in
      length-take-le (n - g) (drop (from + g) cells) (omega arith)

  length-closing : length (closing from n g cells) ≡ n
  length-closing = simp (length-append, kept-closing, length-replicate) (omega arith)

  kept-opening : length (take (n - g) (drop from cells)) ≡ n - g
  kept-opening =
      let rest : length (drop from cells) ≡ length cells - from = length-drop from cells in
      length-take-le (n - g) (drop from cells) (omega arith)

  length-opening : length (opening from n g cells) ≡ n
  length-opening = simp (length-append, kept-opening, length-replicate) (omega arith)

  closed-pasted : pasted from n (closing from n g cells) cells ≡ closed_up from n g cells
  closed-pasted = ap (λ (x : List ℕ). take from cells ++ x) (append_assoc (take (n - g) (drop (from + g) cells)) (replicate g 0x20) (drop (from + n) cells))

  opened-pasted : pasted from n (opening from n g cells) cells ≡ opened_up from n g cells
  opened-pasted = ap (λ (x : List ℕ). take from cells ++ x) (append_assoc (replicate g 0x20) (take (n - g) (drop from cells)) (drop (from + n) cells))

  pub apart-closed : Apart from (from + n) cells (closed_up from n g cells)
  apart-closed = subst (Apart from (from + n) cells) closed-pasted (apart-pasted from n (closing from n g cells) cells fits length-closing)

  pub apart-opened : Apart from (from + n) cells (opened_up from n g cells)
  apart-opened = subst (Apart from (from + n) cells) opened-pasted (apart-pasted from n (opening from n g cells) cells fits length-opening)

  -- Closed up, a cell is the one g behind it, and the last g are blank.
  closed_at : (i : ℕ) → from ≤ i → i < from + n → get_or (closed_up from n g cells) i 0x20 ≡ get_or (closing from n g cells) (i - from) 0x20
  closed_at i p q = ap (λ (x : List ℕ). get_or x i 0x20) (sym closed-pasted) ∙ pasted_at from n (closing from n g cells) cells fits length-closing i p q

  pub closed-kept : (i j : ℕ) → from ≤ i → j < from + n → j ≡ i + g → get_or (closed_up from n g cells) i 0x20 ≡ get_or cells j 0x20
  closed-kept i j p q e =
      let there : from + g + (i - from) ≡ j = omega arith in
      closed_at i p (omega arith)
      ∙ get_or-left (take (n - g) (drop (from + g) cells)) (replicate g 0x20) (n - g) (i - from) kept-closing (omega arith)
      ∙ get_or-take (n - g) (drop (from + g) cells) (i - from) 0x20 (omega arith)
      ∙ get_or-drop (from + g) cells (i - from) 0x20
      ∙ ap (λ (k : ℕ). get_or cells k 0x20) there

  pub closed-blank : (i : ℕ) → from + n ≤ i + g → i < from + n → get_or (closed_up from n g cells) i 0x20 ≡ 0x20
  closed-blank i p q =
      closed_at i (omega arith) q
      ∙ get_or_right (take (n - g) (drop (from + g) cells)) (replicate g 0x20) (n - g) (i - from) kept-closing (omega arith)
      ∙ get_or-replicate g (i - from - (n - g)) 0x20 0x20 (omega arith)

  -- Opened up, a cell is the one g before it, and the first g are blank.
  opened-at : (i : ℕ) → from ≤ i → i < from + n → get_or (opened_up from n g cells) i 0x20 ≡ get_or (opening from n g cells) (i - from) 0x20
  opened-at i p q = ap (λ (x : List ℕ). get_or x i 0x20) (sym opened-pasted) ∙ pasted_at from n (opening from n g cells) cells fits length-opening i p q

  pub opened-kept : (i j : ℕ) → from ≤ j → i < from + n → i ≡ j + g → get_or (opened_up from n g cells) i 0x20 ≡ get_or cells j 0x20
  opened-kept i j p q e =
      let there : from + (i - from - g) ≡ j = omega arith in
      opened-at i (omega arith) q
      ∙ get_or_right (replicate g 0x20) (take (n - g) (drop from cells)) g (i - from) (length-replicate g 0x20) (omega arith)
      ∙ get_or-take (n - g) (drop from cells) (i - from - g) 0x20 (omega arith)
      ∙ get_or-drop from cells (i - from - g) 0x20
      ∙ ap (λ (k : ℕ). get_or cells k 0x20) there

  pub opened-blank : (i : ℕ) → from ≤ i → i < from + g → get_or (opened_up from n g cells) i 0x20 ≡ 0x20
  opened-blank i p q =
      opened-at i p (omega arith)
      ∙ get_or-left (replicate g 0x20) (take (n - g) (drop from cells)) g (i - from) (length-replicate g 0x20) (omega arith)
      ∙ get_or-replicate g (i - from) 0x20 0x20 (omega arith)

pub length-erased : (from n : ℕ) (cells : List ℕ) → from + n ≤ length cells → length (erased from n cells) ≡ length cells
length-erased from n cells fits = (apart_erased from n cells fits).same_length

pub length_closed : (from n g : ℕ) (cells : List ℕ) → from + n ≤ length cells → g ≤ n → length (closed_up from n g cells) ≡ length cells
length_closed from n g cells fits gap = (apart-closed from n g cells fits gap).same_length

pub length_opened : (from n g : ℕ) (cells : List ℕ) → from + n ≤ length cells → g ≤ n → length (opened_up from n g cells) ≡ length cells
length_opened from n g cells fits gap = (apart-opened from n g cells fits gap).same_length

apart_set : (i b : ℕ) (cells : List ℕ) → Apart i (i + 1) cells (set cells i b)
apart_set i b cells =
    record {
      same_length = length-set cells i b;
      before = λ j (l : j < i). get_or-set_other cells i j b 0x20 (λ (e : j ≡ i). omega arith);
      behind = drop-set-lt (i + 1) cells i b (omega arith);
    }

-- Only the unprotected lines change.
abbrev Within : Screen → List ℕ → List ℕ → Type 0
Within s cells after = Apart (80 * first_line s) (80 * (last_line s + 1)) cells after

-- A screen whose cursor is on the unprotected lines, and memory for its cells.
module _ (s : Screen) (cells : List ℕ) (on : On s) (room : 1920 ≤ length cells) where
  low : first_line s ≤ 1
  low = first_low s.top

  high : last_line s ≤ 23
  high = last_low s.bottom

  many : 22 ≤ last_line s
  many = last_high s.bottom

  below : first_line s ≤ s.row
  below = on.below_top

  above : s.row ≤ last_line s
  above = on.above_bottom

  inside : s.column < 80
  inside = on.within

  ruleset lines = (arith, low, high, many, below, above, inside)

  wide : (from n : ℕ) {after : List ℕ}
      → 80 * first_line s ≤ from → from + n ≤ 80 * (last_line s + 1) → Apart from (from + n) cells after → Within s cells after
  wide from n {after} p q a = apart_wider from (from + n) (80 * first_line s) (80 * (last_line s + 1)) cells after p q a

  within-erased : (from n : ℕ) → 80 * first_line s ≤ from → from + n ≤ 80 * (last_line s + 1) → Within s cells (erased from n cells)
  within-erased from n p q = wide from n p q (apart_erased from n cells (omega lines))

  within-closed : (from n g : ℕ) → g ≤ n → 80 * first_line s ≤ from → from + n ≤ 80 * (last_line s + 1) → Within s cells (closed_up from n g cells)
  within-closed from n g gap p q = wide from n p q (apart-closed from n g cells (omega lines) gap)

  within-opened : (from n g : ℕ) → g ≤ n → 80 * first_line s ≤ from → from + n ≤ 80 * (last_line s + 1) → Within s cells (opened_up from n g cells)
  within-opened from n g gap p q = wide from n p q (apart-opened from n g cells (omega lines) gap)

  within-up : Within s cells (scrolled_up s cells)
  within-up = within-closed (80 * first_line s) (80 * lines_of s) 80 (omega lines) (omega lines) (omega lines)

  within-down : Within s cells (scrolled_down s cells)
  within-down = within-opened (80 * first_line s) (80 * lines_of s) 80 (omega lines) (omega lines) (omega lines)

  within-inserted : Within s cells (inserted s cells)
  within-inserted = within-opened (cursor s) (to_line_end s) 1 (omega lines) (omega lines) (omega lines)

  within-deleted : Within s cells (deleted s cells)
  within-deleted = within-closed (cursor s) (to_line_end s) 1 (omega lines) (omega lines) (omega lines)

  within-line-inserted : Within s cells (line_inserted s cells)
  within-line-inserted = within-opened (80 * s.row) (lines_down s) 80 (omega lines) (omega lines) (omega lines)

  within-line-deleted : Within s cells (line_deleted s cells)
  within-line-deleted = within-closed (80 * s.row) (lines_down s) 80 (omega lines) (omega lines) (omega lines)

  within-line-erased : Within s cells (line_erased s cells)
  within-line-erased = within-erased (cursor s) (to_line_end s) (omega lines) (omega lines)

  within-page-erased : Within s cells (page_erased s cells)
  within-page-erased = within-erased (cursor s) (to_page_end s) (omega lines) (omega lines)

  within_none : Within s cells cells
  within_none = apart_none (80 * first_line s) (80 * (last_line s + 1)) cells

  within-fed : Within s cells (fed_cells s cells)
  within-fed =
      by_test (Within s cells) (ltb s.row (last_line s)) _ _ (λ l. within_none)
      (λ l. by_test (Within s cells) s.scrolls _ _ (λ m. within-up) (λ m. within_none))

  within-upped : Within s cells (up_cells s cells)
  within-upped =
      by_test (Within s cells) (ltb (first_line s) s.row) _ _ (λ l. within_none)
      (λ l. by_test (Within s cells) s.scrolls _ _ (λ m. within-down) (λ m. within_none))

  within-set : (b : ℕ) → Within s cells (set cells (cursor s) b)
  within-set b = wide (cursor s) 1 (omega lines) (omega lines) (apart_set (cursor s) b cells)

-- A byte changes nothing outside them.
module _ (s : Screen) (cells : List ℕ) (on : On s) (room : 1920 ≤ length cells) where
  within-character : (b : ℕ) → Within s cells (character_cells s b cells)
  within-character b =
      let one : Within s cells (set cells (cursor s) b) = within-set s cells on room b in
      let l : length (set cells (cursor s) b) ≡ length cells = one.same_length in
      by_test (Within s cells) (ltb s.column 79) _ _ (λ t. one)
      (λ t. by_test (Within s cells) s.wraps _ _
      (λ w. apart_twice _ _ cells (set cells (cursor s) b) _ one (within-fed s (set cells (cursor s) b) on (omega arith)))
      (λ w. one))

  within-controlled : (b : ℕ) → Within s cells (controlled_cells s b cells)
  within-controlled b =
      by_test (Within s cells) (eqb b 0x0A) _ _ (λ e. within-fed s cells on room)
      (λ e. by_test (Within s cells) (eqb b 0x0B) _ _ (λ e. within-upped s cells on room)
      (λ e. by_test (Within s cells) (eqb b 0x1F) _ _ (λ e. within-page-erased (homed s) cells (on_homed s on) room) (λ e. within_none s cells on room)))

  within-commanded : (b : ℕ) → Within s cells (commanded_cells s b cells)
  within-commanded b =
      by_test (Within s cells) (eqb b 0x51) _ _ (λ e. within-inserted s cells on room)
      (λ e. by_test (Within s cells) (eqb b 0x57) _ _ (λ e. within-deleted s cells on room)
      (λ e. by_test (Within s cells) (eqb b 0x45) _ _ (λ e. within-line-inserted s cells on room)
      (λ e. by_test (Within s cells) (eqb b 0x52) _ _ (λ e. within-line-deleted s cells on room)
      (λ e. by_test (Within s cells) (eqb b 0x54) _ _ (λ e. within-line-erased s cells on room)
      (λ e. by_test (Within s cells) (eqb b 0x59) _ _ (λ e. within-page-erased s cells on room) (λ e. within_none s cells on room))))))

  within-byte : (q : Sequence) (b : ℕ) → Within s cells (cells_with_in q s b cells)
  within-byte Plain b = by_test (Within s cells) (ltb b 0x20) _ _ (λ t. within-controlled b) (λ t. within-character b)
  within-byte Escape b = within-commanded b
  within-byte Row b = within_none s cells on room
  within-byte (Column row) b = within_none s cells on room
  within-byte (Skips n) b = within_none s cells on room

pub length_with_lem : (s : Screen) (b : ℕ) (cells : List ℕ) → On s → 1920 ≤ length cells → length (cells_with s b cells) ≡ length cells
length_with_lem s b cells on room = (within-byte s cells on room s.sequence b).same_length

-- A row that is not among those of a stretch of lines.
other_lines : (top last : ℕ) (cells after : List ℕ) → Apart (80 * top) (80 * (last + 1)) cells after
    → (r c : ℕ) → c < 80 → (leb top r && leb r last) ≡ false → cell after r c ≡ cell cells r c
other_lines top last cells after a r c l e =
    not_both (leb top r) (leb r last) e
    (λ t. let over : r < top = leb-false top r t in a.before (80 * r + c) (omega arith))
    (λ t u. let under : last < r = leb-false r last u in apart_behind _ _ cells after a (80 * r + c) (omega arith))

apart_rest : (from to : ℕ) (cells after : List ℕ) → to ≤ 1920 → Apart from to cells after → KeepsRest cells after
apart_rest from to cells after l a = (a.same_length, (apart_wider from to 0 1920 cells after (omega arith) l a).behind)

keeps_rest : (s : Screen) (cells after : List ℕ) → Within s cells after → KeepsRest cells after
keeps_rest s cells after a =
    let high : last_line s ≤ 23 = last_low s.bottom in
    apart_rest (80 * first_line s) (80 * (last_line s + 1)) cells after (omega arith) a

pub guards : Guards
guards s b cells on room =
    let a = within-byte s cells on room s.sequence b in
    (λ r c h l e. other_lines (first_line s) (last_line s) cells (cells_with s b cells) a r c l e, keeps_rest s cells (cells_with s b cells) a)

-- By row and column: lines closed up and opened up, from one to the last unprotected.
module _ (s : Screen) (cells : List ℕ) (room : 1920 ≤ length cells) (top : ℕ) (down : top ≤ last_line s) where
  bottom : last_line s ≤ 23
  bottom = last_low s.bottom

  others : (after : List ℕ) → Apart (80 * top) (80 * top + 80 * (last_line s + 1 - top)) cells after
      → (r c : ℕ) → c < 80 → (leb top r && leb r (last_line s)) ≡ false → cell after r c ≡ cell cells r c
  others after a = other_lines top (last_line s) cells after (apart_wider _ _ _ _ cells after (omega arith) (omega arith) a)

  lines-closed : (r c : ℕ) → c < 80
      → cell (closed_up (80 * top) (80 * (last_line s + 1 - top)) 80 cells) r c
      ≡ cond (leb top r && leb r (last_line s)) (cond (eqb r (last_line s)) 0x20 (cell cells (r + 1) c)) (cell cells r c)
  lines-closed r c l =
      let n = 80 * (last_line s + 1 - top) in
      let fits : 80 * top + n ≤ length cells = omega (arith, bottom) in
      let gap : 80 ≤ n = omega arith in
      let Is : ℕ → Type 0 = λ x. cell (closed_up (80 * top) n 80 cells) r c ≡ x in
      by_test Is (leb top r && leb r (last_line s)) _ _
      (λ t.
      let after : top ≤ r = leb-true top r (both_left (leb top r) _ t) in
      let before : r ≤ last_line s = leb-true r (last_line s) (both_right (leb top r) _ t) in
      by_test Is (eqb r (last_line s)) _ _
      (λ e. let last : r ≡ last_line s = eqb-true r (last_line s) e in closed-blank (80 * top) n 80 cells fits gap (80 * r + c) (omega arith) (omega arith))
      (λ e.
      let other : r ≡ last_line s → ⊥ = eqb-false r (last_line s) e in
      closed-kept (80 * top) n 80 cells fits gap (80 * r + c) (80 * (r + 1) + c) (omega arith) (omega arith) (omega arith)))
      (λ t. others _ (apart-closed (80 * top) n 80 cells fits gap) r c l t)

  lines-opened : (r c : ℕ) → c < 80
      → cell (opened_up (80 * top) (80 * (last_line s + 1 - top)) 80 cells) r c
      ≡ cond (leb top r && leb r (last_line s)) (cond (eqb r top) 0x20 (cell cells (r - 1) c)) (cell cells r c)
  lines-opened r c l =
      let n = 80 * (last_line s + 1 - top) in
      let fits : 80 * top + n ≤ length cells = omega (arith, bottom) in
      let gap : 80 ≤ n = omega arith in
      let Is : ℕ → Type 0 = λ x. cell (opened_up (80 * top) n 80 cells) r c ≡ x in
      by_test Is (leb top r && leb r (last_line s)) _ _
      (λ t.
      let after : top ≤ r = leb-true top r (both_left (leb top r) _ t) in
      let before : r ≤ last_line s = leb-true r (last_line s) (both_right (leb top r) _ t) in
      by_test Is (eqb r top) _ _
      (λ e. let first : r ≡ top = eqb-true r top e in opened-blank (80 * top) n 80 cells fits gap (80 * r + c) (omega arith) (omega arith))
      (λ e.
      let other : r ≡ top → ⊥ = eqb-false r top e in
      opened-kept (80 * top) n 80 cells fits gap (80 * r + c) (80 * (r - 1) + c) (omega arith) (omega arith) (omega arith)))
      (λ t. others _ (apart-opened (80 * top) n 80 cells fits gap) r c l t)

-- The first unprotected line is no lower than the last.
first-last : (s : Screen) → first_line s ≤ last_line s
first-last s = let low = first_low s.top in let many = last_high s.bottom in omega arith

pub scrolls_up : ScrollsUp
scrolls_up s cells on room =
    (λ r c h l. lines-closed s cells room (first_line s) (first-last s) r c l, keeps_rest s cells _ (within-up s cells on room))

pub scrolls_down : ScrollsDown
scrolls_down s cells on room =
    (λ r c h l. lines-opened s cells room (first_line s) (first-last s) r c l, keeps_rest s cells _ (within-down s cells on room))

pub inserts_line : InsertsLine
inserts_line s cells on room =
    (λ r c h l. lines-opened s cells room s.row on.above_bottom r c l, keeps_rest s cells _ (within-line-inserted s cells on room))

pub deletes_line : DeletesLine
deletes_line s cells on room =
    (λ r c h l. lines-closed s cells room s.row on.above_bottom r c l, keeps_rest s cells _ (within-line-deleted s cells on room))

-- By row and column: what changes from the cursor on, in its line and to the end of the page.
module _ (s : Screen) (cells : List ℕ) (on : On s) (room : 1920 ≤ length cells) (r c : ℕ) (l : c < 80) where
  ground : s.row ≤ 23
  ground = let high = last_low s.bottom in let above = on.above_bottom in omega arith

  inline : s.column < 80
  inline = on.within

  lineFits : cursor s + to_line_end s ≤ length cells
  lineFits = omega (arith, ground, inline)

  one : 1 ≤ to_line_end s
  one = omega (arith, inline)

  here-row : is_here s r c ≡ true → r ≡ s.row
  here-row t = eqb-true r s.row (both_left (eqb r s.row) _ t)

  here-column : is_here s r c ≡ true → s.column ≤ c
  here-column t = leb-true s.column c (both_right (eqb r s.row) _ t)

  elsewhere : (after : List ℕ) → Apart (cursor s) (cursor s + to_line_end s) cells after → is_here s r c ≡ false → cell after r c ≡ cell cells r c
  elsewhere after a e =
      let in_line = inline in
      not_both (eqb r s.row) (leb s.column c) e
      (λ t.
      let other : r ≡ s.row → ⊥ = eqb-false r s.row t in
      by_test (λ (x : ℕ). cell after r c ≡ cell cells r c) (ltb r s.row) 0 0
      (λ u. let over : r < s.row = ltb-true r s.row u in a.before (80 * r + c) (omega arith))
      (λ u. let under : s.row ≤ r = ltb-false r s.row u in apart_behind _ _ cells after a (80 * r + c) (omega arith)))
      (λ t u.
      let same : r ≡ s.row = eqb-true r s.row t in
      let left : c < s.column = leb-false s.column c u in
      a.before (80 * r + c) (omega arith))

  inserted-cell : cell (inserted s cells) r c ≡ cond (is_here s r c) (cond (eqb c s.column) 0x20 (cell cells r (c - 1))) (cell cells r c)
  inserted-cell =
      let Is : ℕ → Type 0 = λ x. cell (inserted s cells) r c ≡ x in
      by_test Is (is_here s r c) _ _
      (λ t.
      let same = here-row t in
      let right = here-column t in
      by_test Is (eqb c s.column) _ _
      (λ e. let first = eqb-true c s.column e in opened-blank (cursor s) (to_line_end s) 1 cells lineFits one (80 * r + c) (omega arith) (omega arith))
      (λ e.
      let other : c ≡ s.column → ⊥ = eqb-false c s.column e in
      opened-kept (cursor s) (to_line_end s) 1 cells lineFits one (80 * r + c) (80 * r + (c - 1)) (omega arith) (omega arith) (omega arith)))
      (λ t. elsewhere _ (apart-opened (cursor s) (to_line_end s) 1 cells lineFits one) t)

  deleted-cell : cell (deleted s cells) r c ≡ cond (is_here s r c) (cond (eqb c 79) 0x20 (cell cells r (c + 1))) (cell cells r c)
  deleted-cell =
      let Is : ℕ → Type 0 = λ x. cell (deleted s cells) r c ≡ x in
      by_test Is (is_here s r c) _ _
      (λ t.
      let same = here-row t in
      let right = here-column t in
      by_test Is (eqb c 79) _ _
      (λ e. let last = eqb-true c 79 e in closed-blank (cursor s) (to_line_end s) 1 cells lineFits one (80 * r + c) (omega arith) (omega arith))
      (λ e.
      let other : c ≡ 79 → ⊥ = eqb-false c 79 e in
      closed-kept (cursor s) (to_line_end s) 1 cells lineFits one (80 * r + c) (80 * r + (c + 1)) (omega arith) (omega arith) (omega arith)))
      (λ t. elsewhere _ (apart-closed (cursor s) (to_line_end s) 1 cells lineFits one) t)

  line-erased-cell : cell (line_erased s cells) r c ≡ cond (is_here s r c) 0x20 (cell cells r c)
  line-erased-cell =
      by_test (λ (x : ℕ). cell (line_erased s cells) r c ≡ x) (is_here s r c) _ _
      (λ t.
      let same = here-row t in
      let right = here-column t in
      erased-blank (cursor s) (to_line_end s) cells lineFits (80 * r + c) (omega arith) (omega arith))
      (λ t. elsewhere _ (apart_erased (cursor s) (to_line_end s) cells lineFits) t)

  pageFits : cursor s + to_page_end s ≤ length cells
  pageFits = let high = last_low s.bottom in let above = on.above_bottom in omega (arith, inline)

  page-erased-cell : cell (page_erased s cells) r c ≡ cond (is_here s r c) 0x20 (cond (ltb s.row r && leb r (last_line s)) 0x20 (cell cells r c))
  page-erased-cell =
      let Is : ℕ → Type 0 = λ x. cell (page_erased s cells) r c ≡ x in
      let above = on.above_bottom in
      let in_line = inline in
      let a = apart_erased (cursor s) (to_page_end s) cells pageFits in
      by_test Is (is_here s r c) _ _
      (λ t.
      let same = here-row t in
      let right = here-column t in
      erased-blank (cursor s) (to_page_end s) cells pageFits (80 * r + c) (omega arith) (omega arith))
      (λ t. by_test Is (ltb s.row r && leb r (last_line s)) _ _
      (λ u.
      let under : s.row < r = ltb-true s.row r (both_left (ltb s.row r) _ u) in
      let unprotected : r ≤ last_line s = leb-true r (last_line s) (both_right (ltb s.row r) _ u) in
      erased-blank (cursor s) (to_page_end s) cells pageFits (80 * r + c) (omega arith) (omega arith))
      (λ u. not_both (ltb s.row r) (leb r (last_line s)) u
      (λ v.
      let over : r ≤ s.row = ltb-false s.row r v in
      a.before (80 * r + c) (not_both (eqb r s.row) (leb s.column c) t
      (λ w. let other : r ≡ s.row → ⊥ = eqb-false r s.row w in omega arith)
      (λ w x. let left : c < s.column = leb-false s.column c x in omega arith)))
      (λ v w. let low : last_line s < r = leb-false r (last_line s) w in apart_behind _ _ cells _ a (80 * r + c) (omega arith))))

pub inserts : Inserts
inserts s cells on room = (λ r c h l. inserted-cell s cells on room r c l, keeps_rest s cells _ (within-inserted s cells on room))

pub deletes : Deletes
deletes s cells on room = (λ r c h l. deleted-cell s cells on room r c l, keeps_rest s cells _ (within-deleted s cells on room))

pub erases_line : ErasesLine
erases_line s cells on room = (λ r c h l. line-erased-cell s cells on room r c l, keeps_rest s cells _ (within-line-erased s cells on room))

pub erases_page : ErasesPage
erases_page s cells on room = (λ r c h l. page-erased-cell s cells on room r c l, keeps_rest s cells _ (within-page-erased s cells on room))

pub erases_all : ErasesAll
erases_all s cells on room =
    let high : last_line s ≤ 23 = last_low s.bottom in
    let a = within-page-erased (homed s) cells (on_homed s on) room in (
      λ r c h l. by_test (λ (x : ℕ). cell (page_erased (homed s) cells) r c ≡ x) (is_open s r) _ _
          (λ t.
          let after : first_line s ≤ r = leb-true (first_line s) r (both_left (leb (first_line s) r) _ t) in
          let before : r ≤ last_line s = leb-true r (last_line s) (both_right (leb (first_line s) r) _ t) in
          erased-blank (cursor (homed s)) (to_page_end (homed s)) cells (pageFits (homed s) cells (on_homed s on) room r c l) (80 * r + c) (omega arith) (omega arith))
          (λ t. other_lines (first_line s) (last_line s) cells _ a r c l t),
      keeps_rest s cells _ a,
    )

pub clears : Clears
clears cells =
    let test = leb 1920 (length cells) in (
      λ room. subst (λ (x : List ℕ). Becomes cells x (λ (r c : ℕ). 0x20)) (sym (passes test (erased 0 1920 cells) cells (le-leb 1920 (length cells) room))) (
        λ r c h l. erased-blank 0 1920 cells room (80 * r + c) (omega arith) (omega arith),
        apart_rest 0 1920 cells _ (omega arith) (apart_erased 0 1920 cells room),
      ),
      λ short. fails test (erased 0 1920 cells) cells (lt-leb 1920 (length cells) short),
    )

-- A character: at the cursor, and what scrolls.
module _ (s : Screen) (b : ℕ) (cells : List ℕ) (on : On s) (room : 1920 ≤ length cells) where
  cursorFits : cursor s < length cells
  cursorFits = let high = last_low s.bottom in let above = on.above_bottom in let within = on.within in omega arith

  written-cell : (r c : ℕ) → c < 80 → cell (set cells (cursor s) b) r c ≡ written s b cells r c
  written-cell r c l =
      let within = on.within in
      let Is : ℕ → Type 0 = λ x. cell (set cells (cursor s) b) r c ≡ x in
      by_test Is (eqb r s.row && eqb c s.column) _ _
      (λ t.
      let row = eqb-true r s.row (both_left (eqb r s.row) _ t) in
      let column = eqb-true c s.column (both_right (eqb r s.row) _ t) in
      let there : 80 * r + c ≡ cursor s = omega arith in
      ap (λ (i : ℕ). get_or (set cells (cursor s) b) i 0x20) there ∙ get_or-set_same cells (cursor s) b 0x20 cursorFits)
      (λ t. get_or-set_other cells (cursor s) (80 * r + c) b 0x20 (λ (e : 80 * r + c ≡ cursor s).
      not_both (eqb r s.row) (eqb c s.column) t
      (λ u. let other : r ≡ s.row → ⊥ = eqb-false r s.row u in omega arith)
      (λ u v. let row = eqb-true r s.row u in let other : c ≡ s.column → ⊥ = eqb-false c s.column v in omega arith)))

  scrolled-cell : (r c : ℕ) → r < 24 → c < 80 → cell (scrolled_up s (set cells (cursor s) b)) r c ≡ up s (written s b cells) r c
  scrolled-cell r c h l =
      let same : length (set cells (cursor s) b) ≡ length cells = length-set cells (cursor s) b in
      (scrolls_up s (set cells (cursor s) b) on (omega arith)).0 r c h l
      ∙ ap (λ (x : ℕ). cond (is_open s r) (cond (eqb r (last_line s)) 0x20 x) (cell (set cells (cursor s) b) r c)) (written-cell (r + 1) c l)
      ∙ ap (λ (x : ℕ). cond (is_open s r) (cond (eqb r (last_line s)) 0x20 (written s b cells (r + 1) c)) x) (written-cell r c l)

  character-cell : (r c : ℕ) → r < 24 → c < 80
      → cell (character_cells s b cells) r c ≡ cond (character_scrolls s) (up s (written s b cells) r c) (written s b cells r c)
  character-cell r c h l =
      let within = on.within in
      let above = on.above_bottom in
      let Is : List ℕ → Type 0 = λ x. cell x r c ≡ cond (character_scrolls s) (up s (written s b cells) r c) (written s b cells r c) in
      let stands : character_scrolls s ≡ false → Is (set cells (cursor s) b) = λ e. written-cell r c l ∙ sym (fails (character_scrolls s) _ _ e) in
      by_test Is (ltb s.column 79) _ _
      (λ t. let left = ltb-true s.column 79 t in stands (neither_left (eqb s.column 79) _ (ne_eqb s.column 79 (λ (e : s.column ≡ 79). omega arith))))
      (λ t.
      let end = ltb-false s.column 79 t in
      by_test Is s.wraps _ _
      (λ w. by_test Is (ltb s.row (last_line s)) _ _
      (λ u.
      let before = ltb-true s.row (last_line s) u in
      stands (neither_right (eqb s.column 79) _ (neither_right s.wraps _ (neither_left (eqb s.row (last_line s)) _
      (ne_eqb s.row (last_line s) (λ (e : s.row ≡ last_line s). omega arith))))))
      (λ u.
      let last = ltb-false s.row (last_line s) u in
      by_test Is s.scrolls _ _
      (λ m. scrolled-cell r c h l ∙ sym (passes (character_scrolls s) _ _
      (both (eqb s.column 79) _ (eq-eqb s.column 79 (omega arith))
      (both s.wraps _ w (both (eqb s.row (last_line s)) _ (eq-eqb s.row (last_line s) (omega arith)) m)))))
      (λ m. stands (neither_right (eqb s.column 79) _ (neither_right s.wraps _ (neither_right (eqb s.row (last_line s)) _ m))))))
      (λ w. stands (neither_right (eqb s.column 79) _ (neither_left s.wraps _ w))))

pub writes : Writes
writes b s cells on room = (character-cell s b cells on room, keeps_rest s cells _ (within-character s cells on room b))

-- What changes no cell.
keeps_in : (q : Sequence) (s : Screen) (b : ℕ) (cells : List ℕ) → may_change q b ≡ false → cells_with_in q s b cells ≡ cells
keeps_in Plain s b cells e =
    neither (leb 0x20 b) _ e (λ n e. passes (ltb b 0x20) _ _ (lt-ltb b 0x20 (leb-false 0x20 b n))
    ∙ fails_first (eqb b 0x0A) _ _ _ _ e (λ e. fails_first (eqb b 0x0B) _ _ _ _ e (λ e. fails (eqb b 0x1F) _ _ e)))
keeps_in Escape s b cells e =
    fails_first (eqb b 0x51) _ _ _ _ e
    (λ e. fails_first (eqb b 0x57) _ _ _ _ e
    (λ e. fails_first (eqb b 0x45) _ _ _ _ e
    (λ e. fails_first (eqb b 0x52) _ _ _ _ e
    (λ e. fails_first (eqb b 0x54) _ _ _ _ e
    (λ e. fails (eqb b 0x59) _ _ e)))))
keeps_in Row s b cells e = refl
keeps_in (Column row) s b cells e = refl
keeps_in (Skips n) s b cells e = refl

pub keeps : Keeps
keeps s b cells e = keeps_in s.sequence s b cells e

-- A text: the cursor stays on the unprotected lines, the memory keeps its length.
pub text_on : (s : Screen) (text : List ℕ) → On s → On (with_text s text)
text_on s [] on = on
text_on s (b ∷ bs) on = text_on (with_byte s b) bs (stays s b on)

length-drawn : (s : Screen) (text cells : List ℕ) → On s → 1920 ≤ length cells → length (drawn s text cells) ≡ length cells
length-drawn s [] cells on room = refl
length-drawn s (b ∷ bs) cells on room =
    let l : length (cells_with s b cells) ≡ length cells = length_with_lem s b cells on room in
    length-drawn (with_byte s b) bs (cells_with s b cells) (stays s b on) (omega arith) ∙ l

-- Where cells are drawn.
pub drawn_on : (s : Screen) (cells : List ℕ) → is_drawn s cells ≡ true → On s
drawn_on s cells e = on_by s (both_left (is_on s) (leb 1920 (length cells)) e)

pub drawn-room : (s : Screen) (cells : List ℕ) → is_drawn s cells ≡ true → 1920 ≤ length cells
drawn-room s cells e = leb-true 1920 (length cells) (both_right (is_on s) (leb 1920 (length cells)) e)

pub length-after : (s : Screen) (text cells : List ℕ) → length (cells_after s text cells) ≡ length cells
length-after s text cells =
    by_test (λ (x : List ℕ). length x ≡ length cells) (is_drawn s cells) _ _
    (λ e. length-drawn s text cells (drawn_on s cells e) (drawn-room s cells e))
    (λ e. refl)

pub length-cleared : (cells : List ℕ) → length (cleared cells) ≡ length cells
length-cleared cells =
    by_test (λ (x : List ℕ). length x ≡ length cells) (leb 1920 (length cells)) _ _
    (λ e. length-erased 0 1920 cells (leb-true 1920 (length cells) e))
    (λ e. refl)

-- A text in two: the state, and the cells where they are drawn and where memory is too short for them.
text_cut : (s : Screen) (a b : List ℕ) → with_text (with_text s a) b ≡ with_text s (a ++ b)
text_cut s [] b = refl
text_cut s (x ∷ xs) b = text_cut (with_byte s x) xs b

drawn-cut : (s : Screen) (a b cells : List ℕ) → drawn (with_text s a) b (drawn s a cells) ≡ drawn s (a ++ b) cells
drawn-cut s [] b cells = refl
drawn-cut s (x ∷ xs) b cells = drawn-cut (with_byte s x) xs b (cells_with s x cells)

after-drawn : (s : Screen) (text cells : List ℕ) → On s → 1920 ≤ length cells → cells_after s text cells ≡ drawn s text cells
after-drawn s text cells on room =
    let e : is_drawn s cells ≡ true = both (is_on s) (leb 1920 (length cells)) (by_on s on) (le-leb 1920 (length cells) room) in
    ap (λ (t : Bool). cond t (drawn s text cells) cells) e

after_short : (s : Screen) (text cells : List ℕ) → length cells < 1920 → cells_after s text cells ≡ cells
after_short s text cells short =
    let e : is_drawn s cells ≡ false = neither_right (is_on s) (leb 1920 (length cells)) (lt-leb 1920 (length cells) short) in
    ap (λ (t : Bool). cond t (drawn s text cells) cells) e

cells_cut : (s : Screen) (a b cells : List ℕ) → On s → (t : Bool) → leb 1920 (length cells) ≡ t
    → cells_after (with_text s a) b (cells_after s a cells) ≡ cells_after s (a ++ b) cells
cells_cut s a b cells on true e =
    let room : 1920 ≤ length cells = leb-true 1920 (length cells) e in
    let l : length (drawn s a cells) ≡ length cells = length-drawn s a cells on room in
    ap (cells_after (with_text s a) b) (after-drawn s a cells on room)
    ∙ after-drawn (with_text s a) b (drawn s a cells) (text_on s a on) (omega arith)
    ∙ drawn-cut s a b cells
    ∙ sym (after-drawn s (a ++ b) cells on room)
cells_cut s a b cells on false e =
    let short : length cells < 1920 = leb-false 1920 (length cells) e in
    ap (cells_after (with_text s a) b) (after_short s a cells short) ∙ after_short (with_text s a) b cells short ∙ sym (after_short s (a ++ b) cells short)

pub cut : Cut
cut s a b cells on = (text_cut s a b, cells_cut s a b cells on (leb 1920 (length cells)) refl)

-- Characters in the cursor's line.
module _ (s : Screen) (b : ℕ) (e : s.sequence ≡ Plain) (character : 0x20 ≤ b) (l : s.column < 79) where
  character-advances : with_byte s b ≡ at s s.row (s.column + 1)
  character-advances =
      ap (λ (q : Sequence). with_byte_in q s b) e
      ∙ fails (ltb b 0x20) (controlled s b) (advanced s) (le-ltb b 0x20 character)
      ∙ passes (ltb s.column 79) _ _ (lt-ltb s.column 79 l)

  character-stands : (cells : List ℕ) → cells_with s b cells ≡ set cells (cursor s) b
  character-stands cells =
      ap (λ (q : Sequence). cells_with_in q s b cells) e
      ∙ fails (ltb b 0x20) (controlled_cells s b cells) (character_cells s b cells) (le-ltb b 0x20 character)
      ∙ passes (ltb s.column 79) _ _ (lt-ltb s.column 79 l)

text_advances : (s : Screen) (text : List ℕ) → s.sequence ≡ Plain → Characters text → s.column + length text ≤ 79
    → with_text s text ≡ at s s.row (s.column + length text)
text_advances s [] e p l = let none : s.column ≡ s.column + 0 = omega arith in ap (at s s.row) none
text_advances s (b ∷ bs) e p l =
    let more : s.column + 1 + length bs ≡ s.column + suc (length bs) = omega arith in
    ap (λ (x : Screen). with_text x bs) (character-advances s b e (p 0) (omega arith))
    ∙ text_advances (at s s.row (s.column + 1)) bs e (λ i. p (suc i)) (omega arith)
    ∙ ap (at s s.row) more

text_stands : (s : Screen) (text cells : List ℕ) → s.sequence ≡ Plain → Characters text → s.column + length text ≤ 79
    → drawn s text cells ≡ sets cells (cursor s) text
text_stands s [] cells e p l = refl
text_stands s (b ∷ bs) cells e p l =
    let next : 80 * s.row + (s.column + 1) ≡ suc (cursor s) = omega arith in
    ap (λ (x : Screen). drawn x bs (cells_with s b cells)) (character-advances s b e (p 0) (omega arith))
    ∙ ap (drawn (at s s.row (s.column + 1)) bs) (character-stands s b e (p 0) (omega arith) cells)
    ∙ text_stands (at s s.row (s.column + 1)) bs (set cells (cursor s) b) e (λ i. p (suc i)) (omega arith)
    ∙ ap (λ (i : ℕ). sets (set cells (cursor s) b) i bs) next

module _ (s : Screen) (text cells : List ℕ) (on : On s) (room : 1920 ≤ length cells) (e : s.sequence ≡ Plain) (p : Characters text)
    (l : s.column + length text ≤ 79) where
  textFits : cursor s + length text ≤ 1920
  textFits = let high = last_low s.bottom in let above = on.above_bottom in omega arith

  shown : pasted (cursor s) (length text) text cells ≡ cells_after s text cells
  shown =
      let fits = textFits in
      sym (append_assoc (take (cursor s) cells) text (drop (cursor s + length text) cells))
      ∙ sym (sets-eq text cells (cursor s) (omega arith))
      ∙ sym (text_stands s text cells e p l)
      ∙ sym (after-drawn s text cells on room)

  apart-shown : Apart (cursor s) (cursor s + length text) cells (cells_after s text cells)
  apart-shown =
      let fits = textFits in
      subst (Apart (cursor s) (cursor s + length text) cells) shown (apart-pasted (cursor s) (length text) text cells (omega arith) refl)

  shown-cell : (r c : ℕ) → c < 80 → cell (cells_after s text cells) r c
      ≡ cond (is_here s r c && ltb c (s.column + length text)) (get_or text (c - s.column) 0x20) (cell cells r c)
  shown-cell r c m =
      let fits = textFits in
      by_test (λ (x : ℕ). cell (cells_after s text cells) r c ≡ x) (is_here s r c && ltb c (s.column + length text)) _ _
      (λ t.
      let row = here-row s cells on room r c m (both_left (is_here s r c) _ t) in
      let right = here-column s cells on room r c m (both_left (is_here s r c) _ t) in
      let before = ltb-true c (s.column + length text) (both_right (is_here s r c) _ t) in
      let there : 80 * r + c - cursor s ≡ c - s.column = omega arith in
      ap (λ (x : List ℕ). cell x r c) (sym shown)
      ∙ pasted_at (cursor s) (length text) text cells (omega arith) refl (80 * r + c) (omega arith) (omega arith)
      ∙ ap (λ (i : ℕ). get_or text i 0x20) there)
      (λ t. not_both (is_here s r c) (ltb c (s.column + length text)) t
      (λ u. elsewhere s cells on room r c m _ (apart_wider _ _ (cursor s) (cursor s + to_line_end s) cells _ (omega arith) (omega arith) apart-shown) u)
      (λ u v.
      let row = here-row s cells on room r c m u in
      let behind = ltb-false c (s.column + length text) v in
      apart_behind _ _ cells _ apart-shown (80 * r + c) (omega arith)))

pub shows : Shows
shows s text cells on room e p l = (
  text_advances s text e p l,
  (λ r c h m. shown-cell s text cells on room e p l r c m, apart_rest _ _ cells _ (textFits s text cells on room e p l) (apart-shown s text cells on room e p l)),
)

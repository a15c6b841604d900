-- 000, the display chapter: the state of a screen of 24 rows and 80 columns, and what each control code and each sequence makes of it. It
-- never depends on what the cells show; those are in `Cells`.
use Rattle.std.specs.Prelude.{ℕ, ◌+◌, ◌-◌, ◌≤◌, ◌<◌, Bool, true, false, cond, ◌&&◌, ltb, leb, eqb}
use Rattle.screen.specs.declared.Screen.{Screen}
use Rattle.screen.specs.declared.Sequence.{Sequence}
use Rattle.screen.specs.declared.Sequence.TheVariants.{Plain, Escape, Row, Column, Skips}

-- 3.1: at open and reset the screen is in scroll mode, lines wrap, no line is protected, and the cursor is at (0, 0). Nothing is asked for,
-- no sequence is being read.
abbrev pub new_screen : Screen
new_screen = record { row = 0; column = 0; scrolls = true; wraps = true; top = false; bottom = false; asked = false; sequence = Plain }

-- The first and the last unprotected line, and how many there are: the chapter's N.
abbrev pub first_line : Screen → ℕ
first_line s = cond s.top 1 0

abbrev pub last_line : Screen → ℕ
last_line s = cond s.bottom 22 23

abbrev pub lines_of : Screen → ℕ
lines_of s = last_line s + 1 - first_line s

-- 3.1: "the cursor is not allowed to be on protected lines". As a fact, and as the test of it.
pub record On (s : Screen) : Type 0 where
  pub below_top : first_line s ≤ s.row
  pub above_bottom : s.row ≤ last_line s
  pub within : s.column < 80

abbrev pub is_on : Screen → Bool
is_on s = leb (first_line s) s.row && (leb s.row (last_line s) && ltb s.column 80)

-- A screen with one thing changed: the cursor, the sequence that is being read, the modes, the protected lines, whether the cursor's address
-- is asked for.
abbrev pub at : Screen → ℕ → ℕ → Screen
at s row column = record { row = row; column = column; scrolls = s.scrolls; wraps = s.wraps; top = s.top; bottom = s.bottom; asked = s.asked; sequence = s.sequence }

abbrev pub reading : Screen → Sequence → Screen
reading s q = record { row = s.row; column = s.column; scrolls = s.scrolls; wraps = s.wraps; top = s.top; bottom = s.bottom; asked = s.asked; sequence = q }

abbrev pub scrolling : Screen → Bool → Screen
scrolling s t = record { row = s.row; column = s.column; scrolls = t; wraps = s.wraps; top = s.top; bottom = s.bottom; asked = s.asked; sequence = s.sequence }

abbrev pub wrapping : Screen → Bool → Screen
wrapping s t = record { row = s.row; column = s.column; scrolls = s.scrolls; wraps = t; top = s.top; bottom = s.bottom; asked = s.asked; sequence = s.sequence }

abbrev pub guarding : Screen → Bool → Bool → Screen
guarding s top bottom = record { row = s.row; column = s.column; scrolls = s.scrolls; wraps = s.wraps; top = top; bottom = bottom; asked = s.asked; sequence = s.sequence }

abbrev pub asking : Screen → Bool → Screen
asking s t = record { row = s.row; column = s.column; scrolls = s.scrolls; wraps = s.wraps; top = s.top; bottom = s.bottom; asked = t; sequence = s.sequence }

-- Control codes (3.1). Backspace, 08: one position backward. In column 0 it is ignored while lines do not wrap; else it goes to the end of the
-- line before, and from the first unprotected line to the end of the last one.
abbrev pub backward : Screen → Screen
backward s =
    cond (ltb 0 s.column) (at s s.row (s.column - 1))
    (cond s.wraps (at s (cond (ltb (first_line s) s.row) (s.row - 1) (last_line s)) 79) s)

-- Line feed, 0A: one line down. On the last unprotected line it stays in scroll mode, and goes to the first one in page mode.
abbrev pub line_fed : Screen → Screen
line_fed s = at s (cond (ltb s.row (last_line s)) (s.row + 1) (cond s.scrolls s.row (first_line s))) s.column

-- Line up, 0B: one line up. On the first unprotected line it stays in scroll mode, and goes to the last one in page mode.
abbrev pub lined_up : Screen → Screen
lined_up s = at s (cond (ltb (first_line s) s.row) (s.row - 1) (cond s.scrolls s.row (last_line s))) s.column

-- Forward space, 0C: one position to the right. In column 79 it is ignored while lines do not wrap; else it goes to column 0 of the next
-- line, and from the last unprotected line to the first one.
abbrev pub forward : Screen → Screen
forward s =
    cond (ltb s.column 79) (at s s.row (s.column + 1))
    (cond s.wraps (at s (cond (ltb s.row (last_line s)) (s.row + 1) (first_line s)) 0) s)

-- Carriage return, 0D: to column 0 of its line.
abbrev pub returned : Screen → Screen
returned s = at s s.row 0

-- Erase page, 1F: to the start of the first unprotected line.
abbrev pub homed : Screen → Screen
homed s = at s (first_line s) 0

-- A character: one position to the right; behind column 79 the display makes its own carriage return and line feed, except while lines do not
-- wrap.
abbrev pub advanced : Screen → Screen
advanced s = cond (ltb s.column 79) (at s s.row (s.column + 1)) (cond s.wraps (line_fed (returned s)) s)

-- Bell (07), test (15) and codes that are not defined are ignored. 1B prefaces a sequence.
abbrev pub controlled : Screen → ℕ → Screen
controlled s b =
    cond (eqb b 0x08) (backward s)
    (cond (eqb b 0x0A) (line_fed s)
    (cond (eqb b 0x0B) (lined_up s)
    (cond (eqb b 0x0C) (forward s)
    (cond (eqb b 0x0D) (returned s)
    (cond (eqb b 0x1B) (reading s Escape)
    (cond (eqb b 0x1F) (homed s) s))))))

-- The unprotected line that is nearest to a row.
abbrev pub nearest : Screen → ℕ → ℕ
nearest s row = cond (ltb row (first_line s)) (first_line s) (cond (ltb (last_line s) row) (last_line s) row)

-- ESC = row column (3.2.8) sets the cursor. Out of range, the sequence is ignored.
abbrev pub placed : Screen → ℕ → ℕ → Screen
placed s row column = cond (ltb row 24) (cond (ltb column 80) (at s (nearest s row) column) s) s

-- ESC 0 to 3 (3.2.9 to 3.2.12): top and bottom line protected, or not. The cursor leaves a line that becomes protected.
abbrev pub protected : Screen → Bool → Bool → Screen
protected s top bottom = at (guarding s top bottom) (nearest (guarding s top bottom) s.row) s.column

-- The sequences that change the state: M scroll mode, m page mode, R deletes a line and goes to its start, 0 to 3 lines protected, 4 and 5
-- line wrap off and on, 9 asks for the cursor's address.
abbrev pub guarded : Screen → ℕ → Screen
guarded s b =
    cond (eqb b 0x30) (protected s true s.bottom)
    (cond (eqb b 0x31) (protected s false s.bottom)
    (cond (eqb b 0x32) (protected s s.top true)
    (cond (eqb b 0x33) (protected s s.top false) s)))

abbrev pub ordered : Screen → ℕ → Screen
ordered s b =
    cond (eqb b 0x4D) (scrolling s true)
    (cond (eqb b 0x6D) (scrolling s false)
    (cond (eqb b 0x52) (returned s)
    (cond (eqb b 0x34) (wrapping s false)
    (cond (eqb b 0x35) (wrapping s true)
    (cond (eqb b 0x39) (asking s true) (guarded s b))))))

-- How many arguments are skipped: page shifts 6, 7, K and L, as many as there are unprotected lines; cursor and text attributes (. and G),
-- colours (C) and page (P), one; page dimensions (S), two; define character (B), the character and eight rows.
abbrev pub skipped : Screen → ℕ → ℕ
skipped s b =
    cond (eqb b 0x36) (lines_of s)
    (cond (eqb b 0x37) (lines_of s)
    (cond (eqb b 0x2E) 1
    (cond (eqb b 0x47) 1
    (cond (eqb b 0x42) 9
    (cond (eqb b 0x43) 1
    (cond (eqb b 0x4B) (lines_of s)
    (cond (eqb b 0x4C) (lines_of s)
    (cond (eqb b 0x50) 1
    (cond (eqb b 0x53) 2 0)))))))))

-- What is read next: the rest of the arguments, of which n are to be skipped; the row behind ESC =; nothing.
abbrev pub skipping : ℕ → Sequence
skipping n = cond (eqb n 0) Plain (Skips n)

abbrev pub sequence_of : Screen → ℕ → Sequence
sequence_of s b = cond (eqb b 0x3D) Row (skipping (skipped s b))

-- The byte behind an escape.
abbrev pub commanded : Screen → ℕ → Screen
commanded s b = ordered (reading s (sequence_of s b)) b

-- A byte on the screen. Arguments are not looked at.
abbrev pub unescaped : Screen → ℕ → Screen
unescaped s b = cond (ltb b 0x20) (controlled s b) (advanced s)

abbrev pub with_byte_in : Sequence → Screen → ℕ → Screen
with_byte_in Plain s b = unescaped s b
with_byte_in Escape s b = commanded s b
with_byte_in Row s b = reading s (Column b)
with_byte_in (Column row) s b = placed (reading s Plain) row b
with_byte_in (Skips n) s b = reading s (skipping (n - 1))

abbrev pub with_byte : Screen → ℕ → Screen
with_byte s b = with_byte_in s.sequence s b

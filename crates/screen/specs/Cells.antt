-- 000, the display chapter: what each control code and each sequence makes of the cells. They stand row by row in 1,920 lent bytes; bytes
-- behind them stay as they are. Blank is 20.
use Rattle.std.specs.Prelude.{ℕ, ◌+◌, ◌-◌, ◌*◌, cond, List, ◌++◌, ltb, eqb, take, drop, set, replicate}
use Rattle.screen.specs.Screen.{first_line, last_line, lines_of, homed}
use Rattle.screen.specs.declared.Screen.{Screen}
use Rattle.screen.specs.declared.Sequence.{Sequence}
use Rattle.screen.specs.declared.Sequence.TheVariants.{Plain, Escape, Row, Column, Skips}

-- The place of the cursor's cell.
abbrev pub cursor : Screen → ℕ
cursor s = 80 * s.row + s.column

-- n cells from a place on: all blank; closed up by g, so that the first g are lost and g blanks come behind the others; opened up by g, so
-- that g blanks come before the others and the last g are lost.
abbrev pub erased : ℕ → ℕ → List ℕ → List ℕ
erased from n cells = take from cells ++ (replicate n 0x20 ++ drop (from + n) cells)

abbrev pub closed_up : ℕ → ℕ → ℕ → List ℕ → List ℕ
closed_up from n g cells = take from cells ++ (take (n - g) (drop (from + g) cells) ++ (replicate g 0x20 ++ drop (from + n) cells))

abbrev pub opened_up : ℕ → ℕ → ℕ → List ℕ → List ℕ
opened_up from n g cells = take from cells ++ (replicate g 0x20 ++ (take (n - g) (drop from cells) ++ drop (from + n) cells))

-- From the cursor to the end of its line; from its line on, and from the cursor, to the end of the unprotected lines.
abbrev pub to_line_end : Screen → ℕ
to_line_end s = 80 - s.column

abbrev pub lines_down : Screen → ℕ
lines_down s = 80 * (last_line s + 1 - s.row)

abbrev pub to_page_end : Screen → ℕ
to_page_end s = lines_down s - s.column

-- Scroll mode: all unprotected text up one line, the bottom line blank; or down one line, the top line blank.
abbrev pub scrolled_up : Screen → List ℕ → List ℕ
scrolled_up s cells = closed_up (80 * first_line s) (80 * lines_of s) 80 cells

abbrev pub scrolled_down : Screen → List ℕ → List ℕ
scrolled_down s cells = opened_up (80 * first_line s) (80 * lines_of s) 80 cells

-- ESC Q and W: a character inserted and deleted at the cursor, in its line.
abbrev pub inserted : Screen → List ℕ → List ℕ
inserted s cells = opened_up (cursor s) (to_line_end s) 1 cells

abbrev pub deleted : Screen → List ℕ → List ℕ
deleted s cells = closed_up (cursor s) (to_line_end s) 1 cells

-- ESC E and R: a line inserted and deleted at the cursor's line.
abbrev pub line_inserted : Screen → List ℕ → List ℕ
line_inserted s cells = opened_up (80 * s.row) (lines_down s) 80 cells

abbrev pub line_deleted : Screen → List ℕ → List ℕ
line_deleted s cells = closed_up (80 * s.row) (lines_down s) 80 cells

-- ESC T and Y: erased from the cursor to the end of its line, and to the end of the page, which ends before a protected bottom line.
abbrev pub line_erased : Screen → List ℕ → List ℕ
line_erased s cells = erased (cursor s) (to_line_end s) cells

abbrev pub page_erased : Screen → List ℕ → List ℕ
page_erased s cells = erased (cursor s) (to_page_end s) cells

-- Line feed and line up scroll on the last and on the first unprotected line, in scroll mode.
abbrev pub fed_cells : Screen → List ℕ → List ℕ
fed_cells s cells = cond (ltb s.row (last_line s)) cells (cond s.scrolls (scrolled_up s cells) cells)

abbrev pub up_cells : Screen → List ℕ → List ℕ
up_cells s cells = cond (ltb (first_line s) s.row) cells (cond s.scrolls (scrolled_down s cells) cells)

-- A character at the cursor; the line feed behind column 79 comes after it.
abbrev pub character_cells : Screen → ℕ → List ℕ → List ℕ
character_cells s b cells =
    cond (ltb s.column 79) (set cells (cursor s) b) (cond s.wraps (fed_cells s (set cells (cursor s) b)) (set cells (cursor s) b))

-- The control codes and the sequences that change cells.
abbrev pub controlled_cells : Screen → ℕ → List ℕ → List ℕ
controlled_cells s b cells =
    cond (eqb b 0x0A) (fed_cells s cells) (cond (eqb b 0x0B) (up_cells s cells) (cond (eqb b 0x1F) (page_erased (homed s) cells) cells))

abbrev pub commanded_cells : Screen → ℕ → List ℕ → List ℕ
commanded_cells s b cells =
    cond (eqb b 0x51) (inserted s cells)
    (cond (eqb b 0x57) (deleted s cells)
    (cond (eqb b 0x45) (line_inserted s cells)
    (cond (eqb b 0x52) (line_deleted s cells)
    (cond (eqb b 0x54) (line_erased s cells)
    (cond (eqb b 0x59) (page_erased s cells) cells)))))

abbrev pub unescaped_cells : Screen → ℕ → List ℕ → List ℕ
unescaped_cells s b cells = cond (ltb b 0x20) (controlled_cells s b cells) (character_cells s b cells)

-- A byte on the screen. Arguments show nothing.
abbrev pub cells_with_in : Sequence → Screen → ℕ → List ℕ → List ℕ
cells_with_in Plain s b cells = unescaped_cells s b cells
cells_with_in Escape s b cells = commanded_cells s b cells
cells_with_in Row s b cells = cells
cells_with_in (Column row) s b cells = cells
cells_with_in (Skips n) s b cells = cells

abbrev pub cells_with : Screen → ℕ → List ℕ → List ℕ
cells_with s b cells = cells_with_in s.sequence s b cells

-- What follows: of every cell what it is after each character, code and sequence, which it sets and that every other keeps its value; and a
-- text may be cut anywhere. `proofs/Laws.antt` proves them.
use Rattle.std.specs.Prelude.{ℕ, ◌+◌, ◌-◌, ◌*◌, ◌≤◌, ◌<◌, ◌≡◌, Bool, false, cond, ◌&&◌, ◌||◌, List, ◌++◌, ltb, leb, eqb, length, drop, get_or}
use Rattle.screen.specs.Screen.{first_line, last_line, On, at, homed, with_byte}
use Rattle.screen.specs.Cells.{scrolled_up, scrolled_down, inserted, deleted, line_inserted, line_deleted, line_erased, page_erased}
use Rattle.screen.specs.Cells.{character_cells, cells_with}
use Rattle.screen.specs.Text.{with_text, cells_after, cleared}
use Rattle.screen.specs.declared.Screen.{Screen}
use Rattle.screen.specs.declared.Sequence.{Sequence}
use Rattle.screen.specs.declared.Sequence.TheVariants.{Plain, Escape, Row, Column, Skips}

-- The cell in a row and a column.
abbrev pub cell : List ℕ → ℕ → ℕ → ℕ
cell cells row column = get_or cells (80 * row + column) 0x20

-- The memory's length and the bytes behind the cells are as they were.
abbrev pub KeepsRest : List ℕ → List ℕ → Type 0
KeepsRest cells after = (length after ≡ length cells) × (drop 1920 after ≡ drop 1920 cells)

-- The cell in each row r and column c became `its r c`.
abbrev pub Becomes : List ℕ → List ℕ → (ℕ → ℕ → ℕ) → Type 0
Becomes cells after its = ((r c : ℕ) → r < 24 → c < 80 → cell after r c ≡ its r c) × KeepsRest cells after

-- So after a change of a screen with 1,920 cells or more.
abbrev pub Sets : (Screen → List ℕ → List ℕ) → (Screen → List ℕ → ℕ → ℕ → ℕ) → Type 0
Sets change its = (s : Screen) (cells : List ℕ) → On s → 1920 ≤ length cells → Becomes cells (change s cells) (its s cells)

-- Whether a row is among the unprotected lines, behind the cursor's line, or the cursor's.
abbrev pub is_open : Screen → ℕ → Bool
is_open s r = leb (first_line s) r && leb r (last_line s)

abbrev pub is_down : Screen → ℕ → Bool
is_down s r = leb s.row r && leb r (last_line s)

abbrev pub is_here : Screen → ℕ → ℕ → Bool
is_here s r c = eqb r s.row && leb s.column c

-- What was in the unprotected lines, up one line, and the last one blank.
abbrev pub up : Screen → (ℕ → ℕ → ℕ) → ℕ → ℕ → ℕ
up s was r c = cond (is_open s r) (cond (eqb r (last_line s)) 0x20 (was (r + 1) c)) (was r c)

abbrev pub ScrollsUp : Type 0
ScrollsUp = Sets scrolled_up (λ (s : Screen) (cells : List ℕ). up s (cell cells))

abbrev pub ScrollsDown : Type 0
ScrollsDown = Sets scrolled_down (λ (s : Screen) (cells : List ℕ) (r c : ℕ). cond (is_open s r) (cond (eqb r (first_line s)) 0x20 (cell cells (r - 1) c)) (cell cells r c))

-- A character stands at the cursor, and every other cell keeps its value. In column 79 of the last unprotected line, where lines wrap, scroll
-- mode then scrolls.
abbrev pub written : Screen → ℕ → List ℕ → ℕ → ℕ → ℕ
written s b cells r c = cond (eqb r s.row && eqb c s.column) b (cell cells r c)

abbrev pub character_scrolls : Screen → Bool
character_scrolls s = eqb s.column 79 && (s.wraps && (eqb s.row (last_line s) && s.scrolls))

abbrev pub Writes : Type 0
Writes =
    (b : ℕ) → Sets (λ (s : Screen) (cells : List ℕ). character_cells s b cells)
    (λ (s : Screen) (cells : List ℕ) (r c : ℕ). cond (character_scrolls s) (up s (written s b cells) r c) (written s b cells r c))

abbrev pub Inserts : Type 0
Inserts = Sets inserted (λ (s : Screen) (cells : List ℕ) (r c : ℕ). cond (is_here s r c) (cond (eqb c s.column) 0x20 (cell cells r (c - 1))) (cell cells r c))

abbrev pub Deletes : Type 0
Deletes = Sets deleted (λ (s : Screen) (cells : List ℕ) (r c : ℕ). cond (is_here s r c) (cond (eqb c 79) 0x20 (cell cells r (c + 1))) (cell cells r c))

abbrev pub InsertsLine : Type 0
InsertsLine = Sets line_inserted (λ (s : Screen) (cells : List ℕ) (r c : ℕ). cond (is_down s r) (cond (eqb r s.row) 0x20 (cell cells (r - 1) c)) (cell cells r c))

abbrev pub DeletesLine : Type 0
DeletesLine = Sets line_deleted (λ (s : Screen) (cells : List ℕ) (r c : ℕ). cond (is_down s r) (cond (eqb r (last_line s)) 0x20 (cell cells (r + 1) c)) (cell cells r c))

abbrev pub ErasesLine : Type 0
ErasesLine = Sets line_erased (λ (s : Screen) (cells : List ℕ) (r c : ℕ). cond (is_here s r c) 0x20 (cell cells r c))

abbrev pub ErasesPage : Type 0
ErasesPage = Sets page_erased (λ (s : Screen) (cells : List ℕ) (r c : ℕ). cond (is_here s r c) 0x20 (cond (ltb s.row r && leb r (last_line s)) 0x20 (cell cells r c)))

-- 1F erases the unprotected lines.
abbrev pub ErasesAll : Type 0
ErasesAll =
    Sets (λ (s : Screen) (cells : List ℕ). page_erased (homed s) cells)
    (λ (s : Screen) (cells : List ℕ) (r c : ℕ). cond (is_open s r) 0x20 (cell cells r c))

-- Cleared, every cell is blank. Memory that is too short for the cells stays as it is.
abbrev pub Clears : Type 0
Clears =
    (cells : List ℕ)
    → (1920 ≤ length cells → Becomes cells (cleared cells) (λ (r c : ℕ). 0x20))
    × (length cells < 1920 → cleared cells ≡ cells)

-- The bytes that change cells, by what is being read: a character, line feed, line up and erase page; behind an escape Q, W, E, R, T and Y; no
-- argument. All others change none.
abbrev pub may_change : Sequence → ℕ → Bool
may_change Plain b = leb 0x20 b || (eqb b 0x0A || (eqb b 0x0B || eqb b 0x1F))
may_change Escape b = eqb b 0x51 || (eqb b 0x57 || (eqb b 0x45 || (eqb b 0x52 || (eqb b 0x54 || eqb b 0x59))))
may_change Row b = false
may_change (Column row) b = false
may_change (Skips n) b = false

abbrev pub Keeps : Type 0
Keeps = (s : Screen) (b : ℕ) (cells : List ℕ) → may_change s.sequence b ≡ false → cells_with s b cells ≡ cells

-- No byte, whatever is being read, changes a cell of a protected line, the memory's length or what is behind the cells.
abbrev pub Guards : Type 0
Guards =
    (s : Screen) (b : ℕ) (cells : List ℕ)
    → On s
    → 1920 ≤ length cells
    → ((r c : ℕ) → r < 24 → c < 80 → is_open s r ≡ false → cell (cells_with s b cells) r c ≡ cell cells r c)
    × KeepsRest cells (cells_with s b cells)

-- The cursor stays on the unprotected lines.
abbrev pub Stays : Type 0
Stays = (s : Screen) (b : ℕ) → On s → On (with_byte s b)

-- Every byte of a text is a character; past its end `get_or` gives 20.
abbrev pub Characters : List ℕ → Type 0
Characters text = (i : ℕ) → 0x20 ≤ get_or text i 0x20

-- Characters that do not fill the cursor's line stand in it from the cursor on, every other cell keeps its value, and the cursor is behind them.
abbrev pub Shows : Type 0
Shows =
    (s : Screen) (text cells : List ℕ)
    → On s
    → 1920 ≤ length cells
    → s.sequence ≡ Plain
    → Characters text
    → s.column + length text ≤ 79
    → (with_text s text ≡ at s s.row (s.column + length text))
    × Becomes cells (cells_after s text cells)
    (λ (r c : ℕ). cond (is_here s r c && ltb c (s.column + length text)) (get_or text (c - s.column) 0x20) (cell cells r c))

-- A text in two writes, cut anywhere, also inside a sequence, is the text in one: the state with its sequence and pending address, and the
-- cells.
abbrev pub Cut : Type 0
Cut =
    (s : Screen) (a b cells : List ℕ)
    → On s
    → (with_text (with_text s a) b ≡ with_text s (a ++ b)) × (cells_after (with_text s a) b (cells_after s a cells) ≡ cells_after s (a ++ b) cells)

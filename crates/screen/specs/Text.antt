-- A text on the screen: byte by byte.
use Rattle.std.specs.Prelude.{ℕ, Bool, cond, ◌&&◌, List, [], ◌∷◌, leb, length}
use Rattle.screen.specs.Screen.{is_on, with_byte}
use Rattle.screen.specs.Cells.{erased, cells_with}
use Rattle.screen.specs.declared.Screen.{Screen}

abbrev pub with_text : Screen → List ℕ → Screen
with_text s [] = s
with_text s (b ∷ bs) = with_text (with_byte s b) bs

abbrev pub drawn : Screen → List ℕ → List ℕ → List ℕ
drawn s [] cells = cells
drawn s (b ∷ bs) cells = drawn (with_byte s b) bs (cells_with s b cells)

-- Memory of under 1,920 bytes holds no screen and stays as it is, as does one whose cursor would stand where none can.
abbrev pub is_drawn : Screen → List ℕ → Bool
is_drawn s cells = is_on s && leb 1920 (length cells)

abbrev pub cells_after : Screen → List ℕ → List ℕ → List ℕ
cells_after s text cells = cond (is_drawn s cells) (drawn s text cells) cells

-- All cells blank.
abbrev pub cleared : List ℕ → List ℕ
cleared cells = cond (leb 1920 (length cells)) (erased 0 1920 cells) cells

-- Texts on an opened screen, and what they make of its state and of its cells. `proofs/Examples.antt` computes them.
use Rattle.std.specs.Prelude.{ℕ, zero, suc, ◌+◌, ◌*◌, ◌≡◌, true, false, List, [], ◌∷◌, ◌++◌, map, replicate}
use Rattle.screen.specs.Screen.{new_screen, at, reading, scrolling, wrapping, guarding, asking}
use Rattle.screen.specs.Text.{with_text, cells_after}
use Rattle.screen.specs.declared.Screen.{Screen}
use Rattle.screen.specs.declared.Sequence.TheVariants.{Escape, Row, Column, Skips}

-- What the definitions give, and what is expected.
pub record Example (A : Type 0) : Type 0 where
  pub given : A
  pub expected : A

abbrev pub state : List ℕ → Screen → Example Screen
state text expected = record { given = with_text new_screen text; expected = expected }

abbrev pub states : List (Example Screen)
states =
    -- ESC = 5 10, "ab"; and what is read where that is cut.
    state (0x1B ∷ 0x3D ∷ 5 ∷ 10 ∷ 0x61 ∷ 0x62 ∷ []) (at new_screen 5 12)
    ∷ state (0x1B ∷ []) (reading new_screen Escape)
    ∷ state (0x1B ∷ 0x3D ∷ []) (reading new_screen Row)
    ∷ state (0x1B ∷ 0x3D ∷ 5 ∷ []) (reading new_screen (Column 5))
    -- Row 24 and column 80 are out of range, as is an escape in place of the row.
    ∷ state (0x1B ∷ 0x3D ∷ 24 ∷ 10 ∷ []) new_screen
    ∷ state (0x1B ∷ 0x3D ∷ 5 ∷ 80 ∷ []) new_screen
    ∷ state (0x1B ∷ 0x3D ∷ 0x1B ∷ 0x0A ∷ []) new_screen
    -- Top and bottom line protected: the cursor leaves the top line, and set cursor takes the nearest line.
    ∷ state (0x1B ∷ 0x30 ∷ []) (at (guarding new_screen true false) 1 0)
    ∷ state (0x1B ∷ 0x30 ∷ 0x1B ∷ 0x32 ∷ 0x1B ∷ 0x3D ∷ 23 ∷ 7 ∷ []) (at (guarding new_screen true true) 22 7)
    -- Define character skips the character and eight rows, also escapes; then "a".
    ∷ state (0x1B ∷ 0x42 ∷ 0x41 ∷ 0x1B ∷ 0x3D ∷ 5 ∷ 10 ∷ 0x1F ∷ 0x0B ∷ 0x1B ∷ []) (reading new_screen (Skips 1))
    ∷ state (0x1B ∷ 0x42 ∷ 0x41 ∷ 0x1B ∷ 0x3D ∷ 5 ∷ 10 ∷ 0x1F ∷ 0x0B ∷ 0x1B ∷ 0x30 ∷ 0x61 ∷ []) (at new_screen 0 1)
    -- A page shift skips an argument for each unprotected line, here 22; then "a".
    ∷ state (0x1B ∷ 0x30 ∷ 0x1B ∷ 0x32 ∷ 0x1B ∷ 0x36 ∷ []) (reading (at (guarding new_screen true true) 1 0) (Skips 22))
    ∷ state (0x1B ∷ 0x30 ∷ 0x1B ∷ 0x32 ∷ 0x1B ∷ 0x36 ∷ (replicate 22 0x1B ++ (0x61 ∷ []))) (at (guarding new_screen true true) 1 1)
    -- A second escape is dropped: "M".
    ∷ state (0x1B ∷ 0x1B ∷ 0x4D ∷ []) (at new_screen 0 1)
    -- Backspace from the first position; not while lines do not wrap. Line up in page mode. Read cursor address.
    ∷ state (0x08 ∷ []) (at new_screen 23 79)
    ∷ state (0x1B ∷ 0x34 ∷ 0x08 ∷ []) (wrapping new_screen false)
    ∷ state (0x1B ∷ 0x6D ∷ 0x0B ∷ []) (at (scrolling new_screen false) 23 0)
    ∷ state (0x1B ∷ 0x39 ∷ []) (asking new_screen true)
    ∷ []

abbrev pub States : Type 0
States = map (λ (x : Example Screen). x.given) states ≡ map (λ (x : Example Screen). x.expected) states

-- So many lines, the first of them filled with a letter, each of the others with the next one.
abbrev pub lines : ℕ → ℕ → List ℕ
lines zero letter = []
lines (suc n) letter = replicate 80 letter ++ lines n (suc letter)

abbrev pub blank : ℕ → List ℕ
blank n = replicate n 0x20

-- A text on a screen whose lines are filled with A to X.
abbrev pub shown : List ℕ → List ℕ → Example (List ℕ)
shown text expected = record { given = cells_after new_screen text (lines 24 0x41); expected = expected }

abbrev pub pages : List (Example (List ℕ))
pages =
    -- Top line protected, a line feed on the last line.
    shown (0x1B ∷ 0x30 ∷ 0x1B ∷ 0x3D ∷ 23 ∷ 0 ∷ 0x0A ∷ []) (lines 1 0x41 ++ (lines 22 0x43 ++ blank 80))
    -- Bottom line protected, a line up on the first line.
    ∷ shown (0x1B ∷ 0x32 ∷ 0x0B ∷ []) (blank 80 ++ (lines 22 0x41 ++ lines 1 0x58))
    -- "a" in the last cell, which scrolls.
    ∷ shown (0x1B ∷ 0x3D ∷ 23 ∷ 79 ∷ 0x61 ∷ []) (lines 22 0x42 ++ (replicate 79 0x58 ++ (0x61 ∷ blank 80)))
    -- At (5, 10): "ab"; a character inserted, and deleted; a line inserted, and deleted; erased to the end of the line, and of the page.
    ∷ shown (0x1B ∷ 0x3D ∷ 5 ∷ 10 ∷ 0x61 ∷ 0x62 ∷ []) (lines 5 0x41 ++ (replicate 10 0x46 ++ (0x61 ∷ 0x62 ∷ (replicate 68 0x46 ++ lines 18 0x47))))
    ∷ shown (0x1B ∷ 0x3D ∷ 5 ∷ 10 ∷ 0x1B ∷ 0x51 ∷ []) (lines 5 0x41 ++ (replicate 10 0x46 ++ (blank 1 ++ (replicate 69 0x46 ++ lines 18 0x47))))
    ∷ shown (0x1B ∷ 0x3D ∷ 5 ∷ 10 ∷ 0x1B ∷ 0x57 ∷ []) (lines 5 0x41 ++ (replicate 79 0x46 ++ (blank 1 ++ lines 18 0x47)))
    ∷ shown (0x1B ∷ 0x3D ∷ 5 ∷ 10 ∷ 0x1B ∷ 0x45 ∷ []) (lines 5 0x41 ++ (blank 80 ++ lines 18 0x46))
    ∷ shown (0x1B ∷ 0x3D ∷ 5 ∷ 10 ∷ 0x1B ∷ 0x52 ∷ []) (lines 5 0x41 ++ (lines 18 0x47 ++ blank 80))
    ∷ shown (0x1B ∷ 0x3D ∷ 5 ∷ 10 ∷ 0x1B ∷ 0x54 ∷ []) (lines 5 0x41 ++ (replicate 10 0x46 ++ (blank 70 ++ lines 18 0x47)))
    ∷ shown (0x1B ∷ 0x3D ∷ 5 ∷ 10 ∷ 0x1B ∷ 0x59 ∷ []) (lines 5 0x41 ++ (replicate 10 0x46 ++ blank (70 + 18 * 80)))
    -- Both lines protected, erase page.
    ∷ shown (0x1B ∷ 0x30 ∷ 0x1B ∷ 0x32 ∷ 0x1F ∷ []) (lines 1 0x41 ++ (blank (22 * 80) ++ lines 1 0x58))
    ∷ []

abbrev pub Pages : Type 0
Pages = map (λ (x : Example (List ℕ)). x.given) pages ≡ map (λ (x : Example (List ℕ)). x.expected) pages

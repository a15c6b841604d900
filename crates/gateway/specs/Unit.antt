-- The calls of a unit from C: what each returns, and what it leaves in the words that hold the unit.
use Rattle.std.specs.Prelude.{ℕ, ◌≡◌, Bool, true, false, Option, Some, None, List, [], ◌∷◌}
use Rattle.host.specs.Calls.{making, feeding, input_after, taking, raising}
use Rattle.host.specs.declared.Looks.{Looks}
use Rattle.line.specs.declared.Lines.{Lines}
use Rattle.message.specs.Answer.{Answer, gives, refused}
use Rattle.screen.specs.declared.Screen.{Screen}
use Rattle.screen.specs.declared.Sequence.{Sequence}
use Rattle.screen.specs.declared.Sequence.TheVariants.{Plain, Escape, Row, Column, Skips}
use Rattle.serial.specs.declared.Opening.{Opening}
use Rattle.serial.specs.declared.Opening.TheVariants.{Closed, OpenFor}
use Rattle.unit.specs.Calls.{stepping, buffer_after, output_after}
use Rattle.unit.specs.declared.Unit.{Unit}
use Rattle.unitwords.specs.Unit.{opening_number, loaded, saved_in, saved}
use Rattle.words.specs.Words.{bit, number}

-- The levels that a step sees.
abbrev pub lines_of : Bool → Bool → ℕ → Lines
lines_of bav hsk nibble = record { bav = bav; hsk = hsk; nibble = nibble }

-- The words after a call: those of the unit that it gives. A refusal leaves them as they are.
abbrev pub unit_after : Answer Unit → List ℕ → List ℕ
unit_after (gives u) ws = saved_in ws u
unit_after (refused k) ws = ws

-- The words after a unit is made: whole words, whatever stood there.
abbrev pub unit_made : Answer Unit → List ℕ → List ℕ
unit_made (gives u) ws = saved u
unit_made (refused k) ws = ws

-- Taking: the byte, or 256 for nothing.
abbrev pub taken_number : Option (ℕ × Unit) → ℕ
taken_number (Some taken) = taken.0
taken_number None = 256

abbrev pub taken_words : Option (ℕ × Unit) → List ℕ → List ℕ
taken_words (Some taken) ws = saved_in ws taken.1
taken_words None ws = ws

-- Looking, in six words: closed 0, open for input 1, output 2 or update 3; the accepted length, 0 while closed; how many bytes the
-- input queue and the output queue hold; enabled; requesting.
abbrev pub accepted_of : Opening → ℕ
accepted_of Closed = 0
accepted_of (OpenFor m accepted) = accepted

abbrev pub looks_words : Looks → List ℕ
looks_words l =
    opening_number l.opening ∷ accepted_of l.opening ∷ l.input ∷ l.output ∷ bit l.enabled ∷ bit l.requesting ∷ []

-- Looking at a screen, in eight words: the cursor's row and column; scroll mode, else page mode; whether lines wrap; whether the top and the
-- bottom line are protected; whether the cursor's address is asked for; whether a sequence is being read.
abbrev pub is_reading : Sequence → Bool
is_reading Plain = false
is_reading Escape = true
is_reading Row = true
is_reading (Column row) = true
is_reading (Skips n) = true

abbrev pub screen_looks : Screen → List ℕ
screen_looks s =
    s.row ∷ s.column ∷ bit s.scrolls ∷ bit s.wraps ∷ bit s.top ∷ bit s.bottom ∷ bit s.asked ∷ bit (is_reading s.sequence) ∷ []

-- What each call promises, for all words: what it returns, the words after it, and every byte that it was lent.
abbrev pub UnitMade : ℕ → ℕ → List ℕ → ℕ → List ℕ → Type 0
UnitMade own retry ws r ws' = (r ≡ number (making own retry)) × (ws' ≡ unit_made (making own retry) ws)

abbrev pub UnitStepped : Lines → Bool → List ℕ → List ℕ → List ℕ → List ℕ → ℕ → List ℕ → List ℕ → List ℕ → Type 0
UnitStepped seen busy ws buffer input output r ws' buffer' output' =
    (r ≡ number (stepping (loaded ws) seen busy buffer input output))
    × ((ws' ≡ unit_after (stepping (loaded ws) seen busy buffer input output) ws)
    × ((buffer' ≡ buffer_after (loaded ws) seen busy buffer input output) × (output' ≡ output_after (loaded ws) seen busy buffer input output)))

abbrev pub UnitFed : ℕ → List ℕ → List ℕ → ℕ → List ℕ → List ℕ → Type 0
UnitFed b ws input r ws' input' =
    (r ≡ number (feeding (loaded ws) b)) × ((ws' ≡ unit_after (feeding (loaded ws) b) ws) × (input' ≡ input_after (loaded ws) b input))

abbrev pub UnitTaken : List ℕ → List ℕ → ℕ → List ℕ → Type 0
UnitTaken ws output r ws' = (r ≡ taken_number (taking (loaded ws) output)) × (ws' ≡ taken_words (taking (loaded ws) output) ws)

abbrev pub UnitRaised : List ℕ → ℕ → List ℕ → Type 0
UnitRaised ws r ws' = (r ≡ number (raising (loaded ws))) × (ws' ≡ unit_after (raising (loaded ws)) ws)

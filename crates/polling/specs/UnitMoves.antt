-- A unit's own calls: steps at any levels, refused or not, and those of its host.
use Rattle.std.specs.Prelude.{ℕ, suc, ◌≡◌, Bool, true, false, cond, List, [], ◌∷◌, ltb, leb, length}
use Rattle.bus.specs.Bus.{unit_after}
use Rattle.header.specs.declared.Command.{Command}
use Rattle.host.specs.Calls.{feeding, taking, raising}
use Rattle.inside.specs.Calls.{unit_taken}
use Rattle.inside.specs.Inside.{clears}
use Rattle.inside.specs.Last.{TakesLast, SendsLast}
use Rattle.inside.specs.Lawful.{is_ending}
use Rattle.kind.specs.Kinds.{kind_of, is_short}
use Rattle.line.specs.declared.Lines.{Lines}
use Rattle.serial.specs.declared.Reply.{Reply}
use Rattle.unit.specs.Calls.{stepping}
use Rattle.unit.specs.Unit.{new_unit}
use Rattle.unit.specs.declared.Unit.{Unit}

pub data UnitMove : Type 0 where
  steps : (seen : Lines) (busy : Bool) (buffer input output : List ℕ) → UnitMove
  feeds : (b : ℕ) → UnitMove
  takes : (output : List ℕ) → UnitMove
  raises : UnitMove

abbrev pub moved : Unit → UnitMove → Unit
moved u (steps seen busy buffer input output) = unit_after (stepping u seen busy buffer input output) u
moved u (feeds b) = unit_after (feeding u b) u
moved u (takes output) = unit_taken (taking u output) u
moved u raises = unit_after (raising u) u

abbrev pub moved_all : Unit → List UnitMove → Unit
moved_all u [] = u
moved_all u (m ∷ ms) = moved_all (moved u m) ms

-- A refused step sees nothing.
abbrev pub is_seen : ℕ → Lines → List ℕ → List ℕ → Bool
is_seen own seen buffer output = cond (ltb 15 seen.nibble) false (cond (is_short (kind_of own) (length buffer) (length output)) false true)

-- What ends a request: in this step, with BAV seen low, the last nibble of a 01, 09 or FF is taken; or that of its answer 00 is done.
pub data Ends (u : Unit) : UnitMove → Type 0 where
  by_a_command :
      {seen : Lines} {busy : Bool} {buffer input output : List ℕ} (k : Command) (n : ℕ) (d : List ℕ) → is_seen u.own seen buffer output ≡ true → seen.bav ≡ true → TakesLast u.phase seen buffer k n d
      → is_ending k.command ≡ true → Ends u (steps seen busy buffer input output)
  by_its_answer :
      {seen : Lines} {busy : Bool} {buffer input output : List ℕ} (r : Reply) → is_seen u.own seen buffer output ≡ true → seen.bav ≡ true → SendsLast u.phase u.serial.input seen r
      → clears r ≡ true → Ends u (steps seen busy buffer input output)

-- It ends a request, or the request stands.
pub data Stands (u : Unit) (m : UnitMove) : Type 0 where
  stands : (moved u m).serial.requesting ≡ true → Stands u m
  ends : Ends u m → Stands u m

-- For how many rounds in a row the unit with this code has seen BAV high, at the end of these calls.
abbrev pub row_after : ℕ → ℕ → UnitMove → ℕ
row_after own row (steps seen busy buffer input output) = cond (is_seen own seen buffer output) (cond seen.bav 0 (suc row)) row
row_after own row (feeds b) = row
row_after own row (takes output) = row
row_after own row raises = row

abbrev pub row_of : ℕ → ℕ → List UnitMove → ℕ
row_of own row [] = row
row_of own row (m ∷ ms) = row_of own (row_after own row m) ms

-- The unit that was made with these settings, after a row of calls.
abbrev pub unit_since : ℕ → ℕ → List UnitMove → Unit
unit_since own retry ms = moved_all (new_unit own retry) ms

-- A step that sees BAV high and fills the row, so that the retry count is reached, the present round included.
pub data Fills (own retry row : ℕ) : UnitMove → Type 0 where
  fills : {seen : Lines} {busy : Bool} {buffer input output : List ℕ} → is_seen own seen buffer output ≡ true → seen.bav ≡ false → leb retry (suc row) ≡ true → Fills own retry row (steps seen busy buffer input output)

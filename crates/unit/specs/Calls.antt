-- Document 01, "Refusal numbers" (5, 11): the unit's step, with its number or its values.
use Rattle.std.specs.Prelude.{ℕ, Bool, cond, Result, List, ltb, length}
use Rattle.kind.specs.Kinds.{kind_of, is_short}
use Rattle.line.specs.declared.Lines.{Lines}
use Rattle.message.specs.Answer.{Answer, gives, refused, answered, kept}
use Rattle.unit.specs.Unit.{unit_step, unit_buffer, unit_output}
use Rattle.unit.specs.declared.Unit.{Unit}
use Rattle.unit.specs.declared.StepError.{StepError}
use Rattle.unit.specs.declared.StepError.TheVariants.{Level, Buffer}

-- Stepping: 5 for a nibble level over 15, then 11 for lent memory that is too short, of which only lengths are looked at.
abbrev pub stepping : Unit → Lines → Bool → List ℕ → List ℕ → List ℕ → Answer Unit
stepping u seen busy buffer input output =
    cond (ltb 15 seen.nibble) (refused 5)
    (cond (is_short (kind_of u.own) (length buffer) (length output)) (refused 11) (gives (unit_step u seen busy buffer input)))

-- A refusal changes no lent memory.
abbrev pub buffer_after : Unit → Lines → Bool → List ℕ → List ℕ → List ℕ → List ℕ
buffer_after u seen busy buffer input output = kept (stepping u seen busy buffer input output) (unit_buffer u seen buffer) buffer

abbrev pub output_after : Unit → Lines → Bool → List ℕ → List ℕ → List ℕ → List ℕ
output_after u seen busy buffer input output = kept (stepping u seen busy buffer input output) (unit_output u seen buffer output) output

abbrev pub number : StepError → ℕ
number Level = 5
number Buffer = 11

abbrev pub stepped : Result Unit StepError → Answer Unit
stepped r = answered number r

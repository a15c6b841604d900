-- Document 01, "Refusal numbers" (9, 10).
use Rattle.std.specs.Prelude.{ℕ, Result}
use Rattle.message.specs.Answer.{Answer, answered}
use Rattle.reader.specs.declared.Misread.{Misread}
use Rattle.reader.specs.declared.Misread.TheVariants.{Short, Disagrees}

abbrev pub number : Misread → ℕ
number Short = 9
number Disagrees = 10

-- The number and value of each answer of the check.
abbrev pub found : Result ℕ Misread → Answer ℕ
found r = answered number r

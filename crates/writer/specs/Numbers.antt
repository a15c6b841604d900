-- Document 01, "Refusal numbers" (2, 11).
use Rattle.std.specs.Prelude.{ℕ, Result}
use Rattle.message.specs.Answer.{Answer, answered}
use Rattle.writer.specs.declared.WriteError.{WriteError}
use Rattle.writer.specs.declared.WriteError.TheVariants.{TooLong, NoRoom}

abbrev pub number : WriteError → ℕ
number TooLong = 2
number NoRoom = 11

-- The number and value of each answer of a writer.
abbrev pub numbered : Result ℕ WriteError → Answer ℕ
numbered r = answered number r

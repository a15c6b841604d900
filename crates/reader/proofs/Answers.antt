-- The number and value of an answer say which it is.
use native.Mathlib.Omega.{arith}
use mathlib.Core.Path.{refl}
use Rattle.message.specs.Answer.{OneAnswer}
use Rattle.message.proofs.Answers.{one-answered}
use Rattle.reader.specs.Numbers.{number, found}
use Rattle.reader.specs.declared.Misread.TheVariants.{Short, Disagrees}

pub one-number : OneAnswer number
one-number Short Short e = refl
one-number Short Disagrees e = absurd (omega arith)
one-number Disagrees Short e = absurd (omega arith)
one-number Disagrees Disagrees e = refl

pub one-check : OneAnswer found
one-check = one-answered number one-number

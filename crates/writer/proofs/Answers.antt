-- The number and value of an answer say which it is.
use native.Mathlib.Omega.{arith}
use mathlib.Core.Path.{refl}
use Rattle.message.specs.Answer.{OneAnswer}
use Rattle.message.proofs.Answers.{one-answered}
use Rattle.writer.specs.Numbers.{number, numbered}
use Rattle.writer.specs.declared.WriteError.TheVariants.{TooLong, NoRoom}

pub one-number : OneAnswer number
one-number TooLong TooLong e = refl
one-number TooLong NoRoom e = absurd (omega arith)
one-number NoRoom TooLong e = absurd (omega arith)
one-number NoRoom NoRoom e = refl

pub one_written : OneAnswer numbered
one_written = one-answered number one-number

-- The number and values of a reader's answer say which it is: a message has its command's fields.
use mathlib.Core.Path.{ap}
use mathlib.Core.List.{List}
use Prim.Native.Nat.{ℕ}
use Rattle.message.specs.Answer.{OneAnswer}
use Rattle.message.specs.Format.{Message}
use Rattle.message.proofs.Answers.{one-answered-as}
use Rattle.header.specs.Header.{command_from}
use Rattle.header.specs.declared.Command.{Command}
use Rattle.reader.specs.Numbers.{number}
use Rattle.reader.proofs.Answers.{one-number}
use Rattle.command.specs.Command.{message_of, numbered}

one-message : (d : List ℕ) → OneAnswer (λ (c : Command). message_of c d)
one-message d c k e = ap (λ (m : Message). command_from m.before) e

pub one-reading : (d : List ℕ) → OneAnswer (numbered d)
one-reading d = one-answered-as (λ (c : Command). message_of c d) number (one-message d) one-number

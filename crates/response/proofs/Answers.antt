-- The number and values of a reader's answer say which it is: a message has its response's status.
use mathlib.Core.Path.{ap}
use mathlib.Core.List.{List}
use Prim.Native.Nat.{ℕ}
use lib.ListN.{get_or}
use Rattle.message.specs.Answer.{OneAnswer}
use Rattle.message.specs.Format.{Message}
use Rattle.message.proofs.Answers.{one-answered-as}
use Rattle.reader.specs.Numbers.{number}
use Rattle.reader.proofs.Answers.{one-number}
use Rattle.response.specs.Response.{message_of, numbered}

one-message : (d : List ℕ) → OneAnswer (λ (status : ℕ). message_of d status)
one-message d status k e = ap (λ (m : Message). get_or m.after 0 0) e

pub one-reading : (d : List ℕ) → OneAnswer (numbered d)
one-reading d = one-answered-as (λ (status : ℕ). message_of d status) number (one-message d) one-number

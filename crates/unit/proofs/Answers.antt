-- The number and value of a step's answer say which it is.
use mathlib.Core.Path.{◌≡◌, refl}
use mathlib.Core.Bool.{cond}
use lib.Dec.{eqb}
use Rattle.message.specs.Answer.{Answer, gives, refused, OneAnswer}
use Rattle.message.proofs.Answers.{by-inverse}
use Rattle.unit.specs.Calls.{stepped}
use Rattle.unit.specs.declared.Unit.{Unit}
use Rattle.unit.specs.declared.StepError.{StepError}
use Rattle.unit.specs.declared.StepError.TheVariants.{Level, Buffer}
use Rattle.std.specs.Prelude.{Result, Ok, Err}

was-stepped : Answer Unit → Result Unit StepError
was-stepped (gives u) = Ok u
was-stepped (refused k) = Err (cond (eqb k 5) Level Buffer)

stepped-back : (r : Result Unit StepError) → was-stepped (stepped r) ≡ r
unfolding was-stepped
stepped-back (Ok u) = refl
stepped-back (Err Level) = refl
stepped-back (Err Buffer) = refl

pub one-stepped : OneAnswer stepped
one-stepped = by-inverse stepped was-stepped stepped-back

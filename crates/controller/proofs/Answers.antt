-- The number and value of a step's answer say which it is.
use mathlib.Core.Path.{◌≡◌, refl}
use mathlib.Core.Bool.{cond}
use lib.Dec.{eqb}
use Rattle.std.specs.Prelude.{Result, Ok, Err}
use Rattle.message.specs.Answer.{Answer, gives, refused, OneAnswer}
use Rattle.message.proofs.Answers.{by-inverse}
use Rattle.controller.specs.Calls.{stepped}
use Rattle.turn.specs.declared.Event.{Event}
use Rattle.controller.specs.declared.StepError.{StepError}
use Rattle.controller.specs.declared.StepError.TheVariants.{Level, Data, Buffer}

was-stepped : Answer Event → Result Event StepError
was-stepped (gives event) = Ok event
was-stepped (refused k) = Err (cond (eqb k 5) Level (cond (eqb k 10) Data Buffer))

stepped-back : (r : Result Event StepError) → was-stepped (stepped r) ≡ r
unfolding was-stepped
stepped-back (Ok event) = refl
stepped-back (Err Level) = refl
stepped-back (Err Data) = refl
stepped-back (Err Buffer) = refl

pub one-stepped : OneAnswer stepped
one-stepped = by-inverse stepped was-stepped stepped-back

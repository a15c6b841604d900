-- The number and value of an answer say which it is: making, submitting and acknowledging.
use mathlib.Core.Path.{◌≡◌, refl}
use mathlib.Core.Bool.{cond}
use lib.Dec.{eqb}
use Rattle.std.specs.Prelude.{Result, Ok, Err}
use Rattle.message.specs.Answer.{Answer, gives, refused, OneAnswer}
use Rattle.message.proofs.Answers.{by-inverse}
use Rattle.application.specs.Calls.{Done, made, submitted, acknowledged}
use Rattle.application.specs.declared.MakeError.{MakeError}
use Rattle.application.specs.declared.SubmitError.{SubmitError}
use Rattle.application.specs.declared.SubmitError.TheVariants.{Running, TooLong, PollCommand, FullRing, ShortResponse}
use Rattle.application.specs.declared.NotMarked.{NotMarked}

was-made : Answer Done → Result Done MakeError
was-made (gives d) = Ok d
was-made (refused k) = Err (record {})

made_back : (r : Result Done MakeError) → was-made (made r) ≡ r
unfolding was-made
made_back (Ok d) = refl
made_back (Err e) = refl

pub one-made : OneAnswer made
one-made = by-inverse made was-made made_back

was-submitted : Answer Done → Result Done SubmitError
was-submitted (gives d) = Ok d
was-submitted (refused k) =
    Err (cond (eqb k 1) Running (cond (eqb k 2) TooLong (cond (eqb k 3) PollCommand (cond (eqb k 4) FullRing ShortResponse))))

submitted-back : (r : Result Done SubmitError) → was-submitted (submitted r) ≡ r
unfolding was-submitted
submitted-back (Ok d) = refl
submitted-back (Err Running) = refl
submitted-back (Err TooLong) = refl
submitted-back (Err PollCommand) = refl
submitted-back (Err FullRing) = refl
submitted-back (Err ShortResponse) = refl

pub one-submitted : OneAnswer submitted
one-submitted = by-inverse submitted was-submitted submitted-back

was-acknowledged : Answer Done → Result Done NotMarked
was-acknowledged (gives d) = Ok d
was-acknowledged (refused k) = Err (record {})

acknowledged-back : (r : Result Done NotMarked) → was-acknowledged (acknowledged r) ≡ r
unfolding was-acknowledged
acknowledged-back (Ok d) = refl
acknowledged-back (Err e) = refl

pub one-acknowledged : OneAnswer acknowledged
one-acknowledged = by-inverse acknowledged was-acknowledged acknowledged-back

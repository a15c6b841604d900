-- The number and value of an answer say which it is: making, feeding and raising.
use mathlib.Core.Path.{◌≡◌, refl}
use mathlib.Core.Bool.{cond}
use lib.Dec.{eqb}
use Rattle.message.specs.Answer.{Answer, gives, refused, OneAnswer}
use Rattle.message.proofs.Answers.{by-inverse}
use Rattle.unit.specs.declared.Unit.{Unit}
use Rattle.host.specs.Calls.{made, fed, raised}
use Rattle.std.specs.Prelude.{Result, Ok, Err}
use Rattle.host.specs.declared.MakeError.{MakeError}
use Rattle.host.specs.declared.MakeError.TheVariants.{Setting}
use Rattle.host.specs.declared.FeedError.{FeedError}
use Rattle.host.specs.declared.FeedError.TheVariants.{Full, NotOpen}
use Rattle.host.specs.declared.RaiseError.{RaiseError}
use Rattle.host.specs.declared.RaiseError.TheVariants.{NotEnabled}

was-made : Answer Unit → Result Unit MakeError
was-made (gives u) = Ok u
was-made (refused k) = Err Setting

made_back : (r : Result Unit MakeError) → was-made (made r) ≡ r
unfolding was-made
made_back (Ok u) = refl
made_back (Err Setting) = refl

pub one-made : OneAnswer made
one-made = by-inverse made was-made made_back

was-fed : Answer Unit → Result Unit FeedError
was-fed (gives u) = Ok u
was-fed (refused k) = Err (cond (eqb k 6) Full NotOpen)

fed-back : (r : Result Unit FeedError) → was-fed (fed r) ≡ r
unfolding was-fed
fed-back (Ok u) = refl
fed-back (Err Full) = refl
fed-back (Err NotOpen) = refl

pub one-fed : OneAnswer fed
one-fed = by-inverse fed was-fed fed-back

was-raised : Answer Unit → Result Unit RaiseError
was-raised (gives u) = Ok u
was-raised (refused k) = Err NotEnabled

raised-back : (r : Result Unit RaiseError) → was-raised (raised r) ≡ r
unfolding was-raised
raised-back (Ok u) = refl
raised-back (Err NotEnabled) = refl

pub one-raised : OneAnswer raised
one-raised = by-inverse raised was-raised raised-back

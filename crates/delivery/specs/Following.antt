-- A unit without lines: what is inside it, followed through a log. Nothing but its own deeds and the calls of its host changes that.
use Rattle.std.specs.Prelude.{ℕ, cond, List, [], ◌∷◌, eqb}
use Rattle.bus.specs.declared.Station.{Station}
use Rattle.frame.specs.Frame.{bare}
use Rattle.header.specs.declared.Command.{Command}
use Rattle.inside.specs.Calls.{called}
use Rattle.inside.specs.Inside.{Inside, inside_of, reply_for, taken_for, responded}
use Rattle.kind.specs.Kinds.{kind_of}
use Rattle.serial.specs.declared.Reply.{Reply}
use Rattle.serial.specs.declared.Reply.TheVariants.{Silent}
use Rattle.delivery.specs.Log.{Deed, took, settled, spoke, done, Mark, begins, acts, does, asks, submitted}

-- Beside it stand the command of the frame with its data, and the answer that was fixed last.
pub record Whole : Type 0 where
  pub inside : Inside
  pub command : Command
  pub lent : List ℕ
  pub reply : Reply

abbrev pub whole_of : Station → Whole
whole_of st = record { inside = inside_of st; command = bare 0 0; lent = []; reply = Silent }

abbrev pub with_inside : Whole → Inside → Whole
with_inside u x = record { inside = x; command = u.command; lent = u.lent; reply = u.reply }

-- The effects happen as the last nibble is taken; two wait until the response is done.
abbrev pub doing : ℕ → Whole → Deed → Whole
doing own u (took n) = u
doing own u (settled x) = record { inside = taken_for own u.inside u.command u.lent; command = u.command; lent = u.lent; reply = reply_for own u.inside u.command u.lent }
doing own u (spoke n) = u
doing own u done = with_inside u (responded u.inside u.reply)

abbrev pub following : ℕ → Whole → Mark → Whole
following own u (begins f lent found) = record { inside = u.inside; command = f.command; lent = lent; reply = u.reply }
following own u (acts a) = u
following own u (does code e) = cond (eqb code own) (doing own u e) u
following own u (asks code call) = cond (eqb code own) (with_inside u (called (kind_of own) call u.inside)) u
following own u (submitted k d response) = u

abbrev pub following_all : ℕ → Whole → List Mark → Whole
following_all own u [] = u
following_all own u (m ∷ ms) = following_all own (following own u m) ms

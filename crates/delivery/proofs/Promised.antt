-- Document 01, "The serial peripheral": the one response of a unit to a whole command.
use Prim.Native.Nat.{ℕ}
use mathlib.Core.Path.{◌≡◌}
use mathlib.Core.List.{List}
use Rattle.header.specs.declared.Command.{Command}
use Rattle.inside.specs.Calls.{HostCall, called_all}
use Rattle.inside.specs.Inside.{Inside, reply_for, taken_for}
use Rattle.inside.specs.Lawful.{Fit}
use Rattle.kind.specs.Kinds.{kind_of}
use Rattle.serial.specs.declared.Reply.{Reply}

-- What is to be known of the moment in which a unit takes the last nibble: of its code, and of what is inside it.
abbrev pub Moment : Type 1
Moment = ℕ → Inside → Type 0

-- A reply r that stands, of the unit with this code in which x is inside now: it was given by the whole-message definition when the unit
-- took the last nibble, with `given` inside it; the effects have happened, and since then nothing but these calls of its host.
pub record Promised (T : Moment) (own : ℕ) (c : Command) (d : List ℕ) (r : Reply) (x : Inside) : Type 0 where
  pub given : Inside
  pub took : T own given
  pub fit : Fit (kind_of own) given
  pub said : r ≡ reply_for own given c d
  pub calls : List HostCall
  pub now : x ≡ called_all (kind_of own) calls (taken_for own given c d)

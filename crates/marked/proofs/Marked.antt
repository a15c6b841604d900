-- The checker computes both sides; the kind of the unit with code 20 is opened for it.
use mathlib.Core.Path.{refl}
use Rattle.kind.specs.Kinds.{kind_of}
use Rattle.marked.specs.Cases.{Marked}

pub marked : Marked
unfolding kind_of
marked = refl

-- The checker computes both sides.
use mathlib.Core.Path.{refl}
use Rattle.screen.specs.Examples.{States, Pages}

pub states : States
states = refl

pub pages : Pages
pages = refl

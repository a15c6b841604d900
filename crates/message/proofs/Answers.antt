-- The numbers and values of an answer say which it is, where a function takes them back to it; so those of a call do, where the number of
-- an error tells it from the others, and what a value means tells it from the others.
use Prim.Native.Nat.{ℕ}
use mathlib.Core.Path.{◌≡◌, sym, ◌∙◌, ap}
use Rattle.std.specs.Prelude.{Ok, Err}
use Rattle.message.specs.Answer.{answered, answered_as, OneAnswer}

pub by-inverse : {A B : Type 0} (f : A → B) (g : B → A) → ((a : A) → g (f a) ≡ a) → OneAnswer f
by-inverse f g back r q e = sym (back r) ∙ ap g e ∙ back q

pub one-answered-as : {A B E : Type 0} (means : A → B) (number : E → ℕ) → OneAnswer means → OneAnswer number → OneAnswer (answered_as means number)
one-answered-as means number values errors (Ok a) (Ok b) e = ap Ok (values a b (cc))
one-answered-as means number values errors (Ok a) (Err g) e = cc
one-answered-as means number values errors (Err f) (Ok b) e = cc
one-answered-as means number values errors (Err f) (Err g) e = ap Err (errors f g (cc))

pub one-answered : {A E : Type 0} (number : E → ℕ) → OneAnswer number → OneAnswer (answered {A = A} number)
one-answered number errors (Ok a) (Ok b) e = cc
one-answered number errors (Ok a) (Err g) e = cc
one-answered number errors (Err f) (Ok b) e = cc
one-answered number errors (Err f) (Err g) e = ap Err (errors f g (cc))

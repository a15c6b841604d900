-- The bytes of s from one place to another, laid over d.
use Rattle.std.specs.Prelude.{List, ◌++◌, ℕ, ◌-◌, take, drop}

abbrev pub with_part : ℕ → ℕ → List ℕ → List ℕ → List ℕ
with_part from to s d = take from d ++ (take (to - from) (drop from s) ++ drop to d)

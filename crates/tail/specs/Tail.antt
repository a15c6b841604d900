-- Document 01, "Messages": the data goes into the part that starts after the header, and bytes past it keep their values.
use Rattle.std.specs.Prelude.{cond, List, ◌++◌, ℕ, leb, length, drop}

-- A tail with data at its front. One that is too short for it stays as it is.
abbrev pub filled_with : List ℕ → List ℕ → List ℕ
filled_with d out = cond (leb (length d) (length out)) (d ++ drop (length d) out) out

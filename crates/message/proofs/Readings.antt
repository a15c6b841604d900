-- What a check answers, by the tests it makes; and what those were where it found a message.
use Prim.Native.Nat.{ℕ, ◌+◌, ◌<◌, ◌≤◌}
use native.Mathlib.Omega.{arith}
use mathlib.Core.Path.{◌≡◌, refl, ◌∙◌, ap}
use mathlib.Core.Bool.{Bool, true, false, cond}
use mathlib.Core.List.{List}
use borrow.Author.Tests.{lt-ltb, le-ltb, eq-eqb, ne_eqb, eqb-true}
use lib.Dec.{ltb, eqb}
use lib.ListN.{length}
use Rattle.message.specs.Answer.{gives, refused}
use Rattle.message.specs.Reading.{announced, checking}

was_found : (t u : Bool) (x n : ℕ) → cond t (refused 9) (cond u (gives x) (refused 10)) ≡ gives n → (u ≡ true) × (x ≡ n)
was_found true u x n e = absurd (let z : ◌≡◌ {A = ℕ} 0 1 = cc in omega arith)
was_found false true x n e = (refl, (cc))
was_found false false x n e = absurd (let z : ◌≡◌ {A = ℕ} 0 1 = cc in omega arith)

module _ (at behind : ℕ) (s : List ℕ) where
  pub check-short : length s < at + 2 + behind → checking at behind s ≡ refused 9
  check-short h = rw (lt-ltb (length s) (at + 2 + behind) h)

  pub check-disagrees : at + 2 + behind ≤ length s → (length s ≡ at + 2 + behind + announced at s → ⊥) → checking at behind s ≡ refused 10
  check-disagrees h n = rw (le-ltb (length s) (at + 2 + behind) h, ne_eqb (length s) (at + 2 + behind + announced at s) n)

  pub check-whole : length s ≡ at + 2 + behind + announced at s → checking at behind s ≡ gives (announced at s)
  check-whole l = rw (le-ltb (length s) (at + 2 + behind) (omega arith), eq-eqb (length s) (at + 2 + behind + announced at s) l)

  -- A message that was found announced its own length, which is the slice's.
  pub found-whole : {n : ℕ} → checking at behind s ≡ gives n → (announced at s ≡ n) × (length s ≡ at + 2 + behind + n)
  found-whole {n} e =
      let was = was_found (ltb (length s) (at + 2 + behind)) (eqb (length s) (at + 2 + behind + announced at s)) (announced at s) n e in
      (was.1, eqb-true (length s) (at + 2 + behind + announced at s) was.0 ∙ ap (λ (k : ℕ). at + 2 + behind + k) was.1)

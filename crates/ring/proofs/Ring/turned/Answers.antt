-- `Ring::turned` meets its contract: the front is cut and put at the back.
use Prim.Native.Nat.{◌<◌}
use native.Mathlib.Omega.{arith}
use mathlib.Core.Path.{◌≡◌, ◌∙◌, ap}
use mathlib.Core.List.{[], ◌∷◌, ◌++◌}
use borrow.Author.Rules.{rules}
use lib.ListN.{length}
use Rattle.ring.specs.Ring.{ring_of, live, counted, cut_at}
use Rattle.ring.specs.declared.Entry.{Entry}
use Rattle.ring.proofs.Laws.{mapped_length, length-live, turned_some}
use Rattle.ring.proofs.Ring.turned.Goals as goal

pub returns : goal.returns
returns c =
    let r = c.args.self in
    let full : length r.entries ≡ 16 = search (rules, mapped_length) in
    let long : length (live r) ≡ counted r = length-live r full in
    let some : 0 < length (live r) = omega (arith, long, c.if-len-eq0.false, c.len.ensures) in
    c.moved.ensures
    ∙ ap (λ (e : Entry). ring_of (cut_at 0 (live r) ++ (e ∷ []))) c.entry.ensures
    ∙ ap ring_of (turned_some (live r) some)

-- `Ring::joined` meets its contract: the three that stay out, and the one that joins.
use Prim.Native.Nat.{◌≤◌, ◌<◌}
use native.Mathlib.Omega.{arith}
use mathlib.Core.Bool.{false}
use mathlib.Core.Path.{sym, ◌∙◌, ap}
use mathlib.Core.List.{List, [], ◌∷◌, ◌++◌}
use Rattle.std.proofs.lemmas.Bool.{ne_eqb}
use lib.ListN.{length}
use Rattle.ring.specs.Ring.{ring_of, live, counted, entry_of}
use Rattle.ring.specs.declared.Entry.{Entry}
use Rattle.ring.proofs.Laws.{live_below, live-within, cut_past, joins-back}
use Rattle.ring.proofs.Ring.joined.Goals as goal

pub returns-then-len-lt16 : goal.returns-then-len-lt16
returns-then-len-lt16 c =
    let a = c.args in
    let l = live a.self in
    let within : length l ≤ counted a.self = live-within a.self in
    let room : length l < 16 = omega (arith, within, c.if-len-lt16.true, c.len.ensures) in
    c.moved.ensures
    ∙ ap (λ (m : List Entry). ring_of (m ++ (entry_of a.code false ∷ []))) (cut_past 16 l (live_below a.self))
    ∙ ap ring_of (sym (joins-back a.code l (ne_eqb a.code 0 c.if-is_all.false) (sym c.has.ensures ∙ c.if-has.false) room))

-- `Ring::count_without` meets its contract: cutting takes one entry away where there is one.
use native.Mathlib.Omega.{arith}
use mathlib.Core.Path.{◌≡◌}
use borrow.Author.Rules.{rules}
use lib.ListN.{length}
use Rattle.ring.proofs.Laws.{mapped_length, count_cut, count_past}
use Rattle.ring.proofs.Ring.count_without.Goals as goal

pub returns-then-at-n : goal.returns-then-at-n
returns-then-at-n c =
    let a = c.args in
    let full : length a.self.entries ≡ 16 = search (rules, mapped_length) in
    (count_cut a.self a.at _ full c.len-n.ensures c.if-at-n.true, omega (arith, c.len-n.ensures))

pub returns-else-at-n : goal.returns-else-at-n
returns-else-at-n c =
    let a = c.args in
    let full : length a.self.entries ≡ 16 = search (rules, mapped_length) in
    (count_past a.self a.at _ full c.len-n.ensures c.if-at-n.false, omega (arith, c.len-n.ensures))

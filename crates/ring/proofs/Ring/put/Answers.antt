-- `Ring::put` meets its contract: a slot that is set is an entry that is set.
use Prim.Native.Nat.{◌<◌}
use native.Mathlib.Omega.{arith}
use mathlib.Core.Path.{◌≡◌}
use borrow.Author.Rules.{rules}
use lib.ListN.{length}
use Rattle.ring.specs.Ring.{live, counted}
use Rattle.ring.proofs.Laws.{mapped_length, length-live, put_in}
use Rattle.ring.proofs.Ring.put.Goals as goal

pub returns-then-at-len : goal.returns-then-at-len
returns-then-at-len c =
    let a = c.args in
    let full : length a.self.entries ≡ 16 = search (rules, mapped_length) in
    let long : length (live a.self) ≡ counted a.self = length-live a.self full in
    let within : a.at < length (live a.self) = omega (arith, long, c.if-at-len.true, c.len.ensures) in
    put_in (live a.self) c.normal-r.result a.at a.e c.normal-r.ensures within

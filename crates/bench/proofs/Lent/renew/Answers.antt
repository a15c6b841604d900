-- `Lent::renew` meets its contract: a byte's clone is that byte, so each fill leaves it in all places of its array.
use Rattle.std.proofs.Common.{rules, ◌≡◌, ℕ, replicate, length}
use mathlib.Core.Path.{ap, ◌∙◌}
use Rattle.bench.proofs.Lent.renew.Goals as goal

pub returns-clause-response : goal.returns-clause-response
returns-clause-response c =
    let filled : c.fill.new.self ≡ replicate (length c.args.self.now.response) 0 = c.fill.ensures.after (λ y e. e) in
    let all : length c.args.self.now.response ≡ 65536 = search rules in
    filled ∙ ap (λ (n : ℕ). replicate n 0) all

pub returns-clause-memory : goal.returns-clause-memory
returns-clause-memory c =
    let filled : c.fill-2.new.self ≡ replicate (length c.args.self.now.memory) 0xEE = c.fill-2.ensures.after (λ y e. e) in
    let all : length c.args.self.now.memory ≡ 38912 = search rules in
    filled ∙ ap (λ (n : ℕ). replicate n 0xEE) all

-- `unitround::sent` meets its contract: no response has more nibbles than a word can count.
use mathlib.Core.Path.{◌∙◌}
use native.Mathlib.Omega.{arith}
use Rattle.reply.specs.Reply.{last_nibble}
use Rattle.reply.proofs.Laws.{last_below}
use Rattle.unitround.proofs.Laws.{last-nibble, next-nibble}
use Rattle.unitround.proofs.sent.Goals as goal

pub overflow_add-words : goal.overflow_add-words
overflow_add-words c = omega (arith, c.if-wide-last.true, c.last.ensures, c.wide.ensures, last_below c.queue-q.result c.reply-reply.result)

pub returns-then-wide-last : goal.returns-then-wide-last
returns-then-wide-last c = let a = c.args in
    let reply-is = c.reply-reply.ensures in
    next-nibble a.words.now c.requires.is_responding c.requires.waits_no_more (c.last.ensures ∙ (λ k. last_nibble (c.queue-q.ensures k) (reply-is k))) c.wide.ensures c.requires.is_kept c.if-wide-last.true

pub returns : goal.returns
returns c = let a = c.args in
    let queue-is = c.queue-q.ensures in
    let reply-is = c.reply-reply.ensures in
    last-nibble a.words.now c.requires.is_responding c.requires.waits_no_more (c.last.ensures ∙ (λ k. last_nibble (queue-is k) (reply-is k))) c.wide.ensures c.if-wide-last.false c.leave.ensures

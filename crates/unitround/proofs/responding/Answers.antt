-- `unitround::responding` meets its contract: each tag of the sender is a case of `responding_step`.
use mathlib.Core.Path.{◌∙◌, sym}
use borrow.Author.Rules.{rules}
use Rattle.unitround.proofs.Laws.{begins, is-placed, still_kept, was-placed}
use Rattle.unitround.proofs.responding.Goals as goal

pub returns-then-flag : goal.returns-then-flag
returns-then-flag c = let a = c.args in
    begins a.words.now a.hsk a.input.now c.requires c.flag.ensures c.if-flag.true c.with_flag.ensures

pub returns-in-1 : goal.returns-in-1
returns-in-1 c = let a = c.args in
    was-placed a.words.now a.hsk a.input.now c.requires (sym c.flag.ensures ∙ c.if-flag.false) (search rules)

pub returns-else-not-hsk : goal.returns-else-not-hsk
returns-else-not-hsk c = let a = c.args in
    still_kept a.words.now a.hsk a.input.now c.requires (sym c.flag.ensures ∙ c.if-flag.false) (search rules) (search rules) (search rules)

pub returns-in_default : goal.returns-in_default
returns-in_default c = let a = c.args in
    is-placed a.words.now a.hsk a.input.now c.requires (sym c.flag.ensures ∙ c.if-flag.false) (search rules) (search rules) c.nibble-n.ensures c.with8-word.ensures

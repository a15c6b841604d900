-- `unitround::phase` meets its contract: each tag is a case of `phase_by`.
use borrow.Author.Rules.{rules}
use Rattle.unitround.proofs.Laws.{in-answered, in-idle, in-selecting, in-sitting-out}
use Rattle.unitround.proofs.phase.Goals as goal

pub returns-in-1 : goal.returns-in-1
returns-in-1 c = let a = c.args in
    in-selecting a.words.now a.seen a.busy a.buffer.now a.input.now a.output.now (search rules) c.selecting.ensures

pub returns-in-3 : goal.returns-in-3
returns-in-3 c = let a = c.args in
    in-answered a.words.now a.seen a.busy a.buffer.now a.input.now a.output.now (search rules) (search rules) (search rules) c.answered.ensures

pub returns-in-5 : goal.returns-in-5
returns-in-5 c = let a = c.args in
    in-sitting-out a.words.now a.seen a.busy a.buffer.now a.input.now a.output.now (search rules) (search rules) (search rules) (search rules) (search rules) c.with_flag.ensures

pub returns-in_default : goal.returns-in_default
returns-in_default c = let a = c.args in
    in-idle a.words.now a.seen a.busy a.buffer.now a.input.now a.output.now (search rules) (search rules) (search rules) (search rules) (search rules) c.leave.ensures

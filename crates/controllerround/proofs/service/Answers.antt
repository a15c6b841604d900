-- `controllerround::service` meets its contract: the front entry's turn, unless the ring is empty.
use borrow.Author.Tests.{eq-eqb, ne_eqb}
use mathlib.Core.Path.{◌∙◌, ap}
use Rattle.frame.specs.Frame.{begun}
use Rattle.turn.specs.Turn.{turn_of}
use Rattle.controllerround.proofs.Rounds.{no-turn, turn}
use Rattle.controllerround.proofs.service.Goals as goal

pub returns-then-len-eq0 : goal.returns-then-len-eq0
returns-then-len-eq0 c = no-turn c.args.words.now c.load_ring-ring.ensures c.len.ensures (eq-eqb c.len.result 0 c.if-len-eq0.true)

pub returns : goal.returns
returns c =
    turn c.args.words.now c.load_ring-ring.ensures c.len.ensures (ne_eqb c.len.result 0 c.if-len-eq0.false)
    (c.begin.ensures ∙ ap begun (c.frame_of.ensures ∙ ap turn_of c.entry.ensures))
    c.turned.ensures
    c.save_stage.ensures
    c.save_ring.ensures

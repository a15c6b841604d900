-- `controllerround::round` meets its contract: each stage in place.
use mathlib.Core.Path.{refl, ◌∙◌}
use borrow.Author.Tests.{eq-eqb, ne_eqb}
use Rattle.controllersending.specs.Sending.{stage_after}
use Rattle.controllersending.proofs.Laws.{carried}
use Rattle.controllerwords.specs.Controller.{loaded_frame}
use Rattle.controllerwords.specs.Layout.{STAGE, FIRST}
use Rattle.controllerwords.proofs.Laws.{stage_saved}
use Rattle.frame.specs.Frame.{begun, rest_step}
use Rattle.words.specs.Words.{at, flag_of}
use Rattle.controllerround.proofs.Tags.{stage_is, is_free}
use Rattle.controllerround.proofs.Rounds.{in_words, idle-high}
use Rattle.controllerround.proofs.round.Goals as goal

pub returns-then-listens : goal.returns-then-listens
returns-then-listens c =
    in_words c.args.words.now c.args.«data».now c.args.response.now c.args.seen c.args.busy (stage_is c.args.words.now 4 (eq-eqb (at c.args.words.now STAGE) 4 c.if-listens.true)) c.listening.ensures

pub returns-then-free : goal.returns-then-free
returns-then-free c =
    idle-high c.args.words.now c.args.«data».now c.args.response.now c.args.seen c.args.busy (stage_is c.args.words.now 0 (eq-eqb (at c.args.words.now STAGE) 0 c.if-free.true)) c.if-seen.false

pub returns-then-sends : goal.returns-then-sends
returns-then-sends c =
    in_words c.args.words.now c.args.«data».now c.args.response.now c.args.seen c.args.busy (stage_is c.args.words.now 3 (eq-eqb (at c.args.words.now STAGE) 3 c.if-sends.true)) (c.round.ensures ∙ carried c.args.words.now c.args.seen.hsk c.args.«data».now c.if-sends.true ∙ stage_saved c.args.words.now (stage_after c.args.words.now c.args.seen.hsk c.args.«data».now), (refl, refl))

pub returns-then-waits : goal.returns-then-waits
returns-then-waits c =
    in_words c.args.words.now c.args.«data».now c.args.response.now c.args.seen c.args.busy (stage_is c.args.words.now 2 (eq-eqb (at c.args.words.now STAGE) 2 c.if-waits.true)) (c.begin.ensures ∙ stage_saved c.args.words.now (begun (loaded_frame c.args.words.now)), (refl, refl))

pub returns-then-rests : goal.returns-then-rests
returns-then-rests c =
    in_words c.args.words.now c.args.«data».now c.args.response.now c.args.seen c.args.busy (stage_is c.args.words.now 1 (eq-eqb (at c.args.words.now STAGE) 1 c.if-rests.true)) (c.rest.ensures ∙ stage_saved c.args.words.now (rest_step (flag_of (at c.args.words.now FIRST))), (refl, refl))

pub returns : goal.returns
returns c =
    idle-high c.args.words.now c.args.«data».now c.args.response.now c.args.seen c.args.busy (is_free c.args.words.now (ne_eqb _ 4 c.if-listens.false) (ne_eqb _ 3 c.if-sends.false) (ne_eqb _ 2 c.if-waits.false) (ne_eqb _ 1 c.if-rests.false)) c.if-seen-2.false

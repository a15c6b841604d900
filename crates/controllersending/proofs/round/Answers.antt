-- `controllersending::round` meets its contract: its tests are those of `sending_step`.
use mathlib.Core.Path.{sym, ◌∙◌, ap}
use borrow.Author.Rules.{rules}
use Rattle.controllerwords.specs.Layout.{NIBBLE, NEXT}
use Rattle.frame.specs.Frame.{nibble_of}
use Rattle.frame.specs.declared.Frame.{Frame}
use Rattle.words.specs.Words.{at, number_in}
use Rattle.controllersending.proofs.Laws.{places}
use Rattle.controllersending.proofs.round.Goals as goal

pub returns-in_default : goal.returns-in_default
returns-in_default c = places c.args.words.now c.args.hsk c.args.«data».now (sym c.flag.ensures ∙ c.if-flag.false) (search rules) (search rules)
    (c.with8-nibble.ensures ∙ ap (number_in 256 (at c.args.words.now NIBBLE)) (c.nibble-n.ensures ∙ ap (λ (f : Frame). nibble_of f c.args.«data».now (at c.args.words.now NEXT)) c.load_frame-f.ensures))

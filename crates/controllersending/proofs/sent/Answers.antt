-- `controllersending::sent` meets its contract: there is a next nibble, or it listens.
use mathlib.Core.Path.{◌∙◌, ap}
use Rattle.controllerwords.specs.Controller.{response_in}
use Rattle.frame.specs.Frame.{last_of}
use Rattle.controllersending.proofs.Laws.{listens}
use Rattle.controllersending.proofs.sent.Goals as goal

pub returns : goal.returns
returns c =
    c.save_response.ensures
    ∙ (λ j. response_in (c.save_listening.ensures j) (c.new.ensures j))
    ∙ listens c.args.words.now c.requires (c.last_nibble.ensures ∙ ap last_of c.number16-n.ensures) c.if-i-last_nibble.false

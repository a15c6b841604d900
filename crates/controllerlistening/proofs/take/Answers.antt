-- `controllerlistening::take` meets its contract: the low nibble of a byte, or any other.
use mathlib.Core.Path.{sym, ◌∙◌}
use Rattle.controllerlistening.proofs.Laws.{taken, stored, low-taken, low-stored}
use Rattle.controllerlistening.proofs.take.Goals as goal

pub returns : goal.returns
returns c =
    let heard = c.save_listening.ensures in
    let ws = c.save_listening.new.words in
    let going = sym c.is_over.ensures ∙ c.if-is_over.false in
    let whole = sym c.flag.ensures ∙ c.if-flag.false in (
      taken c.args.words.now c.args.nibble heard (low-taken ws c.args.nibble going whole c.with_flag-half.ensures c.with8-low.ensures),
      stored c.args.words.now c.args.nibble heard c.args.response.now (low-stored ws c.args.nibble going whole c.args.response.now),
    )

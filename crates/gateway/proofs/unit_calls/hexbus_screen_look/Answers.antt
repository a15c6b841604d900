-- `hexbus_screen_look` meets its contract: what the loaded screen shows, word by word.
use mathlib.Core.Path.{◌∙◌, ap}
use Rattle.words.specs.Words.{bit}
use Rattle.gateway.specs.Unit.{screen_looks}
use Rattle.gateway.proofs.Laws.{looked-at}
use Rattle.gateway.proofs.unit_calls.hexbus_screen_look.Goals as goal

pub returns : goal.returns
returns c =
    looked-at c.load_screen-s.result
    c.bit.ensures.0
    c.bit-2.ensures.0
    c.bit-3.ensures.0
    c.bit-4.ensures.0
    c.bit-5.ensures.0
    (c.bit-6.ensures.0 ∙ ap bit c.is_reading.ensures)
    ∙ ap screen_looks c.load_screen-s.ensures

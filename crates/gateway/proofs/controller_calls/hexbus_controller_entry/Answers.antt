-- `hexbus_controller_entry` meets its contract: an entry of the loaded ring.
use mathlib.Core.Path.{◌∙◌, ap}
use lib.ListN.{get_or}
use Rattle.controllerwords.specs.Controller.{entry_number}
use Rattle.ring.specs.Ring.{none, live}
use Rattle.ring.specs.declared.Ring.{Ring}
use Rattle.gateway.proofs.controller_calls.hexbus_controller_entry.Goals as goal

pub returns : goal.returns
returns c = c.entry_number.ensures.0 ∙ ap entry_number (c.entry.ensures ∙ ap (λ (r : Ring). get_or (live r) c.args.i none) c.load_ring-ring.ensures)

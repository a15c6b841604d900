-- `hexbus_response_read` meets its contract: a response announces its data in two bytes, so its length fits a word.
use native.Mathlib.Omega.{arith}
use mathlib.Core.Path.{ap}
use lib.ListN.{length}
use Rattle.message.specs.Format.{response_format}
use Rattle.gateway.proofs.Messages.{data_short}
use Rattle.gateway.proofs.message_calls.hexbus_response_read.Goals as goal

pub length_in-requires : goal.length_in-requires
length_in-requires c =
    omega (arith, ap length c.data_of.ensures, data_short response_format c.args.message.now (λ i. omega (arith, c.type_inv.message i)))

-- `hexbus_command_nibble` meets its contract: a nibble of the command that the words say.
use mathlib.Core.Path.{◌∙◌, ap}
use Rattle.command.specs.Command.{message_of}
use Rattle.header.specs.declared.Command.{Command}
use Rattle.message.specs.Format.{command_format, bytes_of}
use Rattle.message.specs.Nibbles.{nibble_in}
use Rattle.gateway.proofs.message_calls.hexbus_command_nibble.Goals as goal

pub returns : goal.returns
returns c = c.nibble.ensures ∙ ap (λ (k : Command). nibble_in (bytes_of command_format (message_of k c.args.«data».now)) c.args.i) c.command_in.ensures

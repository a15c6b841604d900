-- Document 01, "Messages" (000, 4.3): a command's fields as the code holds them, and what stands before its data.
use Rattle.std.specs.Prelude.{ℕ, ◌<◌, List, [], ◌∷◌, get_or}
use Rattle.message.specs.Format.{command_format, head_of, size}
use Rattle.message.specs.Reading.{values_in, announced}
use Rattle.header.specs.declared.Command.{Command}
use Rattle.header.specs.declared.Header.{Header}

-- What the types of a command's fields say of them.
pub record InRange (c : Command) : Type 0 where
  pub device : c.device < 256
  pub command : c.command < 256
  pub unit : c.logical_unit < 256
  pub number : c.record_number < 65536
  pub buffer : c.buffer_length < 65536

-- The values of a command's fields in the order of its format, and the command of such values.
abbrev pub fields_of : Command → List ℕ
fields_of c = c.device ∷ c.command ∷ c.logical_unit ∷ c.record_number ∷ c.buffer_length ∷ []

abbrev pub command_from : List ℕ → Command
command_from vs = record {
  device = get_or vs 0 0;
  command = get_or vs 1 0;
  logical_unit = get_or vs 2 0;
  record_number = get_or vs 3 0;
  buffer_length = get_or vs 4 0;
}

-- The nine bytes before the data, and what they say.
abbrev pub header_bytes : Header → List ℕ
header_bytes h = head_of command_format (fields_of h.command) h.data_length

abbrev pub header_in : List ℕ → Header
header_in s = record { command = command_from (values_in command_format.before s); data_length = announced (size command_format.before) s }

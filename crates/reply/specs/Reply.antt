-- Document 01, "The serial peripheral": the response that a unit's reply is, as a message.
use Rattle.std.specs.Prelude.{ℕ, ◌+◌, ◌*◌, min, Bool, true, false, List, [], ◌∷◌, ◌++◌, take}
use Rattle.field.specs.Field.{field}
use Rattle.message.specs.Format.{response_format, bytes_of}
use Rattle.queue.specs.Queue.{held}
use Rattle.queue.specs.declared.Queue.{Queue}
use Rattle.response.specs.Response.{message_of}
use Rattle.serial.specs.declared.Reply.{Reply}
use Rattle.serial.specs.declared.Reply.TheVariants.{Silent, Status, Opened, Bytes, Address, Polled}

-- Whether it is no response at all.
abbrev pub is_silent : Reply → Bool
is_silent Silent = true
is_silent (Status number) = false
is_silent (Opened accepted) = false
is_silent (Bytes n) = false
is_silent (Address n row column) = false
is_silent Polled = false

-- Its data, of a unit whose input queue holds these bytes: an open's accepted length and record 0; a read's oldest bytes; the first n bytes
-- of the cursor's row and column.
abbrev pub reply_data : List ℕ → Reply → List ℕ
reply_data input Silent = []
reply_data input (Status number) = []
reply_data input (Opened accepted) = field 2 accepted ++ field 2 0
reply_data input (Bytes n) = take n input
reply_data input (Address n row column) = take n (row ∷ column ∷ [])
reply_data input Polled = []

-- Its status. (Silence has none; where no response comes, an operation ends with FF.)
abbrev pub reply_status : Reply → ℕ
reply_status Silent = 0xFF
reply_status (Status number) = number
reply_status (Opened accepted) = 0x00
reply_status (Bytes n) = 0x00
reply_status (Address n row column) = 0x00
reply_status Polled = 0x00

-- The bytes of the response.
abbrev pub response_bytes : List ℕ → Reply → List ℕ
response_bytes input reply = bytes_of response_format (message_of (reply_data input reply) (reply_status reply))

-- How many bytes of data it has, of a unit with this input queue.
abbrev pub reply_length : Queue → Reply → ℕ
reply_length q Silent = 0
reply_length q (Status number) = 0
reply_length q (Opened accepted) = 4
reply_length q (Bytes n) = min n (held q)
reply_length q (Address n row column) = min n 2
reply_length q Polled = 0

-- The number of its last nibble, from 0: a response with n bytes of data has 6 + 2 n nibbles.
abbrev pub last_nibble : Queue → Reply → ℕ
last_nibble q reply = 5 + 2 * reply_length q reply

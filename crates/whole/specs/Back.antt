-- Document 01, "The controller and its ring": what the controller has taken of a response, nibble by nibble, the lines aside, and the
-- whole response that it comes to. `proofs/Back.antt` proves the statements.
use Rattle.std.specs.Prelude.{ℕ, zero, suc, ◌+◌, ◌*◌, ◌<◌, ◌≤◌, ◌≡◌, Bool, false, cond, List, ◌++◌, length, drop}
use Rattle.answer.specs.Answer.{nothing_taken, taken_with, buffer_with, is_over}
use Rattle.answer.specs.declared.Response.{Response}
use Rattle.answer.specs.declared.Response.TheVariants.{Complete}
use Rattle.field.specs.Field.{Below}
use Rattle.message.specs.Format.{response_format, bytes_of}
use Rattle.message.specs.Nibbles.{nibble_in}
use Rattle.response.specs.Response.{message_of}

-- The bytes of a response.
abbrev pub response_for : List ℕ → ℕ → List ℕ
response_for d status = bytes_of response_format (message_of d status)

-- A response of which k nibbles were taken, while the buffer length field is `limit`; and the response buffer then.
abbrev pub taken_at : List ℕ → ℕ → ℕ → Response
taken_at bytes limit zero = nothing_taken
taken_at bytes limit (suc k) = taken_with (taken_at bytes limit k) (nibble_in bytes k) limit

abbrev pub stored_at : List ℕ → ℕ → Bool → ℕ → List ℕ → List ℕ
stored_at bytes limit stores zero buffer = buffer
stored_at bytes limit stores (suc k) buffer = buffer_with (taken_at bytes limit k) (nibble_in bytes k) stores (stored_at bytes limit stores k buffer)

-- What the types of a response say of it, and that its data fits the buffer length field.
pub record Answered (d : List ℕ) (status limit : ℕ) : Type 0 where
  pub bytes : Below 256 d
  pub number : status < 256
  pub short : length d ≤ 65535
  pub fits : length d ≤ limit

-- Its nibbles, two to a byte.
abbrev pub length_of : List ℕ → ℕ
length_of d = 2 * (3 + length d)

-- The response buffer with the data at its front, the rest unchanged; for an answer that is not to be stored, as it was.
abbrev pub received : Bool → List ℕ → List ℕ → List ℕ
received stores d buffer = cond stores (d ++ drop (length d) buffer) buffer

-- All nibbles taken, the response is complete, with its status and the number of its data bytes; before that it is not over.
abbrev pub Completes : Type 0
Completes = (d : List ℕ) (status limit : ℕ) → Answered d status limit → taken_at (response_for d status) limit (length_of d) ≡ Complete status (length d)

abbrev pub NotBefore : Type 0
NotBefore = (d : List ℕ) (status limit k : ℕ) → Answered d status limit → k < length_of d → is_over (taken_at (response_for d status) limit k) ≡ false

-- The response buffer then holds the data bytes at its front.
abbrev pub Received : Type 0
Received =
    (d : List ℕ) (status limit : ℕ) (stores : Bool) (buffer : List ℕ)
    → Answered d status limit
    → limit ≤ length buffer
    → stored_at (response_for d status) limit stores (length_of d) buffer ≡ received stores d buffer

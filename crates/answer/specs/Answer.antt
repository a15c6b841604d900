-- Document 01, "The controller and its ring": a response as the controller takes it, nibble by nibble.
use Rattle.std.specs.Prelude.{ℕ, ◌+◌, ◌-◌, ◌%◌, min, Bool, true, false, cond, List, ltb, eqb, set}
use Rattle.field.specs.Field.{field, value_of, byte_from}
use Rattle.message.specs.Format.{response_format, start}
use Rattle.answer.specs.declared.Partial.{Partial}
use Rattle.answer.specs.declared.Response.{Response}
use Rattle.answer.specs.declared.Response.TheVariants.{Taking, Complete, TooLarge}

-- A response of which whole bytes are there: its data length so far, and the byte that is next.
abbrev pub partial : ℕ → ℕ → Partial
partial length place = record { length = length; place = place; half = false; low = 0 }

abbrev pub nothing_taken : Response
nothing_taken = Taking (partial 0 0)

-- A byte of the data length is there. Announced data longer than the buffer length field ends the frame.
abbrev pub length_with : Partial → ℕ → ℕ
length_with p b = value_of (set (field 2 p.length) (p.place % 2) b)

abbrev pub length_taken : Partial → ℕ → ℕ → Response
length_taken p b limit =
    cond (eqb p.place 0) (Taking (partial (length_with p b) 1))
    (cond (ltb limit (length_with p b)) TooLarge (Taking (partial (length_with p b) 2)))

-- A data byte is there, or, behind the data, the status: the response is complete.
abbrev pub is_data : Partial → Bool
is_data p = ltb (p.place - start response_format) p.length

abbrev pub body_taken : Partial → ℕ → Response
body_taken p b = cond (is_data p) (Taking (partial p.length (p.place + 1))) (Complete b p.length)

abbrev pub byte_taken : Partial → ℕ → ℕ → Response
byte_taken p b limit = cond (ltb p.place (start response_format)) (length_taken p b limit) (body_taken p b)

-- The whole data bytes received for a submitted command stand at the front of the response buffer, each from the round its second
-- nibble is taken; the rest is unchanged.
abbrev pub body_buffer : Partial → ℕ → Bool → List ℕ → List ℕ
body_buffer p b stores buffer = cond stores (cond (is_data p) (set buffer (p.place - start response_format) b) buffer) buffer

abbrev pub byte_buffer : Partial → ℕ → Bool → List ℕ → List ℕ
byte_buffer p b stores buffer = cond (ltb p.place (start response_format)) buffer (body_buffer p b stores buffer)

-- A response with one nibble more, while the buffer length field is `limit`. Past its end nothing is taken.
abbrev pub half_taken : Partial → ℕ → Partial
half_taken p nibble = record { length = p.length; place = p.place; half = true; low = nibble }

abbrev pub taken_with : Response → ℕ → ℕ → Response
taken_with (Taking p) nibble limit = cond p.half (byte_taken p (byte_from p.low nibble) limit) (Taking (half_taken p nibble))
taken_with (Complete status count) nibble limit = Complete status count
taken_with TooLarge nibble limit = TooLarge

abbrev pub buffer_with : Response → ℕ → Bool → List ℕ → List ℕ
buffer_with (Taking p) nibble stores buffer = cond p.half (byte_buffer p (byte_from p.low nibble) stores buffer) buffer
buffer_with (Complete status count) nibble stores buffer = buffer
buffer_with TooLarge nibble stores buffer = buffer

-- Whether no more of it is to be taken: its last nibble was, or its length is too large.
abbrev pub is_over : Response → Bool
is_over (Taking p) = false
is_over (Complete status count) = true
is_over TooLarge = true

-- A complete response's status ends its operation. Any operation without a complete response ends with status FF.
abbrev pub status_of : Response → ℕ
status_of (Taking p) = 0xFF
status_of (Complete status count) = status
status_of TooLarge = 0xFF

-- How many whole data bytes stand at the front of the response buffer.
abbrev pub count_of : Response → ℕ
count_of (Taking p) = min (p.place - start response_format) p.length
count_of (Complete status count) = count
count_of TooLarge = 0

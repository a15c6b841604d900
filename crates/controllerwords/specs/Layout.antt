-- A controller in 33 words of its caller's memory, each by its name: here, and in the constants of src/lib.rt, which are proved to be the
-- same where they are used. What a stage carries stands in words that other stages use too, under other names. The ring's sixteen slots
-- stand last, from `ENTRY` on.
use Rattle.std.specs.Prelude.{ℕ}

abbrev pub WORDS : ℕ
WORDS = 33

-- Its time-out, and its stage.
abbrev pub TIMEOUT : ℕ
TIMEOUT = 0

abbrev pub STAGE : ℕ
STAGE = 1

-- The frame of a stage that has one: its kind, its command, how many bytes of data go with it.
abbrev pub KIND : ℕ
KIND = 2

abbrev pub DEVICE : ℕ
DEVICE = 3

abbrev pub COMMAND : ℕ
COMMAND = 4

abbrev pub LOGICAL_UNIT : ℕ
LOGICAL_UNIT = 5

abbrev pub RECORD_NUMBER : ℕ
RECORD_NUMBER = 6

abbrev pub BUFFER_LENGTH : ℕ
BUFFER_LENGTH = 7

abbrev pub DATA_LENGTH : ℕ
DATA_LENGTH = 8

-- Resting: whether this is the first of the two rounds.
abbrev pub FIRST : ℕ
FIRST = 9

-- Sending: whether a round is still to pass, the sender, its nibble, the nibble that is next.
abbrev pub WAIT : ℕ
WAIT = 9

abbrev pub SENDER : ℕ
SENDER = 10

abbrev pub NIBBLE : ℕ
NIBBLE = 11

abbrev pub NEXT : ℕ
NEXT = 12

-- Listening: the listener, the tag of the response, its data's length, and for how many rounds in a row HSK was seen high.
abbrev pub EAR : ℕ
EAR = 10

abbrev pub RESPONSE : ℕ
RESPONSE = 13

abbrev pub LENGTH : ℕ
LENGTH = 14

abbrev pub QUIET : ℕ
QUIET = 15

-- A response that is being taken: whether a low nibble is there, that nibble, the byte that is next; and the status of one that is complete.
abbrev pub HALF : ℕ
HALF = 9

abbrev pub LOW : ℕ
LOW = 11

abbrev pub PLACE : ℕ
PLACE = 12

abbrev pub STATUS : ℕ
STATUS = 11

-- The ring: read and written only where a service frame begins, at the end of a frame, and by the application's calls.
abbrev pub ENTRIES : ℕ
ENTRIES = 16

abbrev pub ENTRY : ℕ
ENTRY = 17

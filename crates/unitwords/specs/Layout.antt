-- A unit in 32 words of its caller's memory, each by its name: here, and in the constants of src/lib.rt, which are proved to be the same
-- where they are used. What a phase carries stands in words that other phases use too, under other names. A new field takes the next
-- number, in `WORDS` too, and moves no other.
use Rattle.std.specs.Prelude.{ℕ}

abbrev pub WORDS : ℕ
WORDS = 32

-- Its settings, its row of rounds with BAV seen high, and its pull of BAV.
abbrev pub OWN : ℕ
OWN = 0

abbrev pub RETRY : ℕ
RETRY = 1

abbrev pub QUIET : ℕ
QUIET = 2

abbrev pub ASKING : ℕ
ASKING = 3

-- Its state besides the lines, which only a whole command, the end of a response and its host's calls touch.
abbrev pub OPENING : ℕ
OPENING = 4

abbrev pub ACCEPTED : ℕ
ACCEPTED = 5

abbrev pub ENABLED : ℕ
ENABLED = 6

abbrev pub REQUESTING : ℕ
REQUESTING = 7

abbrev pub INPUT_HEAD : ℕ
INPUT_HEAD = 8

abbrev pub INPUT_COUNT : ℕ
INPUT_COUNT = 9

abbrev pub OUTPUT_HEAD : ℕ
OUTPUT_HEAD = 10

abbrev pub OUTPUT_COUNT : ℕ
OUTPUT_COUNT = 11

-- Its phase.
abbrev pub PHASE : ℕ
PHASE = 12

-- Selecting, and receiving until the command is whole: the listener, whether a low nibble is there, that nibble, the byte that is next.
abbrev pub EAR : ℕ
EAR = 13

abbrev pub HALF : ℕ
HALF = 14

abbrev pub LOW : ℕ
LOW = 15

abbrev pub PLACE : ℕ
PLACE = 16

-- Receiving until the command is whole: the header as far as it is there.
abbrev pub DEVICE : ℕ
DEVICE = 17

abbrev pub COMMAND : ℕ
COMMAND = 18

abbrev pub LOGICAL_UNIT : ℕ
LOGICAL_UNIT = 19

abbrev pub RECORD_NUMBER : ℕ
RECORD_NUMBER = 20

abbrev pub BUFFER_LENGTH : ℕ
BUFFER_LENGTH = 21

abbrev pub DATA_LENGTH : ℕ
DATA_LENGTH = 22

-- Receiving after that, and responding: the reply, and its value.
abbrev pub REPLY : ℕ
REPLY = 17

abbrev pub VALUE : ℕ
VALUE = 18

-- Responding: the sender, whether a round is still to pass, the sender's nibble, the nibble that is next.
abbrev pub SENDER : ℕ
SENDER = 13

abbrev pub WAIT : ℕ
WAIT = 14

abbrev pub NIBBLE : ℕ
NIBBLE = 15

abbrev pub NEXT : ℕ
NEXT = 16

-- Sitting out: whether the pull of HSK stands.
abbrev pub LAST : ℕ
LAST = 14

-- Its screen: the cursor, the modes, the protected lines, whether the cursor's address is asked for, the sequence that is being read and its
-- argument.
abbrev pub ROW : ℕ
ROW = 23

abbrev pub COLUMN : ℕ
COLUMN = 24

abbrev pub SCROLLS : ℕ
SCROLLS = 25

abbrev pub WRAPS : ℕ
WRAPS = 26

abbrev pub TOP : ℕ
TOP = 27

abbrev pub BOTTOM : ℕ
BOTTOM = 28

abbrev pub ASKED : ℕ
ASKED = 29

abbrev pub SEQUENCE : ℕ
SEQUENCE = 30

abbrev pub ARGUMENT : ℕ
ARGUMENT = 31

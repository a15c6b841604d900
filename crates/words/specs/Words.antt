-- Document 01, "Refusal numbers" and "Promises": how a state stands in the words that a caller lends.
-- A number stands in the low bits of its word, as many as its type has; a flag in the lowest bit. Bits that no field uses are left alone:
-- a load does not look at them, a save leaves them as they are. A tag is its whole word. A word that the case at hand does not use stays as
-- it is, and so does every word whose meaning stays the same: what was loaded and is saved changes no word.
use Rattle.std.specs.Prelude.{ℕ, ◌+◌, ◌*◌, ◌/◌, ◌%◌, Bool, cond, List, [], ◌∷◌, ltb, eqb, get_or, set}
use Rattle.header.specs.declared.Command.{Command}
use Rattle.line.specs.declared.Lines.{Lines}
use Rattle.line.specs.declared.Listener.{Listener}
use Rattle.line.specs.declared.Listener.TheVariants.{Ready, Holding, Waiting}
use Rattle.line.specs.declared.Sender.{Sender}
use Rattle.line.specs.declared.Sender.TheVariants.{Next, Placed, Kept}
use Rattle.message.specs.Answer.{Answer, gives, refused}

-- Word i.
abbrev pub at : List ℕ → ℕ → ℕ
at ws i = get_or ws i 0

-- Words written one after the other, each by its name.
pub record Write : Type 0 where
  pub word : ℕ
  pub value : ℕ

infix 90 ◌≔◌
abbrev pub ◌≔◌ : ℕ → ℕ → Write
i ≔ v = record { word = i; value = v }

abbrev pub written : List ℕ → List Write → List ℕ
written ws [] = ws
written ws (w ∷ more) = written (set ws w.word w.value) more

-- A word with a number below m in its low bits.
abbrev pub number_in : ℕ → ℕ → ℕ → ℕ
number_in m word n = word / m * m + n

abbrev pub flag_of : ℕ → Bool
flag_of word = eqb (word % 2) 1

abbrev pub bit : Bool → ℕ
bit b = cond b 1 0

abbrev pub flag_in : ℕ → Bool → ℕ
flag_in word b = number_in 2 word (bit b)

-- A tag, one of so many cases. A word that no save makes means the first, 0. A tag is written only where the word does not mean it already.
abbrev pub tag_of : ℕ → ℕ → ℕ
tag_of cases word = cond (ltb word cases) word 0

abbrev pub tag_in : ℕ → ℕ → ℕ → ℕ
tag_in cases word tag = cond (eqb (tag_of cases word) tag) word tag

-- A listener in the word of its tag.
abbrev pub listener_of : ℕ → Listener
listener_of word = cond (eqb word 1) Holding (cond (eqb word 2) Waiting Ready)

abbrev pub listener_tag : Listener → ℕ
listener_tag Ready = 0
listener_tag Holding = 1
listener_tag Waiting = 2

abbrev pub listener_in : ℕ → Listener → ℕ
listener_in word ear = tag_in 3 word (listener_tag ear)

-- A sender in the word of its tag and the word of its nibble.
abbrev pub sender_of : ℕ → ℕ → Sender
sender_of word nibble = cond (eqb word 1) (Placed (nibble % 256)) (cond (eqb word 2) (Kept (nibble % 256)) Next)

abbrev pub sender_tag : Sender → ℕ
sender_tag Next = 0
sender_tag (Placed n) = 1
sender_tag (Kept n) = 2

abbrev pub sender_in : ℕ → Sender → ℕ
sender_in word s = tag_in 3 word (sender_tag s)

abbrev pub nibble_in : ℕ → Sender → ℕ
nibble_in word Next = word
nibble_in word (Placed n) = number_in 256 word n
nibble_in word (Kept n) = number_in 256 word n

-- A command of five words.
abbrev pub command_of : ℕ → ℕ → ℕ → ℕ → ℕ → Command
command_of d c l r b = record {
  device = d % 256;
  command = c % 256;
  logical_unit = l % 256;
  record_number = r % 65536;
  buffer_length = b % 65536;
}

-- Pulled lines in one number: the nibble, 16 for HSK, 32 for BAV.
abbrev pub lines_number : Lines → ℕ
lines_number l = l.nibble % 16 + 16 * bit l.hsk + 32 * bit l.bav

-- What a call returns: 0, or the number of its refusal.
abbrev pub number : {A : Type 0} → Answer A → ℕ
number (gives a) = 0
number (refused k) = k

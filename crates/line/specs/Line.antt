-- Document 01, "Lines and rounds" (000, 3.1, 3.2, 4.1): the lines, and the sender and the listener, round by round.
use Rattle.std.specs.Prelude.{ℕ, min, Bool, true, false, cond, not, ◌||◌, List, [], ◌∷◌}
use Rattle.field.specs.Field.{digits, number}
use Rattle.line.specs.declared.Lines.{Lines}
use Rattle.line.specs.declared.Sender.{Sender}
use Rattle.line.specs.declared.Sender.TheVariants.{Next, Placed, Kept}
use Rattle.line.specs.declared.Listener.{Listener}
use Rattle.line.specs.declared.Listener.TheVariants.{Ready, Holding, Waiting}

-- A line is low if any party pulls it, and a released nibble reads 15.
-- The four data lines of two parties: each is high, 1, only where both leave it high.
abbrev pub both_high : List ℕ → List ℕ → List ℕ
both_high [] ms = []
both_high (n ∷ ns) [] = []
both_high (n ∷ ns) (m ∷ ms) = min n m ∷ both_high ns ms

abbrev pub wired_nibble : ℕ → ℕ → ℕ
wired_nibble a b = number 2 (both_high (digits 2 4 a) (digits 2 4 b))

-- The levels that two parties' pulls leave.
abbrev pub wired : Lines → Lines → Lines
wired a b = record { bav = a.bav || b.bav; hsk = a.hsk || b.hsk; nibble = wired_nibble a.nibble b.nibble }

-- In one round it places a nibble and pulls HSK. In the next it releases HSK and keeps the data. When it then sees HSK high it
-- releases the data. The next is placed one round later. `low`: HSK is seen low; n: the nibble to place next.
abbrev pub send_of : Sender → Bool → ℕ → Sender
send_of Next low n = Placed n
send_of (Placed m) low n = Kept m
send_of (Kept m) low n = cond low (Kept m) Next

-- The nibble is done, and only now counts as sent, when HSK is seen high while it is kept.
abbrev pub sent_of : Sender → Bool → Bool
sent_of Next low = false
sent_of (Placed m) low = false
sent_of (Kept m) low = not low

-- What a sender pulls: HSK in the round of placing; the data until the nibble is done. A released nibble reads 15.
abbrev pub sender_hsk : Sender → Bool
sender_hsk Next = false
sender_hsk (Placed m) = true
sender_hsk (Kept m) = false

abbrev pub sender_nibble : Sender → ℕ
sender_nibble Next = 15
sender_nibble (Placed m) = m
sender_nibble (Kept m) = m

-- Ready and seeing HSK low, it takes the nibble once and pulls HSK in that round. From the next round, once its host isn't busy,
-- it releases HSK until the next nibble. It is ready again after seeing HSK high.
abbrev pub hear_of : Listener → Bool → Bool → Listener
hear_of Ready low busy = cond low Holding Ready
hear_of Holding low busy = cond busy Holding Waiting
hear_of Waiting low busy = cond low Waiting Ready

abbrev pub taken_of : Listener → Bool → Bool
taken_of Ready low = low
taken_of Holding low = false
taken_of Waiting low = false

abbrev pub is_ready : Listener → Bool
is_ready Ready = true
is_ready Holding = false
is_ready Waiting = false

-- What a listener pulls.
abbrev pub listener_hsk : Listener → Bool
listener_hsk Ready = false
listener_hsk Holding = true
listener_hsk Waiting = false

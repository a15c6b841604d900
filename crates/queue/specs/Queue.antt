-- Document 01, "The serial peripheral": input and output queues hold 256 bytes each; freed room is used again.
-- The bytes of a queue stand in a ring of 256 lent bytes, from its head on.
use Rattle.std.specs.Prelude.{ℕ, zero, suc, ◌+◌, ◌-◌, ◌%◌, min, Bool, cond, Option, Some, None, List, [], ◌∷◌, leb, length, get_or, set}
use Rattle.queue.specs.declared.Queue.{Queue}

-- How many bytes a queue holds, and for how many it has room. A count over 256 is that of a full queue.
abbrev pub held : Queue → ℕ
held q = min q.count 256

abbrev pub room : Queue → ℕ
room q = 256 - held q

-- The n bytes of a ring from a place on.
abbrev pub from : List ℕ → ℕ → ℕ → List ℕ
from bytes at zero = []
from bytes at (suc n) = get_or bytes (at % 256) 0 ∷ from bytes (suc at) n

-- What a queue holds, oldest byte first.
abbrev pub contents : List ℕ → Queue → List ℕ
contents bytes q = from bytes q.head (held q)

-- The queue that holds nothing.
abbrev pub empty_queue : Queue
empty_queue = record { head = 0; count = 0 }

-- The byte at place i of the ring, counted from the head.
abbrev pub byte_at : List ℕ → Queue → ℕ → ℕ
byte_at bytes q i = get_or bytes ((q.head + i) % 256) 0

-- A ring with bytes put in from a place on, one after the other.
abbrev pub stored : List ℕ → ℕ → List ℕ → List ℕ
stored bytes at [] = bytes
stored bytes at (b ∷ bs) = stored (set bytes (at % 256) b) (suc at) bs

-- The queue and its ring with bytes put at the back, if there is room for all of them; else as they are.
abbrev pub fits : Queue → List ℕ → Bool
fits q bs = leb (length bs) (room q)

abbrev pub queue_with : Queue → List ℕ → Queue
queue_with q bs = cond (fits q bs) (record { head = q.head; count = q.count + length bs }) q

abbrev pub bytes_with : List ℕ → Queue → List ℕ → List ℕ
bytes_with bytes q bs = cond (fits q bs) (stored bytes (q.head + held q) bs) bytes

-- The queue without its n oldest bytes.
abbrev pub queue_without : ℕ → Queue → Queue
queue_without n q = record { head = (q.head + n) % 256; count = held q - n }

-- The oldest of what a queue holds, and the queue without it.
abbrev pub popped_from : List ℕ → Queue → Option (ℕ × Queue)
popped_from [] q = None
popped_from (b ∷ bs) q = Some (b, queue_without 1 q)

abbrev pub popped : List ℕ → Queue → Option (ℕ × Queue)
popped bytes q = popped_from (contents bytes q) q

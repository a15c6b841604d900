-- A queue as the list of what it holds: what putting in, reading and taking out do to that list.
use Prim.Native.Nat.{ℕ, zero, suc, ◌+◌, ◌-◌, ◌%◌, ◌<◌, ◌≤◌}
use native.Mathlib.Nat.{add-suc, suc-add, add-zero, sub-zero, zero-sub, suc-sub-suc}
use native.Mathlib.Numerals.{add-one}
use native.Mathlib.Omega.{arith}
use mathlib.Core.Path.{◌≡◌, refl, sym, ◌∙◌, ap}
use mathlib.Core.Logic.{◌≢◌}
use mathlib.Core.Bool.{Bool, true, false, cond}
use mathlib.Core.List.{List, [], ◌∷◌, ◌++◌, append_assoc, append-nil}
use borrow.Author.Tests.{le-leb, lt-leb}
use lib.ListN.{length, get_or, set, drop, length-set}
use lib.Seq.{drop-cons, get_or-set_same, get_or-set_other}
use Rattle.queue.specs.Queue.{held, room, from, contents, empty_queue, byte_at, stored, fits, queue_with, bytes_with, queue_without, popped_from, popped}
use Rattle.std.specs.Prelude.{Some, None}
use Rattle.queue.specs.declared.Queue.{Queue}

-- From an order of numbers to the test of whether there is room.
pub ruleset tests = (le-leb, lt-leb)

-- How much a queue holds.
pub held_below : (q : Queue) → held q ≤ 256
held_below q = omega arith

pub held_with : (q : Queue) (bs : List ℕ) → length bs ≤ room q → held (queue_with q bs) ≡ held q + length bs
held_with q bs h = simp (tests, h) (omega arith)

pub held_without : (q : Queue) (n : ℕ) → held (queue_without n q) ≡ held q - n
held_without q n = omega arith

-- Freed room is used again.
pub room_freed : (q : Queue) (n : ℕ) → n ≤ held q → room (queue_without n q) ≡ room q + n
room_freed q n h = omega arith

-- How long the list is; that of a new queue is empty.
length_from : (bytes : List ℕ) (at n : ℕ) → length (from bytes at n) ≡ n
length_from bytes at zero = refl
length_from bytes at (suc n) = ap suc (length_from bytes (suc at) n)

pub length-contents : (bytes : List ℕ) (q : Queue) → length (contents bytes q) ≡ held q
length-contents bytes q = length_from bytes q.head (held q)

pub contents_empty : (bytes : List ℕ) → contents bytes empty_queue ≡ []
contents_empty bytes = refl

-- A byte is read at its place in the list.
get_or-from : (bytes : List ℕ) (at n i d : ℕ) → i < n → get_or (from bytes at n) i d ≡ get_or bytes ((at + i) % 256) 0
get_or-from bytes at zero i d h = absurd (omega arith)
get_or-from bytes at (suc n) zero d h = rw add-zero
get_or-from bytes at (suc n) (suc i) d h = rw (add-suc, ← suc-add) (get_or-from bytes (suc at) n i d (omega arith))

pub byte_of_contents : (bytes : List ℕ) (q : Queue) (i d : ℕ) → i < held q → byte_at bytes q i ≡ get_or (contents bytes q) i d
byte_of_contents bytes q i d h = sym (get_or-from bytes q.head (held q) i d h)

-- A byte that is put behind others leaves them.
from-set : (bytes : List ℕ) (at n to b : ℕ) → at + n ≤ to → to < at + 256 → from (set bytes (to % 256) b) at n ≡ from bytes at n
from-set bytes at zero to b h k = refl
from-set bytes at (suc n) to b h k =
    let apart : at % 256 ≢ to % 256 = omega arith in
    rw (get_or-set_other bytes (to % 256) (at % 256) b 0 apart, from-set bytes (suc at) n to b (omega arith) (omega arith))

from_snoc : (bytes : List ℕ) (at n : ℕ) → from bytes at (suc n) ≡ from bytes at n ++ (get_or bytes ((at + n) % 256) 0 ∷ [])
from_snoc bytes at zero = rw add-zero
from_snoc bytes at (suc n) = rw (add-suc, ← suc-add) (ap (λ (l : List ℕ). get_or bytes (at % 256) 0 ∷ l) (from_snoc bytes (suc at) n))

from-stored : (bytes : List ℕ) (at n : ℕ) (bs : List ℕ) → 256 ≤ length bytes → n + length bs ≤ 256 → from (stored bytes (at + n) bs) at (n + length bs) ≡ from bytes at n ++ bs
from-stored bytes at n [] l h = rw (add-zero, append-nil)
from-stored bytes at n (b ∷ bs) l h =
    let after = set bytes ((at + n) % 256) b in
    let one : from after at (suc n) ≡ from bytes at n ++ (b ∷ []) =
    from_snoc after at n ∙ rw (from-set bytes at n (at + n) b (omega arith) (omega arith), get_or-set_same bytes ((at + n) % 256) b 0 (omega arith)) in
    let same : length after ≡ length bytes = length-set bytes ((at + n) % 256) b in
    let place : suc (at + n) ≡ at + suc n = omega arith in
    let count : n + suc (length bs) ≡ suc n + length bs = omega arith in
    rw (place, count)
    (from-stored after at (suc n) bs (omega (arith, same)) (omega arith) ∙ ap (λ (l : List ℕ). l ++ bs) one ∙ append_assoc (from bytes at n) (b ∷ []) bs)

-- Bytes stand behind what the queue held, if there is room for all of them; one byte is the case of `b ∷ []`.
pub contents_with : (bytes : List ℕ) (q : Queue) (bs : List ℕ) → 256 ≤ length bytes → length bs ≤ room q → contents (bytes_with bytes q bs) (queue_with q bs) ≡ contents bytes q ++ bs
contents_with bytes q bs l h =
    rw (held_with q bs h) (simp (tests, h) (from-stored bytes q.head (held q) bs l (omega arith)))

-- Else nothing changes.
pub queue_refused : (q : Queue) (bs : List ℕ) → room q < length bs → queue_with q bs ≡ q
queue_refused q bs h = simp (tests, h)

pub bytes_refused : (bytes : List ℕ) (q : Queue) (bs : List ℕ) → room q < length bs → bytes_with bytes q bs ≡ bytes
bytes_refused bytes q bs h = simp (tests, h)

pub contents_refused : (bytes : List ℕ) (q : Queue) (bs : List ℕ) → room q < length bs → contents (bytes_with bytes q bs) (queue_with q bs) ≡ contents bytes q
contents_refused bytes q bs h = simp (tests, h)

-- The ring keeps its length.
pub length-stored : (bytes : List ℕ) (at : ℕ) (bs : List ℕ) → length (stored bytes at bs) ≡ length bytes
length-stored bytes at [] = refl
length-stored bytes at (b ∷ bs) = length-stored (set bytes (at % 256) b) (suc at) bs ∙ length-set bytes (at % 256) b

pub length_with_lem : (bytes : List ℕ) (q : Queue) (bs : List ℕ) → length (bytes_with bytes q bs) ≡ length bytes
length_with_lem bytes q bs = either (fits q bs)
  where
    either : (t : Bool) → length (cond t (stored bytes (q.head + held q) bs) bytes) ≡ length bytes
    either true = length-stored bytes (q.head + held q) bs
    either false = refl

-- Storing what is left after one byte more was stored.
pub stored_next : (bytes : List ℕ) (at i : ℕ) (bs : List ℕ) → i < length bs → stored (set bytes ((at + i) % 256) (get_or bs i 0)) (at + (i + 1)) (drop (i + 1) bs) ≡ stored bytes (at + i) (drop i bs)
stored_next bytes at i bs h = let next : at + (i + 1) ≡ suc (at + i) = omega arith in rw (next, add-one i, drop-cons bs i 0 h)

-- The oldest bytes leave.
from-drop : (bytes : List ℕ) (at n k : ℕ) → from bytes (at + k) (n - k) ≡ drop k (from bytes at n)
from-drop bytes at n zero = rw (add-zero, sub-zero)
from-drop bytes at zero (suc k) = rw zero-sub
from-drop bytes at (suc n) (suc k) = rw (add-suc, ← suc-add, suc-sub-suc) (from-drop bytes (suc at) n k)

from_wrap : (bytes : List ℕ) (at n : ℕ) → from bytes (at % 256) n ≡ from bytes at n
from_wrap bytes at n = same n (at % 256) at (omega arith)
  where
    same : (n at to : ℕ) → at % 256 ≡ to % 256 → from bytes at n ≡ from bytes to n
    same zero at to e = refl
    same (suc n) at to e = rw (e, same n (suc at) (suc to) (omega arith))

pub contents_without : (bytes : List ℕ) (q : Queue) (n : ℕ) → contents bytes (queue_without n q) ≡ drop n (contents bytes q)
contents_without bytes q n =
    rw (held_without q n) (from_wrap bytes (q.head + n) (held q - n) ∙ from-drop bytes q.head (held q) n)

-- Popping gives the first of the list, and leaves the rest of it.
pub popped_byte : (bytes : List ℕ) (q : Queue) (b : ℕ) (bs : List ℕ) → contents bytes q ≡ b ∷ bs → (popped bytes q ≡ Some (b, queue_without 1 q)) × (contents bytes (queue_without 1 q) ≡ bs)
popped_byte bytes q b bs e = (ap (λ (l : List ℕ). popped_from l q) e, contents_without bytes q 1 ∙ ap (drop 1) e)

pub popped_nothing : (bytes : List ℕ) (q : Queue) → contents bytes q ≡ [] → popped bytes q ≡ None
popped_nothing bytes q e = ap (λ (l : List ℕ). popped_from l q) e

pub popped_front : (bytes : List ℕ) (q : Queue) → 0 < held q → popped bytes q ≡ Some (byte_at bytes q 0, queue_without 1 q)
popped_front bytes q h = front (held q) h
  where
    front : (n : ℕ) → 0 < n → popped_from (from bytes q.head n) q ≡ Some (byte_at bytes q 0, queue_without 1 q)
    front zero h = absurd (omega arith)
    front (suc n) h = rw add-zero

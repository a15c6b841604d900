-- A response byte by byte: two bytes of its length, then its data, each at its place, then the status.
use Prim.Native.Nat.{ℕ, zero, suc, ◌+◌, ◌-◌, ◌*◌, ◌/◌, ◌%◌, ◌<◌, ◌≤◌}
use native.Mathlib.Nat.{not-suc-le-zero, le_of_suc-le-suc}
use native.Mathlib.Omega.{arith}
use mathlib.Core.Path.{◌≡◌, refl, sym, ◌∙◌, ap, subst}
use mathlib.Core.Bool.{Bool, true, false, cond}
use mathlib.Core.List.{List, [], ◌∷◌, ◌++◌}
use borrow.Author.Tests.{lt-ltb, le-ltb}
use lib.Dec.{ltb}
use lib.ListN.{length, get_or, set, take, drop}
use lib.Seq.{take-length}
use Rattle.answer.specs.Answer.{partial, half_taken, taken_with, byte_taken, byte_buffer, buffer_with, is_over}
use Rattle.answer.specs.declared.Response.{Response}
use Rattle.answer.specs.declared.Response.TheVariants.{Taking, Complete, TooLarge}
use Rattle.field.specs.Field.{byte_from}
use Rattle.field.proofs.Laws.{nibble-at}
use Rattle.message.proofs.Lists.{copy_next}
use Rattle.message.specs.Nibbles.{nibble_in}
use Rattle.whole.specs.Back.{response_for, taken_at, stored_at, Answered, length_of, received, Completes, NotBefore, Received}

-- The two nibbles of byte j.
pub low_nibble : (bytes : List ℕ) (j : ℕ) → nibble_in bytes (2 * j) ≡ get_or bytes j 255 % 16
low_nibble bytes j =
    let half : 2 * j / 2 ≡ j = omega arith in
    let side : 2 * j % 2 ≡ 0 = omega arith in
    nibble-at bytes (2 * j) ∙ rw (half, side)

pub high_nibble : (bytes : List ℕ) (j : ℕ) → nibble_in bytes (suc (2 * j)) ≡ get_or bytes j 255 / 16 % 16
high_nibble bytes j =
    let half : suc (2 * j) / 2 ≡ j = omega arith in
    let side : suc (2 * j) % 2 ≡ 1 = omega arith in
    nibble-at bytes (suc (2 * j)) ∙ rw (half, side)

pub byte_own : (b : ℕ) → b < 256 → byte_from (b % 16) (b / 16 % 16) ≡ b
byte_own b h = omega arith

-- A response of which whole bytes were taken: one nibble more, and one byte more.
module _ (bytes : List ℕ) (limit : ℕ) where
  half-taken : (j l place : ℕ) → taken_at bytes limit (2 * j) ≡ Taking (partial l place)
      → taken_at bytes limit (suc (2 * j)) ≡ Taking (half_taken (partial l place) (get_or bytes j 255 % 16))
  half-taken j l place e = ap (λ (r : Response). taken_with r (nibble_in bytes (2 * j)) limit) e ∙ ap (λ (n : ℕ). Taking (half_taken (partial l place) n)) (low_nibble bytes j)

  byte-taken : (j l place : ℕ) → get_or bytes j 255 < 256 → taken_at bytes limit (2 * j) ≡ Taking (partial l place)
      → taken_at bytes limit (2 * suc j) ≡ byte_taken (partial l place) (get_or bytes j 255) limit
  byte-taken j l place q e =
      let next : 2 * suc j ≡ suc (suc (2 * j)) = omega arith in
      ap (taken_at bytes limit) next
      ∙ ap (λ (r : Response). taken_with r (nibble_in bytes (suc (2 * j))) limit) (half-taken j l place e)
      ∙ ap (λ (n : ℕ). byte_taken (partial l place) (byte_from (get_or bytes j 255 % 16) n) limit) (high_nibble bytes j)
      ∙ ap (λ (b : ℕ). byte_taken (partial l place) b limit) (byte_own (get_or bytes j 255) q)

  byte-stored : (j l place : ℕ) (stores : Bool) (buffer : List ℕ) → get_or bytes j 255 < 256 → taken_at bytes limit (2 * j) ≡ Taking (partial l place)
      → stored_at bytes limit stores (2 * suc j) buffer ≡ byte_buffer (partial l place) (get_or bytes j 255) stores (stored_at bytes limit stores (2 * j) buffer)
  byte-stored j l place stores buffer q e =
      let next : 2 * suc j ≡ suc (suc (2 * j)) = omega arith in
      let old = stored_at bytes limit stores (2 * j) buffer in
      ap (λ (k : ℕ). stored_at bytes limit stores k buffer) next
      ∙ ap (λ (r : Response). buffer_with r (nibble_in bytes (suc (2 * j))) stores (stored_at bytes limit stores (suc (2 * j)) buffer)) (half-taken j l place e)
      ∙ ap (λ (r : Response). buffer_with (Taking (half_taken (partial l place) (get_or bytes j 255 % 16))) (nibble_in bytes (suc (2 * j))) stores (buffer_with r (nibble_in bytes (2 * j)) stores old)) e
      ∙ ap (λ (n : ℕ). byte_buffer (partial l place) (byte_from (get_or bytes j 255 % 16) n) stores old) (high_nibble bytes j)
      ∙ ap (λ (b : ℕ). byte_buffer (partial l place) b stores old) (byte_own (get_or bytes j 255) q)

module _ (d : List ℕ) (status limit : ℕ) (p : Answered d status limit) where
  abbrev bytes : List ℕ
  bytes = response_for d status

  abbrev n : ℕ
  n = length d

  -- The bytes behind the length: the data, then the status.
  data-at : (l : List ℕ) (i : ℕ) → i < length l → get_or (l ++ (status % 256 ∷ [])) i 255 ≡ get_or l i 0
  data-at [] i h = absurd (not-suc-le-zero h)
  data-at (x ∷ l) zero h = refl
  data-at (x ∷ l) (suc i) h = data-at l i (le_of_suc-le-suc h)

  status-at : (l : List ℕ) → get_or (l ++ (status % 256 ∷ [])) (length l) 255 ≡ status
  status-at [] = let q = p.number in omega arith
  status-at (x ∷ l) = status-at l

  byte-below : (i : ℕ) → i < n → get_or bytes (suc (suc i)) 255 < 256
  byte-below i h = subst (λ (x : ℕ). x < 256) (sym (data-at d i h)) (p.bytes i)

  -- The length's two bytes.
  one_byte : taken_at bytes limit (2 * 1) ≡ Taking (partial (n % 256) 1)
  one_byte =
      let v : n % 256 + 256 * (0 + 256 * 0) ≡ n % 256 = omega arith in
      byte-taken bytes limit 0 0 0 (omega arith) refl ∙ ap (λ (x : ℕ). Taking (partial x 1)) v

  two_bytes : taken_at bytes limit (2 * 2) ≡ Taking (partial n 2)
  two_bytes =
      let q = p.short in
      let v : n % 256 % 256 + 256 * (n / 256 % 256 + 256 * 0) ≡ n = omega arith in
      byte-taken bytes limit 1 (n % 256) 1 (omega arith) one_byte
      ∙ ap (λ (x : ℕ). cond (ltb limit x) TooLarge (Taking (partial x 2))) v
      ∙ rw (le-ltb limit n p.fits)

  -- The data, byte by byte.
  data-bytes : (i : ℕ) → i ≤ n → taken_at bytes limit (2 * suc (suc i)) ≡ Taking (partial n (suc (suc i)))
  data-bytes zero h = two_bytes
  data-bytes (suc i) h =
      let at : suc (suc i) - 2 ≡ i = omega arith in
      let body : ltb (suc (suc i)) 2 ≡ false = le-ltb (suc (suc i)) 2 (omega arith) in
      let next : suc (suc i) + 1 ≡ suc (suc (suc i)) = omega arith in
      byte-taken bytes limit (suc (suc i)) n (suc (suc i)) (byte-below i h) (data-bytes i (omega arith))
      ∙ rw (body, at, lt-ltb i n h, next)

  status_below : get_or bytes (suc (suc n)) 255 < 256
  status_below = subst (λ (x : ℕ). x < 256) (sym (status-at d)) p.number

  completes : taken_at bytes limit (length_of d) ≡ Complete status n
  completes =
      let all : length_of d ≡ 2 * suc (suc (suc n)) = omega arith in
      let at : suc (suc n) - 2 ≡ n = omega arith in
      let body : ltb (suc (suc n)) 2 ≡ false = le-ltb (suc (suc n)) 2 (omega arith) in
      ap (taken_at bytes limit) all
      ∙ byte-taken bytes limit (suc (suc n)) n (suc (suc n)) status_below (data-bytes n (omega arith))
      ∙ rw (body, at, le-ltb n n (omega arith)) (ap (λ (b : ℕ). Complete b n) (status-at d))

  -- Before its last nibble it is a part: whole bytes, or half a byte more.
  whole_part : (j : ℕ) → j ≤ 2 + n → (l : ℕ) × (place : ℕ) × (taken_at bytes limit (2 * j) ≡ Taking (partial l place))
  whole_part zero h = (0, 0, refl)
  whole_part (suc zero) h = (n % 256, 1, one_byte)
  whole_part (suc (suc i)) h = (n, suc (suc i), data-bytes i (omega arith))

  not-before : (k : ℕ) → k < length_of d → is_over (taken_at bytes limit k) ≡ false
  not-before k h =
      let j = k / 2 in
      let w = whole_part j (omega arith) in
      by_side (k % 2) refl j refl w
    where
      by_side : (r : ℕ) → k % 2 ≡ r → (j : ℕ) → k / 2 ≡ j → (l : ℕ) × (place : ℕ) × (taken_at bytes limit (2 * j) ≡ Taking (partial l place)) → is_over (taken_at bytes limit k) ≡ false
      by_side zero e j q w = let same : k ≡ 2 * j = omega arith in ap (λ (x : ℕ). is_over (taken_at bytes limit x)) same ∙ ap is_over w.2
      by_side (suc r) e j q w = let same : k ≡ suc (2 * j) = omega arith in ap (λ (x : ℕ). is_over (taken_at bytes limit x)) same ∙ ap is_over (half-taken bytes limit j w.0 w.1 w.2)

  -- The buffer: untouched by the length, then filled from its front.
  module _ (stores : Bool) (buffer : List ℕ) (room : limit ≤ length buffer) where
    abbrev filled : ℕ → List ℕ
    filled i = cond stores (take i d ++ drop i buffer) buffer

    filled_none : (t : Bool) → cond t buffer buffer ≡ buffer
    filled_none true = refl
    filled_none false = refl

    two-stored : stored_at bytes limit stores (2 * 2) buffer ≡ buffer
    two-stored = byte-stored bytes limit 1 (n % 256) 1 stores buffer (omega arith) one_byte ∙ byte-stored bytes limit 0 0 0 stores buffer (omega arith) refl

    put-by : (t : Bool) (i b : ℕ) → i < n → b ≡ get_or d i 0 → cond t (set (cond t (take i d ++ drop i buffer) buffer) i b) (cond t (take i d ++ drop i buffer) buffer) ≡ cond t (take (suc i) d ++ drop (suc i) buffer) buffer
    put-by true i b h e = let q = p.fits in ap (set (take i d ++ drop i buffer) i) e ∙ copy_next d buffer i h (omega arith)
    put-by false i b h e = refl

    data-stored : (i : ℕ) → i ≤ n → stored_at bytes limit stores (2 * suc (suc i)) buffer ≡ filled i
    data-stored zero h = two-stored ∙ sym (filled_none stores)
    data-stored (suc i) h =
        let at : suc (suc i) - 2 ≡ i = omega arith in
        let body : ltb (suc (suc i)) 2 ≡ false = le-ltb (suc (suc i)) 2 (omega arith) in
        byte-stored bytes limit (suc (suc i)) n (suc (suc i)) stores buffer (byte-below i h) (data-bytes i (omega arith))
        ∙ rw (body, at, lt-ltb i n h) (ap (λ (l : List ℕ). cond stores (set l i (get_or bytes (suc (suc i)) 255)) l) (data-stored i (omega arith)) ∙ put-by stores i (get_or bytes (suc (suc i)) 255) h (data-at d i h))

    same_by : (t : Bool) (l : List ℕ) → cond t l l ≡ l
    same_by true l = refl
    same_by false l = refl

    all_stored : stored_at bytes limit stores (length_of d) buffer ≡ received stores d buffer
    all_stored =
        let all : length_of d ≡ 2 * suc (suc (suc n)) = omega arith in
        let at : suc (suc n) - 2 ≡ n = omega arith in
        let body : ltb (suc (suc n)) 2 ≡ false = le-ltb (suc (suc n)) 2 (omega arith) in
        ap (λ (k : ℕ). stored_at bytes limit stores k buffer) all
        ∙ byte-stored bytes limit (suc (suc n)) n (suc (suc n)) stores buffer status_below (data-bytes n (omega arith))
        ∙ rw (body, at, le-ltb n n (omega arith)) (same_by stores (stored_at bytes limit stores (2 * suc (suc n)) buffer) ∙ data-stored n (omega arith) ∙ ap (λ (l : List ℕ). cond stores (l ++ drop n buffer) buffer) (take-length d))

pub response_completes : Completes
response_completes d status limit p = completes d status limit p

pub not-over-before : NotBefore
not-over-before d status limit k p h = not-before d status limit p k h

pub data_received : Received
data_received d status limit stores buffer p room = all_stored d status limit p stores buffer room

-- Nine bytes are the header, whatever stood there; the bytes behind it are the data, each at its place.
use Prim.Native.Nat.{ℕ, zero, suc, ◌+◌, ◌-◌, ◌<◌, ◌≤◌}
use native.Mathlib.Nat.{not-suc-le-zero, le_of_suc-le-suc}
use native.Mathlib.Omega.{arith}
use mathlib.Core.Path.{◌≡◌, refl, sym, ◌∙◌, ap, subst}
use mathlib.Core.Bool.{Bool, true, false, cond}
use mathlib.Core.List.{List, [], ◌∷◌, ◌++◌, append-nil}
use borrow.Author.Tests.{lt-ltb, le-leb, lt-leb, ltb-true, ltb-false}
use lib.Dec.{ltb, lit<}
use lib.ListN.{length, get_or, set, take, drop, length-set}
use lib.Seq.{take_at, take-length, set_out, length-take-le}
use Rattle.header.specs.Header.{header_bytes, header_in}
use Rattle.header.specs.declared.Command.{Command}
use Rattle.header.specs.declared.Header.{Header}
use Rattle.header.proofs.Laws.{holds_with, header_own}
use Rattle.field.specs.Field.{Below}
use Rattle.message.proofs.Fields.{below_set, zeros_below}
use Rattle.phase.specs.Phase.{buffer_with, with_byte}
use Rattle.whole.specs.Whole.{bytes_for, byte_at, front_at, head_at, buffer_at, header_for, Sent, Bytes, NextHeader, WholeHeader, Length, NotLast, Last, WholeBuffer, WholeData}

-- Nine and i more.
abbrev nine : ℕ → ℕ
nine i = suc (suc (suc (suc (suc (suc (suc (suc (suc i))))))))

-- The bytes behind the header are the data.
byte_behind : (c : Command) (d : List ℕ) (i : ℕ) → byte_at (bytes_for c d) (nine i) ≡ get_or d i 255
byte_behind c d i = ap (λ (l : List ℕ). get_or l i 255) (append-nil d)

past : (d : List ℕ) (i : ℕ) → ((j : ℕ) → get_or d j 0 < 256) → get_or d i 255 < 256
past [] i w = lit< tt
past (x ∷ d) zero w = w 0
past (x ∷ d) (suc i) w = past d i (λ j. w (suc j))

pub bytes_below : Bytes
bytes_below c d zero p = omega arith
bytes_below c d (suc zero) p = omega arith
bytes_below c d (suc (suc zero)) p = omega arith
bytes_below c d (suc (suc (suc zero))) p = omega arith
bytes_below c d (suc (suc (suc (suc zero)))) p = omega arith
bytes_below c d (suc (suc (suc (suc (suc zero))))) p = omega arith
bytes_below c d (suc (suc (suc (suc (suc (suc zero)))))) p = omega arith
bytes_below c d (suc (suc (suc (suc (suc (suc (suc zero))))))) p = omega arith
bytes_below c d (suc (suc (suc (suc (suc (suc (suc (suc zero)))))))) p = omega arith
bytes_below c d (suc (suc (suc (suc (suc (suc (suc (suc (suc i))))))))) p = subst (λ (x : ℕ). x < 256) (sym (byte_behind c d i)) (past d i p.bytes)

front_below : (c : Command) (d : List ℕ) (j : ℕ) → Sent c d → Below 256 (front_at (bytes_for c d) j)
front_below c d zero p = zeros_below 9
front_below c d (suc j) p = below_set (front_at (bytes_for c d) j) j (byte_at (bytes_for c d) j) (front_below c d j p) (bytes_below c d j p)

front_length : (bytes : List ℕ) (j : ℕ) → length (front_at bytes j) ≡ 9
front_length bytes zero = refl
front_length bytes (suc j) = length-set (front_at bytes j) j (byte_at bytes j) ∙ front_length bytes j

pub next_header : NextHeader
next_header c d j p =
    let t = front_at (bytes_for c d) j in
    let b = byte_at (bytes_for c d) j in
    (holds_with {h = header_in t} {r = with_byte (header_in t) j b} {t = t} j b (record { says = refl; nine = front_length (bytes_for c d) j; bytes = front_below c d j p }) (bytes_below c d j p) refl).says

front_whole : (c : Command) (d : List ℕ) (i : ℕ) → front_at (bytes_for c d) (nine i) ≡ header_bytes (header_for c d)
front_whole c d zero = refl
front_whole c d (suc i) =
    let out : length (front_at (bytes_for c d) (nine i)) ≤ nine i = (let l = front_length (bytes_for c d) (nine i) in omega arith) in
    set_out (front_at (bytes_for c d) (nine i)) (nine i) (byte_at (bytes_for c d) (nine i)) out ∙ front_whole c d i

header_whole : (c : Command) (d : List ℕ) (i : ℕ) → Sent c d → head_at (bytes_for c d) (nine i) ≡ header_for c d
header_whole c d i p = ap header_in (front_whole c d i) ∙ header_own (header_for c d) p.fields (let q = p.short in omega arith)

pub whole_header : WholeHeader
whole_header c d j p h = let e : nine (j - 9) ≡ j = omega arith in subst (λ (k : ℕ). head_at (bytes_for c d) k ≡ header_for c d) e (header_whole c d (j - 9) p)

pub length_bytes : Length
length_bytes c d = let l : length (d ++ []) ≡ length d = ap length (append-nil d) in omega arith

not-last_by : (t : Bool) (c : Command) (d : List ℕ) (j : ℕ) → ltb j 8 ≡ t → Sent c d → suc j < 9 + length d → j < 8 + (head_at (bytes_for c d) (suc j)).data_length
not-last_by true c d j e p h = let q = ltb-true j 8 e in omega arith
not-last_by false c d j e p h =
    let q : 8 ≤ j = ltb-false j 8 e in
    let n : (head_at (bytes_for c d) (suc j)).data_length ≡ length d = ap (λ (x : Header). x.data_length) (whole_header c d (suc j) p (omega arith)) in
    omega arith

pub not_last : NotLast
not_last c d j p h = lt-leb (8 + (head_at (bytes_for c d) (suc j)).data_length) j (not-last_by (ltb j 8) c d j refl p h)

pub last : Last
last c d j p h =
    let n : (head_at (bytes_for c d) (suc j)).data_length ≡ length d = ap (λ (x : Header). x.data_length) (whole_header c d (suc j) p (omega arith)) in
    le-leb (8 + (head_at (bytes_for c d) (suc j)).data_length) j (omega arith)

-- Nothing before byte 9 is stored.
kept : (n place b : ℕ) (buffer : List ℕ) → place < 9 → buffer_with n place b buffer ≡ buffer
kept n place b buffer h = rw (lt-leb 9 place h)

kept-all : (bytes : List ℕ) (j : ℕ) (buffer : List ℕ) → j ≤ 9 → buffer_at bytes j buffer ≡ buffer
kept-all bytes zero buffer h = refl
kept-all bytes (suc j) buffer h =
    kept (head_at bytes (suc j)).data_length j (byte_at bytes j) (buffer_at bytes j buffer) h ∙ kept-all bytes j buffer (omega arith)

-- The buffer with the data bytes p stored, of n announced.
abbrev filled : ℕ → List ℕ → List ℕ → List ℕ
filled n p buffer = cond (ltb 256 n) buffer (p ++ drop (length p) buffer)

filled_none : (t : Bool) (buffer : List ℕ) → cond t buffer buffer ≡ buffer
filled_none true buffer = refl
filled_none false buffer = refl

put_at : (p buffer : List ℕ) (b : ℕ) → length p < length buffer
    → set (p ++ drop (length p) buffer) (length p) b ≡ (p ++ (b ∷ [])) ++ drop (length (p ++ (b ∷ []))) buffer
put_at [] [] b h = absurd (not-suc-le-zero h)
put_at [] (y ∷ buffer) b h = refl
put_at (x ∷ p) [] b h = absurd (not-suc-le-zero h)
put_at (x ∷ p) (y ∷ buffer) b h = ap (λ (l : List ℕ). x ∷ l) (put_at p buffer b (le_of_suc-le-suc h))

store_by : (t : Bool) (n : ℕ) (p buffer : List ℕ) (b : ℕ) → ltb 256 n ≡ t → length p < n → 256 ≤ length buffer
    → buffer_with n (9 + length p) b (cond t buffer (p ++ drop (length p) buffer)) ≡ cond t buffer ((p ++ (b ∷ [])) ++ drop (length (p ++ (b ∷ []))) buffer)
store_by true n p buffer b e h room = simp (lt-leb n 256 (ltb-true 256 n e), le-leb 9 (9 + length p) (omega arith))
store_by false n p buffer b e h room =
    let at : 9 + length p - 9 ≡ length p = omega arith in
    let small : n ≤ 256 = ltb-false 256 n e in
    rw (le-leb 9 (9 + length p) (omega arith), le-leb n 256 small, at, lt-ltb (length p) n h) (put_at p buffer b (omega arith))

stores : (n : ℕ) (p buffer : List ℕ) (b : ℕ) → length p < n → 256 ≤ length buffer
    → buffer_with n (9 + length p) b (filled n p buffer) ≡ filled n (p ++ (b ∷ [])) buffer
stores n p buffer b h room = store_by (ltb 256 n) n p buffer b refl h room

next-taken : (d : List ℕ) (i : ℕ) → i < length d → take i d ++ (get_or d i 255 ∷ []) ≡ take (suc i) d
next-taken [] i h = absurd (not-suc-le-zero h)
next-taken (x ∷ d) zero h = refl
next-taken (x ∷ d) (suc i) h = ap (λ (l : List ℕ). x ∷ l) (next-taken d i (le_of_suc-le-suc h))

fills : (c : Command) (d buffer : List ℕ) (i : ℕ) → Sent c d → 256 ≤ length buffer → i ≤ length d
    → buffer_at (bytes_for c d) (nine i) buffer ≡ filled (length d) (take i d) buffer
fills c d buffer zero p room h = kept-all (bytes_for c d) 9 buffer (omega arith) ∙ sym (filled_none (ltb 256 (length d)) buffer)
fills c d buffer (suc i) p room h =
    let n = length d in
    let l : length (take i d) ≡ i = length-take-le i d (omega arith) in
    let place : nine i ≡ 9 + length (take i d) = omega arith in
    ap (λ (x : Header). buffer_with x.data_length (nine i) (byte_at (bytes_for c d) (nine i)) (buffer_at (bytes_for c d) (nine i) buffer)) (header_whole c d (suc i) p)
    ∙ ap (λ (b : ℕ). buffer_with n (nine i) b (buffer_at (bytes_for c d) (nine i) buffer)) (byte_behind c d i)
    ∙ ap (buffer_with n (nine i) (get_or d i 255)) (fills c d buffer i p room (omega arith))
    ∙ ap (λ (k : ℕ). buffer_with n k (get_or d i 255) (filled n (take i d) buffer)) place
    ∙ stores n (take i d) buffer (get_or d i 255) (omega arith) room
    ∙ ap (λ (q : List ℕ). filled n q buffer) (next-taken d i h)

pub whole_buffer : WholeBuffer
whole_buffer c d buffer p room =
    let place : 9 + length d ≡ nine (length d) = omega arith in
    ap (λ (k : ℕ). buffer_at (bytes_for c d) k buffer) place
    ∙ fills c d buffer (length d) p room (omega arith)
    ∙ ap (λ (q : List ℕ). filled (length d) q buffer) (take-length d)

own_by : (t : Bool) (d rest buffer : List ℕ) → cond t [] (take (length d) (cond t buffer (d ++ rest))) ≡ cond t [] d
own_by true d rest buffer = refl
own_by false d rest buffer = take_at d rest (length d) refl

pub whole_data : WholeData
whole_data d buffer = own_by (ltb 256 (length d)) d (drop (length d) buffer) buffer

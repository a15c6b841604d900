-- A response's data by its places: an open's four bytes, a read's oldest bytes, the cursor's row and column.
use Prim.Native.Nat.{ℕ, zero, suc, ◌<◌, ◌≤◌, min}
use native.Mathlib.Omega.{arith}
use mathlib.Core.Path.{◌≡◌, refl, sym, ◌∙◌, ap}
use mathlib.Core.List.{List, [], ◌∷◌, ◌++◌}
use lib.Dec.{lit≤}
use lib.ListN.{length, get_or, take, length-take, get_or-eq_default}
use lib.Seq.{get_or-take}
use Rattle.field.specs.Field.{field}
use Rattle.queue.specs.Queue.{held, contents, byte_at}
use Rattle.queue.specs.declared.Queue.{Queue}
use Rattle.queue.proofs.Laws.{length-contents, byte_of_contents}
use Rattle.serial.specs.declared.Reply.{Reply}
use Rattle.serial.specs.declared.Reply.TheVariants.{Silent, Status, Opened, Bytes, Address, Polled}
use Rattle.reply.specs.Reply.{reply_data, reply_length, last_nibble}

pub opened_first : (accepted : ℕ) → accepted < 256 → accepted ≡ get_or (field 2 accepted ++ field 2 0) 0 255
opened_first accepted h = omega arith

pub opened_rest : (accepted j : ℕ) → accepted < 256 → (j ≡ 0 → ⊥) → j < 4 → 0 ≡ get_or (field 2 accepted ++ field 2 0) j 255
opened_rest accepted zero h n l = absurd (n refl)
opened_rest accepted (suc zero) h n l = omega arith
opened_rest accepted (suc (suc zero)) h n l = refl
opened_rest accepted (suc (suc (suc zero))) h n l = refl
opened_rest accepted (suc (suc (suc (suc j)))) h n l = absurd (omega arith)

pub opened_past : (accepted j : ℕ) → 4 ≤ j → 255 ≡ get_or (field 2 accepted ++ field 2 0) j 255
opened_past accepted j h = sym (get_or-eq_default (field 2 accepted ++ field 2 0) 255 h)

pub queued_at : (bytes : List ℕ) (q : Queue) (n j : ℕ) → j < min n (held q) → byte_at bytes q j ≡ get_or (take n (contents bytes q)) j 255
queued_at bytes q n j h = byte_of_contents bytes q j 255 (omega arith) ∙ sym (get_or-take n (contents bytes q) j 255 (omega arith))

pub queued_past : (bytes : List ℕ) (q : Queue) (n j : ℕ) → min n (held q) ≤ j → 255 ≡ get_or (take n (contents bytes q)) j 255
queued_past bytes q n j h =
    let l : length (take n (contents bytes q)) ≡ min n (held q) = length-take n (contents bytes q) ∙ ap (min n) (length-contents bytes q) in
    sym (get_or-eq_default (take n (contents bytes q)) 255 (omega arith))

pub address_row : (n row column j : ℕ) → (j ≡ 1 → ⊥) → j < min n 2 → row ≡ get_or (take n (row ∷ column ∷ [])) j 255
address_row n row column zero u h = sym (get_or-take n (row ∷ column ∷ []) zero 255 (omega arith))
address_row n row column (suc zero) u h = absurd (u refl)
address_row n row column (suc (suc j)) u h = absurd (omega arith)

pub address_column : (n row column : ℕ) → 1 < min n 2 → column ≡ get_or (take n (row ∷ column ∷ [])) 1 255
address_column n row column h = sym (get_or-take n (row ∷ column ∷ []) 1 255 (omega arith))

pub address_past : (n row column j : ℕ) → min n 2 ≤ j → 255 ≡ get_or (take n (row ∷ column ∷ [])) j 255
address_past n row column j h =
    let l : length (take n (row ∷ column ∷ [])) ≡ min n 2 = length-take n (row ∷ column ∷ []) in
    sym (get_or-eq_default (take n (row ∷ column ∷ [])) 255 (omega arith))

-- How long the data is.
pub length_data : (bytes : List ℕ) (q : Queue) (r : Reply) → length (reply_data (contents bytes q) r) ≡ reply_length q r
length_data bytes q Silent = refl
length_data bytes q (Status number) = refl
length_data bytes q (Opened accepted) = refl
length_data bytes q (Bytes n) = length-take n (contents bytes q) ∙ ap (min n) (length-contents bytes q)
length_data bytes q (Address n row column) = length-take n (row ∷ column ∷ [])
length_data bytes q Polled = refl

-- No response is longer than a read of a full queue.
pub last_below : (q : Queue) (r : Reply) → last_nibble q r ≤ 517
last_below q Silent = lit≤ tt
last_below q (Status number) = lit≤ tt
last_below q (Opened accepted) = lit≤ tt
last_below q (Bytes n) = omega arith
last_below q (Address n row column) = omega arith
last_below q Polled = lit≤ tt

-- Document 01, "Messages": what stands at each byte of a message that is described by its fields and data.
use Rattle.std.specs.Prelude.{ℕ, ◌-◌, cond, List, ltb, length, get_or}
use Rattle.place.specs.declared.Place.{Place}
use Rattle.place.specs.declared.Place.TheVariants.{Field, Item, Past}

-- Byte i of a message with this head, n bytes of data and this end: a byte of a field, a byte of the data, or past the message.
abbrev pub place_in : List ℕ → ℕ → List ℕ → ℕ → Place
place_in head n end i =
    cond (ltb i (length head)) (Field (get_or head i 0))
    (cond (ltb (i - length head) n) (Item (i - length head))
    (cond (ltb (i - length head - n) (length end)) (Field (get_or end (i - length head - n) 0)) Past))

-- The byte at a place of a message with this data. Past the end, as on released lines, all its bits are set.
abbrev pub byte_at : List ℕ → Place → ℕ
byte_at ds (Field b) = b
byte_at ds (Item j) = get_or ds j 255
byte_at ds Past = 255

-- Document 01, "Messages" and "Refusal numbers" (9, 10): reading a slice that must hold exactly one message.
use Rattle.std.specs.Prelude.{ℕ, ◌+◌, cond, List, [], ◌∷◌, ltb, eqb, length, take, drop}
use Rattle.field.specs.Field.{value_of}
use Rattle.message.specs.Answer.{Answer, gives, refused}
use Rattle.message.specs.Format.{Format, Message, size, start}

-- What the length field at this place of a slice announces.
abbrev pub announced : ℕ → List ℕ → ℕ
announced at s = value_of (take 2 (drop at s))

-- A slice with the length field at this place and so many bytes behind the data. 9: it is too short for a message without data,
-- a command under 9 bytes, a response under 3. 10: the length field disagrees with the slice. Else the data's length.
abbrev pub checking : ℕ → ℕ → List ℕ → Answer ℕ
checking at behind s =
    cond (ltb (length s) (at + 2 + behind)) (refused 9)
    (cond (eqb (length s) (at + 2 + behind + announced at s)) (gives (announced at s)) (refused 10))

-- The data field that is handed back; nothing where the slice is refused.
abbrev pub data_by : Answer ℕ → ℕ → List ℕ → List ℕ
data_by (gives n) at s = take n (drop (at + 2) s)
data_by (refused k) at s = []

abbrev pub data_in : Format → List ℕ → List ℕ
data_in f s = data_by (checking (size f.before) (size f.after) s) (size f.before) s

-- The values of fields of these widths at the front of bytes.
abbrev pub values_in : List ℕ → List ℕ → List ℕ
values_in [] s = []
values_in (w ∷ ws) s = value_of (take w s) ∷ values_in ws (drop w s)

-- The message in a slice that holds exactly one, with n bytes of data.
abbrev pub message_in : Format → ℕ → List ℕ → Message
message_in f n s = record {
  before = values_in f.before s;
  «data» = take n (drop (start f) s);
  after = values_in f.after (drop n (drop (start f) s));
}

abbrev pub read_by : Answer ℕ → Format → List ℕ → Answer Message
read_by (gives n) f s = gives (message_in f n s)
read_by (refused k) f s = refused k

abbrev pub reading : Format → List ℕ → Answer Message
reading f s = read_by (checking (size f.before) (size f.after) s) f s

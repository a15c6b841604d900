-- Document 01, "Messages" and "Refusal numbers" (2, 11): writing a message into a lent buffer.
use Rattle.std.specs.Prelude.{ℕ, ◌+◌, cond, List, ◌++◌, ltb, length, drop}
use Rattle.message.specs.Answer.{Answer, gives, refused}
use Rattle.message.specs.Format.{Format, Message, head_of, end_of}

-- Fields of so many bytes and n bytes of data, into a buffer with so much room. 2: data over 65,535. 11: the buffer is too short for
-- the message. Else the message's length.
abbrev pub writing : ℕ → ℕ → ℕ → Answer ℕ
writing fields n room = cond (ltb 65535 n) (refused 2) (cond (ltb room (fields + n)) (refused 11) (gives (fields + n)))

-- The buffer afterwards: the message, and past it the bytes that were there. A refusal leaves every byte.
abbrev pub left : Answer ℕ → List ℕ → List ℕ → List ℕ
left (gives n) bytes out = bytes ++ drop n out
left (refused k) bytes out = out

-- Head, data and end written to the front of a buffer.
abbrev pub written : List ℕ → List ℕ → List ℕ → List ℕ → List ℕ
written head d end out = left (writing (length head + length end) (length d) (length out)) (head ++ (d ++ end)) out

-- A message of a format written to the front of a buffer.
abbrev pub written_as : Format → Message → List ℕ → List ℕ
written_as f m out = written (head_of f m.before (length m.«data»)) m.«data» (end_of f m.after) out

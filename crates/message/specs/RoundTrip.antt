-- Document 01, "Messages": "Writing then reading gives the same fields; reading then writing gives the same bytes."
-- Stated for any format; `proofs/RoundTrip.antt` proves both, once.
use Rattle.std.specs.Prelude.{ℕ, ◌^◌, ◌<◌, ◌≤◌, ◌≡◌, List, [], ◌∷◌, ◌++◌, length, take, drop}
use Rattle.field.specs.Field.{Below}
use Rattle.message.specs.Answer.{gives}
use Rattle.message.specs.Format.{Format, Message, least}
use Rattle.message.specs.Reading.{reading}
use Rattle.message.specs.Writing.{writing, written_as}

-- A value for each field, and each within its field's width.
pub data Fit : List ℕ → List ℕ → Type 0 where
  none : Fit [] []
  next : {w v : ℕ} {ws vs : List ℕ} → v < 256 ^ w → Fit ws vs → Fit (w ∷ ws) (v ∷ vs)

-- What was written, in a buffer of any length, reads as the same message.
abbrev pub ReadWritten : Format → Type 0
ReadWritten f =
    (m : Message) (out : List ℕ) (n : ℕ)
    → Fit f.before m.before
    → Fit f.after m.after
    → writing (least f) (length m.«data») (length out) ≡ gives n
    → reading f (take n (written_as f m out)) ≡ gives m

-- What was read, written into any buffer that is long enough, is the same bytes.
abbrev pub WrittenRead : Format → Type 0
WrittenRead f =
    (s : List ℕ) (m : Message) (out : List ℕ)
    → Below 256 s
    → reading f s ≡ gives m
    → length s ≤ length out
    → written_as f m out ≡ s ++ drop (length s) out

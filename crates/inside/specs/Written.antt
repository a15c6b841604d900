-- Document 01, "The serial peripheral", write: more than the output room is answered 08 and none is stored, else all is stored. What is
-- stored stands behind what the output queue held. What is written to a video unit goes to its screen.
use Rattle.std.specs.Prelude.{ℕ, ◌≤◌, ◌≡◌, List, ◌++◌, length}
use Rattle.header.specs.declared.Command.{Command}
use Rattle.kind.specs.Kinds.{kind_of, verdict_of}
use Rattle.kind.specs.declared.Kind.{Kind}
use Rattle.kind.specs.declared.Kind.TheVariants.{Serial as SerialUnit, Video as VideoUnit}
use Rattle.queue.specs.Queue.{contents, room}
use Rattle.reply.specs.Reply.{reply_status}
use Rattle.screen.specs.Screen.{On}
use Rattle.screen.specs.Text.{with_text, cells_after}
use Rattle.serial.specs.declared.Effect.TheVariants.{Stores}
use Rattle.inside.specs.Inside.{Inside, taken, reply_for, taken_for}

-- What a unit's output queue holds, oldest byte first.
abbrev pub outgoing : Inside → List ℕ
outgoing x = contents x.output x.state.output

-- Of any kind: data for which there is room, where the verdict on a command stores it, in the 256 bytes or more that the unit is lent for output.
abbrev pub StoredBehind : Type 0
StoredBehind =
    (kind : Kind) (x : Inside) (c : Command) (n : ℕ) (d : List ℕ)
    → 256 ≤ length x.output
    → (verdict_of kind x.state c n d).effect ≡ Stores
    → length d ≤ room x.state.output
    → outgoing (taken kind x c n d) ≡ outgoing x ++ d

-- A write, 04, to a serial unit whose answer has status 00 was accepted: there was room, and its whole data stands at the back.
abbrev pub WrittenBehind : Type 0
WrittenBehind =
    (own : ℕ) (x : Inside) (c : Command) (d : List ℕ)
    → kind_of own ≡ SerialUnit
    → 256 ≤ length x.output
    → c.command ≡ 0x04
    → reply_status (reply_for own x c d) ≡ 0x00
    → outgoing (taken_for own x c d) ≡ outgoing x ++ d

-- To a video unit: its whole text has gone to the screen.
abbrev pub WrittenShown : Type 0
WrittenShown =
    (own : ℕ) (x : Inside) (c : Command) (d : List ℕ)
    → kind_of own ≡ VideoUnit
    → c.command ≡ 0x04
    → reply_status (reply_for own x c d) ≡ 0x00
    → ((taken_for own x c d).state.screen ≡ with_text x.state.screen d) × ((taken_for own x c d).output ≡ cells_after x.state.screen d x.output)

-- Change request P13: "Writing a text in two writes cut inside an escape sequence gives the screen that one write gives". So it is for every
-- cut, where all three writes are accepted and the cursor is where one can be, as in every run (`Fit`).
abbrev pub WrittenTwice : Type 0
WrittenTwice =
    (own : ℕ) (x : Inside) (c : Command) (a b : List ℕ)
    → kind_of own ≡ VideoUnit
    → On x.state.screen
    → c.command ≡ 0x04
    → reply_status (reply_for own x c a) ≡ 0x00
    → reply_status (reply_for own (taken_for own x c a) c b) ≡ 0x00
    → reply_status (reply_for own x c (a ++ b)) ≡ 0x00
    → let twice = taken_for own (taken_for own x c a) c b in
    let once = taken_for own x c (a ++ b) in (twice.state.screen ≡ once.state.screen) × (twice.output ≡ once.output)

-- A write with any other answer, or with none, leaves all that is inside the unit.
abbrev pub WrittenNone : Type 0
WrittenNone =
    (own : ℕ) (x : Inside) (c : Command) (d : List ℕ)
    → c.command ≡ 0x04
    → (reply_status (reply_for own x c d) ≡ 0x00 → ⊥)
    → taken_for own x c d ≡ x

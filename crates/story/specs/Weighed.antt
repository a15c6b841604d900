-- One run of demand 2's bus from a quiet start with a scale at 20, computed (change request P5). It is opened with requested length 0, its host
-- feeds a record of 100 bytes, and one read with buffer length 128 brings the application all of it.
use Rattle.std.specs.Prelude.{ℕ, zero, suc, ◌≡◌, refl, true, false, List, [], ◌∷◌, ◌++◌, map, ltb, get_or, replicate}
use Rattle.std.proofs.Common.{ltb-true}
use Rattle.delivery.specs.Demand2.{Demand2}
use Rattle.delivery.specs.Ends.{quietly}
use Rattle.delivery.specs.Log.{told, log, frames_of}
use Rattle.delivery.specs.Run.{QuietStart, Run, start}
use Rattle.delivery.specs.World.{World}
use Rattle.inside.specs.Inside.{Inside, inside_of, incoming, data_in, reply_for}
use Rattle.kind.specs.Kinds.{kind_of}
use Rattle.serial.specs.declared.Mode.TheVariants.{Update}
use Rattle.serial.specs.declared.Opening.TheVariants.{OpenFor}
use Rattle.turn.specs.declared.Event.TheVariants.{Ended}
use Rattle.story.specs.Captured.{feeds_to, Holds, holds}
use Rattle.story.specs.Panel.{Told, told_of}
use Rattle.story.specs.Script.{station_of, quiet_bus, Doing, rounds, calls, after, run_on, are_bytes, both, command_to, sends}

-- The record: 100 bytes, no two of them alike.
abbrev pub up_from : ℕ → ℕ → List ℕ
up_from b zero = []
up_from b (suc n) = b ∷ up_from (suc b) n

abbrev pub weighed : List ℕ
weighed = up_from 0x20 100

-- The host of the one unit feeds bytes.
abbrev pub feeds_all : (bytes : List ℕ) → are_bytes bytes ≡ true → List Doing
feeds_all [] e = []
feeds_all (b ∷ bytes) e = feeds_to 0 b (ltb-true b 256 (both (ltb b 256) (are_bytes bytes) e).0) ∷ feeds_all bytes (both (ltb b 256) (are_bytes bytes) e).1

abbrev pub feeding : List Doing
feeding = calls (sends 20 0x00 (0x00 ∷ 0x00 ∷ 0xC0 ∷ []) (0 ∷ 0 ∷ 0 ∷ 0 ∷ []) refl) ∷ rounds 160 quietly ∷ feeds_all weighed refl

abbrev pub script : List Doing
script = feeding ++ (calls (sends 20 0x03 [] (replicate 128 0) refl) ∷ rounds 905 quietly ∷ [])

abbrev pub first : World
first = quiet_bus (20 ∷ [])

abbrev pub run : Run first (after script first)
run = run_on script start

-- The scale as the read finds it, and what it answers.
abbrev pub scale : Inside
unfolding kind_of
scale = inside_of (get_or (after feeding first).units 0 (station_of 20))

abbrev pub AtOnce : Type 0
AtOnce = data_in scale (reply_for 20 scale (command_to 20 0x03 128) []) ≡ incoming scale

-- It meets the premises of demand 2 and of `ReadAtOnce`, so that both hold of it.
abbrev pub Meets : Type 0
Meets = QuietStart first × (Demand2 run × AtOnce)

-- What the application is told of the two frames, the later one first: the accepted length is 128; the read brings 100 bytes, and the rest of the
-- response buffer is as it was lent.
abbrev pub papers : List Told
papers =
    record { device = 20; command = 0x03; ends = told (Ended 0x00 100) (weighed ++ replicate 28 0) ∷ [] }
    ∷ record { device = 20; command = 0x00; ends = told (Ended 0x00 4) (128 ∷ 0 ∷ 0 ∷ 0 ∷ []) ∷ [] }
    ∷ []

abbrev pub is_open : List ℕ → Holds
is_open queued = record { opening = OpenFor Update 128; enabled = false; requesting = false; input = queued; output = [] }

-- Before the read the scale holds the whole record, behind it nothing.
pub record Story : Type 0 where
  pub frames : map told_of (frames_of (log run)) ≡ papers
  pub before : map holds (after feeding first).units ≡ is_open weighed ∷ []
  pub behind : map holds (after script first).units ≡ is_open [] ∷ []

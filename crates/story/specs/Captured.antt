-- One run of demand 2's bus from a quiet start, with three units and with busy hosts, and what its log says, computed. Two units are opened. A
-- byte is fed to one in the middle of its answer to a read. A bus reset closes both. Nobody answers a command to a code that no unit has.
-- A write of 257 bytes is taken whole and stored nowhere; one of two bytes is stored. A request is polled, and stays unacknowledged: so its
-- unit's next turn is a null message.
use Rattle.std.specs.Prelude.{ℕ, suc, ◌+◌, ◌<◌, ◌≡◌, refl, Bool, true, false, List, [], ◌∷◌, ◌++◌, map, replicate}
use Rattle.std.proofs.Common.{lit<}
use Rattle.bus.specs.declared.Station.{Station}
use Rattle.delivery.specs.Calls.{host}
use Rattle.delivery.specs.Demand2.{Demand2}
use Rattle.delivery.specs.Ends.{quietly}
use Rattle.delivery.specs.Log.{Act, sent, heard, told, Deed, took, settled, spoke, done, Mark, begins, acts, does, asks, submitted, log, Capture, frames_of, acts_in, deeds_in}
use Rattle.delivery.specs.Run.{QuietStart, Run, start}
use Rattle.delivery.specs.World.{World, Busy}
use Rattle.inside.specs.Calls.{feeds, raises}
use Rattle.inside.specs.Inside.{inside_of, incoming}
use Rattle.inside.specs.Written.{outgoing}
use Rattle.kind.specs.Kinds.{kind_of}
use Rattle.ring.specs.Ring.{live, entry_of}
use Rattle.ring.specs.declared.Entry.{Entry}
use Rattle.serial.specs.declared.Mode.TheVariants.{Update}
use Rattle.serial.specs.declared.Opening.{Opening}
use Rattle.serial.specs.declared.Opening.TheVariants.{Closed, OpenFor}
use Rattle.turn.specs.declared.Event.TheVariants.{Nothing, Ended, Handed}
use Rattle.story.specs.Script.{quiet_bus, Doing, rounds, calls, after, run_on, sends, opens, enables}

abbrev pub codes : List ℕ
codes = 20 ∷ 21 ∷ 22 ∷ []

abbrev pub first : World
first = quiet_bus codes

-- Every host is busy: the controller's, and those of the units.
abbrev pub busily : Busy
busily = record { here = true; there = 7 }

-- The host of the unit at place i feeds a byte.
abbrev pub feeds_to : (i b : ℕ) → b < 256 → Doing
feeds_to i b h = calls (host i (feeds b h))

-- The run in three parts: up to the read, in whose answer a byte is fed; the reset; and the rest. 99 is a code that no unit has.
abbrev pub reading : List Doing
reading =
    opens 20 refl ∷ rounds 160 quietly ∷ feeds_to 0 0x55 (lit< tt)
    ∷ opens 21 refl ∷ rounds 30 quietly ∷ rounds 9 busily ∷ rounds 130 quietly ∷ feeds_to 1 0x43 (lit< tt)
    ∷ calls (sends 21 0x03 [] (0 ∷ 0 ∷ 0 ∷ 0 ∷ 0 ∷ []) refl) ∷ rounds 90 quietly ∷ feeds_to 1 0x44 (lit< tt) ∷ rounds 9 busily ∷ rounds 30 quietly
    ∷ []

abbrev pub resetting : List Doing
resetting = calls (sends 0 0xFF [] [] refl) ∷ rounds 30 quietly ∷ rounds 9 busily ∷ rounds 70 quietly ∷ []

abbrev pub going_on : List Doing
going_on =
    calls (sends 99 0x03 [] (1 ∷ 2 ∷ 3 ∷ []) refl) ∷ rounds 5 quietly ∷ rounds 9 busily ∷ rounds 70 quietly
    ∷ opens 21 refl ∷ rounds 160 quietly
    ∷ calls (sends 21 0x04 (replicate 257 0x5A) [] refl) ∷ rounds 500 quietly ∷ rounds 9 busily ∷ rounds 1670 quietly
    ∷ calls (sends 21 0x04 (0x41 ∷ 0x42 ∷ []) [] refl) ∷ rounds 120 quietly
    ∷ enables 21 refl ∷ rounds 105 quietly
    ∷ calls (host 1 raises) ∷ rounds 105 quietly
    ∷ calls (host 1 raises) ∷ rounds 85 quietly
    ∷ []

abbrev pub script : List Doing
script = reading ++ (resetting ++ going_on)

abbrev pub last : World
unfolding kind_of
last = after script first

abbrev pub run : Run first last
unfolding kind_of
run = run_on script start

-- It meets the premises of demand 2, so that the demand holds of it.
abbrev pub Meets : Type 0
unfolding kind_of
Meets = QuietStart first × Demand2 run

-- What is seen of a frame.
pub record Seen : Type 0 where
  pub device : ℕ
  pub command : ℕ
  -- How many nibbles each of the three units takes, and how many it sends.
  pub taken : List ℕ
  pub given : List ℕ
  -- At each call of a unit's host: how many nibbles of the answer are sent by then.
  pub asked : List ℕ
  -- What the application is told, with the response buffer.
  pub ends : List Act

abbrev pub taken_in : List Deed → ℕ
taken_in [] = 0
taken_in (took n ∷ ds) = suc (taken_in ds)
taken_in (settled x ∷ ds) = taken_in ds
taken_in (spoke n ∷ ds) = taken_in ds
taken_in (done ∷ ds) = taken_in ds

abbrev pub given_in : List Deed → ℕ
given_in [] = 0
given_in (took n ∷ ds) = given_in ds
given_in (settled x ∷ ds) = given_in ds
given_in (spoke n ∷ ds) = suc (given_in ds)
given_in (done ∷ ds) = given_in ds

abbrev pub asked_in : ℕ → List Mark → List ℕ
asked_in n [] = []
asked_in n (begins f lent found ∷ ms) = asked_in n ms
asked_in n (acts a ∷ ms) = asked_in n ms
asked_in n (does own e ∷ ms) = asked_in (n + given_in (e ∷ [])) ms
asked_in n (asks own call ∷ ms) = n ∷ asked_in n ms
asked_in n (submitted k d response ∷ ms) = asked_in n ms

abbrev pub ends_in : List Act → List Act
ends_in [] = []
ends_in (sent n ∷ more) = ends_in more
ends_in (heard n ∷ more) = ends_in more
ends_in (told event response ∷ more) = told event response ∷ ends_in more

abbrev pub seen_of : Capture → Seen
seen_of l = record {
  device = l.frame.command.device;
  command = l.frame.command.command;
  taken = map (λ (own : ℕ). taken_in (deeds_in own l.marks)) codes;
  given = map (λ (own : ℕ). given_in (deeds_in own l.marks)) codes;
  asked = asked_in 0 l.marks;
  ends = ends_in (acts_in l.marks);
}

-- The first frame first.
abbrev pub in_order : List Capture → List Seen → List Seen
in_order [] later = later
in_order (l ∷ ls) later = in_order ls (seen_of l ∷ later)

abbrev pub seen : ℕ → ℕ → List ℕ → List ℕ → List ℕ → Act → Seen
seen device command taken given asked end = record { device = device; command = command; taken = taken; given = given; asked = asked; ends = end ∷ [] }

-- What the papers say of the eleven frames. A command has 9 bytes and its data, a response 3 and its data, and a byte is two nibbles. A unit
-- that is not addressed takes two, the device code. The read gives the one byte that was queued at its last nibble. How far an answer has
-- come at a host's call is read off the run: the other byte is fed when 3 nibbles of the answer are sent.
abbrev pub papers : List Seen
papers =
    seen 20 0x00 (24 ∷ 2 ∷ 2 ∷ []) (14 ∷ 0 ∷ 0 ∷ []) (14 ∷ []) (told (Ended 0x00 4) (80 ∷ 0 ∷ 0 ∷ 0 ∷ []))
    ∷ seen 21 0x00 (2 ∷ 24 ∷ 2 ∷ []) (0 ∷ 14 ∷ 0 ∷ []) (14 ∷ []) (told (Ended 0x00 4) (80 ∷ 0 ∷ 0 ∷ 0 ∷ []))
    ∷ seen 21 0x03 (2 ∷ 18 ∷ 2 ∷ []) (0 ∷ 8 ∷ 0 ∷ []) (3 ∷ []) (told (Ended 0x00 1) (0x43 ∷ 0 ∷ 0 ∷ 0 ∷ 0 ∷ []))
    ∷ seen 0 0xFF (18 ∷ 18 ∷ 18 ∷ []) (0 ∷ 0 ∷ 0 ∷ []) [] (told (Ended 0xFF 0) [])
    ∷ seen 99 0x03 (2 ∷ 2 ∷ 2 ∷ []) (0 ∷ 0 ∷ 0 ∷ []) [] (told (Ended 0xFF 0) (1 ∷ 2 ∷ 3 ∷ []))
    ∷ seen 21 0x00 (2 ∷ 24 ∷ 2 ∷ []) (0 ∷ 14 ∷ 0 ∷ []) [] (told (Ended 0x00 4) (80 ∷ 0 ∷ 0 ∷ 0 ∷ []))
    ∷ seen 21 0x04 (2 ∷ 532 ∷ 2 ∷ []) (0 ∷ 6 ∷ 0 ∷ []) [] (told (Ended 0x08 0) [])
    ∷ seen 21 0x04 (2 ∷ 22 ∷ 2 ∷ []) (0 ∷ 6 ∷ 0 ∷ []) [] (told (Ended 0x00 0) [])
    ∷ seen 21 0x08 (2 ∷ 18 ∷ 2 ∷ []) (0 ∷ 6 ∷ 0 ∷ []) (6 ∷ []) (told (Ended 0x00 0) [])
    ∷ seen 21 0x0A (2 ∷ 18 ∷ 2 ∷ []) (0 ∷ 6 ∷ 0 ∷ []) (6 ∷ []) (told (Handed 21) [])
    ∷ seen 0 0xFE (18 ∷ 18 ∷ 18 ∷ []) (0 ∷ 0 ∷ 0 ∷ []) [] (told Nothing [])
    ∷ []

-- What is inside a unit: its opening, enabling and request, and what its queues hold.
pub record Holds : Type 0 where
  pub opening : Opening
  pub enabled : Bool
  pub requesting : Bool
  pub input : List ℕ
  pub output : List ℕ

abbrev pub holds : Station → Holds
holds st = record {
  opening = st.unit.serial.opening;
  enabled = st.unit.serial.enabled;
  requesting = st.unit.serial.requesting;
  input = incoming (inside_of st);
  output = outgoing (inside_of st);
}

abbrev pub is_new : Holds
is_new = record { opening = Closed; enabled = false; requesting = false; input = []; output = [] }

abbrev pub is_open : List ℕ → Holds
is_open queued = record { opening = OpenFor Update 80; enabled = false; requesting = false; input = queued; output = [] }

-- Behind the read the byte that was fed in mid-answer is queued, and 20 still holds its own. The reset leaves every unit as a new one. At last
-- the two bytes stand in the output queue, none of the 257 does, and the second request is held. The first is unacknowledged.
abbrev pub after_read : List Holds
after_read = is_open (0x55 ∷ []) ∷ is_open (0x44 ∷ []) ∷ is_new ∷ []

abbrev pub after_reset : List Holds
after_reset = is_new ∷ is_new ∷ is_new ∷ []

abbrev pub at_last : List Holds
at_last = is_new ∷ record { opening = OpenFor Update 80; enabled = true; requesting = true; input = []; output = 0x41 ∷ 0x42 ∷ [] } ∷ is_new ∷ []

abbrev pub ring_at_last : List Entry
ring_at_last = entry_of 21 true ∷ []

pub record Story : Type 0 where
  pub frames : in_order (frames_of (log run)) [] ≡ papers
  pub read : map holds (after reading first).units ≡ after_read
  pub reset : map holds (after (reading ++ resetting) first).units ≡ after_reset
  pub at_last : map holds last.units ≡ at_last
  pub ring : live last.controller.ring ≡ ring_at_last

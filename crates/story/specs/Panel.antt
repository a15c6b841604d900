-- One run of demand 2's bus from a quiet start with screens at 30 and 31 and a serial unit at 20, and what each frame of it leaves inside the
-- three units and in the ring, computed. Both screens are opened. A text for 30 is cut inside set cursor, and asks for the cursor's address, which is
-- read. An enabling of 30 is refused; 20 is enabled, and polled. A bus reset closes all.
use Rattle.std.specs.Prelude.{ℕ, ◌≡◌, refl, Bool, true, false, List, [], ◌∷◌, map, take, set, replicate}
use Rattle.delivery.specs.Calls.{host}
use Rattle.delivery.specs.Demand2.{Demand2}
use Rattle.delivery.specs.Ends.{quietly}
use Rattle.delivery.specs.Log.{Act, told, log, Capture, frames_of, acts_in}
use Rattle.delivery.specs.Run.{QuietStart, Run, start}
use Rattle.delivery.specs.World.{World}
use Rattle.inside.specs.Calls.{raises}
use Rattle.inside.specs.Inside.{Inside, inside_of}
use Rattle.queue.specs.Queue.{empty_queue}
use Rattle.ring.specs.Ring.{live, entry_of}
use Rattle.ring.specs.declared.Entry.{Entry}
use Rattle.screen.specs.Screen.{new_screen, at, reading, asking}
use Rattle.screen.specs.declared.Screen.{Screen}
use Rattle.screen.specs.declared.Sequence.TheVariants.{Column}
use Rattle.serial.specs.declared.Mode.TheVariants.{Update}
use Rattle.serial.specs.declared.Opening.{Opening}
use Rattle.serial.specs.declared.Opening.TheVariants.{Closed, OpenFor}
use Rattle.turn.specs.declared.Event.TheVariants.{Ended, Handed}
use Rattle.story.specs.Captured.{ends_in}
use Rattle.story.specs.Script.{quiet_bus, Doing, rounds, calls, after, run_on, sends, opens, enables}

abbrev pub codes : List ℕ
codes = 30 ∷ 20 ∷ 31 ∷ []

-- The frames of the run, each with its rounds.
abbrev pub parts : List (List Doing)
parts =
    (opens 30 refl ∷ rounds 160 quietly ∷ [])
    ∷ (opens 31 refl ∷ rounds 160 quietly ∷ [])
    ∷ (calls (sends 30 0x04 (0x1B ∷ 0x3D ∷ 0x02 ∷ []) [] refl) ∷ rounds 130 quietly ∷ [])
    ∷ (calls (sends 30 0x04 (0x05 ∷ 0x41 ∷ 0x1B ∷ 0x39 ∷ []) [] refl) ∷ rounds 140 quietly ∷ [])
    ∷ (calls (sends 30 0x03 [] (0 ∷ 0 ∷ 0 ∷ []) refl) ∷ rounds 125 quietly ∷ [])
    ∷ (enables 30 refl ∷ rounds 105 quietly ∷ [])
    ∷ (opens 20 refl ∷ rounds 160 quietly ∷ [])
    ∷ (enables 20 refl ∷ rounds 105 quietly ∷ [])
    ∷ (calls (host 1 raises) ∷ rounds 105 quietly ∷ [])
    ∷ (calls (sends 0 0xFF [] [] refl) ∷ rounds 90 quietly ∷ [])
    ∷ []

abbrev pub after_parts : List (List Doing) → World → World
after_parts [] w = w
after_parts (part ∷ more) w = after_parts more (after part w)

abbrev pub run_parts : (scripts : List (List Doing)) {w v : World} → Run w v → Run w (after_parts scripts v)
run_parts [] r = r
run_parts (part ∷ more) r = run_parts more (run_on part r)

abbrev pub first : World
first = quiet_bus codes

abbrev pub run : Run first (after_parts parts first)
run = run_parts parts start

-- It meets the premises of demand 2, so that the demand holds of it.
abbrev pub Meets : Type 0
Meets = QuietStart first × Demand2 run

-- What is told of a frame.
pub record Told : Type 0 where
  pub device : ℕ
  pub command : ℕ
  pub ends : List Act

abbrev pub told_of : Capture → Told
told_of l = record { device = l.frame.command.device; command = l.frame.command.command; ends = ends_in (acts_in l.marks) }

-- Behind a frame: what was told of it, all that is inside each unit, and the ring.
pub record Moment : Type 0 where
  pub frame : List Told
  pub units : List Inside
  pub ring : List Entry

abbrev pub moment_of : World → List Capture → Moment
moment_of v frames = record { frame = map told_of (take 1 frames); units = map inside_of v.units; ring = live v.controller.ring }

-- At first, and behind each part.
abbrev pub moments : List (List Doing) → {w v : World} → Run w v → List Moment
moments [] {w} {v} r = moment_of v (frames_of (log r)) ∷ []
moments (part ∷ more) {w} {v} r = moment_of v (frames_of (log r)) ∷ moments more (run_on part r)

-- A video unit, and the serial unit, which holds no request.
abbrev pub showing : Opening → Screen → List ℕ → Inside
showing opening screen cells = record {
  state = record { opening = opening; enabled = false; requesting = false; input = empty_queue; output = empty_queue; screen = screen };
  input = replicate 256 0;
  output = cells;
}

abbrev pub served : Opening → Bool → Inside
served opening enabled = record {
  state = record { opening = opening; enabled = enabled; requesting = false; input = empty_queue; output = empty_queue; screen = new_screen };
  input = replicate 256 0;
  output = replicate 256 0x2A;
}

abbrev pub is_open : Opening
is_open = OpenFor Update 80

-- A new screen, with 2A in its memory; a blank one, open and closed; one with a letter in row 2 and column 5, cell 2 * 80 + 5, all others blank.
abbrev pub is_new : Inside
is_new = showing Closed new_screen (replicate 1920 0x2A)

abbrev pub blank : List ℕ
blank = replicate 1920 0x20

abbrev pub is_blank : Inside
is_blank = showing is_open new_screen blank

abbrev pub is_clear : Inside
is_clear = showing Closed new_screen blank

abbrev pub lettered : List ℕ
lettered = set blank 165 0x41

abbrev pub has_letter : Inside
has_letter = showing is_open (at new_screen 2 6) lettered

abbrev pub behind : ℕ → ℕ → Act → List Inside → List Entry → Moment
behind device command end units ring = record { frame = record { device = device; command = command; ends = end ∷ [] } ∷ []; units = units; ring = ring }

-- What the papers say. The reset clears both screens, for both are open, and closes every unit; the ring is the controller's, and keeps its entry.
abbrev pub papers : List Moment
papers =
    record { frame = []; units = is_new ∷ served Closed false ∷ is_new ∷ []; ring = [] }
    ∷ behind 30 0x00 (told (Ended 0x00 4) (80 ∷ 0 ∷ 0 ∷ 0 ∷ [])) (is_blank ∷ served Closed false ∷ is_new ∷ []) []
    ∷ behind 31 0x00 (told (Ended 0x00 4) (80 ∷ 0 ∷ 0 ∷ 0 ∷ [])) (is_blank ∷ served Closed false ∷ is_blank ∷ []) []
    ∷ behind 30 0x04 (told (Ended 0x00 0) []) (showing is_open (reading new_screen (Column 2)) blank ∷ served Closed false ∷ is_blank ∷ []) []
    ∷ behind 30 0x04 (told (Ended 0x00 0) []) (showing is_open (asking (at new_screen 2 6) true) lettered ∷ served Closed false ∷ is_blank ∷ []) []
    ∷ behind 30 0x03 (told (Ended 0x00 2) (2 ∷ 6 ∷ 0 ∷ [])) (has_letter ∷ served Closed false ∷ is_blank ∷ []) []
    ∷ behind 30 0x08 (told (Ended 0x0D 0) []) (has_letter ∷ served Closed false ∷ is_blank ∷ []) []
    ∷ behind 20 0x00 (told (Ended 0x00 4) (80 ∷ 0 ∷ 0 ∷ 0 ∷ [])) (has_letter ∷ served is_open false ∷ is_blank ∷ []) []
    ∷ behind 20 0x08 (told (Ended 0x00 0) []) (has_letter ∷ served is_open true ∷ is_blank ∷ []) (entry_of 20 false ∷ [])
    ∷ behind 20 0x0A (told (Handed 20) []) (has_letter ∷ served is_open true ∷ is_blank ∷ []) (entry_of 20 true ∷ [])
    ∷ behind 0 0xFF (told (Ended 0xFF 0) []) (is_clear ∷ served Closed false ∷ is_clear ∷ []) (entry_of 20 true ∷ [])
    ∷ []

abbrev pub Story : Type 0
Story = moments parts {w = first} start ≡ papers

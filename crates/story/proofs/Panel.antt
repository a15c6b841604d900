-- The run with screens computed, frame by frame, and that it is a run from a quiet start.
use mathlib.Core.Path.{◌≡◌, refl, ◌∙◌, ap}
use mathlib.Core.List.{List, [], ◌∷◌}
use Rattle.delivery.proofs.Demand2.{demand_2}
use Rattle.delivery.specs.Log.{log, frames_of}
use Rattle.delivery.specs.Run.{QuietStart, Run, start}
use Rattle.delivery.specs.World.{World}
use Rattle.kind.specs.Kinds.{kind_of}
use Rattle.story.specs.Panel.{codes, parts, after_parts, first, run, Meets, Moment, moment_of, moments, papers, Story}
use Rattle.story.specs.Script.{Doing, run_on}
use Rattle.story.proofs.Script.{Played, play, at, plays, quiet_start}

pub meets : Meets
meets =
    let quiet = quiet_start codes refl in
    (quiet, demand_2 first (after_parts parts first) quiet run)

-- The moments in one pass.
abbrev played : List (List Doing) → Played → List Moment
played [] p = moment_of p.world p.frames ∷ []
played (part ∷ more) p = moment_of p.world p.frames ∷ played more (play part p)

plays_parts : (scripts : List (List Doing)) {w v : World} → QuietStart w → (r : Run w v) → moments scripts r ≡ played scripts (at r)
plays_parts [] quiet r = refl
plays_parts (part ∷ more) {w} {v} quiet r =
    ap (λ (ms : List Moment). moment_of v (frames_of (log r)) ∷ ms) (plays_parts more quiet (run_on part r) ∙ ap (played more) (plays part quiet r))

shown : played parts (record { world = first; frames = [] }) ≡ papers
unfolding kind_of
shown = refl

pub story : Story
story = plays_parts parts {w = first} meets.0 start ∙ shown

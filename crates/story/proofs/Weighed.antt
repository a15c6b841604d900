-- The run with a scale's record computed, and that it is a run from a quiet start.
use native.Mathlib.Omega.{arith}
use mathlib.Core.Path.{◌≡◌, refl, ◌∙◌, ap}
use mathlib.Core.List.{List, [], ◌∷◌, map}
use Rattle.delivery.proofs.Demand2.{demand_2}
use Rattle.delivery.specs.Run.{start}
use Rattle.inside.proofs.Read.{read_at_once}
use Rattle.inside.specs.Inside.{inside_of}
use Rattle.kind.specs.Kinds.{kind_of}
use Rattle.story.specs.Captured.{Holds, holds}
use Rattle.story.specs.Panel.{Told, told_of}
use Rattle.story.specs.Script.{station_of, after, command_to}
use Rattle.story.specs.Weighed.{script, first, run, scale, AtOnce, Meets, papers, is_open, Story}
use Rattle.story.proofs.Script.{Played, play, at, plays, quiet_start}

at_once : AtOnce
unfolding kind_of
at_once =
    read_at_once 20 (inside_of (station_of 20)) scale (command_to 20 0x00 4) (command_to 20 0x03 128) (0x00 ∷ 0x00 ∷ 0xC0 ∷ []) []
    refl refl refl refl refl refl refl (omega arith) (omega arith)

pub meets : Meets
unfolding kind_of
meets =
    let quiet = quiet_start (20 ∷ []) refl in
    (quiet, (demand_2 first (after script first) quiet run, at_once))

record Shown : Type 0 where
  frames : List Told
  units : List Holds

abbrev shown_by : Played → Shown
shown_by p = record { frames = map told_of p.frames; units = map holds p.world.units }

shown : shown_by (play script (record { world = first; frames = [] })) ≡ record { frames = papers; units = is_open [] ∷ [] }
unfolding kind_of
shown = refl

pub story : Story
unfolding kind_of
story =
    let whole : shown_by (at run) ≡ record { frames = papers; units = is_open [] ∷ [] } = ap shown_by (plays script {w = first} meets.0 start) ∙ shown in
    record { frames = ap (λ (x : Shown). x.frames) whole; before = refl; behind = ap (λ (x : Shown). x.units) whole }

-- The story computed, frame by frame, and that it is a run from a quiet start.
use mathlib.Core.Path.{◌≡◌, refl, ◌∙◌, ap}
use mathlib.Core.List.{List, [], map}
use Rattle.delivery.proofs.Demand2.{demand_2}
use Rattle.delivery.specs.Run.{start}
use Rattle.kind.specs.Kinds.{kind_of}
use Rattle.ring.specs.Ring.{live}
use Rattle.ring.specs.declared.Entry.{Entry}
use Rattle.story.specs.Captured.{codes, first, script, last, run, Seen, in_order, papers, Holds, holds, at_last, ring_at_last, Story, Meets}
use Rattle.story.proofs.Script.{Played, play, at, plays, quiet_start}

pub meets : Meets
unfolding kind_of
meets =
    let quiet = quiet_start codes refl in
    (quiet, demand_2 first last quiet run)

-- All that is computed of the whole run, in one pass.
record Shown : Type 0 where
  frames : List Seen
  units : List Holds
  ring : List Entry

abbrev shown_by : Played → Shown
shown_by p = record { frames = in_order p.frames []; units = map holds p.world.units; ring = live p.world.controller.ring }

shown : shown_by (play script (record { world = first; frames = [] })) ≡ record { frames = papers; units = at_last; ring = ring_at_last }
unfolding kind_of
shown = refl

pub story : Story
unfolding kind_of
story =
    let whole : shown_by (at run) ≡ record { frames = papers; units = at_last; ring = ring_at_last } = ap shown_by (plays script {w = first} meets.0 start) ∙ shown in
    record {
      frames = ap (λ (x : Shown). x.frames) whole;
      read = refl;
      reset = refl;
      at_last = ap (λ (x : Shown). x.units) whole;
      ring = ap (λ (x : Shown). x.ring) whole;
    }

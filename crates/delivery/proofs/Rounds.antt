-- What each round of a run comes to, and what is known of the moments in which units take last nibbles.
use Prim.Native.Nat.{ℕ}
use mathlib.Core.Path.{◌≡◌}
use mathlib.Core.Bool.{Bool, true, false}
use mathlib.Core.List.{List}
use Rattle.bus.specs.Bus.{station_step}
use Rattle.bus.specs.declared.Station.{Station}
use Rattle.frame.specs.Frame.{data_of}
use Rattle.frame.specs.declared.Frame.{Frame}
use Rattle.header.specs.declared.Command.{Command}
use Rattle.inside.specs.Inside.{Inside, inside_of, reply_for, taken_for, responded}
use Rattle.line.specs.declared.Listener.{Listener}
use Rattle.line.specs.declared.Sender.{Sender}
use Rattle.phase.specs.declared.Phase.TheVariants.{Receiving, Responding, SittingOut}
use Rattle.phase.specs.declared.Progress.TheVariants.{Answered}
use Rattle.serial.specs.declared.Reply.{Reply}
use Rattle.delivery.specs.Calls.{in_frame}
use Rattle.delivery.specs.Lists.{All}
use Rattle.delivery.proofs.Moves.{Becomes}
use Rattle.delivery.proofs.Promised.{Moment}
use Rattle.delivery.proofs.Stages.{addressed, is_answered, InFrame, Goes, On}
use Rattle.delivery.specs.World.{World, Busy, levels}
use Rattle.delivery.specs.Run.{QuietStart, Run, start, a_round, a_call}

-- Behind a round the unit with this code has taken the last nibble, with x inside it: in this round, or, as was known before, in an
-- earlier one of the same frame.
pub data TookBy (v : World) (busy : Busy) (before : Moment) (own : ℕ) (x : Inside) : Type 0 where
  takes_it :
      (st after : Station) → Becomes (levels v) busy.there v.units st after → is_answered st.unit.phase ≡ false → is_answered after.unit.phase ≡ true
      → st.unit.own ≡ own → inside_of st ≡ x → TookBy v busy before own x
  took_it : in_frame v.controller.stage ≡ true → before own x → TookBy v busy before own x

-- So on a run: in the frame that runs, or has just ended.
abbrev pub Took : {w v : World} → Run w v → Moment
Took start = λ own x. ⊥
Took (a_round {v = v} r busy) = TookBy v busy (Took r)
Took (a_call r call) = Took r

-- A run from a quiet start is always at rest, or in a frame.
abbrev pub Runs : Type 0
Runs = (w v : World) → QuietStart w → (r : Run w v) → On (Took r) v

-- Each round of a frame leads on in it, or ends it: with the status, the data and the count that the whole-message definition gives for
-- what was inside the addressed unit when the last nibble was taken, at the front of the response buffer that the frame found, and what
-- waited done; or with nothing taken (FF), where no response is defined.
abbrev pub Responses : Type 0
Responses = (w v : World) (r : Run w v) (f : Frame) (found : List ℕ) → InFrame (Took r) f found v → (busy : Busy) → Goes (Took (a_round r busy)) f found v busy

-- And a unit takes the last nibble of a frame once: there is one such moment.
abbrev pub TakenOnce : Type 0
TakenOnce = (w v : World) → QuietStart w → (r : Run w v) (own : ℕ) (x y : Inside) → Took r own x → Took r own y → x ≡ y

-- What a round of a frame makes of a unit. Nothing of what is inside it changes; or it takes the last nibble: its reply is fixed, by the
-- whole-message definition for what is inside it, and the effects happen; or the last nibble of its response is done, and what waited for
-- that happens.
abbrev pub Untouched : Station → Station → Type 0
Untouched st after = inside_of after ≡ inside_of st

pub record FixedBy (c : Command) (d : List ℕ) (st after : Station) : Type 0 where
  pub ear : Listener
  pub reply : after.unit.phase ≡ Receiving ear (Answered (reply_for st.unit.own (inside_of st) c d))
  pub inside : inside_of after ≡ taken_for st.unit.own (inside_of st) c d

pub data Changed (c : Command) (d : List ℕ) (st after : Station) : Type 0 where
  unchanged : Untouched st after → (is_answered after.unit.phase ≡ true → is_answered st.unit.phase ≡ true) → Changed c d st after
  fixed_now : addressed c st.unit.own ≡ true → is_answered st.unit.phase ≡ false → FixedBy c d st after → Changed c d st after
  done_now :
      addressed c st.unit.own ≡ true → (r : Reply) (j : ℕ) (sender : Sender) → st.unit.phase ≡ Responding r j sender false → after.unit.phase ≡ SittingOut false
      → inside_of after ≡ responded (inside_of st) r → Changed c d st after

abbrev pub Changes : Type 1
Changes =
    (T : Moment) (f : Frame) (found : List ℕ) (w : World)
    → InFrame T f found w
    → (host : Bool)
    → All (λ (st : Station). Changed f.command (data_of f w.lent) st (station_step st (levels w) host)) w.units

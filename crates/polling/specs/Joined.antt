-- The ring holds only units that have answered an enabling (08) with 00. So a unit that refuses every enabling is never in it.
use Rattle.std.specs.Prelude.{ℕ, ◌≡◌, true, false, List, [], ◌∷◌}
use Rattle.controller.specs.declared.Controller.{Controller}
use Rattle.delivery.specs.Calls.{running}
use Rattle.delivery.specs.Demand2.{Speaks, reply_to}
use Rattle.delivery.specs.Lists.{Has}
use Rattle.delivery.specs.Log.{Capture, frames_of, log}
use Rattle.delivery.specs.Run.{QuietStart, Run}
use Rattle.delivery.specs.World.{World}
use Rattle.frame.specs.declared.Frame.{Frame}
use Rattle.header.specs.declared.Command.{Command}
use Rattle.inside.specs.Inside.{Inside, reply_for}
use Rattle.reply.specs.Reply.{reply_status}
use Rattle.turn.specs.declared.Event.TheVariants.{Ended}
use Rattle.polling.specs.History.{IsEnabling}
use Rattle.polling.specs.Moves.{Move, after, in_ring, event_of}

-- At any levels and by any call: a code that was not in the ring is in it only behind the call with which its enabling ends with 00. Code 0
-- never joins.
pub record JoinsNow (own : ℕ) (c : Controller) (m : Move) : Type 0 where
  pub frame : Frame
  pub count : ℕ
  pub runs : running c.stage ≡ frame ∷ []
  pub enabling : IsEnabling own frame
  pub coded : own ≡ 0 → ⊥
  pub told : event_of c m ≡ Ended 0x00 count
  pub over : running (after c m).stage ≡ []

abbrev pub JoinsOnly : Type 0
JoinsOnly = (own : ℕ) (c : Controller) (m : Move) → in_ring own c ≡ false → in_ring own (after c m) ≡ true → JoinsNow own c m

-- A frame that is an enabling of a code, to which the unit with that code responds with 00; `inside` is what was inside it at the last nibble.
pub record Accepted (own : ℕ) (l : Capture) : Type 0 where
  pub enabling : IsEnabling own l.frame
  pub inside : Inside
  pub speaks : Speaks l own inside own
  pub accepts : reply_status (reply_to l own inside) ≡ 0x00

-- On demand 2's bus a code is in the ring only if the log has such a frame.
abbrev pub JoinedByAnswer : Type 0
JoinedByAnswer =
    (w v : World) → QuietStart w → (r : Run w v) (own : ℕ) → in_ring own v.controller ≡ true → (l : Capture) × (Has l (frames_of (log r)) × Accepted own l)

-- A unit with this code, whatever is inside it, answers no enabling with 00: then its code is never in the ring.
abbrev pub Refuses : ℕ → Type 0
Refuses own = (x : Inside) (c : Command) (d : List ℕ) → c.command ≡ 0x08 → reply_status (reply_for own x c d) ≡ 0x00 → ⊥

abbrev pub Refusers : Type 0
Refusers = (w v : World) → QuietStart w → Run w v → (own : ℕ) → Refuses own → in_ring own v.controller ≡ false

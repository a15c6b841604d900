-- A unit and the rounds that are left, from one round to the next; and the response buffer of a frame, behind a call.
use Prim.Native.Nat.{ℕ, ◌/◌, ◌<◌, ◌≤◌}
use mathlib.Core.Path.{◌≡◌}
use mathlib.Core.Bool.{Bool, true, cond}
use mathlib.Core.List.{List, ◌∷◌}
use Rattle.bus.specs.Bus.{station_step, is_odd}
use Rattle.bus.specs.declared.Station.{Station}
use Rattle.line.specs.declared.Lines.{Lines}
use Rattle.delivery.specs.Calls.{Call, host, submits, acknowledges, lends, lends_unit, is_kept}
use Rattle.delivery.specs.Ends.{is_free, left}
use Rattle.delivery.specs.World.{World, Busy, round}

-- In a round with these levels and hosts the unit `st` of a list becomes `after`.
pub data Becomes (seen : Lines) : ℕ → List Station → Station → Station → Type 0 where
  in_front : {hosts : ℕ} {st : Station} {ss : List Station} → Becomes seen hosts (st ∷ ss) st (station_step st seen (is_odd hosts))
  behind : {hosts : ℕ} {x st after : Station} {ss : List Station} → Becomes seen (hosts / 2) ss st after → Becomes seen hosts (x ∷ ss) st after

-- What a round of a frame does to the rounds that are left: they never rise, and fall if it is free.
abbrev pub Falls : Bool → ℕ → ℕ → Type 0
Falls free now before = (now ≤ before) × (free ≡ true → now < before)

abbrev pub Nearer : World → Busy → Type 0
Nearer w busy = Falls (is_free w busy) (left (round w busy)) (left w)

-- The response buffer that a frame has found, behind a call in mid-frame: that of a service frame, which stores nothing, may be another.
abbrev pub found_after : World → Call → List ℕ → List ℕ
found_after w (host i call) found = found
found_after w (submits k d response r b) found = found
found_after w (acknowledges code h) found = found
found_after w (lends d response) found = cond (is_kept w.controller.stage) found response
found_after w (lends_unit i buffer) found = found

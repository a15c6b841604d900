-- Demand 2's bus: "a bus run in rounds, from a quiet start, with one controller, different codes and no step refused". The bus itself is in
-- `World`, the calls in `Calls`.
use Rattle.std.specs.Prelude.{ℕ, ◌≤◌, List, map, ◌≡◌, Bool, false, length}
use Rattle.bus.specs.declared.Station.{Station}
use Rattle.message.specs.Answer.{gives}
use Rattle.turn.specs.declared.Event.{Event}
use Rattle.controller.specs.Controller.{new_controller}
use Rattle.inside.specs.Inside.{inside_of}
use Rattle.inside.specs.Lawful.{Lent}
use Rattle.kind.specs.Kinds.{kind_of, is_short}
use Rattle.unit.specs.Calls.{stepping}
use Rattle.unit.specs.Unit.{new_unit}
use Rattle.unit.specs.declared.Unit.{Unit}
use Rattle.delivery.specs.Calls.{Call, called}
use Rattle.delivery.specs.Lists.{All}
use Rattle.delivery.specs.World.{World, Busy, levels, round, Different, outcome}

-- A quiet start: every party is new, and each unit is lent its memory. The time-out is the controller's own setting. Own code 0 is
-- refused when a unit is made.
pub record New (st : Station) : Type 0 where
  pub own : ℕ
  pub retry : ℕ
  pub coded : own ≡ 0 → ⊥
  pub is_new : st.unit ≡ new_unit own retry
  pub room : is_short (kind_of own) (length st.buffer) (length st.output) ≡ false
  pub lent : Lent (kind_of own) (inside_of st)

pub record QuietStart (w : World) : Type 0 where
  pub timeout : ℕ
  pub least : 8 ≤ timeout
  pub is_new : w.controller ≡ new_controller timeout
  pub units : All New w.units
  pub codes : Different w.units

abbrev pub codes_of : List Station → List ℕ
codes_of ss = map (λ (st : Station). st.unit.own) ss

-- A run: rounds, with any hosts busy, and calls of any hosts between any two of them, in mid-frame too.
pub data Run (w : World) : World → Type 0 where
  start : Run w w
  a_round : {v : World} → Run w v → (busy : Busy) → Run w (round v busy)
  a_call : {v : World} → Run w v → (call : Call) → Run w (called v call)

-- No step is refused: neither the controller's nor any unit's.
abbrev pub Steps : Type 0
Steps =
    (w v : World)
    → QuietStart w
    → Run w v
    → (busy : Busy)
    → ((e : Event) × (outcome v busy ≡ gives e))
    × All (λ (st : Station). (host : Bool) → (u : Unit) × (stepping st.unit (levels v) host st.buffer st.input st.output ≡ gives u)) v.units

-- Document 01, "Lines and rounds": demand 2's bus, of the same steps that the code's promises cite: one controller and any list of units,
-- each with the memory that its calls are lent. In a round each party steps once and sees the levels left by all pulls of the round
-- before.
use Rattle.std.specs.Prelude.{ℕ, ◌/◌, Bool, ◌≡◌, List, [], ◌∷◌, length}
use Rattle.delivery.specs.Lists.{All}
use Rattle.bus.specs.Bus.{levels_with, units_after, is_odd, units_of, levels_of, round_of, response_of, memory_after}
use Rattle.bus.specs.declared.Bus.{Bus}
use Rattle.bus.specs.declared.Station.{Station}
use Rattle.controller.specs.Calls.{stepping, controller_stepped, buffer_after}
use Rattle.controller.specs.declared.Controller.{Controller}
use Rattle.frame.specs.Frame.{pulls_of}
use Rattle.line.specs.declared.Lines.{Lines}
use Rattle.message.specs.Answer.{Answer}
use Rattle.turn.specs.declared.Event.{Event}

-- The controller, its units, the command data and the response buffer that its steps are lent.
pub record World : Type 0 where
  pub controller : Controller
  pub units : List Station
  pub lent : List ℕ
  pub response : List ℕ

-- Who is busy in a round: the controller's host, and the host of unit i by bit i.
pub record Busy : Type 0 where
  pub here : Bool
  pub there : ℕ

abbrev pub levels : World → Lines
levels w = levels_with (pulls_of w.controller.stage) w.units

abbrev pub round : World → Busy → World
round w busy = record {
  controller = controller_stepped w.controller (levels w) busy.here w.lent w.response;
  units = units_after (levels w) busy.there w.units;
  lent = w.lent;
  response = buffer_after w.controller (levels w) busy.here w.lent w.response;
}

-- What it comes to: what the application is told, or a refusal.
abbrev pub outcome : World → Busy → Answer Event
outcome w busy = stepping w.controller (levels w) busy.here w.lent w.response

-- The code's bus of up to sixteen units, run at its own levels, is such a world: its round is this one, memory included.
abbrev pub world_of : Bus → List ℕ → List ℕ → List ℕ → World
world_of b lent response memory = record { controller = b.controller; units = units_of b memory; lent = lent; response = response }

abbrev pub world_after : Bus → ℕ → List ℕ → List ℕ → List ℕ → World
world_after b busy lent response memory =
    world_of (round_of b (levels_of b) busy lent response memory) lent (response_of b (levels_of b) busy lent response) (memory_after b (levels_of b) busy memory)

abbrev pub TheBus : Type 0
TheBus =
    (b : Bus) (busy : ℕ) (lent response memory : List ℕ)
    → length b.units ≡ 16
    → length memory ≡ 38912
    → world_after b busy lent response memory ≡ round (world_of b lent response memory) (record { here = is_odd (busy / 65536); there = busy })

-- Different codes.
pub data Different : List Station → Type 0 where
  nobody : Different []
  another : {st : Station} {ss : List Station} → All (λ (x : Station). x.unit.own ≡ st.unit.own → ⊥) ss → Different ss → Different (st ∷ ss)

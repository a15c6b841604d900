-- Demand 3, the whole chain on demand 2's bus: from a request to its handing over, in service frames. What can delay it: frames that are
-- submitted, for no service frame begins while one runs; busy hosts, which hold frames up; and an earlier request of the unit that nobody
-- has acknowledged, for its turn is a null message then.
use Rattle.std.specs.Prelude.{ℕ, suc, ◌≤◌, ◌≡◌, true, false, List, [], ◌∷◌, eqb}
use Rattle.bus.specs.declared.Station.{Station}
use Rattle.delivery.specs.Calls.{in_frame, running}
use Rattle.delivery.specs.Run.{QuietStart, Run, start, a_round, a_call}
use Rattle.delivery.specs.Lists.{All}
use Rattle.delivery.specs.World.{World, Busy}
use Rattle.frame.specs.declared.Frame.{Frame}
use Rattle.inside.specs.Inside.{inside_of, has_request}
use Rattle.ring.specs.Ring.{live, is_marked}
use Rattle.turn.specs.declared.Event.TheVariants.{Handed}
use Rattle.polling.specs.BusMoves.{moves_of}
use Rattle.delivery.specs.Log.{told_in}
use Rattle.polling.specs.Moves.{services, ahead, in_ring, is_for}

-- The unit with this code is on the bus, and holds a request.
pub data HasCode (own : ℕ) : List Station → Type 0 where
  it_has : {st : Station} {ss : List Station} → st.unit.own ≡ own → HasCode own (st ∷ ss)
  later : {st : Station} {ss : List Station} → HasCode own ss → HasCode own (st ∷ ss)

abbrev pub Requests : ℕ → Station → Type 0
Requests own st = st.unit.own ≡ own → has_request (inside_of st) ≡ true

-- No disable or close goes to the unit and no bus reset is sent, in a frame already running then or in a later one.
abbrev pub Harmless : ℕ → List Frame → Type 0
Harmless own [] = Unit
Harmless own (f ∷ fs) = (is_for own f ≡ false) × (eqb f.command.command 0xFF ≡ false)

abbrev pub Calm : ℕ → {v u : World} → Run v u → Type 0
Calm own start = Unit
Calm own (a_round {v = x} more busy) = Calm own more × Harmless own (running x.controller.stage)
Calm own (a_call {v = x} more call) = Calm own more × Harmless own (running x.controller.stage)

-- A request of the unit is handed over in a round of this run.
pub data HandedBy (own : ℕ) (x : World) (busy : Busy) (before : Type 0) : Type 0 where
  now : told_in x busy ≡ Handed own → HandedBy own x busy before
  earlier : before → HandedBy own x busy before

abbrev pub HandedIn : ℕ → {v u : World} → Run v u → Type 0
HandedIn own start = ⊥
HandedIn own (a_round {v = x} more busy) = HandedBy own x busy (HandedIn own more)
HandedIn own (a_call more call) = HandedIn own more

-- A unit of the ring that holds a request, none of its own being unacknowledged, with k units ahead of it: when k + 1 service frames have
-- begun from then, and no frame runs any more, its request has been handed over.
abbrev pub Chain : Type 0
Chain =
    (w v u : World) (own : ℕ)
    → QuietStart w
    → Run w v
    → (more : Run v u)
    → HasCode own v.units
    → All (Requests own) v.units
    → in_ring own v.controller ≡ true
    → is_marked own (live v.controller.ring) ≡ false
    → Calm own more
    → suc (ahead own v.controller) ≤ services v.controller (moves_of more [])
    → in_frame u.controller.stage ≡ false
    → HandedIn own more

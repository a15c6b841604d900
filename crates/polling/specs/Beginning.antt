-- Demand 3, that service frames begin at all: on demand 2's bus at rest a unit that holds a request makes one begin, by its retry count.
use Rattle.std.specs.Prelude.{ℕ, suc, ◌+◌, ◌-◌, ◌<◌, ◌≡◌, true, List}
use Rattle.bus.specs.declared.Station.{Station}
use Rattle.controller.specs.Controller.{is_idle}
use Rattle.delivery.specs.Calls.{Call, called_all}
use Rattle.delivery.specs.Run.{QuietStart, Run}
use Rattle.delivery.specs.Lists.{Has}
use Rattle.delivery.specs.World.{World, Busy, round}
use Rattle.inside.specs.Inside.{inside_of, has_request}
use Rattle.ring.specs.Ring.{counted}
use Rattle.polling.specs.BusMoves.{move_of}
use Rattle.polling.specs.Moves.{begins}

-- In one of the next n rounds, whoever is busy in them and whatever hosts and application call between them, unless a submission is
-- accepted: then its frame begins.
pub data BeginsWithin : ℕ → World → Type 0 where
  in_this : {n : ℕ} {v : World} → ((busy : Busy) → begins v.controller (move_of v busy) ≡ true) → BeginsWithin (suc n) v
  in_a_later :
      {n : ℕ} {v : World} → ((busy : Busy) (calls : List Call) → is_idle (called_all (round v busy) calls).controller.stage ≡ true → BeginsWithin n (called_all (round v busy) calls))
      → BeginsWithin (suc n) v

-- What is left of its retry count, a round in which BAV is pulled, and the round that sees it.
abbrev pub Beginning : Type 0
Beginning =
    (w v : World) (st : Station)
    → QuietStart w
    → Run w v
    → Has st v.units
    → has_request (inside_of st) ≡ true
    → is_idle v.controller.stage ≡ true
    → 0 < counted v.controller.ring
    → BeginsWithin (2 + (st.unit.retry - st.unit.quiet)) v

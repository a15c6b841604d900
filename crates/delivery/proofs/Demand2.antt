-- The theorem, put together.
use Rattle.delivery.specs.Demand2.{Demand}
use Rattle.delivery.proofs.Between.{nothing_between}
use Rattle.delivery.proofs.Captured.{frames_run}
use Rattle.delivery.proofs.EveryRound.{every_run}
use Rattle.delivery.proofs.Followed.{insides_run}
use Rattle.delivery.proofs.InTurn.{in_turn_run}
use Rattle.delivery.proofs.Placed.{all_placed}
use Rattle.delivery.proofs.Shown.{frames_delivered}
use Rattle.delivery.proofs.Told.{tells_run}

pub demand_2 : Demand
demand_2 w v q r = record {
  frames = frames_delivered (frames_run w v q r);
  in_turn = in_turn_run w v q r;
  insides = insides_run w v q r;
  placed = all_placed (every_run w v q r) (frames_run w v q r);
  tells = tells_run w v q r;
  between = λ e busy. nothing_between (every_run w v q r) e busy.there;
}

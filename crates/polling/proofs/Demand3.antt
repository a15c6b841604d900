-- Demand 3, proved. Its last sentence follows from demand 2.
use Rattle.polling.specs.Demand3.{Demand3}
use Rattle.polling.proofs.Handing.{starts, hands_only}
use Rattle.polling.proofs.History.{joins_ring, poll_nibbles, null_nibbles}
use Rattle.polling.proofs.ItsTurn.{turns_of_it}
use Rattle.polling.proofs.HandedOver.{polled_hands, handed_held}
use Rattle.polling.proofs.Requests.{raised, request_stands, pulls_bav, holds_bav, pulls_for_it, pulls_not_before}

pub demand_3 : Demand3
demand_3 = record {
  joins = joins_ring;
  raised = raised;
  request_stands = request_stands;
  pulls_bav = pulls_bav;
  holds_bav = holds_bav;
  pulls_for_it = pulls_for_it;
  pulls_not_before = pulls_not_before;
  starts = starts;
  turn_comes = turns_of_it;
  poll_nibbles = poll_nibbles;
  null_nibbles = null_nibbles;
  polled_hands = polled_hands;
  handed_held = handed_held;
  hands_only = hands_only;
}

-- The turn over one history: it comes in time, it is the poll or the null message that the history says, and its frame stays until its end.
use native.Mathlib.Omega.{arith}
use mathlib.Core.Path.{◌≡◌, refl, ap, subst}
use mathlib.Core.Bool.{true}
use mathlib.Core.List.{List, [], ◌∷◌, ◌++◌}
use Rattle.controller.specs.Controller.{new_controller}
use Rattle.controller.specs.declared.Controller.{Controller}
use Rattle.frame.specs.Frame.{begun}
use Rattle.polling.specs.History.{since}
use Rattle.polling.specs.Moves.{Move, after, after_all, begins, ahead, in_ring}
use Rattle.delivery.specs.Calls.{running}
use Rattle.polling.specs.Demand3.{turn_frame, TurnComes}
use Rattle.polling.proofs.Does.{stays_on}
use Rattle.polling.proofs.History.{every_turn}
use Rattle.polling.proofs.Turns.{any_controller}

-- Calls behind calls.
after-behind : (c : Controller) (a b : List Move) → after_all (after_all c a) b ≡ after_all c (a ++ b)
after-behind c [] b = refl
after-behind c (m ∷ a) b = after-behind (after c m) a b

pub turns_of_it : TurnComes
turns_of_it own timeout before calls i s enough =
    let c = since timeout before in
    let t = any_controller own c calls i s enough in
    let past = before ++ t.front in
    let at : after_all c t.front ≡ since timeout past = after-behind (new_controller timeout) before t.front in
    let now : begins (since timeout past) t.call ≡ true = subst (λ (x : Controller). begins x t.call ≡ true) at t.begins_now in
    let frame : (after (since timeout past) t.call).stage ≡ begun (turn_frame own timeout past) =
    every_turn own timeout past t.call now (subst (λ (x : Controller). in_ring own x ≡ true) at t.stands_in_ring) (subst (λ (x : Controller). ahead own x ≡ 0) at t.foremost) in
    let few = t.fewer in
    record {
      front = t.front;
      call = t.call;
      rest = t.rest;
      split = t.split;
      in_time = omega arith;
      begins_now = now;
      its_frame = frame;
      stays = stays_on (turn_frame own timeout past) (after (since timeout past) t.call) t.rest (ap running frame);
    }

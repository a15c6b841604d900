-- The code's bus is a world, and its round the world's: its units are found again in the memory after the round.
use Prim.Native.Nat.{◌*◌, ◌/◌, ◌≤◌}
use native.Mathlib.Nat.{min-le_right, min-eq_left}
use native.Mathlib.Omega.{arith}
use mathlib.Core.Path.{◌≡◌, sym, ◌∙◌, ap}
use mathlib.Core.List.{List, ◌++◌}
use lib.ListN.{length, take, drop, length-take}
use lib.Seq.{take_at}
use Rattle.bus.proofs.Memory.{units_back, units_alone, units_length}
use Rattle.bus.specs.Bus.{stations_of, units_in, units_after, is_odd, counted, levels_left, levels_of, units_of, memory_after}
use Rattle.controller.specs.Calls.{controller_stepped, buffer_after}
use Rattle.frame.specs.Frame.{pulls_of}
use Rattle.line.specs.declared.Lines.{Lines}
use Rattle.unit.specs.declared.Unit.{Unit}
use Rattle.delivery.specs.World.{World, TheBus}

pub the_bus : TheBus
the_bus b busy lent response memory sixteen room =
    let n = counted b in
    let us = take n b.units in
    let seen = levels_of b in
    let here = is_odd (busy / 65536) in
    let most : n ≤ 16 = min-le_right b.count 16 in
    let l : length us ≡ n = length-take n b.units ∙ min-eq_left (omega arith) in
    let after = units_after seen busy (units_of b memory) in
    let at : Lines → World = λ x. record { controller = controller_stepped b.controller x here lent response; units = units_after x busy (units_of b memory); lent = lent; response = buffer_after b.controller x here lent response } in
    let front : take n (units_in after ++ drop n b.units) ≡ units_in after = take_at (units_in after) (drop n b.units) n (units_length seen busy us memory ∙ l) in
    let units : stations_of (take n (units_in after ++ drop n b.units)) (memory_after b seen busy memory) ≡ after =
    ap (λ (x : List Unit). stations_of x (memory_after b seen busy memory)) front ∙ units_back seen busy us memory (drop (2432 * n) memory) (omega arith) in
    (λ k. record { controller = (at seen).controller; units = units k; lent = lent; response = (at seen).response })
    ∙ ap (λ (x : List Unit). at (levels_left (pulls_of b.controller.stage) x)) (sym (units_alone us memory))

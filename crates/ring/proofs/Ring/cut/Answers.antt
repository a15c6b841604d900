-- `Ring::cut` meets its contract: an unused slot behind the entries changes none.
use mathlib.Core.Path.{◌∙◌}
use mathlib.Core.List.{[], ◌∷◌, ◌++◌}
use Rattle.ring.specs.Ring.{none, live, cut_at}
use Rattle.ring.proofs.Laws.{slots_same, get_or-none}
use Rattle.ring.proofs.Ring.cut.Goals as goal

pub returns : goal.returns
returns c =
    let l = cut_at c.args.at (live c.args.self) in
    λ i.
    record {
      entries = (c.moved_slots-entries.ensures ∙ slots_same 16 0 (l ++ (none ∷ [])) l (get_or-none l)) i;
      count = c.count_without.ensures.0 i;
    }

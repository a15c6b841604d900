-- `controllerwords::save_ring` meets its contract: slot by slot; the slots that are still to be written are those of `slots_in` from here on.
use Prim.Native.Nat.{ℕ}
use native.Mathlib.Numerals.{add-one}
use mathlib.Core.Path.{sym, ◌∙◌, ap}
use borrow.Author.Rules.{rules}
use lib.ListN.{set}
use Rattle.controllerwords.specs.Layout.{ENTRIES}
use Rattle.controllerwords.specs.Controller.{slots_in}
use Rattle.controllerwords.proofs.Laws.{slots_next, slots_end}
use Rattle.controllerwords.proofs.save_ring.Goals as goal

pub loop-i-preserved : goal.loop-i-preserved
loop-i-preserved c =
    rw (c.with_entry.ensures, add-one) (sym (slots_next c.args.r.entries c.loop-i.words c.loop-i.i (search rules)) ∙ c.loop-i.invariant)

pub returns : goal.returns
returns c =
    let a = c.args in
    sym (slots_end a.r.entries c.loop-i.words c.loop-i.i c.loop-i-test.false)
    ∙ c.loop-i.invariant
    ∙ ap (λ (n : ℕ). slots_in 16 0 a.r.entries (set a.words.now ENTRIES n)) c.with8.ensures

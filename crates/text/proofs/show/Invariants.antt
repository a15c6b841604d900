-- `text::show` meets its contract: at each turn the rest of the text, from the state and the cells so far, gives what all of it gives.
use Prim.Native.Nat.{◌-◌, ◌≤◌}
use mathlib.Core.Path.{◌≡◌}
use lib.ListN.{length, drop}
use Rattle.screen.specs.Text.{with_text}
use Rattle.text.proofs.Texts.{Ready, drawn_if}
use Rattle.text.proofs.show.Given as goal

abbrev pub invariant-loop-i : goal.invariant-loop-i
invariant-loop-i l =
    (l.i ≤ length l.text)
    × (Ready l.draws l.after l.cells
    × ((length l.cells ≡ length l.initial.cells)
    × ((with_text l.after (drop l.i l.text) ≡ with_text l.initial.after l.text) × (drawn_if l.draws l.after (drop l.i l.text) l.cells ≡ drawn_if l.draws l.initial.after l.text l.initial.cells))))

abbrev pub decreases-loop-i : goal.decreases-loop-i
decreases-loop-i l = length l.text - l.i

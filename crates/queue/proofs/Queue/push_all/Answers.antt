-- `queue::Queue::push_all` meets its contract.
use Prim.Native.Nat.{ℕ, ◌+◌, ◌%◌}
use mathlib.Core.Path.{◌≡◌, sym, ◌∙◌, ap}
use mathlib.Core.List.{List}
use lib.ListN.{get_or, set, drop}
use lib.Seq.{set_out}
use Rattle.queue.specs.Queue.{stored}
use Rattle.queue.proofs.Laws.{stored_next}
use Rattle.queue.proofs.Queue.push_all.Goals as goal
use Rattle.queue.proofs.Queue.push_all.Goals.{then-place-bytes, else-place-bytes}

pub loop-i-preserved : goal.loop-i-preserved
loop-i-preserved c =
    let l = c.loop-i.bytes in
    let i = c.loop-i.i in
    let d = c.args.«data».now in
    let back = c.args.self.head + c.len.result in
    let next : c.if-place-bytes.bytes ≡ set l ((back + i) % 256) (get_or d i 0) =
    elim c.if-place-bytes.branch [ then-place-bytes w ↦ w.bytes-is | else-place-bytes w ↦ w.bytes-is ∙ sym (set_out l ((back + i) % 256) (get_or d i 0) w.if-place-bytes.false) ] in
    ap (λ (x : List ℕ). stored x (back + (i + 1)) (drop (i + 1) d)) next
    ∙ stored_next l back i d c.loop-i-test.true
    ∙ c.loop-i.invariant

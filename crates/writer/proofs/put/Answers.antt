-- `writer::put` meets its contract: the head at the front, the end behind the place of the data, and the data between them.
use Prim.Native.Nat.{ℕ, ◌+◌, ◌-◌}
use native.Mathlib.Omega.{arith}
use mathlib.Core.Path.{◌≡◌, sym, ◌∙◌, ap}
use mathlib.Core.List.{List, ◌++◌}
use borrow.Rule.Slice.PartMut.{put_mid, same_len_mid}
use lib.ListN.{length, take, drop, length-append, length-drop}
use lib.Seq.{take-length}
use Rattle.tail.proofs.Copies.{tail-filled}
use Rattle.writer.proofs.Parts.{all-parts}
use Rattle.writer.proofs.put.Goals as goal

pub returns : goal.returns
returns c =
    let h = c.args.head.now in
    let d = c.args.«data».now in
    let e = c.args.end.now in
    let out = c.args.out.now in
    let room = c.requires in
    let copied : c.copy_from_slice.new.self ≡ h = c.copy_from_slice.ensures.after in
    let o = c.copy_from_slice.new.self ++ drop (length h) out in
    let first : o ≡ take (length h) h ++ drop (length h) out =
    ap (λ (l : List ℕ). l ++ drop (length h) out) (copied ∙ sym (take-length h)) in
    let long : length o ≡ length out =
    omega (arith, length-append c.copy_from_slice.new.self (drop (length h) out), length-drop (length h) out, ap length copied) in
    let m = length h + length d in
    let p = put_mid m (length o - m) o c.few.new.out in
    let wide : length p ≡ length o = same_len_mid m (length o - m) o c.few.new.out c.few.auto.out in
    let second = tail-filled m e o c.few.new.out (omega arith) c.few.ensures in
    let third = tail-filled (length h) d p c.fill.new.out (omega arith) c.fill.ensures in
    (omega arith, all-parts h d e out o p _ (omega arith) long first second third)

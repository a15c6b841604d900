-- A host call in mid-frame leaves every stage as it is: a unit's host reaches its state and its queues, and nothing of its lines. Another
-- command buffer leaves a unit as it is.
use Prim.Native.Nat.{ℕ, zero, suc, ◌+◌}
use mathlib.Core.Path.{◌≡◌, refl, sym, ◌∙◌, ap, subst}
use mathlib.Core.Bool.{Bool, true, false, cond}
use mathlib.Core.List.{List}
use lib.ListN.{length}
use Rattle.answer.specs.declared.Response.{Response}
use Rattle.bus.specs.declared.Station.{Station}
use Rattle.header.specs.declared.Command.{Command}
use Rattle.inside.specs.Calls.{HostCall, called_by}
use Rattle.inside.specs.Inside.{Inside, inside_of}
use Rattle.inside.specs.Lawful.{Fit}
use Rattle.inside.proofs.Calls.{Called, unit_called, output_called}
use Rattle.inside.proofs.Lawful.{every_lawful}
use Rattle.kind.specs.Kinds.{kind_of, is_short}
use Rattle.line.specs.declared.Listener.{Listener}
use Rattle.line.specs.declared.Sender.{Sender}
use Rattle.phase.specs.declared.Phase.{Phase}
use Rattle.whole.specs.Whole.{bytes_for}
use Rattle.delivery.specs.Calls.{called_at, with_buffer, buffer_at}
use Rattle.delivery.proofs.Taking.{Heard}
use Rattle.delivery.specs.Lists.{All, none, also, One, this, that}
use Rattle.delivery.proofs.Promised.{Moment, Promised}
use Rattle.delivery.proofs.Stages.{Fresh, Part, Sits, Sound, Talk, addressed, answers, idles, listens, selects, sits, talks}
use Rattle.delivery.proofs.Promise.{promise_called}

-- A unit that is sound is so behind a call.
pub sound_called : {call : HostCall} {st after : Station} → Called call st after → Sound st → Sound after
sound_called {call} {st} {after} k s =
    let output : after.output ≡ st.output = ap (λ (x : Inside). x.output) k.inside ∙ output_called (kind_of st.unit.own) call (inside_of st) in
    record {
      room = (λ i. is_short (kind_of (k.own i)) (length (k.buffer i)) (length (output i))) ∙ s.room;
      fit = subst (λ (own : ℕ). Fit (kind_of own) (inside_of after)) (sym k.own) (subst (Fit (kind_of st.unit.own)) (sym k.inside) ((every_lawful (kind_of st.unit.own)).fit_called (inside_of st) call s.fit));
    }

-- A promise outlasts it, and so does every part of a frame.
pub part_called : (T : Moment) {c : Command} {d : List ℕ} {i : ℕ} {sender : Sender} {call : HostCall} {st after : Station} → Called call st after
    → Part (Promised T st.unit.own c d) c d i sender st → Part (Promised T after.unit.own c d) c d i sender after
part_called T {c} {d} {i} {sender} {call} {st} {after} k (listens ear t f h a q) =
    listens ear t f (subst (λ (x : Phase). Heard (bytes_for c d) ear (i + t) x after.buffer) (sym k.phase) (subst (Heard (bytes_for c d) ear (i + t) st.unit.phase) (sym k.buffer) h))
    (λ l. ap (addressed c) k.own ∙ a l) (λ l. k.asking ∙ q l)
part_called T {c} k (answers ear r f l a e p q) = answers ear r f l (ap (addressed c) k.own ∙ a) (k.phase ∙ e) (promise_called T k p) (k.asking ∙ q)
part_called T {c} k (sits now a e n q) = sits now (ap (addressed c) k.own ∙ a) (k.phase ∙ e) n (k.asking ∙ q)

pub talk_called : {T : Moment} {c : Command} {d : List ℕ} {stores : Bool} {found : List ℕ} {ear : Listener} {taken : Response} {quiet : ℕ} {buffer : List ℕ} {call : HostCall} {st after : Station} → Called call st after
    → Talk T c d stores found ear taken quiet buffer st → Talk T c d stores found ear taken quiet buffer after
talk_called {T} {c} k (talks r j t sender wait e p f g b l w z q own) = talks r j t sender wait (k.phase ∙ e) (promise_called T k p) f g b l w z (k.asking ∙ q) (ap (addressed c) k.own ∙ own)

pub sits_called : {call : HostCall} {st after : Station} → Called call st after → Sits st → Sits after
sits_called k s = (k.phase ∙ s.0, k.asking ∙ s.1)

pub fresh_called : {call : HostCall} {st after : Station} → Called call st after → Fresh st → Fresh after
fresh_called k (idles e) = idles (k.phase ∙ e)
fresh_called k (selects e) = selects (k.phase ∙ e)

-- At one unit of a list.
pub all-called : {P : Station → Type 0} → ((call : HostCall) (st after : Station) → Called call st after → P st → P after) → (i : ℕ) (call : HostCall) {ss : List Station}
    → All (λ (st : Station). P st × Sound st) ss → All (λ (st : Station). P st × Sound st) (called_at i call ss)
all-called f i call none = none
all-called f zero call (also {x = st} p a) = let k = unit_called call st in also (f call st (called_by call st) k p.0, sound_called k p.1) a
all-called f (suc i) call (also p a) = also p (all-called f i call a)

pub one_called : {P Q : Station → Type 0} → ((call : HostCall) (st after : Station) → Called call st after → P st → P after)
    → ((call : HostCall) (st after : Station) → Called call st after → Q st → Q after) → (i : ℕ) (call : HostCall) {ss : List Station}
    → One (λ (st : Station). P st × Sound st) (λ (st : Station). Q st × Sound st) ss → One (λ (st : Station). P st × Sound st) (λ (st : Station). Q st × Sound st) (called_at i call ss)
one_called f g zero call (this {x = st} p a) = let k = unit_called call st in this (f call st (called_by call st) k p.0, sound_called k p.1) a
one_called f g (suc i) call (this p a) = this p (all-called g i call a)
one_called f g zero call (that {x = st} q o) = let k = unit_called call st in that (g call st (called_by call st) k q.0, sound_called k q.1) o
one_called f g (suc i) call (that q o) = that q (one_called f g i call o)

-- A unit that is lent another command buffer, where it is long enough.
pub sound_lent : (buffer : List ℕ) (st : Station) → Sound st → Sound (with_buffer buffer st)
sound_lent buffer st s = record { room = by (is_short (kind_of st.unit.own) (length buffer) (length st.output)) refl; fit = s.fit }
  where
    by : (t : Bool) → is_short (kind_of st.unit.own) (length buffer) (length st.output) ≡ t → is_short (kind_of st.unit.own) (length (cond t st.buffer buffer)) (length st.output) ≡ false
    by true e = s.room
    by false e = e

pub fresh_lent : (buffer : List ℕ) (st : Station) → Fresh st → Fresh (with_buffer buffer st)
fresh_lent buffer st (idles e) = idles e
fresh_lent buffer st (selects e) = selects e

pub all_lent : {P : Station → Type 0} (i : ℕ) (buffer : List ℕ) → ((st : Station) → P st → P (with_buffer buffer st)) → {ss : List Station} → All P ss → All P (buffer_at i buffer ss)
all_lent i buffer f none = none
all_lent zero buffer f (also {x = st} p a) = also (f st p) a
all_lent (suc i) buffer f (also p a) = also p (all_lent i buffer f a)

-- At one unit of a list, or at none.
pub all_lends : {P : Station → Type 0} (t : Bool) (i : ℕ) (buffer : List ℕ) → ((st : Station) → P st → P (with_buffer buffer st)) → {ss : List Station} → All P ss → All P (cond t ss (buffer_at i buffer ss))
all_lends true i buffer f a = a
all_lends false i buffer f a = all_lent i buffer f a

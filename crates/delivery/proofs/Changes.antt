-- What a round of a frame makes of a unit: the reply is fixed by its state in the round of the last nibble.
use Prim.Native.Nat.{ℕ, zero, suc, ◌+◌, ◌*◌, ◌<◌, ◌≤◌}
use native.Mathlib.Omega.{arith}
use mathlib.Core.Path.{◌≡◌, refl, sym, ◌∙◌, ap, subst}
use mathlib.Core.Bool.{Bool, true, false, cond, true≢false}
use mathlib.Core.List.{List}
use borrow.Author.Tests.{ltb-true, ltb-false}
use lib.Dec.{ltb}
use lib.ListN.{length}
use Rattle.bus.specs.declared.Station.{Station}
use Rattle.header.specs.declared.Command.{Command}
use Rattle.inside.specs.Inside.{Inside, inside_of, with_state}
use Rattle.inside.proofs.Round.{inside_after}
use Rattle.line.specs.Line.{hear_of, send_of, sent_of}
use Rattle.line.specs.declared.Lines.{Lines}
use Rattle.line.specs.declared.Listener.{Listener}
use Rattle.line.specs.declared.Listener.TheVariants.{Ready, Holding}
use Rattle.line.specs.declared.Sender.{Sender}
use Rattle.line.specs.declared.Sender.TheVariants.{Next}
use Rattle.message.specs.Nibbles.{nibble_in}
use Rattle.phase.specs.Phase.{phase_step, moves}
use Rattle.phase.specs.declared.Moved.{Moved}
use Rattle.queue.specs.Queue.{contents}
use Rattle.reply.specs.Reply.{last_nibble, response_bytes}
use Rattle.answer.specs.declared.Response.{Response}
use Rattle.phase.specs.declared.Phase.{Phase}
use Rattle.phase.specs.declared.Phase.TheVariants.{Receiving, Responding, SittingOut}
use Rattle.phase.specs.declared.Progress.TheVariants.{Answered}
use Rattle.serial.specs.Serial.{finished}
use Rattle.serial.specs.declared.Reply.{Reply}
use Rattle.unit.specs.Unit.{pulls_hsk}
use Rattle.whole.specs.Whole.{bytes_for, Sent}
use Rattle.whole.proofs.Whole.{length_bytes}
use Rattle.delivery.proofs.Rounds.{FixedBy, Changed, unchanged, fixed_now, done_now}
use Rattle.delivery.proofs.Taking.{Heard}
use Rattle.delivery.proofs.Stages.{is_answered, Fresh, idles, selects, Talk, talks, addressed, Part, listens, answers, sits}
use Rattle.delivery.proofs.Heard.{Round, Pair, rests, takes, sends, pair, Waits, waits, heard_waits, Takes, takes_it, Fixed, heard-takes, heard-last, heard-other}
use Rattle.delivery.proofs.Part.{Stepped, Shows, sees, heard_hsk, heard_open}
use Rattle.delivery.proofs.Promised.{Moment}
use Rattle.delivery.proofs.Frame.{fresh_selects}

-- A round that leaves the state and the queues' bytes as they are.
module _ (c : Command) (d : List ℕ) {st st' : Station} {seen : Lines} {busy : Bool} (step : Stepped st seen busy st') where
  still : {after : Phase} {b : List ℕ} → Round st.unit.phase st.unit.own (inside_of st) seen busy st.buffer after (inside_of st) b → is_answered after ≡ false → Changed c d st st'
  still r before = unchanged (step.inside ∙ r.inside) (λ now. absurd (true≢false (sym now ∙ ap is_answered (step.phase ∙ r.phase) ∙ before)))

  module _ {x : Phase} (e : st.unit.phase ≡ x) where
    inside-at : inside_of st' ≡ inside_after x st.unit.own (inside_of st) seen busy st.buffer
    inside-at = step.inside ∙ ap (λ (y : Phase). inside_after y st.unit.own (inside_of st) seen busy st.buffer) e

    phase-at : st'.unit.phase ≡ (phase_step x st.unit.own st.unit.serial seen busy st.buffer st.input).phase
    phase-at = step.phase ∙ ap (λ (y : Phase). (phase_step y st.unit.own st.unit.serial seen busy st.buffer st.input).phase) e

  -- A unit that no frame has reached, has answered, or sits out.
  pub fresh-changes : seen.hsk ≡ false → Fresh st → Changed c d st st'
  fresh-changes high x = by x
    where
      before : Fresh st → is_answered st'.unit.phase ≡ false
      before y = ap is_answered (fresh_selects step high y)

      by : Fresh st → Changed c d st st'
      by (idles e) = unchanged (inside-at e) (λ now. absurd (true≢false (sym now ∙ before x)))
      by (selects e) = unchanged (inside-at e) (λ now. absurd (true≢false (sym now ∙ before x)))

  pub sits-changes : {now : Bool} → st.unit.phase ≡ SittingOut now → Changed c d st st'
  sits-changes e = unchanged (inside-at e) (λ now. absurd (true≢false (sym now ∙ ap is_answered (phase-at e))))

  answered-changes : {ear : Listener} {r : Reply} → st.unit.phase ≡ Receiving ear (Answered r) → Changed c d st st'
  answered-changes e = unchanged (inside-at e) (λ now. ap is_answered e)

  -- A unit that responds.
  abbrev later : Reply → ℕ → Moved
  later r j = moves (Responding r (j + 1) Next false) st.unit.serial

  abbrev ready : Reply → ℕ → Sender → Moved
  ready r j sender = moves (Responding r j (send_of sender seen.hsk (nibble_in (response_bytes (contents st.input st.unit.serial.input) r) j)) false) st.unit.serial

  abbrev done : Reply → Moved
  done r = moves (SittingOut false) (finished st.unit.serial r)

  responds-by : (r : Reply) (j : ℕ) (sender : Sender) (wait sent more : Bool) → addressed c st.unit.own ≡ true → st.unit.phase ≡ Responding r j sender wait
      → sent_of sender seen.hsk ≡ sent → ltb j (last_nibble st.unit.serial.input r) ≡ more → Changed c d st st'
  responds-by r j sender true sent more a e s m = unchanged (inside-at e) (λ now. absurd (true≢false (sym now ∙ ap is_answered (phase-at e))))
  responds-by r j sender false sent more a e s m = by sent more s m
    where
      moved : Bool → Bool → Moved
      moved t u = cond t (cond u (later r j) (done r)) (ready r j sender)

      comes : {t u : Bool} → sent_of sender seen.hsk ≡ t → ltb j (last_nibble st.unit.serial.input r) ≡ u → (st'.unit.phase ≡ (moved t u).phase) × (inside_of st' ≡ with_state (inside_of st) (moved t u).serial)
      comes x y = (phase-at e ∙ (λ k. (moved (x k) (y k)).phase), inside-at e ∙ (λ k. with_state (inside_of st) (moved (x k) (y k)).serial))

      by : (t u : Bool) → sent_of sender seen.hsk ≡ t → ltb j (last_nibble st.unit.serial.input r) ≡ u → Changed c d st st'
      by false u x y = unchanged (comes x y).1 (λ now. absurd (true≢false (sym now ∙ ap is_answered (comes x y).0)))
      by true true x y = unchanged (comes x y).1 (λ now. absurd (true≢false (sym now ∙ ap is_answered (comes x y).0)))
      by true false x y = done_now a r j sender e (comes x y).0 (comes x y).1

  pub talk-changes : {T : Moment} {e : Command} {g : List ℕ} {stores : Bool} {found : List ℕ} {ear : Listener} {taken : Response} {quiet : ℕ} {buffer : List ℕ}
      → addressed c st.unit.own ≡ true → Talk T e g stores found ear taken quiet buffer st → Changed c d st st'
  talk-changes a (talks r j t sender wait e p fits g b l w q k own) = responds-by r j sender wait (sent_of sender seen.hsk) (ltb j (last_nibble st.unit.serial.input r)) a e refl refl

module _ (P : Reply → Inside → Type 0) (c : Command) (d : List ℕ) (ok : Sent c d) (i : ℕ) (sender : Sender) (st st' : Station) (seen : Lines) (busy : Bool) (step : Stepped st seen busy st') where
  abbrev n : ℕ
  n = nibble_in (bytes_for c d) i

  fixed : Fixed c d st.unit.phase st.unit.own (inside_of st) seen busy st.buffer → FixedBy c d st st'
  fixed x = record { ear = Holding; reply = step.phase ∙ x.phase; inside = step.inside ∙ x.inside }

  more : Takes (bytes_for c d) i st.unit.phase st.unit.own (inside_of st) seen busy st.buffer → Changed c d st st'
  more (takes_it after b h r) = still c d step r (heard_open h)

  by-taking : (b t : Bool) → addressed c st.unit.own ≡ b → ltb (suc i) (2 * length (bytes_for c d)) ≡ t → i < 2 * length (bytes_for c d) → (2 ≤ i → addressed c st.unit.own ≡ true) → seen.hsk ≡ true → seen.nibble ≡ n
      → Heard (bytes_for c d) Ready i st.unit.phase st.buffer → Changed c d st st'
  by-taking true true a l h z low q x = more (heard-takes c d ok st.unit.own (inside_of st) seen busy low x q (ltb-true (suc i) (2 * length (bytes_for c d)) l) (λ e. a))
  by-taking true false a l h z low q x =
      let all : 2 * length (bytes_for c d) ≤ suc i = ltb-false (suc i) (2 * length (bytes_for c d)) l in
      fixed_now a (heard_open x) (fixed (heard-last c d ok st.unit.own (inside_of st) seen busy low x q (omega arith)))
  by-taking false t a l h z low q x = other i refl
    where
      nine : length (bytes_for c d) ≡ 9 + length d
      nine = length_bytes c d

      other : (k : ℕ) → k ≡ i → Changed c d st st'
      other zero e = more (heard-takes c d ok st.unit.own (inside_of st) seen busy low x q (omega arith) (λ e'. absurd (omega arith)))
      other (suc zero) e = still c d step (heard-other c d ok st.unit.own (inside_of st) seen busy low x (sym e) (q ∙ ap (nibble_in (bytes_for c d)) (sym e)) a) refl
      other (suc (suc k)) e = absurd (true≢false (sym (z (omega arith)) ∙ a))

  pub part-changes : Shows sender seen → (pulls_hsk st.unit.phase ≡ true → seen.hsk ≡ true) → i < 2 * length (bytes_for c d) → Part P c d i sender st → Changed c d st st'
  part-changes shows own less (listens ear t f h a q) = by (pair seen.hsk seen.nibble busy f (sees sender ear seen shows (λ e. own (heard_hsk h ∙ e))))
    where
      rests-so : Waits (bytes_for c d) (i + t) (hear_of ear seen.hsk busy) st.unit.phase st.unit.own (inside_of st) seen busy st.buffer → Changed c d st st'
      rests-so (waits after h' r) = still c d step r (heard_open h')

      by : Pair n sender ear t seen.hsk seen.nibble busy → Changed c d st st'
      by (rests e1 e2 g) = rests-so (heard_waits st.unit.own (inside_of st) seen busy h e1)
      by (takes e1 e2 e3 e4 e5 g) =
          let k : i + t ≡ i = omega arith in
          by-taking (addressed c st.unit.own) (ltb (suc i) (2 * length (bytes_for c d))) refl refl less (λ l. a (omega arith)) e2 e3
          (subst (λ (x : ℕ). Heard (bytes_for c d) Ready x st.unit.phase st.buffer) k (subst (λ (x : Listener). Heard (bytes_for c d) x (i + t) st.unit.phase st.buffer) e1 h))
      by (sends e1 e2 e3 e4 e5) = rests-so (heard_waits st.unit.own (inside_of st) seen busy h e1)
  part-changes shows own less (answers ear r f l a e k q) = answered-changes c d step e
  part-changes shows own less (sits now a e k q) = sits-changes c d step e

-- A promised response, by the laws of its unit's kind: it is one, it fits, and its bytes and length are those of the moment in which it was
-- given, whatever has been called since.
use Prim.Native.Nat.{ℕ, ◌-◌}
use native.Mathlib.Omega.{arith}
use mathlib.Core.Path.{◌≡◌, sym, ◌∙◌, ap, subst}
use mathlib.Core.List.{List, ◌∷◌}
use lib.ListN.{length}
use Rattle.bus.specs.declared.Station.{Station}
use Rattle.header.specs.declared.Command.{Command}
use Rattle.inside.specs.Calls.{HostCall, called_all, called as calledIn}
use Rattle.inside.specs.Inside.{Inside, inside_of, incoming, data_in, reply_for, taken_for}
use Rattle.inside.specs.Lawful.{Fit}
use Rattle.inside.proofs.Calls.{Called}
use Rattle.inside.proofs.Lawful.{every_lawful}
use Rattle.kind.specs.Kinds.{kind_of}
use Rattle.reply.specs.Reply.{reply_status, response_bytes, last_nibble}
use Rattle.reply.proofs.Laws.{length_data}
use Rattle.serial.specs.declared.Reply.{Reply}
use Rattle.whole.specs.Back.{Answered, response_for, length_of}
use Rattle.whole.specs.Whole.{stored_of}
use Rattle.delivery.proofs.Promised.{Moment, Promised}
use Rattle.delivery.proofs.Stages.{answer_data, answer_bytes}

module _ {T : Moment} {own : ℕ} {c : Command} {d : List ℕ} {r : Reply} {x : Inside} (p : Promised T own c d r x) where
  data-stands : data_in x r ≡ answer_data p
  data-stands =
      (λ k. data_in (p.now k) (p.said k))
      ∙ (every_lawful (kind_of own)).stands p.given c (length d) (stored_of d) p.calls p.fit
      ∙ sym (ap (data_in p.given) p.said)

  -- The number of the last nibble, and the bytes.
  pub last-is : last_nibble x.state.input r ≡ length_of (answer_data p) - 1
  last-is =
      let l : length (data_in x r) ≡ length (answer_data p) = ap length data-stands in
      let n = length_data x.input x.state.input r in
      omega arith

  pub bytes-are : response_bytes (incoming x) r ≡ answer_bytes p
  bytes-are = ap (λ (e : List ℕ). response_for e (reply_status r)) data-stands

  pub answer-fits : Answered (answer_data p) (reply_status r) c.buffer_length
  answer-fits = subst (λ (y : Reply). Answered (data_in p.given y) (reply_status y) c.buffer_length) (sym p.said) ((every_lawful (kind_of own)).answers p.given c (length d) (stored_of d) p.fit)

-- To a unit with the same code and the same inside.
abbrev pub carried : (T : Moment) {c : Command} {d : List ℕ} {r : Reply} {own own' : ℕ} {x y : Inside} → own' ≡ own → y ≡ x → Promised T own c d r x → Promised T own' c d r y
carried T {c = c} {d = d} o e p = record {
  given = p.given;
  took = subst (λ (k : ℕ). T k p.given) (sym o) p.took;
  fit = subst (λ (k : ℕ). Fit (kind_of k) p.given) (sym o) p.fit;
  said = p.said ∙ ap (λ (k : ℕ). reply_for k p.given c d) (sym o);
  calls = p.calls;
  now = e ∙ p.now ∙ ap (λ (k : ℕ). called_all (kind_of k) p.calls (taken_for k p.given c d)) (sym o);
}

-- It outlasts a call of the unit's host.
abbrev pub promise_called : (T : Moment) {c : Command} {d : List ℕ} {r : Reply} {call : HostCall} {st after : Station} → Called call st after
    → Promised T st.unit.own c d r (inside_of st) → Promised T after.unit.own c d r (inside_of after)
promise_called T {c = c} {d = d} {call = call} {st = st} k p = record {
  given = p.given;
  took = subst (λ (n : ℕ). T n p.given) (sym k.own) p.took;
  fit = subst (λ (n : ℕ). Fit (kind_of n) p.given) (sym k.own) p.fit;
  said = p.said ∙ ap (λ (n : ℕ). reply_for n p.given c d) (sym k.own);
  calls = call ∷ p.calls;
  now = k.inside ∙ ap (calledIn (kind_of st.unit.own) call) p.now ∙ ap (λ (n : ℕ). called_all (kind_of n) (call ∷ p.calls) (taken_for n p.given c d)) (sym k.own);
}

-- The video unit is lawful: its checks are walked through once. It never has service, so that it holds no request, and its cursor stays on the
-- unprotected lines.
use Prim.Native.Nat.{ℕ, zero, suc, ◌/◌, ◌<◌, ◌≤◌}
use native.Mathlib.Omega.{arith}
use mathlib.Core.Bool.{Bool, true, false, cond, ◌&&◌, ◌||◌, true≢false, false≢true}
use mathlib.Core.List.{List, [], ◌∷◌}
use mathlib.Core.Path.{◌≡◌, refl, sym, ◌∙◌, ap, subst}
use borrow.Author.Tests.{ne_eqb}
use lib.Dec.{ltb, eqb, lit<, lit≤}
use lib.ListN.{length-take}
use Rattle.field.specs.Field.{Below}
use Rattle.frame.specs.Frame.{poll_of}
use Rattle.header.specs.declared.Command.{Command}
use Rattle.host.specs.Calls.{taking_in}
use Rattle.kind.specs.Kinds.{verdict_of, checks_of}
use Rattle.kind.specs.declared.Kind.TheVariants.{Video as VideoUnit}
use Rattle.message.proofs.Fields.{below_take}
use Rattle.message.specs.Answer.{gives, refused}
use Rattle.queue.specs.Queue.{popped}
use Rattle.queue.specs.declared.Queue.{Queue}
use Rattle.reply.specs.Reply.{is_silent, reply_status}
use Rattle.std.specs.Prelude.{Option, Some, None, Result}
use Rattle.rs232.proofs.Laws.{each_status}
use Rattle.rs232.specs.Checks.{mode_of, accepted_of, opened_or, requested_in, attributes_in, read_length}
use Rattle.screen.proofs.Laws.{text_on}
use Rattle.screen.specs.Screen.{On}
use Rattle.screen.specs.declared.Screen.{Screen}
use Rattle.serial.specs.Serial.{applied, with_request}
use Rattle.serial.specs.Verdict.{says, status}
use Rattle.serial.specs.declared.Effect.{Effect}
use Rattle.serial.specs.declared.Effect.TheVariants.{Keeps, Closes, OpensScreen, ResetsScreen, Shows}
use Rattle.serial.specs.declared.Mode.{Mode}
use Rattle.serial.specs.declared.Mode.TheVariants.{Input, Output, Update}
use Rattle.serial.specs.declared.Opening.{Opening}
use Rattle.serial.specs.declared.Opening.TheVariants.{Closed, OpenFor}
use Rattle.serial.specs.declared.Reply.{Reply}
use Rattle.serial.specs.declared.Reply.TheVariants.{Silent, Status, Opened, Bytes, Address, Polled}
use Rattle.serial.specs.declared.Serial.{Serial}
use Rattle.serial.specs.declared.Verdict.{Verdict}
use Rattle.video.specs.Checks.{refused_mode, open_by, address_by, read_by, write_by, command_by, supported, reset_by}
use Rattle.whole.specs.Back.{Answered}
use Rattle.inside.specs.Calls.{HostCall, feeds, takes, raises, called, called_all, state_after}
use Rattle.inside.specs.Inside.{Inside, with_state, has_request, reply_of, taken, responded, data_in, clears}
use Rattle.inside.specs.Lawful.{ScreenFit, is_ending, Lawful}
use Rattle.inside.proofs.Ors.{or-first, or_second, by_test, with_code}
use Rattle.inside.proofs.Queues.{zero_silent, zero_keeps, bare, four_below}

-- The verdicts that it may give to a command in a state.
record Each (s : Serial) (c : Command) (P : Verdict → Type 0) : Type 0 where
  silent : P (says Silent Keeps)
  resets : eqb c.command 0xFF ≡ true → P (says Silent ResetsScreen)
  refuses : (number : ℕ) → number < 256 → P (status number)
  opened : (m : Mode) (accepted : ℕ) → 4 ≤ c.buffer_length → P (says (Opened accepted) (OpensScreen m accepted))
  closes : eqb c.command 0x01 ≡ true → P (says (Status 0x00) Closes)
  addresses : (n : ℕ) → n ≤ c.buffer_length → P (says (Address n s.screen.row s.screen.column) Keeps)
  shows : P (says (Status 0x00) Shows)

-- Its checks, both ways of every test.
module _ (s : Serial) (c : Command) (P : Verdict → Type 0) (each : Each s c P) where
  each-open : (n requested attributes : ℕ) → P (open_by c.buffer_length n requested attributes)
  each-open n requested attributes =
      let buffer = c.buffer_length in
      each_status (λ (r : Result (Unit {0}) ℕ). P (opened_or r (says (Opened (accepted_of requested)) (OpensScreen (mode_of attributes) (accepted_of requested)))))
      (refused_mode attributes) buffer n requested attributes
      (λ o. each.opened (mode_of attributes) (accepted_of requested) o.has_room)
      (λ k e. each.refuses k (mode-below (eqb (attributes / 64) 1) k e))
      (λ k _ h. each.refuses k h)
    where
      mode-below : (t : Bool) (k : ℕ) → cond t (Some 0x15) None ≡ Some k → k < 256
      mode-below true k e = let same : 0x15 ≡ k = cc in omega arith
      mode-below false k e = cc

  each-address : (accepted : ℕ) → P (address_by s.screen accepted c.buffer_length)
  each-address accepted =
      let buffer = c.buffer_length in
      by_test P s.screen.asked _ _ (λ _. each.addresses (read_length 2 buffer accepted) (omega arith)) (λ _. each.refuses 0x00 (lit< tt))

  each_read : (m : Mode) (accepted : ℕ) → P (read_by m s.screen accepted c.buffer_length)
  each_read Input accepted = each-address accepted
  each_read Output accepted = each.refuses 0x0F (lit< tt)
  each_read Update accepted = each-address accepted

  each_write : (m : Mode) → P (write_by m)
  each_write Input = each.refuses 0x0E (lit< tt)
  each_write Output = each.shows
  each_write Update = each.shows

  each-command : (o : Opening) (n : ℕ) (d : List ℕ) → P (command_by o s.screen c n d)
  each-command Closed n d = by_test P (eqb c.command 0x00) _ _ (λ _. each-open n (requested_in d) (attributes_in d)) (λ _. each.refuses 0x04 (lit< tt))
  each-command (OpenFor m accepted) n d =
      by_test P (eqb c.command 0x00) _ _ (λ _. each.refuses 0x05 (lit< tt)) (λ _.
      by_test P (eqb c.command 0x01) _ _ (λ e. each.closes e) (λ _.
      by_test P (eqb c.command 0x03) _ _ (λ _. each_read m accepted) (λ _. each_write m)))

  each-check : (n : ℕ) (d : List ℕ) → P (checks_of VideoUnit s c n d)
  each-check n d =
      by_test P (supported c.command) _ _
      (λ _. by_test P (ltb 256 n) _ _ (λ _. each.refuses 0x08 (lit< tt)) (λ _.
      by_test P (eqb c.command 0x0A) _ _ (λ _. each.refuses 0x0A (lit< tt)) (λ _. each-command s.opening n d)))
      (λ _. each.refuses 0x0D (lit< tt))

  each-reset : (o : Opening) → eqb c.command 0xFF ≡ true → P (says Silent (reset_by o))
  each-reset Closed e = each.silent
  each-reset (OpenFor m accepted) e = each.resets e

  verdicts : (n : ℕ) (d : List ℕ) → P (verdict_of VideoUnit s c n d)
  verdicts n d =
      by_test P (eqb c.command 0xFE) _ _ (λ _. each.silent) (λ _.
      by_test P (eqb c.command 0xFF) _ _ (λ e. each-reset s.opening e) (λ _.
      by_test P (eqb c.device 0) _ _ (λ _. each.silent) (λ _. each-check n d)))

-- What fits goes on to.
abbrev StateFit : Serial → Type 0
StateFit s = On s.screen × ((s.enabled ≡ false) × (s.requesting ≡ false))

new_on : {s : Screen} → s.row ≡ 0 → s.column ≡ 0 → s.top ≡ false → s.bottom ≡ false → On s
new_on r c t b = record { below_top = rw (r, t) (lit≤ tt); above_bottom = rw (r, b) (lit≤ tt); within = rw c (lit< tt) }

fit_each : (s : Serial) (c : Command) (d : List ℕ) → StateFit s → Each s c (λ (v : Verdict). StateFit (applied s v.effect d))
fit_each s c d f = record {
  silent = f;
  resets = λ _. (new_on refl refl refl refl, (refl, refl));
  refuses = λ number h. f;
  opened = λ m accepted h. (new_on refl refl refl refl, f.1);
  closes = λ _. (f.0, (refl, refl));
  addresses = λ n h. f;
  shows = (text_on s.screen d f.0, f.1);
}

fit_ended : (x : Inside) (r : Reply) → ScreenFit x → ScreenFit (responded x r)
fit_ended x Silent f = f
fit_ended x (Status number) f = f
fit_ended x (Opened accepted) f = f
fit_ended x (Bytes n) f = f
fit_ended x (Address n row column) f = (record { below_top = f.0.below_top; above_bottom = f.0.above_bottom; within = f.0.within }, f.1)
fit_ended x Polled f = (f.0, (f.1.0, refl))

fit_called : (x : Inside) (call : HostCall) → ScreenFit x → ScreenFit (called VideoUnit call x)
fit_called x (feeds b h) f = f
fit_called x takes f = by (popped x.output x.state.output)
  where
    by : (p : Option (ℕ × Queue)) → ScreenFit (with_state x (taking_in x.state p))
    by (Some front) = f
    by None = f
fit_called x raises f = by x.state.enabled refl
  where
    by : (t : Bool) → x.state.enabled ≡ t → ScreenFit (with_state x (state_after (cond t (gives (with_request x.state true)) (refused 7)) x.state))
    by true e = absurd (false≢true (sym f.1.0 ∙ e))
    by false e = f

-- A response that is one, fits, and does not depend on what is inside the unit any more.
record Good (x : Inside) (c : Command) (v : Verdict) : Type 0 where
  stands : (y : Inside) → data_in y v.reply ≡ data_in x v.reply
  fits : Answered (data_in x v.reply) (reply_status v.reply) c.buffer_length

module _ (x : Inside) (c : Command) (on : On x.state.screen) where
  two_below : Below 256 (x.state.screen.row ∷ x.state.screen.column ∷ [])
  two_below zero = below-24 x.state.screen.bottom on.above_bottom
    where
      below-24 : (t : Bool) → x.state.screen.row ≤ cond t 22 23 → x.state.screen.row < 256
      below-24 true h = omega arith
      below-24 false h = omega arith
  two_below (suc zero) = let h = on.within in omega arith
  two_below (suc (suc i)) = lit< tt

  good-status : (number : ℕ) (effect : Effect) → number < 256 → Good x c (says (Status number) effect)
  good-status number effect h = record { stands = λ y. refl; fits = bare x c number h }

  good-silent : (effect : Effect) → Good x c (says Silent effect)
  good-silent effect = record { stands = λ y. refl; fits = bare x c 0xFF (lit< tt) }

  good-address : (n : ℕ) → n ≤ c.buffer_length → Good x c (says (Address n x.state.screen.row x.state.screen.column) Keeps)
  good-address n h =
      let bytes = x.state.screen.row ∷ x.state.screen.column ∷ [] in
      let l = length-take n bytes in
      record { stands = λ y. refl; fits = record { bytes = below_take n bytes two_below; number = lit< tt; short = omega arith; fits = omega arith } }

  good-each : Each x.state c (Good x c)
  good-each = record {
    silent = good-silent Keeps;
    resets = λ _. good-silent ResetsScreen;
    refuses = λ number h. good-status number Keeps h;
    opened = λ m accepted h. record { stands = λ y. refl; fits = record { bytes = four_below x c accepted; number = lit< tt; short = omega arith; fits = h } };
    closes = λ _. good-status 0x00 Closes (lit< tt);
    addresses = good-address;
    shows = good-status 0x00 Shows (lit< tt);
  }

  good : (n : ℕ) (d : List ℕ) → Good x c (verdict_of VideoUnit x.state c n d)
  good n d = verdicts x.state c (Good x c) good-each n d

-- No answer clears a request.
none-clears : (s : Serial) (c : Command) → Each s c (λ (v : Verdict). clears v.reply ≡ false)
none-clears s c = record { silent = refl; resets = λ _. refl; refuses = λ number h. refl; opened = λ m accepted h. refl; closes = λ _. refl; addresses = λ n h. refl; shows = refl }

request_kept : (s : Serial) (c : Command) (d : List ℕ) → is_ending c.command ≡ false → Each s c (λ (v : Verdict). (applied s v.effect d).requesting ≡ s.requesting)
request_kept s c d not-ending = record {
  silent = refl;
  resets = λ e. ends (or_second (eqb c.command 0x01) (eqb c.command 0x09 || eqb c.command 0xFF) (or_second (eqb c.command 0x09) (eqb c.command 0xFF) e));
  refuses = λ number h. refl;
  opened = λ m accepted h. refl;
  closes = λ e. ends (or-first (eqb c.command 0x01) (eqb c.command 0x09 || eqb c.command 0xFF) e);
  addresses = λ n h. refl;
  shows = refl;
}
  where
    ends : {t : Bool} → is_ending c.command ≡ true → t ≡ s.requesting
    ends e = absurd (true≢false (sym e ∙ not-ending))

poll_reply : (x : Inside) (own : ℕ) → (own ≡ 0 → ⊥) → reply_of VideoUnit x (poll_of own).command 0 [] ≡ Status 0x0A
poll_reply x own nonzero = ap (λ (t : Bool). (cond t (says Silent Keeps) (checks_of VideoUnit x.state (poll_of own).command 0 [])).reply) (ne_eqb own 0 nonzero)

pub video_lawful : Lawful VideoUnit
video_lawful = record {
  fit_new = λ x new lent. (
    new_on
        (ap (λ (s : Serial). s.screen.row) new)
        (ap (λ (s : Serial). s.screen.column) new)
        (ap (λ (s : Serial). s.screen.top) new)
        (ap (λ (s : Serial). s.screen.bottom) new),
    (ap (λ (s : Serial). s.enabled) new, ap (λ (s : Serial). s.requesting) new),
  );
  fit_taken = λ x c n d f. verdicts x.state c (λ (v : Verdict). StateFit (applied x.state v.effect d)) (fit_each x.state c d f) n d;
  fit_ended = fit_ended;
  fit_called = fit_called;
  answers = λ x c n d f. (good x c f.0 n d).fits;
  stands = λ x c n d calls f. (good x c f.0 n d).stands (called_all VideoUnit calls (taken VideoUnit x c n d));
  zero_silent = zero_silent VideoUnit;
  zero_keeps = zero_keeps VideoUnit;
  polled = λ x own f nonzero. ap reply_status (poll_reply x own nonzero) ∙ sym (ap (λ (t : Bool). cond (t && has_request x) 0x00 0x0A) f.1.0);
  speaks = λ x own f nonzero. ap is_silent (poll_reply x own nonzero);
  clears_poll = λ x c n d e. absurd (false≢true (sym (verdicts x.state c (λ (v : Verdict). clears v.reply ≡ false) (none-clears x.state c) n d) ∙ e));
  served = λ x f e. absurd (false≢true (sym f.1.1 ∙ e));
  request_taken = λ x c n d e. verdicts x.state c (λ (v : Verdict). (applied x.state v.effect d).requesting ≡ x.state.requesting) (request_kept x.state c d e) n d;
}

-- It answers no enabling with 00.
pub enabling_refused : (x : Inside) (c : Command) (n : ℕ) (d : List ℕ) → c.command ≡ 0x08 → reply_status (reply_of VideoUnit x c n d) ≡ 0x00 → ⊥
enabling_refused x c n d e = subst (λ (code : ℕ). reply_status (reply_of VideoUnit x (with_code c code) n d) ≡ 0x00 → ⊥) (sym e) (by (eqb c.device 0))
  where
    by : (t : Bool) → reply_status (cond t (says Silent Keeps) (status 0x0D)).reply ≡ 0x00 → ⊥
    by true z = omega arith
    by false z = omega arith

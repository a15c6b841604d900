-- A unit with an input and an output queue is lawful, whatever it checks: each law is a property of each of the few verdicts that there are.
use Prim.Native.Nat.{ℕ, zero, suc, ◌+◌, ◌/◌, ◌%◌, ◌<◌, ◌≤◌, min}
use native.Mathlib.Nat.{add-zero, min-le_left, min-le_right}
use native.Mathlib.Omega.{arith}
use mathlib.Core.Path.{◌≡◌, refl, sym, ◌∙◌, ap, subst}
use mathlib.Core.Bool.{Bool, true, false, cond, ◌&&◌, ◌||◌, true≢false, false≢true}
use mathlib.Core.List.{List, [], ◌∷◌, ◌++◌, append-nil}
use borrow.Author.Tests.{eqb-false, eq-eqb, ne_eqb}
use lib.Dec.{eqb, leb, lit<}
use lib.ListN.{length, take, length-take}
use lib.Seq.{take-append-le}
use Rattle.field.specs.Field.{Below}
use Rattle.frame.specs.Frame.{poll_of}
use Rattle.header.specs.declared.Command.{Command}
use Rattle.host.specs.Calls.{taking_in}
use Rattle.kind.specs.Kinds.{verdict_of, checks_of, reset_of, is_fed}
use Rattle.kind.specs.declared.Kind.{Kind}
use Rattle.message.specs.Answer.{Answer, gives, refused, kept}
use Rattle.message.proofs.Fields.{below_take, below_set}
use Rattle.queue.specs.Queue.{held, room, from, contents, queue_with, bytes_with, popped}
use Rattle.std.specs.Prelude.{Option, Some, None}
use Rattle.queue.specs.declared.Queue.{Queue}
use Rattle.queue.proofs.Laws.{contents_with, held_with, length_with_lem, length-contents, held_below}
use Rattle.reply.specs.Reply.{is_silent, reply_status}
use Rattle.serial.specs.Serial.{applied, with_input, with_request}
use Rattle.serial.specs.Verdict.{says, status, poll_by}
use Rattle.serial.specs.declared.Effect.{Effect}
use Rattle.serial.specs.declared.Effect.TheVariants.{Keeps, Opens, Closes, Resets, Enables, Disables, Stores, OpensScreen, ResetsScreen, Shows}
use Rattle.serial.specs.declared.Mode.{Mode}
use Rattle.serial.specs.declared.Reply.{Reply}
use Rattle.serial.specs.declared.Reply.TheVariants.{Silent, Status, Opened, Bytes, Address, Polled}
use Rattle.serial.specs.declared.Serial.{Serial}
use Rattle.serial.specs.declared.Verdict.{Verdict}
use Rattle.whole.specs.Back.{Answered}
use Rattle.inside.specs.Calls.{HostCall, feeds, takes, raises, called, called_all, state_after}
use Rattle.inside.specs.Inside.{Inside, with_state, is_served, has_request, reply_of, taken, responded, incoming, data_in, clears}
use Rattle.inside.specs.Lawful.{QueueLent, QueueFit, is_ending, LawfulBy}
use Rattle.inside.proofs.Ors.{or-first, or_second, by_test}

-- Checks 1 and 2, of every kind: at code 0 there is silence, and nothing but a reset acts.
pub zero_silent : (kind : Kind) (x : Inside) (c : Command) (n : ℕ) (d : List ℕ) → c.device ≡ 0 → is_silent (reply_of kind x c n d) ≡ true
zero_silent kind x c n d e = by (eqb c.command 0xFE) (eqb c.command 0xFF) (eqb c.device 0) (eq-eqb c.device 0 e)
  where
    by : (a b t : Bool) → t ≡ true → is_silent (cond a (says Silent Keeps) (cond b (says Silent (reset_of kind x.state)) (cond t (says Silent Keeps) (checks_of kind x.state c n d)))).reply ≡ true
    by true b t z = refl
    by false true t z = refl
    by false false true z = refl
    by false false false z = absurd (false≢true z)

pub zero_keeps : (kind : Kind) (x : Inside) (c : Command) (n : ℕ) (d : List ℕ) → c.device ≡ 0 → eqb c.command 0xFF ≡ false → taken kind x c n d ≡ x
zero_keeps kind x c n d e f = by (eqb c.command 0xFE) refl
  where
    by : (a : Bool) → eqb c.command 0xFE ≡ a → taken kind x c n d ≡ x
    by true g = rw g
    by false g = rw (g, f, eq-eqb c.device 0 e)

-- The verdicts that a unit with queues may give to a command in a state: a property of each of these is one of the verdict.
pub record Each (s : Serial) (c : Command) (P : Verdict → Type 0) : Type 0 where
  pub silent : P (says Silent Keeps)
  pub resets : eqb c.command 0xFF ≡ true → P (says Silent Resets)
  pub refuses : (number : ℕ) → number < 256 → P (status number)
  pub opens : (m : Mode) (accepted : ℕ) → 4 ≤ c.buffer_length → P (says (Opened accepted) (Opens m accepted))
  pub closes : eqb c.command 0x01 ≡ true → P (says (Status 0x00) Closes)
  pub reads : (k : ℕ) → k ≤ c.buffer_length → k ≤ held s.input → P (says (Bytes k) Keeps)
  pub stores : P (says (Status 0x00) Stores)
  pub enables : P (says (Status 0x00) Enables)
  pub disables : eqb c.command 0x09 ≡ true → P (says (Status 0x00) Disables)
  pub polled : eqb c.command 0x0A ≡ true → P (says Polled Keeps)

-- The input queue holds all that a reply announces.
Holds : Inside → Reply → Type 0
Holds x Silent = Unit
Holds x (Status number) = Unit
Holds x (Opened accepted) = Unit
Holds x (Bytes n) = n ≤ held x.state.input
Holds x (Address n row column) = Unit
Holds x Polled = Unit

-- A verdict whose response is one, fits, and stands after its effect on data e.
module _ (x : Inside) (c : Command) where
  abbrev after : Effect → List ℕ → List ℕ → Inside
  after effect e output = record { state = applied x.state effect e; input = x.input; output = output }

  record Good (v : Verdict) : Type 0 where
    stands : (e o : List ℕ) → data_in (after v.effect e o) v.reply ≡ data_in x v.reply
    holds : (e o : List ℕ) → Holds (after v.effect e o) v.reply
    fits : Answered (data_in x v.reply) (reply_status v.reply) c.buffer_length

  -- No data.
  pub bare : (number : ℕ) → number < 256 → Answered [] number c.buffer_length
  bare number h = record { bytes = λ i. lit< tt; number = h; short = omega arith; fits = omega arith }

  good-status : (number : ℕ) (effect : Effect) → number < 256 → Good (says (Status number) effect)
  unfolding Holds
  good-status number effect h = record { stands = λ e o. refl; holds = λ e o. tt; fits = bare number h }

  good-silent : (effect : Effect) → Good (says Silent effect)
  unfolding Holds
  good-silent effect = record { stands = λ e o. refl; holds = λ e o. tt; fits = bare 0xFF (lit< tt) }

  good-polled : Good (says Polled Keeps)
  unfolding Holds
  good-polled = record { stands = λ e o. refl; holds = λ e o. tt; fits = bare 0x00 (lit< tt) }

  -- An open's four bytes.
  pub four_below : (a : ℕ) → Below 256 (a % 256 ∷ a / 256 % 256 ∷ 0 ∷ 0 ∷ [])
  four_below a zero = omega arith
  four_below a (suc zero) = omega arith
  four_below a (suc (suc zero)) = lit< tt
  four_below a (suc (suc (suc zero))) = lit< tt
  four_below a (suc (suc (suc (suc i)))) = lit< tt

  good-opened : (a : ℕ) (effect : Effect) → 4 ≤ c.buffer_length → Good (says (Opened a) effect)
  unfolding Holds
  good-opened a effect h = record { stands = λ e o. refl; holds = λ e o. tt; fits = record { bytes = four_below a; number = lit< tt; short = omega arith; fits = h } }

  module _ (below : Below 256 x.input) where
    -- What a queue holds are bytes.
    from-below : (at n : ℕ) → Below 256 (from x.input at n)
    from-below at zero i = lit< tt
    from-below at (suc n) zero = below (at % 256)
    from-below at (suc n) (suc i) = from-below (suc at) n i

    good-read : (k : ℕ) → k ≤ c.buffer_length → k ≤ held x.state.input → Good (says (Bytes k) Keeps)
    unfolding Holds
    good-read k h few =
        let queue = x.state.input in
        let q = contents x.input queue in
        let l : length (take k q) ≡ min k (held queue) = length-take k q ∙ ap (min k) (length-contents x.input queue) in
        let a : min k (held queue) ≤ k = min-le_left k (held queue) in
        let b : min k (held queue) ≤ held queue = min-le_right k (held queue) in
        let m : held queue ≤ 256 = held_below queue in
        record {
          stands = λ e o. refl;
          holds = λ e o. few;
          fits = record { bytes = below_take k q (from-below queue.head (held queue)); number = lit< tt; short = omega arith; fits = omega arith };
        }

    good-each : Each x.state c Good
    good-each = record {
      silent = good-silent Keeps;
      resets = λ _. good-silent Resets;
      refuses = λ number h. good-status number Keeps h;
      opens = λ m accepted h. good-opened accepted (Opens m accepted) h;
      closes = λ _. good-status 0x00 Closes (lit< tt);
      reads = good-read;
      stores = good-status 0x00 Stores (lit< tt);
      enables = good-status 0x00 Enables (lit< tt);
      disables = λ _. good-status 0x00 Disables (lit< tt);
      polled = λ _. good-polled;
    }

-- What a host call leaves: the input queue at most grows at its back.
record Grown (x y : Inside) : Type 0 where
  fed : List ℕ
  grown : incoming y ≡ incoming x ++ fed
  count : held y.state.input ≡ held x.state.input + length fed
  memory : length y.input ≡ length x.input
  bytes : Below 256 x.input → Below 256 y.input

same_queue : (x y : Inside) → y.state.input ≡ x.state.input → y.input ≡ x.input → Grown x y
same_queue x y q i = record {
  fed = [];
  grown = (λ k. contents (i k) (q k)) ∙ sym (append-nil (incoming x));
  count = ap held q ∙ sym (add-zero (held x.state.input));
  memory = ap length i;
  bytes = λ w. subst (Below 256) (sym i) w;
}

module _ (x : Inside) (b : ℕ) (small : b < 256) (memory : length x.input ≡ 256) where
  abbrev q : Queue
  q = x.state.input

  -- The byte that is fed is refused, or the newest.
  abbrev fedWith : Answer Serial → Inside
  fedWith a = record { state = state_after a x.state; input = kept a (bytes_with x.input q (b ∷ [])) x.input; output = x.output }

  with_byte : (t : Bool) → leb 1 (room q) ≡ t → Below 256 x.input → Below 256 (bytes_with x.input q (b ∷ []))
  with_byte true e w = rw e (below_set x.input ((q.head + held q) % 256) b w small)
  with_byte false e w = rw e w

  fed-grown : 1 ≤ room q → Grown x (fedWith (gives (with_input x.state (queue_with q (b ∷ [])))))
  fed-grown h = record {
    fed = b ∷ [];
    grown = contents_with x.input q (b ∷ []) (omega (arith, memory)) h;
    count = held_with q (b ∷ []) h;
    memory = length_with_lem x.input q (b ∷ []);
    bytes = with_byte (leb 1 (room q)) refl;
  }

  feed-by : (t v : Bool) → eqb (room q) 0 ≡ v → Grown x (fedWith (cond t (cond v (refused 6) (gives (with_input x.state (queue_with q (b ∷ []))))) (refused 7)))
  feed-by false v g = same_queue x _ refl refl
  feed-by true true g = same_queue x _ refl refl
  feed-by true false g = let z : room q ≡ 0 → ⊥ = eqb-false (room q) 0 g in fed-grown (omega arith)

call_grown : (kind : Kind) (x : Inside) (call : HostCall) → length x.input ≡ 256 → Grown x (called kind call x)
call_grown kind x (feeds b h) m = feed-by x b h m (is_fed kind x.state.opening) (eqb (room x.state.input) 0) refl
call_grown kind x takes m = by (popped x.output x.state.output)
  where
    by : (p : Option (ℕ × Queue)) → Grown x (with_state x (taking_in x.state p))
    by (Some front) = same_queue x _ refl refl
    by None = same_queue x _ refl refl
call_grown kind x raises m = by x.state.enabled
  where
    by : (t : Bool) → Grown x (with_state x (state_after (cond t (gives (with_request x.state true)) (refused 7)) x.state))
    by true = same_queue x _ refl refl
    by false = same_queue x _ refl refl

-- A reply that stands goes on to: a queue that has grown at its back gives the same bytes.
grown_stands : (x y : Inside) (r : Reply) → Grown x y → Holds x r → (data_in y r ≡ data_in x r) × Holds y r
unfolding Holds
grown_stands x y Silent g h = (refl, tt)
grown_stands x y (Status number) g h = (refl, tt)
grown_stands x y (Opened accepted) g h = (refl, tt)
grown_stands x y (Bytes n) g h =
    let old = incoming x in
    let l : length old ≡ held x.state.input = length-contents x.input x.state.input in
    let c = g.count in
    (ap (take n) g.grown ∙ take-append-le n old g.fed (omega arith), omega arith)
grown_stands x y (Address n row column) g h = (refl, tt)
grown_stands x y Polled g h = (refl, tt)

-- A request only while service is enabled.
abbrev Served : Serial → Type 0
Served s = s.requesting ≡ true → s.enabled ≡ true

served-applied : (s : Serial) (e : Effect) (d : List ℕ) → Served s → Served (applied s e d)
served-applied s Keeps d h = h
served-applied s (Opens m accepted) d h = h
served-applied s Closes d h = λ x. absurd (false≢true x)
served-applied s Resets d h = λ x. absurd (false≢true x)
served-applied s Enables d h = λ x. refl
served-applied s Disables d h = λ x. absurd (false≢true x)
served-applied s Stores d h = h
served-applied s (OpensScreen m accepted) d h = h
served-applied s ResetsScreen d h = λ x. absurd (false≢true x)
served-applied s Shows d h = h

served-called : (kind : Kind) (x : Inside) (call : HostCall) → Served x.state → Served (called kind call x).state
served-called kind x (feeds b h) s = by (is_fed kind x.state.opening) (eqb (room x.state.input) 0)
  where
    by : (t v : Bool) → Served (state_after (cond t (cond v (refused 6) (gives (with_input x.state (queue_with x.state.input (b ∷ []))))) (refused 7)) x.state)
    by true true = s
    by true false = s
    by false v = s
served-called kind x takes s = by (popped x.output x.state.output)
  where
    by : (p : Option (ℕ × Queue)) → Served (taking_in x.state p)
    by (Some front) = s
    by None = s
served-called kind x raises s = by x.state.enabled refl
  where
    by : (t : Bool) → x.state.enabled ≡ t → Served (state_after (cond t (gives (with_request x.state true)) (refused 7)) x.state)
    by true e = λ _. e
    by false e = s

fit_called : (kind : Kind) (x : Inside) (call : HostCall) → QueueFit x → QueueFit (called kind call x)
fit_called kind x call f = let g = call_grown kind x call f.0.0 in ((g.memory ∙ f.0.0, g.bytes f.0.1), served-called kind x call f.1)

fit_ended : (x : Inside) (r : Reply) → QueueFit x → QueueFit (responded x r)
fit_ended x Silent f = f
fit_ended x (Status number) f = f
fit_ended x (Opened accepted) f = f
fit_ended x (Bytes n) f = f
fit_ended x (Address n row column) f = f
fit_ended x Polled f = (f.0, λ e. absurd (false≢true e))

all_stands : (kind : Kind) (x : Inside) (r : Reply) (calls : List HostCall) → QueueFit x → Holds x r
    → QueueFit (called_all kind calls x) × ((data_in (called_all kind calls x) r ≡ data_in x r) × Holds (called_all kind calls x) r)
all_stands kind x r [] f h = (f, (refl, h))
all_stands kind x r (call ∷ calls) f h =
    let y = called_all kind calls x in
    let old = all_stands kind x r calls f h in
    let new = grown_stands y (called kind call y) r (call_grown kind y call old.0.0.0) old.1.1 in
    (fit_called kind y call old.0, (new.0 ∙ old.1.0, new.1))

-- A poll.
poll_status : (t : Bool) → reply_status (cond t (says Polled Keeps) (says (Status 0x0A) Keeps)).reply ≡ cond t 0x00 0x0A
poll_status true = refl
poll_status false = refl

poll_speaks : (t : Bool) → is_silent (cond t (says Polled Keeps) (says (Status 0x0A) Keeps)).reply ≡ false
poll_speaks true = refl
poll_speaks false = refl

only_a_poll : (s : Serial) (c : Command) → Each s c (λ (v : Verdict). clears v.reply ≡ true → eqb c.command 0x0A ≡ true)
only_a_poll s c = record {
  silent = λ e. absurd (false≢true e);
  resets = λ _ e. absurd (false≢true e);
  refuses = λ number h e. absurd (false≢true e);
  opens = λ m accepted h e. absurd (false≢true e);
  closes = λ _ e. absurd (false≢true e);
  reads = λ i h g e. absurd (false≢true e);
  stores = λ e. absurd (false≢true e);
  enables = λ e. absurd (false≢true e);
  disables = λ _ e. absurd (false≢true e);
  polled = λ e _. e;
}

-- Which commands end a request.
request_kept : (s : Serial) (c : Command) (d : List ℕ) → is_ending c.command ≡ false → Each s c (λ (v : Verdict). (applied s v.effect d).requesting ≡ s.requesting)
request_kept s c d not-ending = record {
  silent = refl;
  resets = λ e. ends (or_second (eqb c.command 0x01) (eqb c.command 0x09 || eqb c.command 0xFF) (or_second (eqb c.command 0x09) (eqb c.command 0xFF) e));
  refuses = λ number h. refl;
  opens = λ m accepted h. refl;
  closes = λ e. ends (or-first (eqb c.command 0x01) (eqb c.command 0x09 || eqb c.command 0xFF) e);
  reads = λ i h g. refl;
  stores = refl;
  enables = refl;
  disables = λ e. ends (or_second (eqb c.command 0x01) (eqb c.command 0x09 || eqb c.command 0xFF) (or-first (eqb c.command 0x09) (eqb c.command 0xFF) e));
  polled = λ _. refl;
}
  where
    ends : {t : Bool} → is_ending c.command ≡ true → t ≡ s.requesting
    ends e = absurd (true≢false (sym e ∙ not-ending))

-- A kind is lawful whose checks give nothing but these, that answers a poll as a serial unit does, and that is reset so.
module _
    (kind : Kind) (checks : (s : Serial) (c : Command) (P : Verdict → Type 0) → Each s c P → (n : ℕ) (d : List ℕ) → P (checks_of kind s c n d))
    (polls : (s : Serial) (own : ℕ) → (checks_of kind s (poll_of own).command 0 []).reply ≡ (poll_by s.enabled s.requesting).reply)
    (reset : (s : Serial) → reset_of kind s ≡ Resets)
  where
    verdicts : (s : Serial) (c : Command) (P : Verdict → Type 0) → Each s c P → (n : ℕ) (d : List ℕ) → P (verdict_of kind s c n d)
    verdicts s c P each n d =
        by_test P (eqb c.command 0xFE) _ _ (λ _. each.silent) (λ _.
        by_test P (eqb c.command 0xFF) _ _ (λ e. subst (λ (effect : Effect). P (says Silent effect)) (sym (reset s)) (each.resets e)) (λ _.
        by_test P (eqb c.device 0) _ _ (λ _. each.silent) (λ _. checks s c P each n d)))

    poll_reply : (x : Inside) (own : ℕ) → (own ≡ 0 → ⊥) → reply_of kind x (poll_of own).command 0 [] ≡ (poll_by (is_served x) (has_request x)).reply
    poll_reply x own nonzero = ap (λ (t : Bool). (cond t (says Silent Keeps) (checks_of kind x.state (poll_of own).command 0 [])).reply) (ne_eqb own 0 nonzero) ∙ polls x.state own

    fit_taken : (x : Inside) (c : Command) (n : ℕ) (d : List ℕ) → QueueFit x → QueueFit (taken kind x c n d)
    fit_taken x c n d f = (f.0, served-applied x.state (verdict_of kind x.state c n d).effect d f.1)

    good : (x : Inside) (c : Command) (n : ℕ) (d : List ℕ) → QueueFit x → Good x c (verdict_of kind x.state c n d)
    good x c n d f = verdicts x.state c (Good x c) (good-each x c f.0.1) n d

    pub queues-lawful : LawfulBy kind QueueLent QueueFit
    queues-lawful = record {
      fit_new = λ x new lent. (lent, λ e. absurd (false≢true (sym (ap (λ (s : Serial). s.requesting) new) ∙ e)));
      fit_taken = fit_taken;
      fit_ended = fit_ended;
      fit_called = fit_called kind;
      answers = λ x c n d f. (good x c n d f).fits;
      stands = λ x c n d calls f.
          let y = taken kind x c n d in
          (all_stands kind y (reply_of kind x c n d) calls (fit_taken x c n d f) ((good x c n d f).holds d y.output)).1.0 ∙ (good x c n d f).stands d y.output;
      zero_silent = zero_silent kind;
      zero_keeps = zero_keeps kind;
      polled = λ x own f nonzero. ap reply_status (poll_reply x own nonzero) ∙ poll_status (is_served x && has_request x);
      speaks = λ x own f nonzero. ap is_silent (poll_reply x own nonzero) ∙ poll_speaks (is_served x && has_request x);
      clears_poll = λ x c n d. verdicts x.state c (λ (v : Verdict). clears v.reply ≡ true → eqb c.command 0x0A ≡ true) (only_a_poll x.state c) n d;
      served = λ x f. f.1;
      request_taken = λ x c n d e. verdicts x.state c (λ (v : Verdict). (applied x.state v.effect d).requesting ≡ x.state.requesting) (request_kept x.state c d e) n d;
    }

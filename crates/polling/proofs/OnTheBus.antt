-- Demand 2's bus: the calls of its controller, the codes of its units, and what the end of a poll tells in the round in which it ends.
use Prim.Native.Nat.{ℕ, zero, suc, ◌/◌, ◌<◌}
use native.Mathlib.Omega.{arith}
use mathlib.Core.Path.{◌≡◌, refl, sym, ◌∙◌, ap, subst}
use mathlib.Core.Bool.{Bool, true, false, cond, ◌&&◌, ◌||◌, true≢false}
use mathlib.Core.List.{List, [], ◌∷◌}
use borrow.Author.Tests.{le-ltb, ne_eqb, eqb-true, eq-eqb}
use lib.Dec.{eqb}
use lib.ListN.{length}
use Rattle.answer.specs.Answer.{status_of, count_of}
use Rattle.answer.specs.declared.Response.{Response}
use Rattle.answer.specs.declared.Response.TheVariants.{Complete}
use Rattle.bus.specs.Bus.{levels_with, units_after, is_odd}
use Rattle.bus.specs.declared.Station.{Station}
use Rattle.controller.specs.Controller.{event_after}
use Rattle.controller.specs.declared.Controller.{Controller}
use Rattle.delivery.specs.Calls.{Call, host, submits as submitsTo, acknowledges as acknowledgesTo, lends, lends_unit, called, called_at, buffer_at, in_frame}
use Rattle.delivery.specs.Run.{QuietStart, Run, start, a_round, a_call}
use Rattle.delivery.proofs.Rounds.{Took, takes_it, took_it}
use Rattle.delivery.specs.Lists.{All, none, also, One, this, that, Has, here, there}
use Rattle.delivery.proofs.Promised.{Moment}
use Rattle.delivery.proofs.Stages.{InFrame, Spoke, spoke, Hushed, not_its_own, by_the_rule, addressed, moved_in, Sound, Sits, answer_data, begins, sends, hears, waits}
use Rattle.delivery.specs.World.{World, Busy, levels}
use Rattle.delivery.proofs.EveryRound.{on_nibble, every_run, every_outcome, on_sound}
use Rattle.delivery.proofs.Lists.{all_map, all_step}
use Rattle.delivery.proofs.Frame.{own_kept, becomes_all}
use Rattle.delivery.proofs.Calls.{all_lends}
use Rattle.delivery.proofs.Run.{frame_busy}
use Rattle.frame.specs.Frame.{poll_of, over}
use Rattle.frame.specs.declared.Frame.{Frame}
use Rattle.frame.specs.declared.Moved.{Moved}
use Rattle.header.specs.declared.Command.{Command}
use Rattle.inside.specs.Calls.{HostCall}
use Rattle.inside.specs.Inside.{Inside, is_served, has_request, reply_for}
use Rattle.inside.specs.Lawful.{Fit}
use Rattle.inside.proofs.Calls.{unit_called}
use Rattle.inside.proofs.Ors.{or_left, or-first, or_second}
use Rattle.inside.proofs.Lawful.{every_lawful}
use Rattle.kind.specs.Kinds.{kind_of}
use Rattle.line.specs.declared.Lines.{Lines}
use Rattle.reply.specs.Reply.{reply_status}
use Rattle.serial.specs.declared.Reply.{Reply}
use Rattle.turn.specs.Turn.{event_of as frameEvent}
use Rattle.turn.specs.declared.Event.TheVariants.{Nothing, Handed}
use Rattle.unit.specs.declared.Unit.{Unit}
use Rattle.polling.specs.Chain.{HasCode, it_has, later}
use Rattle.delivery.proofs.Lines.{bav_kept}
use Rattle.frame.specs.Frame.{pulls_of as framePulls}
use Rattle.line.specs.Line.{wired}
use Rattle.unit.specs.Unit.{pulls_of}
use Rattle.polling.specs.Beyond.{BusStarts}
use Rattle.polling.specs.BusMoves.{move_of, call_of, moves_of}
use Rattle.delivery.specs.Log.{told_in}
use Rattle.polling.specs.History.{since}
use Rattle.polling.specs.Moves.{Move, after, after_all, told, event_of}
use Rattle.polling.proofs.Does.{held}
use Rattle.polling.proofs.Handing.{starts}

-- The controller of a run is one that was made, after its own calls.
called-moves : (v : World) (call : Call) (ms : List Move) → after_all (called v call).controller ms ≡ after_all v.controller (call_of call ms)
called-moves v (host i call) ms = refl
called-moves v (submitsTo k d response r b) ms = refl
called-moves v (acknowledgesTo code h) ms = refl
called-moves v (lends d response) ms = refl
called-moves v (lends_unit i buffer) ms = refl

pub run-moves : {w v : World} (r : Run w v) (ms : List Move) → after_all v.controller ms ≡ after_all w.controller (moves_of r ms)
run-moves start ms = refl
run-moves (a_round {v = v} r busy) ms = run-moves r (move_of v busy ∷ ms)
run-moves (a_call {v = v} r call) ms = called-moves v call ms ∙ run-moves r (call_of call ms)

pub made : (w v : World) (q : QuietStart w) (r : Run w v) → v.controller ≡ since q.timeout (moves_of r [])
made w v q r = run-moves r [] ∙ ap (λ (c : Controller). after_all c (moves_of r [])) q.is_new

-- What was inside a unit as it took the last nibble fits.
pub took_fit : (w v : World) → QuietStart w → (r : Run w v) (own : ℕ) (x : Inside) → Took r own x → Fit (kind_of own) x
took_fit w v q start own x t = absurd t
took_fit w _ q (a_round {v = v} r busy) own x (takes_it st after b e now o i) =
    subst (λ (k : ℕ). Fit (kind_of k) x) o (subst (Fit (kind_of st.unit.own)) i (becomes_all (on_sound (every_run w v q r)) b).fit)
took_fit w _ q (a_round {v = v} r busy) own x (took_it i t) = took_fit w v q r own x t
took_fit w _ q (a_call {v = v} r call) own x t = took_fit w v q r own x t

-- A unit stays on the bus.
pub has_round : (own : ℕ) (seen : Lines) (hosts : ℕ) {ss : List Station} → HasCode own ss → HasCode own (units_after seen hosts ss)
has_round own seen hosts (it_has {st = st} e) = it_has (own_kept st seen (is_odd hosts) ∙ e)
has_round own seen hosts (later h) = later (has_round own seen (hosts / 2) h)

pub has_called : (own i : ℕ) (call : HostCall) {ss : List Station} → HasCode own ss → HasCode own (called_at i call ss)
has_called own zero call (it_has {st = st} e) = it_has ((unit_called call st).own ∙ e)
has_called own (suc i) call (it_has e) = it_has e
has_called own zero call (later h) = later h
has_called own (suc i) call (later h) = later (has_called own i call h)

pub has_lent : (own : ℕ) (t : Bool) (i : ℕ) (buffer : List ℕ) {ss : List Station} → HasCode own ss → HasCode own (cond t ss (buffer_at i buffer ss))
has_lent own true i buffer h = h
has_lent own false zero buffer (it_has e) = it_has e
has_lent own false (suc i) buffer (it_has e) = it_has e
has_lent own false zero buffer (later h) = later h
has_lent own false (suc i) buffer (later h) = later (has_lent own false i buffer h)

-- No unit has code 0.
abbrev pub Coded : Station → Type 0
Coded st = st.unit.own ≡ 0 → ⊥

coded_at : (i : ℕ) (call : HostCall) {ss : List Station} → All Coded ss → All Coded (called_at i call ss)
coded_at i call none = none
coded_at zero call (also {x = st} p a) = also (λ e. p (sym (unit_called call st).own ∙ e)) a
coded_at (suc i) call (also p a) = also p (coded_at i call a)

pub every_coded : (w v : World) → QuietStart w → Run w v → All Coded v.units
every_coded w v q start = all_map (λ st n e. n.coded (sym (ap (λ (u : Unit). u.own) n.is_new) ∙ e)) q.units
every_coded w _ q (a_round {v = v} r busy) = all_step (levels v) (λ st host p e. p (sym (own_kept st (levels v) host) ∙ e)) busy.there (every_coded w v q r)
every_coded w _ q (a_call {v = v} r (host i call)) = coded_at i call (every_coded w v q r)
every_coded w _ q (a_call {v = v} r (submitsTo k d response x b)) = every_coded w v q r
every_coded w _ q (a_call {v = v} r (acknowledgesTo code h)) = every_coded w v q r
every_coded w _ q (a_call {v = v} r (lends d response)) = every_coded w v q r
every_coded w _ q (a_call {v = v} r (lends_unit i buffer)) = all_lends (in_frame v.controller.stage) i buffer (λ st p. p) (every_coded w v q r)

has_coded : (own : ℕ) {ss : List Station} → HasCode own ss → All Coded ss → own ≡ 0 → ⊥
has_coded own (it_has e) (also p a) z = p (e ∙ z)
has_coded own (later h) (also p a) z = has_coded own h a z

pub run_coded : (w v : World) (own : ℕ) → QuietStart w → Run w v → HasCode own v.units → own ≡ 0 → ⊥
run_coded w v own q r h = has_coded own h (every_coded w v q r)

-- What a round tells: on a run no step is refused.
pub told_move : (w v : World) → QuietStart w → (r : Run w v) (busy : Busy) → event_of v.controller (move_of v busy) ≡ told_in v busy
told_move w v q r busy = ap told (every_outcome w v q r busy)

pub frame_told : (w v : World) → QuietStart w → (r : Run w v) (busy : Busy) {T : Moment} {f : Frame} {found : List ℕ} → InFrame T f found v → (x : Response) → moved_in v busy ≡ over f x → told_in v busy ≡ frameEvent f (status_of x) (count_of x)
frame_told w v q r busy i x m =
    ap (λ (t : Bool). cond t Nothing (event_after (moved_in v busy).end)) (frame_busy i) ∙ ap (λ (y : Moved). event_after y.end) m

-- Which unit spoke, and what it said.
pub addressed_own : (c : Command) (own : ℕ) → (c.device ≡ 0 → ⊥) → addressed c own ≡ true → own ≡ c.device
addressed_own c own nonzero e = sym (eqb-true c.device own (or_left (eqb c.device own) (eqb c.device 0) (ne_eqb c.device 0 nonzero) e))

-- The frame that runs on a run.
pub frame_held : {T : Moment} {f : Frame} {found : List ℕ} {w : World} → InFrame T f found w → held w.controller.stage ≡ f ∷ []
frame_held (begins framed d a) = refl
frame_held (sends i sender framed d s l a) = refl
frame_held (hears ear taken quiet framed d l o) = refl
frame_held (waits quiet framed d a why) = refl

-- A response that arrived whole, of the poll of a code.
pub record Said {w v : World} (r : Run w v) (busy : Busy) (own : ℕ) : Type 0 where
  pub speaker : ℕ
  pub addresses : addressed (poll_of own).command speaker ≡ true
  pub inside : Inside
  pub fit : Fit (kind_of speaker) inside
  pub taken : Took (a_round r busy) speaker inside
  pub tells : told_in v busy ≡ frameEvent (poll_of own) (reply_status (reply_for speaker inside (poll_of own).command [])) 0

pub spoken : (w v : World) → QuietStart w → (r : Run w v) (busy : Busy) (own : ℕ) (found : List ℕ) → InFrame (Took r) (poll_of own) found v → {buffer : List ℕ} {ss : List Station}
    → One (λ (st : Station). Spoke (Took (a_round r busy)) (poll_of own) [] found (moved_in v busy) buffer v.units st × Sound st) (λ (st : Station). Sits st × Sound st) ss
    → Said r busy own
spoken w v q r busy own found x (that p o) = spoken w v q r busy own found x o
spoken w v q r busy own found x (this (spoke reply j sender before has k e a p m b inside s, y) all) = record {
  speaker = before.unit.own;
  addresses = a;
  inside = p.given;
  fit = p.fit;
  taken = p.took;
  tells = frame_told w v q r busy x (Complete (reply_status reply) (length (answer_data p))) m ∙ ap (λ (k : Reply). frameEvent (poll_of own) (reply_status k) 0) p.said;
}

-- Held when polled: handed over.
pub hushed_none : {T : Moment} (own : ℕ) → (own ≡ 0 → ⊥) → ((code : ℕ) (x : Inside) → T code x → Fit (kind_of code) x) → {ss : List Station} → HasCode own ss → All (Hushed T (poll_of own).command []) ss → ⊥
hushed_none own nonzero fits (it_has e) (also (not_its_own a) hs) = true≢false (sym (or-first (eqb own own) (eqb own 0) (eq-eqb own own refl)) ∙ sym (ap (λ (k : ℕ). eqb own k || eqb own 0) e) ∙ a)
hushed_none own nonzero fits (it_has {st = st} e) (also (by_the_rule given t z) hs) = true≢false (sym z ∙ (every_lawful (kind_of st.unit.own)).speaks given own (fits st.unit.own given t) nonzero)
hushed_none own nonzero fits (later h) (also p hs) = hushed_none own nonzero fits h hs

-- The answer to a poll says 00 just where a request is held.
module _ (speaker own : ℕ) (x : Inside) (fit : Fit (kind_of speaker) x) (nonzero : own ≡ 0 → ⊥) where
  abbrev status : ℕ
  status = reply_status (reply_for speaker x (poll_of own).command [])

  poll_status : status ≡ cond (is_served x && has_request x) 0x00 0x0A
  poll_status = (every_lawful (kind_of speaker)).polled x own fit nonzero

  pub held-says-zero : has_request x ≡ true → status ≡ 0x00
  held-says-zero request = let served = (every_lawful (kind_of speaker)).served x fit request in poll_status ∙ (λ i. cond (served i && request i) 0x00 0x0A)

  pub zero-says-held : status ≡ 0x00 → has_request x ≡ true
  zero-says-held z = by (is_served x) (has_request x) (sym poll_status ∙ z)
    where
      by : (a b : Bool) → ◌≡◌ {A = ℕ} (cond (a && b) 0x00 0x0A) 0x00 → b ≡ true
      by true true e = refl
      by true false e = absurd (omega arith)
      by false b e = absurd (omega arith)

-- A poll that finds the request hands it over.
pub said_handed : {w v : World} {r : Run w v} {busy : Busy} {own : ℕ} → (own ≡ 0 → ⊥) → (k : Said r busy own) → has_request k.inside ≡ true → told_in v busy ≡ Handed own
said_handed {own = own} nonzero k request = k.tells ∙ ap (λ (n : ℕ). frameEvent (poll_of own) n 0) (held-says-zero k.speaker own k.inside k.fit nonzero request)

pub said_by : {w v : World} {r : Run w v} {busy : Busy} {own : ℕ} → (own ≡ 0 → ⊥) → (k : Said r busy own) → Took (a_round r busy) own k.inside
said_by {r = r} {busy = busy} {own = own} nonzero k = subst (λ (n : ℕ). Took (a_round r busy) n k.inside) (addressed_own (poll_of own).command k.speaker nonzero k.addresses) k.taken

-- A request's pull is seen.
pub asking_low : {st : Station} (l : Lines) {ss : List Station} → Has st ss → st.unit.asking ≡ true → (levels_with l ss).bav ≡ true
asking_low {st = st} l (here {xs = ss}) e = bav_kept (wired l (pulls_of st.unit)) ss (or_second l.bav st.unit.asking e)
asking_low l (there {y = y} h) e = asking_low (wired l (pulls_of y.unit)) h e

pub bus_starts : BusStarts
bus_starts w v st q r has e idle some busy =
    let n : (levels v).nibble < 16 = on_nibble (every_run w v q r) in
    (starts v.controller (levels v) busy.here v.lent v.response idle (le-ltb 15 (levels v).nibble (omega arith)) (asking_low (framePulls v.controller.stage) has e) some).0

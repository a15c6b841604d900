-- A unit that holds a request on a bus at rest makes a service frame begin.
use Prim.Native.Nat.{ℕ, zero, suc, ◌+◌, ◌-◌, ◌/◌, ◌<◌, ◌≤◌, min}
use native.Mathlib.Omega.{arith}
use mathlib.Core.Path.{◌≡◌, refl, sym, ◌∙◌, ap, subst}
use mathlib.Core.Bool.{Bool, true, false, cond, ◌&&◌, true≢false, false≢true}
use mathlib.Core.List.{List, [], ◌∷◌}
use borrow.Author.Tests.{le-ltb, leb-false, ltb-true}
use lib.Dec.{ltb, leb}
use lib.ListN.{length}
use Rattle.application.specs.Calls.{Done, done, submitting, with_command, without_mark}
use Rattle.bus.specs.Bus.{station_step, units_after, is_odd}
use Rattle.bus.specs.declared.Station.{Station}
use Rattle.controller.specs.Calls.{stepping}
use Rattle.controller.specs.Controller.{is_idle, controller_step, event_in}
use Rattle.controller.specs.declared.Controller.{Controller}
use Rattle.delivery.specs.Calls.{Call, host as at_unit, submits, acknowledges, lends, lends_unit, called, called_at, called_all, buffer_at, with_buffer, in_frame}
use Rattle.delivery.specs.Run.{QuietStart, Run, a_round, a_call}
use Rattle.delivery.specs.Lists.{Has, here, there}
use Rattle.delivery.specs.World.{World, Busy, levels, round}
use Rattle.delivery.proofs.Lists.{has_all}
use Rattle.delivery.proofs.EveryRound.{every_run, on_nibble, on_sound}
use Rattle.frame.specs.Frame.{pulls_of as framePulls}
use Rattle.inside.specs.Calls.{HostCall, called_by}
use Rattle.inside.specs.Inside.{inside_of, is_served, has_request}
use Rattle.inside.proofs.Calls.{unit_called, request_called}
use Rattle.inside.proofs.Lawful.{every_lawful}
use Rattle.kind.specs.Kinds.{kind_of, is_short}
use Rattle.line.specs.declared.Lines.{Lines}
use Rattle.message.specs.Answer.{Answer, gives, refused, kept}
use Rattle.ring.specs.Ring.{counted, live, is_marked, is_in, place_of, with_mark}
use Rattle.ring.specs.declared.Entry.{Entry}
use Rattle.ring.proofs.Laws.{marked_length}
use Rattle.turn.specs.declared.Event.{Event}
use Rattle.unit.specs.Unit.{high_step, asks, quiet_after}
use Rattle.unit.specs.declared.Unit.{Unit}
use Rattle.polling.specs.Beginning.{BeginsWithin, in_this, in_a_later, Beginning}
use Rattle.polling.specs.BusMoves.{move_of}
use Rattle.polling.specs.Moves.{begins}
use Rattle.polling.proofs.Handing.{starts, free}
use Rattle.polling.proofs.OnTheBus.{asking_low}

-- A unit behind a round.
has_after : (seen : Lines) {st : Station} (hosts : ℕ) {ss : List Station} → Has st ss → (host : Bool) × Has (station_step st seen host) (units_after seen hosts ss)
has_after seen hosts here = (is_odd hosts, here)
has_after seen hosts (there h) = let n = has_after seen (hosts / 2) h in (n.0, there n.1)

-- A round with BAV high.
high_unit : (st : Station) (seen : Lines) (host : Bool) → seen.nibble < 16 → is_short (kind_of st.unit.own) (length st.buffer) (length st.output) ≡ false → seen.bav ≡ false → (station_step st seen host).unit ≡ high_step st.unit seen.hsk
high_unit st seen host n room high =
    let a : ltb 15 seen.nibble ≡ false = le-ltb 15 seen.nibble (omega arith) in
    rw (a, room, high)

idle_stays : (v : World) (busy : Busy) → (levels v).nibble < 16 → is_idle v.controller.stage ≡ true → (levels v).bav ≡ false → (round v busy).controller ≡ v.controller
idle_stays v busy n i high =
    let at = free v.controller.stage i in
    let a : ltb 15 (levels v).nibble ≡ false = le-ltb 15 (levels v).nibble (omega arith) in
    let goes : stepping v.controller (levels v) busy.here v.lent v.response ≡ gives (event_in v.controller (levels v) busy.here v.lent) = rw (a, at) in
    ap (λ (x : Answer Event). kept x (controller_step v.controller (levels v) busy.here v.lent) v.controller) goes ∙ rw (i, high)

-- What calls leave of a unit that waits.
record Waits (st st' : Station) : Type 0 where
  retry : st'.unit.retry ≡ st.unit.retry
  quiet : st'.unit.quiet ≡ st.unit.quiet
  asking : st'.unit.asking ≡ st.unit.asking
  request : has_request (inside_of st) ≡ true → has_request (inside_of st') ≡ true

record Behind (st : Station) (ss : List Station) : Type 0 where
  unit : Station
  has : Has unit ss
  waits : Waits st unit

as_it_is : {st : Station} {ss : List Station} → Has st ss → Behind st ss
as_it_is {st} h = record { unit = st; has = h; waits = record { retry = refl; quiet = refl; asking = refl; request = λ e. e } }

deeper : {st x : Station} {ss : List Station} → Behind st ss → Behind st (x ∷ ss)
deeper b = record { unit = b.unit; has = there b.has; waits = b.waits }

behind-at : (i : ℕ) (call : HostCall) {ss : List Station} {st : Station} → Has st ss → Behind st (called_at i call ss)
behind-at zero call {st = st} here =
    let k = unit_called call st in
    record { unit = called_by call st; has = here; waits = record { retry = k.retry; quiet = k.quiet; asking = k.asking; request = λ e. ap has_request k.inside ∙ request_called (kind_of st.unit.own) (inside_of st) call e } }
behind-at (suc i) call here = as_it_is here
behind-at zero call (there h) = as_it_is (there h)
behind-at (suc i) call (there h) = deeper (behind-at i call h)

behind_lent : (t : Bool) (i : ℕ) (buffer : List ℕ) {ss : List Station} {st : Station} → Has st ss → Behind st (cond t ss (buffer_at i buffer ss))
behind_lent true i buffer h = as_it_is h
behind_lent false zero buffer {st = st} here = record { unit = with_buffer buffer st; has = here; waits = record { retry = refl; quiet = refl; asking = refl; request = λ e. e } }
behind_lent false (suc i) buffer here = as_it_is here
behind_lent false zero buffer (there h) = as_it_is (there h)
behind_lent false (suc i) buffer (there h) = deeper (behind_lent false i buffer h)

behind_call : (v : World) (call : Call) {st : Station} → Has st v.units → Behind st (called v call).units
behind_call v (at_unit i call) h = behind-at i call h
behind_call v (submits k d response r b) h = as_it_is h
behind_call v (acknowledges code x) h = as_it_is h
behind_call v (lends d response) h = as_it_is h
behind_call v (lends_unit i buffer) h = behind_lent (in_frame v.controller.stage) i buffer h

-- No call empties the ring.
some_call : (v : World) (call : Call) → 0 < counted v.controller.ring → 0 < counted (called v call).controller.ring
some_call v (at_unit i call) h = h
some_call v (submits k d response r b) h = by (submitting v.controller k (length d) (length response))
  where
    by : (a : Answer Done) → 0 < counted (kept a (with_command v.controller k (length d)) v.controller).ring
    by (gives x) = h
    by (refused n) = h
some_call v (acknowledges code x) h = by (is_marked code (live v.controller.ring)) refl
  where
    entries : List Entry
    entries = live v.controller.ring

    inside : (t b : Bool) → cond t b false ≡ true → t ≡ true
    inside true b e = refl
    inside false b e = absurd (false≢true e)

    by : (t : Bool) → is_marked code entries ≡ t → 0 < counted (kept (cond t (gives done) (refused 8)) (without_mark v.controller code) v.controller).ring
    by true e =
        let place : place_of code entries < length entries = ltb-true (place_of code entries) (length entries) (inside (is_in code entries) _ e) in
        let long : length (with_mark false code entries) ≡ length entries = marked_length false code entries in
        omega arith
    by false e = h
some_call v (lends d response) h = h
some_call v (lends_unit i buffer) h = h

-- A row of calls.
calls_run : {w v : World} (calls : List Call) → Run w v → Run w (called_all v calls)
calls_run [] r = r
calls_run {v = v} (call ∷ calls) r = calls_run {v = called v call} calls (a_call r call)

after_calls : (v : World) (calls : List Call) {st : Station} → Has st v.units → 0 < counted v.controller.ring → Behind st (called_all v calls).units × (0 < counted (called_all v calls).controller.ring)
after_calls v [] h some = (as_it_is h, some)
after_calls v (call ∷ calls) {st} h some =
    let one = behind_call v call h in
    let more = after_calls (called v call) calls one.has (some_call v call some) in
    let a = one.waits in
    let b = more.0.waits in (
      record { unit = more.0.unit; has = more.0.has; waits = record { retry = b.retry ∙ a.retry; quiet = b.quiet ∙ a.quiet; asking = b.asking ∙ a.asking; request = λ e. b.request (a.request e) } },
      more.1,
    )

-- A unit that pulls BAV is seen.
begins_now : (w v : World) (st : Station) → QuietStart w → Run w v → Has st v.units → (levels v).bav ≡ true → is_idle v.controller.stage ≡ true
    → 0 < counted v.controller.ring → (busy : Busy) → begins v.controller (move_of v busy) ≡ true
begins_now w v st q r has low idle some busy =
    let n : (levels v).nibble < 16 = on_nibble (every_run w v q r) in
    (starts v.controller (levels v) busy.here v.lent v.response idle (le-ltb 15 (levels v).nibble (omega arith)) low some).0

begin_by : (n : ℕ) (w v : World) (st : Station) → QuietStart w → (r : Run w v) → Has st v.units → has_request (inside_of st) ≡ true → is_idle v.controller.stage ≡ true → 0 < counted v.controller.ring
    → 2 + (st.unit.retry - st.unit.quiet) ≤ n → BeginsWithin n v
begin_by zero w v st q r has request idle some h = absurd (omega arith)
begin_by (suc n) w v st q r has request idle some h =
    by (levels v).bav refl
    (λ busy calls st' has' request' idle' some' h'. begin_by n w (called_all (round v busy) calls) st' q (calls_run calls (a_round r busy)) has' request' idle' some' h')
  where
    by : (t : Bool) → (levels v).bav ≡ t
        → ((busy : Busy) (calls : List Call) (st' : Station) → let v' = called_all (round v busy) calls in
        Has st' v'.units → has_request (inside_of st') ≡ true → is_idle v'.controller.stage ≡ true → 0 < counted v'.controller.ring → 2 + (st'.unit.retry - st'.unit.quiet) ≤ n → BeginsWithin n v')
        → BeginsWithin (suc n) v
    by true low go = in_this (begins_now w v st q r has low idle some)
    by false high go = in_a_later (λ busy calls idle'. next busy calls idle' st.unit.asking refl (leb st.unit.retry (quiet_after st.unit)) refl)
      where
        next : (busy : Busy) (calls : List Call) → is_idle (called_all (round v busy) calls).controller.stage ≡ true → (a : Bool) → st.unit.asking ≡ a → (t : Bool)
            → leb st.unit.retry (quiet_after st.unit) ≡ t → BeginsWithin n (called_all (round v busy) calls)
        next busy calls idle' true e t z = absurd (true≢false (sym (asking_low (framePulls v.controller.stage) has e) ∙ high))
        next busy calls idle' false e t z = step t z
          where
            small : (levels v).nibble < 16
            small = on_nibble (every_run w v q r)

            found : (host : Bool) × Has (station_step st (levels v) host) (round v busy).units
            found = has_after (levels v) busy.there has

            new : Station
            new = station_step st (levels v) found.0

            unit-is : new.unit ≡ high_step st.unit (levels v).hsk
            unit-is = high_unit st (levels v) found.0 small (has_all (on_sound (every_run w v q r)) has).room high

            same : (round v busy).controller ≡ v.controller
            same = idle_stays v busy small idle high

            later : Behind new (called_all (round v busy) calls).units × (0 < counted (called_all (round v busy) calls).controller.ring)
            later = after_calls (round v busy) calls found.1 (subst (λ (c : Controller). 0 < counted c.ring) (sym same) some)

            st' : Station
            st' = later.0.unit

            request' : has_request (inside_of st') ≡ true
            request' = later.0.waits.request (ap (λ (u : Unit). u.serial.requesting) unit-is ∙ request)

            served : is_served (inside_of st) ≡ true
            served = (every_lawful (kind_of st.unit.own)).served (inside_of st) (has_all (on_sound (every_run w v q r)) has).fit request

            step : (t : Bool) → leb st.unit.retry (quiet_after st.unit) ≡ t → BeginsWithin n (called_all (round v busy) calls)
            step true z =
                let asks-now : new.unit.asking ≡ true =
                ap (λ (u : Unit). u.asking) unit-is ∙ ap (λ (a : Bool). asks a st.unit.serial.enabled st.unit.serial.requesting st.unit.retry (quiet_after st.unit) (levels v).hsk) e
                ∙ (λ i. served i && (request i && z i)) in
                pulled n (omega arith) (later.0.waits.asking ∙ asks-now)
              where
                pulled : (k : ℕ) → 1 ≤ k → st'.unit.asking ≡ true → BeginsWithin k (called_all (round v busy) calls)
                pulled zero l a = absurd (omega arith)
                pulled (suc k) l a =
                    in_this (begins_now w (called_all (round v busy) calls) st' q (calls_run calls (a_round r busy)) later.0.has
                    (asking_low (framePulls (called_all (round v busy) calls).controller.stage) later.0.has a) idle' later.1)
            step false z =
                let less : quiet_after st.unit < st.unit.retry = leb-false st.unit.retry (quiet_after st.unit) z in
                let retry' : st'.unit.retry ≡ st.unit.retry = later.0.waits.retry ∙ ap (λ (u : Unit). u.retry) unit-is in
                let quiet' : st'.unit.quiet ≡ min (st.unit.quiet + 1) st.unit.retry = later.0.waits.quiet ∙ ap (λ (u : Unit). u.quiet) unit-is in
                go busy calls st' later.0.has request' idle' later.1 (omega arith)

pub beginning : Beginning
beginning w v st q r has request idle some = begin_by (2 + (st.unit.retry - st.unit.quiet)) w v st q r has request idle some (omega arith)

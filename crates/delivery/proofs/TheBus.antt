-- The code's own bus is a world: as it is made, in its rounds and what they come to, and under all calls.
use Prim.Native.Nat.{ℕ, zero, suc, ◌+◌, ◌-◌, ◌*◌, ◌/◌, ◌≤◌, ◌<◌, min}
use native.Mathlib.Nat.{min-le_right, min-eq_left}
use native.Mathlib.Numerals.{add-one}
use native.Mathlib.Omega.{arith}
use mathlib.Core.Path.{◌≡◌, refl, sym, ◌∙◌, ap, subst}
use mathlib.Core.Bool.{Bool, true, false, cond}
use mathlib.Core.List.{List, [], ◌∷◌, ◌++◌, append_assoc, append-nil}
use borrow.Author.Tests.{lt-ltb, ltb-true, ltb-false}
use lib.Dec.{ltb}
use lib.ListN.{length, take, drop, get_or, set, length-append, length-drop, length-set}
use lib.Seq.{length-take-le, take-set-lt, take-suc-set, get_or-take}
use Rattle.bus.proofs.Memory.{units_alone, units_length, memory_length, part_length, bytes_length, station_at_lem, stations_set}
use Rattle.bus.specs.Bus.{new_station, station_at, stations_of, units_in, bytes_of, memory_of, units_of, counted, bus_of, with_unit, levels_left, levels_of, is_odd, stations_after}
use Rattle.bus.specs.declared.Bus.{Bus}
use Rattle.bus.specs.declared.Station.{Station}
use Rattle.controller.specs.Calls.{stepping}
use Rattle.controller.specs.Controller.{new_controller}
use Rattle.controller.specs.declared.Controller.{Controller}
use Rattle.field.specs.Field.{Below}
use Rattle.frame.specs.Frame.{pulls_of}
use Rattle.inside.specs.Calls.{HostCall, feeds, takes, raises, called_by}
use Rattle.inside.specs.Inside.{Inside}
use Rattle.inside.specs.Lawful.{QueueLent, Lent}
use Rattle.inside.proofs.Calls.{input_length}
use Rattle.kind.specs.Kinds.{kind_of, is_short}
use Rattle.kind.proofs.Laws.{not_short, lent_most}
use Rattle.kind.specs.declared.Kind.{Kind}
use Rattle.kind.specs.declared.Kind.TheVariants.{Serial as SerialUnit, Video as VideoUnit}
use Rattle.message.proofs.Fields.{below_take, below_drop}
use Rattle.unit.specs.Unit.{new_unit}
use Rattle.unit.specs.declared.Unit.{Unit}
use Rattle.delivery.specs.Calls.{Call, host, submits, acknowledges, lends, lends_unit, called_at, in_frame, with_buffer, buffer_at}
use Rattle.delivery.specs.Run.{New, Run, start, a_round, a_call}
use Rattle.delivery.specs.Lists.{All, none, also}
use Rattle.delivery.specs.TheBus.{Caller, Typed, world_in, with_units, caller_with, Made, no_unit, one_more, Starts, busy_of, round_on, Rounds, Outcomes, station_in, with_station, at_unit, called_on, Fitting, Calls, Uses, as_it_was, then_round, then_call, UsesRun, Tells}
use Rattle.delivery.specs.World.{Different, nobody, another}
use Rattle.delivery.proofs.EveryRound.{every_step}
use Rattle.delivery.proofs.World.{the_bus}

-- A bus whose units are these.
record Holds (b : Bus) (c : Controller) (us : List Unit) : Type 0 where
  controller : b.controller ≡ c
  places : length b.units ≡ 16
  count : b.count ≡ length us
  front : take b.count b.units ≡ us

with_one : {b : Bus} {c : Controller} {us : List Unit} (u : Unit) → Holds b c us → length us < 16 → Holds (with_unit b u) c (us ++ (u ∷ []))
with_one {b} {c} {us} u h few =
    let n : b.count ≡ length us = h.count in
    let l : length b.units ≡ 16 = h.places in
    let more : length (us ++ (u ∷ [])) ≡ length us + 1 = length-append us (u ∷ []) in
    subst (λ (t : Bool). Holds (cond t (bus_of b.controller (set b.units b.count u) (b.count + 1)) b) c (us ++ (u ∷ []))) (sym (lt-ltb b.count 16 (omega arith)))
    (record {
      controller = h.controller;
      places = length-set b.units b.count u ∙ l;
      count = omega arith;
      front = ap (λ (k : ℕ). take k (set b.units b.count u)) (add-one b.count) ∙ take-suc-set b.units b.count u (omega arith) ∙ ap (λ (x : List Unit). x ++ (u ∷ [])) h.front;
    })

with_all : {b : Bus} {c : Controller} {vs : List Unit} (us : List Unit) → Holds b c vs → length vs + length us ≤ 16 → Holds (with_units b us) c (vs ++ us)
with_all {b} {c} {vs} [] h few = subst (Holds b c) (sym (append-nil vs)) h
with_all {b} {c} {vs} (u ∷ us) h few =
    let more : length (vs ++ (u ∷ [])) ≡ length vs + 1 = length-append vs (u ∷ []) in
    subst (Holds (with_units (with_unit b u) us) c) (append_assoc vs (u ∷ []) us) (with_all {b = with_unit b u} us (with_one u h (omega arith)) (omega arith))

-- Each unit as it is made, in memory of any bytes.
lent_to_lem : (kind : Kind) (x : Inside) → QueueLent x → Lent kind x
lent_to_lem SerialUnit x q = q
lent_to_lem VideoUnit x q = tt

new_at : (own retry : ℕ) (m : List ℕ) → (own ≡ 0 → ⊥) → 2432 ≤ length m → Below 256 m → New (station_at (new_unit own retry) m)
new_at own retry m coded h b =
    let buffer : length (take 256 m) ≡ 256 = part_length 0 256 m (omega arith) refl in
    let output : length (take 1920 (drop 512 m)) ≡ 1920 = part_length 512 1920 m (omega arith) refl in
    let most = lent_most (kind_of own) in
    record {
      own = own;
      retry = retry;
      coded = coded;
      is_new = refl;
      room = not_short (kind_of own) (length (take 256 m)) (length (take 1920 (drop 512 m))) (omega arith) (omega arith);
      lent = lent_to_lem (kind_of own) _ (part_length 256 256 m (omega arith) refl, below_take 256 (drop 256 m) (below_drop 256 m b));
    }

all_new : {us : List Unit} (m : List ℕ) → Made us → 2432 * length us ≤ length m → Below 256 m → All New (stations_of us m)
all_new m no_unit h b = none
all_new m (one_more {own = own} {retry = retry} coded apart made) h b =
    let l : length (drop 2432 m) ≡ length m - 2432 = length-drop 2432 m in
    also (new_at own retry m coded (omega arith) b) (all_new (drop 2432 m) made (omega arith) (below_drop 2432 m b))

all_apart : (code : ℕ) {us : List Unit} (m : List ℕ) → All (λ (u : Unit). u.own ≡ code → ⊥) us → All (λ (st : Station). st.unit.own ≡ code → ⊥) (stations_of us m)
all_apart code m none = none
all_apart code m (also p a) = also p (all_apart code (drop 2432 m) a)

all_different : {us : List Unit} (m : List ℕ) → Made us → Different (stations_of us m)
all_different m no_unit = nobody
all_different m (one_more {own = own} coded apart made) = another (all_apart own (drop 2432 m) apart) (all_different (drop 2432 m) made)

pub starts : Starts
starts timeout us lent response memory eight made few room bytes =
    let b = (caller_with timeout us lent response memory).bus in
    let h : Holds b (new_controller timeout) us = with_all {vs = []} us (record { controller = refl; places = refl; count = refl; front = refl }) (omega arith) in
    let n : b.count ≡ length us = h.count in
    let all : min b.count 16 ≡ b.count = min-eq_left (omega arith) in
    let its : units_of b memory ≡ stations_of us memory = ap (λ (x : List Unit). stations_of x memory) (ap (λ (k : ℕ). take k b.units) all ∙ h.front) in
    record {
      typed = record { places = h.places; room = room };
      quiet = record {
        timeout = timeout;
        least = eight;
        is_new = h.controller;
        units = subst (All New) (sym its) (all_new memory made (omega arith) bytes);
        codes = subst Different (sym its) (all_different memory made);
      };
      units = ap units_in its ∙ units_alone us memory;
    }

-- Its rounds, and what they come to.
pub rounds : Rounds
rounds h busy t = the_bus h.bus busy h.lent h.response h.memory t.places t.room

pub outcomes : Outcomes
outcomes h busy =
    let b = h.bus in
    ap (λ (us : List Unit). stepping b.controller (levels_left (pulls_of b.controller.stage) us) (is_odd (busy / 65536)) h.lent h.response) (sym (units_alone (take (counted b) b.units) h.memory))

-- A unit whose parts are as long as a bus lends them.
record Parts (st : Station) : Type 0 where
  buffer : length st.buffer ≡ 256
  input : length st.input ≡ 256
  output : length st.output ≡ 1920

parts_at : (u : Unit) (m : List ℕ) → 2432 ≤ length m → Parts (station_at u m)
parts_at u m h = record { buffer = part_length 0 256 m (omega arith) refl; input = part_length 256 256 m (omega arith) refl; output = part_length 512 1920 m (omega arith) refl }

parts-called : (call : HostCall) (st : Station) → Parts st → Parts (called_by call st)
parts-called (feeds b h) st p = record { buffer = p.buffer; input = input_length (feeds b h) st ∙ p.input; output = p.output }
parts-called takes st p = record { buffer = p.buffer; input = p.input; output = p.output }
parts-called raises st p = record { buffer = p.buffer; input = p.input; output = p.output }

parts_lent : (buffer : List ℕ) → length buffer ≡ 256 → (st : Station) → Parts st → Parts (with_buffer buffer st)
parts_lent buffer l st p = record { buffer = by (is_short (kind_of st.unit.own) (length buffer) (length st.output)); input = p.input; output = p.output }
  where
    by : (t : Bool) → length (cond t st.buffer buffer) ≡ 256
    by true = p.buffer
    by false = l

-- How many units there are, and their memory.
counted_most : (b : Bus) → counted b ≤ 16
counted_most b = min-le_right b.count 16

front_length : {h : Caller} → Typed h → length (take (counted h.bus) h.bus.units) ≡ counted h.bus
front_length {h} t =
    let l : length h.bus.units ≡ 16 = t.places in
    let most : counted h.bus ≤ 16 = counted_most h.bus in
    length-take-le (counted h.bus) h.bus.units (omega arith)

stations_length : (us : List Unit) (m : List ℕ) → length (stations_of us m) ≡ length us
stations_length [] m = refl
stations_length (u ∷ us) m = ap suc (stations_length us (drop 2432 m))

-- Something done at one unit of the code's bus is done at that unit of the world.
abbrev any_unit : Unit
any_unit = new_unit 1 20

module _ (h : Caller) (t : Typed h) (i : ℕ) (f : Station → Station) (keeps : (st : Station) → Parts st → Parts (f st)) where
  abbrev n : ℕ
  n = counted h.bus

  abbrev us : List Unit
  us = take n h.bus.units

  abbrev ss : List Station
  ss = stations_of us h.memory

  most : n ≤ 16
  most = counted_most h.bus

  abbrev st : Station
  st = f (station_in h i)

  parts : i < n → Parts st
  parts below =
      let m : length h.memory ≡ 38912 = t.room in
      let l : length (drop (2432 * i) h.memory) ≡ length h.memory - 2432 * i = length-drop (2432 * i) h.memory in
      let most' = most in
      keeps (station_in h i) (parts_at (get_or h.bus.units i any_unit) (drop (2432 * i) h.memory) (omega arith))

  module _ (after : List Station) (hit : i < length ss → after ≡ set ss i (f (get_or ss i (new_station any_unit)))) (miss : length ss ≤ i → after ≡ ss) where
    at_unit_lem : world_in (at_unit h i f) ≡ record { controller = h.bus.controller; units = after; lent = h.lent; response = h.response }
    at_unit_lem = by (ltb i n) refl
      where
        long : length ss ≡ n
        long = stations_length us h.memory ∙ front_length t

        by : (x : Bool) → ltb i n ≡ x → world_in (cond x (with_station h i st) h) ≡ record { controller = h.bus.controller; units = after; lent = h.lent; response = h.response }
        by true e =
            let below : i < n = ltb-true i n e in
            let m : length h.memory ≡ 38912 = t.room in
            let l : length us ≡ n = front_length t in
            let l' : length ss ≡ n = long in
            let most' = most in
            let p = parts below in
            let same : station_in h i ≡ get_or ss i (new_station any_unit) =
            sym (station_at_lem i us h.memory any_unit (new_station any_unit) (omega arith) ∙ ap (λ (u : Unit). station_at u (drop (2432 * i) h.memory)) (get_or-take n h.bus.units i any_unit below)) in
            let units : units_of (with_station h i st).bus (with_station h i st).memory ≡ after =
            ap (λ (x : List Unit). stations_of x (with_station h i st).memory) (take-set-lt n h.bus.units i st.unit below)
            ∙ stations_set i us h.memory st p.buffer p.input p.output (omega arith) (omega arith)
            ∙ ap (λ (x : Station). set ss i (f x)) same
            ∙ sym (hit (omega arith)) in
            λ k. record { controller = h.bus.controller; units = units k; lent = h.lent; response = h.response }
        by false e =
            let above : n ≤ i = ltb-false i n e in
            let l : length ss ≡ n = long in
            let units : ss ≡ after = sym (miss (omega arith)) in
            λ k. record { controller = h.bus.controller; units = units k; lent = h.lent; response = h.response }

  -- And what the types say still holds.
  unit-typed : Typed (at_unit h i f)
  unit-typed = by (ltb i n) refl
    where
      by : (x : Bool) → ltb i n ≡ x → Typed (cond x (with_station h i st) h)
      by true e =
          let below : i < n = ltb-true i n e in
          let m : length h.memory ≡ 38912 = t.room in
          let most' = most in
          let p = parts below in
          let own : length (bytes_of st) ≡ 2432 = bytes_length st p.buffer p.input p.output in
          let front : length (take (2432 * i) h.memory) ≡ 2432 * i = length-take-le (2432 * i) h.memory (omega arith) in
          let back : length (drop (2432 * i + 2432) h.memory) ≡ length h.memory - (2432 * i + 2432) = length-drop (2432 * i + 2432) h.memory in
          let one : length (bytes_of st ++ drop (2432 * i + 2432) h.memory) ≡ length (bytes_of st) + length (drop (2432 * i + 2432) h.memory) = length-append (bytes_of st) (drop (2432 * i + 2432) h.memory) in
          let two = length-append (take (2432 * i) h.memory) (bytes_of st ++ drop (2432 * i + 2432) h.memory) in
          record { places = length-set h.bus.units i st.unit ∙ t.places; room = omega arith }
      by false e = t

-- A call at a place of a list, and past its end.
called_hit : (i : ℕ) (call : HostCall) (d : Station) (ss : List Station) → i < length ss → called_at i call ss ≡ set ss i (called_by call (get_or ss i d))
called_hit i call d [] h = absurd (omega arith)
called_hit zero call d (st ∷ ss) h = refl
called_hit (suc i) call d (st ∷ ss) h = ap (λ (x : List Station). st ∷ x) (called_hit i call d ss (omega arith))

called_miss : (i : ℕ) (call : HostCall) (ss : List Station) → length ss ≤ i → called_at i call ss ≡ ss
called_miss i call [] h = refl
called_miss zero call (st ∷ ss) h = absurd (omega arith)
called_miss (suc i) call (st ∷ ss) h = ap (λ (x : List Station). st ∷ x) (called_miss i call ss (omega arith))

lent_hit : (i : ℕ) (buffer : List ℕ) (d : Station) (ss : List Station) → i < length ss → buffer_at i buffer ss ≡ set ss i (with_buffer buffer (get_or ss i d))
lent_hit i buffer d [] h = absurd (omega arith)
lent_hit zero buffer d (st ∷ ss) h = refl
lent_hit (suc i) buffer d (st ∷ ss) h = ap (λ (x : List Station). st ∷ x) (lent_hit i buffer d ss (omega arith))

lent_miss : (i : ℕ) (buffer : List ℕ) (ss : List Station) → length ss ≤ i → buffer_at i buffer ss ≡ ss
lent_miss i buffer [] h = refl
lent_miss zero buffer (st ∷ ss) h = absurd (omega arith)
lent_miss (suc i) buffer (st ∷ ss) h = ap (λ (x : List Station). st ∷ x) (lent_miss i buffer ss (omega arith))

pub calls : Calls
calls h (host i call) t fits =
    let ss = units_of h.bus h.memory in
    at_unit_lem h t i (called_by call) (parts-called call) (called_at i call ss) (called_hit i call (new_station any_unit) ss) (called_miss i call ss)
calls h (submits k d response r b) t fits = refl
calls h (acknowledges code b) t fits = refl
calls h (lends d response) t fits = refl
calls h (lends_unit i buffer) t fits = by (in_frame h.bus.controller.stage)
  where
    ss : List Station
    ss = units_of h.bus h.memory

    by : (x : Bool) → world_in (cond x h (at_unit h i (with_buffer buffer))) ≡ record { controller = h.bus.controller; units = cond x ss (buffer_at i buffer ss); lent = h.lent; response = h.response }
    by true = refl
    by false = at_unit_lem h t i (with_buffer buffer) (parts_lent buffer (fits i buffer refl)) (buffer_at i buffer ss) (lent_hit i buffer (new_station any_unit) ss) (lent_miss i buffer ss)

-- What the types say holds behind rounds and calls.
typed_round : {h : Caller} (busy : ℕ) → Typed h → Typed (round_on h busy)
typed_round {h} busy t =
    let b = h.bus in
    let n = counted b in
    let us = take n b.units in
    let seen = levels_of b in
    let after = stations_after b seen busy h.memory in
    let slots : length b.units ≡ 16 = t.places in
    let room : length h.memory ≡ 38912 = t.room in
    let most : n ≤ 16 = counted_most b in
    let l : length us ≡ n = front_length t in
    let fresh : length (units_in after) ≡ length us = units_length seen busy us h.memory in
    let old : length (drop n b.units) ≡ length b.units - n = length-drop n b.units in
    let units = length-append (units_in after) (drop n b.units) in
    let bytes : length (memory_of after) ≡ 2432 * length us = memory_length seen busy us h.memory (omega arith) in
    let rest : length (drop (2432 * n) h.memory) ≡ length h.memory - 2432 * n = length-drop (2432 * n) h.memory in
    let memory = length-append (memory_of after) (drop (2432 * n) h.memory) in
    record { places = omega arith; room = omega arith }

typed_called : {h : Caller} (call : Call) → Fitting call → Typed h → Typed (called_on h call)
typed_called {h} (host i call) fits t = unit-typed h t i (called_by call) (parts-called call)
typed_called (submits k d response r b) fits t = record { places = t.places; room = t.room }
typed_called (acknowledges code b) fits t = record { places = t.places; room = t.room }
typed_called (lends d response) fits t = record { places = t.places; room = t.room }
typed_called {h} (lends_unit i buffer) fits t = by (in_frame h.bus.controller.stage)
  where
    by : (x : Bool) → Typed (cond x h (at_unit h i (with_buffer buffer)))
    by true = t
    by false = unit-typed h t i (with_buffer buffer) (parts_lent buffer (fits i buffer refl))

uses_typed : {h g : Caller} → Typed h → Uses h g → Typed g
uses_typed t as_it_was = t
uses_typed t (then_round u busy) = typed_round busy (uses_typed t u)
uses_typed t (then_call u call fits) = typed_called call fits (uses_typed t u)

pub uses_run : UsesRun
uses_run h g t as_it_was = start
uses_run h _ t (then_round {g = g} u busy) = subst (Run (world_in h)) (sym (rounds g busy (uses_typed t u))) (a_round (uses_run h g t u) (busy_of busy))
uses_run h _ t (then_call {g = g} u call fits) = subst (Run (world_in h)) (sym (calls g call (uses_typed t u) fits)) (a_call (uses_run h g t u) call)

pub tells : Tells
tells h g t q u busy =
    let s = (every_step (world_in h) (world_in g) q (uses_run h g t u) (busy_of busy)).0 in
    (s.0, outcomes g busy ∙ s.1)

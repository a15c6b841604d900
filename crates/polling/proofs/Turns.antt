-- The bound: behind each call a unit of the ring that is spared stands no further from its turn, and one nearer behind each service frame.
use Prim.Native.Nat.{ℕ, zero, suc, ◌<◌, ◌≤◌}
use native.Mathlib.Omega.{arith}
use mathlib.Core.Path.{◌≡◌, refl, sym, ap, subst}
use mathlib.Core.Bool.{Bool, true, false, cond, ◌&&◌, ◌||◌}
use mathlib.Core.List.{List, [], ◌∷◌}
use borrow.Author.Tests.{lt-ltb, ltb-true}
use lib.Dec.{eqb}
use lib.ListN.{length}
use Rattle.controller.specs.declared.Controller.{Controller}
use Rattle.delivery.proofs.Rest.{cut_below, turned-length, joined_length}
use Rattle.frame.specs.declared.Frame.{Frame}
use Rattle.frame.specs.declared.Kind.{Kind}
use Rattle.frame.specs.declared.Kind.TheVariants.{Submitted, Poll, Null}
use Rattle.header.specs.declared.Command.{Command}
use Rattle.ring.specs.Ring.{live, ring_of, place_of, joins, joined, removed, turned, with_mark}
use Rattle.ring.specs.declared.Entry.{Entry}
use Rattle.ring.specs.declared.Ring.{Ring}
use Rattle.ring.proofs.Laws.{live_ring, live_below, marked_length}
use Rattle.turn.specs.Turn.{ring_by}
use Rattle.controller.specs.Controller.{service}
use Rattle.polling.specs.Beyond.{Reaches, AnyController}
use Rattle.polling.specs.Moves.{Move, after, begins, services, ahead, is_for, Without, Spared, spared}
use Rattle.delivery.specs.Calls.{running}
use Rattle.polling.proofs.Does.{Does, keeps, accepts, serves, frame_ends, clears, does}
use Rattle.polling.proofs.Places.{Found, place-removed, place_marked, found_marked, place-joined, place-turned}

-- The entries of a ring made of a list.
pub short_joined : (code : ℕ) (ring : Ring) → length (joined code (live ring)) ≤ 16
short_joined code ring = joined_length (joins code (live ring)) code (live ring) refl (live_below ring)

pub short_removed : (code : ℕ) (ring : Ring) → length (removed code (live ring)) ≤ 16
short_removed code ring = let h = cut_below (place_of code (live ring)) (live ring) in let l = live_below ring in omega arith

pub short_marked : (m : Bool) (code : ℕ) (ring : Ring) → length (with_mark m code (live ring)) ≤ 16
short_marked m code ring = let n = marked_length m code (live ring) in let l = live_below ring in omega arith

pub short_turned : (ring : Ring) → length (turned (live ring)) ≤ 16
short_turned ring = let n = turned-length (live ring) in let l = live_below ring in omega arith

-- Still in the ring, and no further from its turn.
abbrev Nearer : ℕ → Ring → Ring → Type 0
Nearer own old new = (place_of own (live new) ≤ place_of own (live old)) × Found own (live new)

made : (P : List Entry → Type 0) (l : List Entry) → length l ≤ 16 → P l → P (live (ring_of l))
made P l h p = subst P (sym (live_ring l h)) p

module _ (own : ℕ) (ring : Ring) (found : Found own (live ring)) where
  abbrev Next : List Entry → Type 0
  Next l = (place_of own l ≤ place_of own (live ring)) × Found own l

  stays : Nearer own ring ring
  stays = (omega arith, found)

  marked : (m : Bool) (code : ℕ) → Nearer own ring (ring_of (with_mark m code (live ring)))
  marked m code =
      made Next (with_mark m code (live ring)) (short_marked m code ring)
      (let e = place_marked own code m (live ring) in omega arith, found_marked own code m (live ring) found)

  joining : (code : ℕ) → Nearer own ring (ring_of (joined code (live ring)))
  joining code = let p = place-joined own code (live ring) found in made Next (joined code (live ring)) (short_joined code ring) (let e = p.0 in omega arith, p.1)

  leaving : (code : ℕ) → eqb code own ≡ false → Nearer own ring (ring_of (removed code (live ring)))
  leaving code other = made Next (removed code (live ring)) (short_removed code ring) (place-removed own code other (live ring) found)

  by-command : (t u : Bool) (c : Command) → eqb c.command 0x08 ≡ t → (eqb c.command 0x09 || eqb c.command 0x01) ≡ u → (eqb c.device own && u) ≡ false
      → Nearer own ring (cond t (ring_of (joined c.device (live ring))) (cond u (ring_of (removed c.device (live ring))) ring))
  by-command true u c e g w = joining c.device
  by-command false true c e g w = leaving c.device (and-true (eqb c.device own) w)
    where
      and-true : (b : Bool) → (b && true) ≡ false → b ≡ false
      and-true true h = h
      and-true false h = refl
  by-command false false c e g w = stays

  by_kind : (k : Kind) (c : Command) → (eqb c.device own && (eqb c.command 0x09 || eqb c.command 0x01)) ≡ false → Nearer own ring (ring_by k ring c)
  by_kind Submitted c w = by-command (eqb c.command 0x08) (eqb c.command 0x09 || eqb c.command 0x01) c refl refl w
  by_kind Poll c w = marked true c.device
  by_kind Null c w = stays

  by-status : (t : Bool) (f : Frame) → is_for own f ≡ false → Nearer own ring (cond t (ring_by f.kind ring f.command) ring)
  by-status true f w = by_kind f.kind f.command w
  by-status false f w = stays

nearer_as : (own : ℕ) (old : Ring) {new ring : Ring} → ring ≡ new → Nearer own old new → Nearer own old ring
nearer_as own old e n = subst (Nearer own old) (sym e) n

-- Where a unit that is spared stands behind a call.
pub data Placed (own : ℕ) (c : Controller) (m : Move) : Type 0 where
  no_service : begins c m ≡ false → ahead own (after c m) ≤ ahead own c → Found own (live (after c m).ring) → Placed own c m
  one_nearer : (p : ℕ) → begins c m ≡ true → ahead own c ≡ suc p → ahead own (after c m) ≡ p → Found own (live (after c m).ring) → Placed own c m
  in_front : begins c m ≡ true → ahead own c ≡ 0 → after c m ≡ service c → Placed own c m

pub placed : (own : ℕ) (c : Controller) (m : Move) → Found own (live c.ring) → Without own (running c.stage) → Placed own c m
placed own c m found without = by (does c m)
  where
    waits : begins c m ≡ false → Nearer own c.ring (after c m).ring → Placed own c m
    waits b near = no_service b near.0 near.1

    serving : begins c m ≡ true → after c m ≡ service c → (p : ℕ) → ahead own c ≡ p → Placed own c m
    serving b e zero z = in_front b z e
    serving b e (suc p) z =
        let turned-is : (after c m).ring ≡ ring_of (turned (live c.ring)) = ap (λ (x : Controller). x.ring) e in
        let t = place-turned own p (live c.ring) found z in
        let next = subst (λ (r : Ring). (place_of own (live r) ≡ p) × Found own (live r)) (sym turned-is) (made (λ (l : List Entry). (place_of own l ≡ p) × Found own l) (turned (live c.ring)) (short_turned c.ring) t) in
        one_nearer p b z next.0 next.1

    by : Does c m → Placed own c m
    by (keeps ring b v u o) = waits b (nearer_as own c.ring ring (stays own c.ring found))
    by (accepts cmd l ring b v u out poll st resting) = waits b (nearer_as own c.ring ring (stays own c.ring found))
    by (frame_ends f status count r g b v u ring z) = waits b (nearer_as own c.ring ring (by-status own c.ring found (eqb status 0x00) f (subst (Without own) r without)))
    by (clears code e x b v u ring st) = waits b (nearer_as own c.ring ring (marked own c.ring found false code))
    by (serves b v u some low e) = serving b e (ahead own c) refl

-- How a call is counted.
pub none-counted : (c : Controller) (m : Move) (ms : List Move) → begins c m ≡ false → services c (m ∷ ms) ≡ services (after c m) ms
none-counted c m ms b = ap (λ (t : Bool). cond t (suc (services (after c m) ms)) (services (after c m) ms)) b

pub one_counted : (c : Controller) (m : Move) (ms : List Move) → begins c m ≡ true → services c (m ∷ ms) ≡ suc (services (after c m) ms)
one_counted c m ms b = ap (λ (t : Bool). cond t (suc (services (after c m) ms)) (services (after c m) ms)) b

-- One call earlier.
reaches_behind : {own n n' : ℕ} {c : Controller} {m : Move} {ms : List Move} → ((front : List Move) → services (after c m) front < n' → services c (m ∷ front) < n) → Reaches own n' (after c m) ms → Reaches own n c (m ∷ ms)
reaches_behind {m = m} counts x = record {
  front = m ∷ x.front;
  call = x.call;
  rest = x.rest;
  split = ap (λ (l : List Move). m ∷ l) x.split;
  fewer = counts x.front x.fewer;
  begins_now = x.begins_now;
  stands_in_ring = x.stands_in_ring;
  foremost = x.foremost;
}

turn_by : (own n : ℕ) (c : Controller) (ms : List Move) → Found own (live c.ring) → Spared own c ms → ahead own c < n → n ≤ services c ms → Reaches own n c ms
turn_by own n c [] found s h k = absurd (omega arith)
turn_by own n c (m ∷ ms) found (spared without s) h k = by n h k (placed own c m found without) (λ n' f h' k'. turn_by own n' (after c m) ms f s h' k')
  where
    by : (n : ℕ) → ahead own c < n → n ≤ services c (m ∷ ms) → Placed own c m
        → ((n' : ℕ) → Found own (live (after c m).ring) → ahead own (after c m) < n' → n' ≤ services (after c m) ms → Reaches own n' (after c m) ms) → Reaches own n c (m ∷ ms)
    by n h k (no_service b near f) go =
        let same = none-counted c m ms b in
        reaches_behind (λ front less. (let e = none-counted c m front b in omega arith)) (go n f (omega arith) (omega arith))
    by zero h k (one_nearer p b z q f) go = absurd (omega arith)
    by (suc n) h k (one_nearer p b z q f) go =
        let more = one_counted c m ms b in
        reaches_behind (λ front less. (let e = one_counted c m front b in omega arith)) (go n f (omega arith) (omega arith))
    by n h k (in_front b z e) go = record {
      front = [];
      call = m;
      rest = ms;
      split = refl;
      fewer = omega arith;
      begins_now = b;
      stands_in_ring = lt-ltb (place_of own (live c.ring)) (length (live c.ring)) found;
      foremost = z;
    }

pub any_controller : AnyController
any_controller own c ms i s k = turn_by own (suc (ahead own c)) c ms (ltb-true (place_of own (live c.ring)) (length (live c.ring)) i) s (omega arith) k

-- The bound reached, computed, and that the runs meet the premises of the turn and of the chain.
use Prim.Native.Nat.{ℕ, suc, ◌+◌, ◌≤◌}
use native.Mathlib.Omega.{arith}
use mathlib.Core.Path.{◌≡◌, refl, sym, ◌∙◌, ap}
use mathlib.Core.Bool.{Bool, true, false, ◌&&◌, not}
use mathlib.Core.List.{List, [], ◌∷◌, ◌++◌}
use lib.ListN.{length, get_or, length-append}
use Rattle.controller.specs.Controller.{is_idle}
use Rattle.controller.specs.declared.Controller.{Controller}
use Rattle.delivery.specs.Calls.{in_frame, running}
use Rattle.delivery.specs.Run.{start}
use Rattle.delivery.specs.World.{World}
use Rattle.frame.specs.declared.Frame.{Frame}
use Rattle.kind.specs.Kinds.{kind_of}
use Rattle.polling.proofs.Chain.{services_then}
use Rattle.polling.proofs.OnTheBus.{run-moves}
use Rattle.polling.proofs.Turns.{none-counted, one_counted}
use Rattle.polling.specs.BusMoves.{moves_of}
use Rattle.polling.specs.History.{since}
use Rattle.polling.specs.Moves.{Move, after as afterMove, after_all, begins, is_begun, services, ahead, in_ring}
use Rattle.ring.specs.Ring.{none as no-entry, live, is_marked}
use Rattle.story.specs.Script.{quiet_bus, Doing, after, run_on}
use Rattle.story.specs.Turns.{codes, joining, raised, unplugging, unplugged, on_the_way, its_turn, before, front, rest, turns_now, turns_in, Seen, seen_of, papers, Reached, BothReached, Met}
use Rattle.story.proofs.Script.{not_true, moves_in, moves_on, Went, go, goes, quiet_start}
use Rattle.story.proofs.Premises.{is_spared, are_spared, is_on, is_on_lem, are_asking, are_asking_lem, is_calm, calm_on}

-- What is computed of a run.
record Shown : Type 0 where
  seen : Seen
  stays_spared : Bool

abbrev shown_of : List Move → List Move → List Move → Shown
shown_of past way turn = record { seen = seen_of 22 past way turn; stays_spared = is_spared 22 (since 8 past) (way ++ turn) }

-- The same, played: from the calls up to that moment, the world, and the rounds of the poll.
abbrev shown_then : List Move → List Move → Went → Shown
shown_then past way q = shown_of past way q.moves

abbrev shown_on : List Move → Went → Shown
shown_on past p = shown_then past p.moves (go its_turn p.world)

abbrev shown_from : List Move → ℕ → World → Shown
shown_from past n w = shown_on past (go (on_the_way n) w)

abbrev is_over : World → Bool
is_over w = not (in_frame w.controller.stage)

-- All that is computed, in one pass up to that moment.
record Tested : Type 0 where
  answered : Shown
  timed_out : Shown
  is_on_it : Bool
  is_asking : Bool
  has_mark : Bool
  stays_calm : Bool

abbrev tested : Went → Tested
tested p = record {
  answered = shown_from p.moves 100 p.world;
  timed_out = shown_from p.moves 67 (unplugging p.world);
  is_on_it = is_on 22 p.world.units;
  is_asking = are_asking 22 p.world.units;
  has_mark = is_marked 22 (live p.world.controller.ring);
  stays_calm = is_calm 22 (on_the_way 100) (is_calm 22 its_turn is_over) p.world;
}

abbrev passed : Tested
passed = record {
  answered = record { seen = papers 0x0A; stays_spared = true };
  timed_out = record { seen = papers 0xFF; stays_spared = true };
  is_on_it = true;
  is_asking = true;
  has_mark = false;
  stays_calm = true;
}

played : tested (go joining (quiet_bus codes)) ≡ passed
unfolding kind_of
played = refl

-- So it is of the runs themselves.
abbrev Shows : World → ℕ → ℕ → Type 0
Shows w n status = shown_of before (front w n) (rest w n) ≡ record { seen = papers status; stays_spared = true }

shown-from : (w : World) (n : ℕ) → shown_from (moves_in joining (quiet_bus codes)) n w ≡ shown_of before (front w n) (rest w n)
shown-from w n =
    let past = moves_in joining (quiet_bus codes) in
    ap (shown_on past) (goes (on_the_way n) w)
    ∙ ap (shown_then past (moves_in (on_the_way n) w)) (goes its_turn (after (on_the_way n) w))
    ∙ ap (λ (way : List Move). shown_of past way (moves_in its_turn (after (on_the_way n) w))) (sym (moves_on (on_the_way n) {w = w} start))
    ∙ ap (λ (turn : List Move). shown_of past (front w n) turn) (sym (moves_on its_turn {w = after (on_the_way n) w} start))
    ∙ ap (λ (earlier : List Move). shown_of earlier (front w n) (rest w n)) (sym (moves_on joining {w = quiet_bus codes} start))

tests : tested (record { world = raised; moves = moves_in joining (quiet_bus codes) }) ≡ passed
unfolding kind_of
tests = ap tested (sym (goes joining (quiet_bus codes))) ∙ played

shows_answered : Shows raised 100 0x0A
shows_answered = sym (shown-from raised 100) ∙ ap (λ (t : Tested). t.answered) tests

shows_timed_out : Shows unplugged 67 0xFF
unfolding kind_of
shows_timed_out = sym (shown-from unplugged 67) ∙ ap (λ (t : Tested). t.timed_out) tests

-- A service frame is counted where a turn begins.
turns_now_lem : (c : Controller) (m : Move) (ms : List Move) (idle : Bool) (fs : List Frame) → is_idle c.stage ≡ idle → running (afterMove c m).stage ≡ fs
    → services c (m ∷ ms) ≡ length (turns_now (idle && is_begun fs) (get_or (live c.ring) 0 no-entry).code fs) + services (afterMove c m) ms
turns_now_lem c m ms true (f ∷ fs) i r = let e = one_counted c m ms (ap (λ (t : Bool). t && is_begun (running (afterMove c m).stage)) i ∙ ap (λ (x : List Frame). is_begun x) r) in omega arith
turns_now_lem c m ms true [] i r = let e = none-counted c m ms (ap (λ (t : Bool). t && is_begun (running (afterMove c m).stage)) i ∙ ap (λ (x : List Frame). is_begun x) r) in omega arith
turns_now_lem c m ms false fs i r = let e = none-counted c m ms (ap (λ (t : Bool). t && is_begun (running (afterMove c m).stage)) i) in omega arith

turns_counted : (c : Controller) (ms : List Move) → services c ms ≡ length (turns_in c ms)
turns_counted c [] = refl
turns_counted c (m ∷ ms) =
    let now = turns_now (begins c m) (get_or (live c.ring) 0 no-entry).code (running (afterMove c m).stage) in
    let a = turns_now_lem c m ms (is_idle c.stage) (running (afterMove c m).stage) refl refl in
    let b = turns_counted (afterMove c m) ms in
    let l = length-append now (turns_in (afterMove c m) ms) in
    omega arith

-- Calls one after the other.
after-append : (c : Controller) (a b : List Move) → after_all c (a ++ b) ≡ after_all (after_all c a) b
after-append c [] b = refl
after-append c (m ∷ a) b = after-append (afterMove c m) a b

counted_now : (c : Controller) (m : Move) (a b : List Move) (k : ℕ) (t : Bool) → begins c m ≡ t → services (afterMove c m) b ≡ services (afterMove c m) a + k → services c (m ∷ b) ≡ services c (m ∷ a) + k
counted_now c m a b k true e h = let x = one_counted c m a e in let y = one_counted c m b e in omega arith
counted_now c m a b k false e h = let x = none-counted c m a e in let y = none-counted c m b e in omega arith

services-append : (c : Controller) (a b : List Move) → services c (a ++ b) ≡ services c a + services (after_all c a) b
services-append c [] b = omega arith
services-append c (m ∷ a) b = counted_now c m a (a ++ b) (services (after_all (afterMove c m) a) b) (begins c m) refl (services-append (afterMove c m) a b)

two_on_the_way : (w : World) (n status : ℕ) → Shows w n status → services (since 8 before) (front w n) ≡ 2
two_on_the_way w n status e = turns_counted (since 8 before) (front w n) ∙ ap (λ (x : Shown). length x.seen.turns) e

one_then : (w : World) (n status : ℕ) → Shows w n status → services (since 8 (before ++ front w n)) (rest w n) ≡ 1
one_then w n status e = turns_counted (since 8 (before ++ front w n)) (rest w n) ∙ ap (λ (x : Shown). length x.seen.turns_of_it) e

reaches : (w : World) (n status : ℕ) → Shows w n status → Reached w n status
reaches w n status e = record {
  seen = ap (λ (x : Shown). x.seen) e;
  counted = two_on_the_way w n status e;
  spared = are_spared 22 (since 8 before) (front w n ++ rest w n) (ap (λ (x : Shown). x.stays_spared) e);
  enough =
      enough (since 8 before) (front w n) (rest w n) (ap (λ (x : Shown). x.seen.units_ahead) e) (two_on_the_way w n status e)
      (ap (λ (c : Controller). services c (rest w n)) (sym (after-append (since 8 []) before (front w n))) ∙ one_then w n status e);
}
  where
    enough : (c : Controller) (a b : List Move) → ahead 22 c ≡ 2 → services c a ≡ 2 → services (after_all c a) b ≡ 1 → suc (ahead 22 c) ≤ services c (a ++ b)
    enough c a b k x y = let all = services-append c a b in omega arith

pub both_reached : BothReached
both_reached = (reaches raised 100 0x0A shows_answered, reaches unplugged 67 0xFF shows_timed_out)

-- The controller of a run is that behind its calls, and counts their service frames.
controller_then : (codes : List ℕ) (script : List Doing) → (after script (quiet_bus codes)).controller ≡ since 8 (moves_of (run_on script {w = quiet_bus codes} start) [])
controller_then codes script = run-moves (run_on script {w = quiet_bus codes} start) []

services_on : (past : List Move) (way turn : List Doing) (v : World) (k l : ℕ)
    → v.controller ≡ since 8 past
    → services (since 8 past) (moves_of (run_on way {w = v} start) []) ≡ k
    → services (since 8 (past ++ moves_of (run_on way {w = v} start) [])) (moves_of (run_on turn {w = after way v} start) []) ≡ l
    → services v.controller (moves_of (run_on turn (run_on way {w = v} start)) []) ≡ k + l
services_on past way turn v k l same x y =
    let on = run_on way {w = v} start in
    let all : services v.controller (moves_of (run_on turn on) []) ≡ services v.controller (moves_of on (moves_in turn (after way v))) = ap (services v.controller) (moves_on turn on) in
    let parts = services_then on (moves_in turn (after way v)) in
    let one : services v.controller (moves_of on []) ≡ k = ap (λ (d : Controller). services d (moves_of on [])) same ∙ x in
    let there : (after way v).controller ≡ since 8 (past ++ moves_of on []) = run-moves on [] ∙ ap (λ (d : Controller). after_all d (moves_of on [])) same ∙ sym (after-append (since 8 []) past (moves_of on [])) in
    let other : services (after way v).controller (moves_in turn (after way v)) ≡ l =
    ap (services (after way v).controller) (sym (moves_on turn {w = after way v} start)) ∙ ap
    (λ (d : Controller). services d (moves_of (run_on turn {w = after way v} start) [])) there ∙ y in
    omega arith

-- With two ahead and three begun there are enough.
third : (k n : ℕ) → k ≡ 2 → n ≡ 3 → suc k ≤ n
third k n two three = omega arith

pub met : Met
unfolding kind_of
met =
    let c = controller_then codes joining in
    let shown = shows_answered in
    let two-ahead : ahead 22 raised.controller ≡ 2 = ap (ahead 22) c ∙ ap (λ (x : Shown). x.seen.units_ahead) shown in
    let three = services_on before (on_the_way 100) its_turn raised 2 1 c (two_on_the_way raised 100 0x0A shown) (one_then raised 100 0x0A shown) in
    let way = calm_on 22 (on_the_way 100) (is_calm 22 its_turn is_over) {v = raised} start tt (ap (λ (t : Tested). t.stays_calm) tests) in
    let calm = calm_on 22 its_turn is_over (run_on (on_the_way 100) {w = raised} start) way.0 way.1 in
    record {
      quiet = quiet_start codes refl;
      run = run_on joining {w = quiet_bus codes} start;
      more = run_on its_turn (run_on (on_the_way 100) {w = raised} start);
      coded = is_on_lem 22 raised.units (ap (λ (t : Tested). t.is_on_it) tests);
      requests = are_asking_lem 22 raised.units (ap (λ (t : Tested). t.is_asking) tests);
      stands_in_ring = ap (in_ring 22) c ∙ ap (λ (x : Shown). x.seen.stands_in_ring) shown;
      unmarked = ap (λ (t : Tested). t.has_mark) tests;
      calm = calm.0;
      enough = third (ahead 22 raised.controller) (services raised.controller (moves_of (run_on its_turn (run_on (on_the_way 100) {w = raised} start)) [])) two-ahead three;
      over = not_true (in_frame (after its_turn (after (on_the_way 100) raised)).controller.stage) calm.1;
    }

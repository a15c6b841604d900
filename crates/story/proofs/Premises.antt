-- Premises of the turn and of the chain as tests, so that a run meets them by computing.
use Prim.Native.Nat.{ℕ, zero, suc}
use mathlib.Core.Path.{◌≡◌, refl, sym, ◌∙◌, ap}
use mathlib.Core.Bool.{Bool, true, false, ◌&&◌, ◌||◌, not, false≢true}
use mathlib.Core.List.{List, [], ◌∷◌}
use borrow.Author.Tests.{eqb-true, eq-eqb}
use lib.Dec.{eqb}
use Rattle.bus.specs.declared.Station.{Station}
use Rattle.controller.specs.declared.Controller.{Controller}
use Rattle.delivery.specs.Calls.{called, running}
use Rattle.delivery.specs.Lists.{All, none, also}
use Rattle.delivery.specs.Run.{Run, a_round, a_call}
use Rattle.delivery.specs.World.{World, Busy, round}
use Rattle.frame.specs.declared.Frame.{Frame}
use Rattle.inside.specs.Inside.{inside_of, has_request}
use Rattle.polling.specs.Chain.{HasCode, it_has, later, Requests, Harmless, Calm}
use Rattle.polling.specs.History.{any_for}
use Rattle.polling.specs.Moves.{Move, after as afterMove, is_for, Without, Spared, so_far, spared}
use Rattle.story.specs.Script.{Doing, rounds, calls, after, after_rounds, run_rounds, run_on, both}
use Rattle.story.proofs.Script.{not_true}

-- No disable or close goes to the unit, tested call by call.
abbrev pub is_spared : ℕ → Controller → List Move → Bool
is_spared own c [] = true
is_spared own c (m ∷ ms) = not (any_for own (running c.stage)) && is_spared own (afterMove c m) ms

without : (own : ℕ) (fs : List Frame) → not (any_for own fs) ≡ true → Without own fs
without own [] e = tt
without own (f ∷ fs) e = not_true (is_for own f) e

pub are_spared : (own : ℕ) (c : Controller) (ms : List Move) → is_spared own c ms ≡ true → Spared own c ms
are_spared own c [] e = so_far
are_spared own c (m ∷ ms) e =
    let t = both (not (any_for own (running c.stage))) (is_spared own (afterMove c m) ms) e in
    spared (without own (running c.stage) t.0) (are_spared own (afterMove c m) ms t.1)

-- The unit is on the bus, and holds a request: tested unit by unit.
abbrev pub is_on : ℕ → List Station → Bool
is_on own [] = false
is_on own (st ∷ ss) = eqb st.unit.own own || is_on own ss

pub is_on_lem : (own : ℕ) (ss : List Station) → is_on own ss ≡ true → HasCode own ss
is_on_lem own [] e = absurd (false≢true e)
is_on_lem own (st ∷ ss) e = by (eqb st.unit.own own) refl e (is_on_lem own ss)
  where
    by : (t : Bool) → eqb st.unit.own own ≡ t → (t || is_on own ss) ≡ true → (is_on own ss ≡ true → HasCode own ss) → HasCode own (st ∷ ss)
    by true t e more = it_has (eqb-true st.unit.own own t)
    by false t e more = later (more e)

abbrev pub are_asking : ℕ → List Station → Bool
are_asking own [] = true
are_asking own (st ∷ ss) = (not (eqb st.unit.own own) || has_request (inside_of st)) && are_asking own ss

pub are_asking_lem : (own : ℕ) (ss : List Station) → are_asking own ss ≡ true → All (Requests own) ss
are_asking_lem own [] e = none
are_asking_lem own (st ∷ ss) e =
    let t = both (not (eqb st.unit.own own) || has_request (inside_of st)) (are_asking own ss) e in
    also (λ (same : st.unit.own ≡ own). sym (ap (λ (b : Bool). not b || has_request (inside_of st)) (eq-eqb st.unit.own own same)) ∙ t.0) (are_asking_lem own ss t.1)

-- No disable or close goes to it, and no bus reset is sent: tested round by round, with what `then` says of the world behind them.
abbrev pub is_harmless : ℕ → List Frame → Bool
is_harmless own [] = true
is_harmless own (f ∷ fs) = not (is_for own f) && not (eqb f.command.command 0xFF)

harmless : (own : ℕ) (fs : List Frame) → is_harmless own fs ≡ true → Harmless own fs
harmless own [] e = tt
harmless own (f ∷ fs) e =
    let t = both (not (is_for own f)) (not (eqb f.command.command 0xFF)) e in
    (not_true (is_for own f) t.0, not_true (eqb f.command.command 0xFF) t.1)

abbrev pub calm_rounds : ℕ → ℕ → Busy → (World → Bool) → World → Bool
calm_rounds own zero busy then w = then w
calm_rounds own (suc n) busy then w = is_harmless own (running w.controller.stage) && calm_rounds own n busy then (round w busy)

abbrev pub is_calm : ℕ → List Doing → (World → Bool) → World → Bool
is_calm own [] then w = then w
is_calm own (rounds n busy ∷ script) then w = calm_rounds own n busy (is_calm own script then) w
is_calm own (calls call ∷ script) then w = is_harmless own (running w.controller.stage) && is_calm own script then (called w call)

calm_rounds_lem : (own n : ℕ) (busy : Busy) (then : World → Bool) {v u : World} (r : Run v u) → Calm own r → calm_rounds own n busy then u ≡ true → Calm own (run_rounds n busy r) × (then (after_rounds n busy u) ≡ true)
calm_rounds_lem own zero busy then r c e = (c, e)
calm_rounds_lem own (suc n) busy then {v} {u} r c e =
    let t = both (is_harmless own (running u.controller.stage)) (calm_rounds own n busy then (round u busy)) e in
    calm_rounds_lem own n busy then (a_round r busy) (c, harmless own (running u.controller.stage) t.0) t.1

pub calm_on : (own : ℕ) (script : List Doing) (then : World → Bool) {v u : World} (r : Run v u) → Calm own r → is_calm own script then u ≡ true → Calm own (run_on script r) × (then (after script u) ≡ true)
calm_on own [] then r c e = (c, e)
calm_on own (rounds n busy ∷ script) then {v} {u} r c e =
    let t = calm_rounds_lem own n busy (is_calm own script then) r c e in
    calm_on own script then (run_rounds n busy r) t.0 t.1
calm_on own (calls call ∷ script) then {v} {u} r c e =
    let t = both (is_harmless own (running u.controller.stage)) (is_calm own script then (called u call)) e in
    calm_on own script then (a_call r call) (c, harmless own (running u.controller.stage) t.0) t.1

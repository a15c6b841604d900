-- Scripts played in one pass, so that a run's log and its calls are computed without a walk through the run; and quiet starts.
use Prim.Native.Nat.{ℕ, zero, suc, ◌/◌}
use native.Mathlib.Omega.{arith}
use mathlib.Core.Path.{◌≡◌, refl, sym, ◌∙◌, ap}
use mathlib.Core.Bool.{Bool, true, false, cond, ◌&&◌, not, false≢true}
use mathlib.Core.List.{List, [], ◌∷◌, ◌++◌, map}
use borrow.Author.Tests.{le-ltb, eq-eqb}
use lib.Dec.{ltb, eqb}
use lib.ListN.{length, replicate}
use Rattle.bus.specs.Bus.{station_step, units_after, is_odd}
use Rattle.bus.specs.declared.Station.{Station}
use Rattle.controller.specs.Calls.{controller_stepped, buffer_after}
use Rattle.delivery.proofs.EveryRound.{every_run, on_nibble, on_sound}
use Rattle.delivery.proofs.Logs.{cut-append}
use Rattle.delivery.proofs.Stages.{Sound}
use Rattle.delivery.specs.Calls.{Call, called}
use Rattle.delivery.specs.Lists.{All, none, also}
use Rattle.delivery.specs.Log.{Mark, does, stage_marks, deeds_by, station_deeds, units_marks, told_in, round_marks, call_marks, log, Capture, cut_all, frames_of}
use Rattle.delivery.specs.Run.{New, QuietStart, Run, a_round, a_call}
use Rattle.delivery.specs.World.{World, Busy, levels, round, Different, nobody, another}
use Rattle.inside.specs.Inside.{inside_of}
use Rattle.inside.specs.Lawful.{Lent}
use Rattle.kind.specs.Kinds.{kind_of, lent_to, is_short}
use Rattle.kind.specs.declared.Kind.{Kind}
use Rattle.kind.specs.declared.Kind.TheVariants.{Serial as SerialUnit, Video as VideoUnit}
use Rattle.line.specs.declared.Lines.{Lines}
use Rattle.message.proofs.Fields.{zeros_below}
use Rattle.polling.specs.BusMoves.{move_of, call_of, moves_of}
use Rattle.polling.specs.Moves.{Move}
use Rattle.unit.specs.Unit.{unit_step, unit_buffer, unit_output}
use Rattle.story.specs.Script.{station_of, quiet_bus, Doing, rounds, calls, after, after_rounds, run_rounds, run_on, both}

-- On demand 2's bus no step is refused. So a unit's round is that of its phase, and the length of its memory need not be taken.
abbrev light_step : Station → Lines → Bool → Station
light_step st seen busy = record {
  unit = unit_step st.unit seen busy st.buffer st.input;
  buffer = unit_buffer st.unit seen st.buffer;
  input = st.input;
  output = unit_output st.unit seen st.buffer st.output;
}

abbrev light_units : Lines → ℕ → List Station → List Station
light_units seen hosts [] = []
light_units seen hosts (st ∷ ss) = light_step st seen (is_odd hosts) ∷ light_units seen (hosts / 2) ss

abbrev light_round : World → Busy → World
light_round w busy = record {
  controller = controller_stepped w.controller (levels w) busy.here w.lent w.response;
  units = light_units (levels w) busy.there w.units;
  lent = w.lent;
  response = buffer_after w.controller (levels w) busy.here w.lent w.response;
}

light_units_lem : (seen : Lines) (hosts : ℕ) {ss : List Station} → ltb 15 seen.nibble ≡ false → All Sound ss → units_after seen hosts ss ≡ light_units seen hosts ss
light_units_lem seen hosts fine none = refl
light_units_lem seen hosts fine (also {x = st} {xs = ss} s more) =
    let this : station_step st seen (is_odd hosts) ≡ light_step st seen (is_odd hosts) = rw (fine, s.room) in
    ap (λ (x : Station). x ∷ units_after seen (hosts / 2) ss) this ∙ ap (λ (xs : List Station). light_step st seen (is_odd hosts) ∷ xs) (light_units_lem seen (hosts / 2) fine more)

light_round_lem : {w v : World} → QuietStart w → Run w v → (busy : Busy) → round v busy ≡ light_round v busy
light_round_lem {w} {v} quiet r busy =
    let here = every_run w v quiet r in
    let nibble = on_nibble here in
    let units : units_after (levels v) busy.there v.units ≡ light_units (levels v) busy.there v.units =
    light_units_lem (levels v) busy.there (le-ltb 15 (levels v).nibble (omega arith)) (on_sound here) in
    ap (λ (ss : List Station). record {
      controller = (round v busy).controller;
      units = ss;
      lent = v.lent;
      response = (round v busy).response;
    }) units

-- The marks of a round, by the world behind it.
abbrev marks_between : Lines → List Station → List Station → List Mark
marks_between seen [] after = []
marks_between seen (st ∷ ss) [] = []
marks_between seen (st ∷ ss) (next ∷ after) =
    map (does st.unit.own) (cond seen.bav (deeds_by st.unit.phase next.unit.phase (inside_of st) seen) []) ++ marks_between seen ss after

abbrev marks_to : World → World → Busy → List Mark
marks_to v next busy =
    marks_between (levels v) v.units next.units
    ++ stage_marks v.controller.stage next.controller.stage (levels v) (told_in v busy) v.lent v.response next.response

marks_between_lem : (seen : Lines) (hosts : ℕ) (ss : List Station) → units_marks seen hosts ss ≡ marks_between seen ss (units_after seen hosts ss)
marks_between_lem seen hosts [] = refl
marks_between_lem seen hosts (st ∷ ss) = ap (λ (ms : List Mark). map (does st.unit.own) (station_deeds st seen (is_odd hosts)) ++ ms) (marks_between_lem seen (hosts / 2) ss)

marks_to_lem : (v : World) (busy : Busy) → round_marks v busy ≡ marks_to v (round v busy) busy
marks_to_lem v busy =
    ap (λ (ms : List Mark). ms ++ stage_marks v.controller.stage (round v busy).controller.stage (levels v) (told_in v busy) v.lent v.response (round v busy).response)
    (marks_between_lem (levels v) busy.there v.units)

-- The world, and the frames of the log so far.
pub record Played : Type 0 where
  pub world : World
  pub frames : List Capture

abbrev pub at : {w v : World} → Run w v → Played
at {v = v} r = record { world = v; frames = frames_of (log r) }

-- The memory that units are lent is looked at in each round, so that what a round makes of it is computed then.
abbrev looked : {A : Type 0} → List ℕ → A → A
looked [] x = x
looked (b ∷ bytes) x = x

abbrev looked_all : {A : Type 0} → List Station → A → A
looked_all [] x = x
looked_all (st ∷ ss) x = looked st.buffer (looked st.output (looked_all ss x))

looked_same : {A : Type 0} (bytes : List ℕ) (x : A) → looked bytes x ≡ x
looked_same [] x = refl
looked_same (b ∷ bytes) x = refl

looked-all : {A : Type 0} (ss : List Station) (x : A) → looked_all ss x ≡ x
looked-all [] x = refl
looked-all (st ∷ ss) x = looked_same st.buffer (looked st.output (looked_all ss x)) ∙ looked_same st.output (looked_all ss x) ∙ looked-all ss x

abbrev pub play_to : Played → Busy → World → Played
play_to p busy next = looked_all next.units (record { world = next; frames = cut_all p.frames (marks_to p.world next busy) })

abbrev pub play_rounds : ℕ → Busy → Played → Played
play_rounds zero busy p = p
play_rounds (suc n) busy p = play_rounds n busy (play_to p busy (light_round p.world busy))

abbrev pub play : List Doing → Played → Played
play [] p = p
play (rounds n busy ∷ script) p = play script (play_rounds n busy p)
play (calls call ∷ script) p = play script (record { world = called p.world call; frames = cut_all p.frames (call_marks p.world call) })

plays_round : {w v : World} → QuietStart w → (r : Run w v) (busy : Busy) → at (a_round r busy) ≡ play_to (at r) busy (light_round v busy)
plays_round {w} {v} quiet r busy =
    ap (λ (ls : List Capture). record { world = round v busy; frames = ls }) (cut-append [] (log r) (round_marks v busy) ∙ ap (cut_all (frames_of (log r))) (marks_to_lem v busy))
    ∙ sym (looked-all (round v busy).units (record { world = round v busy; frames = cut_all (frames_of (log r)) (marks_to v (round v busy) busy) }))
    ∙ ap (play_to (at r) busy) (light_round_lem quiet r busy)

plays_rounds : (n : ℕ) (busy : Busy) {w v : World} → QuietStart w → (r : Run w v) → at (run_rounds n busy r) ≡ play_rounds n busy (at r)
plays_rounds zero busy quiet r = refl
plays_rounds (suc n) busy quiet r = plays_rounds n busy quiet (a_round r busy) ∙ ap (play_rounds n busy) (plays_round quiet r busy)

pub plays : (script : List Doing) {w v : World} → QuietStart w → (r : Run w v) → at (run_on script r) ≡ play script (at r)
plays [] quiet r = refl
plays (rounds n busy ∷ script) quiet r = plays script quiet (run_rounds n busy r) ∙ ap (play script) (plays_rounds n busy quiet r)
plays (calls call ∷ script) {w} {v} quiet r =
    plays script quiet (a_call r call)
    ∙ ap (λ (ls : List Capture). play script (record { world = called v call; frames = ls })) (cut-append [] (log r) (call_marks v call))

-- The controller's calls.
abbrev moves_rounds : ℕ → Busy → World → List Move → List Move
moves_rounds zero busy w ms = ms
moves_rounds (suc n) busy w ms = move_of w busy ∷ moves_rounds n busy (round w busy) ms

abbrev pub moves_in : List Doing → World → List Move
moves_in [] w = []
moves_in (rounds n busy ∷ script) w = moves_rounds n busy w (moves_in script (after_rounds n busy w))
moves_in (calls call ∷ script) w = call_of call (moves_in script (called w call))

moves_rounds_lem : (n : ℕ) (busy : Busy) {w v : World} (r : Run w v) (ms : List Move) → moves_of (run_rounds n busy r) ms ≡ moves_of r (moves_rounds n busy v ms)
moves_rounds_lem zero busy r ms = refl
moves_rounds_lem (suc n) busy r ms = moves_rounds_lem n busy (a_round r busy) ms

pub moves_on : (script : List Doing) {w v : World} (r : Run w v) → moves_of (run_on script r) [] ≡ moves_of r (moves_in script v)
moves_on [] r = refl
moves_on (rounds n busy ∷ script) {w} {v} r = moves_on script (run_rounds n busy r) ∙ moves_rounds_lem n busy r (moves_in script (after_rounds n busy v))
moves_on (calls call ∷ script) r = moves_on script (a_call r call)

-- The world and the calls together.
pub record Went : Type 0 where
  pub world : World
  pub moves : List Move

abbrev pub noted : Move → Went → Went
noted m p = record { world = p.world; moves = m ∷ p.moves }

abbrev pub also_called : Call → Went → Went
also_called call p = record { world = p.world; moves = call_of call p.moves }

abbrev pub go_rounds : ℕ → Busy → World → (World → Went) → Went
go_rounds zero busy w then = then w
go_rounds (suc n) busy w then = noted (move_of w busy) (go_rounds n busy (round w busy) then)

abbrev pub go : List Doing → World → Went
go [] w = record { world = w; moves = [] }
go (rounds n busy ∷ script) w = go_rounds n busy w (go script)
go (calls call ∷ script) w = also_called call (go script (called w call))

goes_rounds : (n : ℕ) (busy : Busy) (w : World) (then : World → Went) → go_rounds n busy w then ≡ record { world = (then (after_rounds n busy w)).world; moves = moves_rounds n busy w (then (after_rounds n busy w)).moves }
goes_rounds zero busy w then = refl
goes_rounds (suc n) busy w then = ap (noted (move_of w busy)) (goes_rounds n busy (round w busy) then)

pub goes : (script : List Doing) (w : World) → go script w ≡ record { world = after script w; moves = moves_in script w }
goes [] w = refl
goes (rounds n busy ∷ script) w = goes_rounds n busy w (go script) ∙ ap (λ (p : Went). record { world = p.world; moves = moves_rounds n busy w p.moves }) (goes script (after_rounds n busy w))
goes (calls call ∷ script) w = ap (also_called call) (goes script (called w call))

-- A quiet start: no code is 0, and all differ.
abbrev pub is_other : ℕ → List ℕ → Bool
is_other own [] = true
is_other own (code ∷ codes) = not (eqb code own) && is_other own codes

abbrev pub are_codes : List ℕ → Bool
are_codes [] = true
are_codes (own ∷ codes) = not (eqb own 0) && (is_other own codes && are_codes codes)

pub not_true : (a : Bool) → not a ≡ true → a ≡ false
not_true true e = absurd (false≢true e)
not_true false e = refl

differs : (a b : ℕ) → not (eqb a b) ≡ true → a ≡ b → ⊥
differs a b e same = false≢true (sym (not_true (eqb a b) e) ∙ eq-eqb a b same)

-- Whatever its kind, a unit is lent enough.
room : (kind : Kind) → is_short kind (length {A = ℕ} (replicate 256 0)) (length {A = ℕ} (replicate (lent_to kind) 0x2A)) ≡ false
room SerialUnit = refl
room VideoUnit = refl

lent : (kind : Kind) (own : ℕ) → Lent kind (inside_of (station_of own))
lent SerialUnit own = (refl, zeros_below 256)
lent VideoUnit own = tt

others : (own : ℕ) (codes : List ℕ) → is_other own codes ≡ true → All (λ (x : Station). x.unit.own ≡ own → ⊥) (quiet_bus codes).units
others own [] e = none
others own (code ∷ codes) e =
    let t = both (not (eqb code own)) (is_other own codes) e in
    also (differs code own t.0) (others own codes t.1)

different : (codes : List ℕ) → are_codes codes ≡ true → Different (quiet_bus codes).units
different [] e = nobody
different (own ∷ codes) e =
    let t = both (is_other own codes) (are_codes codes) (both (not (eqb own 0)) (is_other own codes && are_codes codes) e).1 in
    another (others own codes t.0) (different codes t.1)

new_units : (codes : List ℕ) → are_codes codes ≡ true → All New (quiet_bus codes).units
new_units [] e = none
new_units (own ∷ codes) e =
    let t = both (not (eqb own 0)) (is_other own codes && are_codes codes) e in
    also (record { own = own; retry = 4; coded = differs own 0 t.0; is_new = refl; room = room (kind_of own); lent = lent (kind_of own) own }) (new_units codes (both (is_other own codes) (are_codes codes) t.1).1)

pub quiet_start : (codes : List ℕ) → are_codes codes ≡ true → QuietStart (quiet_bus codes)
quiet_start codes e = record { timeout = 8; least = omega arith; is_new = refl; units = new_units codes e; codes = different codes e }

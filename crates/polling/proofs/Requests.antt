-- A request stands until something ends it, and BAV is pulled for it as the retry rule says.
use Prim.Native.Nat.{ℕ, suc, ◌+◌, ◌<◌, ◌≤◌, min}
use native.Mathlib.Omega.{arith}
use mathlib.Core.Path.{◌≡◌, refl, sym, ◌∙◌, ap, subst}
use mathlib.Core.Bool.{Bool, true, false, cond, not, ◌&&◌, true≢false, false≢true}
use mathlib.Core.List.{List, [], ◌∷◌}
use borrow.Author.Tests.{leb-true, leb-false, le-leb, lt-leb}
use lib.Dec.{ltb, leb, eqb}
use lib.ListN.{length}
use Rattle.bus.specs.Bus.{unit_after}
use Rattle.field.specs.Field.{byte_from}
use Rattle.host.specs.Calls.{in_unit, taken_by}
use Rattle.inside.specs.Calls.{unit_taken}
use Rattle.inside.specs.Inside.{Inside, clears}
use Rattle.inside.specs.Lawful.{is_ending}
use Rattle.inside.proofs.Lawful.{every_lawful}
use Rattle.inside.proofs.Replies.{request_ended}
use Rattle.inside.proofs.Round.{inside_after, Came, as_it_was, of_a_command, of_its_response, came}
use Rattle.kind.specs.Kinds.{kind_of, is_fed, is_short}
use Rattle.line.specs.Line.{hear_of, taken_of}
use Rattle.line.specs.declared.Lines.{Lines}
use Rattle.line.specs.declared.Listener.{Listener}
use Rattle.line.specs.declared.Listener.TheVariants.{Ready, Holding, Waiting}
use Rattle.message.specs.Answer.{gives, refused}
use Rattle.phase.specs.Phase.{phase_step, selected}
use Rattle.phase.specs.declared.Moved.{Moved}
use Rattle.phase.specs.declared.Phase.{Phase}
use Rattle.phase.specs.declared.Phase.TheVariants.{Idle, Selecting, SittingOut}
use Rattle.queue.specs.Queue.{room, queue_with, popped}
use Rattle.std.specs.Prelude.{Option, Some, None}
use Rattle.queue.specs.declared.Queue.{Queue}
use Rattle.serial.specs.Serial.{with_input, with_request}
use Rattle.serial.specs.declared.Serial.{Serial}
use Rattle.unit.specs.Unit.{new_unit, low_step, high_step, asks, quiet_after}
use Rattle.unit.specs.declared.Unit.{Unit}
use Rattle.polling.specs.Demand3.{Raised, RequestStands, PullsBav, HoldsBav, PullsForIt, PullsNotBefore}
use Rattle.polling.specs.UnitMoves.{UnitMove, steps, feeds, takes, raises, moved, moved_all, by_a_command, by_its_answer, Stands, stands, ends, is_seen, row_after, row_of, unit_since, Fills, fills}

pub raised : Raised
raised u e = rw e

-- What a refused step and a call of the host leave as it is.
record Kept (u v : Unit) : Type 0 where
  own : v.own ≡ u.own
  retry : v.retry ≡ u.retry
  quiet : v.quiet ≡ u.quiet
  asking : v.asking ≡ u.asking
  phase : v.phase ≡ u.phase
  enabled : v.serial.enabled ≡ u.serial.enabled
  request : u.serial.requesting ≡ true → v.serial.requesting ≡ true

as_before : (u : Unit) → Kept u u
as_before u = record { own = refl; retry = refl; quiet = refl; asking = refl; phase = refl; enabled = refl; request = λ e. e }

abbrev next : Unit → Lines → Bool → List ℕ → List ℕ → Moved
next u seen busy buffer input = phase_step u.phase u.own u.serial seen busy buffer input

-- The moves of a unit: one that keeps all that, and does not count in a row; and steps that see BAV low or high.
data Moves (u : Unit) : UnitMove → Type 0 where
  keeps : {m : UnitMove} → Kept u (moved u m) → ((row : ℕ) → row_after u.own row m ≡ row) → Moves u m
  sees_low :
      (seen : Lines) (busy : Bool) (buffer input output : List ℕ) → is_seen u.own seen buffer output ≡ true → seen.bav ≡ true → moved u (steps seen busy buffer input output) ≡ low_step u seen.hsk (next u seen busy buffer input)
      → Moves u (steps seen busy buffer input output)
  sees_high :
      (seen : Lines) (busy : Bool) (buffer input output : List ℕ) → is_seen u.own seen buffer output ≡ true → seen.bav ≡ false → moved u (steps seen busy buffer input output) ≡ high_step u seen.hsk
      → Moves u (steps seen busy buffer input output)

moves : (u : Unit) (m : UnitMove) → Moves u m
moves u (steps seen busy buffer input output) = by (ltb 15 seen.nibble) refl (is_short (kind_of u.own) (length buffer) (length output)) refl seen.bav refl
  where
    after : Bool → Bool → Bool → Unit
    after a b c = unit_after (cond a (refused 5) (cond b (refused 11) (gives (cond c (low_step u seen.hsk (next u seen busy buffer input)) (high_step u seen.hsk))))) u

    view : {a b : Bool} → ltb 15 seen.nibble ≡ a → is_short (kind_of u.own) (length buffer) (length output) ≡ b → is_seen u.own seen buffer output ≡ cond a false (cond b false true)
    view e f = λ k. cond (e k) false (cond (f k) false true)

    not_seen : is_seen u.own seen buffer output ≡ false → (row : ℕ) → row_after u.own row (steps seen busy buffer input output) ≡ row
    not_seen e row = ap (λ (t : Bool). cond t (cond seen.bav 0 (suc row)) row) e

    by : (a : Bool) → ltb 15 seen.nibble ≡ a → (b : Bool) → is_short (kind_of u.own) (length buffer) (length output) ≡ b → (c : Bool) → seen.bav ≡ c → Moves u (steps seen busy buffer input output)
    by true e b f c g = keeps (subst (Kept u) (sym (λ k. after (e k) (f k) (g k))) (as_before u)) (not_seen (view e f))
    by false e true f c g = keeps (subst (Kept u) (sym (λ k. after (e k) (f k) (g k))) (as_before u)) (not_seen (view e f))
    by false e false f true g = sees_low seen busy buffer input output (view e f) g (λ k. after (e k) (f k) (g k))
    by false e false f false g = sees_high seen busy buffer input output (view e f) g (λ k. after (e k) (f k) (g k))
moves u (feeds b) = keeps (by (is_fed (kind_of u.own) u.serial.opening) (eqb (room u.serial.input) 0)) (λ row. refl)
  where
    by : (t v : Bool) → Kept u (unit_after (in_unit u (cond t (cond v (refused 6) (gives (with_input u.serial (queue_with u.serial.input (b ∷ []))))) (refused 7))) u)
    by true true = as_before u
    by true false = record { own = refl; retry = refl; quiet = refl; asking = refl; phase = refl; enabled = refl; request = λ e. e }
    by false v = as_before u
moves u (takes output) = keeps (by (popped output u.serial.output)) (λ row. refl)
  where
    by : (p : Option (ℕ × Queue)) → Kept u (unit_taken (taken_by u p) u)
    by (Some front) = record { own = refl; retry = refl; quiet = refl; asking = refl; phase = refl; enabled = refl; request = λ e. e }
    by None = as_before u
moves u raises = keeps (by u.serial.enabled) (λ row. refl)
  where
    by : (t : Bool) → Kept u (unit_after (in_unit u (cond t (gives (with_request u.serial true)) (refused 7))) u)
    by true = record { own = refl; retry = refl; quiet = refl; asking = refl; phase = refl; enabled = refl; request = λ e. refl }
    by false = as_before u

-- What is inside a unit, as far as its own moves go.
abbrev within : Unit → List ℕ → Inside
within u input = record { state = u.serial; input = input; output = [] }

pub request_stands : RequestStands
request_stands u m h = by (moves u m)
  where
    low : {seen : Lines} {busy : Bool} {buffer input output : List ℕ} → is_seen u.own seen buffer output ≡ true → seen.bav ≡ true → moved u (steps seen busy buffer input output) ≡ low_step u seen.hsk (next u seen busy buffer input)
        → Came u.phase u.own (within u input) seen buffer (inside_after u.phase u.own (within u input) seen busy buffer) → Stands u (steps seen busy buffer input output)
    low view bav e (as_it_was g) = stands (ap (λ (v : Unit). v.serial.requesting) e ∙ ap (λ (x : Inside). x.state.requesting) g ∙ h)
    low {seen} {busy} {buffer} {input} {output} view bav e (of_a_command k n d t g) = by-ending (is_ending k.command) refl
      where
        by-ending : (z : Bool) → is_ending k.command ≡ z → Stands u (steps seen busy buffer input output)
        by-ending true z = ends (by_a_command k n d view bav t z)
        by-ending false z = stands (ap (λ (v : Unit). v.serial.requesting) e ∙ ap (λ (x : Inside). x.state.requesting) g ∙ (every_lawful (kind_of u.own)).request_taken (within u input) k n d z ∙ h)
    low {seen} {busy} {buffer} {input} {output} view bav e (of_its_response r t g) = by-clearing (clears r) refl
      where
        by-clearing : (z : Bool) → clears r ≡ z → Stands u (steps seen busy buffer input output)
        by-clearing true z = ends (by_its_answer r view bav t z)
        by-clearing false z = stands (ap (λ (v : Unit). v.serial.requesting) e ∙ ap (λ (x : Inside). x.state.requesting) g ∙ request_ended (within u input) r z ∙ h)

    by : {m : UnitMove} → Moves u m → Stands u m
    by (keeps k row) = stands (k.request h)
    by (sees_low seen busy buffer input output view bav e) = low view bav e (came u.phase u.own (within u input) seen busy buffer)
    by (sees_high seen busy buffer input output view bav e) = stands (ap (λ (v : Unit). v.serial.requesting) e ∙ h)

-- The row of rounds with BAV high is the one that is counted.
module _ (own retry : ℕ) where
  pub record Rowed (row : ℕ) (u : Unit) : Type 0 where
    pub quiet : u.quiet ≡ min row retry
    pub setting : u.retry ≡ retry
    pub code : u.own ≡ own

  -- The row behind a move of the unit, by its own code.
  own_row : {row : ℕ} {u : Unit} (m : UnitMove) → Rowed row u → {k : ℕ} → row_after u.own row m ≡ k → row_after own row m ≡ k
  own_row {row} m r e = ap (λ (o : ℕ). row_after o row m) (sym r.code) ∙ e

  rowed-move : (row : ℕ) (u : Unit) (m : UnitMove) → Rowed row u → Rowed (row_after own row m) (moved u m)
  rowed-move row u m r = by (moves u m)
    where
      by : {m : UnitMove} → Moves u m → Rowed (row_after own row m) (moved u m)
      by {m} (keeps k same) = subst (λ (n : ℕ). Rowed n (moved u m)) (sym (own_row m r (same row))) (record { quiet = k.quiet ∙ r.quiet; setting = k.retry ∙ r.setting; code = k.own ∙ r.code })
      by (sees_low seen busy buffer input output view bav e) =
          let zero_row : row_after u.own row (steps seen busy buffer input output) ≡ 0 = (λ k. cond (view k) (cond (bav k) 0 (suc row)) row) in
          subst (λ (n : ℕ). Rowed n (moved u (steps seen busy buffer input output))) (sym (own_row (steps seen busy buffer input output) r zero_row)) (subst (Rowed 0) (sym e) (record { quiet = omega arith; setting = r.setting; code = r.code }))
      by (sees_high seen busy buffer input output view bav e) =
          let longer : row_after u.own row (steps seen busy buffer input output) ≡ suc row = (λ k. cond (view k) (cond (bav k) 0 (suc row)) row) in
          let t = r.setting in
          subst (λ (n : ℕ). Rowed n (moved u (steps seen busy buffer input output))) (sym (own_row (steps seen busy buffer input output) r longer))
          (subst (Rowed (suc row)) (sym e) (record { quiet = ap (λ (n : ℕ). min (n + 1) u.retry) r.quiet ∙ ap (min (min row retry + 1)) t ∙ omega arith; setting = t; code = r.code }))

  rowed : (row : ℕ) (u : Unit) (ms : List UnitMove) → Rowed row u → Rowed (row_of own row ms) (moved_all u ms)
  rowed row u [] r = r
  rowed row u (m ∷ ms) r = rowed (row_after own row m) (moved u m) ms (rowed-move row u m r)

  pub rowed-since : (ms : List UnitMove) → Rowed (row_of own 0 ms) (unit_since own retry ms)
  rowed-since ms = rowed 0 (new_unit own retry) ms (record { quiet = omega arith; setting = refl; code = refl })

same_test : (retry row : ℕ) → leb retry (min (min row retry + 1) retry) ≡ leb retry (suc row)
same_test retry row = by (leb retry (suc row)) refl
  where
    by : (t : Bool) → leb retry (suc row) ≡ t → leb retry (min (min row retry + 1) retry) ≡ t
    by true e = let h : retry ≤ suc row = leb-true retry (suc row) e in le-leb retry (min (min row retry + 1) retry) (omega arith)
    by false e = let h : suc row < retry = leb-false retry (suc row) e in lt-leb retry (min (min row retry + 1) retry) (omega arith)

-- The test of a unit's row.
row_test : {own retry row : ℕ} {u : Unit} → Rowed own retry row u → leb u.retry (quiet_after u) ≡ leb retry (suc row)
row_test {own} {retry} {row} r = (λ i. leb (r.setting i) (min (r.quiet i + 1) (r.setting i))) ∙ same_test retry row

-- A step that is not refused.
seen_step : (u : Unit) (seen : Lines) (busy : Bool) (buffer input output : List ℕ) → is_seen u.own seen buffer output ≡ true
    → moved u (steps seen busy buffer input output) ≡ cond seen.bav (low_step u seen.hsk (next u seen busy buffer input)) (high_step u seen.hsk)
seen_step u seen busy buffer input output e = by (ltb 15 seen.nibble) (is_short (kind_of u.own) (length buffer) (length output)) e
  where
    stepped : Unit
    stepped = cond seen.bav (low_step u seen.hsk (next u seen busy buffer input)) (high_step u seen.hsk)

    by : (a b : Bool) → cond a false (cond b false true) ≡ true → unit_after (cond a (refused 5) (cond b (refused 11) (gives stepped))) u ≡ stepped
    by true b x = absurd (false≢true x)
    by false true x = absurd (false≢true x)
    by false false x = refl

pub pulls_bav : PullsBav
pulls_bav own retry ms seen busy buffer input output view high quiet enabled request =
    let u = unit_since own retry ms in
    let r = rowed-since own retry ms in
    ap (λ (x : Unit). x.asking) (seen_step u seen busy buffer input output (ap (λ (k : ℕ). is_seen k seen buffer output) r.code ∙ view))
    ∙ ap (λ (t : Bool). (cond t (low_step u seen.hsk (next u seen busy buffer input)) (high_step u seen.hsk)).asking) high
    ∙ ap (λ (t : Bool). asks t u.serial.enabled u.serial.requesting u.retry (quiet_after u) seen.hsk) quiet
    ∙ (λ i. enabled i && (request i && leb u.retry (quiet_after u)))
    ∙ row_test r

pub holds_bav : HoldsBav
holds_bav u seen busy buffer input output view asking = ap (λ (x : Unit). x.asking) (seen_step u seen busy buffer input output view) ∙ by seen.bav
  where
    by : (t : Bool) → (cond t (low_step u seen.hsk (next u seen busy buffer input)) (high_step u seen.hsk)).asking ≡ not seen.hsk
    by true = ap (λ (b : Bool). b && not seen.hsk) asking
    by false = ap (λ (b : Bool). asks b u.serial.enabled u.serial.requesting u.retry (quiet_after u) seen.hsk) asking

-- A unit that pulls BAV is idle or selects: at the first HSK low it has let go.
data Early : Phase → Type 0 where
  is_idle : Early Idle
  is_selecting : {ear : Listener} {half : Bool} {low : ℕ} → Early (Selecting ear half low)

not_taken : (ear : Listener) → taken_of ear false ≡ false
not_taken Ready = refl
not_taken Holding = refl
not_taken Waiting = refl

early_on : {p : Phase} (own : ℕ) (s : Serial) (seen : Lines) (busy : Bool) (buffer input : List ℕ) → seen.hsk ≡ false → Early p
    → Early (phase_step p own s seen busy buffer input).phase × ((phase_step p own s seen busy buffer input).serial ≡ s)
early_on own s seen busy buffer input high is_idle = (subst (λ (t : Bool). Early (cond t (SittingOut false) (Selecting Ready false 0))) (sym high) is_selecting, refl)
early_on own s seen busy buffer input high (is_selecting {ear = ear} {half = half} {low = low}) =
    let none : taken_of ear seen.hsk ≡ false = ap (taken_of ear) high ∙ not_taken ear in
    (subst (λ (t : Bool). Early (cond t (cond half (selected own (byte_from low seen.nibble)) (Selecting Holding true seen.nibble)) (Selecting (hear_of ear seen.hsk busy) half low))) (sym none) is_selecting, refl)

both : (a b : Bool) → (a && b) ≡ true → (a ≡ true) × (b ≡ true)
both true b e = (refl, e)
both false b e = absurd (false≢true e)

not_true : (b : Bool) → not b ≡ true → b ≡ false
not_true true e = absurd (false≢true e)
not_true false e = refl

-- What holds of a unit that pulls BAV.
record Asking (u : Unit) : Type 0 where
  early : Early u.phase
  enabled : u.serial.enabled ≡ true
  request : u.serial.requesting ≡ true

-- A pull that is new: service is enabled, a request is held, and the row is full.
new_pull : (u : Unit) (hsk : Bool) → u.asking ≡ false → (high_step u hsk).asking ≡ true → (u.serial.enabled ≡ true) × ((u.serial.requesting ≡ true) × (leb u.retry (quiet_after u) ≡ true))
new_pull u hsk quiet now =
    let e = sym (ap (λ (b : Bool). asks b u.serial.enabled u.serial.requesting u.retry (quiet_after u) hsk) quiet) ∙ now in
    let x = both u.serial.enabled (u.serial.requesting && leb u.retry (quiet_after u)) e in
    (x.0, both u.serial.requesting (leb u.retry (quiet_after u)) x.1)

asking_move : (u : Unit) (m : UnitMove) → (u.asking ≡ true → Asking u) → (moved u m).asking ≡ true → Asking (moved u m)
asking_move u m old now = by (moves u m) now
  where
    low : (seen : Lines) (busy : Bool) (buffer input : List ℕ) → (u.asking && not seen.hsk) ≡ true → Asking (low_step u seen.hsk (next u seen busy buffer input))
    low seen busy buffer input e =
        let x = both u.asking (not seen.hsk) e in
        let k = old x.0 in
        let on = early_on u.own u.serial seen busy buffer input (not_true seen.hsk x.1) k.early in
        record { early = on.0; enabled = ap (λ (s : Serial). s.enabled) on.1 ∙ k.enabled; request = ap (λ (s : Serial). s.requesting) on.1 ∙ k.request }

    high : (hsk : Bool) (t : Bool) → u.asking ≡ t → (high_step u hsk).asking ≡ true → Asking (high_step u hsk)
    high hsk true e g = record { early = is_idle; enabled = (old e).enabled; request = (old e).request }
    high hsk false e g = let x = new_pull u hsk e g in record { early = is_idle; enabled = x.0; request = x.1.0 }

    by : {m : UnitMove} → Moves u m → (moved u m).asking ≡ true → Asking (moved u m)
    by (keeps k row) e = let o = old (sym k.asking ∙ e) in record { early = subst Early (sym k.phase) o.early; enabled = k.enabled ∙ o.enabled; request = k.request o.request }
    by (sees_low seen busy buffer input output view bav g) e = subst Asking (sym g) (low seen busy buffer input (sym (ap (λ (v : Unit). v.asking) g) ∙ e))
    by (sees_high seen busy buffer input output view bav g) e = subst Asking (sym g) (high seen.hsk u.asking refl (sym (ap (λ (v : Unit). v.asking) g) ∙ e))

asking-all : (u : Unit) (ms : List UnitMove) → (u.asking ≡ true → Asking u) → (moved_all u ms).asking ≡ true → Asking (moved_all u ms)
asking-all u [] old = old
asking-all u (m ∷ ms) old = asking-all (moved u m) ms (asking_move u m old)

pub pulls_for_it : PullsForIt
pulls_for_it own retry ms e = let k = asking-all (new_unit own retry) ms (λ x. absurd (false≢true x)) e in (k.enabled, k.request)

pub pulls_not_before : PullsNotBefore
pulls_not_before own retry ms m quiet now = by (moves u m) now
  where
    u : Unit
    u = unit_since own retry ms

    by : {m : UnitMove} → Moves u m → (moved u m).asking ≡ true → Fills own retry (row_of own 0 ms) m
    by (keeps k row) e = absurd (true≢false (sym e ∙ k.asking ∙ quiet))
    by (sees_low seen busy buffer input output view bav g) e = absurd (true≢false (sym e ∙ ap (λ (v : Unit). v.asking) g ∙ ap (λ (b : Bool). b && not seen.hsk) quiet))
    by (sees_high seen busy buffer input output view bav g) e =
        let r = rowed-since own retry ms in
        let full = (new_pull u seen.hsk quiet (sym (ap (λ (v : Unit). v.asking) g) ∙ e)).1.1 in
        fills (ap (λ (k : ℕ). is_seen k seen buffer output) (sym r.code) ∙ view) bav (sym (row_test r) ∙ full)

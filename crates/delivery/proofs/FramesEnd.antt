-- Frames end: what each round does to the rounds that are left, summed over a run.
use Prim.Native.Nat.{ℕ, zero, suc, ◌+◌, ◌-◌, ◌<◌, ◌≤◌}
use native.Mathlib.Nat.{not-suc-le-zero}
use native.Mathlib.Omega.{arith}
use mathlib.Core.Path.{◌≡◌, refl, sym, ◌∙◌, ap}
use mathlib.Core.Bool.{Bool, true, false, cond, not, ◌&&◌, false≢true, and-false}
use mathlib.Core.List.{List, [], ◌∷◌}
use Rattle.answer.specs.Answer.{nothing_taken}
use Rattle.answer.specs.declared.Response.{Response}
use Rattle.bus.specs.declared.Station.{Station}
use Rattle.controller.specs.declared.Controller.{Controller}
use Rattle.frame.specs.Frame.{over, pulls_of}
use Rattle.frame.specs.declared.Frame.{Frame}
use Rattle.frame.specs.declared.Moved.{Moved}
use Rattle.frame.specs.declared.Stage.TheVariants.{Resting}
use Rattle.unit.specs.Unit.{pulls_hsk}
use Rattle.delivery.specs.Calls.{Call, called, called_all, in_frame, running}
use Rattle.delivery.specs.Run.{Run, start, a_round, a_call}
use Rattle.delivery.specs.Ends.{left, units_free, is_free, quietly}
use Rattle.delivery.specs.FramesEnd.{longest, Staying, free_rounds, FramesEnd, Ends, has_ended, next_free, FramesEndInTime, EndsQuietly, quiet_ended, next_quiet, QuietlyFree, FramesEndQuietly}
use Rattle.delivery.proofs.Moves.{found_after, Falls, Nearer}
use Rattle.delivery.proofs.Promised.{Moment}
use Rattle.delivery.proofs.Stages.{InFrame, begins, sends, hears, waits, Goes, on, answered, unanswered, Finishes, moved_in, On}
use Rattle.delivery.specs.World.{World, Busy, levels, round}
use Rattle.delivery.proofs.EveryRound.{wider_frame, every_run}
use Rattle.delivery.proofs.Frame.{frame_round, one_bound, sits_left}
use Rattle.delivery.proofs.Left.{left-called}
use Rattle.delivery.proofs.Listening.{one_known}
use Rattle.delivery.proofs.Rest.{spoke_moved}
use Rattle.delivery.proofs.Run.{in_frame_called, frame_runs}
use Rattle.delivery.proofs.Running.{RunsOne, runs_one, runs_it}
use Rattle.delivery.proofs.Talk.{place_most}

-- Where nothing is asked of the moments.
abbrev Any : Moment
Any own x = own ≡ own

-- A round of a frame leads on in it and brings its end nearer, or is its end.
data Next (f : Frame) (found : List ℕ) (w : World) (busy : Busy) : Type 0 where
  leads_on : InFrame Any f found (round w busy) → Nearer w busy → Next f found w busy
  is_over_now : (round w busy).controller.stage ≡ Resting true → Next f found w busy

over_rests : (f : Frame) (w : World) (busy : Busy) (r : Response) → Finishes w busy → moved_in w busy ≡ over f r → (round w busy).controller.stage ≡ Resting true
over_rests f w busy r fin m = ap (λ (c : Controller). c.stage) fin ∙ ap (λ (x : Moved). x.stage) m

next : {f : Frame} {found : List ℕ} {w : World} (busy : Busy) → InFrame Any f found w → Next f found w busy
next {f} {found} {w} busy x = by (frame_round Any f found busy (λ st after b e now. refl) x)
  where
    by : Goes Any f found w busy → Next f found w busy
    by (on r y speaks nearer) = leads_on y nearer
    by (answered fin d o) = is_over_now (over_rests f w busy (spoke_moved o).0 fin (spoke_moved o).1)
    by (unanswered fin m b d a why still) = is_over_now (over_rests f w busy nothing_taken fin m)

-- Along a run.
counted : (free : Bool) {now before : ℕ} → Falls free now before → now + cond free 1 0 ≤ before
counted true l = let k = l.1 refl in omega arith
counted false l = let k = l.0 in omega arith

record StaysIn (f : Frame) (v u : World) (rounds : ℕ) : Type 0 where
  found : List ℕ
  frame : InFrame Any f found u
  fewer : left u + rounds ≤ left v

stays_in : {f : Frame} {found : List ℕ} {v u : World} → InFrame Any f found v → (more : Run v u) → Staying more → StaysIn f v u (free_rounds more)
stays_in {found = found} x start s = record { found = found; frame = x; fewer = omega arith }
stays_in {f} {found} {v} x (a_round {v = m} more busy) s = let y = stays_in x more s.0 in by y (next busy y.frame)
  where
    by : (y : StaysIn f v m (free_rounds more)) → Next f y.found m busy → StaysIn f v (round m busy) (free_rounds (a_round more busy))
    by y (leads_on z nearer) = let l = y.fewer in let k = counted (is_free m busy) nearer in record { found = y.found; frame = z; fewer = omega arith }
    by y (is_over_now e) = absurd (false≢true (sym (ap in_frame e) ∙ s.1))
stays_in x (a_call {v = m} more call) s =
    let y = stays_in x more s in
    let l = y.fewer in
    let same = left-called call y.frame in
    record { found = found_after m call y.found; frame = in_frame_called call y.frame; fewer = omega arith }

at_most : {T : Moment} (f : Frame) (found : List ℕ) (w : World) → InFrame T f found w → left w < longest f w.controller.timeout
at_most f found w (begins framed d a) = omega arith
at_most f found w (sends i sender framed d s l a) = let four = place_most sender (levels w).hsk in omega arith
at_most f found w (hears ear taken quiet {timeout = timeout} framed d l o) = one_known (λ (x : ℕ). x < longest f timeout) (timeout - quiet) (one_bound f (omega arith) o)
at_most f found w (waits quiet {timeout = timeout} framed d a why) = let k = sits_left (levels w).hsk (timeout - quiet) a in omega arith

-- The frame that a run is in.
runs_in : {T : Moment} (f : Frame) {v : World} → On T v → running v.controller.stage ≡ f ∷ [] → RunsOne Any v f
runs_in f place e = by (runs_it f place e)
  where
    by : {T : Moment} {v : World} → RunsOne T v f → RunsOne Any v f
    by (runs_one found x) = runs_one found (wider_frame (λ own y t. refl) x)

pub frames_end : FramesEnd
frames_end w v f q r e = by (runs_in f (every_run w v q r) e)
  where
    by : RunsOne Any v f → (left v < longest f v.controller.timeout) × ((u : World) (more : Run v u) → Staying more → left u + free_rounds more ≤ left v)
    by (runs_one found x) = (at_most f found v x, λ u more s. (stays_in x more s).fewer)

-- So many free rounds are enough.
ends_in_lem : (n : ℕ) (f : Frame) (found : List ℕ) (w : World) → left w < n → InFrame Any f found w → Ends n w
ends_in_lem zero f found w h x = absurd (not-suc-le-zero h)
ends_in_lem (suc n) f found w h x =
    next_free (λ u more s none busy free.
    let y = stays_in x more s in
    let l = y.fewer in
    by u busy y.found (λ z k. let less = k.1 free in ends_in_lem n f y.found (round u busy) (omega arith) z) (next busy y.frame))
  where
    by : (u : World) (busy : Busy) (then : List ℕ) → (InFrame Any f then (round u busy) → Nearer u busy → Ends n (round u busy)) → Next f then u busy → Ends n (round u busy)
    by u busy then go (leads_on z nearer) = go z nearer
    by u busy then go (is_over_now e) = has_ended e

in_time : (f : Frame) (found : List ℕ) (v : World) → InFrame Any f found v → Ends (longest f v.controller.timeout) v
in_time f found v x = ends_in_lem (longest f v.controller.timeout) f found v (at_most f found v x) x

pub frames_end_in_time : FramesEndInTime
frames_end_in_time w v f q r e = by (runs_in f (every_run w v q r) e)
  where
    by : RunsOne Any v f → Ends (longest f v.controller.timeout) v
    by (runs_one found x) = in_time f found v x

-- A round with no host busy is free.
units_quiet : (ss : List Station) → units_free 0 ss ≡ true
units_quiet [] = refl
units_quiet (st ∷ ss) = ap (λ (x : Bool). not x && units_free 0 ss) (and-false (pulls_hsk st.unit.phase)) ∙ units_quiet ss

pub quietly_free : QuietlyFree
quietly_free w = ap (λ (x : Bool). not x && units_free 0 w.units) (and-false (pulls_of w.controller.stage).hsk) ∙ units_quiet w.units

-- Calls in a row.
all_in : {f : Frame} {found : List ℕ} {v : World} (calls : List Call) → InFrame Any f found v → (then : List ℕ) × InFrame Any f then (called_all v calls)
all_in {found = found} [] x = (found, x)
all_in {f = f} {found = found} {v = v} (call ∷ calls) x = all_in {found = found_after v call found} calls (in_frame_called call x)

abbrev all_run : {v u : World} (calls : List Call) → Run v u → Run v (called_all u calls)
all_run [] more = more
all_run {v = v} {u = u} (call ∷ calls) more = all_run {u = called u call} calls (a_call more call)

all_stay : {v u : World} (calls : List Call) (more : Run v u) → Staying more → Staying (all_run calls more)
all_stay [] more s = s
all_stay {u = u} (call ∷ calls) more s = all_stay {u = called u call} calls (a_call more call) s

all-count : {v u : World} (calls : List Call) (more : Run v u) → free_rounds (all_run calls more) ≡ free_rounds more
all-count [] more = refl
all-count {u = u} (call ∷ calls) more = all-count {u = called u call} calls (a_call more call)

ends-quietly : {n : ℕ} {f : Frame} {found : List ℕ} {w : World} → InFrame Any f found w → Ends n w → EndsQuietly n w
ends-quietly x (has_ended e) = quiet_ended e
ends-quietly {f = f} {found = found} {w = w} x (next_free {n = n} go) =
    next_quiet (λ calls.
    let z = all_in calls x in
    by calls z.0 (λ y. ends-quietly y (go (called_all w calls) (all_run calls start) (all_stay calls start (frame_runs x)) (all-count calls start) quietly (quietly_free (called_all w calls)))) (next quietly z.1))
  where
    by : (calls : List Call) (then : List ℕ) → (InFrame Any f then (round (called_all w calls) quietly) → EndsQuietly n (round (called_all w calls) quietly))
        → Next f then (called_all w calls) quietly → EndsQuietly n (round (called_all w calls) quietly)
    by calls then go (leads_on y nearer) = go y
    by calls then go (is_over_now e) = quiet_ended e

pub frames_end_quietly : FramesEndQuietly
frames_end_quietly w v f q r e = by (runs_in f (every_run w v q r) e)
  where
    by : RunsOne Any v f → EndsQuietly (longest f v.controller.timeout) v
    by (runs_one found x) = ends-quietly x (in_time f found v x)

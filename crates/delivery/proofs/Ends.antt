-- No round of a frame takes its end further away, and each free one brings it nearer.
use Prim.Native.Nat.{ℕ, ◌+◌, ◌/◌, ◌<◌}
use native.Mathlib.Omega.{arith}
use mathlib.Core.Path.{◌≡◌, refl, sym, ◌∙◌, ap}
use mathlib.Core.Bool.{Bool, true, false, cond, not, ◌&&◌, false≢true}
use mathlib.Core.List.{List}
use Rattle.bus.specs.Bus.{station_step, units_after, is_odd}
use Rattle.bus.specs.declared.Station.{Station}
use Rattle.header.specs.declared.Command.{Command}
use Rattle.inside.specs.Inside.{Inside, inside_of}
use Rattle.line.specs.Line.{hear_of, taken_of, is_ready, listener_hsk}
use Rattle.line.specs.declared.Lines.{Lines}
use Rattle.line.specs.declared.Listener.{Listener}
use Rattle.line.specs.declared.Sender.TheVariants.{Next, Kept}
use Rattle.phase.specs.Phase.{phase_step}
use Rattle.phase.specs.declared.Phase.{Phase}
use Rattle.phase.specs.declared.Phase.TheVariants.{Receiving, Responding, SittingOut}
use Rattle.phase.specs.declared.Progress.TheVariants.{Answered}
use Rattle.reply.specs.Reply.{is_silent}
use Rattle.serial.specs.declared.Reply.{Reply}
use Rattle.unit.specs.Unit.{pulls_hsk}
use Rattle.whole.specs.Whole.{bytes_for}
use Rattle.delivery.specs.Ends.{units_free}
use Rattle.delivery.proofs.Moves.{Falls}
use Rattle.delivery.proofs.Taking.{Fits, f_holds, f_waits}
use Rattle.delivery.specs.Lists.{All, none, also}
use Rattle.delivery.proofs.Stages.{Part, listens, answers, sits}
use Rattle.delivery.proofs.Heard.{Waits, waits, heard_waits}
use Rattle.delivery.proofs.Part.{Stepped, heard_hsk}

-- What falls in any case.
pub falls : {free : Bool} {now before : ℕ} → now < before → Falls free now before
falls l = (omega arith, λ e. l)

pub and_left : (a b : Bool) → (a && b) ≡ true → a ≡ true
and_left true b e = refl
and_left false b e = e

pub and_right : (a b : Bool) → (a && b) ≡ true → b ≡ true
and_right true b e = e
and_right false b e = absurd (false≢true e)

-- A free round of every unit: if it holds HSK, its host is not busy.
pub free_step : {P Q : Station → Type 0} (seen : Lines) → ((st : Station) (busy : Bool) → not (pulls_hsk st.unit.phase && busy) ≡ true → P st → Q (station_step st seen busy))
    → (hosts : ℕ) {ss : List Station} → units_free hosts ss ≡ true → All P ss → All Q (units_after seen hosts ss)
free_step seen f hosts e none = none
free_step seen f hosts e (also {x = st} {xs = ss} p a) =
    also (f st (is_odd hosts) (and_left (not (pulls_hsk st.unit.phase && is_odd hosts)) (units_free (hosts / 2) ss) e) p)
    (free_step seen f (hosts / 2) (and_right (not (pulls_hsk st.unit.phase && is_odd hosts)) (units_free (hosts / 2) ss) e) a)

-- Beside a kept nibble a listener takes none. It lets go of HSK if its host is not busy; where it has let go already its host does not
-- matter.
kept_ear : {n m t : ℕ} {ear : Listener} (low : Bool) → Fits n (Kept m) ear t → taken_of ear low ≡ false
kept_ear low f_holds = refl
kept_ear low f_waits = refl

free_ear : {n m t : ℕ} {ear : Listener} (low busy : Bool) → Fits n (Kept m) ear t → not (listener_hsk ear && busy) ≡ true → listener_hsk (hear_of ear low busy) ≡ false
free_ear low true f_holds e = absurd (false≢true e)
free_ear low false f_holds e = refl
free_ear true busy f_waits e = refl
free_ear false busy f_waits e = refl

answered_free : (t u : Bool) (ear : Listener) (r : Reply) → listener_hsk ear ≡ false → pulls_hsk (cond t (cond u (SittingOut false) (Responding r 0 Next true)) (Receiving ear (Answered r))) ≡ false
answered_free true true ear r e = refl
answered_free true false ear r e = refl
answered_free false u ear r e = e

pub part_lets_go : {P : Reply → Inside → Type 0} {c : Command} {d : List ℕ} {i m : ℕ} {st st' : Station} {seen : Lines} {busy : Bool} → Stepped st seen busy st'
    → not (pulls_hsk st.unit.phase && busy) ≡ true → Part P c d i (Kept m) st → pulls_hsk st'.unit.phase ≡ false
part_lets_go {c = c} {d = d} {i = i} {st = st} {st' = st'} {seen = seen} {busy = busy} s free (listens ear t f h a q) = by (heard_waits st.unit.own (inside_of st) seen busy h (kept_ear seen.hsk f))
  where
    by : Waits (bytes_for c d) (i + t) (hear_of ear seen.hsk busy) st.unit.phase st.unit.own (inside_of st) seen busy st.buffer → pulls_hsk st'.unit.phase ≡ false
    by (waits after h' r) = ap pulls_hsk (s.phase ∙ r.phase) ∙ heard_hsk h' ∙ free_ear seen.hsk busy f (sym (ap (λ (x : Bool). not (x && busy)) (heard_hsk h)) ∙ free)
part_lets_go {st = st} {seen = seen} {busy = busy} s free (answers ear r f l a e k q) =
    ap pulls_hsk (s.phase ∙ ap (λ (x : Phase). (phase_step x st.unit.own st.unit.serial seen busy st.buffer st.input).phase) e)
    ∙ answered_free (is_ready (hear_of ear seen.hsk busy)) (is_silent r) (hear_of ear seen.hsk busy) r (free_ear seen.hsk busy f (sym (ap (λ (x : Phase). not (pulls_hsk x && busy)) e) ∙ free))
part_lets_go {st = st} {seen = seen} {busy = busy} s free (sits now a e k q) =
    ap pulls_hsk (s.phase ∙ ap (λ (x : Phase). (phase_step x st.unit.own st.unit.serial seen busy st.buffer st.input).phase) e)

-- A call in mid-frame takes no round away, and adds none.
use Prim.Native.Nat.{ℕ, zero, suc, ◌+◌, ◌-◌, ◌*◌}
use mathlib.Core.Path.{◌≡◌, refl, sym, ◌∙◌, ap}
use mathlib.Core.Bool.{Bool, cond}
use mathlib.Core.List.{List, [], ◌∷◌}
use Rattle.application.specs.Calls.{Done, acknowledging, without_mark}
use Rattle.bus.specs.Bus.{levels_with}
use Rattle.bus.specs.declared.Station.{Station}
use Rattle.frame.specs.Frame.{pulls_of as framePulls}
use Rattle.frame.specs.declared.Frame.{Frame}
use Rattle.header.specs.declared.Command.{Command}
use Rattle.inside.specs.Calls.{HostCall}
use Rattle.inside.proofs.Calls.{Called, unit_called}
use Rattle.line.specs.Line.{wired}
use Rattle.line.specs.declared.Lines.{Lines}
use Rattle.line.specs.declared.Listener.{Listener}
use Rattle.message.specs.Answer.{Answer, gives, refused, kept}
use Rattle.answer.specs.declared.Response.{Response}
use Rattle.phase.specs.declared.Phase.{Phase}
use Rattle.reply.specs.Reply.{last_nibble}
use Rattle.unit.specs.Unit.{pulls_of, pulls_hsk, pulls_nibble}
use Rattle.delivery.specs.Calls.{Call, host, submits, acknowledges, lends, lends_unit, called_at, called, buffer_at}
use Rattle.delivery.specs.Ends.{left, place, phase_left, units_left, stage_left}
use Rattle.delivery.proofs.Promised.{Moment}
use Rattle.delivery.specs.Lists.{All, none, also, One, this, that}
use Rattle.delivery.proofs.Stages.{Sound, Sits, Talk, talks, InFrame, begins, sends, hears, waits}
use Rattle.delivery.specs.World.{World, levels}
use Rattle.delivery.proofs.Promise.{last-is, promise_called}
use Rattle.delivery.proofs.Run.{not_idle, frame_busy, frame_runs}

-- What a unit pulls is not its host's.
pulls_called : {call : HostCall} {st after : Station} → Called call st after → pulls_of after.unit ≡ pulls_of st.unit
pulls_called k = λ i. record { bav = k.asking i; hsk = pulls_hsk (k.phase i); nibble = pulls_nibble (k.phase i) }

levels-called : (l : Lines) (i : ℕ) (call : HostCall) (ss : List Station) → levels_with l (called_at i call ss) ≡ levels_with l ss
levels-called l i call [] = refl
levels-called l zero call (st ∷ ss) = ap (λ (x : Lines). levels_with (wired l x) ss) (pulls_called (unit_called call st))
levels-called l (suc i) call (st ∷ ss) = levels-called (wired l (pulls_of st.unit)) i call ss

-- How long the unit that responds still takes is not either.
talk_same : {T : Moment} {c : Command} {d : List ℕ} {stores : Bool} {found : List ℕ} {ear : Listener} {taken : Response} {quiet : ℕ} {buffer : List ℕ} {call : HostCall} {st after : Station} (low : Bool) (rest rest' : ℕ)
    → Called call st after → Talk T c d stores found ear taken quiet buffer st
    → phase_left after.unit.phase after.unit.serial.input low rest ≡ phase_left st.unit.phase st.unit.serial.input low rest'
talk_same {T} {st = st} {after = after} low rest rest' k (talks r j t sender wait e p fits g b l w c q own) =
    let same : last_nibble after.unit.serial.input r ≡ last_nibble st.unit.serial.input r = last-is (promise_called T k p) ∙ sym (last-is p) in
    ap (λ (x : Phase). phase_left x after.unit.serial.input low rest) (k.phase ∙ e)
    ∙ ap (λ (x : ℕ). 4 * (x - j) + place sender low + cond wait 1 0) same
    ∙ sym (ap (λ (x : Phase). phase_left x st.unit.serial.input low rest') e)

sits_same : {call : HostCall} {st after : Station} (low : Bool) (rest : ℕ) → Called call st after → Sits st
    → phase_left after.unit.phase after.unit.serial.input low rest ≡ phase_left st.unit.phase st.unit.serial.input low rest
sits_same {st = st} {after = after} low rest k s = ap (λ (x : Phase). phase_left x after.unit.serial.input low rest) (k.phase ∙ s.0) ∙ sym (ap (λ (x : Phase). phase_left x st.unit.serial.input low rest) s.0)

sits_units : (low : Bool) (rest : ℕ) (i : ℕ) (call : HostCall) {ss : List Station} → All (λ (st : Station). Sits st × Sound st) ss → units_left (called_at i call ss) low rest ≡ units_left ss low rest
sits_units low rest i call none = refl
sits_units low rest zero call (also {x = st} {xs = ss} p a) = sits_same low (units_left ss low rest) (unit_called call st) p.0
sits_units low rest (suc i) call (also {x = st} p a) = ap (phase_left st.unit.phase st.unit.serial.input low) (sits_units low rest i call a)

one_units : {T : Moment} {c : Command} {d : List ℕ} {stores : Bool} {found : List ℕ} {ear : Listener} {taken : Response} {quiet : ℕ} {buffer : List ℕ} (low : Bool) (rest : ℕ) (i : ℕ) (call : HostCall) {ss : List Station}
    → One (λ (st : Station). Talk T c d stores found ear taken quiet buffer st × Sound st) (λ (st : Station). Sits st × Sound st) ss → units_left (called_at i call ss) low rest ≡ units_left ss low rest
one_units low rest zero call (this {x = st} {xs = ss} p a) = talk_same low (units_left ss low rest) (units_left ss low rest) (unit_called call st) p.0
one_units low rest (suc i) call (this {x = st} p a) = ap (phase_left st.unit.phase st.unit.serial.input low) (sits_units low rest i call a)
one_units low rest zero call (that {x = st} {xs = ss} q o) = sits_same low (units_left ss low rest) (unit_called call st) q.0
one_units low rest (suc i) call (that {x = st} q o) = ap (phase_left st.unit.phase st.unit.serial.input low) (one_units low rest i call o)

host_left : {T : Moment} {f : Frame} {found : List ℕ} {w : World} (i : ℕ) (call : HostCall) → InFrame T f found w → left (called w (host i call)) ≡ left w
host_left {T} {f} {found} {w} i call (begins {timeout = timeout} {units = units} framed d a) = ap (λ (l : Lines). stage_left w.controller.stage timeout units l.hsk) (levels-called (framePulls w.controller.stage) i call units)
host_left {T} {f} {found} {w} i call (sends j sender {timeout = timeout} {units = units} framed d s l a) =
    ap (λ (x : Lines). stage_left w.controller.stage timeout units x.hsk) (levels-called (framePulls w.controller.stage) i call units)
host_left {T} {f} {found} {w} i call (hears ear taken quiet {timeout = timeout} {units = units} framed d l o) =
    ap (λ (x : Lines). units_left (called_at i call units) x.hsk (timeout - quiet)) (levels-called (framePulls w.controller.stage) i call units) ∙ one_units (levels w).hsk (timeout - quiet) i call o
host_left {T} {f} {found} {w} i call (waits quiet {timeout = timeout} {units = units} framed d a why) =
    ap (λ (x : Lines). units_left (called_at i call units) x.hsk (timeout - quiet)) (levels-called (framePulls w.controller.stage) i call units) ∙ sits_units (levels w).hsk (timeout - quiet) i call a

acknowledged-left : (w : World) (code : ℕ) (a : Answer Done) → left (record { controller = kept a (without_mark w.controller code) w.controller; units = w.units; lent = w.lent; response = w.response }) ≡ left w
acknowledged-left w code (gives x) = refl
acknowledged-left w code (refused k) = refl

pub left-called : {T : Moment} {f : Frame} {found : List ℕ} {w : World} (call : Call) → InFrame T f found w → left (called w call) ≡ left w
left-called (host i call) x = host_left i call x
left-called {w = w} (submits k d buffer range bytes) x = ap left (not_idle w k d buffer range bytes (frame_busy x))
left-called {w = w} (acknowledges code h) x = acknowledged-left w code (acknowledging w.controller code)
left-called (lends d response) x = refl
left-called {w = w} (lends_unit i buffer) x =
    ap (λ (t : Bool). left (record { controller = w.controller; units = cond t w.units (buffer_at i buffer w.units); lent = w.lent; response = w.response })) (frame_runs x)

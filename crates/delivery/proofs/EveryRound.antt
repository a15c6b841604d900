-- Demand 2, from the rounds and calls of the stages.
use Prim.Native.Nat.{ℕ, zero, suc, ◌+◌, ◌<◌}
use native.Mathlib.Omega.{arith}
use mathlib.Core.Path.{◌≡◌, refl, sym, ◌∙◌, ap, subst}
use mathlib.Core.Bool.{Bool, true, false, cond, true≢false, false≢true}
use mathlib.Core.List.{List}
use lib.Dec.{ltb, lit<}
use lib.ListN.{length}
use Rattle.delivery.specs.Calls.{Call, host as at_unit, submits, acknowledges, lends, lends_unit, called_at, called, in_frame}
use Rattle.inside.specs.Calls.{HostCall}
use Rattle.inside.specs.Inside.{Inside, inside_of}
use Rattle.inside.specs.Lawful.{Fit}
use Rattle.inside.proofs.Calls.{unit_called}
use Rattle.inside.proofs.Lawful.{every_lawful}
use Rattle.kind.specs.Kinds.{kind_of, is_short}
use Rattle.whole.specs.Whole.{bytes_for}
use Rattle.reply.specs.Reply.{is_silent, last_nibble as last_of}
use Rattle.line.specs.Line.{is_ready, hear_of, sent_of}
use Rattle.phase.specs.declared.Moved.{Moved as Step}
use Rattle.delivery.proofs.Moves.{Becomes, in_front, behind}
use Rattle.delivery.proofs.Part.{Stepped, low_step_lem}
use Rattle.delivery.proofs.Changes.{fresh-changes, sits-changes, talk-changes, part-changes}
use Rattle.delivery.proofs.Rounds.{Changed, Changes, Took, takes_it, took_it, Runs, Responses, TakenOnce}
use Rattle.answer.specs.declared.Response.{Response}
use Rattle.bus.specs.Bus.{station_step, is_odd, levels_with}
use Rattle.bus.specs.declared.Station.{Station}
use Rattle.controller.specs.Controller.{new_controller, event_in}
use Rattle.frame.specs.Frame.{data_of, lent_at, lent_to, pulls_of}
use Rattle.frame.specs.declared.Frame.{Frame}
use Rattle.frame.specs.declared.Stage.{Stage}
use Rattle.header.specs.declared.Command.{Command}
use Rattle.line.specs.declared.Listener.{Listener}
use Rattle.line.specs.declared.Sender.{Sender}
use Rattle.line.specs.declared.Lines.{Lines}
use Rattle.message.specs.Answer.{gives}
use Rattle.phase.specs.Phase.{phase_step, moves}
use Rattle.phase.specs.declared.Phase.{Phase}
use Rattle.phase.specs.declared.Phase.TheVariants.{Idle, Selecting, Receiving, Responding, SittingOut}
use Rattle.phase.specs.declared.Progress.TheVariants.{Taking, Answered}
use Rattle.serial.specs.declared.Reply.{Reply}
use Rattle.serial.specs.Serial.{finished}
use Rattle.serial.specs.declared.Serial.{Serial}
use Rattle.unit.specs.declared.Unit.{Unit}
use Rattle.delivery.specs.Lists.{All, none, also}
use Rattle.delivery.proofs.Promised.{Moment, Promised}
use Rattle.delivery.proofs.Stages.{is_answered, Noted, Hushed, not_its_own, by_the_rule, Sound, addressed, Talk, talks, Part, listens, answers, sits, InFrame, begins, sends, hears, waits, Fresh, idles, On, AtRest, is_free, is_resting, rests, submitted, ended, runs}
use Rattle.delivery.specs.World.{World, Busy, levels, round, outcome, Different, another}
use Rattle.delivery.specs.Run.{New, QuietStart, Run, start, a_round, a_call, Steps}
use borrow.Author.Tests.{le-ltb}
use Rattle.std.specs.Prelude.{Ok}
use Rattle.line.specs.declared.Listener.TheVariants.{Ready}
use Rattle.line.specs.declared.Sender.TheVariants.{Next}
use Rattle.unit.specs.Calls.{stepping}
use Rattle.unit.specs.Unit.{unit_step, pulls_nibble}
use Rattle.delivery.proofs.Lines.{nibble-kept, hsk_own, bav_kept}
use Rattle.delivery.proofs.Stage.{sending, sent-nibble, shows, nibble_below}
use Rattle.delivery.proofs.Listening.{heard-nibble, still-nibble, hearing}
use Rattle.delivery.proofs.Rest.{released, rest-nibble, on_round}
use Rattle.delivery.proofs.Frame.{frame_round, becomes_all, own_kept, begin_nibble, begin_high}
use Rattle.delivery.proofs.Lists.{all_map, one_all, all_zip, all_step, all_becomes, one_map}
use Rattle.delivery.proofs.Run.{on_called, frame_runs, rest_free}
use Rattle.delivery.proofs.Calls.{all_lends}

-- A quiet start is a rest.
new_fresh : (st : Station) → New st → Fresh st × Sound st
new_fresh st n =
    let own : st.unit.own ≡ n.own = ap (λ (u : Unit). u.own) n.is_new in
    let fit : Fit (kind_of n.own) (inside_of st) = (every_lawful (kind_of n.own)).fit_new (inside_of st) (ap (λ (u : Unit). u.serial) n.is_new) n.lent in (
      idles (ap (λ (u : Unit). u.phase) n.is_new),
      record { room = ap (λ (k : ℕ). is_short (kind_of k) (length st.buffer) (length st.output)) own ∙ n.room; fit = subst (λ (k : ℕ). Fit (kind_of k) (inside_of st)) (sym own) fit },
    )

starts : (T : Moment) (w : World) → QuietStart w → On T w
starts T w q =
    let eq : w ≡ record { controller = new_controller q.timeout; units = w.units; lent = w.lent; response = w.response } = λ k. record { controller = q.is_new k; units = w.units; lent = w.lent; response = w.response } in
    subst (On T) (sym eq) (rests is_free q.least none q.codes (all_map new_fresh q.units))

-- What was known of the moments is known still.
abbrev Wider : Moment → Moment → Type 0
Wider T U = (own : ℕ) (x : Inside) → T own x → U own x

abbrev wider_promise : {T U : Moment} {own : ℕ} {c : Command} {d : List ℕ} {r : Reply} {x : Inside} → Wider T U → Promised T own c d r x → Promised U own c d r x
wider_promise {own = own} g p = record { given = p.given; took = g own p.given p.took; fit = p.fit; said = p.said; calls = p.calls; now = p.now }

pub wider_frame : {T U : Moment} {f : Frame} {found : List ℕ} {w : World} → Wider T U → InFrame T f found w → InFrame U f found w
wider_frame g (begins framed d a) = begins framed d a
wider_frame {T} {U} g (sends i sender framed d s l a) = sends i sender framed d s l (all_map (λ st p. (part st p.0, p.1)) a)
  where
    part : {c : Command} {e : List ℕ} {k : ℕ} {x : Sender} (st : Station) → Part (Promised T st.unit.own c e) c e k x st → Part (Promised U st.unit.own c e) c e k x st
    part st (listens ear t f h a q) = listens ear t f h a q
    part st (answers ear r f l a e p q) = answers ear r f l a e (wider_promise g p) q
    part st (sits now a e k q) = sits now a e k q
wider_frame {T} {U} g (hears ear taken quiet framed d l o) = hears ear taken quiet framed d l (one_map (λ st p. (talk st p.0, p.1)) o)
  where
    talk : {c : Command} {e : List ℕ} {stores : Bool} {found : List ℕ} {ear : Listener} {taken : Response} {quiet : ℕ} {buffer : List ℕ} (st : Station)
        → Talk T c e stores found ear taken quiet buffer st → Talk U c e stores found ear taken quiet buffer st
    talk st (talks r j t sender wait e p fits h b l w z q own) = talks r j t sender wait e (wider_promise g p) fits h b l w z q own
wider_frame {T} {U} g (waits quiet framed d a why) = waits quiet framed d a (all_map hush why)
  where
    hush : {c : Command} {e : List ℕ} (st : Station) → Hushed T c e st → Hushed U c e st
    hush st (not_its_own e) = not_its_own e
    hush st (by_the_rule given t e) = by_the_rule given (g st.unit.own given t) e

wider_on : {T U : Moment} {w : World} → (in_frame w.controller.stage ≡ true → Wider T U) → On T w → On U w
wider_on g (rests r eight codes d a) = rests r eight codes d a
wider_on g (submitted f framed codes d a) = submitted f framed codes d a
wider_on g (ended eight codes d a) = ended eight codes d a
wider_on g (runs f found x codes) = runs f found (wider_frame (g (frame_runs x)) x) codes

-- What a run has noted.
pub notes : {w v : World} (r : Run w v) (busy : Busy) → Noted (Took (a_round r busy)) v busy
notes r busy st after becomes e now = takes_it st after becomes e now refl refl

pub every_run : Runs
every_run w v q start = starts _ w q
every_run w _ q (a_round {v = v} r busy) = on_round (Took (a_round r busy)) busy (notes r busy) (wider_on (λ e own x t. took_it e t) (every_run w v q r))
every_run w _ q (a_call {v = v} r call) = on_called (every_run w v q r) call

pub every_response : Responses
every_response w v r f found x busy = frame_round (Took (a_round r busy)) f found busy (notes r busy) (wider_frame (λ own y t. took_it (frame_runs x) t) x)

-- No step is refused: the nibble that is seen is one, what is lent fits, and each unit has room for a command.
pub in_frame_nibble : {T : Moment} {f : Frame} {found : List ℕ} {w : World} → InFrame T f found w → (levels w).nibble < 16
in_frame_nibble (begins framed d a) = begin_nibble a
in_frame_nibble {T} {f} (sends i sender {units = units} {lent = lent} framed d s l a) = sent-nibble T f.command (data_of f lent) framed.sent i sender units 0 s a
in_frame_nibble {T} {f} {found} (hears ear taken quiet {timeout = timeout} {units = units} {lent = lent} {response = response} framed d l o) =
    heard-nibble T f (data_of f lent) found timeout framed.eight framed.room false 0 ear taken quiet response units o
in_frame_nibble (waits quiet {units = units} framed d a why) = subst (λ (x : ℕ). x < 16) (sym (still-nibble Ready 0 units a)) (lit< tt)

in_frame_lent : {T : Moment} {f : Frame} {found : List ℕ} {w : World} → InFrame T f found w → lent_at w.controller.stage (length w.lent) (length w.response) ≡ Ok tt
in_frame_lent (begins framed d a) = framed.fits
in_frame_lent (sends i sender framed d s l a) = framed.fits
in_frame_lent {T} {f} (hears ear taken quiet {lent = lent} framed d l o) = ap (lent_to f (length lent)) l ∙ framed.fits
in_frame_lent (waits quiet framed d a why) = framed.fits

pub in_frame_sound : {T : Moment} {f : Frame} {found : List ℕ} {w : World} → InFrame T f found w → All Sound w.units
in_frame_sound (begins framed d a) = all_map (λ st p. p.1) a
in_frame_sound (sends i sender framed d s l a) = all_map (λ st p. p.1) a
in_frame_sound (hears ear taken quiet framed d l o) = one_all (λ st p. p.1) (λ st p. p.1) o
in_frame_sound (waits quiet framed d a why) = all_map (λ st p. p.1) a

pub rest_pulls : {stage : Stage} → AtRest stage → pulls_of stage ≡ released
rest_pulls is_free = refl
rest_pulls is_resting = refl

rest_lent : {stage : Stage} (n room : ℕ) → AtRest stage → lent_at stage n room ≡ Ok tt
rest_lent n room is_free = refl
rest_lent n room is_resting = refl

pub on_nibble : {T : Moment} {v : World} → On T v → (levels v).nibble < 16
on_nibble (rests {units = units} r eight codes d a) = subst (λ (l : Lines). (levels_with l units).nibble < 16) (sym (rest_pulls r)) (rest-nibble units a)
on_nibble (submitted f {units = units} framed codes d a) = rest-nibble units a
on_nibble (ended eight codes d a) = subst (λ (x : ℕ). x < 16) (sym (nibble-kept released (lit< tt) (all_map (λ st p. ap pulls_nibble p.0.0) a))) (lit< tt)
on_nibble (runs f found x codes) = in_frame_nibble x

on_lent : {T : Moment} {v : World} → On T v → lent_at v.controller.stage (length v.lent) (length v.response) ≡ Ok tt
on_lent (rests {lent = lent} {response = response} r eight codes d a) = rest_lent (length lent) (length response) r
on_lent (submitted f framed codes d a) = framed.fits
on_lent (ended eight codes d a) = refl
on_lent (runs f found x codes) = in_frame_lent x

pub on_sound : {T : Moment} {v : World} → On T v → All Sound v.units
on_sound (rests r eight codes d a) = all_map (λ st p. p.1) a
on_sound (submitted f framed codes d a) = all_map (λ st p. p.1) a
on_sound (ended eight codes d a) = all_map (λ st p. p.1) a
on_sound (runs f found x codes) = in_frame_sound x

level_fine : {T : Moment} {v : World} → On T v → ltb 15 (levels v).nibble ≡ false
level_fine {v = v} o = let n = on_nibble o in le-ltb 15 (levels v).nibble (omega arith)

pub every_outcome : (w v : World) → QuietStart w → (r : Run w v) (busy : Busy) → outcome v busy ≡ gives (event_in v.controller (levels v) busy.here v.lent)
every_outcome w v q r busy = rw (level_fine (every_run w v q r), on_lent (every_run w v q r))

pub every_step : Steps
every_step w v q r busy = ((event_in v.controller (levels v) busy.here v.lent, every_outcome w v q r busy), all_map unit-step (on_sound (every_run w v q r)))
  where
    unit-step : (st : Station) → Sound st → (host : Bool) → (u : Unit) × (stepping st.unit (levels v) host st.buffer st.input st.output ≡ gives u)
    unit-step st s host =
        let e : stepping st.unit (levels v) host st.buffer st.input st.output ≡ gives (unit_step st.unit (levels v) host st.buffer st.input) = rw (level_fine (every_run w v q r), s.room) in
        (unit_step st.unit (levels v) host st.buffer st.input, e)

-- What a round of a frame makes of its units.
talk_addressed : {T : Moment} {c : Command} {d : List ℕ} {stores : Bool} {found : List ℕ} {ear : Listener} {taken : Response} {quiet : ℕ} {buffer : List ℕ} (st : Station)
    → Talk T c d stores found ear taken quiet buffer st → addressed c st.unit.own ≡ true
talk_addressed st (talks r j t sender wait e p fits g b l w c q own) = own

pub in_frame_low : {T : Moment} {f : Frame} {found : List ℕ} {w : World} → InFrame T f found w → (levels w).bav ≡ true
in_frame_low (begins {units = units} framed d a) = bav_kept (sending Next) units refl
in_frame_low (sends i sender {units = units} framed d s l a) = bav_kept (sending sender) units refl
in_frame_low (hears ear taken quiet {units = units} framed d l o) = bav_kept (hearing ear) units refl
in_frame_low (waits quiet {units = units} framed d a why) = bav_kept (hearing Ready) units refl

pub in_frame_step : {T : Moment} {f : Frame} {found : List ℕ} {w : World} → InFrame T f found w → (st : Station) (host : Bool) → Sound st → Stepped st (levels w) host (station_step st (levels w) host)
in_frame_step {w = w} x st host s = low_step_lem st (levels w) host (in_frame_nibble x) s.room (in_frame_low x)

pub changes_by : (T : Moment) (f : Frame) (found : List ℕ) (w : World) (host : Bool) → InFrame T f found w → ((st : Station) → Sound st → Stepped st (levels w) host (station_step st (levels w) host))
    → All (λ (st : Station). Changed f.command (data_of f w.lent) st (station_step st (levels w) host)) w.units
changes_by T f found w host (begins {lent = lent} framed d a) step = all_map (λ st p. fresh-changes f.command (data_of f lent) (step st p.1) (begin_high a) p.0) a
changes_by T f found w host (sends i sender {units = units} {lent = lent} framed d s l a) step =
    all_map (λ st p.
    part-changes (Promised T st.unit.own f.command (data_of f lent)) f.command (data_of f lent) framed.sent i sender st (station_step st (levels w) host) (levels w) host (step st p.0.1)
    (shows sender units (nibble_below (bytes_for f.command (data_of f lent)) i) s a) p.1 l p.0.0) (all_zip a (hsk_own (sending sender) units))
changes_by T f found w host (hears ear taken quiet {lent = lent} framed d l o) step =
    one_all (λ st p. talk-changes f.command (data_of f lent) (step st p.1) (talk_addressed st p.0) p.0) (λ st p. sits-changes f.command (data_of f lent) (step st p.1) p.0.0) o
changes_by T f found w host (waits quiet {lent = lent} framed d a why) step = all_map (λ st p. sits-changes f.command (data_of f lent) (step st p.1) p.0.0) a

pub changes : Changes
changes T f found w x host = changes_by T f found w host x (λ st s. in_frame_step x st host s)

-- A unit that has taken the last nibble takes no other in that frame.
data Past : Phase → Type 0 where
  has_answered : {ear : Listener} {r : Reply} → Past (Receiving ear (Answered r))
  responds : {r : Reply} {j : ℕ} {sender : Sender} {wait : Bool} → Past (Responding r j sender wait)
  sits_out : {now : Bool} → Past (SittingOut now)

past_cond : (t : Bool) (a b : Phase) → Past a → Past b → Past (cond t a b)
past_cond true a b p q = p
past_cond false a b p q = q

past_moved : (t : Bool) (a b : Step) → Past a.phase → Past b.phase → Past (cond t a b).phase
past_moved true a b p q = p
past_moved false a b p q = q

past_step : {x : Phase} (own : ℕ) (s : Serial) (seen : Lines) (busy : Bool) (buffer input : List ℕ) → Past x → Past (phase_step x own s seen busy buffer input).phase
past_step own s seen busy buffer input (has_answered {ear = ear} {r = r}) = past_cond (is_ready (hear_of ear seen.hsk busy)) _ _ (past_cond (is_silent r) _ _ sits_out responds) has_answered
past_step own s seen busy buffer input (responds {r = r} {j = j} {sender = sender} {wait = wait}) =
    past_moved wait _ _ responds (past_moved (sent_of sender seen.hsk) _ _ (past_moved (ltb j (last_of s.input r)) _ _ responds sits_out) responds)
past_step own s seen busy buffer input sits_out = sits_out

past_answered : {x : Phase} (own : ℕ) (s : Serial) (seen : Lines) (busy : Bool) (buffer input : List ℕ) → Past x → is_answered x ≡ false → is_answered (phase_step x own s seen busy buffer input).phase ≡ false
past_answered own s seen busy buffer input has_answered e = absurd (true≢false e)
past_answered own s seen busy buffer input (responds {r = r} {j = j} {sender = sender} {wait = wait}) e = by wait (sent_of sender seen.hsk) (ltb j (last_of s.input r)) j (j + 1) j _
  where
    by : (a b c : Bool) (x y z : ℕ) (k : Sender)
        → is_answered (cond a (moves (Responding r x sender false) s) (cond b (cond c (moves (Responding r y Next false) s) (moves (SittingOut false) (finished s r))) (moves (Responding r z k false) s))).phase ≡ false
    by true b c x y z k = refl
    by false true true x y z k = refl
    by false true false x y z k = refl
    by false false c x y z k = refl
past_answered own s seen busy buffer input sits_out e = refl

answered_past : (x : Phase) → is_answered x ≡ true → Past x
answered_past Idle e = absurd (false≢true e)
answered_past (Selecting ear half low) e = absurd (false≢true e)
answered_past (Receiving ear (Taking p)) e = absurd (false≢true e)
answered_past (Receiving ear (Answered r)) e = has_answered
answered_past (Responding r j sender wait) e = responds
answered_past (SittingOut last) e = sits_out

-- Units that a round moves, by their codes.
pub becomes_step : {seen : Lines} {hosts : ℕ} {ss : List Station} {st after : Station} → Becomes seen hosts ss st after → (busy : Bool) × (after ≡ station_step st seen busy)
becomes_step {hosts = hosts} in_front = (is_odd hosts, refl)
becomes_step (behind b) = becomes_step b

same_unit : {seen : Lines} {hosts : ℕ} {ss : List Station} {st after st' after' : Station} → Different ss → Becomes seen hosts ss st after → Becomes seen hosts ss st' after' → st.unit.own ≡ st'.unit.own → (st ≡ st') × (after ≡ after')
same_unit d in_front in_front e = (refl, refl)
same_unit (another a d) in_front (behind b) e = absurd (becomes_all a b (sym e))
same_unit (another a d) (behind b) in_front e = absurd (becomes_all a b e)
same_unit (another a d) (behind b) (behind b') e = same_unit d b b' e

pub in_frame_different : {T : Moment} {f : Frame} {found : List ℕ} {w : World} → InFrame T f found w → Different w.units
in_frame_different (begins framed d a) = d
in_frame_different (sends i sender framed d s l a) = d
in_frame_different (hears ear taken quiet framed d l o) = d
in_frame_different (waits quiet framed d a why) = d

pub on_different : {T : Moment} {v : World} → On T v → Different v.units
on_different (rests r eight codes d a) = d
on_different (submitted f framed codes d a) = d
on_different (ended eight codes d a) = d
on_different (runs f found x codes) = in_frame_different x

on_step : {T : Moment} {v : World} → On T v → in_frame v.controller.stage ≡ true → (st : Station) (host : Bool) → Sound st → Stepped st (levels v) host (station_step st (levels v) host)
on_step (rests r eight codes d a) e = absurd (false≢true (sym (rest_free r) ∙ e))
on_step (submitted f framed codes d a) e = absurd (false≢true e)
on_step (ended eight codes d a) e = absurd (false≢true e)
on_step (runs f found x codes) e = in_frame_step x

abbrev PastAt : ℕ → Station → Type 0
PastAt own st = st.unit.own ≡ own → Past st.unit.phase

past_round : {T : Moment} {v : World} (own : ℕ) (busy : Busy) → On T v → in_frame v.controller.stage ≡ true → All (PastAt own) v.units → All (PastAt own) (round v busy).units
past_round {T} {v} own busy o e a =
    all_step (levels v) (λ st host p g.
    let step = on_step o e st host p.1 in
    subst Past (sym step.phase) (past_step st.unit.own st.unit.serial (levels v) host st.buffer st.input (p.0 (sym step.own ∙ g)))) busy.there (all_zip a (on_sound o))

past_called : (own i : ℕ) (call : HostCall) {ss : List Station} → All (PastAt own) ss → All (PastAt own) (called_at i call ss)
past_called own i call none = none
past_called own zero call (also {x = st} p a) = let k = unit_called call st in also (λ e. subst Past (sym k.phase) (p (sym k.own ∙ e))) a
past_called own (suc i) call (also p a) = also p (past_called own i call a)

past_call : (v : World) (own : ℕ) (call : Call) → All (PastAt own) v.units → All (PastAt own) (called v call).units
past_call v own (at_unit i call) a = past_called own i call a
past_call v own (submits k d response r b) a = a
past_call v own (acknowledges code h) a = a
past_call v own (lends d response) a = a
past_call v own (lends_unit i buffer) a = all_lends (in_frame v.controller.stage) i buffer (λ st p. p) a

took_past : (w v : World) → QuietStart w → (r : Run w v) (own : ℕ) (x : Inside) → Took r own x → All (PastAt own) v.units
took_past w v q start own x t = absurd t
took_past w _ q (a_round {v = v} r busy) own x (takes_it st after b e now o y) =
    all_becomes (levels v) busy.there (λ st' host b' d g.
    let mine = same_unit (on_different (every_run w v q r)) b b' (o ∙ sym g ∙ own_kept st' (levels v) host) in
    subst (λ (z : Station). Past z.unit.phase) mine.1 (answered_past after.unit.phase now)) (on_sound (every_run w v q r))
took_past w _ q (a_round {v = v} r busy) own x (took_it e t) = past_round own busy (every_run w v q r) e (took_past w v q r own x t)
took_past w _ q (a_call {v = v} r call) own x t = past_call v own call (took_past w v q r own x t)

not_again : (w v : World) → QuietStart w → (r : Run w v) (busy : Busy) (own : ℕ) (x : Inside) → in_frame v.controller.stage ≡ true → Took r own x
    → (st after : Station) → Becomes (levels v) busy.there v.units st after → is_answered st.unit.phase ≡ false → is_answered after.unit.phase ≡ true → st.unit.own ≡ own → ⊥
not_again w v q r busy own x i t st after b e now o =
    let p = becomes_all (took_past w v q r own x t) b o in
    let k = becomes_step b in
    let step = on_step (every_run w v q r) i st k.0 (becomes_all (on_sound (every_run w v q r)) b) in
    true≢false (sym now ∙ ap (λ (x : Station). is_answered x.unit.phase) k.1 ∙ ap is_answered step.phase ∙ past_answered st.unit.own st.unit.serial (levels v) k.0 st.buffer st.input p e)

pub taken_once : TakenOnce
taken_once w v q start own x y u u' = absurd u
taken_once w _ q (a_round {v = v} r busy) own x y (takes_it st after b e now o i) (takes_it st' after' b' e' now' o' i') =
    sym i ∙ ap inside_of (same_unit (on_different (every_run w v q r)) b b' (o ∙ sym o')).0 ∙ i'
taken_once w _ q (a_round {v = v} r busy) own x y (takes_it st after b e now o i) (took_it f u) = absurd (not_again w v q r busy own y f u st after b e now o)
taken_once w _ q (a_round {v = v} r busy) own x y (took_it f u) (takes_it st after b e now o i) = absurd (not_again w v q r busy own x f u st after b e now o)
taken_once w _ q (a_round {v = v} r busy) own x y (took_it f u) (took_it f' u') = taken_once w v q r own x y u u'
taken_once w _ q (a_call {v = v} r call) own x y u u' = taken_once w v q r own x y u u'

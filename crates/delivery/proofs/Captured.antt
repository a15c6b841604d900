-- The frames of every run's log: those that have ended are complete, and the one that runs goes on.
use Prim.Native.Nat.{ℕ}
use mathlib.Core.Path.{◌≡◌, refl, sym, ◌∙◌, ap, subst}
use mathlib.Core.Bool.{Bool, true, false, cond, true≢false, false≢true}
use mathlib.Core.List.{List, [], ◌∷◌, ◌++◌}
use Rattle.bus.specs.declared.Station.{Station}
use Rattle.controller.specs.Controller.{event_in}
use Rattle.controller.specs.declared.Controller.{Controller}
use Rattle.frame.specs.Frame.{begun, data_of, is_submitted}
use Rattle.frame.specs.declared.Frame.{Frame}
use Rattle.frame.specs.declared.Stage.{Stage}
use Rattle.frame.specs.declared.Stage.TheVariants.{Free, Resting, Waiting, Sending, Listening}
use Rattle.header.specs.declared.Command.{Command}
use Rattle.inside.specs.Inside.{Inside, inside_of}
use Rattle.line.specs.Line.{sent_of, taken_of, sender_nibble}
use Rattle.line.specs.declared.Lines.{Lines}
use Rattle.line.specs.declared.Sender.TheVariants.{Next}
use Rattle.phase.specs.declared.Phase.{Phase}
use Rattle.application.specs.Calls.{Done, submitting, acknowledging, without_mark, with_command}
use Rattle.message.specs.Answer.{Answer, gives, refused, kept}
use Rattle.turn.specs.declared.Event.{Event}
use lib.ListN.{length}
use Rattle.delivery.specs.Calls.{Call, host, submits, acknowledges, lends, lends_unit, called, in_frame}
use Rattle.delivery.specs.Demand2.{Ended}
use Rattle.delivery.specs.Run.{QuietStart, Run, start, a_round, a_call, codes_of}
use Rattle.delivery.proofs.Rounds.{Took, takes_it, took_it}
use Rattle.delivery.specs.Lists.{All, none, also, Has}
use Rattle.delivery.specs.Log.{Act, sent, heard, told, acts, settled, Mark, stage_marks, begun_by, ended_by, round_marks, call_marks, log, Capture, cut_all, frames_of, deeds_in}
use Rattle.delivery.proofs.Promised.{Moment}
use Rattle.delivery.proofs.Stages.{Fresh, idles, selects, InFrame, begins, sends, hears, waits, On, rests, submitted, ended, runs, is_free, is_resting, is_answered}
use Rattle.delivery.specs.World.{World, Busy, levels, round}
use Rattle.delivery.proofs.Between.{is_begun, nothing_between, begins-by, buffer-rests, rest-marks, begun-marks}
use Rattle.delivery.proofs.Called.{Idle, call_idle, complete-idle, alike_called, codes_alike, story-called}
use Rattle.delivery.proofs.Completed.{codes-after}
use Rattle.delivery.proofs.EveryRound.{every_run, every_response, in_frame_different, in_frame_low, in_frame_sound, in_frame_step, becomes_step}
use Rattle.delivery.proofs.Frame.{becomes_all}
use Rattle.delivery.proofs.Lists.{all_map, has_left, has_right}
use Rattle.delivery.proofs.Listened.{becomes_after}
use Rattle.delivery.proofs.Logged.{Story, Onward, runs_on, is_complete, round_by, answered_deeds}
use Rattle.delivery.proofs.Logs.{Plain, Same, plain_same, all_append, units_plain, cut-append, cut_same, cut_nothing, deeds_append}
use Rattle.delivery.proofs.Deeds.{Did}
use Rattle.delivery.proofs.Part.{Stepped}
use Rattle.delivery.proofs.Run.{frame_runs}
use Rattle.delivery.proofs.Story.{later_of, deeds-now, sending_so, DidAt}

pub data Frames (T : Moment) (v : World) : List Capture → Type 0 where
  at_rest : {ls : List Capture} → in_frame v.controller.stage ≡ false → All (Ended (codes_of v.units)) ls → Frames T v ls
  in_one : {l : Capture} {ls : List Capture} → Story T l v → All (Ended (codes_of v.units)) ls → Frames T v (l ∷ ls)

-- A round of a frame begins no other, and submits nothing.
if_plain : (t : Bool) (a : Act) → All Plain (cond t (acts a ∷ []) [])
if_plain true a = also tt none
if_plain false a = none

ended_plain : (u : Stage) (a : Act) → All Plain (ended_by u a)
ended_plain Free a = none
ended_plain (Resting first) a = also tt none
ended_plain (Waiting f) a = none
ended_plain (Sending f i sender wait) a = none
ended_plain (Listening f ear taken quiet) a = none

pub frame_plain : (stage u : Stage) (seen : Lines) (event : Event) (lent response after : List ℕ) → in_frame stage ≡ true → All Plain (stage_marks stage u seen event lent response after)
frame_plain Free u seen event lent response after e = absurd (false≢true e)
frame_plain (Resting first) u seen event lent response after e = absurd (false≢true e)
frame_plain (Waiting f) u seen event lent response after e = absurd (false≢true e)
frame_plain (Sending f i sender wait) u seen event lent response after e = if_plain (sent_of sender seen.hsk) (sent (sender_nibble sender))
frame_plain (Listening f ear taken quiet) u seen event lent response after e = all_append (if_plain (taken_of ear seen.hsk) (heard seen.nibble)) (ended_plain u (told event (cond (is_submitted f.kind) after [])))

pub round_same : (v : World) (busy : Busy) → in_frame v.controller.stage ≡ true → All Same (round_marks v busy)
round_same v busy e =
    all_map plain_same (all_append (units_plain (levels v) busy.there v.units)
    (frame_plain v.controller.stage (round v busy).controller.stage (levels v) (event_in v.controller (levels v) busy.here v.lent) v.lent v.response (round v busy).response e))

-- The moments that a run has noted are in its log.
moments-round : {w v : World} (r : Run w v) (busy : Busy) (l : Capture) (s : Story (Took r) l v) (own : ℕ) (y : Inside) → Took (a_round r busy) own y → Has (settled y) (deeds_in own (later_of l v busy).marks)
moments-round {w} {v} r busy l s own y (takes_it st after b e now o i) =
    let k = becomes_step b in
    let different = in_frame_different s.frame in
    let low = in_frame_low s.frame in
    let sound = becomes_all (in_frame_sound s.frame) b in
    let step = in_frame_step s.frame st k.0 sound in
    let here-now : Has (settled (inside_of st)) (deeds_in st.unit.own (later_of l v busy).marks) =
    subst (Has (settled (inside_of st))) (sym (deeds-now l v busy different low b)) (has_right (deeds_in st.unit.own l.marks) (answered_deeds (subst (Stepped st (levels v) k.0) (sym k.1) step) e now)) in
    subst (λ (x : Inside). Has (settled x) (deeds_in own (later_of l v busy).marks)) i (subst (λ (n : ℕ). Has (settled (inside_of st)) (deeds_in n (later_of l v busy).marks)) o here-now)
moments-round {w} {v} r busy l s own y (took_it e t) = subst (Has (settled y)) (sym (deeds_append own l.marks (round_marks v busy))) (has_left (deeds_in own (round_marks v busy)) (s.moments own y t))

-- A frame that begins.
pub record Begun (T : Moment) (u : World) : Type 0 where
  pub frame : Frame
  pub stage : u.controller.stage ≡ begun frame
  pub has_frame : InFrame T frame u.response u
  pub fresh : All Fresh u.units

begun_view : {T : Moment} {u : World} → On T u → is_begun u.controller.stage ≡ true → Begun T u
begun_view (rests is_free eight codes d a) e = absurd (false≢true e)
begun_view (rests is_resting eight codes d a) e = absurd (false≢true e)
begun_view (submitted f framed codes d a) e = absurd (false≢true e)
begun_view (ended eight codes d a) e = absurd (false≢true e)
begun_view {T} (runs f found x codes) e = by x e
  where
    by : {u : World} → InFrame T f found u → is_begun u.controller.stage ≡ true → Begun T u
    by (begins framed d a) e = record { frame = f; stage = refl; has_frame = begins framed d a; fresh = all_map (λ st p. p.0) a }
    by (sends i sender framed d s l a) e = absurd (false≢true e)
    by (hears ear taken quiet framed d l o) e = absurd (false≢true e)
    by (waits quiet framed d a why) e = absurd (false≢true e)

fresh_did : (l : Capture) (d : List ℕ) (st : Station) → l.marks ≡ [] → Fresh st → DidAt l d st
fresh_did l d st m (idles e) = subst (λ (p : Phase). Did l.frame.command d st.unit.own p (deeds_in st.unit.own l.marks)) (sym e) (ap (deeds_in st.unit.own) m)
fresh_did l d st m (selects e) = subst (λ (p : Phase). Did l.frame.command d st.unit.own p (deeds_in st.unit.own l.marks)) (sym e) (ap (deeds_in st.unit.own) m)

fresh_open : {st : Station} → Fresh st → is_answered st.unit.phase ≡ false
fresh_open (idles e) = ap is_answered e
fresh_open (selects e) = ap is_answered e

module _ {w v : World} (q : QuietStart w) (r : Run w v) (busy : Busy) where
  abbrev u : World
  u = round v busy

  abbrev c : Controller
  c = v.controller

  -- From a rest.
  rest-round : (t : Bool) (ls : List Capture) → in_frame u.controller.stage ≡ t → in_frame c.stage ≡ false → All (Ended (codes_of v.units)) ls → Frames (Took (a_round r busy)) u (cut_all ls (round_marks v busy))
  rest-round false ls t e a =
      let marks : round_marks v busy ≡ [] =
      λ i. nothing_between (every_run w v q r) e busy.there i ++ rest-marks c.timeout c.ring (levels v) busy.here v.lent v.response
      (event_in c (levels v) busy.here v.lent) u.response c.stage u.controller.stage e t i in
      subst (λ (ms : List Mark). Frames (Took (a_round r busy)) u (cut_all ls ms)) (sym marks) (at_rest t (subst (λ (codes : List ℕ). All (Ended codes) ls) (sym (codes-after (levels v) busy.there v.units)) a))
  rest-round true ls t e a =
      let b = begun_view (every_run w u q (a_round r busy)) (begins-by c.timeout c.ring (levels v) busy.here v.lent v.response c.stage e t) in
      let l : Capture = record { frame = b.frame; lent = data_of b.frame v.lent; found = v.response; marks = [] } in
      let marks : round_marks v busy ≡ begun_by u.controller.stage v.lent v.response =
      λ i. nothing_between (every_run w v q r) e busy.there i ++ begun-marks c.timeout c.ring (levels v) busy.here v.lent v.response (event_in c (levels v) busy.here v.lent) u.response c.stage e t i in
      let first : round_marks v busy ≡ begun_by (begun b.frame) v.lent v.response = marks ∙ ap (λ (s : Stage). begun_by s v.lent v.response) b.stage in
      subst (λ (ms : List Mark). Frames (Took (a_round r busy)) u (cut_all ls ms)) (sym first)
      (in_one {l = l} (record {
        found = u.response;
        frame = b.has_frame;
        kept = λ _. buffer-rests c.timeout c.ring (levels v) busy.here v.lent v.response c.stage e;
        lent = refl;
        did = all_map (λ st f. fresh_did l (data_of b.frame v.lent) st refl f) b.fresh;
        acted = sending_so 0 Next true b.stage refl;
        moments = λ own y k. absurd (none-noted b.fresh own y k);
      }) (subst (λ (codes : List ℕ). All (Ended codes) ls) (sym (codes-after (levels v) busy.there v.units)) a))
    where
      none-noted : All Fresh u.units → (own : ℕ) (y : Inside) → Took (a_round r busy) own y → ⊥
      none-noted fresh own y (takes_it st after m f now o i) = true≢false (sym now ∙ fresh_open (becomes_after m fresh))
      none-noted fresh own y (took_it f k) = true≢false (sym f ∙ e)

  round-frames : {ls : List Capture} → Frames (Took r) v ls → Frames (Took (a_round r busy)) u (cut_all ls (round_marks v busy))
  round-frames {ls} (at_rest e a) = rest-round (in_frame u.controller.stage) ls refl e a
  round-frames (in_one {l = l} {ls = ls} s a) =
      subst (Frames (Took (a_round r busy)) u) (sym (cut_same l ls (round_same v busy (frame_runs s.frame))))
      (by (round_by l v busy s.frame s.kept s.lent s.did s.acted s.moments (moments-round r busy l s) (every_response w v r l.frame s.found s.frame busy)))
    where
      codes-now : All (Ended (codes_of u.units)) ls
      codes-now = subst (λ (codes : List ℕ). All (Ended codes) ls) (sym (codes-after (levels v) busy.there v.units)) a

      by : Onward (Took (a_round r busy)) (later_of l v busy) u → Frames (Took (a_round r busy)) u (later_of l v busy ∷ ls)
      by (runs_on s') = in_one s' codes-now
      by (is_complete e k) = at_rest e (also k codes-now)

-- A call.
submitted_rests : (c : Controller) (k : Command) (n : ℕ) (a : Answer Done) → in_frame c.stage ≡ false → in_frame (kept a (with_command c k n) c).stage ≡ false
submitted_rests c k n (gives x) e = refl
submitted_rests c k n (refused i) e = e

acknowledged_rests : (c : Controller) (code : ℕ) (a : Answer Done) → in_frame c.stage ≡ false → in_frame (kept a (without_mark c code) c).stage ≡ false
acknowledged_rests c code (gives x) e = e
acknowledged_rests c code (refused i) e = e

rest-called : (v : World) (call : Call) → in_frame v.controller.stage ≡ false → in_frame (called v call).controller.stage ≡ false
rest-called v (host i call) e = e
rest-called v (submits k d response r b) e = submitted_rests v.controller k (length d) (submitting v.controller k (length d) (length response)) e
rest-called v (acknowledges code h) e = acknowledged_rests v.controller code (acknowledging v.controller code) e
rest-called v (lends d response) e = e
rest-called v (lends_unit i buffer) e = e

complete_called : {codes : List ℕ} (ms : List Mark) → Idle ms → {ls : List Capture} → All (Ended codes) ls → All (Ended codes) (cut_all ls ms)
complete_called {codes} ms idle none = subst (All (Ended codes)) (sym (cut_nothing idle.same)) none
complete_called {codes} ms idle (also {x = l} {xs = ls} k a) = subst (All (Ended codes)) (sym (cut_same l ls idle.same)) (also (complete-idle l ms idle k) a)

call_frames : {T : Moment} (v : World) (call : Call) {ls : List Capture} → Frames T v ls → Frames T (called v call) (cut_all ls (call_marks v call))
call_frames v call {ls} (at_rest e a) =
    at_rest (rest-called v call e) (subst (λ (codes : List ℕ). All (Ended codes) (cut_all ls (call_marks v call))) (sym (codes_alike (alike_called v call))) (complete_called (call_marks v call) (call_idle v call) a))
call_frames {T} v call (in_one {l = l} {ls = ls} s a) =
    subst (Frames T (called v call)) (sym (cut_same l ls (call_idle v call).same))
    (in_one (story-called l v call s) (subst (λ (codes : List ℕ). All (Ended codes) ls) (sym (codes_alike (alike_called v call))) a))

pub frames_run : (w v : World) → QuietStart w → (r : Run w v) → Frames (Took r) v (frames_of (log r))
frames_run w _ q start = at_rest (ap (λ (c : Controller). in_frame c.stage) q.is_new) none
frames_run w _ q (a_round {v = v} r busy) = subst (Frames (Took (a_round r busy)) (round v busy)) (sym (cut-append [] (log r) (round_marks v busy))) (round-frames q r busy (frames_run w v q r))
frames_run w _ q (a_call {v = v} r call) = subst (Frames (Took r) (called v call)) (sym (cut-append [] (log r) (call_marks v call))) (call_frames v call (frames_run w v q r))

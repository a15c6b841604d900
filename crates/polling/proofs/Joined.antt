-- Who is in the ring has answered an enabling with 00: nothing else that is done to the ring brings a code into it, and the log keeps the answer.
use Prim.Native.Nat.{ℕ, zero, suc, ◌≤◌}
use native.Mathlib.Omega.{arith}
use mathlib.Core.Path.{◌≡◌, refl, sym, ◌∙◌, ap, subst}
use mathlib.Core.Bool.{Bool, true, false, cond, ◌||◌, true≢false, false≢true}
use mathlib.Core.List.{List, [], ◌∷◌, ◌++◌, map}
use borrow.Author.Tests.{lt-ltb, eq-eqb, eqb-true, eqb-false}
use lib.Dec.{eqb, ltb, leb-suc-suc}
use lib.ListN.{length}
use Rattle.controller.specs.declared.Controller.{Controller}
use Rattle.delivery.specs.Calls.{Call, host, submits as submitsTo, acknowledges as acknowledgesTo, lends, lends_unit, called, in_frame, running}
use Rattle.delivery.specs.Demand2.{Answerer, nobody, unit, Answers, Speaks, Ended as Complete, Delivered, all_ended, one_runs, TellsEnds, nothing, of_a_frame, reply_to, status_by, data_by, event_told}
use Rattle.delivery.specs.Lists.{also, Has, here, there}
use Rattle.delivery.specs.Log.{Act, told, settled, Mark, begins, acts, does as did, asks, submitted, round_marks, call_marks, log, Capture, with_mark as noted, cut_all, frames_of, act_in, acts_in, deeds_in}
use Rattle.delivery.specs.Run.{QuietStart, Run, start, a_round, a_call, codes_of}
use Rattle.delivery.specs.World.{World, Busy, round, outcome}
use Rattle.delivery.proofs.Captured.{Frames, at_rest, in_one, round_same, frames_run}
use Rattle.delivery.proofs.Demand2.{demand_2}
use Rattle.delivery.proofs.Lists.{has_all, has_left, has_right}
use Rattle.delivery.proofs.Logs.{grown, acts_append, deeds_append, cut-append, cut_same}
use Rattle.delivery.proofs.Promised.{Moment}
use Rattle.delivery.proofs.Running.{frame_running, is_frame, first_of}
use Rattle.frame.specs.declared.Frame.{Frame}
use Rattle.frame.specs.declared.Kind.{Kind}
use Rattle.frame.specs.declared.Kind.TheVariants.{Submitted, Poll, Null}
use Rattle.frame.specs.declared.Stage.{Stage}
use Rattle.frame.specs.declared.Stage.TheVariants.{Free, Resting, Waiting, Sending, Listening}
use Rattle.reply.specs.Reply.{reply_status}
use Rattle.ring.specs.Ring.{entry_of, live, ring_of, place_of, is_in, cut_at, joined, removed, turned, mark_at, with_mark}
use Rattle.ring.specs.declared.Entry.{Entry}
use Rattle.ring.specs.declared.Ring.{Ring}
use Rattle.ring.proofs.Laws.{live_ring}
use Rattle.turn.specs.Turn.{ring_by, ring_ended, event_by}
use Rattle.turn.specs.declared.Event.{Event}
use Rattle.turn.specs.declared.Event.TheVariants.{Nothing, Ended}
use Rattle.polling.specs.BusMoves.{move_of}
use Rattle.polling.specs.History.{is_done, IsEnabling}
use Rattle.polling.specs.Joined.{JoinsNow, JoinsOnly, Accepted, JoinedByAnswer, Refusers}
use Rattle.polling.specs.Moves.{Move, submits, acknowledges, after, in_ring, told as toldBy, event_of}
use Rattle.polling.proofs.Does.{none_runs, Does, keeps, accepts, serves, frame_ends, clears, does}
use Rattle.polling.proofs.HandedOver.{told_once, spoken_by}
use Rattle.polling.proofs.OnTheBus.{addressed_own}
use Rattle.polling.proofs.Turns.{short_joined, short_removed, short_marked, short_turned}

-- The codes in a list of entries.
abbrev codes_in : List Entry → List ℕ
codes_in l = map (λ (e : Entry). e.code) l

in_has : (own : ℕ) (l : List Entry) → is_in own l ≡ true → Has own (codes_in l)
in_has own [] i = absurd (false≢true i)
in_has own (e ∷ es) i = by (eqb e.code own) refl i (λ k. in_has own es k)
  where
    by : (t : Bool) → eqb e.code own ≡ t → ltb (cond t 0 (suc (place_of own es))) (suc (length es)) ≡ true → (is_in own es ≡ true → Has own (codes_in es))
        → Has own (e.code ∷ codes_in es)
    by true g h next = subst (λ (n : ℕ). Has n (e.code ∷ codes_in es)) (eqb-true e.code own g) here
    by false g h next = there (next (sym (leb-suc-suc (suc (place_of own es)) (length es)) ∙ h))

has_in : (own : ℕ) (l : List Entry) → Has own (codes_in l) → is_in own l ≡ true
has_in own [] h = elim h [ ]
has_in own (e ∷ es) here =
    ap (λ (t : Bool). ltb (cond t 0 (suc (place_of own es))) (suc (length es))) (eq-eqb own own refl) ∙ lt-ltb 0 (suc (length es)) (omega arith)
has_in own (e ∷ es) (there h) = by (eqb e.code own) (has_in own es h)
  where
    by : (t : Bool) → is_in own es ≡ true → ltb (cond t 0 (suc (place_of own es))) (suc (length es)) ≡ true
    by true i = lt-ltb 0 (suc (length es)) (omega arith)
    by false i = leb-suc-suc (suc (place_of own es)) (length es) ∙ i

-- Each thing that is done to the ring, backwards: who is in it behind that was in it before, or joins.
cut_back : {own : ℕ} (i : ℕ) (l : List Entry) → Has own (codes_in (cut_at i l)) → Has own (codes_in l)
cut_back i [] h = h
cut_back zero (e ∷ es) h = there h
cut_back (suc i) (e ∷ es) here = here
cut_back (suc i) (e ∷ es) (there h) = there (cut_back i es h)

deeper : {own first second : ℕ} {codes : List ℕ} → Has own (first ∷ codes) → Has own (first ∷ second ∷ codes)
deeper here = here
deeper (there h) = there (there h)

back_front : {own : ℕ} (e : Entry) (es : List Entry) → Has own (codes_in (es ++ (e ∷ []))) → Has own (e.code ∷ codes_in es)
back_front e [] h = h
back_front e (x ∷ es) here = there here
back_front e (x ∷ es) (there h) = deeper (back_front e es h)

turn_back : {own : ℕ} (l : List Entry) → Has own (codes_in (turned l)) → Has own (codes_in l)
turn_back [] h = h
turn_back (e ∷ es) h = back_front e es h

codes_marked : (marked : Bool) (i : ℕ) (l : List Entry) → codes_in (mark_at marked i l) ≡ codes_in l
codes_marked marked i [] = refl
codes_marked marked zero (e ∷ es) = refl
codes_marked marked (suc i) (e ∷ es) = ap (λ (ns : List ℕ). e.code ∷ ns) (codes_marked marked i es)

data Came (own code : ℕ) (codes : List ℕ) : Type 0 where
  was_in : Has own codes → Came own code codes
  joins_it : code ≡ own → (code ≡ 0 → ⊥) → Came own code codes

first-or : {own code : ℕ} {codes : List ℕ} → (code ≡ 0 → ⊥) → Has own (code ∷ codes) → Came own code codes
first-or coded here = joins_it refl coded
first-or coded (there h) = was_in h

join_back : {own : ℕ} (code : ℕ) (l : List Entry) → Has own (codes_in (joined code l)) → Came own code (codes_in l)
join_back {own} code l h = by (eqb code 0) (cond (is_in code l) false (ltb (length l) 16)) refl h
  where
    by : (z t : Bool) → eqb code 0 ≡ z → Has own (codes_in (cond (cond z false t) (l ++ (entry_of code false ∷ [])) l)) → Came own code (codes_in l)
    by true t e k = was_in k
    by false true e k = first-or (eqb-false code 0 e) (back_front (entry_of code false) l k)
    by false false e k = was_in k

-- The end of a frame.
abbrev InRing : ℕ → Ring → Type 0
InRing own ring = Has own (codes_in (live ring))

data EndCame (own : ℕ) (ring : Ring) (f : Frame) (status : ℕ) : Type 0 where
  was_before : InRing own ring → EndCame own ring f status
  enabled_now : IsEnabling own f → (own ≡ 0 → ⊥) → status ≡ 0x00 → EndCame own ring f status

made_back : {own : ℕ} (l : List Entry) → length l ≤ 16 → InRing own (ring_of l) → Has own (codes_in l)
made_back {own} l short h = subst (λ (es : List Entry). Has own (codes_in es)) (live_ring l short) h

mark_back : {own : ℕ} (marked : Bool) (code : ℕ) (ring : Ring) → InRing own (ring_of (with_mark marked code (live ring))) → InRing own ring
mark_back {own} marked code ring h =
    subst (Has own) (codes_marked marked (place_of code (live ring)) (live ring))
    (made_back (with_mark marked code (live ring)) (short_marked marked code ring) h)

end_back : (own : ℕ) (ring : Ring) (f : Frame) (status : ℕ) → InRing own (ring_ended ring f status) → EndCame own ring f status
end_back own ring f status h = by (eqb status 0x00) f.kind refl refl h
  where
    device : ℕ
    device = f.command.device

    joining : f.kind ≡ Submitted → f.command.command ≡ 0x08 → status ≡ 0x00 → Came own device (codes_in (live ring)) → EndCame own ring f status
    joining kind command zero-status (was_in k) = was_before k
    joining kind command zero-status (joins_it same coded) = enabled_now (kind, (command, same)) (λ z. coded (same ∙ z)) zero-status

    with-command : (t u : Bool) → eqb f.command.command 0x08 ≡ t → f.kind ≡ Submitted → status ≡ 0x00
        → InRing own (cond t (ring_of (joined device (live ring))) (cond u (ring_of (removed device (live ring))) ring)) → EndCame own ring f status
    with-command true u e kind zero-status k =
        joining kind (eqb-true f.command.command 0x08 e) zero-status
        (join_back device (live ring) (made_back (joined device (live ring)) (short_joined device ring) k))
    with-command false true e kind zero-status k =
        was_before (cut_back (place_of device (live ring)) (live ring) (made_back (removed device (live ring)) (short_removed device ring) k))
    with-command false false e kind zero-status k = was_before k

    by : (s : Bool) (k : Kind) → eqb status 0x00 ≡ s → f.kind ≡ k → InRing own (cond s (ring_by k ring f.command) ring) → EndCame own ring f status
    by false k e kind i = was_before i
    by true Submitted e kind i =
        with-command (eqb f.command.command 0x08) (eqb f.command.command 0x09 || eqb f.command.command 0x01) refl kind
        (eqb-true status 0x00 e) i
    by true Poll e kind i = was_before (mark_back true device ring i)
    by true Null e kind i = was_before i

pub joins_only : JoinsOnly
joins_only own c m out joined-now = by (does c m)
  where
    now : InRing own (after c m).ring
    now = in_has own (live (after c m).ring) joined-now

    behind : {ring : Ring} → (after c m).ring ≡ ring → InRing own ring
    behind e = subst (InRing own) e now

    was : InRing own c.ring → JoinsNow own c m
    was h = absurd (true≢false (sym (has_in own (live c.ring) h) ∙ out))

    ends : (f : Frame) (status count : ℕ) → running c.stage ≡ f ∷ [] → event_of c m ≡ event_by f.kind f.command status count
        → running (after c m).stage ≡ [] → EndCame own c.ring f status → JoinsNow own c m
    ends f status count r v z (was_before h) = was h
    ends f status count r v z (enabled_now enabling coded zero-status) = record {
      frame = f;
      count = count;
      runs = r;
      enabling = enabling;
      coded = coded;
      told = v ∙ ap (λ (k : Kind). event_by k f.command status count) enabling.0 ∙ ap (λ (n : ℕ). Ended n count) zero-status;
      over = z;
    }

    by : Does c m → JoinsNow own c m
    by (keeps ring b v u o) = was (behind ring)
    by (accepts k n ring b v u shut poll st resting) = was (behind ring)
    by (serves b v u some low e) =
        was (turn_back (live c.ring) (made_back (turned (live c.ring)) (short_turned c.ring) (behind (ap (λ (x : Controller). x.ring) e))))
    by (frame_ends f status count r g b v u ring z) =
        ends f status count r v (none_runs (after c m).stage z) (end_back own c.ring f status (behind ring))
    by (clears code x marked b v u ring st) = was (mark_back false code c.ring (behind ring))

-- The log keeps the answer.
abbrev Answered : ℕ → List Capture → Type 0
Answered own ls = (l : Capture) × (Has l ls × Accepted own l)

accepted_on : {own : ℕ} (l : Capture) (ms : List Mark) → Accepted own l → Accepted own (grown l ms)
accepted_on {own} l ms a = record {
  enabling = a.enabling;
  inside = a.inside;
  speaks = record {
    named = refl;
    meant = a.speaks.meant;
    inside = subst (Has (settled a.inside)) (sym (deeds_append own l.marks ms)) (has_left (deeds_in own ms) a.speaks.inside);
    defined = a.speaks.defined;
  };
  accepts = a.accepts;
}

noted_on : {own : ℕ} (m : Mark) {ls : List Capture} {l : Capture} → Has l ls → Accepted own l → Answered own (noted m ls)
noted_on m {l = l} here a = (grown l (m ∷ []), (here, accepted_on l (m ∷ []) a))
noted_on m {l = l} (there h) a = (l, (there h, a))

cut_on : {own : ℕ} (ms : List Mark) {ls : List Capture} → Answered own ls → Answered own (cut_all ls ms)
cut_on [] p = p
cut_on (begins f lent found ∷ ms) p = cut_on ms (p.0, (there p.1.0, p.1.1))
cut_on (acts a ∷ ms) p = cut_on ms (noted_on (acts a) p.1.0 p.1.1)
cut_on (did code e ∷ ms) p = cut_on ms (noted_on (did code e) p.1.0 p.1.1)
cut_on (asks code call ∷ ms) p = cut_on ms (noted_on (asks code call) p.1.0 p.1.1)
cut_on (submitted k d response ∷ ms) p = cut_on ms (noted_on (submitted k d response) p.1.0 p.1.1)

log_on : {own : ℕ} (before more : List Mark) → Answered own (frames_of before) → Answered own (frames_of (before ++ more))
log_on {own} before more p = subst (Answered own) (sym (cut-append [] before more)) (cut_on more p)

-- What is told at the end of a frame stands in it.
acts_has : {a : Act} {ms : List Mark} → Has (acts a) ms → Has a (acts_in ms)
acts_has here = here
acts_has (there {y = m} h) = has_right (act_in m) (acts_has h)

-- An enabling that has ended, and was told with 00: its unit has answered so.
ended_accepted : (own count : ℕ) (buffer codes : List ℕ) (l : Capture) → IsEnabling own l.frame → (own ≡ 0 → ⊥) → Complete codes l
    → Has (told (Ended 0x00 count) buffer) (acts_in l.marks) → Accepted own l
ended_accepted own count buffer codes l enabling coded k t =
    by k.answerer k.answers (eqb-true (status_by l k.answerer) 0x00 (sym (ap is_done ends)))
  where
    ends : Ended 0x00 count ≡ Ended (status_by l k.answerer) (length (data_by l k.answerer))
    ends =
        has_all (told_once l k.answerer) (subst (Has (told (Ended 0x00 count) buffer)) k.acted t)
        ∙ ap (λ (kind : Kind). event_told kind l.frame.command.device (status_by l k.answerer) (length (data_by l k.answerer))) enabling.0

    by : (a : Answerer) → Answers codes l a → status_by l a ≡ 0x00 → Accepted own l
    by nobody hush z = absurd (omega arith)
    by (unit speaker x) one z =
        let s = (spoken_by one).1 in
        let same : speaker ≡ own = addressed_own l.frame.command speaker (λ n. coded (sym enabling.1.1 ∙ n)) s.meant ∙ enabling.1.1 in
        let says : Speaks l speaker x speaker = record { named = refl; meant = s.meant; inside = s.inside; defined = s.defined } in
        record {
          enabling = enabling;
          inside = x;
          speaks = subst (λ (n : ℕ). Speaks l n x n) same says;
          accepts = subst (λ (n : ℕ). reply_status (reply_to l n x) ≡ 0x00) same z;
        }

first_ended : {codes : List ℕ} {runs : Bool} {l : Capture} {ls : List Capture} → runs ≡ false → Delivered codes runs (l ∷ ls) → Complete codes l
first_ended e (all_ended (also k a)) = k
first_ended e (one_runs k a) = absurd (true≢false e)

runs_frame : (stage : Stage) → in_frame stage ≡ is_frame (running stage)
runs_frame Free = refl
runs_frame (Resting first) = refl
runs_frame (Waiting f) = refl
runs_frame (Sending f i sender wait) = refl
runs_frame (Listening f ear taken quiet) = refl

-- A round in which a code joins.
module _ {w v : World} (q : QuietStart w) (r : Run w v) (busy : Busy) (own : ℕ) (j : JoinsNow own v.controller (move_of v busy)) where
  abbrev next : World
  next = round v busy

  abbrev marks : List Mark
  marks = round_marks v busy

  abbrev Delivers : List Capture → Type 0
  Delivers ls = Delivered (codes_of next.units) (in_frame next.controller.stage) ls

  was_in_frame : in_frame v.controller.stage ≡ true
  was_in_frame = runs_frame v.controller.stage ∙ ap is_frame j.runs

  tells : TellsEnds (outcome v busy) marks → (buffer : List ℕ) × Has (acts (told (Ended 0x00 j.count) buffer)) marks
  tells (nothing given) = absurd (false≢true (ap is_done (sym (ap toldBy given) ∙ j.told)))
  tells (of_a_frame e buffer given h) = (buffer, subst (λ (x : Event). Has (acts (told x buffer)) marks) (sym (ap toldBy given) ∙ j.told) h)

  by_frames : {T : Moment} {ls : List Capture} → Frames T v ls → Delivers (cut_all ls marks) → Answered own (cut_all ls marks)
  by_frames (at_rest e a) k = absurd (true≢false (sym was_in_frame ∙ e))
  by_frames (in_one {l = l} {ls = ls} s a) k =
      let now : cut_all (l ∷ ls) marks ≡ grown l marks ∷ ls = cut_same l ls (round_same v busy was_in_frame) in
      let over : in_frame next.controller.stage ≡ false = runs_frame next.controller.stage ∙ ap is_frame j.over in
      let complete : Complete (codes_of next.units) (grown l marks) = first_ended over (subst Delivers now k) in
      let frame : j.frame ≡ l.frame = ap (first_of l.frame) (sym j.runs ∙ frame_running s.frame) in
      let t = tells ((demand_2 w v q r).tells busy) in
      let said : Has (told (Ended 0x00 j.count) t.0) (acts_in (l.marks ++ marks)) =
      subst (Has (told (Ended 0x00 j.count) t.0)) (sym (acts_append l.marks marks)) (has_right (acts_in l.marks) (acts_has t.1)) in
      let enabling : IsEnabling own l.frame = subst (IsEnabling own) frame j.enabling in
      let answer = ended_accepted own j.count t.0 (codes_of next.units) (grown l marks) enabling j.coded complete said in
      subst (Answered own) (sym now) (grown l marks, (here, answer))

  joins-answered : Answered own (frames_of (log (a_round r busy)))
  joins-answered =
      let cuts = cut-append [] (log r) marks in
      subst (Answered own) (sym cuts)
      (by_frames (frames_run w v q r) (subst Delivers cuts (demand_2 w next q (a_round r busy)).frames))

-- Every run.
move_keeps : (own : ℕ) (c : Controller) (m : Move) → event_of c m ≡ Nothing → in_ring own (after c m) ≡ true → in_ring own c ≡ true
move_keeps own c m e i = by (in_ring own c) refl
  where
    by : (t : Bool) → in_ring own c ≡ t → t ≡ true
    by true g = refl
    by false g = absurd (false≢true (ap is_done (sym e ∙ (joins_only own c m g i).told)))

call_keeps : (own : ℕ) (v : World) (call : Call) → in_ring own (called v call).controller ≡ true → in_ring own v.controller ≡ true
call_keeps own v (host i call) h = h
call_keeps own v (submitsTo k d response r b) h = move_keeps own v.controller (submits k (length d) (length response)) refl h
call_keeps own v (acknowledgesTo code b) h = move_keeps own v.controller (acknowledges code) refl h
call_keeps own v (lends d response) h = h
call_keeps own v (lends_unit i buffer) h = h

pub joined_by_answer : JoinedByAnswer
joined_by_answer w v q start own i = absurd (false≢true (sym (ap (in_ring own) q.is_new) ∙ i))
joined_by_answer w _ q (a_round {v = v} r busy) own i = by (in_ring own v.controller) refl (λ g. joined_by_answer w v q r own g)
  where
    by : (t : Bool) → in_ring own v.controller ≡ t → (in_ring own v.controller ≡ true → Answered own (frames_of (log r)))
        → Answered own (frames_of (log (a_round r busy)))
    by true g before = log_on (log r) (round_marks v busy) (before g)
    by false g before = joins-answered q r busy own (joins_only own v.controller (move_of v busy) g i)
joined_by_answer w _ q (a_call {v = v} r call) own i = log_on (log r) (call_marks v call) (joined_by_answer w v q r own (call_keeps own v call i))

pub refusers : Refusers
refusers w v q r own refuses = by (in_ring own v.controller) refl
  where
    by : (t : Bool) → in_ring own v.controller ≡ t → t ≡ false
    by true i =
        let a = joined_by_answer w v q r own i in
        absurd (refuses a.1.1.inside a.0.frame.command a.0.lent a.1.1.enabling.1.0 a.1.1.accepts)
    by false i = refl

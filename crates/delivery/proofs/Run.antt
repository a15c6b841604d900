-- Every call of a run, and every run from a quiet start.
use Prim.Native.Nat.{ℕ, zero, suc, ◌+◌, ◌*◌, ◌<◌, ◌≤◌}
use native.Mathlib.Omega.{arith}
use mathlib.Core.Path.{◌≡◌, refl, sym, ◌∙◌, ap, subst}
use mathlib.Core.Bool.{Bool, true, false, cond, true≢false}
use mathlib.Core.List.{List, []}
use borrow.Author.Tests.{ltb-false, le-ltb, eq-eqb}
use lib.Dec.{ltb, eqb}
use lib.ListN.{length}
use Rattle.answer.specs.Answer.{buffer_with}
use Rattle.answer.specs.declared.Response.{Response}
use Rattle.answer.specs.declared.Response.TheVariants.{Taking, Complete, TooLarge}
use Rattle.application.specs.Calls.{Done, done, submitting, is_shut_out, with_command, acknowledging, without_mark}
use Rattle.bus.specs.declared.Station.{Station}
use Rattle.controller.specs.Controller.{is_idle}
use Rattle.field.specs.Field.{Below}
use Rattle.frame.specs.Frame.{submitted_frame, is_submitted, data_of}
use Rattle.frame.specs.declared.Frame.{Frame}
use Rattle.frame.specs.declared.Stage.{Stage}
use Rattle.frame.specs.declared.Stage.TheVariants.{Free, Resting, Waiting}
use Rattle.header.specs.Header.{InRange}
use Rattle.header.specs.declared.Command.{Command}
use Rattle.inside.specs.Calls.{HostCall, called_by}
use Rattle.inside.specs.Inside.{reply_for}
use Rattle.inside.proofs.Calls.{unit_called}
use Rattle.line.specs.declared.Listener.{Listener}
use Rattle.message.specs.Answer.{Answer, gives, refused, kept}
use Rattle.message.specs.Format.{response_format, start}
use Rattle.message.specs.Nibbles.{nibble_in}
use Rattle.reply.specs.Reply.{is_silent}
use Rattle.ring.specs.Ring.{live, is_marked, ring_of, with_mark}
use Rattle.ring.specs.declared.Ring.{Ring}
use Rattle.whole.specs.Back.{taken_at, stored_at}
use Rattle.whole.specs.Whole.{bytes_for, Sent}
use Rattle.delivery.proofs.Moves.{found_after}
use Rattle.delivery.proofs.Stages.{Hushed, not_its_own, by_the_rule, addressed, answer_bytes, AtRest, Codes, Framed, Fresh, InFrame, On, Part, Sends, Sits, Sound, Talk, talks, begins, ended, hears, is_free, is_resting, rests, runs, sends, submitted, waits, world}
use Rattle.delivery.specs.Calls.{Call, host, submits, acknowledges, lends, lends_unit, called_at, called, buffer_at, is_kept, in_frame}
use Rattle.delivery.proofs.Promised.{Moment, Promised}
use Rattle.delivery.specs.Lists.{All, none, also, One}
use Rattle.delivery.specs.World.{World, Different, nobody, another}
use Rattle.delivery.proofs.Calls.{all-called, one_called, part_called, talk_called, sits_called, fresh_called, fresh_lent, sound_lent, all_lent}
use Rattle.delivery.proofs.Lists.{all_map, one_map}
use Rattle.delivery.proofs.Rest.{codes_marked}

-- Codes stay as they are.
own_called : (call : HostCall) (st : Station) → (called_by call st).unit.own ≡ st.unit.own
own_called call st = (unit_called call st).own

apart_called : (code i : ℕ) (call : HostCall) {ss : List Station} → All (λ (x : Station). x.unit.own ≡ code → ⊥) ss → All (λ (x : Station). x.unit.own ≡ code → ⊥) (called_at i call ss)
apart_called code i call none = none
apart_called code zero call (also {x = st} p a) = also (λ e. p (sym (own_called call st) ∙ e)) a
apart_called code (suc i) call (also p a) = also p (apart_called code i call a)

different_called : (i : ℕ) (call : HostCall) {ss : List Station} → Different ss → Different (called_at i call ss)
different_called i call nobody = nobody
different_called zero call (another {st = st} a d) = another (all_map (λ x p e. p (e ∙ own_called call st)) a) d
different_called (suc i) call (another {st = st} a d) = another (apart_called st.unit.own i call a) (different_called i call d)

different_lent : (i : ℕ) (buffer : List ℕ) {ss : List Station} → Different ss → Different (buffer_at i buffer ss)
different_lent i buffer nobody = nobody
different_lent zero buffer (another a d) = another a d
different_lent (suc i) buffer (another a d) = another (all_lent i buffer (λ st p. p) a) (different_lent i buffer d)

hushed_called : {T : Moment} {c : Command} {d : List ℕ} (i : ℕ) (call : HostCall) {ss : List Station} → All (Hushed T c d) ss → All (Hushed T c d) (called_at i call ss)
hushed_called i call none = none
hushed_called {T} {c} zero call (also {x = st} (not_its_own e) a) = also (not_its_own (ap (addressed c) (own_called call st) ∙ e)) a
hushed_called {T} {c} {d} zero call (also {x = st} (by_the_rule given t e) a) =
    also (by_the_rule given (subst (λ (own : ℕ). T own given) (sym (own_called call st)) t) (ap (λ (own : ℕ). is_silent (reply_for own given c d)) (own_called call st) ∙ e)) a
hushed_called (suc i) call (also p a) = also p (hushed_called i call a)

-- A host call in a frame.
frame_called : {T : Moment} {f : Frame} {found : List ℕ} {w : World} (i : ℕ) (call : HostCall) → InFrame T f found w → InFrame T f found (called w (host i call))
frame_called i call (begins framed d a) = begins framed (different_called i call d) (all-called (λ _ st after k p. fresh_called k p) i call a)
frame_called {T} i call (sends j sender framed d s l a) = sends j sender framed (different_called i call d) s l (all-called (λ _ st after k p. part_called T k p) i call a)
frame_called i call (hears ear taken quiet framed d l o) =
    hears ear taken quiet framed (different_called i call d) l (one_called (λ _ st after k p. talk_called k p) (λ _ st after k p. sits_called k p) i call o)
frame_called i call (waits quiet framed d a why) = waits quiet framed (different_called i call d) (all-called (λ _ st after k p. sits_called k p) i call a) (hushed_called i call why)

-- The ring is not the frame's.
frame_ring : {T : Moment} {f : Frame} {found : List ℕ} {w : World} (ring : Ring) → InFrame T f found w → InFrame T f found (world w.controller.timeout w.controller.stage ring w.units w.lent w.response)
frame_ring ring (begins framed d a) = begins framed d a
frame_ring ring (sends j sender framed d s l a) = sends j sender framed d s l a
frame_ring ring (hears ear taken quiet framed d l o) = hears ear taken quiet framed d l o
frame_ring ring (waits quiet framed d a why) = waits quiet framed d a why

pub frame_busy : {T : Moment} {f : Frame} {found : List ℕ} {w : World} → InFrame T f found w → is_idle w.controller.stage ≡ false
frame_busy (begins framed d a) = refl
frame_busy (sends j sender framed d s l a) = refl
frame_busy (hears ear taken quiet framed d l o) = refl
frame_busy (waits quiet framed d a why) = refl

pub frame_runs : {T : Moment} {f : Frame} {found : List ℕ} {w : World} → InFrame T f found w → in_frame w.controller.stage ≡ true
frame_runs (begins framed d a) = refl
frame_runs (sends j sender framed d s l a) = refl
frame_runs (hears ear taken quiet framed d l o) = refl
frame_runs (waits quiet framed d a why) = refl

pub frame_kept : {T : Moment} {f : Frame} {found : List ℕ} {w : World} → InFrame T f found w → is_kept w.controller.stage ≡ is_submitted f.kind
frame_kept (begins framed d a) = refl
frame_kept (sends j sender framed d s l a) = refl
frame_kept (hears ear taken quiet framed d l o) = refl
frame_kept (waits quiet framed d a why) = refl

-- A frame that is not a submitted command's has no data of the caller's, and nothing of its response is stored.
pub same_data : (f : Frame) (lent d : List ℕ) → is_submitted f.kind ≡ false → data_of f lent ≡ data_of f d
same_data f lent d e = ap (λ (t : Bool). cond t lent []) e ∙ sym (ap (λ (t : Bool). cond t d []) e)

either_way : (t : Bool) (buffer : List ℕ) → cond t buffer buffer ≡ buffer
either_way true buffer = refl
either_way false buffer = refl

nibble_unstored : (r : Response) (nibble : ℕ) (buffer : List ℕ) → buffer_with r nibble false buffer ≡ buffer
nibble_unstored (Taking p) nibble buffer = ap (λ (b : List ℕ). cond p.half b buffer) (either_way (ltb p.place (start response_format)) buffer) ∙ either_way p.half buffer
nibble_unstored (Complete status count) nibble buffer = refl
nibble_unstored TooLarge nibble buffer = refl

unstored : (bytes : List ℕ) (limit : ℕ) (stores : Bool) (k : ℕ) (buffer : List ℕ) → stores ≡ false → stored_at bytes limit stores k buffer ≡ buffer
unstored bytes limit stores k buffer e = ap (λ (t : Bool). stored_at bytes limit t k buffer) e ∙ by k
  where
    by : (k : ℕ) → stored_at bytes limit false k buffer ≡ buffer
    by zero = refl
    by (suc k) = nibble_unstored (taken_at bytes limit k) (nibble_in bytes k) (stored_at bytes limit false k buffer) ∙ by k

-- So it may be lent others.
framed_lent : (t : Bool) {f : Frame} {lent found : List ℕ} {timeout : ℕ} (d response : List ℕ) → is_submitted f.kind ≡ t → Framed f lent found timeout → Framed f (cond t lent d) (cond t found response) timeout
framed_lent true d response e x = x
framed_lent false {f} {lent} d response e x = record {
  sent = subst (Sent f.command) (same_data f lent d e) x.sent;
  announced = x.announced ∙ ap length (same_data f lent d e);
  room = subst (λ (n : ℕ). n ≤ length response) (sym (x.service e)) (omega arith);
  service = x.service;
  fits = rw e;
  eight = x.eight;
}

talk_lent : {T : Moment} {c : Command} {d : List ℕ} {stores : Bool} {found : List ℕ} {ear : Listener} {taken : Response} {quiet : ℕ} {buffer : List ℕ} (response : List ℕ) (st : Station) → stores ≡ false
    → Talk T c d stores found ear taken quiet buffer st → Talk T c d stores response ear taken quiet response st
talk_lent {c = c} {stores = stores} response st s (talks r j t sender wait e p fits g b l w z q own) =
    talks r j t sender wait e p fits g (sym (unstored (answer_bytes p) c.buffer_length stores (j + t) response s)) l w z q own

frame_lent : {T : Moment} (t : Bool) {f : Frame} {found : List ℕ} {w : World} (d response : List ℕ) → is_submitted f.kind ≡ t → InFrame T f found w
    → InFrame T f (cond t found response) (record { controller = w.controller; units = w.units; lent = cond t w.lent d; response = cond t w.response response })
frame_lent true d response e x = x
frame_lent false d response e (begins framed u a) = begins (framed_lent false d response e framed) u a
frame_lent {T} false {f} d response e (sends j sender {units = units} {lent = lent} framed u s l a) =
    let same = same_data f lent d e in
    sends j sender (framed_lent false d response e framed) u (subst (λ (x : List ℕ). Sends (nibble_in (bytes_for f.command x) j) sender) same s)
    (subst (λ (x : List ℕ). j < 2 * length (bytes_for f.command x)) same l)
    (subst (λ (x : List ℕ). All (λ (st : Station). Part (Promised T st.unit.own f.command x) f.command x j sender st × Sound st) units) same a)
frame_lent {T} false {f} {found} d response e (hears ear taken quiet {units = units} {lent = lent} {response = buffer} framed u l o) =
    hears ear taken quiet (framed_lent false d response e framed) u refl
    (one_map (λ st p. (talk_lent response st e p.0, p.1))
    (subst (λ (x : List ℕ). One (λ (st : Station). Talk T f.command x (is_submitted f.kind) found ear taken quiet buffer st × Sound st) (λ (st : Station). Sits st × Sound st) units) (same_data f lent d e) o))
frame_lent {T} false {f} d response e (waits quiet {units = units} {lent = lent} framed u a why) =
    waits quiet (framed_lent false d response e framed) u a (subst (λ (x : List ℕ). All (Hushed T f.command x) units) (same_data f lent d e) why)

lends_in : {T : Moment} {f : Frame} {found : List ℕ} {w : World} (d response : List ℕ) → InFrame T f found w → InFrame T f (found_after w (lends d response) found) (called w (lends d response))
lends_in {w = w} d response x = frame_lent (is_kept w.controller.stage) d response (sym (frame_kept x)) x

-- A unit's command buffer is kept in a frame.
lends_unit_in : {T : Moment} {f : Frame} {found : List ℕ} {w : World} (i : ℕ) (buffer : List ℕ) → InFrame T f found w → InFrame T f found (called w (lends_unit i buffer))
lends_unit_in {T} {f} {found} {w} i buffer x =
    subst (λ (t : Bool). InFrame T f found (record { controller = w.controller; units = cond t w.units (buffer_at i buffer w.units); lent = w.lent; response = w.response })) (sym (frame_runs x)) x

on_ring : {T : Moment} {w : World} (ring : Ring) → Codes ring → On T w → On T (world w.controller.timeout w.controller.stage ring w.units w.lent w.response)
on_ring ring c (rests r eight codes d a) = rests r eight c d a
on_ring ring c (submitted f framed codes d a) = submitted f framed c d a
on_ring ring c (ended eight codes d a) = ended eight c d a
on_ring ring c (runs f found x codes) = runs f found (frame_ring ring x) c

on_codes : {T : Moment} {w : World} → On T w → Codes w.controller.ring
on_codes (rests r eight codes d a) = codes
on_codes (submitted f framed codes d a) = codes
on_codes (ended eight codes d a) = codes
on_codes (runs f found x codes) = codes

-- A refused submission changes nothing.
pub not_idle : (w : World) (k : Command) (d response : List ℕ) (r : InRange k) (b : Below 256 d) → is_idle w.controller.stage ≡ false → called w (submits k d response r b) ≡ w
not_idle w k d response r b e =
    let s : submitting w.controller k (length d) (length response) ≡ refused 1 = rw e in
    λ i. record { controller = kept (s i) (with_command w.controller k (length d)) w.controller; units = w.units; lent = kept (s i) d w.lent; response = kept (s i) response w.response }

-- A submission to an idle controller.
module _
    (T : Moment) (timeout : ℕ) (ring : Ring) (units : List Station) (lent response : List ℕ) (k : Command) (d buffer : List ℕ) (range : InRange k) (bytes : Below 256 d)
    (eight : 8 ≤ timeout) (codes : Codes ring) (different : Different units) (a : All (λ (st : Station). Fresh st × Sound st) units)
  where
    abbrev w : World
    w = world timeout Free ring units lent response

    abbrev answer : Answer Done
    answer = submitting w.controller k (length d) (length buffer)

    abbrev after : Answer Done → World
    after s = record { controller = kept s (with_command w.controller k (length d)) w.controller; units = units; lent = kept s d lent; response = kept s buffer response }

    refused-on : (n : ℕ) → answer ≡ refused n → On T (called w (submits k d buffer range bytes))
    refused-on n e = subst (λ (s : Answer Done). On T (after s)) (sym e) (rests is_free eight codes different a)

    accepted_on : length d ≤ 65535 → k.buffer_length ≤ length buffer → answer ≡ gives done → On T (called w (submits k d buffer range bytes))
    accepted_on short room e =
        let same : eqb (length d) (length d) ≡ true = eq-eqb (length d) (length d) refl in
        let long : ltb (length buffer) k.buffer_length ≡ false = le-ltb (length buffer) k.buffer_length room in
        subst (λ (s : Answer Done). On T (after s)) (sym e)
        (submitted (submitted_frame k (length d))
        (record { sent = record { fields = range; bytes = bytes; short = short }; announced = refl; room = room; service = λ e. absurd (true≢false e); fits = rw (same, long); eight = eight }) codes different a)

    submit-by : (p q r s : Bool) → ltb 65535 (length d) ≡ p → eqb k.command 0x0A ≡ q → is_shut_out k ring ≡ r → ltb (length buffer) k.buffer_length ≡ s → On T (called w (submits k d buffer range bytes))
    submit-by true q r s e f g h = refused-on 2 (rw e)
    submit-by false true r s e f g h = refused-on 3 (rw (e, f))
    submit-by false false true s e f g h = refused-on 4 (rw (e, f, g))
    submit-by false false false true e f g h = refused-on 11 (rw (e, f, g, h))
    submit-by false false false false e f g h = accepted_on (ltb-false 65535 (length d) e) (ltb-false (length buffer) k.buffer_length h) (rw (e, f, g, h))

rest_submits : (T : Moment) (timeout : ℕ) (stage : Stage) (ring : Ring) (units : List Station) (lent response : List ℕ) (k : Command) (d buffer : List ℕ) (range : InRange k) (bytes : Below 256 d)
    → AtRest stage → 8 ≤ timeout → Codes ring → Different units → All (λ (st : Station). Fresh st × Sound st) units
    → On T (called (world timeout stage ring units lent response) (submits k d buffer range bytes))
rest_submits T timeout stage ring units lent response k d buffer range bytes is_free eight codes different a =
    submit-by T timeout ring units lent response k d buffer range bytes eight codes different a (ltb 65535 (length d)) (eqb k.command 0x0A) (is_shut_out k ring) (ltb (length buffer) k.buffer_length) refl refl refl refl
rest_submits T timeout stage ring units lent response k d buffer range bytes is_resting eight codes different a =
    subst (On T) (sym (not_idle (world timeout (Resting false) ring units lent response) k d buffer range bytes refl)) (rests is_resting eight codes different a)

submit_called : {T : Moment} {w : World} → On T w → (k : Command) (d buffer : List ℕ) (range : InRange k) (bytes : Below 256 d) → On T (called w (submits k d buffer range bytes))
submit_called {T} (rests {timeout = timeout} {stage = stage} {ring = ring} {units = units} {lent = lent} {response = response} r eight codes different a) k d buffer range bytes =
    rest_submits T timeout stage ring units lent response k d buffer range bytes r eight codes different a
submit_called {T} (submitted f {timeout = timeout} {ring = ring} {units = units} {lent = lent} {response = response} framed codes different a) k d buffer range bytes =
    subst (On T) (sym (not_idle (world timeout (Waiting f) ring units lent response) k d buffer range bytes refl)) (submitted f framed codes different a)
submit_called {T} (ended {timeout = timeout} {ring = ring} {units = units} {lent = lent} {response = response} eight codes different a) k d buffer range bytes =
    subst (On T) (sym (not_idle (world timeout (Resting true) ring units lent response) k d buffer range bytes refl)) (ended eight codes different a)
submit_called {T} (runs f found {w = w} x codes) k d buffer range bytes = subst (On T) (sym (not_idle w k d buffer range bytes (frame_busy x))) (runs f found x codes)

acknowledge_by : {T : Moment} (t : Bool) {w : World} (code : ℕ) (h : code < 256) → is_marked code (live w.controller.ring) ≡ t → On T w → On T (called w (acknowledges code h))
acknowledge_by {T} true {w} code h e o =
    let s : acknowledging w.controller code ≡ gives done = rw e in
    subst (λ (a : Answer Done). On T (record { controller = kept a (without_mark w.controller code) w.controller; units = w.units; lent = w.lent; response = w.response })) (sym s)
    (on_ring (ring_of (with_mark false code (live w.controller.ring))) (codes_marked w.controller.ring (on_codes o) false code h) o)
acknowledge_by {T} false {w} code h e o =
    let s : acknowledging w.controller code ≡ refused 8 = rw e in
    subst (λ (a : Answer Done). On T (record { controller = kept a (without_mark w.controller code) w.controller; units = w.units; lent = w.lent; response = w.response })) (sym s) o

host_called : {T : Moment} {w : World} (i : ℕ) (call : HostCall) → On T w → On T (called w (host i call))
host_called i call (rests r eight codes d a) = rests r eight codes (different_called i call d) (all-called (λ _ st after k p. fresh_called k p) i call a)
host_called i call (submitted f framed codes d a) = submitted f framed codes (different_called i call d) (all-called (λ _ st after k p. fresh_called k p) i call a)
host_called i call (ended eight codes d a) = ended eight codes (different_called i call d) (all-called (λ _ st after k p. sits_called k p) i call a)
host_called i call (runs f found x codes) = runs f found (frame_called i call x) codes

-- The same with other lent memory.
lends_on : {T : Moment} {w : World} (d response : List ℕ) → On T w → On T (called w (lends d response))
lends_on d response (rests r eight codes u a) = rests r eight codes u a
lends_on d response (submitted f framed codes u a) = submitted f (framed_lent (is_submitted f.kind) d response refl framed) codes u a
lends_on d response (ended eight codes u a) = ended eight codes u a
lends_on {w = w} d response (runs f found x codes) = runs f (found_after w (lends d response) found) (lends_in d response x) codes

pub rest_free : {stage : Stage} → AtRest stage → in_frame stage ≡ false
rest_free is_free = refl
rest_free is_resting = refl

lends_unit_on : {T : Moment} {w : World} (i : ℕ) (buffer : List ℕ) → On T w → On T (called w (lends_unit i buffer))
lends_unit_on {T} i buffer (rests {timeout = timeout} {stage = stage} {ring = ring} {units = units} {lent = lent} {response = response} r eight codes u a) =
    subst (λ (t : Bool). On T (world timeout stage ring (cond t units (buffer_at i buffer units)) lent response)) (sym (rest_free r))
    (rests r eight codes (different_lent i buffer u) (all_lent i buffer (λ st p. (fresh_lent buffer st p.0, sound_lent buffer st p.1)) a))
lends_unit_on i buffer (submitted f framed codes u a) = submitted f framed codes (different_lent i buffer u) (all_lent i buffer (λ st p. (fresh_lent buffer st p.0, sound_lent buffer st p.1)) a)
lends_unit_on i buffer (ended eight codes u a) = ended eight codes (different_lent i buffer u) (all_lent i buffer (λ st p. (p.0, sound_lent buffer st p.1)) a)
lends_unit_on i buffer (runs f found x codes) = runs f found (lends_unit_in i buffer x) codes

pub on_called : {T : Moment} {w : World} → On T w → (call : Call) → On T (called w call)
on_called o (host i call) = host_called i call o
on_called o (submits k d buffer range bytes) = submit_called o k d buffer range bytes
on_called {w = w} o (acknowledges code h) = acknowledge_by (is_marked code (live w.controller.ring)) code h refl o
on_called o (lends d response) = lends_on d response o
on_called o (lends_unit i buffer) = lends_unit_on i buffer o

-- In a frame a call leaves the frame: a submission is refused, and the ring is not the frame's.
acknowledge_in : {T : Moment} (t : Bool) {f : Frame} {found : List ℕ} {w : World} (code : ℕ) (h : code < 256) → is_marked code (live w.controller.ring) ≡ t → InFrame T f found w → InFrame T f found (called w (acknowledges code h))
acknowledge_in {T} true {f} {found} {w} code h e x =
    let s : acknowledging w.controller code ≡ gives done = rw e in
    subst
    (λ (a : Answer Done). InFrame T f found (record { controller = kept a (without_mark w.controller code) w.controller; units = w.units; lent = w.lent; response = w.response }))
    (sym s) (frame_ring (ring_of (with_mark false code (live w.controller.ring))) x)
acknowledge_in {T} false {f} {found} {w} code h e x =
    let s : acknowledging w.controller code ≡ refused 8 = rw e in
    subst (λ (a : Answer Done). InFrame T f found (record { controller = kept a (without_mark w.controller code) w.controller; units = w.units; lent = w.lent; response = w.response })) (sym s) x

pub in_frame_called : {T : Moment} {f : Frame} {found : List ℕ} {w : World} (call : Call) → InFrame T f found w → InFrame T f (found_after w call found) (called w call)
in_frame_called (host i call) x = frame_called i call x
in_frame_called {T} {f} {found} {w} (submits k d buffer range bytes) x = subst (InFrame T f found) (sym (not_idle w k d buffer range bytes (frame_busy x))) x
in_frame_called {w = w} (acknowledges code h) x = acknowledge_in (is_marked code (live w.controller.ring)) code h refl x
in_frame_called (lends d response) x = lends_in d response x
in_frame_called (lends_unit i buffer) x = lends_unit_in i buffer x

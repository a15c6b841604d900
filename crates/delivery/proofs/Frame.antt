-- A frame from the round in which it begins: each round leads from one stage to the next, or ends the frame as the whole-message
-- definition says.
use Prim.Native.Nat.{ℕ, suc, ◌+◌, ◌-◌, ◌*◌, ◌/◌, ◌<◌, ◌≤◌}
use native.Mathlib.Omega.{arith}
use mathlib.Core.Path.{◌≡◌, refl, sym, ◌∙◌, ap, subst}
use mathlib.Core.Bool.{Bool, true, false, cond, not, ◌&&◌, ◌||◌, true≢false}
use mathlib.Core.List.{List}
use borrow.Author.Tests.{le-ltb, ltb-true, ltb-false, leb-false}
use lib.Dec.{ltb, leb, lit<}
use lib.ListN.{length, set, length-set}
use Rattle.answer.specs.Answer.{nothing_taken, buffer_with, byte_buffer, body_buffer, is_data}
use Rattle.answer.specs.declared.Partial.{Partial}
use Rattle.answer.specs.declared.Response.{Response}
use Rattle.answer.specs.declared.Response.TheVariants.{Taking, Complete, TooLarge}
use Rattle.bus.specs.Bus.{levels_with, station_step, units_after, unit_after, is_odd}
use Rattle.bus.specs.declared.Station.{Station}
use Rattle.controller.specs.Calls.{controller_stepped, buffer_after}
use Rattle.controller.specs.Controller.{controller_of, is_idle, ring_after, frame_of}
use Rattle.controller.specs.declared.Controller.{Controller}
use Rattle.field.specs.Field.{byte_from}
use Rattle.frame.specs.Frame.{begun, data_of, last_nibble, frame_buffer, listening_buffer, is_submitted, stays, over, lent_at, lent_to, next_nibble}
use Rattle.frame.specs.declared.Frame.{Frame}
use Rattle.std.specs.Prelude.{Ok}
use Rattle.frame.specs.declared.Moved.{Moved}
use Rattle.frame.specs.declared.Stage.{Stage}
use Rattle.frame.specs.declared.Stage.TheVariants.{Sending, Listening}
use Rattle.header.specs.declared.Command.{Command}
use Rattle.inside.specs.Inside.{Inside, reply_for}
use Rattle.kind.specs.Kinds.{kind_of, is_short}
use Rattle.kind.proofs.Laws.{roomy}
use Rattle.line.specs.Line.{taken_of, send_of, sent_of, listener_hsk, sender_hsk}
use Rattle.line.specs.declared.Lines.{Lines}
use Rattle.line.specs.declared.Listener.{Listener}
use Rattle.line.specs.declared.Listener.TheVariants.{Ready}
use Rattle.line.specs.declared.Sender.{Sender}
use Rattle.line.specs.declared.Sender.TheVariants.{Next, Kept}
use Rattle.message.specs.Answer.{gives, refused}
use Rattle.message.specs.Nibbles.{nibble_in}
use Rattle.phase.specs.Phase.{phase_step}
use Rattle.phase.specs.declared.Phase.{Phase}
use Rattle.phase.specs.declared.Phase.TheVariants.{Selecting}
use Rattle.ring.specs.declared.Ring.{Ring}
use Rattle.serial.specs.declared.Reply.{Reply}
use Rattle.unit.specs.Unit.{pulls_hsk, pulls_nibble, low_step, high_step}
use Rattle.whole.specs.Whole.{bytes_for}
use Rattle.whole.proofs.Whole.{length_bytes}
use Rattle.delivery.proofs.Moves.{Becomes, in_front, behind, Falls}
use Rattle.delivery.proofs.Stages.{is_responding, Speaking, Hushed, not_its_own, by_the_rule, addressed, answers, sits, Framed, Fresh, Goes, InFrame, Noted, Part, Sends, Sits, Sound, Spoke, Talk, answered, begins, hears, idles, listens, moved_in, on, s_next, selects, sends, unanswered, waits, world, talks, s_placed, s_kept}
use Rattle.delivery.specs.Ends.{place, phase_left, units_left, controller_free, units_free, is_free, listening, left}
use Rattle.delivery.proofs.Taking.{f_next, Heard, h_none, h_first, h_byte, h_half}
use Rattle.delivery.specs.Lists.{All, One, none, also, this, that}
use Rattle.delivery.proofs.Promised.{Moment, Promised}
use Rattle.delivery.specs.World.{World, Busy, levels, round, Different, nobody, another}
use Rattle.delivery.proofs.Lines.{hsk_high_lem, bav_kept, nibble-kept}
use Rattle.delivery.proofs.Lists.{all_map, all_step}
use Rattle.delivery.proofs.Ends.{falls, and_left, and_right, free_step, part_lets_go}
use Rattle.delivery.proofs.Talk.{talk_left, talk_left_lem, place_kept, place_some, place_most}
use Rattle.reply.specs.Reply.{is_silent, last_nibble as last_nibble_of}
use Rattle.delivery.proofs.Promise.{last-is as last_fits, answer-fits}
use Rattle.delivery.proofs.Listening.{sits_step, one_known, Heard', goes_on, comes_to_its_end, heard-nibble, units-heard, still-nibble, still-hsk, units-sit, hearing}
use Rattle.delivery.proofs.Part.{Stepped, low_step_lem}
use Rattle.delivery.proofs.Stage.{cond-length, sound_low, sends_on, sending, sent-nibble, units-rest, units-sent, units-over}
use Rattle.delivery.proofs.Turned.{Answering, somebody, nobody_does, answering}

pub fresh_hsk : {st : Station} → Fresh st → pulls_hsk st.unit.phase ≡ false
fresh_hsk (idles e) = ap pulls_hsk e
fresh_hsk (selects e) = ap pulls_hsk e

pub fresh_nibble : {st : Station} → Fresh st → pulls_nibble st.unit.phase ≡ 15
fresh_nibble (idles e) = ap pulls_nibble e
fresh_nibble (selects e) = ap pulls_nibble e

-- With BAV low and HSK high it selects, or goes on to.
pub fresh_selects : {st st' : Station} {seen : Lines} {busy : Bool} → Stepped st seen busy st' → seen.hsk ≡ false → Fresh st → st'.unit.phase ≡ Selecting Ready false 0
fresh_selects {st} {st'} {seen} {busy} s h (idles e) =
    s.phase ∙ ap (λ (x : Phase). (phase_step x st.unit.own st.unit.serial seen busy st.buffer st.input).phase) e ∙ rw h
fresh_selects {st} {st'} {seen} {busy} s h (selects e) =
    s.phase ∙ ap (λ (x : Phase). (phase_step x st.unit.own st.unit.serial seen busy st.buffer st.input).phase) e ∙ rw h

-- What the lines show as a frame begins.
pub begin_nibble : {units : List Station} → All (λ (st : Station). Fresh st × Sound st) units → (levels_with (sending Next) units).nibble < 16
begin_nibble a = subst (λ (x : ℕ). x < 16) (sym (nibble-kept (sending Next) (lit< tt) (all_map (λ st p. fresh_nibble p.0) a))) (lit< tt)

pub begin_high : {units : List Station} → All (λ (st : Station). Fresh st × Sound st) units → (levels_with (sending Next) units).hsk ≡ false
begin_high a = hsk_high_lem (sending Next) refl (all_map (λ st p. fresh_hsk p.0) a)

-- A step of the controller in a frame that is not refused.
pub control : (c : Controller) (seen : Lines) (host : Bool) (lent response : List ℕ) → seen.nibble < 16 → lent_at c.stage (length lent) (length response) ≡ Ok tt → is_idle c.stage ≡ false
    → controller_stepped c seen host lent response ≡ controller_of c.timeout (frame_of c seen host lent).stage (ring_after c.ring (frame_of c seen host lent).end)
control c seen host lent response n e i = let a : ltb 15 seen.nibble ≡ false = le-ltb 15 seen.nibble (omega arith) in rw (a, e, i)

control_buffer : (c : Controller) (seen : Lines) (host : Bool) (lent response : List ℕ) → seen.nibble < 16 → lent_at c.stage (length lent) (length response) ≡ Ok tt
    → buffer_after c seen host lent response ≡ frame_buffer c.stage seen response
control_buffer c seen host lent response n e = let a : ltb 15 seen.nibble ≡ false = le-ltb 15 seen.nibble (omega arith) in rw (a, e)

-- A unit keeps its code.
pub own_kept : (st : Station) (seen : Lines) (busy : Bool) → (station_step st seen busy).unit.own ≡ st.unit.own
own_kept st seen busy = by (ltb 15 seen.nibble) (is_short (kind_of st.unit.own) (length st.buffer) (length st.output)) seen.bav
  where
    by : (a b c : Bool) → (unit_after
        (cond a (refused 5) (cond b (refused 11) (gives (cond c (low_step st.unit seen.hsk (phase_step st.unit.phase st.unit.own st.unit.serial seen busy st.buffer st.input)) (high_step st.unit seen.hsk)))))
        st.unit).own ≡ st.unit.own
    by true b c = refl
    by false true c = refl
    by false false true = refl
    by false false false = refl

apart_kept : (code : ℕ) (seen : Lines) (hosts : ℕ) {ss : List Station} → All (λ (x : Station). x.unit.own ≡ code → ⊥) ss → All (λ (x : Station). x.unit.own ≡ code → ⊥) (units_after seen hosts ss)
apart_kept code seen hosts a = all_step seen (λ st busy p e. p (sym (own_kept st seen busy) ∙ e)) hosts a

pub different_kept : (seen : Lines) (hosts : ℕ) {ss : List Station} → Different ss → Different (units_after seen hosts ss)
different_kept seen hosts nobody = nobody
different_kept seen hosts (another {st = st} a d) =
    another (all_map (λ x p e. p (e ∙ own_kept st seen (is_odd hosts))) (apart_kept st.unit.own seen (hosts / 2) a)) (different_kept seen (hosts / 2) d)

hushed_kept : {T : Moment} {c : Command} {d : List ℕ} (seen : Lines) (hosts : ℕ) {ss : List Station} → All (Hushed T c d) ss → All (Hushed T c d) (units_after seen hosts ss)
hushed_kept {T} {c} {d} seen hosts a = all_step seen (λ st busy p. by st busy p) hosts a
  where
    by : (st : Station) (busy : Bool) → Hushed T c d st → Hushed T c d (station_step st seen busy)
    by st busy (not_its_own e) = not_its_own (ap (addressed c) (own_kept st seen busy) ∙ e)
    by st busy (by_the_rule given t e) = by_the_rule given (subst (λ (own : ℕ). T own given) (sym (own_kept st seen busy)) t) (ap (λ (own : ℕ). is_silent (reply_for own given c d)) (own_kept st seen busy) ∙ e)

-- Who responds in a round.
pub fresh_quiet : {st : Station} → Fresh st → is_responding st.unit.phase ≡ false
fresh_quiet (idles e) = ap is_responding e
fresh_quiet (selects e) = ap is_responding e

heard_quiet : {bytes : List ℕ} {ear : Listener} {k : ℕ} {phase : Phase} {buffer : List ℕ} → Heard bytes ear k phase buffer → is_responding phase ≡ false
heard_quiet (h_none room) = refl
heard_quiet (h_first room) = refl
heard_quiet (h_byte j buffer room g h) = refl
heard_quiet (h_half j buffer room g h) = refl

pub part_quiet : {P : Reply → Inside → Type 0} {c : Command} {d : List ℕ} {i : ℕ} {sender : Sender} {st : Station} → Part P c d i sender st → is_responding st.unit.phase ≡ false
part_quiet (listens ear t f h a q) = heard_quiet h
part_quiet (answers ear r f l a e k q) = ap is_responding e
part_quiet (sits now a e k q) = ap is_responding e

pub becomes_all : {P : Station → Type 0} {seen : Lines} {hosts : ℕ} {ss : List Station} {st after : Station} → All P ss → Becomes seen hosts ss st after → P st
becomes_all none b = elim b [ ]
becomes_all (also p a) in_front = p
becomes_all {seen = seen} {hosts = hosts} (also p a) (behind b) = becomes_all {hosts = hosts / 2} a b

nobody_speaks : {seen : Lines} {hosts : ℕ} {ss : List Station} → All (λ (st : Station). is_responding st.unit.phase ≡ false) ss
    → (st after : Station) → Becomes seen hosts ss st after → is_responding st.unit.phase ≡ true → is_responding after.unit.phase ≡ true
nobody_speaks a st after b e = absurd (true≢false (sym e ∙ becomes_all a b))

pub talk_responds : {T : Moment} {c : Command} {d : List ℕ} {stores : Bool} {found : List ℕ} {ear : Listener} {taken : Response} {quiet : ℕ} {buffer : List ℕ} {st : Station}
    → Talk T c d stores found ear taken quiet buffer st → is_responding st.unit.phase ≡ true
talk_responds (talks r j t sender wait e p fits g b l w z q own) = ap is_responding e

sits_quiet : {st : Station} → Sits st × Sound st → is_responding st.unit.phase ≡ false
sits_quiet p = ap is_responding p.0.0

-- One unit responds before the round and one behind it: it is the same.
module _
    {P : Station → Type 0} (seen : Lines) (responds : (st : Station) → P st → is_responding st.unit.phase ≡ true)
    (rest : (st : Station) (host : Bool) → Sits st × Sound st → Sits (station_step st seen host) × Sound (station_step st seen host))
  where
    nobody-new : (hosts : ℕ) {ss : List Station} → All (λ (st : Station). Sits st × Sound st) ss → One P (λ (st : Station). Sits st × Sound st) (units_after seen hosts ss) → ⊥
    nobody-new hosts none o = elim o [ ]
    nobody-new hosts (also {x = st} p a) (this {x = after} q b) = true≢false (sym (responds after q) ∙ sits_quiet (rest st (is_odd hosts) p))
    nobody-new hosts (also p a) (that q o) = nobody-new (hosts / 2) a o

still_speaks : {Q P : Station → Type 0} (seen : Lines) (hosts : ℕ) → ((st : Station) → P st → is_responding st.unit.phase ≡ true)
    → ((st : Station) (host : Bool) → Sits st × Sound st → Sits (station_step st seen host) × Sound (station_step st seen host)) → {ss : List Station}
    → One Q (λ (st : Station). Sits st × Sound st) ss → One P (λ (st : Station). Sits st × Sound st) (units_after seen hosts ss)
    → (st after : Station) → Becomes seen hosts ss st after → is_responding st.unit.phase ≡ true → is_responding after.unit.phase ≡ true
still_speaks seen hosts responds rest (this p a) (this {x = x} q b) st after in_front e = responds x q
still_speaks seen hosts responds rest (this p a) (this q b) st after (behind k) e = absurd (true≢false (sym e ∙ sits_quiet (becomes_all a k)))
still_speaks seen hosts responds rest (this p a) (that q o) st after k e = absurd (nobody-new seen responds rest (hosts / 2) a o)
still_speaks seen hosts responds rest (that {x = x} p o) (this {x = y} q b) st after k e = absurd (true≢false (sym (responds y q) ∙ sits_quiet (rest x (is_odd hosts) p)))
still_speaks seen hosts responds rest (that p o) (that q o') st after in_front e = absurd (true≢false (sym e ∙ sits_quiet p))
still_speaks seen hosts responds rest (that p o) (that q o') st after (behind k) e = still_speaks seen (hosts / 2) responds rest o o' st after k e

go_on : {T : Moment} {f : Frame} {found : List ℕ} {w v : World} {busy : Busy} → round w busy ≡ v → v.controller.ring ≡ w.controller.ring → InFrame T f found v → Speaking w busy
    → Falls (is_free w busy) (left v) (left w) → Goes T f found w busy
go_on {T} {f} {found} {w} {busy = busy} eq r y speaks less = on (ap (λ (x : World). x.controller.ring) eq ∙ r) (subst (InFrame T f found) (sym eq) y) speaks (subst (λ (x : World). Falls (is_free w busy) (left x) (left w)) (sym eq) less)

-- What falls in rounds of which less is asked falls in these too.
falls_by : {free wide : Bool} {now before : ℕ} → (free ≡ true → wide ≡ true) → Falls wide now before → Falls free now before
falls_by f l = (l.0, λ e. l.1 (f e))

-- The rounds that are left: the nibble under way comes nearer to being sent, or is held by somebody whose host is busy.
place_falls : {n : ℕ} {sender : Sender} (free low now : Bool) → Sends n sender → sent_of sender low ≡ false → ((m : ℕ) → sender ≡ Kept m → free ≡ true → now ≡ false) → Falls free (place (send_of sender low n) now) (place sender low)
place_falls free low now s_next e k = falls (omega arith)
place_falls {n} free low now s_placed e k = falls (place_kept n now)
place_falls {n} free true now s_kept e k = (let l = place_kept n now in omega arith, λ g. subst (λ (x : Bool). place (Kept n) x < 2) (sym (k n refl g)) (omega arith))
place_falls free false now s_kept e k = absurd (true≢false e)

pub sits_left : {ss : List Station} (low : Bool) (rest : ℕ) → All (λ (st : Station). Sits st × Sound st) ss → units_left ss low rest ≡ rest
sits_left low rest none = refl
sits_left low rest (also {x = st} {xs = ss} p a) = ap (λ (x : Phase). phase_left x st.unit.serial.input low (units_left ss low rest)) p.0.0 ∙ sits_left low rest a

talk_bound : {T : Moment} {c : Command} {d : List ℕ} {stores : Bool} {found : List ℕ} {ear : Listener} {taken : Response} {quiet : ℕ} {buffer : List ℕ} (st : Station)
    → Talk T c d stores found ear taken quiet buffer st → talk_left ear st ≤ 4 * (2 * (3 + c.buffer_length)) + 1
talk_bound {c} {ear = ear} st (talks r j t sender wait e p fits g b l w z q own) =
    let last = last_fits p in
    let short = (answer-fits p).fits in
    let n : talk_left ear st ≡ 4 * (last_nibble_of st.unit.serial.input r - j) + place sender (listener_hsk ear || sender_hsk sender) + cond wait 1 0 = talk_left_lem ear st e in
    let four : place sender (listener_hsk ear || sender_hsk sender) ≤ 4 = place_most sender (listener_hsk ear || sender_hsk sender) in
    let one : cond wait 1 0 ≤ 1 = flag wait in
    omega arith
  where
    flag : (b : Bool) → cond b 1 0 ≤ 1
    flag true = omega arith
    flag false = omega arith

pub one_bound : {T : Moment} (f : Frame) {d found : List ℕ} {most : ℕ} {taken : Response} {quiet : ℕ} {buffer : List ℕ} {ear : Listener} {ss : List Station} → 4 * (2 * (3 + f.command.buffer_length)) + 1 < most
    → One (λ (st : Station). Talk T f.command d (is_submitted f.kind) found ear taken quiet buffer st × Sound st) (λ (st : Station). Sits st × Sound st) ss
    → One (λ (st : Station). (Talk T f.command d (is_submitted f.kind) found ear taken quiet buffer st × (talk_left ear st < most)) × Sound st) (λ (st : Station). Sits st × Sound st) ss
one_bound f h (this {x = st} p a) = this ((p.0, (let b = talk_bound st p.0 in omega arith)), p.1) a
one_bound f h (that q o) = that q (one_bound f h o)

begin_less : (n l : ℕ) → 4 * (n - 0) + 4 + 0 + l < 4 * (n - 0) + 4 + 1 + l
begin_less n l = omega arith

leb_less : (a b : ℕ) → leb a b ≡ false → b < a
leb_less a b e = leb-false a b e

-- No step of the controller changes the length of the response buffer.
put_length : (p : Partial) (x : ℕ) (stores : Bool) (b : List ℕ) → length (byte_buffer p x stores b) ≡ length b
put_length p x stores b =
    cond-length (ltb p.place 2) b (body_buffer p x stores b) (length b) refl
    (cond-length stores (cond (is_data p) (set b (p.place - 2) x) b) b (length b) (cond-length (is_data p) (set b (p.place - 2) x) b (length b) (length-set b (p.place - 2) x) refl) refl)

taken-length : (r : Response) (nibble : ℕ) (stores : Bool) (b : List ℕ) → length (buffer_with r nibble stores b) ≡ length b
taken-length (Taking p) nibble stores b = cond-length p.half (byte_buffer p (byte_from p.low nibble) stores b) b (length b) (put_length p (byte_from p.low nibble) stores b) refl
taken-length (Complete s k) nibble stores b = refl
taken-length TooLarge nibble stores b = refl

heard_length : (f : Frame) (ear : Listener) (taken : Response) (seen : Lines) (b : List ℕ) → length (listening_buffer f ear taken seen b) ≡ length b
heard_length f ear taken seen b = cond-length (taken_of ear seen.hsk) (buffer_with taken seen.nibble (is_submitted f.kind) b) b (length b) (taken-length taken seen.nibble (is_submitted f.kind) b) refl

module _ (T : Moment) (f : Frame) (found : List ℕ) (timeout : ℕ) (ring : Ring) (units : List Station) (lent : List ℕ) (framed : Framed f lent found timeout) (different : Different units) (busy : Busy) where
  abbrev c : Command
  c = f.command

  abbrev d : List ℕ
  d = data_of f lent

  abbrev total : ℕ
  total = 2 * length (bytes_for c d)

  -- The world after a round, from what the controller's step comes to.
  after : (stage stage' : Stage) (response response' : List ℕ) → let w = world timeout stage ring units lent response in (levels w).nibble < 16 → lent_at stage (length lent) (length response) ≡ Ok tt → is_idle stage ≡ false
      → moved_in w busy ≡ stays stage' → frame_buffer stage (levels w) response ≡ response'
      → round w busy ≡ world timeout stage' ring (units_after (levels w) busy.there units) lent response'
  after stage stage' response response' n l i m b =
      let w = world timeout stage ring units lent response in
      let c1 = control w.controller (levels w) busy.here lent response n l i ∙ ap (λ (x : Moved). controller_of timeout x.stage (ring_after ring x.end)) m in
      let b1 = control_buffer w.controller (levels w) busy.here lent response n l ∙ b in
      λ k. record { controller = c1 k; units = units_after (levels w) busy.there units; lent = lent; response = b1 k }

  -- The frame begins: every unit selects.
  begin-round : All (λ (st : Station). Fresh st × Sound st) units → Goes T f found (world timeout (begun f) ring units lent found) busy
  begin-round a =
      let seen = levels_with (sending Next) units in
      let small = begin_nibble a in
      let high = begin_high a in
      let low : seen.bav ≡ true = bav_kept (sending Next) units refl in
      let long : length (bytes_for c d) ≡ 9 + length d = length_bytes c d in
      go_on (after (begun f) (Sending f 0 Next false) found found small framed.fits refl refl refl) refl (sends 0 Next framed (different_kept seen busy.there different) s_next (omega arith)
      (all_step seen (λ st host p.
      let step = low_step_lem st seen host small p.1.room low in
      let ok = sound_low step p.1 in (
        listens Ready 0 f_next
            (subst (λ (x : Phase). Heard (bytes_for c d) Ready 0 x (station_step st seen host).buffer) (sym (fresh_selects step high p.0)) (h_none (roomy (kind_of (station_step st seen host).unit.own) (length (station_step st seen host).buffer) (length (station_step st seen host).output) ok.room)))
            (λ l. absurd (omega arith)) (λ l. absurd (omega arith)),
        ok,
      )) busy.there a)) (nobody_speaks (all_map (λ st p. fresh_quiet p.0) a)) (falls (begin_less (last_nibble f) (listening f timeout)))

  plain-one : {X : Station → Type 0} {taken : Response} {quiet : ℕ} {buffer : List ℕ} {ear : Listener} {ss : List Station}
      → One (λ (st : Station). (Talk T c d (is_submitted f.kind) found ear taken quiet buffer st × X st) × Sound st) (λ (st : Station). Sits st × Sound st) ss
      → One (λ (st : Station). Talk T c d (is_submitted f.kind) found ear taken quiet buffer st × Sound st) (λ (st : Station). Sits st × Sound st) ss
  plain-one (this p a) = this (p.0.0, p.1) a
  plain-one (that q o) = that q (plain-one o)

  -- A round while the command is sent.
  module _
      (i : ℕ) (sender : Sender) (s : Sends (nibble_in (bytes_for c d) i) sender) (less : i < total)
      (a : All (λ (st : Station). Part (Promised T st.unit.own c d) c d i sender st × Sound st) units)
      (noted : Noted T (world timeout (Sending f i sender false) ring units lent found) busy)
    where
      abbrev w : World
      w = world timeout (Sending f i sender false) ring units lent found

      abbrev seen : Lines
      seen = levels_with (sending sender) units

      small : seen.nibble < 16
      small = sent-nibble T c d framed.sent i sender units busy.there s a

      abbrev whenNot : Stage
      whenNot = Sending f i (send_of sender seen.hsk (nibble_in (bytes_for c d) i)) false

      last-is : last_nibble f ≡ total - 1
      last-is = let l : length (bytes_for c d) ≡ 9 + length d = length_bytes c d in let n = framed.announced in omega arith

      -- Beside a kept nibble all units let go, if the round is free.
      all-let-go : (m : ℕ) → sender ≡ Kept m → is_free w busy ≡ true → (levels_with (sending (Kept m)) (units_after seen busy.there units)).hsk ≡ false
      all-let-go m e free =
          hsk_high_lem (sending (Kept m)) refl
          (free_step seen (λ st host x p. part_lets_go (low_step_lem st seen host small p.1.room (bav_kept (sending sender) units refl)) x (subst (λ (k : Sender). Part (Promised T st.unit.own c d) c d i k st) e p.0))
          busy.there (and_right (controller_free (Sending f i sender false) busy.here) (units_free busy.there units) free) a)

      send-falls : sent_of sender seen.hsk ≡ false
          → Falls (is_free w busy) (4 * (last_nibble f - i) + place (send_of sender seen.hsk (nibble_in (bytes_for c d) i)) (levels_with (sending (send_of sender seen.hsk (nibble_in (bytes_for c d) i))) (units_after seen busy.there units)).hsk + 0 + listening f timeout)
          (4 * (last_nibble f - i) + place sender seen.hsk + 0 + listening f timeout)
      send-falls e =
          let k = send_of sender seen.hsk (nibble_in (bytes_for c d) i) in
          let now = (levels_with (sending k) (units_after seen busy.there units)).hsk in
          let less : Falls (is_free w busy) (place k now) (place sender seen.hsk) =
          place_falls (is_free w busy) seen.hsk now s e (λ m g free. ap (λ (x : Sender). (levels_with (sending x) (units_after seen busy.there units)).hsk) (kept-stays m g e) ∙ all-let-go m g free) in
          let most = less.0 in
          (omega arith, λ free. let l = less.1 free in omega arith)
        where
          stays_by : (low : Bool) (x : Sender) (m : ℕ) → x ≡ Kept m → sent_of x low ≡ false → send_of x low (nibble_in (bytes_for c d) i) ≡ Kept m
          stays_by true x m g e = ap (λ (y : Sender). send_of y true (nibble_in (bytes_for c d) i)) g
          stays_by false x m g e = absurd (true≢false (sym (ap (λ (y : Sender). sent_of y false) g) ∙ e))

          kept-stays : (m : ℕ) → sender ≡ Kept m → sent_of sender seen.hsk ≡ false → send_of sender seen.hsk (nibble_in (bytes_for c d) i) ≡ Kept m
          kept-stays m g e = stays_by seen.hsk sender m g e

      send-round : (t u : Bool) → sent_of sender seen.hsk ≡ t → ltb i (last_nibble f) ≡ u → Goes T f found w busy
      send-round false u e g =
          let m : moved_in w busy ≡ stays whenNot = ap (λ (x : Bool). stays (cond x (next_nibble f i) whenNot)) e in
          go_on (after (Sending f i sender false) whenNot found found small framed.fits refl m refl) refl
          (sends i (send_of sender seen.hsk (nibble_in (bytes_for c d) i)) framed (different_kept seen busy.there different) (sends_on seen.hsk s e) less (units-rest T c d framed.sent i sender units busy.there s a noted e less))
          (nobody_speaks (all_map (λ st p. part_quiet p.0) a)) (send-falls e)
      send-round true true e g =
          let more : i < last_nibble f = ltb-true i (last_nibble f) g in
          let l = last-is in
          let next : i + 1 ≡ suc i = omega arith in
          let m : moved_in w busy ≡ stays (Sending f (suc i) Next false) =
          ap (λ (x : Bool). stays (cond x (next_nibble f i) whenNot)) e ∙ ap (λ (x : Bool). stays (cond x (Sending f (i + 1) Next false) (Listening f Ready nothing_taken 0))) g ∙ ap (λ (x : ℕ). stays (Sending f x Next false)) next in
          go_on (after (Sending f i sender false) (Sending f (suc i) Next false) found found small framed.fits refl m refl) refl
          (sends (suc i) Next framed (different_kept seen busy.there different) s_next (omega arith) (units-sent T c d framed.sent i sender units busy.there s a e (omega arith)))
          (nobody_speaks (all_map (λ st p. part_quiet p.0) a)) (falls (let some = place_some sender seen.hsk in omega arith))
      send-round true false e g =
          let least : last_nibble f ≤ i = ltb-false i (last_nibble f) g in
          let l = last-is in
          let m : moved_in w busy ≡ stays (Listening f Ready nothing_taken 0) =
          ap (λ (x : Bool). stays (cond x (next_nibble f i) whenNot)) e ∙ ap (λ (x : Bool). stays (cond x (Sending f (i + 1) Next false) (Listening f Ready nothing_taken 0))) g in
          let d' = different_kept seen busy.there different in
          let eq = after (Sending f i sender false) (Listening f Ready nothing_taken 0) found found small framed.fits refl m refl in
          turn eq d' (answering T c d (is_submitted f.kind) found d' (units-over T c d framed.sent i sender units busy.there s a e (omega arith)))
        where
          turn : round w busy ≡ world timeout (Listening f Ready nothing_taken 0) ring (units_after seen busy.there units) lent found → Different (units_after seen busy.there units)
              → Answering T c d (is_submitted f.kind) found (units_after seen busy.there units) → Goes T f found w busy
          turn eq d' (somebody o) =
              go_on eq refl (hears Ready nothing_taken 0 framed d' refl o) (nobody_speaks (all_map (λ st p. part_quiet p.0) a))
              (falls (one_known (λ (x : ℕ). x < left w) (timeout - 0) (one_bound f (let some = place_some sender seen.hsk in omega arith) o)))
          turn eq d' (nobody_does b h) =
              go_on eq refl (waits 0 framed d' b h) (nobody_speaks (all_map (λ st p. part_quiet p.0) a))
              (falls (let k = sits_left (levels_with (hearing Ready) (units_after seen busy.there units)).hsk (timeout - 0) b in omega arith))

  -- A round while one unit responds.
  module _
      (ear : Listener) (taken : Response) (quiet : ℕ) (response : List ℕ) (long : length response ≡ length found)
      (o : One (λ (st : Station). Talk T c d (is_submitted f.kind) found ear taken quiet response st × Sound st) (λ (st : Station). Sits st × Sound st) units)
    where
      abbrev v : World
      v = world timeout (Listening f ear taken quiet) ring units lent response

      as_lent : lent_to f (length lent) (length response) ≡ Ok tt
      as_lent = ap (λ (x : ℕ). lent_to f (length lent) x) long ∙ framed.fits

      heard-small : (levels v).nibble < 16
      heard-small = heard-nibble T f d found timeout framed.eight framed.room busy.here busy.there ear taken quiet response units o

      hear-by : Heard' T f d found (moved_in v busy) (listening_buffer f ear taken (levels v) response) (not (listener_hsk ear && busy.here)) (units_left units (levels v).hsk (timeout - quiet)) units (units_after (levels v) busy.there units)
          → Goes T f found v busy
      hear-by (goes_on ear' taken' quiet' e o') =
          go_on (after (Listening f ear taken quiet) (Listening f ear' taken' quiet') response (listening_buffer f ear taken (levels v) response) heard-small as_lent refl e refl) refl
          (hears ear' taken' quiet' framed (different_kept (levels v) busy.there different) (heard_length f ear taken (levels v) response ∙ long) (plain-one o'))
          (still_speaks (levels v) busy.there (λ st p. talk_responds p.0) (λ st host p. sits_step (levels v) (bav_kept (hearing ear) units refl) heard-small st host p) o (plain-one o'))
          (falls_by (and_left (controller_free (Listening f ear taken quiet) busy.here) (units_free busy.there units)) (one_known (λ (x : ℕ). Falls (not (listener_hsk ear && busy.here)) x (left v)) (timeout - quiet') o'))
      hear-by (comes_to_its_end o') =
          let b : (round v busy).response ≡ listening_buffer f ear taken (levels v) response = control_buffer v.controller (levels v) busy.here lent response heard-small as_lent in
          answered (control v.controller (levels v) busy.here lent response heard-small as_lent refl) (different_kept (levels v) busy.there different)
          (subst (λ (x : List ℕ). One (λ (st : Station). Spoke T f d found (moved_in v busy) x units st × Sound st) (λ (st : Station). Sits st × Sound st) (units_after (levels v) busy.there units)) (sym b) o')

      hear-round : Goes T f found v busy
      hear-round = hear-by (units-heard T f d found timeout framed.eight framed.room busy.here busy.there ear taken quiet response units o)

  -- A round while nobody responds.
  module _ (quiet : ℕ) (a : All (λ (st : Station). Sits st × Sound st) units) (why : All (Hushed T c d) units) where
    abbrev u : World
    u = world timeout (Listening f Ready nothing_taken quiet) ring units lent found

    high : (levels u).hsk ≡ false
    high = still-hsk Ready busy.there units a

    silent-small : (levels u).nibble < 16
    silent-small = subst (λ (x : ℕ). x < 16) (sym (still-nibble Ready busy.there units a)) (lit< tt)

    same-buffer : frame_buffer (Listening f Ready nothing_taken quiet) (levels u) found ≡ found
    same-buffer = ap (λ (x : Bool). cond x (buffer_with nothing_taken (levels u).nibble (is_submitted f.kind) found) found) high

    waited-on : moved_in u busy ≡ cond (leb timeout (quiet + 1) || false) (over f nothing_taken) (stays (Listening f Ready nothing_taken (quiet + 1)))
    waited-on = rw high

    wait-round : (t : Bool) → leb timeout (quiet + 1) ≡ t → Goes T f found u busy
    wait-round true e =
        unanswered (control u.controller (levels u) busy.here lent found silent-small framed.fits refl) (waited-on ∙ ap (λ (x : Bool). cond (x || false) (over f nothing_taken) (stays (Listening f Ready nothing_taken (quiet + 1)))) e)
        (control_buffer u.controller (levels u) busy.here lent found silent-small framed.fits ∙ same-buffer) (different_kept (levels u) busy.there different)
        (units-sit Ready busy.there units a) (hushed_kept (levels u) busy.there why) (all_map (λ st p. p.0) a)
    wait-round false e =
        let m : moved_in u busy ≡ stays (Listening f Ready nothing_taken (quiet + 1)) = waited-on ∙ ap (λ (x : Bool). cond (x || false) (over f nothing_taken) (stays (Listening f Ready nothing_taken (quiet + 1)))) e in
        go_on (after (Listening f Ready nothing_taken quiet) (Listening f Ready nothing_taken (quiet + 1)) found found silent-small framed.fits refl m same-buffer) refl
        (waits (quiet + 1) framed (different_kept (levels u) busy.there different) (units-sit Ready busy.there units a) (hushed_kept (levels u) busy.there why))
        (nobody_speaks (all_map (λ st p. ap is_responding p.0.0) a)) (falls
        (let old = sits_left (levels u).hsk (timeout - quiet) a in
        let new = sits_left (levels_with (hearing Ready) (units_after (levels u) busy.there units)).hsk (timeout - (quiet + 1)) (units-sit Ready busy.there units a) in
        let less : quiet + 1 < timeout = leb_less timeout (quiet + 1) e in
        omega arith))

-- Every round of a frame.
pub frame_round : (T : Moment) (f : Frame) (found : List ℕ) {w : World} (busy : Busy) → Noted T w busy → InFrame T f found w → Goes T f found w busy
frame_round T f found busy noted (begins {timeout = timeout} {ring = ring} {units = units} {lent = lent} framed different a) = begin-round T f found timeout ring units lent framed different busy a
frame_round T f found busy noted (sends i sender {timeout = timeout} {ring = ring} {units = units} {lent = lent} framed different s less a) =
    send-round T f found timeout ring units lent framed different busy i sender s less a noted (sent_of sender (levels_with (sending sender) units).hsk) (ltb i (last_nibble f)) refl refl
frame_round T f found busy noted (hears ear taken quiet {timeout = timeout} {ring = ring} {units = units} {lent = lent} {response = response} framed different long o) =
    hear-round T f found timeout ring units lent framed different busy ear taken quiet response long o
frame_round T f found busy noted (waits quiet {timeout = timeout} {ring = ring} {units = units} {lent = lent} framed different a why) =
    wait-round T f found timeout ring units lent framed different busy quiet a why (leb timeout (quiet + 1)) refl

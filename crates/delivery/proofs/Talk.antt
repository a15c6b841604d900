-- The unit that responds, beside the controller that listens.
use Prim.Native.Nat.{ℕ, zero, suc, ◌+◌, ◌-◌, ◌*◌, ◌<◌, ◌≤◌}
use native.Mathlib.Omega.{arith}
use mathlib.Core.Path.{◌≡◌, refl, sym, ◌∙◌, ap, subst}
use mathlib.Core.Bool.{Bool, true, false, cond, not, ◌&&◌, ◌||◌, true≢false, false≢true}
use mathlib.Core.List.{List}
use borrow.Author.Tests.{lt-leb, ltb-true, ltb-false}
use lib.Dec.{ltb}
use lib.ListN.{length}
use Rattle.answer.specs.Answer.{taken_with, buffer_with, is_over}
use Rattle.answer.specs.declared.Response.{Response}
use Rattle.answer.specs.declared.Response.TheVariants.{Complete}
use Rattle.bus.specs.declared.Station.{Station}
use Rattle.frame.specs.Frame.{listening_step, listening_buffer, over, stays, waited, quiet_after, is_submitted}
use Rattle.frame.specs.declared.Frame.{Frame}
use Rattle.frame.specs.declared.Moved.{Moved}
use Rattle.frame.specs.declared.Stage.TheVariants.{Listening}
use Rattle.inside.specs.Inside.{Inside, inside_of, with_state, responded}
use Rattle.inside.proofs.Round.{inside_after}
use Rattle.line.specs.Line.{send_of, sent_of, hear_of, taken_of, is_ready, listener_hsk, sender_hsk, sender_nibble}
use Rattle.line.specs.declared.Lines.{Lines}
use Rattle.line.specs.declared.Listener.{Listener}
use Rattle.line.specs.declared.Listener.TheVariants.{Ready, Holding}
use Rattle.line.specs.declared.Sender.{Sender}
use Rattle.line.specs.declared.Sender.TheVariants.{Next, Placed, Kept}
use Rattle.message.specs.Nibbles.{nibble_in}
use Rattle.phase.specs.Phase.{phase_step, responding_step, moves}
use Rattle.phase.specs.declared.Moved.{Moved as Step}
use Rattle.phase.specs.declared.Phase.{Phase}
use Rattle.phase.specs.declared.Phase.TheVariants.{Responding, SittingOut}
use Rattle.queue.specs.Queue.{contents}
use Rattle.reply.specs.Reply.{reply_status, response_bytes, last_nibble}
use Rattle.serial.specs.Serial.{finished}
use Rattle.serial.specs.declared.Reply.{Reply}
use Rattle.unit.specs.Unit.{pulls_hsk, pulls_nibble}
use Rattle.whole.specs.Back.{taken_at, stored_at, length_of, received}
use Rattle.whole.proofs.Back.{response_completes, not-over-before, data_received}
use Rattle.delivery.proofs.Moves.{Falls}
use Rattle.delivery.proofs.Stages.{addressed, Quiet, Talk, answer_bytes, answer_data, talks}
use Rattle.delivery.specs.Ends.{place, phase_left}
use Rattle.delivery.proofs.Taking.{Fits, f_next, f_placed, f_holds, f_waits, Sees}
use Rattle.delivery.proofs.Promised.{Moment, Promised}
use Rattle.delivery.proofs.Ends.{falls}
use Rattle.delivery.proofs.Heard.{Pair, rests, takes, sends, pair}
use Rattle.delivery.proofs.Part.{Stepped}
use Rattle.delivery.proofs.Promise.{last-is, bytes-are, answer-fits, carried}

pub sees : {n t : ℕ} {sender : Sender} {ear : Listener} (seen : Lines) → Fits n sender ear t → seen.hsk ≡ (listener_hsk ear || sender_hsk sender) → seen.nibble ≡ sender_nibble sender → Sees sender ear seen.hsk seen.nibble
sees seen f_next h q = h
sees seen f_placed h q = (h, q)
sees seen f_holds h q = h
sees seen f_waits h q = tt

fits_ready : {n t : ℕ} {sender : Sender} {ear : Listener} → Fits n sender ear (suc t) → is_ready ear ≡ false
fits_ready f_holds = refl
fits_ready f_waits = refl

quiet_zero : (sender : Sender) → Quiet sender 0
quiet_zero Next = omega arith
quiet_zero (Placed n) = omega arith
quiet_zero (Kept n) = refl

quiet_rests : {n t : ℕ} {sender : Sender} {ear : Listener} (q : ℕ) (low : Bool) (seen : ℕ) → Fits n sender ear t → Sees sender ear low seen → taken_of ear low ≡ false
    → sent_of sender low ≡ false → Quiet sender q → Quiet (send_of sender low n) (quiet_after q low)
quiet_rests q true seen f_next e a b h = absurd (true≢false e)
quiet_rests q false seen f_next e a b h = omega arith
quiet_rests q true seen f_placed e a b h = absurd (true≢false a)
quiet_rests q false seen f_placed e a b h = absurd (false≢true e.0)
quiet_rests q true seen f_holds e a b h = refl
quiet_rests q false seen f_holds e a b h = absurd (false≢true e)
quiet_rests q true seen f_waits e a b h = refl
quiet_rests q false seen f_waits e a b h = absurd (true≢false b)

quiet_bound : (sender : Sender) (q : ℕ) → Quiet sender q → q ≤ 2
quiet_bound Next q h = omega arith
quiet_bound (Placed n) q h = h
quiet_bound (Kept n) q h = omega arith

quiet_kept : {n : ℕ} {sender : Sender} {ear : Listener} (q : ℕ) → Fits n sender ear 1 → Quiet sender q → q ≡ 0
quiet_kept q f_holds h = h
quiet_kept q f_waits h = h

and_false : (a : Bool) → (a && false) ≡ false
and_false true = refl
and_false false = refl

-- No round takes the end of a response further away, and each brings it nearer, but for one in which the controller holds HSK while its
-- host is busy.
pub place_kept : (n : ℕ) (low : Bool) → place (Kept n) low < 3
place_kept n true = omega arith
place_kept n false = omega arith

pub place_some : (sender : Sender) (low : Bool) → 1 ≤ place sender low
place_some Next low = omega arith
place_some (Placed n) low = omega arith
place_some (Kept n) true = omega arith
place_some (Kept n) false = omega arith

pub place_most : (sender : Sender) (low : Bool) → place sender low ≤ 4
place_most Next low = omega arith
place_most (Placed n) low = omega arith
place_most (Kept n) true = omega arith
place_most (Kept n) false = omega arith

place_rests : {n t : ℕ} {sender : Sender} {ear : Listener} (low host : Bool) → Fits n sender ear t → low ≡ (listener_hsk ear || sender_hsk sender) → taken_of ear low ≡ false → sent_of sender low ≡ false
    → Falls (not (listener_hsk ear && host)) (place (send_of sender low n) (listener_hsk (hear_of ear low host) || sender_hsk (send_of sender low n))) (place sender (listener_hsk ear || sender_hsk sender))
place_rests low host f_next h a b = falls (omega arith)
place_rests low host f_placed h a b = absurd (true≢false (sym h ∙ a))
place_rests true true f_holds h a b = (omega arith, λ e. absurd (false≢true e))
place_rests true false f_holds h a b = falls (omega arith)
place_rests false host f_holds h a b = absurd (false≢true h)
place_rests true host f_waits h a b = absurd (true≢false h)
place_rests false host f_waits h a b = absurd (true≢false b)

place_takes : {n t : ℕ} {sender : Sender} {ear : Listener} (low now : Bool) → Fits n sender ear t → low ≡ (listener_hsk ear || sender_hsk sender) → taken_of ear low ≡ true
    → place (send_of sender low n) now < place sender (listener_hsk ear || sender_hsk sender)
place_takes low now f_next h a = absurd (false≢true (sym h ∙ a))
place_takes {n} low now f_placed h a = place_kept n now
place_takes low now f_holds h a = absurd (false≢true a)
place_takes low now f_waits h a = absurd (false≢true a)

-- How many rounds a response still takes at most.
abbrev pub talk_left : Listener → Station → ℕ
talk_left ear st = phase_left st.unit.phase st.unit.serial.input (listener_hsk ear || pulls_hsk st.unit.phase) 0

pub talk_left_lem : (ear : Listener) (st : Station) {r : Reply} {j : ℕ} {sender : Sender} {wait : Bool} → st.unit.phase ≡ Responding r j sender wait
    → talk_left ear st ≡ 4 * (last_nibble st.unit.serial.input r - j) + place sender (listener_hsk ear || sender_hsk sender) + cond wait 1 0
talk_left_lem ear st e = ap (λ (x : Phase). phase_left x st.unit.serial.input (listener_hsk ear || pulls_hsk x) 0) e

-- What a round of the controller and of the unit that responds comes to, where the response took at most `most` rounds before; `free`:
-- the controller does not hold HSK for a busy host.
pub data Talked (T : Moment) (f : Frame) (d : List ℕ) (found : List ℕ) (m : Moved) (buffer : List ℕ) (free : Bool) (most : ℕ) (before st : Station) : Type 0 where
  still :
      (ear : Listener) (taken : Response) (quiet : ℕ) → m ≡ stays (Listening f ear taken quiet) → Talk T f.command d (is_submitted f.kind) found ear taken quiet buffer st → Falls free (talk_left ear st) most
      → Talked T f d found m buffer free most before st
  done :
      (r : Reply) (j : ℕ) (sender : Sender) → before.unit.phase ≡ Responding r j sender false → (p : Promised T before.unit.own f.command d r (inside_of before)) → m ≡ over f (Complete (reply_status r) (length (answer_data p)))
      → buffer ≡ received (is_submitted f.kind) (answer_data p) found → st.unit.phase ≡ SittingOut false → inside_of st ≡ responded (inside_of before) r → st.unit.asking ≡ false
      → st.unit.own ≡ before.unit.own → addressed f.command before.unit.own ≡ true
      → Talked T f d found m buffer free most before st

module _ (T : Moment) (f : Frame) (d found : List ℕ) (timeout : ℕ) (eight : 8 ≤ timeout) (room : f.command.buffer_length ≤ length found) (st st' : Station) (seen : Lines) (host busy : Bool) (step : Stepped st seen busy st') where
  abbrev limit : ℕ
  limit = f.command.buffer_length

  abbrev stores : Bool
  stores = is_submitted f.kind

  -- The controller waits on.
  waits-on : (ear : Listener) (taken : Response) (q : ℕ) → q ≤ 2 → (is_over taken && is_ready ear) ≡ false → waited f ear taken timeout q ≡ stays (Listening f ear taken q)
  waits-on ear taken q h e = rw (lt-leb timeout q (omega arith), e)

  not_taken : (ear : Listener) (taken : Response) (quiet : ℕ) → taken_of ear seen.hsk ≡ false
      → listening_step f ear taken quiet timeout seen host ≡ waited f (hear_of ear seen.hsk host) taken timeout (quiet_after quiet seen.hsk)
  not_taken ear taken quiet e = rw e

  buffer-kept : (ear : Listener) (taken : Response) (buffer : List ℕ) → taken_of ear seen.hsk ≡ false → listening_buffer f ear taken seen buffer ≡ buffer
  buffer-kept ear taken buffer e = rw e

  not-asking : st.unit.asking ≡ false → st'.unit.asking ≡ false
  not-asking e = step.asking ∙ ap (λ (b : Bool). b && not seen.hsk) e

  same-own : addressed f.command st.unit.own ≡ true → addressed f.command st'.unit.own ≡ true
  same-own e = ap (addressed f.command) step.own ∙ e

  module _ (r : Reply) (j : ℕ) (sender : Sender) (wait : Bool) (e : st.unit.phase ≡ Responding r j sender wait) where
    abbrev stepped : Step
    stepped = responding_step st.unit.serial r j sender wait seen.hsk st.input

    phase-is : st'.unit.phase ≡ stepped.phase
    phase-is = step.phase ∙ ap (λ (x : Phase). (phase_step x st.unit.own st.unit.serial seen busy st.buffer st.input).phase) e

    inside_is : inside_of st' ≡ with_state (inside_of st) stepped.serial
    inside_is = step.inside ∙ ap (λ (x : Phase). inside_after x st.unit.own (inside_of st) seen busy st.buffer) e

  abbrev isLetGo : Listener → Bool
  isLetGo ear = not (listener_hsk ear && host)

  abbrev after : Listener → Response → ℕ → Moved
  after ear taken quiet = listening_step f ear taken quiet timeout seen host

  abbrev buffer-after : Listener → Response → List ℕ → List ℕ
  buffer-after ear taken buffer = listening_buffer f ear taken seen buffer

  -- The round before the first nibble.
  begins : (r : Reply) (j t : ℕ) (ear : Listener) (taken : Response) (quiet : ℕ) (buffer : List ℕ) (e : st.unit.phase ≡ Responding r j Next true) (p : Promised T st.unit.own f.command d r (inside_of st))
      → Fits (nibble_in (answer_bytes p) j) Next ear t → taken ≡ taken_at (answer_bytes p) limit (j + t) → buffer ≡ stored_at (answer_bytes p) limit stores (j + t) found → j < length_of (answer_data p)
      → quiet ≡ 0 → st.unit.asking ≡ false → addressed f.command st.unit.own ≡ true → seen.hsk ≡ (listener_hsk ear || sender_hsk Next)
      → Talked T f d found (after ear taken quiet) (buffer-after ear taken buffer) (isLetGo ear) (talk_left ear st) st st'
  begins r j t ear taken quiet buffer e p f_next g b l z q own h =
      let same : inside_of st' ≡ inside_of st = inside_is r j Next true e in
      let k : j + 0 < length_of (answer_data p) = omega arith in
      let one : quiet_after quiet seen.hsk ≡ 1 = ap (λ (x : ℕ). quiet_after x seen.hsk) z ∙ ap (quiet_after 0) h in
      let ready : hear_of Ready seen.hsk host ≡ Ready = ap (λ (x : Bool). hear_of Ready x host) h in
      let going : is_over taken ≡ false = ap is_over g ∙ not-over-before (answer_data p) (reply_status r) limit (j + 0) (answer-fits p) k in
      still Ready taken 1
      (not_taken Ready taken quiet h ∙ (λ i. waited f (ready i) taken timeout (one i)) ∙ waits-on Ready taken 1 (omega arith) (ap (λ (x : Bool). x && true) going))
      (talks r j 0 Next false (phase-is r j Next true e) (carried T step.own same p) f_next g (buffer-kept Ready taken buffer h ∙ b) l (λ x. absurd (false≢true x)) (omega arith) (not-asking q) (same-own own))
      (falls
      (let old : talk_left Ready st ≡ 4 * (last_nibble st.unit.serial.input r - j) + 4 + 1 = talk_left_lem Ready st e in
      let new : talk_left Ready st' ≡ 4 * (last_nibble st'.unit.serial.input r - j) + 4 + 0 = talk_left_lem Ready st' (phase-is r j Next true e) in
      let last : last_nibble st'.unit.serial.input r ≡ last_nibble st.unit.serial.input r = ap (λ (x : Inside). last_nibble x.state.input r) same in
      omega arith))

  -- A nibble that does not count as sent yet, not taken in this round.
  module _
      (r : Reply) (j t : ℕ) (sender : Sender) (ear : Listener) (taken : Response) (quiet : ℕ) (buffer : List ℕ) (e : st.unit.phase ≡ Responding r j sender false)
      (p : Promised T st.unit.own f.command d r (inside_of st)) (fits : Fits (nibble_in (answer_bytes p) j) sender ear t) (g : taken ≡ taken_at (answer_bytes p) limit (j + t))
      (b : buffer ≡ stored_at (answer_bytes p) limit stores (j + t) found) (l : j < length_of (answer_data p)) (c : Quiet sender quiet) (q : st.unit.asking ≡ false)
      (own : addressed f.command st.unit.own ≡ true) (view : Sees sender ear seen.hsk seen.nibble) (h : seen.hsk ≡ (listener_hsk ear || sender_hsk sender))
    where
      abbrev n : ℕ
      n = nibble_in (answer_bytes p) j

      own-nibble : nibble_in (response_bytes (contents st.input st.unit.serial.input) r) j ≡ n
      own-nibble = ap (λ (x : List ℕ). nibble_in x j) (bytes-are p)

      left_is : talk_left ear st ≡ 4 * (last_nibble st.unit.serial.input r - j) + place sender (listener_hsk ear || sender_hsk sender) + 0
      left_is = talk_left_lem ear st e

      last-same : inside_of st' ≡ inside_of st → last_nibble st'.unit.serial.input r ≡ last_nibble st.unit.serial.input r
      last-same x = ap (λ (y : Inside). last_nibble y.state.input r) x

      -- The unit's round, where the nibble counts as sent and where not.
      abbrev whenSent : Step
      whenSent = cond (ltb j (last_nibble st.unit.serial.input r)) (moves (Responding r (j + 1) Next false) st.unit.serial) (moves (SittingOut false) (finished st.unit.serial r))

      abbrev whenNot : Step
      whenNot = moves (Responding r j (send_of sender seen.hsk (nibble_in (response_bytes (contents st.input st.unit.serial.input) r) j)) false) st.unit.serial

      not-sent : sent_of sender seen.hsk ≡ false → (st'.unit.phase ≡ Responding r j (send_of sender seen.hsk n) false) × (inside_of st' ≡ inside_of st)
      not-sent s = (
        phase-is r j sender false e ∙ ap (λ (t : Bool). (cond t whenSent whenNot).phase) s ∙ ap (λ (x : ℕ). Responding r j (send_of sender seen.hsk x) false) own-nibble,
        inside_is r j sender false e ∙ ap (λ (t : Bool). with_state (inside_of st) (cond t whenSent whenNot).serial) s,
      )

      rests-on : taken_of ear seen.hsk ≡ false → sent_of sender seen.hsk ≡ false → Fits n (send_of sender seen.hsk n) (hear_of ear seen.hsk host) t
          → Talked T f d found (after ear taken quiet) (buffer-after ear taken buffer) (isLetGo ear) (talk_left ear st) st st'
      rests-on a s fits' =
          let q' : Quiet (send_of sender seen.hsk n) (quiet_after quiet seen.hsk) = quiet_rests quiet seen.hsk seen.nibble fits view a s c in
          let u = not-sent s in
          still (hear_of ear seen.hsk host) taken (quiet_after quiet seen.hsk)
          (not_taken ear taken quiet a ∙ waits-on (hear_of ear seen.hsk host) taken (quiet_after quiet seen.hsk) (quiet_bound (send_of sender seen.hsk n) (quiet_after quiet seen.hsk) q') (not_yet t fits' g))
          (talks r j t (send_of sender seen.hsk n) false u.0 (carried T step.own u.1 p) fits' g (buffer-kept ear taken buffer a ∙ b) l (λ x. absurd (false≢true x)) q' (not-asking q) (same-own own))
          (let k = send_of sender seen.hsk n in
          let new : talk_left (hear_of ear seen.hsk host) st' ≡ 4 * (last_nibble st'.unit.serial.input r - j) + place k (listener_hsk (hear_of ear seen.hsk host) || sender_hsk k) + 0 =
          talk_left_lem (hear_of ear seen.hsk host) st' u.0 in
          let old = left_is in
          let same = last-same u.1 in
          let less = place_rests seen.hsk host fits h a s in
          let most = less.0 in
          (omega arith, λ free. let l = less.1 free in omega arith))
        where
          not_yet : (t : ℕ) {k : Sender} {x : Listener} → Fits n k x t → taken ≡ taken_at (answer_bytes p) limit (j + t) → (is_over taken && is_ready x) ≡ false
          not_yet zero {k} {x} v w =
              let m : j + 0 < length_of (answer_data p) = omega arith in
              ap (λ (y : Bool). y && is_ready x) (ap is_over w ∙ not-over-before (answer_data p) (reply_status r) limit (j + 0) (answer-fits p) m)
          not_yet (suc t) {k} {x} v w = ap (λ (y : Bool). is_over taken && y) (fits_ready v) ∙ and_false (is_over taken)

      takes_it : ear ≡ Ready → seen.hsk ≡ true → seen.nibble ≡ n → t ≡ 0 → sent_of sender seen.hsk ≡ false → Fits n (send_of sender seen.hsk n) Holding 1
          → Talked T f d found (after ear taken quiet) (buffer-after ear taken buffer) (isLetGo ear) (talk_left ear st) st st'
      takes_it ready low nib z s fits' =
          let u = not-sent s in
          let k : j + t ≡ j = omega arith in
          let k' : suc j ≡ j + 1 = omega arith in
          let gone : taken_of ear seen.hsk ≡ true = ap (λ (x : Listener). taken_of x seen.hsk) ready ∙ low in
          let held : hear_of ear seen.hsk host ≡ Holding = ap (λ (x : Listener). hear_of x seen.hsk host) ready ∙ ap (λ (x : Bool). hear_of Ready x host) low in
          let old : taken ≡ taken_at (answer_bytes p) limit j = g ∙ ap (taken_at (answer_bytes p) limit) k in
          let more : taken_with taken seen.nibble limit ≡ taken_at (answer_bytes p) limit (j + 1) =
          (λ i. taken_with (old i) (nib i) limit) ∙ ap (taken_at (answer_bytes p) limit) k' in
          let first : buffer-after ear taken buffer ≡ buffer_with taken seen.nibble stores buffer = rw gone in
          let one : after ear taken quiet ≡ stays (Listening f (hear_of ear seen.hsk host) (taken_with taken seen.nibble limit) 0) = rw gone in
          let kept : buffer-after ear taken buffer ≡ stored_at (answer_bytes p) limit stores (j + 1) found =
          first ∙ (λ i. buffer_with (old i) (nib i) stores ((b ∙ ap (λ (x : ℕ). stored_at (answer_bytes p) limit stores x found) k) i)) ∙ ap (λ (x : ℕ). stored_at (answer_bytes p) limit stores x found) k' in
          still Holding (taken_with taken seen.nibble limit) 0
          (one ∙ ap (λ (x : Listener). stays (Listening f x (taken_with taken seen.nibble limit) 0)) held)
          (talks r j 1 (send_of sender seen.hsk n) false u.0 (carried T step.own u.1 p) fits' more kept l (λ x. absurd (false≢true x)) (quiet_zero (send_of sender seen.hsk n)) (not-asking q) (same-own own))
          (falls
          (let k'' = send_of sender seen.hsk n in
          let less : place k'' (listener_hsk Holding || sender_hsk k'') < place sender (listener_hsk ear || sender_hsk sender) = place_takes seen.hsk (listener_hsk Holding || sender_hsk k'') fits h gone in
          let new : talk_left Holding st' ≡ 4 * (last_nibble st'.unit.serial.input r - j) + place k'' (listener_hsk Holding || sender_hsk k'') + 0 = talk_left_lem Holding st' u.0 in
          let old = left_is in
          let same = last-same u.1 in
          omega arith))

      -- A nibble counts as sent: the next one comes, or the response is done.
      module _ (a : taken_of ear seen.hsk ≡ false) (s : sent_of sender seen.hsk ≡ true) (high : seen.hsk ≡ false) (ready : hear_of ear seen.hsk host ≡ Ready) (z : t ≡ 1) where
        zero-quiet : quiet ≡ 0
        zero-quiet = quiet_kept quiet (subst (Fits n sender ear) z fits) c

        one-quiet : quiet_after quiet seen.hsk ≡ 1
        one-quiet = ap (λ (x : ℕ). quiet_after x seen.hsk) zero-quiet ∙ ap (quiet_after 0) high

        listened : after ear taken quiet ≡ waited f Ready taken timeout 1
        listened = not_taken ear taken quiet a ∙ (λ i. waited f (ready i) taken timeout (one-quiet i))

        sends-by : (more : Bool) → ltb j (last_nibble st.unit.serial.input r) ≡ more → Talked T f d found (after ear taken quiet) (buffer-after ear taken buffer) (isLetGo ear) (talk_left ear st) st st'
        sends-by true m =
            let last : last_nibble st.unit.serial.input r ≡ length_of (answer_data p) - 1 = last-is p in
            let less : j < last_nibble st.unit.serial.input r = ltb-true j (last_nibble st.unit.serial.input r) m in
            let k : j + t ≡ suc j + 0 = omega arith in
            let k' : j + 1 ≡ suc j = omega arith in
            let next : suc j + 0 < length_of (answer_data p) = omega arith in
            let on : is_over taken ≡ false = ap is_over g ∙ ap (λ (x : ℕ). is_over (taken_at (answer_bytes p) limit x)) k ∙ not-over-before (answer_data p) (reply_status r) limit (suc j + 0) (answer-fits p) next in
            let phase : st'.unit.phase ≡ Responding r (suc j) Next false =
            phase-is r j sender false e ∙ ap (λ (x : Bool). (cond x whenSent whenNot).phase) s
            ∙ ap (λ (x : Bool). (cond x (moves (Responding r (j + 1) Next false) st.unit.serial) (moves (SittingOut false) (finished st.unit.serial r))).phase) m
            ∙ ap (λ (x : ℕ). Responding r x Next false) k' in
            let inside : inside_of st' ≡ inside_of st =
            inside_is r j sender false e ∙ ap (λ (x : Bool). with_state (inside_of st) (cond x whenSent whenNot).serial) s
            ∙ ap (λ (x : Bool). with_state (inside_of st) (cond x (moves (Responding r (j + 1) Next false) st.unit.serial) (moves (SittingOut false) (finished st.unit.serial r))).serial) m in
            still Ready taken 1 (listened ∙ waits-on Ready taken 1 (omega arith) (ap (λ (x : Bool). x && true) on))
            (talks r (suc j) 0 Next false phase (carried T step.own inside p) f_next (g ∙ ap (taken_at (answer_bytes p) limit) k)
            (buffer-kept ear taken buffer a ∙ b ∙ ap (λ (x : ℕ). stored_at (answer_bytes p) limit stores x found) k) (omega arith) (λ x. absurd (false≢true x)) (omega arith)
            (not-asking q) (same-own own))
            (falls
            (let some : 1 ≤ place sender (listener_hsk ear || sender_hsk sender) = place_some sender (listener_hsk ear || sender_hsk sender) in
            let new : talk_left Ready st' ≡ 4 * (last_nibble st'.unit.serial.input r - suc j) + 4 + 0 = talk_left_lem Ready st' phase in
            let old = left_is in
            let same = last-same inside in
            omega arith))
        sends-by false m =
            let last : last_nibble st.unit.serial.input r ≡ length_of (answer_data p) - 1 = last-is p in
            let least : last_nibble st.unit.serial.input r ≤ j = ltb-false j (last_nibble st.unit.serial.input r) m in
            let k : j + t ≡ length_of (answer_data p) = omega arith in
            let all : taken ≡ Complete (reply_status r) (length (answer_data p)) = g ∙ ap (taken_at (answer_bytes p) limit) k ∙ response_completes (answer_data p) (reply_status r) limit (answer-fits p) in
            let phase : st'.unit.phase ≡ SittingOut false =
            phase-is r j sender false e ∙ ap (λ (x : Bool). (cond x whenSent whenNot).phase) s
            ∙ ap (λ (x : Bool). (cond x (moves (Responding r (j + 1) Next false) st.unit.serial) (moves (SittingOut false) (finished st.unit.serial r))).phase) m in
            let inside : inside_of st' ≡ responded (inside_of st) r =
            inside_is r j sender false e ∙ ap (λ (x : Bool). with_state (inside_of st) (cond x whenSent whenNot).serial) s
            ∙ ap (λ (x : Bool). with_state (inside_of st) (cond x (moves (Responding r (j + 1) Next false) st.unit.serial) (moves (SittingOut false) (finished st.unit.serial r))).serial) m in
            let full : waited f Ready (Complete (reply_status r) (length (answer_data p))) timeout 1 ≡ over f (Complete (reply_status r) (length (answer_data p))) =
            ap (λ (x : Bool). cond (x || true) (over f (Complete (reply_status r) (length (answer_data p)))) (stays (Listening f Ready (Complete (reply_status r) (length (answer_data p))) 1))) (lt-leb timeout 1 (omega arith)) in
            done r j sender e p (listened ∙ ap (λ (x : Response). waited f Ready x timeout 1) all ∙ full)
            (buffer-kept ear taken buffer a ∙ b ∙ ap (λ (x : ℕ). stored_at (answer_bytes p) limit stores x found) k ∙ data_received (answer_data p) (reply_status r) limit stores found (answer-fits p) room) phase inside
            (not-asking q) step.own own

      talks-on : Talked T f d found (after ear taken quiet) (buffer-after ear taken buffer) (isLetGo ear) (talk_left ear st) st st'
      talks-on = by (pair seen.hsk seen.nibble host fits view)
        where
          by : Pair n sender ear t seen.hsk seen.nibble host → Talked T f d found (after ear taken quiet) (buffer-after ear taken buffer) (isLetGo ear) (talk_left ear st) st st'
          by (rests e1 e2 g1) = rests-on e1 e2 g1
          by (takes e1 e2 e3 e4 e5 g1) = takes_it e1 e2 e3 e4 e5 g1
          by (sends e1 e2 e3 e4 e5) = sends-by e1 e2 e3 e4 e5 (ltb j (last_nibble st.unit.serial.input r)) refl

  -- The round of a unit that responds, and of the controller beside it.
  pub talk-step : (ear : Listener) (taken : Response) (quiet : ℕ) (buffer : List ℕ) → Talk T f.command d stores found ear taken quiet buffer st
      → seen.hsk ≡ (listener_hsk ear || pulls_hsk st.unit.phase) → seen.nibble ≡ pulls_nibble st.unit.phase
      → Talked T f d found (after ear taken quiet) (buffer-after ear taken buffer) (isLetGo ear) (talk_left ear st) st st'
  talk-step ear taken quiet buffer (talks r j t sender true e p fits g b l w c q own) h v =
      let x = w refl in
      begins r j t ear taken quiet buffer (e ∙ ap (λ (y : Sender). Responding r j y true) x.0) p (subst (λ (y : Sender). Fits (nibble_in (answer_bytes p) j) y ear t) x.0 fits) g b l x.1 q own
      (h ∙ ap (λ (y : Phase). listener_hsk ear || pulls_hsk y) (e ∙ ap (λ (y : Sender). Responding r j y true) x.0))
  talk-step ear taken quiet buffer (talks r j t sender false e p fits g b l w c q own) h v =
      talks-on r j t sender ear taken quiet buffer e p fits g b l c q own (sees seen fits (h ∙ ap (λ (y : Phase). listener_hsk ear || pulls_hsk y) e) (v ∙ ap pulls_nibble e)) (h ∙ ap (λ (y : Phase). listener_hsk ear || pulls_hsk y) e)

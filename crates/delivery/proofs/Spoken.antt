-- The unit that responds and the controller beside it, in one round: what each of them does then.
use Prim.Native.Nat.{ℕ, suc, ◌+◌, ◌-◌, ◌<◌, ◌≤◌}
use native.Mathlib.Omega.{arith}
use mathlib.Core.Path.{◌≡◌, refl, sym, ◌∙◌, ap, subst}
use mathlib.Core.Bool.{Bool, true, false, cond, ◌||◌, true≢false}
use mathlib.Core.List.{List, [], ◌∷◌, ◌++◌, map, append-nil, append_assoc}
use borrow.Author.Tests.{ltb-true, ltb-false}
use lib.Dec.{ltb}
use lib.ListN.{length, take, length-append}
use lib.Seq.{take_all}
use Rattle.answer.specs.declared.Response.{Response}
use Rattle.bus.specs.declared.Station.{Station}
use Rattle.field.specs.Field.{nibbles}
use Rattle.field.proofs.Laws.{length-nibbles}
use Rattle.header.specs.declared.Command.{Command}
use Rattle.inside.specs.Inside.{Inside, inside_of, reply_for, data_in}
use Rattle.line.specs.Line.{hear_of, taken_of, send_of, sent_of, listener_hsk, sender_nibble}
use Rattle.line.specs.declared.Lines.{Lines}
use Rattle.line.specs.declared.Listener.{Listener}
use Rattle.line.specs.declared.Listener.TheVariants.{Ready, Holding, Waiting}
use Rattle.line.specs.declared.Sender.{Sender}
use Rattle.line.specs.declared.Sender.TheVariants.{Next}
use Rattle.message.specs.Nibbles.{nibble_in}
use Rattle.phase.specs.Phase.{phase_step, responding_step}
use Rattle.phase.specs.declared.Moved.{Moved}
use Rattle.phase.specs.declared.Phase.{Phase}
use Rattle.phase.specs.declared.Phase.TheVariants.{Responding, SittingOut}
use Rattle.queue.specs.Queue.{contents}
use Rattle.reply.specs.Reply.{is_silent, reply_status, response_bytes, last_nibble}
use Rattle.serial.specs.declared.Reply.{Reply}
use Rattle.unit.specs.Unit.{pulls_hsk, pulls_nibble}
use Rattle.whole.specs.Back.{response_for, length_of}
use Rattle.delivery.proofs.Taking.{Fits, f_next, f_placed, f_holds, f_waits}
use Rattle.delivery.specs.Log.{Act, sent, heard, Deed, took, settled, spoke, done, deeds_by, done_by}
use Rattle.delivery.specs.Lists.{Has, here, there}
use Rattle.delivery.proofs.Promised.{Moment, Promised}
use Rattle.delivery.proofs.Stages.{addressed, Talk, talks, answer_data, answer_bytes}
use Rattle.delivery.proofs.Deeds.{nibbles_for, answer_for, Stands, Did, one_more}
use Rattle.delivery.proofs.Heard.{Pair, rests, takes, sends, pair}
use Rattle.delivery.proofs.Part.{Stepped}
use Rattle.delivery.proofs.Promise.{last-is}
use Rattle.delivery.proofs.Talk.{sees}

-- Whether the controller's listener has the nibble that is under way.
abbrev pub count : Listener → ℕ
count Ready = 0
count Holding = 1
count Waiting = 1

fits_count : {n t : ℕ} {sender : Sender} {ear : Listener} → Fits n sender ear t → count ear ≡ t
fits_count f_next = refl
fits_count f_placed = refl
fits_count f_holds = refl
fits_count f_waits = refl

fits_sent : {n t : ℕ} {sender : Sender} {ear : Listener} → Fits n sender ear t → t ≡ 1 → sender_nibble sender ≡ n
fits_sent f_next e = absurd (omega arith)
fits_sent f_placed e = refl
fits_sent f_holds e = refl
fits_sent f_waits e = refl

fits_waits : {n t : ℕ} {ear : Listener} (low : Bool) → Fits n Next ear t → sent_of Next low ≡ false
fits_waits low f_next = refl

pub length_answer : (d : List ℕ) (status : ℕ) → length (nibbles (response_for d status)) ≡ length_of d
length_answer d status =
    let two = length-nibbles (response_for d status) in
    let one : length (response_for d status) ≡ suc (suc (length d + 1)) = ap (λ (n : ℕ). suc (suc n)) (length-append d _) in
    omega arith

-- A unit in this phase has given j nibbles of the reply r.
pub data Answering (phase : Phase) (r : Reply) (j : ℕ) : Type 0 where
  answering : (sender : Sender) (wait : Bool) → phase ≡ Responding r j sender wait → Answering phase r j

-- What was inside a unit as it took the last nibble is told once.
pub took_no : {x : Inside} (xs : List ℕ) {rest : List Deed} → Has (settled x) (map took xs ++ rest) → Has (settled x) rest
took_no [] h = h
took_no (n ∷ xs) (there h) = took_no xs h

pub spoke_no : {x : Inside} (xs : List ℕ) → Has (settled x) (map spoke xs) → ⊥
spoke_no [] h = elim h [ ]
spoke_no (n ∷ xs) (there h) = spoke_no xs h

pub settled_first : {x y : Inside} {rest : List Deed} → Has (settled y) (settled x ∷ rest) → (Has (settled y) rest → ⊥) → y ≡ x
settled_first here else = refl
settled_first (there h) else = absurd (else h)

pub only : {c : Command} {d : List ℕ} {own : ℕ} {r : Reply} {j : ℕ} {e : List Deed} (s : Stands c d own r j e) (y : Inside) → Has (settled y) e → y ≡ s.given
only {c} {d} {own} {r} {j} s y h = settled_first (took_no (nibbles_for c d) (subst (Has (settled y)) s.deeds h)) (spoke_no (take j (answer_for c d own s.given)))

-- What the controller does, and what it has done: all of the command, and so much of the response.
abbrev pub hearing : Listener → Lines → List Act
hearing ear seen = cond (taken_of ear seen.hsk) (heard seen.nibble ∷ []) []

abbrev pub HeardOf : Command → List ℕ → List ℕ → ℕ → List Act → Type 0
HeardOf c d answer k a = a ≡ map sent (nibbles_for c d) ++ map heard (take k answer)

-- The round comes to another one of the response, or to its end.
pub data Spoken (c : Command) (d : List ℕ) (own : ℕ) (r : Reply) (given : Inside) (after : Phase) (ear : Listener) (e : List Deed) (a : List Act) : Type 0 where
  goes_on :
      (j : ℕ) (sender : Sender) (wait : Bool) → after ≡ Responding r j sender wait → j + count ear ≤ length (answer_for c d own given) → e ≡ map took (nibbles_for c d) ++ (settled given ∷ map spoke (take j (answer_for c d own given)))
      → HeardOf c d (answer_for c d own given) (j + count ear) a → Spoken c d own r given after ear e a
  is_done :
      after ≡ SittingOut false → e ≡ map took (nibbles_for c d) ++ (settled given ∷ (map spoke (answer_for c d own given) ++ (done ∷ [])))
      → a ≡ map sent (nibbles_for c d) ++ map heard (answer_for c d own given) → Spoken c d own r given after ear e a

pub record Speech (c : Command) (d : List ℕ) (own : ℕ) (after : Phase) (ear : Listener) (e : List Deed) (a : List Act) : Type 0 where
  pub reply : Reply
  pub given : Inside
  pub meant : addressed c own ≡ true
  pub said : reply ≡ reply_for own given c d
  pub speaks : is_silent reply ≡ false
  pub spoken : Spoken c d own reply given after ear e a

module _ (T : Moment) (c : Command) (d : List ℕ) {st st' : Station} {seen : Lines} {busy : Bool} (step : Stepped st seen busy st') (host : Bool) (e : List Deed) (a : List Act) (ear : Listener) where
  abbrev own : ℕ
  own = st.unit.own

  abbrev newly : List Deed
  newly = deeds_by st.unit.phase st'.unit.phase (inside_of st) seen

  module _
      (r : Reply) (j t : ℕ) (sender : Sender) (wait : Bool) (z : st.unit.phase ≡ Responding r j sender wait) (p : Promised T own c d r (inside_of st))
      (fits : Fits (nibble_in (answer_bytes p) j) sender ear t) (l : j < length_of (answer_data p)) (w : wait ≡ true → sender ≡ Next) (s : Stands c d own r j e)
      (same : p.given ≡ s.given) (was : HeardOf c d (answer_for c d own s.given) (j + count ear) a)
    where
      abbrev answer : List ℕ
      answer = answer_for c d own s.given

      bytes_same : nibbles (answer_bytes p) ≡ answer
      bytes_same = λ i. nibbles (response_for (data_in (same i) (s.said i)) (reply_status (s.said i)))

      long : length answer ≡ length_of (answer_data p)
      long = sym (ap length bytes_same) ∙ length_answer (answer_data p) (reply_status r)

      abbrev n : ℕ
      n = nibble_in (answer_bytes p) j

      nibble-is : n ≡ nibble_in (response_for (data_in s.given (reply_for own s.given c d)) (reply_status (reply_for own s.given c d))) j
      nibble-is = λ i. nibble_in (response_for (data_in (same i) (s.said i)) (reply_status (s.said i))) j

      abbrev stepped : Moved
      stepped = responding_step st.unit.serial r j sender wait seen.hsk st.input

      phase-is : st'.unit.phase ≡ stepped.phase
      phase-is = step.phase ∙ ap (λ (x : Phase). (phase_step x own st.unit.serial seen busy st.buffer st.input).phase) z

      newly-is : newly ≡ cond (sent_of sender seen.hsk) (spoke (sender_nibble sender) ∷ done_by st'.unit.phase) []
      newly-is = ap (λ (x : Phase). deeds_by x st'.unit.phase (inside_of st) seen) z

      none_said : sent_of sender seen.hsk ≡ false → e ++ newly ≡ e
      none_said q = ap (λ (x : List Deed). e ++ x) (newly-is ∙ rw q) ∙ append-nil e

      none-heard : taken_of ear seen.hsk ≡ false → a ++ hearing ear seen ≡ a
      none-heard q = ap (λ (x : List Act). a ++ x) (rw q) ∙ append-nil a

      -- Nothing counts as sent in this round: the unit goes on with the same nibble.
      same-nibble : sent_of sender seen.hsk ≡ false → (k : Sender) × (u : Bool) × (st'.unit.phase ≡ Responding r j k u)
      same-nibble q = by wait refl
        where
          by : (b : Bool) → wait ≡ b → (k : Sender) × (u : Bool) × (st'.unit.phase ≡ Responding r j k u)
          by true b = (sender, false, phase-is ∙ rw b)
          by false b = (send_of sender seen.hsk (nibble_in (response_bytes (contents st.input st.unit.serial.input) r) j), false, phase-is ∙ rw (b, q))

      heard-more : taken_of ear seen.hsk ≡ true → seen.nibble ≡ n → count ear ≡ 0 → a ++ hearing ear seen ≡ map sent (nibbles_for c d) ++ map heard (take (suc j) answer)
      heard-more q nib k0 =
          let k : j + count ear ≡ j = omega arith in
          let at : a ≡ map sent (nibbles_for c d) ++ map heard (take j answer) = was ∙ ap (λ (x : ℕ). map sent (nibbles_for c d) ++ map heard (take x answer)) k in
          let new : hearing ear seen ≡ heard seen.nibble ∷ [] = rw q in
          let ll = long in
          (λ i. at i ++ new i)
          ∙ append_assoc (map sent (nibbles_for c d)) (map heard (take j answer)) (heard seen.nibble ∷ [])
          ∙ ap (λ (x : List Act). map sent (nibbles_for c d) ++ x) (one_more heard answer j seen.nibble (map heard (take j answer)) (omega arith) (nib ∙ nibble-is) refl)

      -- The nibble counts as sent: one more of the response, or its end.
      module _ (q : sent_of sender seen.hsk ≡ true) (awake : wait ≡ false) (none : taken_of ear seen.hsk ≡ false) (ready : hear_of ear seen.hsk host ≡ Ready) (one : t ≡ 1) where
        abbrev spoken : List Deed → List Deed
        spoken rest = map took (nibbles_for c d) ++ (settled s.given ∷ rest)

        said_more : (tail : List Deed) → e ++ (spoke (sender_nibble sender) ∷ tail) ≡ spoken (map spoke (take (suc j) answer) ++ tail)
        said_more tail =
            let ll = long in
            let grown = one_more spoke answer j (sender_nibble sender) (map spoke (take j answer)) (omega arith) (fits_sent fits one ∙ nibble-is) refl in
            ap (λ (x : List Deed). x ++ (spoke (sender_nibble sender) ∷ tail)) s.deeds
            ∙ append_assoc (map took (nibbles_for c d)) (settled s.given ∷ map spoke (take j answer)) (spoke (sender_nibble sender) ∷ tail)
            ∙ ap spoken (sym (append_assoc (map spoke (take j answer)) (spoke (sender_nibble sender) ∷ []) tail) ∙ ap (λ (x : List Deed). x ++ tail) grown)

        heard-so-far : a ≡ map sent (nibbles_for c d) ++ map heard (take (suc j) answer)
        heard-so-far =
            let f = fits_count fits in
            let k : j + count ear ≡ suc j = omega arith in
            was ∙ ap (λ (x : ℕ). map sent (nibbles_for c d) ++ map heard (take x answer)) k

        sent-by : (more : Bool) → ltb j (last_nibble st.unit.serial.input r) ≡ more → Spoken c d own r s.given st'.unit.phase (hear_of ear seen.hsk host) (e ++ newly) (a ++ hearing ear seen)
        sent-by true m =
            let less : j < last_nibble st.unit.serial.input r = ltb-true j (last_nibble st.unit.serial.input r) m in
            let last : last_nibble st.unit.serial.input r ≡ length_of (answer_data p) - 1 = last-is p in
            let ll = long in
            let ph : st'.unit.phase ≡ Responding r (j + 1) Next false = phase-is ∙ rw (awake, q, m) in
            let new : newly ≡ spoke (sender_nibble sender) ∷ [] = newly-is ∙ (λ i. cond (q i) (spoke (sender_nibble sender) ∷ done_by (ph i)) []) in
            let k : suc j ≡ j + 1 = omega arith in
            let zero-count : count (hear_of ear seen.hsk host) ≡ 0 = ap count ready in
            let k' : suc j ≡ (j + 1) + count (hear_of ear seen.hsk host) = omega arith in
            goes_on (j + 1) Next false ph (omega arith)
            (ap (λ (x : List Deed). e ++ x) new ∙ said_more [] ∙ ap spoken (append-nil (map spoke (take (suc j) answer))) ∙ ap (λ (x : ℕ). spoken (map spoke (take x answer))) k)
            (none-heard none ∙ heard-so-far ∙ ap (λ (x : ℕ). map sent (nibbles_for c d) ++ map heard (take x answer)) k')
        sent-by false m =
            let most : last_nibble st.unit.serial.input r ≤ j = ltb-false j (last_nibble st.unit.serial.input r) m in
            let last : last_nibble st.unit.serial.input r ≡ length_of (answer_data p) - 1 = last-is p in
            let ll = long in
            let all : take (suc j) answer ≡ answer = take_all (suc j) answer (omega arith) in
            let ph : st'.unit.phase ≡ SittingOut false = phase-is ∙ rw (awake, q, m) in
            let new : newly ≡ spoke (sender_nibble sender) ∷ done ∷ [] = newly-is ∙ (λ i. cond (q i) (spoke (sender_nibble sender) ∷ done_by (ph i)) []) in
            is_done ph
            (ap (λ (x : List Deed). e ++ x) new ∙ said_more (done ∷ []) ∙ ap (λ (x : List ℕ). spoken (map spoke x ++ (done ∷ []))) all)
            (none-heard none ∙ heard-so-far ∙ ap (λ (x : List ℕ). map sent (nibbles_for c d) ++ map heard x) all)

      asleep : (b : Bool) → wait ≡ b → sent_of sender seen.hsk ≡ true → wait ≡ false
      asleep true b q = absurd (true≢false (sym q ∙ ap (λ (x : Sender). sent_of x seen.hsk) (w b)))
      asleep false b q = b

      spoken_by : Pair n sender ear t seen.hsk seen.nibble host → Spoken c d own r s.given st'.unit.phase (hear_of ear seen.hsk host) (e ++ newly) (a ++ hearing ear seen)
      spoken_by (rests e1 e2 g) =
          let k = same-nibble e2 in
          let ll = long in
          let old = fits_count fits in
          let new = fits_count g in
          let same_count : j + count ear ≡ j + count (hear_of ear seen.hsk host) = omega arith in
          let t1 : t ≤ 1 = fits-most fits in
          goes_on j k.0 k.1 k.2 (omega arith) (none_said e2 ∙ s.deeds) (none-heard e1 ∙ was ∙ ap (λ (x : ℕ). map sent (nibbles_for c d) ++ map heard (take x answer)) same_count)
        where
          fits-most : {n t : ℕ} {sender : Sender} {ear : Listener} → Fits n sender ear t → t ≤ 1
          fits-most f_next = omega arith
          fits-most f_placed = omega arith
          fits-most f_holds = omega arith
          fits-most f_waits = omega arith
      spoken_by (takes e1 e2 e3 e4 e5 g) =
          let k = same-nibble e5 in
          let ll = long in
          let old = fits_count fits in
          let gone : taken_of ear seen.hsk ≡ true = ap (λ (x : Listener). taken_of x seen.hsk) e1 ∙ e2 in
          let held : hear_of ear seen.hsk host ≡ Holding = ap (λ (x : Listener). hear_of x seen.hsk host) e1 ∙ ap (λ (x : Bool). hear_of Ready x host) e2 in
          let new : count (hear_of ear seen.hsk host) ≡ 1 = ap count held in
          let k' : suc j ≡ j + count (hear_of ear seen.hsk host) = omega arith in
          goes_on j k.0 k.1 k.2 (omega arith) (none_said e5 ∙ s.deeds) (heard-more gone e3 (omega arith) ∙ ap (λ (x : ℕ). map sent (nibbles_for c d) ++ map heard (take x answer)) k')
      spoken_by (sends e1 e2 e3 e4 e5) = sent-by e2 (asleep wait refl e2) e1 e4 e5 (ltb j (last_nibble st.unit.serial.input r)) refl

  -- The round of a unit that responds.
  pub talk-spoken : {stores : Bool} {found : List ℕ} {taken : Response} {quiet : ℕ} {buffer : List ℕ} → Talk T c d stores found ear taken quiet buffer st
      → seen.hsk ≡ (listener_hsk ear || pulls_hsk st.unit.phase) → seen.nibble ≡ pulls_nibble st.unit.phase
      → Did c d own st.unit.phase e → ((y : Inside) → T own y → Has (settled y) e)
      → ((r : Reply) (j : ℕ) (s : Stands c d own r j e) → Answering st.unit.phase r j → HeardOf c d (answer_for c d own s.given) (j + count ear) a)
      → Speech c d own st'.unit.phase (hear_of ear seen.hsk host) (e ++ newly) (a ++ hearing ear seen)
  talk-spoken (talks r j t sender wait z p fits g b l w q k meant) h v did known was =
      let s : Stands c d own r j e × (is_silent r ≡ false) = subst (λ (x : Phase). Did c d own x e) z did in
      let view = sees seen fits (h ∙ ap (λ (y : Phase). listener_hsk ear || pulls_hsk y) z) (v ∙ ap pulls_nibble z) in
      record {
        reply = r;
        given = s.0.given;
        meant = s.0.meant;
        said = s.0.said;
        speaks = s.1;
        spoken = spoken_by r j t sender wait z p fits l (λ y. (w y).0) s.0 (only s.0 p.given (known p.given p.took)) (was r j s.0 (answering sender wait z)) (pair seen.hsk seen.nibble host fits view);
      }

-- On demand 2's bus, and from its statement: what a unit holds when polled is handed over at the end of that frame, and nothing else is.
use Prim.Native.Nat.{ℕ, ◌<◌}
use native.Mathlib.Omega.{arith}
use mathlib.Core.Path.{◌≡◌, refl, sym, ◌∙◌, ap, subst}
use mathlib.Core.Bool.{Bool, true, false, true≢false, false≢true}
use mathlib.Core.List.{List, [], ◌∷◌, ◌++◌, map}
use borrow.Author.Tests.{eq-eqb}
use lib.Dec.{eqb}
use lib.ListN.{length, take}
use Rattle.delivery.specs.Demand2.{Underway, Answerer, nobody, unit, Answers, Hushes, not_meant, by_the_rule, Speaks, Part, message, is_addressed, reply_to, deeds_of, response, status_by, data_by, heard_by, event_told, end_by, acts_of}
use Rattle.delivery.specs.Lists.{All, none, also, One, this, that, Has, here, there}
use Rattle.delivery.specs.Log.{Act, sent, heard, told, Deed, took, settled, spoke, done, Capture, acts_in, deeds_in}
use Rattle.delivery.proofs.Completed.{tells_so}
use Rattle.delivery.proofs.Demand2.{demand_2}
use Rattle.delivery.proofs.Lists.{all_map, all_zip, has_all, has_left}
use Rattle.delivery.proofs.Logs.{all_append}
use Rattle.delivery.proofs.Shown.{each_underway}
use Rattle.delivery.proofs.Stages.{addressed}
use Rattle.frame.specs.Frame.{poll_of, is_submitted}
use Rattle.frame.specs.declared.Frame.{Frame}
use Rattle.inside.specs.Inside.{Inside, has_request, reply_for}
use Rattle.inside.proofs.Lawful.{every_lawful}
use Rattle.inside.proofs.Ors.{or-first}
use Rattle.kind.specs.Kinds.{kind_of}
use Rattle.reply.specs.Reply.{is_silent, reply_status}
use Rattle.turn.specs.declared.Event.{Event}
use Rattle.turn.specs.declared.Event.TheVariants.{Handed}
use Rattle.whole.specs.Whole.{stored_of}
use Rattle.polling.proofs.Handing.{hands_by, poll_shape}
use Rattle.polling.proofs.Logged.{Settles, FrameSays, frames_say, settles, either}
use Rattle.polling.proofs.OnTheBus.{addressed_own, held-says-zero, zero-says-held}
use Rattle.polling.specs.Demand3.{HeldWhenPolled, Tells, PolledHands, HandedHeld}

all_mapped {κ} : {A : Type 0} {P : A → Type κ} (f : ℕ → A) → ((n : ℕ) → P (f n)) → (ns : List ℕ) → All P (map f ns)
all_mapped f p [] = none
all_mapped f p (n ∷ ns) = also (p n) (all_mapped f p ns)

-- A unit settles once in a frame.
abbrev Settled : Inside → Deed → Type 0
Settled y (took n) = Unit
Settled y (settled x) = x ≡ y
Settled y (spoke n) = Unit
Settled y done = Unit

settled_once : (l : Capture) (own : ℕ) (y : Inside) → All (Settled y) (deeds_of l own y)
settled_once l own y =
    either (is_addressed l own)
    (all_append (all_mapped took (λ n. tt) (message l)) (also refl (either (is_silent (reply_to l own y)) none (all_append (all_mapped spoke (λ n. tt) (response l own y)) (also tt none)))))
    (all_mapped took (λ n. tt) (take 2 (message l)))

settled_in : {l : Capture} {own : ℕ} (p : Part l own) (x : Inside) → Has (settled x) (deeds_in own l.marks) → x ≡ p.inside
settled_in {l} {own = own} p x h = has_all (settled_once l own p.inside) (subst (Has (settled x)) (sym p.in_order.1) (has_left p.in_order.0 h))

-- The application is told once in a frame, at its end, behind the whole command.
abbrev pub Told : Event → Act → Type 0
Told end (sent n) = Unit
Told end (heard n) = Unit
Told end (told e buffer) = e ≡ end

abbrev pub end_of : Capture → Answerer → Event
end_of l a = event_told l.frame.kind l.frame.command.device (status_by l a) (length (data_by l a))

pub told_once : (l : Capture) (a : Answerer) → All (Told (end_of l a)) (acts_of l a)
told_once l a = all_append (all_mapped sent (λ n. tt) (message l)) (all_append (all_mapped heard (λ n. tt) (heard_by l a)) (also refl none))

abbrev is_told : List Act → Bool
is_told [] = false
is_told (sent n ∷ row) = false
is_told (heard n ∷ row) = false
is_told (told e buffer ∷ row) = true

abbrev tail : List Act → List Act
tail [] = []
tail (x ∷ row) = row

told-last : (ns : List ℕ) (row more rest : List Act) {e : Event} {buffer : List ℕ} → map sent ns ++ more ≡ row ++ rest → Has (told e buffer) row → length ns < length row
told-last [] [] more rest q h = elim h [ ]
told-last (n ∷ ns) [] more rest q h = elim h [ ]
told-last [] (x ∷ row) more rest q h = omega arith
told-last (n ∷ ns) (x ∷ row) more rest q here = absurd (false≢true (ap is_told q))
told-last (n ∷ ns) (x ∷ row) more rest q (there h) = let less = told-last ns row more rest (ap tail q) h in omega arith

-- Who answers.
pub spoken_by : {l : Capture} {own : ℕ} {x : Inside} {codes : List ℕ} → One (Speaks l own x) (Hushes l) codes → (code : ℕ) × Speaks l own x code
spoken_by (this {x = code} p a) = (code, p)
spoken_by (that q o) = spoken_by o

module _ {codes : List ℕ} {l : Capture} (k : Underway codes l) (s : FrameSays codes l) where
  record EndsWith (e : Event) : Type 0 where
    pub answers : Answers codes l k.answerer
    pub event : e ≡ end_of l k.answerer

  ended : {e : Event} → Tells l e → EndsWith e
  ended {e} t = record {
    answers = k.answers (told-last (message l) (acts_in l.marks) (map heard (heard_by l k.answerer) ++ (end_by l k.answerer ∷ [])) k.in_order.0 k.in_order.1 t.1);
    event = has_all (told_once l k.answerer) (subst (Has (told e t.0)) (sym k.in_order.1) (has_left k.in_order.0 t.1));
  }

  -- The frame is a poll.
  module _ (own : ℕ) (poll : l.frame ≡ poll_of own) where
    no-data : l.lent ≡ []
    no-data = s.begin.bare (ap (λ (f : Frame). is_submitted f.kind) poll)

    reply-is : (speaker : ℕ) (x : Inside) → reply_to l speaker x ≡ reply_for speaker x (poll_of own).command []
    reply-is speaker x = λ i. reply_for speaker x (poll i).command (no-data i)

    its_own : (own ≡ 0 → ⊥) → {speaker code : ℕ} {x : Inside} → Speaks l speaker x code → Has (settled x) (deeds_in own l.marks)
    its_own nonzero {speaker} {x = x} k =
        let same = addressed_own (poll_of own).command speaker nonzero (subst (λ (f : Frame). addressed f.command speaker ≡ true) poll k.meant) in
        subst (λ (n : ℕ). Has (settled x) (deeds_in n l.marks)) same k.inside

  -- Held when polled: handed over.
  hands : (own : ℕ) (e : Event) → HeldWhenPolled own l → Tells l e → e ≡ Handed own
  hands own e held t = by k.answerer (ended t).answers (ended t).event k.parts
    where
      at_last : Settles codes own held.inside
      at_last = settles codes s own held.inside held.takes_last

      speaks : Hushes l own → ⊥
      speaks (not_meant e) = true≢false (sym (or-first (eqb l.frame.command.device own) (eqb l.frame.command.device 0) (eq-eqb l.frame.command.device own (ap (λ (f : Frame). f.command.device) held.poll))) ∙ e)
      speaks (by_the_rule x h e) =
          true≢false (sym e ∙ ap is_silent (reply-is own held.poll own x) ∙ (every_lawful (kind_of own)).speaks x own (settles codes s own x h).fit at_last.coded)

      by : (a : Answerer) → Answers codes l a → e ≡ end_of l a → All (Part l) codes → e ≡ Handed own
      by nobody all q parts = absurd (speaks (has_all all at_last.on_bus))
      by (unit speaker x) one q parts =
          let k = (spoken_by one).1 in
          let part = has_all parts at_last.on_bus in
          let inside : x ≡ held.inside = settled_in part x (its_own own held.poll at_last.coded k) ∙ sym (settled_in part held.inside held.takes_last) in
          let zero : status_by l (unit speaker x) ≡ 0x00 =
          ap reply_status (reply-is own held.poll speaker x) ∙ held-says-zero speaker own x (settles codes s speaker x k.inside).fit at_last.coded (ap has_request inside ∙ held.request) in
          q ∙ (λ i. event_told (held.poll i).kind (held.poll i).command.device (zero i) (length (data_by l (unit speaker x))))

  -- Handed over: held when polled.
  was-held : (code : ℕ) → Tells l (Handed code) → HeldWhenPolled code l
  was-held code t = by k.answerer (ended t).answers (ended t).event
    where
      by : (a : Answerer) → Answers codes l a → Handed code ≡ end_of l a → HeldWhenPolled code l
      by nobody all q = let z = (hands_by l.frame.kind l.frame.command 0xFF 0 code (tells_so l.frame 0xFF 0 ∙ sym q)).1.1 in absurd (omega arith)
      by (unit speaker x) one q =
          let h = hands_by l.frame.kind l.frame.command (status_by l (unit speaker x)) (length (data_by l (unit speaker x))) code (tells_so l.frame (status_by l (unit speaker x)) (length (data_by l (unit speaker x))) ∙ sym q) in
          let poll : l.frame ≡ poll_of code = poll_shape l.frame code s.begin.shape h.0 h.1.0 in
          let k = (spoken_by one).1 in
          let nonzero : code ≡ 0 → ⊥ = λ z. true≢false (sym ((every_lawful (kind_of speaker)).zero_silent x l.frame.command (length l.lent) (stored_of l.lent) (h.1.0 ∙ z)) ∙ k.defined) in
          record {
            poll = poll;
            inside = x;
            takes_last = its_own code poll nonzero k;
            request = zero-says-held speaker code x (settles codes s speaker x k.inside).fit nonzero (sym (ap reply_status (reply-is code poll speaker x)) ∙ h.1.1);
          }

-- In every frame of a run's log.
pub polled_hands : PolledHands
polled_hands w v q r = all_map (λ l p. hands p.0 p.1) (all_zip (each_underway (demand_2 w v q r).frames) (frames_say w v q r))

pub handed_held : HandedHeld
handed_held w v q r = all_map (λ l p. was-held p.0 p.1) (all_zip (each_underway (demand_2 w v q r).frames) (frames_say w v q r))

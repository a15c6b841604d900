-- What the log shows of a frame that runs, from what is known of it.
use Prim.Native.Nat.{ℕ, zero, suc, ◌+◌, ◌<◌, ◌≤◌, min}
use native.Mathlib.Nat.{min-le_left, min-le_right, le_trans, not-suc-le-zero, le_of_suc-le-suc}
use native.Mathlib.Omega.{arith}
use mathlib.Core.Path.{◌≡◌, refl, sym, ◌∙◌, ap, subst}
use mathlib.Core.Bool.{Bool, true, false, true≢false}
use mathlib.Core.List.{List, [], ◌∷◌, ◌++◌, map, append-nil, append_assoc}
use borrow.Author.Tests.{ltb-true, ltb-false}
use lib.Dec.{ltb}
use lib.ListN.{length, take, drop, length-map, length-append, take-append-drop}
use lib.Seq.{length-take-le}
use Rattle.bus.specs.declared.Station.{Station}
use Rattle.field.proofs.Laws.{length-nibbles}
use Rattle.frame.specs.Frame.{data_of, is_submitted}
use Rattle.inside.specs.Inside.{Inside, inside_of}
use Rattle.answer.specs.declared.Response.{Response}
use Rattle.line.specs.declared.Listener.{Listener}
use Rattle.line.specs.declared.Sender.{Sender}
use Rattle.phase.specs.declared.Phase.{Phase}
use Rattle.phase.specs.declared.Phase.TheVariants.{SittingOut}
use Rattle.reply.specs.Reply.{is_silent}
use Rattle.serial.specs.declared.Reply.{Reply}
use Rattle.whole.specs.Whole.{bytes_for}
use Rattle.whole.proofs.Whole.{length_bytes}
use Rattle.delivery.specs.Run.{codes_of}
use Rattle.delivery.specs.Demand2.{message, is_addressed, reply_to, response, deeds_of, answer_of, nobody, unit, end_by, Hushes, Speaks, Ended, Part, Underway, Delivered, all_ended, one_runs}
use Rattle.delivery.specs.Calls.{in_frame}
use Rattle.delivery.specs.Lists.{All, also, One, this, that, Front}
use Rattle.delivery.specs.Log.{Act, sent, heard, Deed, took, settled, spoke, done, Capture, acts_in, deeds_in}
use Rattle.delivery.specs.World.{World}
use Rattle.delivery.proofs.Captured.{Frames, at_rest, in_one}
use Rattle.delivery.proofs.Completed.{all_codes, one_codes, one_zip, hush-hushes, hush-part}
use Rattle.delivery.proofs.Deeds.{Hush, Stands, Did, map-append, heard-did}
use Rattle.delivery.proofs.Lists.{all_map, all_zip}
use Rattle.delivery.proofs.Logged.{Story, sent_so_far, told_so_far, nobody_so_far}
use Rattle.delivery.proofs.Part.{heard_short}
use Rattle.delivery.proofs.Promised.{Moment}
use Rattle.delivery.proofs.Run.{frame_runs}
use Rattle.delivery.proofs.Spoken.{answering, count}
use Rattle.delivery.proofs.Stages.{Fresh, Sits, Sound, Talk, talks, InFrame, begins, sends, hears, waits, is_responding, listens, answers, sits}
use Rattle.delivery.proofs.Stages.{Part as StagePart}
use Rattle.delivery.proofs.Story.{DidAt, TellsAt, Acted, stands_has, fresh_nothing}

-- Lists.
split_map : {A B : Type 0} (f : A → B) (k : ℕ) (xs : List A) → map f xs ≡ map f (take k xs) ++ map f (drop k xs)
split_map f k xs = ap (map f) (sym (take-append-drop k xs)) ∙ map-append f (take k xs) (drop k xs)

all_of : {A : Type 0} {xs ys : List A} → xs ≡ ys → Front xs ys
all_of {xs = xs} e = ([], sym e ∙ sym (append-nil xs))

take-take : {A : Type 0} (k n : ℕ) (xs : List A) → k ≤ n → take k (take n xs) ≡ take k xs
take-take zero n xs h = refl
take-take (suc k) zero xs h = absurd (not-suc-le-zero h)
take-take (suc k) (suc n) [] h = refl
take-take {A} (suc k) (suc n) (x ∷ xs) h = ap (λ (y : List A). x ∷ y) (take-take k n xs (le_of_suc-le-suc h))

message_long : (l : Capture) → 18 ≤ length (message l)
message_long l = let a = length-nibbles (bytes_for l.frame.command l.lent) in let b = length_bytes l.frame.command l.lent in omega arith

-- A unit's part, by what it has done.
module _ (l : Capture) (own : ℕ) where
  abbrev msg : List ℕ
  msg = message l

  abbrev deeds : List Deed
  deeds = deeds_in own l.marks

  abbrev acts : List Act
  acts = acts_in l.marks

  -- All of it.
  pub part-whole : (x : Inside) → deeds ≡ deeds_of l own x → Part l own
  part-whole x e = record {
    inside = x;
    in_order = all_of e;
    reached = subst (λ (n : ℕ). min (length acts) (min (length msg) (length (deeds_of l own x))) ≤ n) (sym (ap length e))
        (le_trans (min-le_right (length acts) (min (length msg) (length (deeds_of l own x)))) (min-le_right (length msg) (length (deeds_of l own x))));
  }

  -- It has taken k nibbles, as many as count as sent or more, and more than the device code only where it is addressed.
  took-front : (t : Bool) (k : ℕ) (x : Inside) → is_addressed l own ≡ t → (t ≡ false → k ≤ 2) → deeds ≡ map took (take k msg) → Front deeds (deeds_of l own x)
  took-front true k x meant h e = (
    map took (drop k msg) ++ (settled x ∷ answer_of l own x),
    rw meant
        (ap (λ (y : List Deed). y ++ (settled x ∷ answer_of l own x)) (split_map took k msg)
        ∙ append_assoc (map took (take k msg)) (map took (drop k msg)) (settled x ∷ answer_of l own x)
        ∙ ap (λ (y : List Deed). y ++ (map took (drop k msg) ++ (settled x ∷ answer_of l own x))) (sym e)),
  )
  took-front false k x meant h e = (
    map took (drop k (take 2 msg)),
    rw meant
        (split_map took k (take 2 msg)
        ∙ ap (λ (y : List ℕ). map took y ++ map took (drop k (take 2 msg))) (take-take k 2 msg (h refl))
        ∙ ap (λ (y : List Deed). y ++ map took (drop k (take 2 msg))) (sym e)),
  )

  pub part-took : (k : ℕ) (x : Inside) → (is_addressed l own ≡ false → k ≤ 2) → k ≤ length msg → length acts ≤ k → deeds ≡ map took (take k msg) → Part l own
  part-took k x h most so_far e = record {
    inside = x;
    in_order = took-front (is_addressed l own) k x refl h e;
    reached =
        let n = length-map (take k msg) took in
        let m = length-take-le k msg most in
        let same : length deeds ≡ k = ap length e ∙ n ∙ m in
        let b = min-le_left (length acts) (min (length msg) (length (deeds_of l own x))) in
        omega arith;
  }

  -- It has taken the whole command, and j nibbles of its answer count as sent.
  stands-long : (x : Inside) (rest : List Deed) → deeds ≡ map took msg ++ (settled x ∷ rest) → length msg ≤ length deeds
  stands-long x rest e =
      let n = length-map msg took in
      let m = length-append (map took msg) (settled x ∷ rest) in
      let same = ap length e in
      omega arith

  part-stands : (x : Inside) (rest : List Deed) → deeds ≡ map took msg ++ (settled x ∷ rest) → Front deeds (deeds_of l own x) → Part l own
  part-stands x rest e front = record {
    inside = x;
    in_order = front;
    reached =
        le_trans (min-le_right (length acts) (min (length msg) (length (deeds_of l own x))))
        (le_trans (min-le_left (length msg) (length (deeds_of l own x))) (stands-long x rest e));
  }

  pub part-settled : {r : Reply} (s : Stands l.frame.command l.lent own r 0 deeds) → Part l own
  part-settled s =
      part-stands s.given [] s.deeds (
        answer_of l own s.given,
        rw s.meant
            (sym (append_assoc (map took msg) (settled s.given ∷ []) (answer_of l own s.given))
            ∙ ap (λ (y : List Deed). y ++ answer_of l own s.given) (sym s.deeds)),
      )

  module _ {r : Reply} {j : ℕ} (s : Stands l.frame.command l.lent own r j deeds) where
    abbrev answer : List ℕ
    answer = response l own s.given

    pub part-speaks : is_silent r ≡ false → Part l own
    part-speaks speaks =
        let defined : is_silent (reply_to l own s.given) ≡ false = sym (ap is_silent s.said) ∙ speaks in
        part-stands s.given (map spoke (take j answer)) s.deeds (
          map spoke (drop j answer) ++ (done ∷ []),
          rw (s.meant, defined)
              (ap (λ (y : List Deed). map took msg ++ (settled s.given ∷ (y ++ (done ∷ [])))) (split_map spoke j answer)
              ∙ ap (λ (y : List Deed). map took msg ++ (settled s.given ∷ y)) (append_assoc (map spoke (take j answer)) (map spoke (drop j answer)) (done ∷ []))
              ∙ sym (append_assoc (map took msg) (settled s.given ∷ map spoke (take j answer)) (map spoke (drop j answer) ++ (done ∷ [])))
              ∙ ap (λ (y : List Deed). y ++ (map spoke (drop j answer) ++ (done ∷ []))) (sym s.deeds)),
        )

  pub part-hushed : Inside → Hush l.frame.command l.lent own deeds → Part l own
  part-hushed x h = let p = hush-part l own x h in part-whole p.0 p.1

-- A frame that runs.
module _ (l : Capture) where
  -- While the command is sent.
  module _ (i : ℕ) (was : acts_in l.marks ≡ map sent (take i (message l))) (less : i < length (message l)) where
    acts-so-far : length (acts_in l.marks) ≡ i
    acts-so-far = ap length was ∙ length-map (take i (message l)) sent ∙ length-take-le i (message l) (let k = less in omega arith)

    sending-delivered : {ss : List Station} → All (λ (st : Station). Part l st.unit.own) ss → Underway (codes_of ss) l
    sending-delivered parts = record {
      answerer = nobody;
      in_order = (
        map sent (drop i (message l)) ++ (end_by l nobody ∷ []),
        ap (λ (y : List Act). y ++ (end_by l nobody ∷ [])) (split_map sent i (message l))
            ∙ append_assoc (map sent (take i (message l))) (map sent (drop i (message l))) (end_by l nobody ∷ [])
            ∙ ap (λ (y : List Act). y ++ (map sent (drop i (message l)) ++ (end_by l nobody ∷ []))) (sym was),
      );
      answers = λ more. let n = acts-so-far in let k = less in absurd (omega arith);
      parts = all_codes parts;
    }

    sends-part : {P : Reply → Inside → Type 0} (st : Station) {sender : Sender} → StagePart P l.frame.command l.lent i sender st → DidAt l l.lent st → Part l st.unit.own
    sends-part st (listens ear t f h meant quiet) did =
        let a = length-nibbles (bytes_for l.frame.command l.lent) in
        let b = length_bytes l.frame.command l.lent in
        let c = heard_short (omega arith) h in
        let n = acts-so-far in
        part-took l st.unit.own (i + t) (inside_of st) (λ other. few (ltb (i + t) 2) refl other) (omega arith) (omega arith) (heard-did l.frame.command l.lent st.unit.own h did)
      where
        few : (t' : Bool) → ltb (i + t) 2 ≡ t' → is_addressed l st.unit.own ≡ false → i + t ≤ 2
        few true e other = let k = ltb-true (i + t) 2 e in omega arith
        few false e other = absurd (true≢false (sym (meant (ltb-false (i + t) 2 e)) ∙ other))
    sends-part st (answers ear r f all meant e p quiet) did = part-settled l st.unit.own (subst (λ (x : Phase). Did l.frame.command l.lent st.unit.own x (deeds_in st.unit.own l.marks)) e did)
    sends-part st (sits now other e why quiet) did =
        part-hushed l st.unit.own (inside_of st) (subst (λ (x : Phase). Did l.frame.command l.lent st.unit.own x (deeds_in st.unit.own l.marks)) e did)

    fresh-part : i ≡ 0 → (st : Station) → Fresh st → DidAt l l.lent st → Part l st.unit.own
    fresh-part first st fresh did =
        let n = acts-so-far in
        part-took l st.unit.own 0 (inside_of st) (λ other. omega arith) (omega arith) (omega arith) (fresh_nothing l.frame.command l.lent st.unit.own fresh did)

  -- While the controller listens: what a unit that sits out has done.
  sits-hush : {now : Bool} (st : Station) → st.unit.phase ≡ SittingOut now → DidAt l l.lent st → Hush l.frame.command l.lent st.unit.own (deeds_in st.unit.own l.marks)
  sits-hush st e did = subst (λ (x : Phase). Did l.frame.command l.lent st.unit.own x (deeds_in st.unit.own l.marks)) e did

  -- Nobody responds.
  waits-delivered : {ss : List Station} → acts_in l.marks ≡ map sent (message l)
      → All (λ (st : Station). Hush l.frame.command l.lent st.unit.own (deeds_in st.unit.own l.marks)) ss → All (DidAt l l.lent) ss → Underway (codes_of ss) l
  waits-delivered was hush did = record {
    answerer = nobody;
    in_order = (end_by l nobody ∷ [], ap (λ (y : List Act). y ++ (end_by l nobody ∷ [])) (sym was));
    answers = λ _. all_codes (all_map (λ st h. hush-hushes l st.unit.own h) hush);
    parts = all_codes (all_map (λ st h. part-hushed l st.unit.own (inside_of st) h) hush);
  }

  -- One unit does, with `given` inside it as it took the last nibble; k nibbles of its response are taken.
  record Speaker (ss : List Station) : Type 0 where
    own : ℕ
    given : Inside
    k : ℕ
    acted : acts_in l.marks ≡ map sent (message l) ++ map heard (take k (response l own given))
    speaks : One (λ (st : Station). Speaks l own given st.unit.own) (λ (st : Station). Hushes l st.unit.own) ss
    parts : All (λ (st : Station). Part l st.unit.own) ss

  module _ (T : Moment) (stores : Bool) (found : List ℕ) (ear : Listener) (taken : Response) (quiet : ℕ) (buffer : List ℕ) where
    abbrev Talking : Station → Type 0
    Talking st = (Talk T l.frame.command l.lent stores found ear taken quiet buffer st × Sound st) × (DidAt l l.lent st × TellsAt l l.lent ear st)

    abbrev Sitting : Station → Type 0
    Sitting st = (Sits st × Sound st) × (DidAt l l.lent st × TellsAt l l.lent ear st)

    hushed-part : (st : Station) → Sitting st → Part l st.unit.own
    hushed-part st p = part-hushed l st.unit.own (inside_of st) (sits-hush st p.0.0.0 p.1.0)

    hushes : (st : Station) → Sitting st → Hushes l st.unit.own
    hushes st p = hush-hushes l st.unit.own (sits-hush st p.0.0.0 p.1.0)

    speaker : {ss : List Station} → One Talking Sitting ss → Speaker ss
    speaker (this {x = st} ((talks r j t sender wait z p fits g b less w q asking meant, sound), (did, tells)) a) =
        let s : Stands l.frame.command l.lent st.unit.own r j (deeds_in st.unit.own l.marks) × (is_silent r ≡ false) =
        subst (λ (x : Phase). Did l.frame.command l.lent st.unit.own x (deeds_in st.unit.own l.marks)) z did in
        let was = tells r j s.0 (answering sender wait z) in
        record {
          own = st.unit.own;
          given = s.0.given;
          k = j + count ear;
          acted = was;
          speaks = this (record { named = refl; meant = s.0.meant; inside = stands_has s.0; defined = sym (ap is_silent s.0.said) ∙ s.1 }) (all_map hushes a);
          parts = also (part-speaks l st.unit.own s.0 s.1) (all_map hushed-part a);
        }
    speaker (that {x = st} q o) =
        let s = speaker o in
        record {
          own = s.own;
          given = s.given;
          k = s.k;
          acted = s.acted;
          speaks = that (hushes st q) s.speaks;
          parts = also (hushed-part st q) s.parts;
        }

  speaker-delivered : {ss : List Station} → Speaker ss → Underway (codes_of ss) l
  speaker-delivered s =
      let a = unit s.own s.given in
      let all = response l s.own s.given in
      record {
        answerer = a;
        in_order = (
          map heard (drop s.k all) ++ (end_by l a ∷ []),
          ap (λ (y : List Act). map sent (message l) ++ (y ++ (end_by l a ∷ []))) (split_map heard s.k all)
              ∙ ap (λ (y : List Act). map sent (message l) ++ y) (append_assoc (map heard (take s.k all)) (map heard (drop s.k all)) (end_by l a ∷ []))
              ∙ sym (append_assoc (map sent (message l)) (map heard (take s.k all)) (map heard (drop s.k all) ++ (end_by l a ∷ [])))
              ∙ ap (λ (y : List Act). y ++ (map heard (drop s.k all) ++ (end_by l a ∷ []))) (sym s.acted),
        );
        answers = λ _. one_codes s.speaks;
        parts = all_codes s.parts;
      }

-- So of every frame.
abbrev lent_now : Capture → World → Capture
lent_now l v = record { frame = l.frame; lent = data_of l.frame v.lent; found = l.found; marks = l.marks }

by_stage : {T : Moment} (l : Capture) {found : List ℕ} (v : World) → InFrame T l.frame found v → All (DidAt l (data_of l.frame v.lent)) v.units
    → Acted l (data_of l.frame v.lent) v.controller.stage v.units → Underway (codes_of v.units) (lent_now l v)
by_stage l v (begins {lent = lent} framed d a) did acted =
    let m = lent_now l v in
    let n = message_long m in
    sending-delivered m 0 (sent_so_far acted) (omega arith) (all_map (λ st p. fresh-part m 0 (sent_so_far acted) (omega arith) refl st p.0.0 p.1) (all_zip a did))
by_stage l v (sends i sender framed d s less a) did acted =
    let m = lent_now l v in
    let n = length-nibbles (bytes_for m.frame.command m.lent) in
    let fewer : i < length (message m) = omega arith in
    sending-delivered m i (sent_so_far acted) fewer (all_map (λ st p. sends-part m i (sent_so_far acted) fewer st p.0.0 p.1) (all_zip a did))
by_stage {T} l {found} v (hears ear taken quiet {response = response} framed d long o) did acted =
    speaker-delivered (lent_now l v) (speaker (lent_now l v) T (is_submitted l.frame.kind) found ear taken quiet response (one_zip o (all_zip did (told_so_far acted))))
by_stage l v (waits quiet framed d a why) did acted =
    let m = lent_now l v in
    waits-delivered m (nobody_so_far acted (all_map (λ st p. ap is_responding p.0.0) a)) (all_map (λ st p. sits-hush m st p.0.0.0 p.1) (all_zip a did)) did

story_underway : {T : Moment} (l : Capture) (v : World) → Story T l v → Underway (codes_of v.units) l
story_underway l v s = subst (Underway (codes_of v.units)) (λ i. record { frame = l.frame; lent = s.lent i; found = l.found; marks = l.marks }) (by_stage l v s.frame s.did s.acted)

pub frames_delivered : {T : Moment} {v : World} {ls : List Capture} → Frames T v ls → Delivered (codes_of v.units) (in_frame v.controller.stage) ls
frames_delivered {v = v} {ls = ls} (at_rest e a) = subst (λ (t : Bool). Delivered (codes_of v.units) t ls) (sym e) (all_ended a)
frames_delivered {v = v} (in_one {l = l} {ls = ls} s a) = subst (λ (t : Bool). Delivered (codes_of v.units) t (l ∷ ls)) (sym (frame_runs s.frame)) (one_runs (story_underway l v s) a)

-- What is said of a frame that runs is true of one that has ended as well.
ended_underway : {codes : List ℕ} {l : Capture} → Ended codes l → Underway codes l
ended_underway {l = l} k = record { answerer = k.answerer; in_order = all_of k.acted; answers = λ _. k.answers; parts = all_map (λ own p. part-whole l own p.0 p.1) k.parts }

pub each_underway : {codes : List ℕ} {runs : Bool} {ls : List Capture} → Delivered codes runs ls → All (Underway codes) ls
each_underway (all_ended a) = all_map (λ l k. ended_underway k) a
each_underway (one_runs k a) = also k (all_map (λ l e. ended_underway e) a)

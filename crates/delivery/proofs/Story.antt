-- A frame as it runs, and its log: what every unit has done goes by its phase, what the controller has done by its stage. Each round leads on
-- so, or completes the frame.
use Prim.Native.Nat.{ℕ, suc, ◌+◌, ◌*◌, ◌<◌, ◌≤◌}
use native.Mathlib.Omega.{arith}
use mathlib.Core.Path.{◌≡◌, refl, sym, ◌∙◌, ap, subst}
use mathlib.Core.Bool.{Bool, true, false, cond, true≢false, false≢true}
use mathlib.Core.List.{List, [], ◌∷◌, ◌++◌, map, append-nil}
use borrow.Author.Tests.{ltb-false}
use lib.Dec.{ltb}
use lib.ListN.{length, take}
use lib.Seq.{take_all}
use Rattle.answer.specs.Answer.{nothing_taken}
use Rattle.answer.specs.declared.Response.{Response}
use Rattle.bus.specs.Bus.{station_step}
use Rattle.bus.specs.declared.Station.{Station}
use Rattle.controller.specs.Controller.{event_in}
use Rattle.controller.specs.declared.Controller.{Controller}
use Rattle.frame.specs.Frame.{data_of, next_nibble, stays, over, last_nibble}
use Rattle.frame.specs.declared.End.{End}
use Rattle.std.specs.Prelude.{Option, Some, None}
use Rattle.frame.specs.declared.Frame.{Frame}
use Rattle.frame.specs.declared.Moved.{Moved}
use Rattle.frame.specs.declared.Stage.{Stage}
use Rattle.frame.specs.declared.Stage.TheVariants.{Free, Resting, Waiting, Sending, Listening}
use Rattle.header.specs.declared.Command.{Command}
use Rattle.inside.specs.Inside.{inside_of}
use Rattle.line.specs.Line.{send_of, sent_of, sender_nibble}
use Rattle.line.specs.declared.Lines.{Lines}
use Rattle.line.specs.declared.Listener.{Listener}
use Rattle.line.specs.declared.Listener.TheVariants.{Ready}
use Rattle.line.specs.declared.Sender.{Sender}
use Rattle.line.specs.declared.Sender.TheVariants.{Next}
use Rattle.message.specs.Nibbles.{nibble_in}
use Rattle.phase.specs.declared.Phase.{Phase}
use Rattle.phase.specs.declared.Phase.TheVariants.{Idle, Selecting, Receiving, Responding, SittingOut}
use Rattle.ring.specs.declared.Ring.{Ring}
use Rattle.serial.specs.declared.Reply.{Reply}
use Rattle.serial.specs.declared.Reply.TheVariants.{Silent}
use Rattle.whole.specs.Whole.{bytes_for}
use Rattle.whole.proofs.Whole.{length_bytes}
use Rattle.delivery.specs.Lists.{All, Has}
use Rattle.delivery.specs.Log.{Act, sent, heard, Deed, settled, spoke, Mark, acts, deeds_by, units_marks, stage_marks, round_marks, Capture, acts_in, deeds_in}
use Rattle.delivery.proofs.Moves.{Becomes}
use Rattle.delivery.proofs.Promised.{Moment, Promised}
use Rattle.delivery.proofs.Stages.{Fresh, idles, selects, Sound, Sends, s_next, s_placed, s_kept, Part, InFrame, sends, is_responding, spoke, Framed, world}
use Rattle.delivery.specs.World.{World, Busy, levels, round, Different}
use Rattle.delivery.proofs.Deeds.{has_settled, twice_as_many, nibbles_for, answer_for, Stands, Did, one_more, part-did, fresh_did}
use Rattle.delivery.proofs.EveryRound.{in_frame_nibble, in_frame_low, in_frame_different}
use Rattle.delivery.proofs.Frame.{control, own_kept}
use Rattle.delivery.proofs.Lines.{hsk_own}
use Rattle.delivery.proofs.Lists.{all_zip, all_becomes}
use Rattle.delivery.proofs.Logs.{acts_append, deeds_append, units_no_acts, units_deeds, stage_no_deeds, grown}
use Rattle.delivery.proofs.Part.{Shows, Stepped, low_step_lem, Turned, speaks, silent, part-over}
use Rattle.delivery.proofs.Spoken.{Answering, answering, count, HeardOf}
use Rattle.delivery.proofs.Stage.{sending, shows, nibble_below}

-- What is known of a unit, and of the controller beside it.
abbrev pub DidAt : Capture → List ℕ → Station → Type 0
DidAt l d st = Did l.frame.command d st.unit.own st.unit.phase (deeds_in st.unit.own l.marks)

abbrev pub TellsBy : Command → List ℕ → Listener → List Act → ℕ → Phase → List Deed → Type 0
TellsBy c d ear a own phase e = (r : Reply) (j : ℕ) (s : Stands c d own r j e) → Answering phase r j → HeardOf c d (answer_for c d own s.given) (j + count ear) a

abbrev pub TellsAt : Capture → List ℕ → Listener → Station → Type 0
TellsAt l d ear st = TellsBy l.frame.command d ear (acts_in l.marks) st.unit.own st.unit.phase (deeds_in st.unit.own l.marks)

abbrev pub Still : Station → Type 0
Still st = is_responding st.unit.phase ≡ false

pub data Acted (l : Capture) (d : List ℕ) (stage : Stage) (units : List Station) : Type 0 where
  sending_so : (i : ℕ) (sender : Sender) (wait : Bool) → stage ≡ Sending l.frame i sender wait → acts_in l.marks ≡ map sent (take i (nibbles_for l.frame.command d)) → Acted l d stage units
  listening_so :
      (ear : Listener) (taken : Response) (quiet : ℕ) → stage ≡ Listening l.frame ear taken quiet → All (TellsAt l d ear) units
      → (All Still units → acts_in l.marks ≡ map sent (nibbles_for l.frame.command d)) → Acted l d stage units

-- The units in a round, and what they have done behind it.
abbrev pub later_of : Capture → World → Busy → Capture
later_of l v busy = grown l (round_marks v busy)

module _ (l : Capture) (v : World) (busy : Busy) (different : Different v.units) (low : (levels v).bav ≡ true) where
  abbrev later : Capture
  later = later_of l v busy

  abbrev controls : List Mark
  controls = stage_marks v.controller.stage (round v busy).controller.stage (levels v) (event_in v.controller (levels v) busy.here v.lent) v.lent v.response (round v busy).response

  pub acts-now : acts_in later.marks ≡ acts_in l.marks ++ acts_in controls
  acts-now =
      acts_append l.marks (round_marks v busy)
      ∙ ap (λ (x : List Act). acts_in l.marks ++ x) (acts_append (units_marks (levels v) busy.there v.units) controls ∙ ap (λ (x : List Act). x ++ acts_in controls) (units_no_acts (levels v) busy.there v.units))

  module _ {st after : Station} (b : Becomes (levels v) busy.there v.units st after) where
    abbrev newly : List Deed
    newly = deeds_by st.unit.phase after.unit.phase (inside_of st) (levels v)

    pub deeds-now : deeds_in st.unit.own later.marks ≡ deeds_in st.unit.own l.marks ++ newly
    deeds-now =
        deeds_append st.unit.own l.marks (round_marks v busy)
        ∙ ap (λ (x : List Deed). deeds_in st.unit.own l.marks ++ x)
        (deeds_append st.unit.own (units_marks (levels v) busy.there v.units) controls
        ∙ (λ i. (units_deeds different b ∙ (λ k. cond (low k) newly [])) i ++ stage_no_deeds st.unit.own v.controller.stage (round v busy).controller.stage (levels v)
        (event_in v.controller (levels v) busy.here v.lent) v.lent v.response (round v busy).response i)
        ∙ append-nil newly)

    module _ (o : after.unit.own ≡ st.unit.own) (d : List ℕ) where
      pub did-now : Did l.frame.command d st.unit.own after.unit.phase (deeds_in st.unit.own l.marks ++ newly) → DidAt later d after
      did-now q =
          subst (λ (own : ℕ). Did l.frame.command d own after.unit.phase (deeds_in own later.marks)) (sym o)
          (subst (Did l.frame.command d st.unit.own after.unit.phase) (sym deeds-now) q)

      pub tells-now : (ear : Listener) {a : List Act} → acts_in later.marks ≡ a → TellsBy l.frame.command d ear a st.unit.own after.unit.phase (deeds_in st.unit.own l.marks ++ newly) → TellsAt later d ear after
      tells-now ear {a} z q =
          subst (λ (own : ℕ). TellsBy l.frame.command d ear (acts_in later.marks) own after.unit.phase (deeds_in own later.marks)) (sym o)
          (subst (TellsBy l.frame.command d ear (acts_in later.marks) st.unit.own after.unit.phase) (sym deeds-now)
          (subst (λ (x : List Act). TellsBy l.frame.command d ear x st.unit.own after.unit.phase (deeds_in st.unit.own l.marks ++ newly)) (sym z) q))

-- Phases and stages told apart.
abbrev index_of : Phase → ℕ
index_of Idle = 0
index_of (Selecting ear half low) = 0
index_of (Receiving ear progress) = 0
index_of (Responding r j sender wait) = j
index_of (SittingOut last) = 0

abbrev reply_of : Phase → Reply
reply_of Idle = Silent
reply_of (Selecting ear half low) = Silent
reply_of (Receiving ear progress) = Silent
reply_of (Responding r j sender wait) = r
reply_of (SittingOut last) = Silent

pub not_answering : {phase : Phase} {r : Reply} {j : ℕ} → is_responding phase ≡ false → Answering phase r j → ⊥
not_answering e (answering sender wait z) = true≢false (sym (ap is_responding z) ∙ e)

pub answers_at : {phase : Phase} {r r' : Reply} {j j' : ℕ} {sender : Sender} {wait : Bool} → phase ≡ Responding r j sender wait → Answering phase r' j' → j' ≡ j
answers_at e (answering sender wait z) = sym (ap index_of z) ∙ ap index_of e

abbrev pub place_in : Stage → ℕ
place_in Free = 0
place_in (Resting first) = 0
place_in (Waiting f) = 0
place_in (Sending f i sender wait) = i
place_in (Listening f ear taken quiet) = 0

abbrev pub is_sending : Stage → Bool
is_sending Free = false
is_sending (Resting first) = false
is_sending (Waiting f) = false
is_sending (Sending f i sender wait) = true
is_sending (Listening f ear taken quiet) = false

abbrev is_end : Option End → Bool
is_end None = false
is_end (Some end) = true

pub not-over : {stage : Stage} {f : Frame} (r : Response) → stays stage ≡ over f r → ⊥
not-over r e = false≢true (ap (λ (m : Moved). is_end m.end) e)

-- Both tell the same of the moment in which the answer was fixed.
pub stands_has : {c : Command} {d : List ℕ} {own : ℕ} {r : Reply} {j : ℕ} {e : List Deed} (s : Stands c d own r j e) → Has (settled s.given) e
stands_has {c} {d} {own} {r} {j} s = subst (Has (settled s.given)) (sym s.deeds) (has_settled (nibbles_for c d) (map spoke (take j (answer_for c d own s.given))))

-- While the command is sent.
sent_acts : (t : Bool) (n : ℕ) → acts_in (cond t (acts (sent n) ∷ []) []) ≡ cond t (sent n ∷ []) []
sent_acts true n = refl
sent_acts false n = refl

sends-nibble : {n : ℕ} {sender : Sender} (low : Bool) → Sends n sender → sent_of sender low ≡ true → sender_nibble sender ≡ n
sends-nibble low s_next e = absurd (false≢true e)
sends-nibble low s_placed e = refl
sends-nibble low s_kept e = refl

pub fresh_nothing : (c : Command) (d : List ℕ) (own : ℕ) {st : Station} {e : List Deed} → Fresh st → Did c d own st.unit.phase e → e ≡ []
fresh_nothing c d own {st} {e} (idles z) q = subst (λ (x : Phase). Did c d own x e) z q
fresh_nothing c d own {st} {e} (selects z) q = subst (λ (x : Phase). Did c d own x e) z q

module _ {T : Moment} (l : Capture) {found : List ℕ} where
  pub step_in : {v : World} → InFrame T l.frame found v → (st : Station) (host : Bool) → Sound st → Stepped st (levels v) host (station_step st (levels v) host)
  step_in {v} x st host s = low_step_lem st (levels v) host (in_frame_nibble x) s.room (in_frame_low x)

  -- The round in which the units see BAV low.
  pub begins-did : (v : World) (busy : Busy) → InFrame T l.frame found v → All (λ (st : Station). Fresh st × Sound st) v.units → (levels v).hsk ≡ false → (d : List ℕ) → All (DidAt l d) v.units
      → All (DidAt (later_of l v busy) d) (round v busy).units
  begins-did v busy x a high d did =
      all_becomes (levels v) busy.there (λ st host b p.
      did-now l v busy (in_frame_different x) (in_frame_low x) b (own_kept st (levels v) host) d
      (fresh_did l.frame.command d (step_in x st host p.0.1) (deeds_in st.unit.own l.marks) high p.0.0 (fresh_nothing l.frame.command d st.unit.own p.0.0 p.1))) (all_zip a did)

  -- A round in which the command is sent.
  module _
      (i : ℕ) (sender : Sender) (timeout : ℕ) (ring : Ring) (units : List Station) (lent : List ℕ) (framed : Framed l.frame lent found timeout) (different : Different units)
      (s : Sends (nibble_in (bytes_for l.frame.command (data_of l.frame lent)) i) sender) (less : i < 2 * length (bytes_for l.frame.command (data_of l.frame lent)))
      (a : All (λ (st : Station). Part (Promised T st.unit.own l.frame.command (data_of l.frame lent)) l.frame.command (data_of l.frame lent) i sender st × Sound st) units)
      (busy : Busy)
    where
      abbrev c : Command
      c = l.frame.command

      abbrev d : List ℕ
      d = data_of l.frame lent

      abbrev v : World
      v = world timeout (Sending l.frame i sender false) ring units lent found

      x : InFrame T l.frame found v
      x = sends i sender framed different s less a

      abbrev seen : Lines
      seen = levels v

      shown : Shows sender seen
      shown = shows sender units (nibble_below (bytes_for c d) i) s a

      pub sends-did : All (DidAt l d) units → All (DidAt (later_of l v busy) d) (round v busy).units
      sends-did did =
          all_becomes seen busy.there (λ st host b p.
          did-now l v busy different (in_frame_low x) b (own_kept st seen host) d
          (part-did c d (step_in x st host p.0.0.1) (deeds_in st.unit.own l.marks) (Promised T st.unit.own c d) framed.sent i sender shown p.1 less p.0.0.0 p.0.1))
          (all_zip (all_zip a did) (hsk_own (sending sender) units))

      stage-now : (round v busy).controller.stage ≡ cond (sent_of sender seen.hsk) (next_nibble l.frame i) (Sending l.frame i (send_of sender seen.hsk (nibble_in (bytes_for c d) i)) false)
      stage-now = ap (λ (y : Controller). y.stage) (control v.controller seen busy.here lent found (in_frame_nibble x) framed.fits refl)

      acts-are : acts_in (later_of l v busy).marks ≡ acts_in l.marks ++ cond (sent_of sender seen.hsk) (sent (sender_nibble sender) ∷ []) []
      acts-are = acts-now l v busy different (in_frame_low x) ∙ ap (λ (y : List Act). acts_in l.marks ++ y) (sent_acts (sent_of sender seen.hsk) (sender_nibble sender))

      module _ (was : acts_in l.marks ≡ map sent (take i (nibbles_for c d))) where
        one-sent : sent_of sender seen.hsk ≡ true → acts_in (later_of l v busy).marks ≡ map sent (take (suc i) (nibbles_for c d))
        one-sent e =
            let t = twice_as_many c d in
            acts-are ∙ ap (λ (b : Bool). acts_in l.marks ++ cond b (sent (sender_nibble sender) ∷ []) []) e
            ∙ one_more sent (nibbles_for c d) i (sender_nibble sender) (acts_in l.marks) (omega arith) (sends-nibble seen.hsk s e) was

        last-tells : sent_of sender seen.hsk ≡ true → suc i ≡ 2 * length (bytes_for c d) → acts_in (later_of l v busy).marks ≡ map sent (nibbles_for c d) → All (TellsAt (later_of l v busy) d Ready) (round v busy).units
        last-tells e all whole =
            all_becomes seen busy.there (λ st host b p.
            let nine = length_bytes c d in
            tells-now l v busy different (in_frame_low x) b (own_kept st seen host) d Ready whole
            (by st host (deeds_in st.unit.own l.marks ++ deeds_by st.unit.phase (station_step st seen host).unit.phase (inside_of st) seen)
            (part-over (Promised T st.unit.own c d) c d i sender st (station_step st seen host) seen host (step_in x st host p.0.1) shown p.1 e all (omega arith) p.0.0))) (all_zip a (hsk_own (sending sender) units))
          where
            none_yet : (answer : List ℕ) (j : ℕ) → j ≡ 0 → HeardOf c d answer (j + 0) (map sent (nibbles_for c d))
            none_yet answer j z = sym (ap (λ (k : ℕ). map sent (nibbles_for c d) ++ map heard (take k answer)) (zero-too j z) ∙ append-nil (map sent (nibbles_for c d)))
              where
                zero-too : (j : ℕ) → j ≡ 0 → j + 0 ≡ 0
                zero-too j z = omega arith

            by : (st : Station) (host : Bool) (e : List Deed) → Turned (Promised T st.unit.own c d) c (station_step st seen host) → TellsBy c d Ready (map sent (nibbles_for c d)) st.unit.own (station_step st seen host).unit.phase e
            by st host e (speaks r z m phase q k) r' j k' answers = none_yet (answer_for c d st.unit.own k'.given) j (answers_at phase answers)
            by st host e (silent phase q k) r' j k' answers = absurd (not_answering (ap is_responding phase) answers)

        acted-by : (t u : Bool) → sent_of sender seen.hsk ≡ t → ltb i (last_nibble l.frame) ≡ u → Acted (later_of l v busy) d (round v busy).controller.stage (round v busy).units
        acted-by false u e f =
            sending_so i (send_of sender seen.hsk (nibble_in (bytes_for c d) i)) false (stage-now ∙ rw e)
            (acts-are ∙ ap (λ (b : Bool). acts_in l.marks ++ cond b (sent (sender_nibble sender) ∷ []) []) e ∙ append-nil (acts_in l.marks) ∙ was)
        acted-by true true e f =
            let k : suc i ≡ i + 1 = omega arith in
            sending_so (i + 1) Next false (stage-now ∙ rw (e, f)) (one-sent e ∙ ap (λ (n : ℕ). map sent (take n (nibbles_for c d))) k)
        acted-by true false e f =
            let n = length_bytes c d in
            let m : l.frame.data_length ≡ length d = framed.announced in
            let all : last_nibble l.frame ≤ i = ltb-false i (last_nibble l.frame) f in
            let last : suc i ≡ 2 * length (bytes_for c d) = omega arith in
            let t = twice_as_many c d in
            let whole : acts_in (later_of l v busy).marks ≡ map sent (nibbles_for c d) = one-sent e ∙ ap (map sent) (take_all (suc i) (nibbles_for c d) (omega arith)) in
            listening_so Ready nothing_taken 0 (stage-now ∙ rw (e, f)) (last-tells e last whole) (λ still. whole)

      pub sends-acted : Acted l d v.controller.stage units → Acted (later_of l v busy) d (round v busy).controller.stage (round v busy).units
      sends-acted (sending_so j k w e was) =
          acted-by (was ∙ ap (λ (n : ℕ). map sent (take n (nibbles_for c d))) (sym (ap place_in e))) (sent_of sender seen.hsk) (ltb i (last_nibble l.frame)) refl refl
      sends-acted (listening_so ear taken quiet e tells nobody) = absurd (true≢false (ap is_sending e))

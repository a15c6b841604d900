-- The mark of a unit agrees with its history, and no unit is in the ring twice.
use Prim.Native.Nat.{ℕ, suc, ◌+◌, ◌<◌, ◌≤◌}
use native.Mathlib.Omega.{arith}
use mathlib.Core.Path.{◌≡◌, refl, sym, ◌∙◌, ap, subst}
use mathlib.Core.Bool.{Bool, true, false, cond, ◌&&◌, ◌||◌, true≢false, false≢true}
use mathlib.Core.List.{List, [], ◌∷◌, ◌++◌, append-nil}
use borrow.Author.Tests.{leb-false, eqb-true, eq-eqb, ne_eqb, lt-ltb}
use lib.Dec.{eqb, ltb, leb, leb-suc-suc}
use lib.ListN.{length, get_or, length-append}
use Rattle.application.specs.Calls.{is_shut_out}
use Rattle.controller.specs.Controller.{new_controller}
use Rattle.controller.specs.declared.Controller.{Controller}
use Rattle.frame.specs.Frame.{begun, poll_of, null_frame, submitted_frame}
use Rattle.delivery.proofs.Running.{first_of}
use Rattle.frame.specs.declared.Frame.{Frame}
use Rattle.frame.specs.declared.Kind.{Kind}
use Rattle.frame.specs.declared.Kind.TheVariants.{Submitted, Poll, Null}
use Rattle.frame.specs.declared.Stage.{Stage}
use Rattle.header.specs.declared.Command.{Command}
use Rattle.message.specs.Nibbles.{nibble_in}
use Rattle.ring.specs.Ring.{entry_of, none, counted, live, ring_of, place_of, is_in, cut_at, joined, removed, turned, mark_at, with_mark, is_marked}
use Rattle.ring.specs.declared.Entry.{Entry}
use Rattle.ring.specs.declared.Ring.{Ring}
use Rattle.ring.proofs.Laws.{live_ring, live-within, marked_length, out-in, joins-back}
use Rattle.turn.specs.Turn.{turn_of, ring_by, ring_ended, event_by, event_of as frameEvent}
use Rattle.turn.specs.declared.Event.{Event}
use Rattle.turn.specs.declared.Event.TheVariants.{Nothing, Ended, Handed}
use Rattle.polling.specs.Moves.{Move, after, after_all, in_ring, is_for, event_of}
use Rattle.polling.specs.Beyond.{EveryTurn, Marks, marks_of, Once}
use Rattle.polling.specs.Demand3.{Joins, PollNibbles, NullNibbles}
use Rattle.polling.specs.History.{is_handed, is_done, settles, pending, pending_from, since, is_pending}
use Rattle.polling.proofs.Does.{is_poll, held, Unsettled, Onward, same_frame, no_more, Does, keeps, accepts, serves, frame_ends, clears, does}
use Rattle.polling.proofs.Turns.{short_joined, short_removed, short_marked, short_turned}

-- Marks of a unit's entries, behind each thing that can be done to the ring.
abbrev head_of : List Bool → Bool
head_of [] = false
head_of (b ∷ bs) = b

abbrev is_some : List Bool → Bool
is_some [] = false
is_some (b ∷ bs) = true

abbrev tail_of : List Bool → List Bool
tail_of [] = []
tail_of (b ∷ bs) = bs

abbrev with_head : Bool → List Bool → List Bool
with_head m [] = []
with_head m (b ∷ bs) = m ∷ bs

module _ (own : ℕ) where
  marks-append : (a b : List Entry) → marks_of own (a ++ b) ≡ marks_of own a ++ marks_of own b
  marks-append [] b = refl
  marks-append (e ∷ es) b = by (eqb e.code own) (marks-append es b)
    where
      by : (t : Bool) → marks_of own (es ++ b) ≡ marks_of own es ++ marks_of own b → cond t (e.marked ∷ marks_of own (es ++ b)) (marks_of own (es ++ b)) ≡ cond t (e.marked ∷ marks_of own es) (marks_of own es) ++ marks_of own b
      by true g = ap (λ (l : List Bool). e.marked ∷ l) g
      by false g = g

  -- Whether it is in the ring, and marked.
  lower : (a n : ℕ) → ltb (suc a) (suc n) ≡ ltb a n
  lower a n = leb-suc-suc (suc a) n

  pub marks-in : (l : List Entry) → is_in own l ≡ is_some (marks_of own l)
  marks-in [] = refl
  marks-in (e ∷ es) = by (eqb e.code own) (marks-in es)
    where
      by : (t : Bool) → is_in own es ≡ is_some (marks_of own es) → ltb (cond t 0 (suc (place_of own es))) (suc (length es)) ≡ is_some (cond t (e.marked ∷ marks_of own es) (marks_of own es))
      by true g = lt-ltb 0 (suc (length es)) (omega arith)
      by false g = lower (place_of own es) (length es) ∙ g

  pub marks-marked : (l : List Entry) → is_marked own l ≡ head_of (marks_of own l)
  marks-marked [] = refl
  marks-marked (e ∷ es) = by (eqb e.code own) (marks-marked es)
    where
      by : (t : Bool) → is_marked own es ≡ head_of (marks_of own es)
          → cond (ltb (cond t 0 (suc (place_of own es))) (suc (length es))) (get_or (e ∷ es) (cond t 0 (suc (place_of own es))) none).marked false ≡ head_of (cond t (e.marked ∷ marks_of own es) (marks_of own es))
      by true g = ap (λ (t : Bool). cond t e.marked false) (lt-ltb 0 (suc (length es)) (omega arith))
      by false g = ap (λ (t : Bool). cond t (get_or es (place_of own es) none).marked false) (lower (place_of own es) (length es)) ∙ g

  -- Of this unit.
  marks-removed : (l : List Entry) → marks_of own (removed own l) ≡ tail_of (marks_of own l)
  marks-removed [] = refl
  marks-removed (e ∷ es) = by (eqb e.code own) refl (marks-removed es)
    where
      by : (t : Bool) → eqb e.code own ≡ t → marks_of own (removed own es) ≡ tail_of (marks_of own es) → marks_of own (cut_at (cond t 0 (suc (place_of own es))) (e ∷ es)) ≡ tail_of (cond t (e.marked ∷ marks_of own es) (marks_of own es))
      by true x g = refl
      by false x g = ap (λ (t : Bool). cond t (e.marked ∷ marks_of own (removed own es)) (marks_of own (removed own es))) x ∙ g

  marks-set : (m : Bool) (l : List Entry) → marks_of own (with_mark m own l) ≡ with_head m (marks_of own l)
  marks-set m [] = refl
  marks-set m (e ∷ es) = by (eqb e.code own) refl (marks-set m es)
    where
      by : (t : Bool) → eqb e.code own ≡ t → marks_of own (with_mark m own es) ≡ with_head m (marks_of own es)
          → marks_of own (mark_at m (cond t 0 (suc (place_of own es))) (e ∷ es)) ≡ with_head m (cond t (e.marked ∷ marks_of own es) (marks_of own es))
      by true x g = ap (λ (t : Bool). cond t (m ∷ marks_of own es) (marks_of own es)) x
      by false x g = ap (λ (t : Bool). cond t (e.marked ∷ marks_of own (with_mark m own es)) (marks_of own (with_mark m own es))) x ∙ g

  -- Of another.
  module _ (code : ℕ) (other : eqb code own ≡ false) where
    same_code : (e : Entry) → eqb e.code code ≡ true → eqb e.code own ≡ false
    same_code e h = ap (λ (x : ℕ). eqb x own) (eqb-true e.code code h) ∙ other

    marks-removed-other : (l : List Entry) → marks_of own (removed code l) ≡ marks_of own l
    marks-removed-other [] = refl
    marks-removed-other (e ∷ es) = by (eqb e.code code) refl (marks-removed-other es)
      where
        by : (t : Bool) → eqb e.code code ≡ t → marks_of own (removed code es) ≡ marks_of own es → marks_of own (cut_at (cond t 0 (suc (place_of code es))) (e ∷ es)) ≡ cond (eqb e.code own) (e.marked ∷ marks_of own es) (marks_of own es)
        by true x g = sym (ap (λ (t : Bool). cond t (e.marked ∷ marks_of own es) (marks_of own es)) (same_code e x))
        by false x g = ap (λ (bs : List Bool). cond (eqb e.code own) (e.marked ∷ bs) bs) g

    marks-set-other : (m : Bool) (l : List Entry) → marks_of own (with_mark m code l) ≡ marks_of own l
    marks-set-other m [] = refl
    marks-set-other m (e ∷ es) = by (eqb e.code code) refl (marks-set-other m es)
      where
        by : (t : Bool) → eqb e.code code ≡ t → marks_of own (with_mark m code es) ≡ marks_of own es
            → marks_of own (mark_at m (cond t 0 (suc (place_of code es))) (e ∷ es)) ≡ cond (eqb e.code own) (e.marked ∷ marks_of own es) (marks_of own es)
        by true x g =
            ap (λ (t : Bool). cond t (m ∷ marks_of own es) (marks_of own es)) (same_code e x)
            ∙ sym (ap (λ (t : Bool). cond t (e.marked ∷ marks_of own es) (marks_of own es)) (same_code e x))
        by false x g = ap (λ (bs : List Bool). cond (eqb e.code own) (e.marked ∷ bs) bs) g

  -- Joining.
  pub data Joining (code : ℕ) (l : List Entry) : Type 0 where
    as_before : marks_of own (joined code l) ≡ marks_of own l → Joining code l
    joins-now : eqb code own ≡ true → marks_of own l ≡ [] → marks_of own (joined code l) ≡ false ∷ [] → Joining code l

  not_in : (bs : List Bool) → is_some bs ≡ false → bs ≡ []
  not_in [] e = refl
  not_in (b ∷ bs) e = absurd (true≢false e)

  joining : (code : ℕ) (l : List Entry) → Joining code l
  joining code l = by (eqb code 0) (is_in code l) (ltb (length l) 16) refl refl refl
    where
      back : (t : Bool) → eqb code own ≡ t → joined code l ≡ l ++ (entry_of code false ∷ []) → is_in code l ≡ false → Joining code l
      back true x e out =
          let none_yet : marks_of own l ≡ [] = not_in (marks_of own l) (sym (marks-in l) ∙ ap (λ (n : ℕ). is_in n l) (sym (eqb-true code own x)) ∙ out) in
          joins-now x none_yet
          (ap (marks_of own) e ∙ marks-append l (entry_of code false ∷ []) ∙ ap (λ (bs : List Bool). bs ++ cond (eqb code own) (false ∷ []) []) none_yet ∙ ap (λ (t : Bool). cond t (false ∷ []) []) x)
      back false x e out =
          as_before (ap (marks_of own) e ∙ marks-append l (entry_of code false ∷ []) ∙ ap (λ (t : Bool). marks_of own l ++ cond t (false ∷ []) []) x ∙ append-nil (marks_of own l))

      by : (a b c : Bool) → eqb code 0 ≡ a → is_in code l ≡ b → ltb (length l) 16 ≡ c → Joining code l
      by true b c x y z = let e : joined code l ≡ l = rw x in as_before (ap (marks_of own) e)
      by false true c x y z = let e : joined code l ≡ l = rw (x, y) in as_before (ap (marks_of own) e)
      by false false true x y z = let e : joined code l ≡ l ++ (entry_of code false ∷ []) = rw (x, y, z) in back (eqb code own) refl e y
      by false false false x y z = let e : joined code l ≡ l = rw (x, y, z) in as_before (ap (marks_of own) e)

  -- Turning, of a unit that is in the ring once at most.
  swap : (a b : List Bool) → length (a ++ b) ≤ 1 → b ++ a ≡ a ++ b
  swap [] b h = append-nil b
  swap (x ∷ a) [] h = sym (append-nil (x ∷ a))
  swap (x ∷ a) (y ∷ b) h = let n : length (a ++ (y ∷ b)) ≡ length a + suc (length b) = length-append a (y ∷ b) in absurd (omega arith)

  marks-turned : (l : List Entry) → length (marks_of own l) ≤ 1 → marks_of own (turned l) ≡ marks_of own l
  marks-turned [] h = refl
  marks-turned (e ∷ es) h =
      let front : marks_of own (e ∷ es) ≡ marks_of own (e ∷ []) ++ marks_of own es = marks-append (e ∷ []) es in
      marks-append es (e ∷ []) ∙ swap (marks_of own (e ∷ [])) (marks_of own es) (subst (λ (bs : List Bool). length bs ≤ 1) front h) ∙ sym front

  -- The unit's mark is its history, and it is in the ring once at most.
  pub data Agrees (p : Bool) (l : List Entry) : Type 0 where
    outside : marks_of own l ≡ [] → p ≡ false → Agrees p l
    inside : marks_of own l ≡ p ∷ [] → Agrees p l

  agrees-as : {p : Bool} {l m : List Entry} → marks_of own m ≡ marks_of own l → Agrees p l → Agrees p m
  agrees-as e (outside g f) = outside (e ∙ g) f
  agrees-as e (inside g) = inside (e ∙ g)

  pub agrees-once : {p : Bool} {l : List Entry} → Agrees p l → length (marks_of own l) ≤ 1
  agrees-once {p} {l} (outside g f) = subst (λ (bs : List Bool). length bs ≤ 1) (sym g) (omega arith)
  agrees-once {p} {l} (inside g) = subst (λ (bs : List Bool). length bs ≤ 1) (sym g) (omega arith)

  pub agrees-mark : {p : Bool} {l : List Entry} → Agrees p l → is_marked own l ≡ p
  agrees-mark {p} {l} (outside g f) = marks-marked l ∙ ap head_of g ∙ sym f
  agrees-mark {p} {l} (inside g) = marks-marked l ∙ ap head_of g

  -- What is known of a frame under way: a poll of the unit finds it in the ring, and so does an enabling, or room for it.
  pub record Aboard (l : List Entry) (f : Frame) : Type 0 where
    pub polls : is_poll f.kind ≡ true → f.command.device ≡ own → is_some (marks_of own l) ≡ true
    pub enables : is_poll f.kind ≡ false → f.command.command ≡ 0x08 → f.command.device ≡ own → is_some (marks_of own l) ≡ false → length l < 16

  abbrev Aboards : List Entry → List Frame → Type 0
  Aboards l [] = Unit
  Aboards l (f ∷ fs) = Aboard l f

  -- As many entries as are counted.
  abbrev Full : Ring → Type 0
  Full ring = length (live ring) ≡ counted ring

  full-made : (l : List Entry) → length l ≤ 16 → Full (ring_of l)
  full-made l h = let e : length (live (ring_of l)) ≡ length l = ap length (live_ring l h) in omega arith

  pub record Ok (p : Bool) (c : Controller) : Type 0 where
    pub agrees : Agrees p (live c.ring)
    pub aboard : Aboards (live c.ring) (held c.stage)
    pub full : Full c.ring

  -- The ring of a list.
  made : {p : Bool} (l : List Entry) → length l ≤ 16 → Agrees p l → Agrees p (live (ring_of l))
  made {p} l h a = subst (Agrees p) (sym (live_ring l h)) a

  module _ (p : Bool) (ring : Ring) (a : Agrees p (live ring)) where
    set-by : (m : Bool) (code : ℕ) (t : Bool) → eqb code own ≡ t → (t ≡ true → is_some (marks_of own (live ring)) ≡ true) → Agrees (cond t m p) (live (ring_of (with_mark m code (live ring))))
    set-by m code true e some = made (with_mark m code (live ring)) (short_marked m code ring) (now a)
      where
        at_own : marks_of own (with_mark m code (live ring)) ≡ with_head m (marks_of own (live ring))
        at_own = ap (λ (n : ℕ). marks_of own (with_mark m n (live ring))) (eqb-true code own e) ∙ marks-set m (live ring)

        now : Agrees p (live ring) → Agrees m (with_mark m code (live ring))
        now (outside g f) = absurd (true≢false (sym (some refl) ∙ ap is_some g))
        now (inside g) = inside (at_own ∙ ap (with_head m) g)
    set-by m code false e some = made (with_mark m code (live ring)) (short_marked m code ring) (agrees-as (marks-set-other code e m (live ring)) a)

    join_by : (code : ℕ) → Agrees p (live (ring_of (joined code (live ring))))
    join_by code = made (joined code (live ring)) (short_joined code ring) (by (joining code (live ring)) a)
      where
        by : Joining code (live ring) → Agrees p (live ring) → Agrees p (joined code (live ring))
        by (as_before e) x = agrees-as e x
        by (joins-now e g n) (outside h f) = inside (n ∙ ap (λ (b : Bool). b ∷ []) (sym f))
        by (joins-now e g n) (inside h) = absurd (false≢true (ap is_some (sym g ∙ h)))

    leave-by : (code : ℕ) (t : Bool) → eqb code own ≡ t → Agrees (cond t false p) (live (ring_of (removed code (live ring))))
    leave-by code true e = made (removed code (live ring)) (short_removed code ring) (now a)
      where
        at_own : marks_of own (removed code (live ring)) ≡ tail_of (marks_of own (live ring))
        at_own = ap (λ (n : ℕ). marks_of own (removed n (live ring))) (eqb-true code own e) ∙ marks-removed (live ring)

        now : Agrees p (live ring) → Agrees false (removed code (live ring))
        now (outside g f) = outside (at_own ∙ ap tail_of g) refl
        now (inside g) = outside (at_own ∙ ap tail_of g) refl
    leave-by code false e = made (removed code (live ring)) (short_removed code ring) (agrees-as (marks-removed-other code e (live ring)) a)

    turn-agrees : Agrees p (live (ring_of (turned (live ring))))
    turn-agrees = made (turned (live ring)) (short_turned ring) (agrees-as (marks-turned (live ring) (agrees-once a)) a)

  -- Frames under way, behind a mark that is set or cleared.
  some-set : (m : Bool) (code : ℕ) (l : List Entry) (t : Bool) → eqb code own ≡ t → is_some (marks_of own (with_mark m code l)) ≡ is_some (marks_of own l)
  some-set m code l true e = ap (λ (n : ℕ). is_some (marks_of own (with_mark m n l))) (eqb-true code own e) ∙ ap is_some (marks-set m l) ∙ head-some (marks_of own l)
    where
      head-some : (bs : List Bool) → is_some (with_head m bs) ≡ is_some bs
      head-some [] = refl
      head-some (b ∷ bs) = refl
  some-set m code l false e = ap is_some (marks-set-other code e m l)

  aboard-as : {l k : List Entry} {f : Frame} → is_some (marks_of own k) ≡ is_some (marks_of own l) → length k ≡ length l → Aboard l f → Aboard k f
  aboard-as e n a = record { polls = λ x y. e ∙ a.polls x y; enables = λ x y z w. (let h = a.enables x y z (sym e ∙ w) in omega arith) }

  aboards-as : (l k : List Entry) (fs : List Frame) → is_some (marks_of own k) ≡ is_some (marks_of own l) → length k ≡ length l → Aboards l fs → Aboards k fs
  aboards-as l k [] e n a = tt
  aboards-as l k (f ∷ fs) e n a = aboard-as e n a

  -- A call that hands nothing over, and settles nothing of a unit with a mark.
  same-history : (p : Bool) (c : Controller) (m : Move) → event_of c m ≡ Nothing → Unsettled c m → Agrees p (live c.ring) → pending own p c m ≡ p
  same-history p c m e u a = ap (λ (x : Event). cond (is_handed own x) true (cond (settles own c m) false p)) e ∙ by p (agrees-mark a) (settles own c m) refl
    where
      by : (q : Bool) → is_marked own (live c.ring) ≡ q → (t : Bool) → settles own c m ≡ t → cond t false q ≡ q
      by true g true x = absurd (true≢false (sym x ∙ u own g))
      by true g false x = refl
      by false g true x = refl
      by false g false x = refl

  onward-aboard : (l : List Entry) {old new : Stage} → Onward old new → Aboards l (held old) → Aboards l (held new)
  onward-aboard l (same_frame e same) a = subst (Aboards l) (sym e) a
  onward-aboard l (no_more none e) a = subst (Aboards l) (sym e) tt

  -- A turn's frame.
  turn-aboard : (l : List Entry) (e : Entry) (es : List Entry) → l ≡ e ∷ es → length (marks_of own l) ≤ 1 → Aboard (turned l) (turn_of e)
  turn-aboard l e es q once = by e.marked
    where
      stands_in_ring : e.code ≡ own → is_some (marks_of own (turned l)) ≡ true
      stands_in_ring x = ap is_some (marks-turned l once) ∙ ap (λ (k : List Entry). is_some (marks_of own k)) q ∙ ap (λ (t : Bool). is_some (cond t (e.marked ∷ marks_of own es) (marks_of own es))) (eq-eqb e.code own x)

      by : (t : Bool) → Aboard (turned l) (cond t null_frame (poll_of e.code))
      by true = record { polls = λ x y. absurd (false≢true x); enables = λ x y z w. absurd (omega arith) }
      by false = record { polls = λ x y. stands_in_ring y; enables = λ x y z w. absurd (true≢false x) }

  -- The end of a frame.
  module _ (p : Bool) (ring : Ring) (c : Command) (status count : ℕ) (a : Agrees p (live ring)) where
    abbrev forOwn : Bool
    forOwn = eqb c.device own && (eqb c.command 0x09 || eqb c.command 0x01)

    abbrev behind : Kind → Bool
    behind k = cond (is_handed own (event_by k c status count)) true (cond (is_done (event_by k c status count) && forOwn) false p)

    agrees-is : {q : Bool} {new : Ring} (q' : Bool) (new' : Ring) → q' ≡ q → new' ≡ new → Agrees q (live new) → Agrees q' (live new')
    agrees-is {q} {new} q' new' e g x = subst (λ (r : Ring). Agrees q' (live r)) (sym g) (subst (λ (b : Bool). Agrees b (live new)) (sym e) x)

    submitted-by : (t u v : Bool) → eqb c.command 0x08 ≡ t → (eqb c.command 0x09 || eqb c.command 0x01) ≡ u → eqb c.device own ≡ v
        → Agrees (cond (v && u) false p) (live (cond t (ring_of (joined c.device (live ring))) (cond u (ring_of (removed c.device (live ring))) ring)))
    submitted-by true true v e g h =
        let eight : (eqb c.command 0x09 || eqb c.command 0x01) ≡ false = ap (λ (n : ℕ). eqb n 0x09 || eqb n 0x01) (eqb-true c.command 0x08 e) in
        absurd (true≢false (sym g ∙ eight))
    submitted-by true false true e g h = join_by p ring a c.device
    submitted-by true false false e g h = join_by p ring a c.device
    submitted-by false true true e g h = leave-by p ring a c.device true h
    submitted-by false true false e g h = leave-by p ring a c.device false h
    submitted-by false false true e g h = a
    submitted-by false false false e g h = a

    ended_by : (k : Kind) (s : Bool) → eqb status 0x00 ≡ s → (is_poll k ≡ true → c.device ≡ own → is_some (marks_of own (live ring)) ≡ true) → Agrees (behind k) (live (cond s (ring_by k ring c) ring))
    ended_by Submitted false e some = agrees-is (behind Submitted) ring (ap (λ (t : Bool). cond (t && forOwn) false p) e) refl a
    ended_by Submitted true e some =
        agrees-is (behind Submitted) (ring_by Submitted ring c) (ap (λ (t : Bool). cond (t && forOwn) false p) e) refl
        (submitted-by (eqb c.command 0x08) (eqb c.command 0x09 || eqb c.command 0x01) (eqb c.device own) refl refl refl)
    ended_by Poll false e some =
        agrees-is (behind Poll) ring (ap (λ (t : Bool). cond (is_handed own (cond t (Handed c.device) Nothing)) true (cond (is_done (cond t (Handed c.device) Nothing) && forOwn) false p)) e) refl a
    ended_by Poll true e some =
        agrees-is (behind Poll) (ring_by Poll ring c) (ap (λ (t : Bool). cond (is_handed own (cond t (Handed c.device) Nothing)) true (cond (is_done (cond t (Handed c.device) Nothing) && forOwn) false p)) e) refl
        (set-by p ring a true c.device (eqb c.device own) refl (λ x. some refl (eqb-true c.device own x)))
    ended_by Null false e some = a
    ended_by Null true e some = a

  -- A call.
  pub ok-after : (p : Bool) (c : Controller) (m : Move) → Ok p c → Ok (pending own p c m) (after c m)
  ok-after p c m ok = by (does c m)
    where
      as-was : {q : Bool} {l k : List Entry} → q ≡ p → k ≡ l → Agrees p l → Agrees q k
      as-was {q} {l} {k} e g x = subst (Agrees q) (sym g) (subst (λ (b : Bool). Agrees b l) (sym e) x)

      entries : (after c m).ring ≡ c.ring → live (after c m).ring ≡ live c.ring
      entries e = ap live e

      by : Does c m → Ok (pending own p c m) (after c m)
      by (keeps ring b v u o) = record {
        agrees = as-was (same-history p c m v u ok.agrees) (entries ring) ok.agrees;
        aboard = onward-aboard (live (after c m).ring) o (subst (λ (l : List Entry). Aboards l (held c.stage)) (sym (entries ring)) ok.aboard);
        full = subst Full (sym ring) ok.full;
      }
      by (accepts k n ring b v u out poll st resting) = record {
        agrees = as-was (same-history p c m v u ok.agrees) (entries ring) ok.agrees;
        aboard =
            subst (λ (s : Stage). Aboards (live (after c m).ring) (held s)) (sym st)
            (subst (λ (l : List Entry). Aboard l (submitted_frame k n)) (sym (entries ring)) (record { polls = λ x y. absurd (false≢true x); enables = λ x y z w. room k y z w out }));
        full = subst Full (sym ring) ok.full;
      }
        where
          room : (k : Command) → k.command ≡ 0x08 → k.device ≡ own → is_some (marks_of own (live c.ring)) ≡ false → is_shut_out k c.ring ≡ false → length (live c.ring) < 16
          room k y z w out =
              let absent : is_in k.device (live c.ring) ≡ false = ap (λ (n : ℕ). is_in n (live c.ring)) z ∙ marks-in (live c.ring) ∙ w in
              let full : leb 16 (counted c.ring) ≡ false =
              sym (ap (λ (t : Bool). cond t (cond (is_in k.device (live c.ring)) false (leb 16 (counted c.ring))) false) (eq-eqb k.command 0x08 y) ∙ ap (λ (t : Bool). cond t false (leb 16 (counted c.ring))) absent) ∙ out in
              let less : counted c.ring < 16 = leb-false 16 (counted c.ring) full in
              let within = live-within c.ring in
              omega arith
      by (serves b v u some low e) = serving (live c.ring) refl (let n = ok.full in omega arith)
        where
          ring : (after c m).ring ≡ ring_of (turned (live c.ring))
          ring = ap (λ (x : Controller). x.ring) e

          serving : (l : List Entry) → live c.ring ≡ l → 0 < length (live c.ring) → Ok (pending own p c m) (after c m)
          serving [] q h = let z : length (live c.ring) ≡ 0 = ap length q in absurd (omega arith)
          serving (x ∷ xs) q h =
              let f : (after c m).stage ≡ begun (turn_of x) = ap (λ (y : Controller). y.stage) e ∙ ap (λ (l : List Entry). begun (turn_of (get_or l 0 none))) q in
              record {
                agrees = subst (λ (y : Ring). Agrees (pending own p c m) (live y)) (sym ring) (as-was (same-history p c m v u ok.agrees) refl (turn-agrees p c.ring ok.agrees));
                aboard = subst (λ (s : Stage). Aboards (live (after c m).ring) (held s)) (sym f)
                    (subst (λ (y : Ring). Aboard (live y) (turn_of x)) (sym ring)
                    (subst (λ (l : List Entry). Aboard l (turn_of x)) (sym (live_ring (turned (live c.ring)) (short_turned c.ring))) (turn-aboard (live c.ring) x xs q (agrees-once ok.agrees))));
                full = subst Full (sym ring) (full-made (turned (live c.ring)) (short_turned c.ring));
              }
      by (frame_ends f status count r g b v u ring z) = record {
        agrees =
            subst (λ (x : Ring). Agrees (pending own p c m) (live x)) (sym ring)
            (subst (λ (q : Bool). Agrees q (live (ring_ended c.ring f status))) (sym history) (ended_by p c.ring f.command status count ok.agrees f.kind (eqb status 0x00) refl under.polls));
        aboard = subst (Aboards (live (after c m).ring)) (sym z) tt;
        full = subst Full (sym ring) (full-ended (eqb status 0x00) f.kind);
      }
        where
          under : Aboard (live c.ring) f
          under = subst (Aboards (live c.ring)) g ok.aboard

          history : pending own p c m ≡ cond (is_handed own (frameEvent f status count)) true (cond (is_done (frameEvent f status count) && is_for own f) false p)
          history = ap (λ (x : Event). cond (is_handed own x) true (cond (settles own c m) false p)) v ∙ ap (λ (t : Bool). cond (is_handed own (frameEvent f status count)) true (cond t false p)) (u own)

          full-command : (t u : Bool) → Full (cond t (ring_of (joined f.command.device (live c.ring))) (cond u (ring_of (removed f.command.device (live c.ring))) c.ring))
          full-command true u = full-made (joined f.command.device (live c.ring)) (short_joined f.command.device c.ring)
          full-command false true = full-made (removed f.command.device (live c.ring)) (short_removed f.command.device c.ring)
          full-command false false = ok.full

          full-ended : (s : Bool) (k : Kind) → Full (cond s (ring_by k c.ring f.command) c.ring)
          full-ended false k = ok.full
          full-ended true Submitted = full-command (eqb f.command.command 0x08) (eqb f.command.command 0x09 || eqb f.command.command 0x01)
          full-ended true Poll = full-made (with_mark true f.command.device (live c.ring)) (short_marked true f.command.device c.ring)
          full-ended true Null = ok.full
      by (clears code x marked b v u ring st) = record {
        agrees =
            subst (λ (y : Ring). Agrees (pending own p c m) (live y)) (sym ring)
            (subst (λ (q : Bool). Agrees q (live (ring_of (with_mark false code (live c.ring))))) (sym history) (set-by p c.ring ok.agrees false code (eqb code own) refl there));
        aboard =
            subst (λ (y : Ring). Aboards (live y) (held (after c m).stage)) (sym ring)
            (subst (λ (l : List Entry). Aboards l (held (after c m).stage)) (sym (live_ring (with_mark false code (live c.ring)) (short_marked false code c.ring)))
            (subst (λ (s : Stage). Aboards (with_mark false code (live c.ring)) (held s)) (sym st)
            (aboards-as (live c.ring) (with_mark false code (live c.ring)) (held c.stage) (some-set false code (live c.ring) (eqb code own) refl) (marked_length false code (live c.ring)) ok.aboard)));
        full = subst Full (sym ring) (full-made (with_mark false code (live c.ring)) (short_marked false code c.ring));
      }
        where
          history : pending own p c m ≡ cond (eqb code own) false p
          history = ap (λ (y : Event). cond (is_handed own y) true (cond (settles own c m) false p)) v ∙ ap (λ (t : Bool). cond t false p) (u own)

          head_in : (bs : List Bool) → head_of bs ≡ true → is_some bs ≡ true
          head_in [] e = absurd (false≢true e)
          head_in (y ∷ bs) e = refl

          there : eqb code own ≡ true → is_some (marks_of own (live c.ring)) ≡ true
          there e = head_in (marks_of own (live c.ring)) (sym (marks-marked (live c.ring)) ∙ ap (λ (n : ℕ). is_marked n (live c.ring)) (sym (eqb-true code own e)) ∙ marked)

-- A row of calls.
pub ok_from : (own : ℕ) (p : Bool) (c : Controller) (ms : List Move) → Ok own p c → Ok own (pending_from own p c ms) (after_all c ms)
ok_from own p c [] ok = ok
ok_from own p c (m ∷ ms) ok = ok_from own (pending own p c m) (after c m) ms (ok-after own p c m ok)

pub ok_since : (own timeout : ℕ) (ms : List Move) → Ok own (is_pending own timeout ms) (since timeout ms)
ok_since own timeout ms = ok_from own false (new_controller timeout) ms (record { agrees = outside refl refl; aboard = tt; full = refl })

pub marks : Marks
marks own timeout ms = agrees-mark own (ok_since own timeout ms).agrees

pub once : Once
once own timeout ms = agrees-once own (ok_since own timeout ms).agrees

-- At its turn the unit's entry is in front.
pub front_mark : (own : ℕ) (p : Bool) (l : List Entry) → Agrees own p l → is_in own l ≡ true → place_of own l ≡ 0 → get_or l 0 none ≡ entry_of own p
front_mark own p [] a i z = absurd (false≢true i)
front_mark own p (e ∷ es) a i z = by (eqb e.code own) refl a
  where
    by : (t : Bool) → eqb e.code own ≡ t → Agrees own p (e ∷ es) → e ≡ entry_of own p
    by true x (outside g f) = absurd (false≢true (ap is_some (sym g ∙ ap (λ (t : Bool). cond t (e.marked ∷ marks_of own es) (marks_of own es)) x)))
    by true x (inside g) =
        let mark : e.marked ≡ p = ap head_of (sym (ap (λ (t : Bool). cond t (e.marked ∷ marks_of own es) (marks_of own es)) x) ∙ g) in
        λ k. record { code = eqb-true e.code own x k; marked = mark k }
    by false x y = let s : cond (eqb e.code own) 0 (suc (place_of own es)) ≡ suc (place_of own es) = ap (λ (t : Bool). cond t 0 (suc (place_of own es))) x in absurd (omega arith)

pub every_turn : EveryTurn
every_turn own timeout ms m b i z = by (does (since timeout ms) m)
  where
    by : Does (since timeout ms) m → (after (since timeout ms) m).stage ≡ begun (cond (is_pending own timeout ms) null_frame (poll_of own))
    by (keeps ring none-begins v u o) = absurd (true≢false (sym b ∙ none-begins))
    by (accepts k n ring none-begins v u out poll st resting) = absurd (true≢false (sym b ∙ none-begins))
    by (serves x v u some low e) = ap (λ (x : Controller). x.stage) e ∙ ap (λ (x : Entry). begun (turn_of x)) (front_mark own (is_pending own timeout ms) (live (since timeout ms).ring) (ok_since own timeout ms).agrees i z)
    by (frame_ends f status count r g none-begins v u ring e) = absurd (true≢false (sym b ∙ none-begins))
    by (clears code x marked none-begins v u ring st) = absurd (true≢false (sym b ∙ none-begins))

-- The nibbles.
pub poll_nibbles : PollNibbles
poll_nibbles own lent i h = ap (λ (n : ℕ). nibble_in (n ∷ 0x0A ∷ 0 ∷ 0 ∷ 0 ∷ 0 ∷ 0 ∷ 0 ∷ 0 ∷ []) i) (omega arith)

pub null_nibbles : NullNibbles
null_nibbles lent i = refl

-- Joining.
joined_in : (own : ℕ) (l : List Entry) → (own ≡ 0 → ⊥) → (is_some (marks_of own l) ≡ false → length l < 16) → is_in own (joined own l) ≡ true
joined_in own l nonzero room = by (is_in own l) refl
  where
    by : (t : Bool) → is_in own l ≡ t → is_in own (joined own l) ≡ true
    by true e = ap (is_in own) (out-in own l (ne_eqb own 0 nonzero) e) ∙ e
    by false e =
        marks-in own (joined own l) ∙ ap (λ (k : List Entry). is_some (marks_of own k)) (joins-back own l (ne_eqb own 0 nonzero) e (room (sym (marks-in own l) ∙ e)))
        ∙ ap is_some (marks-append own l (entry_of own false ∷ []) ∙ ap (λ (t : Bool). marks_of own l ++ cond t (false ∷ []) []) (eq-eqb own own refl)) ∙ back_some (marks_of own l)
      where
        back_some : (bs : List Bool) → is_some (bs ++ (false ∷ [])) ≡ true
        back_some [] = refl
        back_some (b ∷ bs) = refl

abbrev status_in : Event → ℕ
status_in Nothing = 1
status_in (Ended status count) = status
status_in (Handed code) = 1

pub joins_ring : Joins
joins_ring own timeout ms m f count nonzero run (kind, (command, device)) told = by (does (since timeout ms) m)
  where
    nothing : event_of (since timeout ms) m ≡ Nothing → in_ring own (after (since timeout ms) m) ≡ true
    nothing e = absurd (one-zero (ap status_in (sym e ∙ told)))
      where
        one-zero : ◌≡◌ {A = ℕ} 1 0 → ⊥
        one-zero x = omega arith

    by : Does (since timeout ms) m → in_ring own (after (since timeout ms) m) ≡ true
    by (keeps ring none-begins v u o) = nothing v
    by (accepts k n ring none-begins v u out poll st resting) = nothing v
    by (serves x v u some low e) = nothing v
    by (clears code x marked none-begins v u ring st) = nothing v
    by (frame_ends g status n r h none-begins v u ring z) =
        let same : g ≡ f = ap (first_of g) (sym r ∙ run) in
        let kind-g : g.kind ≡ Submitted = ap (λ (x : Frame). x.kind) same ∙ kind in
        let ended : Ended status n ≡ Ended 0x00 count = sym (ap (λ (k : Kind). event_by k g.command status n) kind-g) ∙ sym v ∙ told in
        let zero-status : status ≡ 0x00 = ap status_in ended in
        let command-g : g.command.command ≡ 0x08 = ap (λ (x : Frame). x.command.command) same ∙ command in
        let device-g : g.command.device ≡ own = ap (λ (x : Frame). x.command.device) same ∙ device in
        let l = live (since timeout ms).ring in
        let under : Aboard own l g = subst (Aboards own l) h (ok_since own timeout ms).aboard in
        let new : (after (since timeout ms) m).ring ≡ ring_of (joined own l) =
        ring ∙ ap (λ (t : Bool). cond t (ring_by g.kind (since timeout ms).ring g.command) (since timeout ms).ring) (eq-eqb status 0x00 zero-status)
        ∙ ap (λ (k : Kind). ring_by k (since timeout ms).ring g.command) kind-g
        ∙ ap
        (λ (t : Bool). cond t (ring_of (joined g.command.device l)) (cond (eqb g.command.command 0x09 || eqb g.command.command 0x01) (ring_of (removed g.command.device l)) (since timeout ms).ring))
        (eq-eqb g.command.command 0x08 command-g)
        ∙ ap (λ (k : ℕ). ring_of (joined k l)) device-g in
        ap (λ (x : Ring). is_in own (live x)) new ∙ ap (is_in own) (live_ring (joined own l) (short_joined own (since timeout ms).ring))
        ∙ joined_in own l nonzero (λ w. under.enables (ap is_poll kind-g) command-g device-g w)

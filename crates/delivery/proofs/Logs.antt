-- Laws of the log: marks one after the other, the frames that they are cut into, and which of them are a unit's own.
use Prim.Native.Nat.{ℕ, zero, suc, ◌/◌}
use mathlib.Core.Path.{◌≡◌, refl, sym, ◌∙◌, ap}
use mathlib.Core.Bool.{Bool, true, false, cond}
use mathlib.Core.List.{List, [], ◌∷◌, ◌++◌, map, append-nil, append_assoc}
use borrow.Author.Tests.{eq-eqb, ne_eqb}
use Rattle.bus.specs.Bus.{is_odd}
use Rattle.bus.specs.declared.Station.{Station}
use Rattle.frame.specs.Frame.{is_submitted}
use Rattle.frame.specs.declared.Stage.{Stage}
use Rattle.frame.specs.declared.Stage.TheVariants.{Free, Resting, Waiting, Sending, Listening}
use Rattle.inside.specs.Calls.{HostCall}
use Rattle.inside.specs.Inside.{inside_of}
use Rattle.line.specs.Line.{sent_of, taken_of, sender_nibble}
use Rattle.line.specs.declared.Lines.{Lines}
use Rattle.turn.specs.declared.Event.{Event}
use Rattle.delivery.proofs.Moves.{Becomes, in_front, behind}
use Rattle.delivery.specs.Following.{Whole, following_all, following}
use Rattle.delivery.specs.Lists.{All, none, also}
use Rattle.delivery.specs.Log.{Act, sent, heard, told, Deed, Mark, begins, acts, does, asks, submitted, station_deeds, units_marks, stage_marks, begun_by, ended_by, host_marks, Capture, cut, cut_all, act_in, acts_in, deed_in, deeds_in, deeds_by, Due, due_by, due_all}
use Rattle.delivery.specs.World.{Different, another, nobody}

-- One after the other.
pub acts_append : (a b : List Mark) → acts_in (a ++ b) ≡ acts_in a ++ acts_in b
acts_append [] b = refl
acts_append (m ∷ a) b = ap (λ (x : List Act). act_in m ++ x) (acts_append a b) ∙ sym (append_assoc (act_in m) (acts_in a) (acts_in b))

pub deeds_append : (own : ℕ) (a b : List Mark) → deeds_in own (a ++ b) ≡ deeds_in own a ++ deeds_in own b
deeds_append own [] b = refl
deeds_append own (m ∷ a) b = ap (λ (x : List Deed). deed_in own m ++ x) (deeds_append own a b) ∙ sym (append_assoc (deed_in own m) (deeds_in own a) (deeds_in own b))

pub cut-append : (ls : List Capture) (a b : List Mark) → cut_all ls (a ++ b) ≡ cut_all (cut_all ls a) b
cut-append ls [] b = refl
cut-append ls (m ∷ a) b = cut-append (cut ls m) a b

pub following-append : (own : ℕ) (u : Whole) (a b : List Mark) → following_all own u (a ++ b) ≡ following_all own (following_all own u a) b
following-append own u [] b = refl
following-append own u (m ∷ a) b = following-append own (following own u m) a b

-- What is due behind marks.
pub due_append : (due : Due) (a b : List Mark) → due_all due (a ++ b) ≡ due_all (due_all due a) b
due_append due [] b = refl
due_append due (m ∷ a) b = due_append (due_by due m) a b

-- Marks with which no frame begins and nothing is submitted.
abbrev pub Plain : Mark → Type 0
Plain (begins f lent found) = ⊥
Plain (acts a) = Unit
Plain (does own e) = Unit
Plain (asks own call) = Unit
Plain (submitted k d response) = ⊥

-- Marks with which no frame begins.
abbrev pub Same : Mark → Type 0
Same (begins f lent found) = ⊥
Same (acts a) = Unit
Same (does own e) = Unit
Same (asks own call) = Unit
Same (submitted k d response) = Unit

pub plain_same : (m : Mark) → Plain m → Same m
plain_same (begins f lent found) p = p
plain_same (acts a) p = p
plain_same (does own e) p = p
plain_same (asks own call) p = p
plain_same (submitted k d response) p = absurd p

abbrev pub grown : Capture → List Mark → Capture
grown l ms = record { frame = l.frame; lent = l.lent; found = l.found; marks = l.marks ++ ms }

grown_one : (l : Capture) (m : Mark) (ms : List Mark) → grown (record { frame = l.frame; lent = l.lent; found = l.found; marks = l.marks ++ (m ∷ []) }) ms ≡ grown l (m ∷ ms)
grown_one l m ms = ap (λ (x : List Mark). record { frame = l.frame; lent = l.lent; found = l.found; marks = x }) (append_assoc l.marks (m ∷ []) ms)

grown-none : (l : Capture) → grown l [] ≡ l
grown-none l = ap (λ (x : List Mark). record { frame = l.frame; lent = l.lent; found = l.found; marks = x }) (append-nil l.marks)

pub cut_same : (l : Capture) (ls : List Capture) {ms : List Mark} → All Same ms → cut_all (l ∷ ls) ms ≡ grown l ms ∷ ls
cut_same l ls none = ap (λ (x : Capture). x ∷ ls) (sym (grown-none l))
cut_same l ls (also {x = begins f lent found} p a) = absurd p
cut_same l ls (also {x = acts y} {xs = ms} p a) = cut_same _ ls a ∙ ap (λ (x : Capture). x ∷ ls) (grown_one l (acts y) ms)
cut_same l ls (also {x = does own e} {xs = ms} p a) = cut_same _ ls a ∙ ap (λ (x : Capture). x ∷ ls) (grown_one l (does own e) ms)
cut_same l ls (also {x = asks own call} {xs = ms} p a) = cut_same _ ls a ∙ ap (λ (x : Capture). x ∷ ls) (grown_one l (asks own call) ms)
cut_same l ls (also {x = submitted k d response} {xs = ms} p a) = cut_same _ ls a ∙ ap (λ (x : Capture). x ∷ ls) (grown_one l (submitted k d response) ms)

pub cut_nothing : {ms : List Mark} → All Same ms → ◌≡◌ {A = List Capture} (cut_all [] ms) []
cut_nothing none = refl
cut_nothing (also {x = begins f lent found} p a) = absurd p
cut_nothing (also {x = acts y} p a) = cut_nothing a
cut_nothing (also {x = does own e} p a) = cut_nothing a
cut_nothing (also {x = asks own call} p a) = cut_nothing a
cut_nothing (also {x = submitted k d response} p a) = cut_nothing a

pub due_plain : (due : Due) {ms : List Mark} → All Plain ms → due_all due ms ≡ due
due_plain due none = refl
due_plain due (also {x = begins f lent found} p a) = absurd p
due_plain due (also {x = acts y} p a) = due_plain due a
due_plain due (also {x = does own e} p a) = due_plain due a
due_plain due (also {x = asks own call} p a) = due_plain due a
due_plain due (also {x = submitted k d response} p a) = absurd p

pub all_append {ℓ κ} : {A : Type ℓ} {P : A → Type κ} {xs ys : List A} → All P xs → All P ys → All P (xs ++ ys)
all_append none b = b
all_append (also p a) b = also p (all_append a b)

-- The marks of units.
deeds_plain : (own : ℕ) (es : List Deed) → All Plain (map (does own) es)
deeds_plain own [] = none
deeds_plain own (e ∷ es) = also tt (deeds_plain own es)

pub units_plain : (seen : Lines) (hosts : ℕ) (ss : List Station) → All Plain (units_marks seen hosts ss)
units_plain seen hosts [] = none
units_plain seen hosts (st ∷ ss) = all_append (deeds_plain st.unit.own (station_deeds st seen (is_odd hosts))) (units_plain seen (hosts / 2) ss)

deeds_no_acts : (own : ℕ) (es : List Deed) → acts_in (map (does own) es) ≡ []
deeds_no_acts own [] = refl
deeds_no_acts own (e ∷ es) = deeds_no_acts own es

pub units_no_acts : (seen : Lines) (hosts : ℕ) (ss : List Station) → acts_in (units_marks seen hosts ss) ≡ []
units_no_acts seen hosts [] = refl
units_no_acts seen hosts (st ∷ ss) =
    acts_append (map (does st.unit.own) (station_deeds st seen (is_odd hosts))) (units_marks seen (hosts / 2) ss)
    ∙ (λ i. deeds_no_acts st.unit.own (station_deeds st seen (is_odd hosts)) i ++ units_no_acts seen (hosts / 2) ss i)

own_deeds : (own : ℕ) (es : List Deed) → deeds_in own (map (does own) es) ≡ es
own_deeds own [] = refl
own_deeds own (e ∷ es) = λ i. cond (eq-eqb own own refl i) (e ∷ []) [] ++ own_deeds own es i

other_deeds : (own code : ℕ) (es : List Deed) → (code ≡ own → ⊥) → deeds_in own (map (does code) es) ≡ []
other_deeds own code [] h = refl
other_deeds own code (e ∷ es) h = λ i. cond (ne_eqb code own h i) (e ∷ []) [] ++ other_deeds own code es h i

nobodys_deeds : (own : ℕ) (seen : Lines) (hosts : ℕ) {ss : List Station} → All (λ (x : Station). x.unit.own ≡ own → ⊥) ss → deeds_in own (units_marks seen hosts ss) ≡ []
nobodys_deeds own seen hosts none = refl
nobodys_deeds own seen hosts (also {x = st} {xs = ss} h a) =
    deeds_append own (map (does st.unit.own) (station_deeds st seen (is_odd hosts))) (units_marks seen (hosts / 2) ss)
    ∙ (λ i. other_deeds own st.unit.own (station_deeds st seen (is_odd hosts)) h i ++ nobodys_deeds own seen (hosts / 2) a i)

-- Of a unit that a round moves.
pub units_deeds : {seen : Lines} {hosts : ℕ} {ss : List Station} {st after : Station} → Different ss → Becomes seen hosts ss st after
    → deeds_in st.unit.own (units_marks seen hosts ss) ≡ cond seen.bav (deeds_by st.unit.phase after.unit.phase (inside_of st) seen) []
units_deeds nobody b = elim b [ ]
units_deeds {seen = seen} {hosts = hosts} {st = st} (another {ss = ss} a d) in_front =
    deeds_append st.unit.own (map (does st.unit.own) (station_deeds st seen (is_odd hosts))) (units_marks seen (hosts / 2) ss)
    ∙ (λ i. own_deeds st.unit.own (station_deeds st seen (is_odd hosts)) i ++ nobodys_deeds st.unit.own seen (hosts / 2) a i)
    ∙ append-nil (station_deeds st seen (is_odd hosts))
units_deeds {seen = seen} {hosts = hosts} {st = st} (another {st = x} {ss = ss} a d) (behind b) =
    deeds_append st.unit.own (map (does x.unit.own) (station_deeds x seen (is_odd hosts))) (units_marks seen (hosts / 2) ss)
    ∙ (λ i. other_deeds st.unit.own x.unit.own (station_deeds x seen (is_odd hosts)) (λ e. apart a b (sym e)) i ++ units_deeds {hosts = hosts / 2} d b i)
  where
    apart : {seen : Lines} {code : ℕ} {hosts : ℕ} {ss : List Station} {y after : Station} → All (λ (z : Station). z.unit.own ≡ code → ⊥) ss → Becomes seen hosts ss y after → y.unit.own ≡ code → ⊥
    apart none b e = elim b [ ]
    apart (also h hs) in_front e = h e
    apart {hosts = hosts} (also h hs) (behind m) e = apart {hosts = hosts / 2} hs m e

-- The controller's marks are no unit's.
pub stage_no_deeds : (own : ℕ) (stage next : Stage) (seen : Lines) (event : Event) (lent response after : List ℕ) → deeds_in own (stage_marks stage next seen event lent response after) ≡ []
stage_no_deeds own stage next seen event lent response after = by stage
  where
    begun : (x : Stage) → deeds_in own (begun_by x lent response) ≡ []
    begun Free = refl
    begun (Resting first) = refl
    begun (Waiting f) = refl
    begun (Sending f i sender wait) = refl
    begun (Listening f ear taken quiet) = refl

    ended : (x : Stage) (act : Act) → deeds_in own (ended_by x act) ≡ []
    ended Free act = refl
    ended (Resting first) act = refl
    ended (Waiting f) act = refl
    ended (Sending f i sender wait) act = refl
    ended (Listening f ear taken quiet) act = refl

    if : (t : Bool) (act : Act) → deeds_in own (cond t (acts act ∷ []) []) ≡ []
    if true act = refl
    if false act = refl

    by : (x : Stage) → deeds_in own (stage_marks x next seen event lent response after) ≡ []
    by Free = begun next
    by (Resting first) = refl
    by (Waiting f) = begun next
    by (Sending f i sender wait) = if (sent_of sender seen.hsk) (sent (sender_nibble sender))
    by (Listening f ear taken quiet) =
        let end = told event (cond (is_submitted f.kind) after []) in
        deeds_append own (cond (taken_of ear seen.hsk) (acts (heard seen.nibble) ∷ []) []) (ended_by next end) ∙ (λ i. if (taken_of ear seen.hsk) (heard seen.nibble) i ++ ended next end i)

-- A host's call is no deed, and no act.
pub host_plain : (i : ℕ) (call : HostCall) (ss : List Station) → All Plain (host_marks i call ss)
host_plain i call [] = none
host_plain zero call (st ∷ ss) = also tt none
host_plain (suc i) call (st ∷ ss) = host_plain i call ss

pub host_no_acts : (i : ℕ) (call : HostCall) (ss : List Station) → acts_in (host_marks i call ss) ≡ []
host_no_acts i call [] = refl
host_no_acts zero call (st ∷ ss) = refl
host_no_acts (suc i) call (st ∷ ss) = host_no_acts i call ss

pub host_no_deeds : (own i : ℕ) (call : HostCall) (ss : List Station) → deeds_in own (host_marks i call ss) ≡ []
host_no_deeds own i call [] = refl
host_no_deeds own zero call (st ∷ ss) = refl
host_no_deeds own (suc i) call (st ∷ ss) = host_no_deeds own i call ss

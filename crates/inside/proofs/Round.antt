-- What a round makes of what is inside a unit, at any levels: nothing; what a whole command makes of it, as its last nibble is taken; or
-- what waited for the end of a response, as its last nibble is done.
use Prim.Native.Nat.{ℕ}
use mathlib.Core.Path.{◌≡◌, refl, subst, sym}
use mathlib.Core.Bool.{Bool, true, false, cond}
use mathlib.Core.List.{List}
use lib.Dec.{ltb}
use lib.ListN.{length}
use Rattle.field.specs.Field.{byte_from}
use Rattle.header.specs.declared.Command.{Command}
use Rattle.header.specs.declared.Header.{Header}
use Rattle.kind.specs.Kinds.{kind_of, verdict_of}
use Rattle.kind.specs.declared.Kind.{Kind}
use Rattle.line.specs.Line.{sent_of, taken_of}
use Rattle.line.specs.declared.Lines.{Lines}
use Rattle.phase.specs.Phase.{phase_step, phase_output, moves, answered, stored, stored_data, byte_buffer, is_last}
use Rattle.phase.specs.declared.Moved.{Moved}
use Rattle.phase.specs.declared.Phase.{Phase}
use Rattle.phase.specs.declared.Phase.TheVariants.{Idle, Selecting, Receiving, Responding, SittingOut}
use Rattle.phase.specs.declared.Progress.TheVariants.{Taking, Answered}
use Rattle.reply.specs.Reply.{last_nibble}
use Rattle.serial.proofs.Laws.{length-after}
use Rattle.serial.specs.Serial.{finished}
use Rattle.serial.specs.declared.Reply.{Reply}
use Rattle.inside.specs.Inside.{Inside, with_state, taken, responded}
use Rattle.inside.specs.Last.{header_with, TakesLast, takes_last, SendsLast, sends_last}
use Rattle.inside.specs.Lawful.{Fit}
use Rattle.inside.proofs.Lawful.{every_lawful}

-- The inside after a phase's round, while BAV is seen low.
abbrev pub inside_after : Phase → ℕ → Inside → Lines → Bool → List ℕ → Inside
inside_after p own x seen busy buffer = record {
  state = (phase_step p own x.state seen busy buffer x.input).serial;
  input = x.input;
  output = phase_output p own x.state seen buffer x.output;
}

-- It follows from what the round makes of the state and of the lent memory.
pub inside_by : (p : Phase) (own : ℕ) (x : Inside) (seen : Lines) (busy : Bool) (buffer : List ℕ) {m : Moved} {o : List ℕ}
    → phase_step p own x.state seen busy buffer x.input ≡ m → phase_output p own x.state seen buffer x.output ≡ o
    → inside_after p own x seen busy buffer ≡ record { state = m.serial; input = x.input; output = o }
inside_by p own x seen busy buffer m o = λ k. record { state = (m k).serial; input = x.input; output = o k }

pub data Came (p : Phase) (own : ℕ) (x : Inside) (seen : Lines) (buffer : List ℕ) (y : Inside) : Type 0 where
  as_it_was : y ≡ x → Came p own x seen buffer y
  of_a_command : (c : Command) (n : ℕ) (d : List ℕ) → TakesLast p seen buffer c n d → y ≡ taken (kind_of own) x c n d → Came p own x seen buffer y
  of_its_response : (r : Reply) → SendsLast p x.state.input seen r → y ≡ responded x r → Came p own x seen buffer y

pub came : (p : Phase) (own : ℕ) (x : Inside) (seen : Lines) (busy : Bool) (buffer : List ℕ) → Came p own x seen buffer (inside_after p own x seen busy buffer)
came Idle own x seen busy buffer = as_it_was refl
came (Selecting ear half low) own x seen busy buffer = as_it_was refl
came (Receiving ear (Taking p)) own x seen busy buffer = by (taken_of ear seen.hsk) p.half (is_last h.data_length p.place) refl refl refl _ _ _
  where
    h : Header
    h = header_with p seen.nibble

    whole : List ℕ
    whole = byte_buffer p (byte_from p.low seen.nibble) buffer

    by : (t half last : Bool) → taken_of ear seen.hsk ≡ t → p.half ≡ half → is_last h.data_length p.place ≡ last → (more low waits : Phase)
        → Came (Receiving ear (Taking p)) own x seen buffer
        (record {
          state = (cond t (cond half (cond last (answered own x.state h whole) (moves more x.state)) (moves low x.state)) (moves waits x.state)).serial;
          input = x.input;
          output = cond t (cond half (cond last (stored own x.state h whole x.output) x.output) x.output) x.output;
        })
    by true true true e f g more low waits = of_a_command h.command h.data_length (stored_data h.data_length whole) (takes_last ear p refl e f g) refl
    by true true false e f g more low waits = as_it_was refl
    by true false last e f g more low waits = as_it_was refl
    by false half last e f g more low waits = as_it_was refl
came (Receiving ear (Answered r)) own x seen busy buffer = as_it_was refl
came (Responding r j sender true) own x seen busy buffer = as_it_was refl
came (Responding r j sender false) own x seen busy buffer = by (sent_of sender seen.hsk) (ltb j (last_nibble x.state.input r)) refl refl _ _
  where
    by : (sent more : Bool) → sent_of sender seen.hsk ≡ sent → ltb j (last_nibble x.state.input r) ≡ more → (next on : Phase)
        → Came (Responding r j sender false) own x seen buffer (with_state x (cond sent (cond more (moves next x.state) (moves (SittingOut false) (finished x.state r))) (moves on x.state)).serial)
    by true true e f next on = as_it_was refl
    by true false e f next on = of_its_response r (sends_last r j sender refl e f) refl
    by false more e f next on = as_it_was refl
came (SittingOut last) own x seen busy buffer = as_it_was refl

-- A command leaves the memory for what is written to the unit as long as it was.
pub taken-length : (kind : Kind) (x : Inside) (c : Command) (n : ℕ) (d : List ℕ) → length (taken kind x c n d).output ≡ length x.output
taken-length kind x c n d = length-after x.state (verdict_of kind x.state c n d).effect d x.output

-- What fits goes on to.
pub came_fit : {p : Phase} (own : ℕ) {x y : Inside} {seen : Lines} {buffer : List ℕ} → Came p own x seen buffer y → Fit (kind_of own) x → Fit (kind_of own) y
came_fit own (as_it_was e) f = subst (Fit (kind_of own)) (sym e) f
came_fit own {x} (of_a_command c n d t e) f = subst (Fit (kind_of own)) (sym e) ((every_lawful (kind_of own)).fit_taken x c n d f)
came_fit own {x} (of_its_response r t e) f = subst (Fit (kind_of own)) (sym e) ((every_lawful (kind_of own)).fit_ended x r f)

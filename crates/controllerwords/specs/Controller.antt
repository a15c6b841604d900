-- A controller in words: `loaded` says which controller stands there, for all words; `saved_in` what a save makes of the words that were there.
use Rattle.std.specs.Prelude.{ℕ, zero, suc, ◌+◌, ◌*◌, ◌/◌, ◌%◌, Bool, cond, List, [], ◌∷◌, eqb, get_or, set, replicate}
use Rattle.answer.specs.declared.Response.{Response}
use Rattle.answer.specs.declared.Response.TheVariants.{Taking, Complete, TooLarge}
use Rattle.controller.specs.Controller.{controller_of}
use Rattle.controller.specs.declared.Controller.{Controller}
use Rattle.frame.specs.declared.Frame.{Frame}
use Rattle.frame.specs.declared.Kind.{Kind}
use Rattle.frame.specs.declared.Kind.TheVariants.{Submitted, Poll, Null}
use Rattle.frame.specs.declared.Stage.{Stage}
use Rattle.frame.specs.declared.Stage.TheVariants.{Free, Resting, Waiting, Sending, Listening}
use Rattle.line.specs.declared.Sender.{Sender}
use Rattle.ring.specs.Ring.{none}
use Rattle.ring.specs.declared.Entry.{Entry}
use Rattle.ring.specs.declared.Ring.{Ring}
use Rattle.words.specs.Words.{at, written, ◌≔◌, number_in, flag_of, bit, flag_in, tag_in, listener_of, listener_in, sender_of, sender_in, nibble_in, command_of}
use Rattle.controllerwords.specs.Layout.{WORDS, TIMEOUT, STAGE, KIND, DEVICE, COMMAND, LOGICAL_UNIT, RECORD_NUMBER, BUFFER_LENGTH, DATA_LENGTH, FIRST, WAIT, SENDER, NIBBLE, NEXT, EAR, RESPONSE, LENGTH, QUIET, HALF, LOW, PLACE, STATUS, ENTRIES, ENTRY}

-- A kind in the word of its tag: submitted 0, poll 1, null 2.
abbrev pub kind_of : ℕ → Kind
kind_of word = cond (eqb word 1) Poll (cond (eqb word 2) Null Submitted)

abbrev pub kind_tag : Kind → ℕ
kind_tag Submitted = 0
kind_tag Poll = 1
kind_tag Null = 2

abbrev pub kind_in : ℕ → Kind → ℕ
kind_in word kind = tag_in 3 word (kind_tag kind)

-- A frame.
abbrev pub loaded_frame : List ℕ → Frame
loaded_frame ws = record {
  kind = kind_of (at ws KIND);
  command = command_of (at ws DEVICE) (at ws COMMAND) (at ws LOGICAL_UNIT) (at ws RECORD_NUMBER) (at ws BUFFER_LENGTH);
  data_length = at ws DATA_LENGTH % 65536;
}

abbrev pub frame_in : List ℕ → Frame → List ℕ
frame_in ws f =
    written ws
    (KIND ≔ kind_in (at ws KIND) f.kind
    ∷ DEVICE ≔ number_in 256 (at ws DEVICE) f.command.device
    ∷ COMMAND ≔ number_in 256 (at ws COMMAND) f.command.command
    ∷ LOGICAL_UNIT ≔ number_in 256 (at ws LOGICAL_UNIT) f.command.logical_unit
    ∷ RECORD_NUMBER ≔ number_in 65536 (at ws RECORD_NUMBER) f.command.record_number
    ∷ BUFFER_LENGTH ≔ number_in 65536 (at ws BUFFER_LENGTH) f.command.buffer_length
    ∷ DATA_LENGTH ≔ number_in 65536 (at ws DATA_LENGTH) f.data_length
    ∷ [])

-- A response. Tags: being taken 0, complete 1, too large 2.
abbrev pub response_by : ℕ → List ℕ → Response
response_by tag ws =
    cond (eqb tag 1) (Complete (at ws STATUS % 256) (at ws LENGTH % 65536))
    (cond (eqb tag 2) TooLarge
    (Taking (record { length = at ws LENGTH % 65536; place = at ws PLACE; half = flag_of (at ws HALF); low = at ws LOW % 256 })))

abbrev pub loaded_response : List ℕ → Response
loaded_response ws = response_by (at ws RESPONSE) ws

abbrev pub response_in : List ℕ → Response → List ℕ
response_in ws (Taking p) =
    written ws
    (RESPONSE ≔ tag_in 3 (at ws RESPONSE) 0
    ∷ LENGTH ≔ number_in 65536 (at ws LENGTH) p.length
    ∷ PLACE ≔ p.place
    ∷ HALF ≔ flag_in (at ws HALF) p.half
    ∷ LOW ≔ number_in 256 (at ws LOW) p.low
    ∷ [])
response_in ws (Complete status count) =
    written ws
    (RESPONSE ≔ tag_in 3 (at ws RESPONSE) 1
    ∷ STATUS ≔ number_in 256 (at ws STATUS) status
    ∷ LENGTH ≔ number_in 65536 (at ws LENGTH) count
    ∷ [])
response_in ws TooLarge = written ws (RESPONSE ≔ tag_in 3 (at ws RESPONSE) 2 ∷ [])

-- The stage. Tags: free 0, resting 1, a command is submitted 2, sending 3, listening 4.
abbrev pub stage_by : ℕ → List ℕ → Stage
stage_by tag ws =
    cond (eqb tag 1) (Resting (flag_of (at ws FIRST)))
    (cond (eqb tag 2) (Waiting (loaded_frame ws))
    (cond (eqb tag 3) (Sending (loaded_frame ws) (at ws NEXT) (sender_of (at ws SENDER) (at ws NIBBLE)) (flag_of (at ws WAIT)))
    (cond (eqb tag 4) (Listening (loaded_frame ws) (listener_of (at ws EAR)) (loaded_response ws) (at ws QUIET % 65536)) Free)))

abbrev pub loaded_stage : List ℕ → Stage
loaded_stage ws = stage_by (at ws STAGE) ws

abbrev pub tagged : List ℕ → ℕ → List ℕ
tagged ws tag = written ws (STAGE ≔ tag_in 5 (at ws STAGE) tag ∷ [])

abbrev pub sending : List ℕ → ℕ → Sender → Bool → List ℕ
sending ws i sender wait =
    written ws
    (WAIT ≔ flag_in (at ws WAIT) wait ∷ SENDER ≔ sender_in (at ws SENDER) sender ∷ NIBBLE ≔ nibble_in (at ws NIBBLE) sender ∷ NEXT ≔ i ∷ [])

-- The word of the listener's tag, and the count of quiet rounds.
abbrev pub listening : List ℕ → ℕ → ℕ → List ℕ
listening ws ear quiet = written ws (EAR ≔ ear ∷ QUIET ≔ number_in 65536 (at ws QUIET) quiet ∷ [])

abbrev pub stage_in : List ℕ → Stage → List ℕ
stage_in ws Free = tagged ws 0
stage_in ws (Resting first) = written (tagged ws 1) (FIRST ≔ flag_in (at ws FIRST) first ∷ [])
stage_in ws (Waiting f) = frame_in (tagged ws 2) f
stage_in ws (Sending f i sender wait) = sending (frame_in (tagged ws 3) f) i sender wait
stage_in ws (Listening f ear response quiet) =
    response_in (listening (frame_in (tagged ws 4) f) (listener_in (at ws EAR) ear) quiet) response

-- An entry of the ring in nine bits: its code, and 256 while it is marked.
abbrev pub entry_of : ℕ → Entry
entry_of word = record { code = word % 256; marked = flag_of (word / 256) }

abbrev pub entry_number : Entry → ℕ
entry_number e = e.code + 256 * bit e.marked

-- The ring: sixteen slots, the front first.
abbrev pub slots_from : ℕ → ℕ → List ℕ → List Entry
slots_from zero i ws = []
slots_from (suc n) i ws = entry_of (at ws (ENTRY + i)) ∷ slots_from n (suc i) ws

abbrev pub loaded_ring : List ℕ → Ring
loaded_ring ws = record { entries = slots_from 16 0 ws; count = at ws ENTRIES % 256 }

unfoldable pub slots_in : ℕ → ℕ → List Entry → List ℕ → List ℕ
slots_in zero i es ws = ws
slots_in (suc n) i es ws = slots_in n (suc i) es (set ws (ENTRY + i) (number_in 512 (at ws (ENTRY + i)) (entry_number (get_or es i none))))

abbrev pub ring_in : List ℕ → Ring → List ℕ
ring_in ws r = slots_in 16 0 r.entries (written ws (ENTRIES ≔ number_in 256 (at ws ENTRIES) r.count ∷ []))

-- The controller.
abbrev pub loaded : List ℕ → Controller
loaded ws = controller_of (at ws TIMEOUT % 65536) (loaded_stage ws) (loaded_ring ws)

abbrev pub saved_in : List ℕ → Controller → List ℕ
saved_in ws c = ring_in (stage_in (written ws (TIMEOUT ≔ number_in 65536 (at ws TIMEOUT) c.timeout ∷ [])) c.stage) c.ring

-- Into cleared words: what making a controller leaves.
abbrev pub saved : Controller → List ℕ
saved c = saved_in (replicate WORDS 0) c

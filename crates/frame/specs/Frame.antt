-- Document 01, "Lines and rounds" (controller) and "The controller and its ring": a frame of the controller, round by round.
use Rattle.std.specs.Prelude.{ℕ, ◌+◌, ◌-◌, ◌*◌, Bool, true, false, cond, ◌||◌, ◌&&◌, List, [], ltb, leb, eqb, Some, None, Result, Ok, Err}
use Rattle.answer.specs.Answer.{nothing_taken, taken_with, buffer_with, is_over, status_of, count_of}
use Rattle.answer.specs.declared.Response.{Response}
use Rattle.command.specs.Command.{message_of}
use Rattle.header.specs.declared.Command.{Command}
use Rattle.line.specs.Line.{send_of, sent_of, sender_hsk, sender_nibble, hear_of, taken_of, is_ready, listener_hsk}
use Rattle.line.specs.declared.Lines.{Lines}
use Rattle.line.specs.declared.Listener.{Listener}
use Rattle.line.specs.declared.Listener.TheVariants.{Ready}
use Rattle.line.specs.declared.Sender.{Sender}
use Rattle.line.specs.declared.Sender.TheVariants.{Next}
use Rattle.message.specs.Format.{command_format, bytes_of, least}
use Rattle.message.specs.Nibbles.{nibble_in}
use Rattle.frame.specs.declared.Kind.{Kind}
use Rattle.frame.specs.declared.Kind.TheVariants.{Submitted, Poll, Null}
use Rattle.frame.specs.declared.Frame.{Frame}
use Rattle.frame.specs.declared.Stage.{Stage}
use Rattle.frame.specs.declared.Stage.TheVariants.{Free, Resting, Waiting, Sending, Listening}
use Rattle.frame.specs.declared.End.{End}
use Rattle.frame.specs.declared.Moved.{Moved}
use Rattle.frame.specs.declared.LentError.{LentError}
use Rattle.frame.specs.declared.LentError.TheVariants.{Data, Buffer}

-- The three frames: a submitted command with its data's length; a poll of a code, all other fields zero; a null message (FE) to code 0.
abbrev pub bare : ℕ → ℕ → Command
bare device command = record { device = device; command = command; logical_unit = 0; record_number = 0; buffer_length = 0 }

abbrev pub submitted_frame : Command → ℕ → Frame
submitted_frame c n = record { kind = Submitted; command = c; data_length = n }

abbrev pub poll_of : ℕ → Frame
poll_of code = record { kind = Poll; command = bare code 0x0A; data_length = 0 }

abbrev pub null_frame : Frame
null_frame = record { kind = Null; command = bare 0 0xFE; data_length = 0 }

abbrev pub is_submitted : Kind → Bool
is_submitted Submitted = true
is_submitted Poll = false
is_submitted Null = false

-- It pulls BAV, and places its first nibble two rounds later.
abbrev pub begun : Frame → Stage
begun f = Sending f 0 Next true

-- The frame's nibbles: a submitted command's data is lent, the others have none.
abbrev pub data_of : Frame → List ℕ → List ℕ
data_of f d = cond (is_submitted f.kind) d []

abbrev pub nibble_of : Frame → List ℕ → ℕ → ℕ
nibble_of f d i = nibble_in (bytes_of command_format (message_of f.command (data_of f d))) i

-- The number of the last nibble of a command with n bytes of data, from 0: two to each byte.
abbrev pub last_of : ℕ → ℕ
last_of n = 2 * (least command_format + n) - 1

abbrev pub last_nibble : Frame → ℕ
last_nibble f = last_of f.data_length

-- Sending. When its last nibble is done it listens.
abbrev pub next_nibble : Frame → ℕ → Stage
next_nibble f i = cond (ltb i (last_nibble f)) (Sending f (i + 1) Next false) (Listening f Ready nothing_taken 0)

abbrev pub sending_step : Frame → ℕ → Sender → Bool → Bool → List ℕ → Stage
sending_step f i sender wait hsk d =
    cond wait (Sending f i sender false)
    (cond (sent_of sender hsk) (next_nibble f i) (Sending f i (send_of sender hsk (nibble_of f d i)) false))

abbrev pub stays : Stage → Moved
stays stage = record { stage = stage; end = None }

abbrev pub end_of : Frame → ℕ → ℕ → End
end_of f status count = record { frame = f; status = status; count = count }

-- The frame ends: BAV is released in this round, and it starts nothing for two rounds after that.
abbrev pub over : Frame → Response → Moved
over f response = record { stage = Resting true; end = Some (end_of f (status_of response) (count_of response)) }

-- Rounds in a row with HSK seen high, this one included.
abbrev pub quiet_after : ℕ → Bool → ℕ
quiet_after quiet hsk = cond hsk 0 (quiet + 1)

-- The frame ends at the time-out, or when HSK is seen high after the response's last nibble or after a length that is too large.
abbrev pub ends_by : Bool → ℕ → ℕ → Bool
ends_by done timeout quiet = leb timeout quiet || done

abbrev pub ends : Listener → Response → ℕ → ℕ → Bool
ends ear response timeout quiet = ends_by (is_over response && is_ready ear) timeout quiet

abbrev pub waited : Frame → Listener → Response → ℕ → ℕ → Moved
waited f ear response timeout quiet = cond (ends ear response timeout quiet) (over f response) (stays (Listening f ear response quiet))

-- Listening.
abbrev pub listening_step : Frame → Listener → Response → ℕ → ℕ → Lines → Bool → Moved
listening_step f ear response quiet timeout seen busy =
    cond (taken_of ear seen.hsk)
    (stays (Listening f (hear_of ear seen.hsk busy) (taken_with response seen.nibble f.command.buffer_length) 0))
    (waited f (hear_of ear seen.hsk busy) response timeout (quiet_after quiet seen.hsk))

abbrev pub listening_buffer : Frame → Listener → Response → Lines → List ℕ → List ℕ
listening_buffer f ear response seen buffer =
    cond (taken_of ear seen.hsk) (buffer_with response seen.nibble (is_submitted f.kind) buffer) buffer

-- It starts nothing for two rounds.
abbrev pub rest_step : Bool → Stage
rest_step first = cond first (Resting false) Free

-- A round. A submitted command begins its frame in the next step; inside a frame BAV isn't looked at.
abbrev pub frame_step : Stage → ℕ → Lines → Bool → List ℕ → Moved
frame_step Free timeout seen busy d = stays Free
frame_step (Resting first) timeout seen busy d = stays (rest_step first)
frame_step (Waiting f) timeout seen busy d = stays (begun f)
frame_step (Sending f i sender wait) timeout seen busy d = stays (sending_step f i sender wait seen.hsk d)
frame_step (Listening f ear response quiet) timeout seen busy d = listening_step f ear response quiet timeout seen busy

-- The response buffer after it: only listening changes it.
abbrev pub frame_buffer : Stage → Lines → List ℕ → List ℕ
frame_buffer Free seen buffer = buffer
frame_buffer (Resting first) seen buffer = buffer
frame_buffer (Waiting f) seen buffer = buffer
frame_buffer (Sending f i sender wait) seen buffer = buffer
frame_buffer (Listening f ear response quiet) seen buffer = listening_buffer f ear response seen buffer

-- Whether what a step is lent fits: 10 for data that differs in length from the submitted, 11 for a response buffer under the buffer
-- length field; only in the steps of a submitted frame.
abbrev pub number : LentError → ℕ
number Data = 10
number Buffer = 11

abbrev pub lent_with : Bool → ℕ → ℕ → ℕ → ℕ → Result (Unit {0}) LentError
lent_with submitted data-length buffer_length n room =
    cond submitted (cond (eqb n data-length) (cond (ltb room buffer_length) (Err Buffer) (Ok tt)) (Err Data)) (Ok tt)

abbrev pub lent_to : Frame → ℕ → ℕ → Result (Unit {0}) LentError
lent_to f n room = lent_with (is_submitted f.kind) f.data_length f.command.buffer_length n room

abbrev pub lent_at : Stage → ℕ → ℕ → Result (Unit {0}) LentError
lent_at Free n room = Ok tt
lent_at (Resting first) n room = Ok tt
lent_at (Waiting f) n room = lent_to f n room
lent_at (Sending f i sender wait) n room = lent_to f n room
lent_at (Listening f ear response quiet) n room = lent_to f n room

-- What it pulls: BAV for its frame; HSK and data as its sender or listener does.
abbrev pub pulls_of : Stage → Lines
pulls_of Free = record { bav = false; hsk = false; nibble = 15 }
pulls_of (Resting first) = record { bav = false; hsk = false; nibble = 15 }
pulls_of (Waiting f) = record { bav = false; hsk = false; nibble = 15 }
pulls_of (Sending f i sender wait) = record { bav = true; hsk = sender_hsk sender; nibble = sender_nibble sender }
pulls_of (Listening f ear response quiet) = record { bav = true; hsk = listener_hsk ear; nibble = 15 }

-- Frames end: how many rounds a frame still takes at most, those aside in which a busy host holds a nibble. A nibble takes four: placed,
-- taken, let go, counted. `FramesEnd` draws from it when a frame has ended.
use Rattle.std.specs.Prelude.{ℕ, ◌+◌, ◌-◌, ◌*◌, ◌/◌, Bool, true, false, cond, not, ◌&&◌, List, [], ◌∷◌}
use Rattle.bus.specs.Bus.{is_odd}
use Rattle.bus.specs.declared.Station.{Station}
use Rattle.frame.specs.Frame.{last_nibble, pulls_of}
use Rattle.frame.specs.declared.Frame.{Frame}
use Rattle.frame.specs.declared.Stage.{Stage}
use Rattle.frame.specs.declared.Stage.TheVariants.{Free, Resting, Waiting, Sending, Listening}
use Rattle.line.specs.declared.Sender.{Sender}
use Rattle.line.specs.declared.Sender.TheVariants.{Next, Placed, Kept}
use Rattle.phase.specs.declared.Phase.{Phase}
use Rattle.phase.specs.declared.Phase.TheVariants.{Idle, Selecting, Receiving, Responding, SittingOut}
use Rattle.queue.specs.declared.Queue.{Queue}
use Rattle.reply.specs.Reply.{last_nibble as last_of}
use Rattle.unit.specs.Unit.{pulls_hsk}
use Rattle.delivery.specs.World.{World, Busy, levels}

-- For the nibble that is under way, by whether HSK is low.
abbrev pub place : Sender → Bool → ℕ
place Next low = 4
place (Placed n) low = 3
place (Kept n) low = cond low 2 1

-- Of a unit that responds.
abbrev pub phase_left : Phase → Queue → Bool → ℕ → ℕ
phase_left Idle q low rest = rest
phase_left (Selecting ear half nibble) q low rest = rest
phase_left (Receiving ear progress) q low rest = rest
phase_left (Responding r j sender wait) q low rest = 4 * (last_of q r - j) + place sender low + cond wait 1 0
phase_left (SittingOut last) q low rest = rest

-- Of whichever unit responds, or of the time-out where none does.
abbrev pub units_left : List Station → Bool → ℕ → ℕ
units_left [] low rest = rest
units_left (st ∷ ss) low rest = phase_left st.unit.phase st.unit.serial.input low (units_left ss low rest)

-- Listening takes at most as long as the longest response that fits the buffer length field, or the time-out.
abbrev pub listening : Frame → ℕ → ℕ
listening f timeout = 4 * (2 * (3 + f.command.buffer_length)) + 1 + timeout

abbrev pub stage_left : Stage → ℕ → List Station → Bool → ℕ
stage_left Free timeout ss low = 0
stage_left (Resting first) timeout ss low = 0
stage_left (Waiting f) timeout ss low = 0
stage_left (Sending f i sender wait) timeout ss low = 4 * (last_nibble f - i) + place sender low + cond wait 1 0 + listening f timeout
stage_left (Listening f ear taken quiet) timeout ss low = units_left ss low (timeout - quiet)

abbrev pub left : World → ℕ
left w = stage_left w.controller.stage w.controller.timeout w.units (levels w).hsk

-- A round is free if no party that holds HSK low has a busy host: neither the controller nor a unit. A busy host elsewhere does not count.
abbrev pub controller_free : Stage → Bool → Bool
controller_free stage host = not ((pulls_of stage).hsk && host)

abbrev pub units_free : ℕ → List Station → Bool
units_free hosts [] = true
units_free hosts (st ∷ ss) = not (pulls_hsk st.unit.phase && is_odd hosts) && units_free (hosts / 2) ss

abbrev pub is_free : World → Busy → Bool
is_free w busy = controller_free w.controller.stage busy.here && units_free busy.there w.units

-- A round in which no host is busy. It is free, wherever the parties are.
abbrev pub quietly : Busy
quietly = record { here = false; there = 0 }

-- Document 01, "The controller and its ring": the frame of an entry's turn, and what a frame that has ended does to the ring and tells
-- the application.
use Rattle.std.specs.Prelude.{ℕ, true, cond, ◌||◌, eqb}
use Rattle.frame.specs.Frame.{poll_of, null_frame}
use Rattle.frame.specs.declared.Frame.{Frame}
use Rattle.frame.specs.declared.Kind.{Kind}
use Rattle.frame.specs.declared.Kind.TheVariants.{Submitted, Poll, Null}
use Rattle.header.specs.declared.Command.{Command}
use Rattle.ring.specs.Ring.{live, ring_of, joined, removed, with_mark}
use Rattle.ring.specs.declared.Entry.{Entry}
use Rattle.ring.specs.declared.Ring.{Ring}
use Rattle.turn.specs.declared.Event.{Event}
use Rattle.turn.specs.declared.Event.TheVariants.{Nothing, Ended, Handed}

-- The frame of an entry's turn. Unmarked: it is polled. Marked: a null message is sent.
abbrev pub turn_of : Entry → Frame
turn_of e = cond e.marked null_frame (poll_of e.code)

-- The ring after a submitted command that ended with 00: 08 joins, 09 or 01 removes. A bus reset leaves the ring as it is.
abbrev pub ring_with : Ring → Command → Ring
ring_with ring c =
    cond (eqb c.command 0x08) (ring_of (joined c.device (live ring)))
    (cond (eqb c.command 0x09 || eqb c.command 0x01) (ring_of (removed c.device (live ring))) ring)

-- The ring after a frame of a kind whose operation ended with 00. A poll marks its entry; an answer to a null message is dropped.
abbrev pub ring_by : Kind → Ring → Command → Ring
ring_by Submitted ring c = ring_with ring c
ring_by Poll ring c = ring_of (with_mark true c.device (live ring))
ring_by Null ring c = ring

abbrev pub ring_ended : Ring → Frame → ℕ → Ring
ring_ended ring f status = cond (eqb status 0x00) (ring_by f.kind ring f.command) ring

-- What the application is told: how its command ended, or that a request of this code is handed to it.
abbrev pub handed : ℕ → ℕ → Event
handed code status = cond (eqb status 0x00) (Handed code) Nothing

abbrev pub event_by : Kind → Command → ℕ → ℕ → Event
event_by Submitted c status count = Ended status count
event_by Poll c status count = handed c.device status
event_by Null c status count = Nothing

abbrev pub event_of : Frame → ℕ → ℕ → Event
event_of f status count = event_by f.kind f.command status count

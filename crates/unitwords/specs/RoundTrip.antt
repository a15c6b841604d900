-- A unit that was saved is loaded as it was, whatever stood in the words before.
use Rattle.std.specs.Prelude.{ℕ, ◌<◌, ◌≡◌, Bool, List, length}
use Rattle.header.specs.Header
use Rattle.line.specs.declared.Listener.{Listener}
use Rattle.line.specs.declared.Sender.{Sender}
use Rattle.phase.specs.declared.Partial.{Partial}
use Rattle.phase.specs.declared.Progress.TheVariants.{Taking, Answered}
use Rattle.phase.specs.declared.Phase.{Phase}
use Rattle.phase.specs.declared.Phase.TheVariants.{Idle, Selecting, Receiving, Responding, SittingOut}
use Rattle.queue.specs.declared.Queue.{Queue}
use Rattle.screen.specs.declared.Screen.{Screen}
use Rattle.screen.specs.declared.Sequence.{Sequence}
use Rattle.screen.specs.declared.Sequence.TheVariants.{Plain, Escape, Row, Column, Skips}
use Rattle.serial.specs.declared.Mode.{Mode}
use Rattle.serial.specs.declared.Opening.{Opening}
use Rattle.serial.specs.declared.Opening.TheVariants.{Closed, OpenFor}
use Rattle.serial.specs.declared.Reply.{Reply}
use Rattle.serial.specs.declared.Reply.TheVariants.{Silent, Status, Opened, Bytes, Address, Polled}
use Rattle.unit.specs.declared.Unit.{Unit}
use Rattle.words.specs.Ranges.{SenderFits}
use Rattle.unitwords.specs.Layout.{WORDS}
use Rattle.unitwords.specs.Unit.{loaded, saved_in, saved}

-- What the types of a unit's fields say of them.
pub data OpeningFits : Opening → Type 0 where
  closed : OpeningFits Closed
  opened_for : {m : Mode} {accepted : ℕ} → accepted < 256 → OpeningFits (OpenFor m accepted)

pub data ReplyFits : Reply → Type 0 where
  silent : ReplyFits Silent
  status : {n : ℕ} → n < 256 → ReplyFits (Status n)
  opened : {n : ℕ} → n < 256 → ReplyFits (Opened n)
  bytes : {n : ℕ} → n < 65536 → ReplyFits (Bytes n)
  address : {n row column : ℕ} → n < 256 → row < 256 → column < 256 → ReplyFits (Address n row column)
  polled : ReplyFits Polled

pub data PhaseFits : Phase → Type 0 where
  idle : PhaseFits Idle
  selecting : {ear : Listener} {half : Bool} {low : ℕ} → low < 256 → PhaseFits (Selecting ear half low)
  taking : {ear : Listener} {p : Partial} → Header.InRange p.header.command → p.header.data_length < 65536 → p.low < 256
      → PhaseFits (Receiving ear (Taking p))
  answered : {ear : Listener} {reply : Reply} → ReplyFits reply → PhaseFits (Receiving ear (Answered reply))
  responding : {reply : Reply} {i : ℕ} {sender : Sender} {wait : Bool} → ReplyFits reply → SenderFits sender
      → PhaseFits (Responding reply i sender wait)
  sitting_out : {last : Bool} → PhaseFits (SittingOut last)

pub record QueueFits (q : Queue) : Type 0 where
  pub head : q.head < 256
  pub count : q.count < 65536

pub data SequenceFits : Sequence → Type 0 where
  plain : SequenceFits Plain
  escape : SequenceFits Escape
  at_row : SequenceFits Row
  at_column : {n : ℕ} → n < 256 → SequenceFits (Column n)
  skips : {n : ℕ} → n < 256 → SequenceFits (Skips n)

pub record ScreenFits (s : Screen) : Type 0 where
  pub row : s.row < 256
  pub column : s.column < 256
  pub sequence : SequenceFits s.sequence

pub record InRange (u : Unit) : Type 0 where
  pub own : u.own < 256
  pub retry : u.retry < 65536
  pub quiet : u.quiet < 65536
  pub phase : PhaseFits u.phase
  pub opening : OpeningFits u.serial.opening
  pub input : QueueFits u.serial.input
  pub output : QueueFits u.serial.output
  pub screen : ScreenFits u.serial.screen

abbrev pub LoadedSavedIn : Type 0
LoadedSavedIn = (ws : List ℕ) (u : Unit) → length ws ≡ WORDS → InRange u → loaded (saved_in ws u) ≡ u

-- What was loaded and is saved changes no word, whatever stands there.
abbrev pub SavedLoaded : Type 0
SavedLoaded = (ws : List ℕ) → saved_in ws (loaded ws) ≡ ws

abbrev pub LoadedSaved : Type 0
LoadedSaved = (u : Unit) → InRange u → loaded (saved u) ≡ u

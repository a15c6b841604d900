-- Document 01, "Lines and rounds": which sender and listener go together, and what a unit that listens has taken of a command.
use Prim.Native.Nat.{ℕ, suc, ◌*◌, ◌%◌, ◌<◌, ◌≤◌}
use mathlib.Core.Path.{◌≡◌}
use mathlib.Core.Bool.{Bool, true, false}
use mathlib.Core.List.{List}
use lib.ListN.{length}
use Rattle.line.specs.declared.Listener.{Listener}
use Rattle.line.specs.declared.Listener.TheVariants.{Ready, Holding, Waiting}
use Rattle.line.specs.declared.Sender.{Sender}
use Rattle.line.specs.declared.Sender.TheVariants.{Next, Placed, Kept}
use Rattle.phase.specs.Phase.{partial}
use Rattle.phase.specs.declared.Phase.{Phase}
use Rattle.phase.specs.declared.Phase.TheVariants.{Selecting, Receiving}
use Rattle.phase.specs.declared.Progress.TheVariants.{Taking}
use Rattle.whole.specs.Whole.{byte_at, head_at, buffer_at}

-- A sender whose nibble n is next, placed or kept, and a listener beside it that has taken it not yet, 0, or once, 1. No other pair
-- is reached.
pub data Fits (n : ℕ) : Sender → Listener → ℕ → Type 0 where
  f_next : Fits n Next Ready 0
  f_placed : Fits n (Placed n) Ready 0
  f_holds : Fits n (Kept n) Holding 1
  f_waits : Fits n (Kept n) Waiting 1

-- What HSK (low: true) and the data lines show beside a sender, to a listener.
abbrev pub Sees : Sender → Listener → Bool → ℕ → Type 0
Sees Next ear low seen = low ≡ false
Sees (Placed n) ear low seen = (low ≡ true) × (seen ≡ n)
Sees (Kept n) Ready low seen = Unit
Sees (Kept n) Holding low seen = low ≡ true
Sees (Kept n) Waiting low seen = Unit

-- A unit that has taken the first k nibbles of a command with these bytes, whose listener is at `ear`: its phase, and the lent buffer.
pub data Heard (bytes : List ℕ) (ear : Listener) : ℕ → Phase → List ℕ → Type 0 where
  h_none : {buffer : List ℕ} → 256 ≤ length buffer → Heard bytes ear 0 (Selecting ear false 0) buffer
  h_first : {buffer : List ℕ} → 256 ≤ length buffer → Heard bytes ear 1 (Selecting ear true (byte_at bytes 0 % 16)) buffer
  h_byte :
      (j : ℕ) (buffer : List ℕ) → 256 ≤ length buffer → 1 ≤ j → j < length bytes
      → Heard bytes ear (2 * j) (Receiving ear (Taking (partial (head_at bytes j) j))) (buffer_at bytes j buffer)
  h_half :
      (j : ℕ) (buffer : List ℕ) → 256 ≤ length buffer → 1 ≤ j → j < length bytes
      → Heard bytes ear (suc (2 * j)) (Receiving ear (Taking (record { header = head_at bytes j; place = j; half = true; low = byte_at bytes j % 16 }))) (buffer_at bytes j buffer)

-- A byte that is fed, where it may be and there is room.
use Prim.Native.Nat.{ℕ}
use mathlib.Core.Path.{◌≡◌}
use mathlib.Core.Bool.{true, false}
use mathlib.Core.List.{[], ◌∷◌}
use lib.Dec.{eqb}
use Rattle.message.specs.Answer.{gives}
use Rattle.queue.specs.Queue.{room, queue_with}
use Rattle.host.specs.Calls.{feeding, with_serial}
use Rattle.kind.specs.Kinds.{kind_of, is_fed}
use Rattle.serial.specs.Serial.{with_input}
use Rattle.unit.specs.declared.Unit.{Unit}

pub feeding_queued : (u : Unit) (b : ℕ) → is_fed (kind_of u.own) u.serial.opening ≡ true → eqb (room u.serial.input) 0 ≡ false
    → feeding u b ≡ gives (with_serial u (with_input u.serial (queue_with u.serial.input (b ∷ []))))
feeding_queued u b p q = rw (p, q)

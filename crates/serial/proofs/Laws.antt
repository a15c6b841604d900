-- The memory for what is written to a unit keeps its length.
use Prim.Native.Nat.{ℕ}
use mathlib.Core.Path.{◌≡◌, refl}
use mathlib.Core.List.{List}
use lib.ListN.{length}
use Rattle.queue.proofs.Laws.{length_with_lem}
use Rattle.screen.proofs.Laws.{length-cleared, length-after as length-shown}
use Rattle.serial.specs.Serial.{output_after}
use Rattle.serial.specs.declared.Effect.{Effect}
use Rattle.serial.specs.declared.Effect.TheVariants.{Keeps, Opens, Closes, Resets, Enables, Disables, Stores, OpensScreen, ResetsScreen, Shows}
use Rattle.serial.specs.declared.Serial.{Serial}

pub length-after : (s : Serial) (e : Effect) (d bytes : List ℕ) → length (output_after s e d bytes) ≡ length bytes
length-after s Keeps d bytes = refl
length-after s (Opens m accepted) d bytes = refl
length-after s Closes d bytes = refl
length-after s Resets d bytes = refl
length-after s Enables d bytes = refl
length-after s Disables d bytes = refl
length-after s Stores d bytes = length_with_lem bytes s.output d
length-after s (OpensScreen m accepted) d bytes = length-cleared bytes
length-after s ResetsScreen d bytes = length-cleared bytes
length-after s Shows d bytes = length-shown s.screen d bytes

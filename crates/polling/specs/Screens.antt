-- A video unit never enters the polling ring: no run puts its code there.
use Rattle.std.specs.Prelude.{ℕ, ◌≡◌, false}
use Rattle.delivery.specs.Run.{QuietStart, Run}
use Rattle.delivery.specs.World.{World}
use Rattle.kind.specs.Kinds.{kind_of}
use Rattle.kind.specs.declared.Kind.TheVariants.{Video as VideoUnit}
use Rattle.polling.specs.Moves.{in_ring}

abbrev pub NeverInRing : Type 0
NeverInRing = (w v : World) → QuietStart w → Run w v → (own : ℕ) → kind_of own ≡ VideoUnit → in_ring own v.controller ≡ false

-- What the code's types say of the numbers that stand in words.
use Rattle.std.specs.Prelude.{ℕ, ◌<◌}
use Rattle.line.specs.declared.Sender.{Sender}
use Rattle.line.specs.declared.Sender.TheVariants.{Next, Placed, Kept}

pub data SenderFits : Sender → Type 0 where
  next : SenderFits Next
  placed : {n : ℕ} → n < 256 → SenderFits (Placed n)
  kept : {n : ℕ} → n < 256 → SenderFits (Kept n)

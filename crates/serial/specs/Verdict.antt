-- Document 01, "The serial peripheral": a verdict is the answer to a command, and its effect.
use Rattle.std.specs.Prelude.{ℕ, Bool, cond, ◌&&◌}
use Rattle.serial.specs.declared.Reply.{Reply}
use Rattle.serial.specs.declared.Reply.TheVariants.{Status, Polled}
use Rattle.serial.specs.declared.Effect.{Effect}
use Rattle.serial.specs.declared.Effect.TheVariants.{Keeps}
use Rattle.serial.specs.declared.Verdict.{Verdict}

abbrev pub says : Reply → Effect → Verdict
says reply effect = record { reply = reply; effect = effect }

-- A status with no data changes nothing, unless an effect is named.
abbrev pub status : ℕ → Verdict
status number = says (Status number) Keeps

-- 11, of every kind of unit. Poll: status 00 if enabled and requesting, else 0A.
abbrev pub poll_by : Bool → Bool → Verdict
poll_by enabled requesting = cond (enabled && requesting) (says Polled Keeps) (status 0x0A)

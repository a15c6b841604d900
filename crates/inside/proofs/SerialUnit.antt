-- The serial unit is lawful: its checks are walked through once.
use Prim.Native.Nat.{ℕ, min}
use native.Mathlib.Nat.{min-le_left, min-le_right, le_trans}
use mathlib.Core.Bool.{Bool, true, false, ◌&&◌}
use mathlib.Core.List.{List, [], ◌∷◌}
use mathlib.Core.Path.{◌≡◌, refl}
use lib.Dec.{ltb, eqb, lit<}
use lib.ListN.{get_or}
use Rattle.field.specs.Field.{value_of}
use Rattle.frame.specs.Frame.{poll_of}
use Rattle.header.specs.declared.Command.{Command}
use Rattle.kind.specs.Kinds.{checks_of}
use Rattle.kind.specs.declared.Kind.TheVariants.{Serial as SerialUnit}
use Rattle.queue.specs.Queue.{held, room}
use Rattle.std.specs.Prelude.{None, Result}
use Rattle.rs232.proofs.Laws.{each_status}
use Rattle.rs232.specs.Checks.{mode_of, accepted_of, opened_or, open_by, read_by, write_by, opened_by, command_by, supported}
use Rattle.serial.specs.Verdict.{says, poll_by}
use Rattle.serial.specs.declared.Effect.TheVariants.{Keeps, Opens}
use Rattle.serial.specs.declared.Mode.{Mode}
use Rattle.serial.specs.declared.Mode.TheVariants.{Input, Output, Update}
use Rattle.serial.specs.declared.Opening.{Opening}
use Rattle.serial.specs.declared.Opening.TheVariants.{Closed, OpenFor}
use Rattle.serial.specs.declared.Reply.TheVariants.{Bytes, Opened}
use Rattle.serial.specs.declared.Serial.{Serial}
use Rattle.serial.specs.declared.Verdict.{Verdict}
use Rattle.inside.specs.Lawful.{Lawful}
use Rattle.inside.proofs.Ors.{or_left, or_right, by_test}
use Rattle.inside.proofs.Queues.{queues-lawful, Each}

-- Its checks, both ways of every test.
module _ (s : Serial) (c : Command) (P : Verdict → Type 0) (each : Each s c P) where
  each-open : (n requested attributes : ℕ) → P (open_by c.buffer_length n requested attributes)
  each-open n requested attributes =
      each_status (λ (r : Result (Unit {0}) ℕ). P (opened_or r (says (Opened (accepted_of requested)) (Opens (mode_of attributes) (accepted_of requested)))))
      None c.buffer_length n requested attributes
      (λ o. each.opens (mode_of attributes) (accepted_of requested) o.has_room)
      (λ k e. cc)
      (λ k _ h. each.refuses k h)

  each-bytes : (accepted : ℕ) → P (says (Bytes (min (held s.input) (min c.buffer_length accepted))) Keeps)
  each-bytes accepted =
      let queued = held s.input in
      each.reads (min queued (min c.buffer_length accepted)) (le_trans (min-le_right queued (min c.buffer_length accepted)) (min-le_left c.buffer_length accepted)) (min-le_left queued (min c.buffer_length accepted))

  each_read : (m : Mode) (accepted : ℕ) → P (read_by m accepted c.buffer_length (held s.input))
  each_read Input accepted = each-bytes accepted
  each_read Output accepted = each.refuses 0x0F (lit< tt)
  each_read Update accepted = each-bytes accepted

  each_write : (m : Mode) (n room : ℕ) → P (write_by m n room)
  each_write Input n room = each.refuses 0x0E (lit< tt)
  each_write Output n room = by_test P (ltb room n) _ _ (λ _. each.refuses 0x08 (lit< tt)) (λ _. each.stores)
  each_write Update n room = by_test P (ltb room n) _ _ (λ _. each.refuses 0x08 (lit< tt)) (λ _. each.stores)

  each-poll : eqb c.command 0x0A ≡ true → (a b : Bool) → P (poll_by a b)
  each-poll e a b = by_test P (a && b) _ _ (λ _. each.polled e) (λ _. each.refuses 0x0A (lit< tt))

  -- What is neither open, poll, close, read, write nor enabling is the disabling.
  each_in : (m : Mode) (accepted n : ℕ) → supported c.command ≡ true → eqb c.command 0x00 ≡ false → eqb c.command 0x0A ≡ false → P (opened_by m accepted s c n)
  each_in m accepted n known a b =
      by_test P (eqb c.command 0x01) _ _ (λ e. each.closes e) (λ x1.
      by_test P (eqb c.command 0x03) _ _ (λ _. each_read m accepted) (λ x3.
      by_test P (eqb c.command 0x04) _ _ (λ _. each_write m n (room s.output)) (λ x4.
      by_test P (eqb c.command 0x08) _ _ (λ _. each.enables) (λ x8.
      each.disables (or_left (eqb c.command 0x09) (eqb c.command 0x0A) b
      (or_right (eqb c.command 0x08) x8 (or_right (eqb c.command 0x04) x4 (or_right (eqb c.command 0x03) x3 (or_right (eqb c.command 0x01) x1 (or_right (eqb c.command 0x00) a known))))))))))

  each-command : (o : Opening) (n : ℕ) (d : List ℕ) → supported c.command ≡ true → P (command_by o s c n d)
  each-command Closed n d known =
      by_test P (eqb c.command 0x00) _ _ (λ _. each-open n (value_of (get_or d 0 0 ∷ get_or d 1 0 ∷ [])) (get_or d 2 0)) (λ _.
      by_test P (eqb c.command 0x0A) _ _ (λ e. each-poll e s.enabled s.requesting) (λ _. each.refuses 0x04 (lit< tt)))
  each-command (OpenFor m accepted) n d known =
      by_test P (eqb c.command 0x00) _ _ (λ _. each.refuses 0x05 (lit< tt)) (λ a.
      by_test P (eqb c.command 0x0A) _ _ (λ e. each-poll e s.enabled s.requesting) (λ b. each_in m accepted n known a b))

  pub serial-checks : (n : ℕ) (d : List ℕ) → P (checks_of SerialUnit s c n d)
  serial-checks n d =
      by_test P (supported c.command) _ _ (λ known. by_test P (ltb 256 n) _ _ (λ _. each.refuses 0x08 (lit< tt)) (λ _. each-command s.opening n d known)) (λ _. each.refuses 0x0D (lit< tt))

-- It answers a poll whether it is open or not.
serial_polls : (s : Serial) (own : ℕ) → (checks_of SerialUnit s (poll_of own).command 0 []).reply ≡ (poll_by s.enabled s.requesting).reply
serial_polls s own = by s.opening
  where
    by : (o : Opening) → (command_by o s (poll_of own).command 0 []).reply ≡ (poll_by s.enabled s.requesting).reply
    by Closed = refl
    by (OpenFor m accepted) = refl

pub serial_lawful : Lawful SerialUnit
serial_lawful = queues-lawful SerialUnit serial-checks serial_polls (λ s. refl)

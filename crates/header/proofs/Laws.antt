-- A header's fields and its bytes: each field is the value of its bytes, and nine bytes are those of the header in them.
use Prim.Native.Nat.{ℕ, ◌+◌, ◌*◌, ◌/◌, ◌%◌, ◌<◌, ◌≤◌}
use native.Mathlib.Nat.{add-zero, mod-eq_of_lt}
use native.Mathlib.Omega.{arith}
use mathlib.Core.Path.{◌≡◌, sym, ◌∙◌, ap}
use mathlib.Core.List.{List, ◌++◌}
use lib.ListN.{length, set, take, drop, length-set, length-drop}
use lib.Seq.{take-add, take_all, set_out}
use Rattle.field.specs.Field.{field, Below}
use Rattle.message.specs.Format.{command_format, laid}
use Rattle.message.specs.Reading.{values_in, announced}
use Rattle.message.proofs.Fields.{laid_values, field_value, below_drop, below_set}
use Rattle.header.specs.Header.{InRange, header_bytes, header_in}
use Rattle.header.specs.declared.Header.{Header}

-- A two-byte field is the value of its bytes.
pub pair_value : (x : ℕ) → x < 65536 → x % 256 + 256 * (x / 256 % 256) ≡ x
pair_value x h = omega arith

pub ruleset values = (add-zero, mod-eq_of_lt, pair_value)

-- A header in range is the one in its bytes, and byte 9 or above changes nothing.
pub header_own : (h : Header) → InRange h.command → h.data_length < 65536 → header_in (header_bytes h) ≡ h
header_own h r l = simp (values, r.device, r.command, r.unit, r.number, r.buffer, l)

pub with_none : (h : Header) (i b : ℕ) → InRange h.command → h.data_length < 65536 → 9 ≤ i → header_in (set (header_bytes h) i b) ≡ h
with_none h i b r l p = ap header_in (set_out (header_bytes h) i b p) ∙ header_own h r l

-- The header that nine bytes hold.
pub record Holds (h : Header) (t : List ℕ) : Type 0 where
  pub says : h ≡ header_in t
  pub nine : length t ≡ 9
  pub bytes : Below 256 t

header_bytes_lem : (t : List ℕ) → length t ≡ 9 → Below 256 t → header_bytes (header_in t) ≡ t
header_bytes_lem t n b =
    let front : laid command_format.before (values_in command_format.before t) ≡ take 7 t = laid_values command_format.before t (omega arith) b in
    let count : field 2 (announced 7 t) ≡ take 2 (drop 7 t) = field_value 2 (drop 7 t) (rw length-drop (omega arith)) (below_drop 7 t b) in
    (λ i. front i ++ count i) ∙ sym (take-add 7 2 t) ∙ take_all 9 t (omega arith)

pub holds_with : {h r : Header} {t : List ℕ} (i b : ℕ) → Holds h t → b < 256 → r ≡ header_in (set (header_bytes h) i b) → Holds r (set t i b)
holds_with {h} {r} {t} i b p q e = record {
  says = e ∙ ap (λ (x : Header). header_in (set (header_bytes x) i b)) p.says ∙ ap (λ (l : List ℕ). header_in (set l i b)) (header_bytes_lem t p.nine p.bytes);
  nine = length-set t i b ∙ p.nine;
  bytes = below_set t i b p.bytes q;
}

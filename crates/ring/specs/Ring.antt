-- Document 01, "The controller and its ring" (ring order set here): up to sixteen entries, each a device code and an unacknowledged
-- mark, the front first.
use Rattle.std.specs.Prelude.{ℕ, zero, suc, min, Bool, false, cond, List, [], ◌∷◌, ◌++◌, ltb, eqb, length, take, get_or, set}
use Rattle.ring.specs.declared.Entry.{Entry}
use Rattle.ring.specs.declared.Ring.{Ring}

abbrev pub entry_of : ℕ → Bool → Entry
entry_of code marked = record { code = code; marked = marked }

-- What an unused slot holds, and an entry past the last.
abbrev pub none : Entry
none = entry_of 0 false

-- The entries of a ring.
abbrev pub counted : Ring → ℕ
counted r = min r.count 16

abbrev pub live : Ring → List Entry
live r = take (counted r) r.entries

-- The ring of such entries: sixteen slots, the unused ones behind.
abbrev pub slots_from : ℕ → ℕ → List Entry → List Entry
slots_from zero i l = []
slots_from (suc k) i l = get_or l i none ∷ slots_from k (suc i) l

abbrev pub ring_of : List Entry → Ring
ring_of l = record { entries = slots_from 16 0 l; count = length l }

-- Where the first entry with a code stands: past the last where none has it.
abbrev pub place_of : ℕ → List Entry → ℕ
place_of code [] = 0
place_of code (e ∷ es) = cond (eqb e.code code) 0 (suc (place_of code es))

abbrev pub is_in : ℕ → List Entry → Bool
is_in code l = ltb (place_of code l) (length l)

-- The entries without the one at a place: the gap is closed.
abbrev pub cut_at : ℕ → List Entry → List Entry
cut_at i [] = []
cut_at zero (e ∷ es) = es
cut_at (suc i) (e ∷ es) = e ∷ cut_at i es

-- A unit not yet in the ring joins at the back, unmarked; code 0 never joins. A full ring stays as it is.
abbrev pub joins : ℕ → List Entry → Bool
joins code l = cond (eqb code 0) false (cond (is_in code l) false (ltb (length l) 16))

abbrev pub joined : ℕ → List Entry → List Entry
joined code l = cond (joins code l) (l ++ (entry_of code false ∷ [])) l

-- Removal; its mark then counts as acknowledged.
abbrev pub removed : ℕ → List Entry → List Entry
removed code l = cut_at (place_of code l) l

-- The front entry moves to the back.
abbrev pub turned : List Entry → List Entry
turned [] = []
turned (e ∷ es) = es ++ (e ∷ [])

-- An entry is marked when its poll ends with 00; acknowledging clears the mark. Nothing else of the entry changes.
abbrev pub marking : Bool → Entry → Entry
marking marked e = record { code = e.code; marked = marked }

abbrev pub mark_at : Bool → ℕ → List Entry → List Entry
mark_at marked i l = set l i (marking marked (get_or l i none))

abbrev pub with_mark : Bool → ℕ → List Entry → List Entry
with_mark marked code l = mark_at marked (place_of code l) l

-- Whether the code is in the ring and marked.
abbrev pub is_marked : ℕ → List Entry → Bool
is_marked code l = cond (is_in code l) (get_or l (place_of code l) none).marked false

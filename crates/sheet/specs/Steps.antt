-- What the steps of reading and writing say: the checks of a head and of one arc, and a sheet in pieces.
use Rattle.std.specs.Prelude.{ℕ, cond, not, ◌||◌, List, [], ◌∷◌, ◌++◌, length, Some, None, Ok, Err, Option, Result, ◌==◌, nat_le, nat_lt}
use Rattle.std.specs.List.{flat_map}
use Rattle.network.specs.declared.arc.Arc.{Arc}
use Rattle.network.specs.Checks.{Check, Told, refusal, refusal_at}
use Rattle.sheet.specs.declared.reader.Field.{Field}
use Rattle.sheet.specs.declared.reading.Head.{Head}
use Rattle.sheet.specs.declared.refusals.ReadRefusal.{ReadRefusal}
use Rattle.sheet.specs.Bits.{bits, bytes_of, field}
use Rattle.sheet.specs.Layout.{arc_bits, read_told, sheet_size, sites_in, arcs_in}

-- the numbers in the head, where there is one
abbrev pub head_in : List ℕ → Option Head
head_in bytes = cond (nat_lt (length bytes) 2) None (Some (record { sites = sites_in bytes; arcs = arcs_in bytes }))

-- what is checked of the head of a sheet of so many bytes
abbrev pub head_checks : ℕ → Head → List Check
head_checks size head =
    (nat_lt head.sites 2 || nat_lt 64 head.sites, refusal 2)
    ∷ (nat_lt 256 head.arcs, refusal 3)
    ∷ (not (size == sheet_size head.arcs), refusal 4)
    ∷ []

-- the field of a width at a position
abbrev pub field_at : List ℕ → ℕ → ℕ → Field
field_at bytes position width = record { value = field bytes position width; position = position }

-- what is checked of an arc's two ends, where there are so many sites
abbrev pub end_checks : ℕ → Field → Field → List Check
end_checks sites from to =
    (nat_le sites from.value, refusal_at 5 from.position)
    ∷ (nat_le sites to.value, refusal_at 5 to.position)
    ∷ ((to.value == from.value), refusal_at 6 to.position)
    ∷ []

-- what a step of reading tells, if it refuses
abbrev pub told : {A : Type 0} → Result A ReadRefusal → Option Told
told (Ok x) = None
told (Err r) = Some (read_told r)

-- the two bytes of a head
unfoldable pub head_bytes : ℕ → ℕ → List ℕ
head_bytes sites arcs = bytes_of 2 (bits 7 sites ++ bits 9 arcs)

-- the eight bytes of a number
unfoldable pub word_bytes : ℕ → List ℕ
word_bytes word = bytes_of 8 (bits 64 word)

-- the bytes of arcs, eight for each
unfoldable pub arcs_bytes : List Arc → List ℕ
arcs_bytes arcs = flat_map (λ a. bytes_of 8 (arc_bits a)) arcs

-- What the bit reader hands out: the next field of a width, if the bytes hold so many bits more.
use Rattle.std.specs.Prelude.{ℕ, ◌+◌, ◌*◌, ◌^◌, Bool, cond, ◌&&◌, List, length, Some, None, Option, nat_le, nat_lt}
use Rattle.sheet.specs.declared.reader.Field.{Field}
use Rattle.sheet.specs.Bits.{field}

-- so many bits are there at a position; positions are numbers of 32 bits
abbrev pub bits_there : List ℕ → ℕ → ℕ → Bool
bits_there bytes position width = nat_lt (position + width) (2 ^ 32) && nat_le (position + width) (8 * length bytes)

-- a field of so many bits is left at a position; fields are numbers of 32 bits
abbrev pub bits_left : List ℕ → ℕ → ℕ → Bool
bits_left bytes position width = nat_le width 32 && bits_there bytes position width

abbrev pub next_field : List ℕ → ℕ → ℕ → Option Field
next_field bytes position width =
    cond (bits_left bytes position width) (Some (record { value = field bytes position width; position = position })) None

abbrev pub next_position : List ℕ → ℕ → ℕ → ℕ
next_position bytes position width = cond (bits_left bytes position width) (position + width) position

-- the position after so many bits are passed over
abbrev pub skip_position : List ℕ → ℕ → ℕ → ℕ
skip_position bytes position width = cond (bits_there bytes position width) (position + width) position

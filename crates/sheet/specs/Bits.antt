-- Numbers as bits, the most significant bit first, and bytes as eight bits each.
use Rattle.std.specs.Prelude.{ℕ, zero, suc, ◌+◌, ◌*◌, ◌/◌, ◌%◌, ◌^◌, List, [], ◌∷◌, take, drop, fold}
use Rattle.std.specs.List.{flat_map}

-- the lowest so many bits of a number
abbrev pub bits : ℕ → ℕ → List ℕ
bits zero x = []
bits (suc w) x = x / 2 ^ w % 2 ∷ bits w x

-- the number that a row of bits stands for
abbrev pub number : List ℕ → ℕ
number bs = fold (λ n b. 2 * n + b) 0 bs

-- the bits of a row of bytes
abbrev pub bits_of : List ℕ → List ℕ
bits_of bytes = flat_map (bits 8) bytes

-- the first so many bytes that a row of bits fills
abbrev pub bytes_of : ℕ → List ℕ → List ℕ
bytes_of zero bs = []
bytes_of (suc k) bs = number (take 8 bs) ∷ bytes_of k (drop 8 bs)

-- the field of a width that begins at a bit position
abbrev pub field : List ℕ → ℕ → ℕ → ℕ
field bytes position width = number (take width (drop position (bits_of bytes)))

-- The bits of a network sheet. First come the number of sites in 7 bits and of arcs in 9. Each arc then takes from 6,
-- to 6, weight 12, delay 12, jitter 10, charge 10 and capacity 8 bits, without gaps.
use Rattle.std.specs.Prelude.{ℕ, ◌+◌, ◌*◌, cond, not, ◌||◌, List, [], ◌∷◌, ◌++◌, map, length, take, drop, Option, Result, ◌==◌, nat_le, nat_lt}
use Rattle.std.specs.List.{range_with_len, flat_map}
use Rattle.network.specs.declared.arc.Arc.{Arc}
use Rattle.network.specs.Checks.{Check, Told, refusal, refusal_at, first_failed, answered}
use Rattle.network.specs.Net.{Net, arc_count}
use Rattle.sheet.specs.declared.refusals.ReadRefusal.{ReadRefusal}
use Rattle.sheet.specs.declared.refusals.ReadRefusal.TheVariants.{NoHead, SitesOutside, TooManyArcs, WrongByteCount, NoSuchSite, SameSite}
use Rattle.sheet.specs.declared.refusals.WriteRefusal.{WriteRefusal}
use Rattle.sheet.specs.declared.refusals.WriteRefusal.TheVariants.{BufferTooShort}
use Rattle.sheet.specs.Bits.{bits, bytes_of, field}

-- Writing

abbrev pub arc_bits : Arc → List ℕ
arc_bits a =
    bits 6 a.from ++ (bits 6 a.to ++ (bits 12 a.weight ++ (bits 12 a.delay
    ++ (bits 10 a.jitter ++ (bits 10 a.charge ++ bits 8 a.capacity)))))

abbrev pub sheet_bits : Net → List ℕ
sheet_bits net = bits 7 net.sites ++ (bits 9 (arc_count net) ++ flat_map arc_bits net.arcs)

-- a sheet of so many arcs has so many bytes
abbrev pub sheet_size : ℕ → ℕ
sheet_size arcs = 2 + 8 * arcs

-- the sheet of so many arcs at the beginning of a row of bytes
abbrev pub kept_bytes : ℕ → List ℕ → List ℕ
kept_bytes arcs bytes = take (sheet_size arcs) bytes

-- the sheet of a network
abbrev pub sheet_of : Net → List ℕ
sheet_of net = bytes_of (sheet_size (arc_count net)) (sheet_bits net)

abbrev pub write_refusal : Net → List ℕ → Option Told
write_refusal net buffer = first_failed ((nat_lt (length buffer) (sheet_size (arc_count net)), refusal 7) ∷ [])

-- writing answers how many bytes the sheet has
abbrev pub write_answer : Net → List ℕ → Result ℕ Told
write_answer net buffer = answered (write_refusal net buffer) (sheet_size (arc_count net))

-- the buffer as the call leaves it: the sheet, and then what stood there; untouched where it is too short
abbrev pub buffer_after : Net → List ℕ → List ℕ
buffer_after net buffer =
    cond (nat_lt (length buffer) (sheet_size (arc_count net))) buffer
    (sheet_of net ++ drop (sheet_size (arc_count net)) buffer)

abbrev pub write_told : WriteRefusal → Told
write_told BufferTooShort = refusal 7

-- Reading

abbrev pub sites_in : List ℕ → ℕ
sites_in bytes = field bytes 0 7

abbrev pub arcs_in : List ℕ → ℕ
arcs_in bytes = field bytes 7 9

-- the bit positions of an arc's two sites
abbrev pub from_position : ℕ → ℕ
from_position i = 16 + 64 * i

abbrev pub to_position : ℕ → ℕ
to_position i = 22 + 64 * i

abbrev pub arc_in : List ℕ → ℕ → Arc
arc_in bytes i =
    record {
      from = field bytes (16 + 64 * i) 6;
      to = field bytes (22 + 64 * i) 6;
      weight = field bytes (28 + 64 * i) 12;
      delay = field bytes (40 + 64 * i) 12;
      jitter = field bytes (52 + 64 * i) 10;
      charge = field bytes (62 + 64 * i) 10;
      capacity = field bytes (72 + 64 * i) 8;
    }

-- the network that the bits say
abbrev pub net_in : List ℕ → Net
net_in bytes = record { sites = sites_in bytes; arcs = map (arc_in bytes) (range_with_len 0 (arcs_in bytes)) }

-- what is checked of one arc
abbrev pub arc_checks : List ℕ → ℕ → List Check
arc_checks bytes i =
    (nat_le (sites_in bytes) (arc_in bytes i).from, refusal_at 5 (from_position i))
    ∷ (nat_le (sites_in bytes) (arc_in bytes i).to, refusal_at 5 (to_position i))
    ∷ (((arc_in bytes i).to == (arc_in bytes i).from), refusal_at 6 (to_position i))
    ∷ []

-- what is checked of the whole: its length, the numbers in its head, and then arc by arc
abbrev pub read_checks : List ℕ → List Check
read_checks bytes =
    (nat_lt (length bytes) 2, refusal 1)
    ∷ (nat_lt (sites_in bytes) 2 || nat_lt 64 (sites_in bytes), refusal 2)
    ∷ (nat_lt 256 (arcs_in bytes), refusal 3)
    ∷ (not (length bytes == sheet_size (arcs_in bytes)), refusal 4)
    ∷ flat_map (arc_checks bytes) (range_with_len 0 (arcs_in bytes))

-- the network that the bytes mean, or why they mean none
abbrev pub read_answer : List ℕ → Result Net Told
read_answer bytes = answered (first_failed (read_checks bytes)) (net_in bytes)

abbrev pub read_told : ReadRefusal → Told
read_told NoHead = refusal 1
read_told SitesOutside = refusal 2
read_told TooManyArcs = refusal 3
read_told WrongByteCount = refusal 4
read_told (NoSuchSite at) = refusal_at 5 at
read_told (SameSite at) = refusal_at 6 at

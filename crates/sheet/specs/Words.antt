-- An arc as one number of 64 bits, its seven fields one after another.
use Rattle.std.specs.Prelude.{ℕ, ◌/◌, ◌%◌, ◌^◌}
use Rattle.network.specs.declared.arc.Arc.{Arc}
use Rattle.sheet.specs.Bits.{number}
use Rattle.sheet.specs.Layout.{arc_bits}

-- the number that an arc's bits stand for
unfoldable pub arc_word : Arc → ℕ
arc_word a = number (arc_bits a)

-- the field of a width that stands so many bits above the lowest of a number
abbrev pub word_field : ℕ → ℕ → ℕ → ℕ
word_field word shift width = word / 2 ^ shift % 2 ^ width

-- the arc whose bits a number has
abbrev pub arc_in_word : ℕ → Arc
arc_in_word word =
    record {
      from = word_field word 58 6;
      to = word_field word 52 6;
      weight = word_field word 40 12;
      delay = word_field word 28 12;
      jitter = word_field word 18 10;
      charge = word_field word 8 10;
      capacity = word_field word 0 8;
    }

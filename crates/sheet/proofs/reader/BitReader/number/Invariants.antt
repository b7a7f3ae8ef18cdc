-- After some turns the value is the number in as many bits.
use Rattle.std.proofs.Common.{◌≡◌, ◌+◌}
use Rattle.sheet.specs.Bits.{field}
use Rattle.sheet.proofs.reader.BitReader.number.Given as goal

abbrev pub invariant-loop-i : goal.invariant-loop-i
invariant-loop-i l =
    (l.value ≡ field l.initial.self.bytes.now l.initial.self.position l._i)
    × (l.self.position ≡ l.initial.self.position + l._i)
    × (l.self.bytes ≡ l.initial.self.bytes)

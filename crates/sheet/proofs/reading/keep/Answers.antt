-- The bytes that passed the checks have the size that their head says, so the sheet keeps all of them.
use Rattle.std.proofs.Common.{arith}
use Rattle.sheet.specs.Sound.{sound, kept_whole, count_in}
use Rattle.sheet.proofs.reading.keep.Goals as goal

pub invariant_of-result : goal.invariant_of-result
invariant_of-result c =
    let e = kept_whole c.args.bytes.now c.copied.result c.args.head.arcs c.requires.passed c.requires.arcs c.copied.ensures in
    let few = (sound c.args.bytes.now c.requires.passed).few_arcs in
    let count = count_in c.args.bytes.now in
    record {
      few_arcs = omega arith;
      sound = cc;
      sites_read = cc;
      arcs_counted = cc;
    }

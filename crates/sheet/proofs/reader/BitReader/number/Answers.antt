-- One bit more doubles the value and adds the bit; a value of at most 32 bits fits.
use Rattle.std.proofs.Common.{◌+◌, arith}
use Rattle.sheet.specs.FieldsLemmas.{left_parts, field_more, field_below}
use Rattle.sheet.proofs.reader.BitReader.number.Goals as goal

pub overflow_mul-value : goal.overflow_mul-value
overflow_mul-value c = grind (arith, left_parts, field_below)

pub overflow_add-value : goal.overflow_add-value
overflow_add-value c =
    let left = left_parts c.args.self.now.bytes.now c.args.self.now.position c.args.width c.requires in
    let fits = field_below c.args.self.now.bytes.now c.args.self.now.position (c.loop-i._i + 1) 32 (omega arith) in
    grind (arith, field_more)

pub loop-i-preserved : goal.loop-i-preserved
loop-i-preserved c = grind (arith, left_parts, field_more)

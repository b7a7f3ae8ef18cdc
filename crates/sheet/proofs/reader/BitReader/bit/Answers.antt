-- The bit that is shifted out of its byte is the bit at the position.
use Rattle.std.proofs.Common.{sym, ◌∙◌}
use lib.Bits.{and_mask}
use Rattle.sheet.specs.Bytes.{get_or_bits_of}
use Rattle.sheet.proofs.reader.BitReader.bit.Goals as goal

pub returns-clause-value : goal.returns-clause-value
returns-clause-value c =
    c.from.ensures ∙ (and_mask _ 1 ∙ sym (get_or_bits_of c.args.self.now.bytes.now c.args.self.now.position c.requires.there))

-- The eight bytes of a number are those that its bits fill.
use Rattle.std.proofs.Common.{◌∙◌}
use Rattle.sheet.proofs.Numbers.{word_bytes_are}
use Rattle.sheet.proofs.words.ArcWord.to_be_bytes.Goals as goal

pub returns : goal.returns
returns c = c.to_be_bytes.ensures ∙ word_bytes_are c.args.self.0

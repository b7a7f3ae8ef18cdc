-- Eight bytes as one number stand for their bits.
use Rattle.std.proofs.Common.{◌<◌, ◌∙◌}
use Rattle.std.proofs.ByRecursion.{All-from_get_or}
use Rattle.sheet.proofs.Numbers.{eight_bytes_are}
use Rattle.sheet.proofs.words.ArcWord.from_be_bytes.Goals as goal

pub returns : goal.returns
returns c =
    c.from_be_bytes.ensures
    ∙ eight_bytes_are c.args.bytes.now (All-from_get_or (λ b. b < 256) c.args.bytes.now 0 (λ i _. c.fits-bytes i)) c.told-bytes

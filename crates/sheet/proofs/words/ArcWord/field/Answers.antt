-- A shift and a mask leave the remainder of a quotient.
use Rattle.std.proofs.Common.{◌-◌, ◌/◌, ◌^◌, ap, ◌∙◌, arith}
use lib.Bits.{bit_and, and_mask}
use Rattle.std.proofs.lemmas.Nat.{one_shl}
use Rattle.sheet.proofs.words.ArcWord.field.Goals as goal

pub returns-clause-value : goal.returns-clause-value
returns-clause-value c =
    let word = c.args.self.0 / 2 ^ c.args.shift in
    ap (λ m. bit_and word (m - 1)) (one_shl c.args.width 64 (omega arith)) ∙ and_mask word c.args.width

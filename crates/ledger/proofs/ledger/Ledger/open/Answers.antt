-- The rows of a new ledger stand for nothing.
use Rattle.std.proofs.Common.{refl, rules}
use Rattle.ledger.proofs.Blank.{fits_blank, one_row_blank, opened_blank, sold_blank}
use Rattle.ledger.proofs.ledger.Ledger.open.Goals as goal

pub invariant_of-result : goal.invariant_of-result
invariant_of-result g c = record { one_row_each = one_row_blank 64; rows_fit = fits_blank 64; sold_is = sold_blank 64 256 c.default.result (search rules) }

pub returns : goal.returns
returns g c = record { tally = opened_blank 64 256 c.default.result (search rules); network = refl }

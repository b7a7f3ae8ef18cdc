-- What is left in hand is held.
use Rattle.std.proofs.Common.{vec_len}
use Rattle.ledger.specs.Ledgers.{ledger_tally}
use Rattle.orders.specs.InHand.{AllHeld, in_hand}
use Rattle.orders.proofs.pocket.Pocket.let_all_go.Given as goal

abbrev pub invariant-loop-slip : goal.invariant-loop-slip
invariant-loop-slip g l = AllHeld (ledger_tally l.ledger) (in_hand l.self)

abbrev pub decreases-loop-slip : goal.decreases-loop-slip
decreases-loop-slip g l = vec_len l.self.slips

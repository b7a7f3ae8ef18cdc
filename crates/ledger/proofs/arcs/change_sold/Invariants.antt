-- The arcs passed are changed.
use Rattle.std.proofs.Common.{take}
use Rattle.ledger.proofs.Selling.{Changed}
use Rattle.ledger.proofs.arcs.change_sold.Given as goal

abbrev pub invariant-loop-number : goal.invariant-loop-number
invariant-loop-number g l = Changed (goal.F-post g l.change) (take l.number-index l.route) l.initial.arcs l.arcs

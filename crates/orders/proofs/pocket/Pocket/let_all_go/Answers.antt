-- A slip in hand is that of a held row, so it is let go.
use Rattle.std.proofs.Common.{is_ok, vec_items, ap, ◌∙◌}
use borrow.Author.Tests.{clash}
use Rattle.network.specs.Checks.{answered}
use Rattle.ledger.specs.Ledgers.{ledger_tally}
use Rattle.orders.proofs.Holding.{last_held, others_held}
use Rattle.orders.proofs.pocket.Pocket.let_all_go.Goals as goal

pub loop-slip-preserved : goal.loop-slip-preserved
loop-slip-preserved g c =
    let left = vec_items c.pop.new.self in
    rw c.let_go.ensures.tally (others_held (ledger_tally c.loop-slip.ledger) (vec_items c.loop-slip.self.slips) left c.in-Some.slip c.in-Some.ensures.items c.loop-slip.invariant)

pub unreachable-requires : goal.unreachable-requires
unreachable-requires g c =
    let held = last_held (ledger_tally c.loop-slip.ledger) (vec_items c.loop-slip.self.slips) (vec_items c.pop.new.self) c.in-Some.slip c.in-Some.ensures.items c.loop-slip.invariant in
    clash (ap is_ok (c.in-Err.ensures.answer ∙ ap (λ o. answered o tt) held))

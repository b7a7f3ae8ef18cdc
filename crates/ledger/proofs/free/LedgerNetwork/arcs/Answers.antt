-- A ledger shows as many arcs as the network below has.
use Rattle.std.proofs.Common.{rules}
use Rattle.ledger.specs.Shown.{shown_count}
use Rattle.ledger.proofs.free.LedgerNetwork.arcs.Goals as goal

pub returns : goal.returns
returns g c = search (rules, shown_count)

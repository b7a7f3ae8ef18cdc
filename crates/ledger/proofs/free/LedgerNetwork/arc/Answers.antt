-- What is sold on an arc is what the entries take on it, so what is left is free.
use Rattle.std.proofs.Common.{sym, ◌∙◌}
use Rattle.network.specs.Net.{no_arc}
use Rattle.network.specs.ListsLemmas.{nth_none, nth_some}
use Rattle.ledger.specs.Ledgers.{ledger_tally}
use Rattle.ledger.specs.Tally.{free_on}
use Rattle.ledger.specs.Shown.{arc_below, shown_none, shown_some}
use Rattle.ledger.proofs.Standing.{sum_entries}
use Rattle.ledger.proofs.free.LedgerNetwork.arc.Goals as goal

pub returns-in_err-arc : goal.returns-in_err-arc
returns-in_err-arc g c =
    let l = c.args.self.now in
    let net = g.N.Network.meaning l.network in
    c.from_residual.ensures ∙ sym (shown_none net (free_on net (ledger_tally l)) c.args.number (nth_none net.arcs c.args.number c.in_err-arc.ensures))

pub bounds-self-number : goal.bounds-self-number
bounds-self-number g c =
    let network = c.args.self.now.network in
    arc_below (g.N.Network.meaning network) (g.met.N.Network.formed network) c.args.number c.in_ok-arc.arc c.in_ok-arc.ensures

pub returns : goal.returns
returns g c =
    let l = c.args.self.now in
    let net = g.N.Network.meaning l.network in
    let t = ledger_tally l in
    let i = c.args.number in
    let found = nth_some net.arcs i c.in_ok-arc.arc no_arc c.in_ok-arc.ensures in
    let taken = l.sold_is i (arc_below net (g.met.N.Network.formed l.network) i c.in_ok-arc.arc c.in_ok-arc.ensures) ∙ sym (sum_entries i l.rows) in
    let shown = shown_some net (free_on net t) i found.0 in
    cc

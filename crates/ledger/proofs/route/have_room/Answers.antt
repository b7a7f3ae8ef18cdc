-- What is asked of each arc in turn.
use Rattle.std.proofs.Common.{rules, ap, not, ltb}
use Rattle.std.proofs.lemmas.Iterator.{YieldsList-from_slice}
use Rattle.std.proofs.lemmas.Iterator.Search.{any_from_yields_List}
use borrow.Author.Tests.{tests}
use Rattle.network.specs.Net.{arc_at}
use Rattle.ledger.proofs.route.have_room.Goals as goal

pub returns : goal.returns
returns g c =
    let net = g.N.Network.meaning c.args.network.now in
    ap not (any_from_yields_List (λ i. ltb (arc_at net i).capacity c.args.width) _ _ c.any.result c.any.ensures.ran (YieldsList-from_slice c.args.arcs.now c.iter.ensures.rest) (λ x b q k. search (rules, tests)))

-- The sites met so far are apart, and those are marked.
use Rattle.std.proofs.Common.{◌≡◌, true, length}
use Rattle.network.specs.Lists.{distinct}
use Rattle.ledger.proofs.Sites.{Marks, met}
use Rattle.ledger.proofs.route.sites_apart.Given as goal

abbrev pub invariant-loop-number : goal.invariant-loop-number
invariant-loop-number g l =
    let sites = met (g.N.Network.meaning l.network) l.arcs l.number-index in
    record { places : length l.met ≡ 64; apart : distinct sites ≡ true; marked : Marks l.met sites }

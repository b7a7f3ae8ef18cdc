-- The rounds over the arcs as listed leave the least totals.
use Rattle.std.proofs.Common.{◌≡◌, ◌<◌, ◌≤◌, length, take, sym, ◌∙◌, arith, rules}
use Rattle.std.proofs.lemmas.List.{take_at}
use Rattle.length.specs.Least.{table_after}
use Rattle.length.proofs.Rounds.{rounds_fill, rounds_least}
use Rattle.length.proofs.totals.least_totals.Goals as goal

pub returns : goal.returns
returns g c =
    let net = g.N.Network.meaning c.args.network.now in
    let m = g.K.Kind.model c.args.kind.now in
    let law = g.met.K.Kind.lawful c.args.kind.now in
    let formed = g.met.N.Network.formed c.args.network.now in
    let table = c.args.table.now in
    let count = c.list_arcs-count.result in
    let same_sites : c.from-sites.result ≡ net.sites = c.from-sites.ensures ∙ c.sites.ensures in
    let site : c.args.destination < net.sites = omega arith in
    let room : net.sites ≤ length table = omega arith in
    let listed : take count c.list_arcs-count.new.table ≡ net.arcs = rw c.list_arcs-count.ensures.table (take_at net.arcs _ count (sym c.list_arcs-count.ensures.count)) in
    let filled : c.fill_table.new.table ≡ table_after m net c.args.width c.args.destination table =
    rw (same_sites, listed) at c.fill_table.ensures ∙ rounds_fill m law net formed c.args.width c.args.destination site table room in
    record { answer = search rules; table = search rules; least = λ _. rw filled (rounds_least m law net formed c.args.width c.args.destination site table room) }

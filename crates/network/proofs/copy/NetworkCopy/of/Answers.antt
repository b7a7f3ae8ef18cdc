-- A copy has the sites and arcs of its network.
use Rattle.std.proofs.Common.{◌≡◌, true, length, take, sym, refl, ap, ◌∙◌, arith}
use Rattle.network.specs.Limits.{net_fits}
use Rattle.network.proofs.Copied.{listed, same_fits}
use Rattle.network.proofs.copy.NetworkCopy.of.Goals as goal

pub invariant_of-result : goal.invariant_of-result
invariant_of-result g c =
    let net = g.N.Network.meaning c.args.network.now in
    let wf = g.met.N.Network.formed c.args.network.now in
    let count = c.list_arcs-count.result in
    let table = c.list_arcs-count.new.table in
    let arcs = listed net table _ count c.list_arcs-count.ensures.count c.list_arcs-count.ensures.table in
    record {
      few_arcs = omega (arith, wf.few_arcs, c.list_arcs-count.ensures.count);
      counted = ap length arcs ∙ sym c.list_arcs-count.ensures.count;
      limits = let base : net_fits (record { sites = net.sites; arcs = take count table }) ≡ true = same_fits net net.sites (take count table) wf refl arcs in cc;
    }

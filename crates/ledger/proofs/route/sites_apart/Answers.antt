-- A site that is marked was met before; after the last arc all were apart.
use Rattle.std.proofs.Common.{◌<◌, true, false, length, replicate, sym, refl, ap, ◌∙◌, arith}
use Rattle.std.proofs.lemmas.List.{length-set}
use Rattle.network.specs.declared.arc.Arc.{Arc}
use Rattle.ledger.proofs.Sites.{marks_start, met_next, met_twice}
use Rattle.ledger.proofs.route.sites_apart.Goals as goal

pub loop-number-init : goal.loop-number-init
loop-number-init g c =
    let net = g.N.Network.meaning c.args.network.now in
    record { places = length-set (replicate 64 false) c.from.result true; apart = refl; marked = marks_start net c.args.arcs.now 64 c.from.result (omega arith) (c.from.ensures ∙ ap (λ (a : Arc). a.from) c.arc_at.ensures.is) }

pub returns-then-met-site : goal.returns-then-met-site
returns-then-met-site g c =
    let net = g.N.Network.meaning c.args.network.now in
    let site = c.from-site.ensures ∙ ap (λ (a : Arc). a.to) c.arc_at-in-loop-number.ensures.is in
    sym (met_twice net c.args.arcs.now c.loop-number.number-index c.from-site.result c.loop-number.met c.loop-number-test.true site c.loop-number.invariant.marked c.if-met-site.true)

pub loop-number-preserved : goal.loop-number-preserved
loop-number-preserved g c =
    let net = g.N.Network.meaning c.args.network.now in
    let inv = c.loop-number.invariant in
    let site = c.from-site.ensures ∙ ap (λ (a : Arc). a.to) c.arc_at-in-loop-number.ensures.is in
    let room : c.from-site.result < length c.loop-number.met = omega arith in
    let next = met_next net c.args.arcs.now c.loop-number.number-index c.from-site.result c.loop-number.met c.loop-number-test.true site room inv.apart inv.marked c.if-met-site.false in
    record { places = length-set c.loop-number.met c.from-site.result _ ∙ inv.places; apart = next.0; marked = next.1 }

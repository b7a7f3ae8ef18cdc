-- The site is met where some arc of the line leads to it.
use Rattle.std.proofs.Common.{◌∙◌, rules, tests}
use Rattle.std.proofs.lemmas.Iterator.{YieldsList-from_slice}
use Rattle.std.proofs.lemmas.Iterator.Search.{any_from_yields_List}
use Rattle.network.specs.Copies.{copy_meaning}
use Rattle.routes.proofs.Meets.{leads, met_later}
use Rattle.routes.proofs.extending.Search.meets.Goals as goal

pub returns-else-from-self : goal.returns-else-from-self
returns-else-from-self g c =
    let net = copy_meaning c.args.self.now.network.now in
    let arcs = c.args.line.now.arcs in
    met_later net c.args.self.now.enquiry.now.source c.args.site arcs c.any.result c.requires (λ e. c.if-from-self.false (c.from.ensures ∙ e))
    (any_from_yields_List (leads net c.args.site) _ _ c.any.result c.any.ensures.ran (YieldsList-from_slice arcs (search rules)) (λ x b q k. search (rules, tests)))

-- The capacity that the ledger shows is what is free, so the last check is that of the route.
use Rattle.std.proofs.Common.{◌≡◌, true, false, ltb, sym, ap, ◌∙◌, rules}
use Rattle.std.proofs.lemmas.Bool.{ne_eqb, not-false, not-true}
use Rattle.network.specs.Lists.{any_of}
use Rattle.network.specs.Net.{arc_at}
use Rattle.length.proofs.Walks.{inside_of}
use Rattle.ledger.specs.Ledgers.{ledger_tally}
use Rattle.ledger.specs.Tally.{free_net}
use Rattle.ledger.proofs.Holds.{numbers_are, route_last, route_no_arc, shown_room}
use Rattle.ledger.proofs.ledger.Ledger.check_route.Goals as goal

pub returns-in_err-numbers : goal.returns-in_err-numbers
returns-in_err-numbers g c =
    let l = c.args.self.now in
    let net = g.N.Network.meaning l.network in
    let arcs = c.args.arcs.now in
    let none = sym c.in_err-numbers.ensures.ok_part ∙ c.of.ensures in
    let refused =
    route_no_arc net (ledger_tally l) c.args.width arcs (g.met.N.Network.formed l.network) (ne_eqb c.args.width 0 c.if-width-eq0.false) (inside_of arcs (search rules) c.if-arcs-gt15.false) c.if-arcs-gt15.false none in
    search rules

pub returns-then-not-have_room : goal.returns-then-not-have_room
returns-then-not-have_room g c =
    let l = c.args.self.now in
    let net = g.N.Network.meaning l.network in
    let t = ledger_tally l in
    let width = c.args.width in
    let arcs = c.args.arcs.now in
    let same : c.in_ok-width.width ≡ width = search rules in
    let room = sym (shown_room net t width arcs) ∙ (ap (λ w. any_of (λ i. ltb (arc_at (free_net net t) i).capacity w) arcs) (sym same) ∙ not-false (any_of (λ i. ltb (arc_at (free_net net t) i).capacity c.in_ok-width.width) arcs) (sym c.if-not-have_room.ensures)) in
    let refused = route_last net t width arcs true (ne_eqb width 0 c.if-width-eq0.false) (inside_of arcs (search rules) c.if-arcs-gt15.false) (sym c.if-not-all_exist.ensures) (sym c.if-not-are_joined.ensures) (sym c.if-not-sites_apart.ensures) room in
    search rules

pub returns : goal.returns
returns g c =
    let l = c.args.self.now in
    let net = g.N.Network.meaning l.network in
    let t = ledger_tally l in
    let width = c.args.width in
    let arcs = c.args.arcs.now in
    let same : c.in_ok-width.width ≡ width = search rules in
    let numbers : c.in_ok-numbers.numbers ≡ arcs = numbers_are arcs _ c.in_ok-numbers.numbers (sym c.in_ok-numbers.ensures.ok_part ∙ c.of.ensures) in
    let room = sym (shown_room net t width arcs) ∙ (ap (λ w. any_of (λ i. ltb (arc_at (free_net net t) i).capacity w) arcs) (sym same) ∙ not-true (any_of (λ i. ltb (arc_at (free_net net t) i).capacity c.in_ok-width.width) arcs) (sym c.if-not-have_room.ensures)) in
    let granted = route_last net t width arcs false (ne_eqb width 0 c.if-width-eq0.false) (inside_of arcs (search rules) c.if-arcs-gt15.false) (sym c.if-not-all_exist.ensures) (sym c.if-not-are_joined.ensures) (sym c.if-not-sites_apart.ensures) room in
    search rules

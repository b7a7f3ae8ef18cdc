-- Each turn changes what is sold on one arc more, which was as at first.
use Rattle.std.proofs.Common.{◌<◌, length, refl, subst, arith, of_calls, rules}
use Rattle.ledger.proofs.Selling.{among_at, changed_more, changed_not_yet}
use Rattle.ledger.proofs.arcs.change_sold.Goals as goal

pub change-requires : goal.change-requires
change-requires g c =
    let l = c.loop-number in
    let below : c.from-place.result < 256 = search rules in
    let may = c.requires.may c.from-place.result below (among_at c.args.route.now l.number-index c.from-place.result c.from-place.ensures c.loop-number-test.true) in
    let as_it_was = changed_not_yet (goal.F-post g c.args.change) c.args.route.now c.args.arcs.now l.arcs l.number-index c.from-place.result l.invariant c.loop-number-test.true c.from-place.ensures c.requires.apart in
    rw as_it_was (search of_calls)

pub loop-number-preserved : goal.loop-number-preserved
loop-number-preserved g c =
    let l = c.loop-number in
    let as_it_was = changed_not_yet (goal.F-post g c.args.change) c.args.route.now c.args.arcs.now l.arcs l.number-index c.from-place.result l.invariant c.loop-number-test.true c.from-place.ensures c.requires.apart in
    let below : c.from-place.result < 256 = search rules in
    let room : c.from-place.result < length l.arcs = omega (arith, l.invariant.long, c.told-arcs) in
    changed_more (goal.F-post g c.args.change) c.args.route.now c.args.arcs.now l.arcs l.number-index c.from-place.result l.invariant c.loop-number-test.true c.from-place.ensures c.requires.apart _ room refl
    (subst (λ u. goal.F-post g c.args.change u.sold c.change.result) as_it_was c.change.ensures)

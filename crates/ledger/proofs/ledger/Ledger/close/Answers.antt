-- An arc is in use where something is sold on it.
use Rattle.std.proofs.Common.{◌<◌, refl, ◌∙◌, arith, rules}
use Rattle.std.proofs.lemmas.Bool.{le-ltb, lt-ltb}
use Rattle.ledger.proofs.Marks.{in_use_sold}
use Rattle.ledger.proofs.Selling.{use_at}
use Rattle.ledger.proofs.ledger.Ledger.close.Goals as goal

pub returns-then-self-place-gt0 : goal.returns-then-self-place-gt0
returns-then-self-place-gt0 g c =
    let l = c.args.self.now in
    let arc = c.args.arc in
    let few : arc < 256 = omega (arith, c.arcs.ensures, c.from.ensures, (g.met.N.Network.formed l.network).few_arcs) in
    let used = in_use_sold l.given arc (use_at l.arcs arc).sold l.rows l.rows_fit (l.sold_is arc few) ∙ lt-ltb 0 (use_at l.arcs arc).sold c.if-self-place-gt0.true in
    record { answer = search rules; tally = search rules; network = refl }

pub returns : goal.returns
returns g c =
    let l = c.args.self.now in
    let arc = c.args.arc in
    let few : arc < 256 = omega (arith, c.arcs.ensures, c.from.ensures, (g.met.N.Network.formed l.network).few_arcs) in
    let unused = in_use_sold l.given arc (use_at l.arcs arc).sold l.rows l.rows_fit (l.sold_is arc few) ∙ le-ltb 0 (use_at l.arcs arc).sold c.if-self-place-gt0.false in
    record { answer = search rules; tally = search rules; network = refl }

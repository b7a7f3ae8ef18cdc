-- Each turn enters one arc more, and the last enters the last.
use Rattle.std.proofs.Common.{◌<◌, ◌≤◌, ℕ, length, take, refl, sym, ◌∙◌, arith, length-take-le}
use Rattle.network.specs.Net.{Net, no_arc}
use Rattle.network.specs.ListsLemmas.{enter_at, nth_none, nth_some}
use Rattle.network.proofs.listing.list_arcs.Goals as goal
use Rattle.network.proofs.listing.list_arcs.Goals.{in-Some, in_default}

pub loop-number-preserved : goal.loop-number-preserved
loop-number-preserved g c =
    let net : Net = g.N.Network.meaning c.args.network.now in
    let i : ℕ = c.loop-number.number in
    let few = (g.met.N.Network.formed c.args.network.now).few_arcs in
    let size = length-take-le c.from-count.result c.args.table.now (omega (arith, few, c.told-table, c.arcs.ensures, c.from-count.ensures)) in
    let room = c.loop-number-test.true in
    let there : i < length net.arcs = omega (arith, size, c.arcs.ensures, c.from-count.ensures) in
    elim c.match-arc.branch [
      | in-Some w ↦
          let found = nth_some net.arcs i w.in-Some.arc no_arc (sym w.in-Some.is ∙ c.arc.ensures) in
          w.place-items-is ∙ enter_at net.arcs (take c.from-count.result c.args.table.now) c.loop-number.place-items i i w.in-Some.arc no_arc c.loop-number.invariant refl there room found.1
      | in_default w ↦ let past : length net.arcs ≤ i = nth_none net.arcs i (sym w.in_default.is ∙ c.arc.ensures) in absurd (omega (arith, past, there))
    ]

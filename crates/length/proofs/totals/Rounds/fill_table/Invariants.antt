-- The rounds that are left make of the table what all rounds make of the first table.
use Rattle.std.proofs.Common.{◌≡◌, ◌-◌}
use Rattle.length.specs.Rounds.{first_table, rounds}
use Rattle.length.proofs.totals.Rounds.fill_table.Given as goal

abbrev pub invariant-loop-round : goal.invariant-loop-round
invariant-loop-round g l =
    let m = g.K.Kind.model l.self.kind.now in
    rounds m l.self.width l.self.arcs.now (l.self.sites - l._round) l.table
    ≡ rounds m l.self.width l.self.arcs.now l.self.sites (first_table m l.self.sites l.destination l.fn.table)

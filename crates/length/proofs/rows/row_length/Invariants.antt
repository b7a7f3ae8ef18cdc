-- The arcs passed are there, and their length is the total so far.
use Rattle.std.proofs.Common.{◌≡◌, T, take}
use Rattle.length.specs.Walks.{walk_length}
use Rattle.length.proofs.Walks.{there}
use Rattle.length.proofs.rows.row_length.Given as goal

abbrev pub invariant-loop-number : goal.invariant-loop-number
invariant-loop-number g l =
    let net = g.N.Network.meaning l.network in
    let passed = take l.number-index l.arcs in
    record { there : T (there net passed); length : l.total ≡ walk_length (g.K.Kind.model l.kind) net passed }

-- The first arcs are entered, and the other places are as they were.
use Rattle.std.proofs.Common.{◌≡◌, ◌++◌, take, drop}
use Rattle.network.proofs.listing.list_arcs.Given as goal

abbrev pub invariant-loop-number : goal.invariant-loop-number
invariant-loop-number g l =
    l.place-items ≡ take l.number (g.N.Network.meaning l.network).arcs ++ drop l.number l.initial.place-items

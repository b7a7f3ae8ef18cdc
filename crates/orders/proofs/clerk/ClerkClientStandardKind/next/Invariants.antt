-- Until a request is made, the same slips are in hand.
use Rattle.std.proofs.Common.{◌≡◌}
use Rattle.orders.specs.InHand.{in_hand}
use Rattle.orders.proofs.clerk.ClerkClientStandardKind.next.Given as goal

abbrev pub invariant-loop-order : goal.invariant-loop-order
invariant-loop-order g l = in_hand l.self.pocket ≡ in_hand l.initial.self.pocket

-- A ring of n sites has 2n arcs.
use Rattle.std.proofs.Common.{arith}
use Rattle.network.specs.Rings.{ring_length}
use Rattle.network.proofs.ring.RingPlanNetwork.arcs.Goals as goal

pub returns : goal.returns
returns c = omega (arith, ring_length c.args.self.now.sites c.args.self.now.figures)

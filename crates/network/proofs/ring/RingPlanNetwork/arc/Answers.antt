-- The arc of a number is that of its site, forward where the number is even and back where it is odd.
use Rattle.std.proofs.Common.{sym, arith}
use Rattle.network.specs.Rings.{ring_forward, ring_back, ring_past}
use Rattle.network.proofs.ring.RingPlanNetwork.arc.Goals as goal

pub returns-then-number-from : goal.returns-then-number-from
returns-then-number-from c = sym (ring_past c.args.self.now.sites c.args.self.now.figures c.args.number (omega arith))

pub returns-then-number-eq0 : goal.returns-then-number-eq0
returns-then-number-eq0 c =
    let e = ring_forward c.args.self.now.sites c.args.self.now.figures c.args.number (omega arith) c.if-number-eq0.true in cc

pub returns-else-number-eq0 : goal.returns-else-number-eq0
returns-else-number-eq0 c =
    let e = ring_back c.args.self.now.sites c.args.self.now.figures c.args.number (omega arith) c.if-number-eq0.false in cc

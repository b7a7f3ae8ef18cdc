-- What a value of the type RingPlan means.
use Rattle.network.specs.declared.plan.RingPlan.{RingPlan}
use Rattle.network.specs.Net.{Net}
use Rattle.network.specs.Ring.{ring_net}

abbrev pub ring_meaning : RingPlan → Net
ring_meaning plan = ring_net plan.sites plan.figures

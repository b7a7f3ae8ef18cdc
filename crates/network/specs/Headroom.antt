-- Headroom over a network: the same arcs, each capacity less h, or 0 where h is greater.
use Rattle.std.specs.Prelude.{ℕ, ◌-◌, map}
use Rattle.network.specs.declared.arc.Arc.{Arc}
use Rattle.network.specs.declared.headroom.Headroom.{Headroom}
use Rattle.network.specs.Net.{Net, with_capacity}

-- an arc with h taken off its capacity; the subtraction stops at 0
abbrev pub less : ℕ → Arc → Arc
less h a = with_capacity (a.capacity - h) a

abbrev pub with_headroom : ℕ → Net → Net
with_headroom h net = record { sites = net.sites; arcs = map (less h) net.arcs }

-- what headroom over networks of a meaning means
abbrev pub headroom_meaning : {N : Type 0} → (N → Net) → Headroom N → Net
headroom_meaning meaning h = with_headroom h.reserve (meaning h.network)

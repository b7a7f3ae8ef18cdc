-- The limits on arcs and networks as tests, for the facts that a type keeps.
use Rattle.std.specs.Prelude.{ℕ, Bool, not, ◌&&◌, ◌==◌, nat_le, nat_lt}
use Rattle.network.specs.declared.arc.Arc.{Arc}
use Rattle.network.specs.Lists.{all_of}
use Rattle.network.specs.Net.{Net, arc_count}

-- one arc of a network of so many sites keeps its limits
abbrev pub arc_fits : ℕ → Arc → Bool
arc_fits sites arc =
    nat_lt arc.from sites && (nat_lt arc.to sites && (not (arc.from == arc.to) && (nat_le arc.weight 4095
    && (nat_le arc.delay 4095 && (nat_le arc.jitter 1023 && (nat_le arc.charge 1023 && nat_le arc.capacity 255))))))

-- a whole network keeps its limits
abbrev pub net_fits : Net → Bool
net_fits net =
    nat_le 2 net.sites && (nat_le net.sites 64 && (nat_le (arc_count net) 256 && all_of (arc_fits net.sites) net.arcs))

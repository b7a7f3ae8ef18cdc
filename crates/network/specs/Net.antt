-- What a network means: how many sites it has, and its arcs in the order of their numbers.
use Rattle.std.specs.Prelude.{◌≡◌, ℕ, ◌<◌, ◌≤◌, List, length, Option, slice_index_or}
use Rattle.std.specs.List.{AllByRecursion, slice_get}
use Rattle.network.specs.declared.arc.Arc.{Arc}

-- the whole meaning of a network: sites and arcs are numbered from 0
pub record Net : Type 0 where
  pub sites : ℕ
  pub arcs : List Arc

-- how many arcs there are
abbrev pub arc_count : Net → ℕ
arc_count net = length net.arcs

-- the arc of a number, or none at or above the number of arcs
abbrev pub arc_of : Net → ℕ → Option Arc
arc_of net i = slice_get net.arcs i

-- an arc of figures 0, for where there is none
abbrev pub no_arc : Arc
no_arc = record { from = 0; to = 0; weight = 0; delay = 0; jitter = 0; charge = 0; capacity = 0 }

-- the arc of a number that has one
abbrev pub arc_at : Net → ℕ → Arc
arc_at net i = slice_index_or net.arcs i no_arc

-- an arc with another capacity
abbrev pub with_capacity : ℕ → Arc → Arc
with_capacity c a =
    record { from = a.from; to = a.to; weight = a.weight; delay = a.delay; jitter = a.jitter; charge = a.charge; capacity = c }

-- the limits on one arc of a network of so many sites
pub record ArcFits (sites : ℕ) (arc : Arc) : Type 0 where
  pub from_site : arc.from < sites
  pub to_site : arc.to < sites
  pub two_sites : arc.from ≡ arc.to → ⊥
  pub weight_fits : arc.weight ≤ 4095
  pub delay_fits : arc.delay ≤ 4095
  pub jitter_fits : arc.jitter ≤ 1023
  pub charge_fits : arc.charge ≤ 1023
  pub capacity_fits : arc.capacity ≤ 255

-- the limits on a whole network
pub record WellFormed (net : Net) : Type 0 where
  pub some_sites : 2 ≤ net.sites
  pub few_sites : net.sites ≤ 64
  pub few_arcs : arc_count net ≤ 256
  pub arcs_fit : AllByRecursion (ArcFits net.sites) net.arcs

-- Ring plans: arc 2i runs from site i to the next site, arc 2i + 1 runs back, and site 0 follows the last.
use Rattle.std.specs.Prelude.{ℕ, ◌+◌, ◌%◌, ◌≤◌, Bool, ◌||◌, List, [], ◌∷◌, Option, Result, nat_lt}
use Rattle.std.specs.List.{range_with_len, flat_map}
use Rattle.network.specs.declared.arc.Arc.{Arc}
use Rattle.network.specs.declared.figures.Figures.{Figures}
use Rattle.network.specs.declared.figures.RingRefusal.{RingRefusal}
use Rattle.network.specs.declared.figures.RingRefusal.TheVariants.{SitesOutside, FigureOverLimit}
use Rattle.network.specs.Checks.{Told, refusal, first_failed, answered}
use Rattle.network.specs.Net.{Net}

-- an arc between two sites with the plan's five figures
abbrev pub ring_arc : Figures → ℕ → ℕ → Arc
ring_arc f a b =
    record { from = a; to = b; weight = f.weight; delay = f.delay; jitter = f.jitter; charge = f.charge; capacity = f.capacity }

abbrev pub next_site : ℕ → ℕ → ℕ
next_site n i = (i + 1) % n

-- the two arcs between a site and the next
abbrev pub both_ways : ℕ → Figures → ℕ → List Arc
both_ways n f i = ring_arc f i (next_site n i) ∷ ring_arc f (next_site n i) i ∷ []

-- what a ring plan of n sites means
abbrev pub ring_net : ℕ → Figures → Net
ring_net n f = record { sites = n; arcs = flat_map (both_ways n f) (range_with_len 0 n) }

-- the limits on the five figures
abbrev pub FiguresFit : Figures → Type 0
FiguresFit f =
    (f.weight ≤ 4095) × (f.delay ≤ 4095) × (f.jitter ≤ 1023) × (f.charge ≤ 1023) × (f.capacity ≤ 255)

abbrev pub over_limit : Figures → Bool
over_limit f =
    nat_lt 4095 f.weight || nat_lt 4095 f.delay || nat_lt 1023 f.jitter || nat_lt 1023 f.charge || nat_lt 255 f.capacity

abbrev pub ring_refusal : ℕ → Figures → Option Told
ring_refusal n f =
    first_failed
    ((nat_lt n 3 || nat_lt 64 n, refusal 8)
    ∷ (over_limit f, refusal 9)
    ∷ [])

-- what a plan of so many sites and these figures means, or why there is none
abbrev pub ring_answer : ℕ → Figures → Result Net Told
ring_answer n f = answered (ring_refusal n f) (ring_net n f)

abbrev pub ring_told : RingRefusal → Told
ring_told SitesOutside = refusal 8
ring_told FigureOverLimit = refusal 9

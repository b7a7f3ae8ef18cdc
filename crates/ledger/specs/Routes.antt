-- Words on the checks of a route.
use Rattle.std.specs.Prelude.{ℕ, not, List, [], ◌∷◌, Option, ◌==◌, nat_lt}
use Rattle.network.specs.Checks.{Told, refusal, first_failed}
use Rattle.network.specs.Lists.{any_of, distinct}
use Rattle.network.specs.Net.{Net}
use Rattle.length.specs.Walks.{arcs_outside, no_such_arc}
use Rattle.ledger.specs.Tally.{Tally, free_on, is_joined, sites_met}

-- the checks of a hold that look at its route
abbrev pub route_refusal : Net → Tally → ℕ → List ℕ → Option Told
route_refusal net t width arcs =
    first_failed
    (((width == 0), refusal 30)
    ∷ (arcs_outside arcs, refusal 31)
    ∷ (no_such_arc net arcs, refusal 32)
    ∷ (not (is_joined net arcs), refusal 33)
    ∷ (not (distinct (sites_met net arcs)), refusal 34)
    ∷ (any_of (λ i. nat_lt (free_on net t i) width) arcs, refusal 35)
    ∷ [])

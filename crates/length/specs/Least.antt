-- Least totals: the least length of all walks from a site to the destination over usable arcs,
-- repeated sites allowed; the empty walk counts at the destination. None says "no way".
use Rattle.std.specs.Prelude.{◌≡◌, ℕ, zero, suc, ◌<◌, cond, ◌&&◌, T, List, [], ◌∷◌, ◌++◌, map, length, drop, Some, None, filter, Option, Result, ◌==◌, ◌≢◌, nat_le, nat_lt, slice_index_or}
use Rattle.std.specs.List.{range_with_len}
use Rattle.std.specs.Option.{option_map}
use Rattle.network.specs.Checks.{Told, refusal, first_failed, answered}
use Rattle.network.specs.Net.{Net, arc_count, arc_at}
use Rattle.length.specs.declared.refusals.LeastTotalsRefusal.{LeastTotalsRefusal}
use Rattle.length.specs.declared.refusals.LeastTotalsRefusal.TheVariants.{NoSuchSite, WidthZero, TableTooShort}
use Rattle.length.specs.Model.{Model}
use Rattle.length.specs.Walks.{usable, follow, arc_length, walk_length}

-- the usable arcs that begin at a site
abbrev pub arcs_from : Net → ℕ → ℕ → List ℕ
arcs_from net width site = filter (λ i. usable net width i && (arc_at net i).from == site) (range_with_len 0 (arc_count net))

module _ {L : Type 0} (m : Model L) where
  -- the shorter of two, where either may be missing
  abbrev pub shorter : Option L → Option L → Option L
  shorter None y = y
  shorter (Some x) None = Some x
  shorter (Some x) (Some y) = Some (cond (m.no_longer x y) x y)

  abbrev pub shortest : List (Option L) → Option L
  shortest [] = None
  shortest (x ∷ xs) = shorter x (shortest xs)

  module _ (net : Net) (width destination : ℕ) where
    -- the least length of the walks of at most so many arcs from a site to the destination:
    -- the empty walk, or a first arc and then a walk of one arc less
    abbrev pub least_within : ℕ → ℕ → Option L
    least_within zero site = cond (site == destination) (Some m.empty) None
    least_within (suc k) site =
        shorter (cond (site == destination) (Some m.empty) None)
        (shortest (map (λ i. option_map (m.join (arc_length m net i)) (least_within k (arc_at net i).to)) (arcs_from net width site)))

    -- a walk of more arcs than there are sites meets a site twice, and is no shorter without the loop
    abbrev pub least_total : ℕ → Option L
    least_total site = least_within net.sites site

    abbrev pub least_totals : List (Option L)
    least_totals = map least_total (range_with_len 0 net.sites)

    -- a table once it is filled: the least totals, and then what stood there
    abbrev pub table_after : List (Option L) → List (Option L)
    table_after table = least_totals ++ drop net.sites table

    -- a least total is least: some walk has it, and no walk is shorter; with none, there is no walk
    abbrev pub IsLeast : ℕ → Option L → Type 0
    IsLeast site None = (walk : List ℕ) → follow net width site walk ≢ Some destination
    IsLeast site (Some x) =
        ((walk : List ℕ) × (follow net width site walk ≡ Some destination) × (walk_length m net walk ≡ x))
        × ((walk : List ℕ) → follow net width site walk ≡ Some destination → T (m.no_longer x (walk_length m net walk)))

-- The call that fills a table

abbrev pub least_totals_told : LeastTotalsRefusal → Told
least_totals_told NoSuchSite = refusal 20
least_totals_told WidthZero = refusal 22
least_totals_told TableTooShort = refusal 26

abbrev pub least_totals_refusal : {L : Type 0} → Net → ℕ → ℕ → List (Option L) → Option Told
least_totals_refusal net destination width table =
    first_failed
    ((nat_le net.sites destination, refusal 20)
    ∷ ((width == 0), refusal 22)
    ∷ (nat_lt (length table) net.sites, refusal 26)
    ∷ [])

abbrev pub least_totals_answer : {L : Type 0} → Net → ℕ → ℕ → List (Option L) → Result (Unit {0}) Told
least_totals_answer net destination width table = answered (least_totals_refusal net destination width table) tt

-- the table that the caller brought, as the call leaves it
abbrev pub least_totals_table : {L : Type 0} → Model L → Net → ℕ → ℕ → List (Option L) → List (Option L)
least_totals_table m net destination width table =
    elim (least_totals_refusal net destination width table) [ None ↦ table_after m net width destination table | Some t ↦ table ]

-- the first places of a table are least totals
abbrev pub HoldsLeast : {L : Type 0} → Model L → Net → ℕ → ℕ → List (Option L) → Type 0
HoldsLeast m net destination width table =
    (site : ℕ) → site < net.sites → IsLeast m net width destination site (slice_index_or table site None)

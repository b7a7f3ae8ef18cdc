-- Partial routes, and how many lines of a notebook it takes to find the routes.
use Rattle.std.specs.Prelude.{ℕ, zero, suc, Bool, true, false, cond, not, ◌&&◌, List, [], ◌∷◌, ◌++◌, length, is_some, Some, None, filter, Option, ◌==◌, nat_le}
use Rattle.std.specs.Option.{option_map}
use Rattle.std.specs.List.{flat_map}
use Rattle.network.specs.Lists.{all_of, sort}
use Rattle.network.specs.Net.{Net, arc_at}
use Rattle.length.specs.Model.{Model}
use Rattle.length.specs.Standard.{standard}
use Rattle.length.specs.Walks.{walk_length}
use Rattle.length.specs.Least.{least_total}
use Rattle.routes.specs.declared.enquiry.Enquiry.{Enquiry}
use Rattle.routes.specs.Totals.{limits_of}
use Rattle.routes.specs.Routes.{end_of, is_path, is_complete, paths, extended, by_length}

abbrev pub at_most : Option ℕ → ℕ → Bool
at_most None limit = false
at_most (Some x) limit = nat_le x limit

-- "no longer than", where a length may be missing: a missing one comes last
abbrev pub no_longer : {L : Type 0} → Model L → Option L → Option L → Bool
no_longer m x None = true
no_longer m None (Some y) = false
no_longer m (Some x) (Some y) = m.no_longer x y

module _ {K : Type 0} (net : Net) (e : Enquiry K) where
  -- a partial route follows usable arcs from the source, meets no site twice and never leaves the destination
  abbrev pub is_partial : List ℕ → Bool
  is_partial arcs = is_path net e arcs && all_of (λ i. not ((arc_at net i).from == e.destination)) arcs

  -- the least total from a site to the destination, in a kind
  abbrev pub rest_from : {L : Type 0} → Model L → Option ℕ → Option L
  rest_from m None = None
  rest_from m (Some site) = least_total m net e.width e.destination site

  -- a row's total joined with the least total from its end: no route that begins with it comes to less
  abbrev pub projected : {L : Type 0} → Model L → List ℕ → Option L
  projected m arcs = option_map (m.join (walk_length m net arcs)) (rest_from m (end_of net e arcs))

module _ {K L : Type 0} (model : K → Model L) (net : Net) (e : Enquiry K) where
  abbrev pub projected_length : List ℕ → Option L
  projected_length arcs = projected net e (model e.kind) arcs

  -- admissible: the destination can be reached from its end, within each of the four limits
  abbrev pub is_admissible : List ℕ → Bool
  is_admissible arcs =
      is_some (projected_length arcs)
      && all_of (λ l. at_most (projected net e (standard l.0) arcs) l.1) (limits_of e.limits)

  -- the admissible ones among rows of arcs that are partial routes
  abbrev pub admissible_of : List (List ℕ) → List (List ℕ)
  admissible_of rows = filter is_admissible (filter (is_partial net e) rows)

  -- the order of partial routes; one that begins another comes first
  abbrev pub partial_order : List ℕ → List ℕ → Bool
  partial_order = by_length (no_longer (model e.kind)) projected_length

  -- all admissible partial routes, in order
  abbrev pub partial_routes : List (List ℕ)
  partial_routes = sort partial_order (admissible_of (paths net e))

  -- the first of them, up to the one that completes so many routes; all of them if fewer are complete
  abbrev pub taken_of : ℕ → List (List ℕ) → List (List ℕ)
  taken_of k [] = []
  taken_of zero (p ∷ ps) = []
  taken_of (suc k) (p ∷ ps) = p ∷ taken_of (cond (is_complete net e p) k (suc k)) ps

  abbrev pub taken : List (List ℕ)
  taken = taken_of e.wanted partial_routes

  -- the lines of the notebook once these were taken: the empty partial route, and for each that
  -- has not reached the destination the partial routes that are one arc longer; admissible ones only
  abbrev pub written : List (List ℕ) → List (List ℕ)
  written ps =
      admissible_of ([] ∷ []) ++ flat_map (λ p. admissible_of (extended net p)) (filter (λ p. not (is_complete net e p)) ps)

  abbrev pub line_count : ℕ
  line_count = length (written taken)

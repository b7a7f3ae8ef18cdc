-- Routes, their order, and the list that an enquiry asks for.
use Rattle.std.specs.Prelude.{ℕ, zero, suc, ◌-◌, Bool, true, false, not, ◌&&◌, ◌||◌, List, [], ◌∷◌, ◌++◌, map, length, take, drop, replicate, Some, None, filter, Option, ◌==◌, nat_le, nat_lt}
use Rattle.std.specs.List.{range_with_len, flat_map}
use Rattle.network.specs.Lists.{all_of, distinct, place_by_place, sort}
use Rattle.network.specs.Net.{Net, arc_count}
use Rattle.length.specs.declared.standard.StandardKind.TheVariants.{Delay, Jitter, Charge}
use Rattle.length.specs.Model.{Model}
use Rattle.length.specs.Walks.{follow, sites_along, walk_length}
use Rattle.routes.specs.declared.enquiry.Enquiry.{Enquiry}
use Rattle.routes.specs.declared.enquiry.RouteRow.{RouteRow}
use Rattle.routes.specs.Totals.{limits_of, total}

-- the site is there, and it is this one
abbrev pub at_site : ℕ → Option ℕ → Bool
at_site site None = false
at_site site (Some s) = s == site

abbrev pub some_site : Option ℕ → Bool
some_site None = false
some_site (Some s) = true

-- the rows of arcs that are one longer
abbrev pub extended : Net → List ℕ → List (List ℕ)
extended net arcs = map (λ i. arcs ++ (i ∷ [])) (range_with_len 0 (arc_count net))

-- r may stand before s: it is shorter, or as long and its arc numbers come first place by place
abbrev pub by_length : {X : Type 0} → (X → X → Bool) → (List ℕ → X) → List ℕ → List ℕ → Bool
by_length first len r s = first (len r) (len s) && (not (first (len s) (len r)) || place_by_place r s)

module _ {K : Type 0} (net : Net) (e : Enquiry K) where
  -- where a row of usable arcs leads from the source
  abbrev pub end_of : List ℕ → Option ℕ
  end_of arcs = follow net e.width e.source arcs

  -- a path: it follows usable arcs from the source, and meets no site twice
  abbrev pub is_path : List ℕ → Bool
  is_path arcs = some_site (end_of arcs) && distinct (sites_along net e.source arcs)

  -- it has reached the destination
  abbrev pub is_complete : List ℕ → Bool
  is_complete arcs = at_site e.destination (end_of arcs)

  -- all paths of so many arcs, and of at most so many
  abbrev pub paths_of : ℕ → List (List ℕ)
  paths_of zero = filter is_path ([] ∷ [])
  paths_of (suc k) = filter is_path (flat_map (extended net) (paths_of k))

  abbrev pub paths : List (List ℕ)
  paths = flat_map paths_of (range_with_len 0 (suc e.limits.hops))

  -- a route: one or more usable arcs from the source to the destination, with no site twice
  abbrev pub is_route : List ℕ → Bool
  is_route arcs = is_path arcs && is_complete arcs && nat_lt 0 (length arcs)

  -- each of its four totals is at most its limit
  abbrev pub is_within_limits : List ℕ → Bool
  is_within_limits arcs = all_of (λ l. nat_le (total net l.0 arcs) l.1) (limits_of e.limits)

  -- the feasible routes; they have no more arcs than the hop limit, so each is among these paths
  abbrev pub feasible_routes : List (List ℕ)
  feasible_routes = filter (λ r. is_route r && is_within_limits r) paths

module _ {K L : Type 0} (model : K → Model L) (net : Net) (e : Enquiry K) where
  -- the order of routes
  abbrev pub route_order : List ℕ → List ℕ → Bool
  route_order = by_length (model e.kind).no_longer (walk_length (model e.kind) net)

  -- the routes that the enquiry asks for: the first of all feasible ones, as many as are wanted
  abbrev pub route_list : List (List ℕ)
  route_list = take e.wanted (sort route_order (feasible_routes net e))

-- one row of the list: the number of arcs, the arcs in 15 places, and three totals
abbrev pub row_of : Net → List ℕ → RouteRow
row_of net r =
    record {
      count = length r;
      arcs = r ++ replicate (15 - length r) 0;
      delay = total net Delay r;
      jitter = total net Jitter r;
      charge = total net Charge r;
    }

-- the list that the caller brought, as an answered enquiry leaves it
abbrev pub list_after : Net → List (List ℕ) → List RouteRow → List RouteRow
list_after net routes brought = map (row_of net) routes ++ drop (length routes) brought

-- the routes in the first so many rows of a list
abbrev pub routes_in : ℕ → List RouteRow → List (List ℕ)
routes_in n list = map (λ row. take row.count row.arcs) (take n list)

-- What a list of routes must be, told without saying how it is found.
use Rattle.std.specs.Prelude.{◌≡◌, ℕ, ◌<◌, ◌≤◌, true, not, T, ◌⊎◌, List, [], ◌∷◌, ◌++◌, length, take, Some, filter, ◌≢◌, slice_index_or}
use Rattle.std.specs.List.{AllByRecursion}
use Rattle.network.specs.Lists.{In, distinct}
use Rattle.network.specs.Net.{Net, WellFormed}
use Rattle.length.specs.Model.{Model, Lawful}
use Rattle.length.specs.Walks.{follow, sites_along}
use Rattle.routes.specs.declared.enquiry.Enquiry.{Enquiry}
use Rattle.routes.specs.Totals.{limits_of, total}
use Rattle.routes.specs.Routes.{route_order, route_list, is_complete}
use Rattle.routes.specs.Partial.{is_partial, is_admissible, partial_order, partial_routes, taken, written}

-- a feasible route: usable arcs, each beginning where the last ended, from the source to the
-- destination, with no site twice, and each of the four totals within its limit
pub record Feasible {K : Type 0} (net : Net) (e : Enquiry K) (r : List ℕ) : Type 0 where
  pub some_arcs : 0 < length r
  pub leads : follow net e.width e.source r ≡ Some e.destination
  pub no_site_twice : T (distinct (sites_along net e.source r))
  pub within_limits : AllByRecursion (λ l. total net l.0 r ≤ l.1) (limits_of e.limits)

module _ {K L : Type 0} (model : K → Model L) (net : Net) (e : Enquiry K) where
  -- r comes before s
  abbrev pub Before : List ℕ → List ℕ → Type 0
  Before r s = T (not (route_order model net e s r))

  -- each comes before all that follow it; so none is there twice
  abbrev pub InOrder : List (List ℕ) → Type 0
  InOrder [] = Unit {0}
  InOrder (r ∷ rs) = AllByRecursion (Before r) rs × InOrder rs

  -- the list that an enquiry asks for
  pub record Lists (routes : List (List ℕ)) : Type 0 where
    pub each_feasible : AllByRecursion (Feasible net e) routes
    pub in_order : InOrder routes
    pub others_after : (r : List ℕ) → Feasible net e r → In r routes ⊎ AllByRecursion (λ s. Before s r) routes
    pub enough : (length routes ≡ e.wanted) ⊎ ((length routes < e.wanted) × ((r : List ℕ) → Feasible net e r → In r routes))

  -- Statement: the parent of an admissible partial route is one too, and comes before it. So work that always takes
  -- the first of the partial routes that it has written down takes all of them in order.
  abbrev pub ParentsComeFirst : Type 0
  ParentsComeFirst =
      Lawful (model e.kind) → WellFormed net → e.source < net.sites → (p : List ℕ) (i : ℕ)
      → is_partial net e (p ++ i ∷ []) ≡ true → is_admissible model net e (p ++ i ∷ []) ≡ true
      → (is_partial net e p ≡ true) × (is_admissible model net e p ≡ true) × (partial_order model net e p (p ++ i ∷ []) ≡ true)

  -- Statement, for a proof to show: the defined list is that list.
  abbrev pub RouteListLists : Type 0
  RouteListLists = Lawful (model e.kind) → WellFormed net → e.limits.hops ≤ 15 → Lists (route_list model net e)

  -- Work that takes, of the lines written and not yet taken, the first in order, takes the
  -- partial routes in order, and ends with all of them.
  pub record TakesInOrder : Type 0 where
    pub written_first : (k : ℕ) → k < length (partial_routes model net e) → In (slice_index_or (partial_routes model net e) k []) (written model net e (take k (partial_routes model net e)))
    pub before_the_rest : (k : ℕ) → k < length (partial_routes model net e) → (x : List ℕ) → In x (written model net e (take k (partial_routes model net e)))
        → In x (take k (partial_routes model net e)) ⊎ T (partial_order model net e (slice_index_or (partial_routes model net e) k []) x)
    pub nothing_left : (x : List ℕ) → In x (written model net e (partial_routes model net e)) → In x (partial_routes model net e)

  abbrev pub LinesAreTakenInOrder : Type 0
  LinesAreTakenInOrder =
      Lawful (model e.kind) → WellFormed net → e.source < net.sites → (e.source ≢ e.destination) → e.limits.hops ≤ 15
      → TakesInOrder

  -- Statement, for a proof to show: the routes listed are the complete ones among the partial routes taken.
  abbrev pub TakenListsTheRoutes : Type 0
  TakenListsTheRoutes =
      Lawful (model e.kind) → WellFormed net → e.source < net.sites → (e.source ≢ e.destination) → e.limits.hops ≤ 15
      → filter (is_complete net e) (taken model net e) ≡ route_list model net e

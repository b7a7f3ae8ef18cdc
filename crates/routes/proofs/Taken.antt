-- The complete ones among the partial routes taken are the routes that are asked for, in their order.
use Rattle.std.proofs.Common.{◌≡◌, ℕ, zero, suc, ◌<◌, ◌≤◌, Bool, true, false, cond, not, ◌&&◌, ◌||◌, T, eqb, ltb, leb, ◌⊎◌, List, [], ◌∷◌, length, take, is_some, Some, filter, Option, sym, refl, ap, ◌∙◌, subst, arith}
use Rattle.std.specs.Option.{option_map}
use Rattle.std.proofs.lemmas.Bool.{eqb-true, eq-eqb, ne_eqb, lt-ltb, and_parts, and_from, or_left, or_right, not-true, not_from_false, both_ways}
use Rattle.network.specs.Lists.{In, all_of, among, distinct, sort}
use Rattle.network.specs.Net.{Net, WellFormed, arc_at}
use Rattle.network.specs.ListsLemmas.{some_same}
use Rattle.length.specs.Model.{Model, Lawful}
use Rattle.length.specs.declared.standard.StandardKind.{StandardKind}
use Rattle.length.specs.declared.standard.StandardKind.TheVariants.{Delay, Jitter, Charge, Hops}
use Rattle.length.specs.Standard.{standard}
use Rattle.length.specs.Walks.{usable, follow, sites_along, walk_length}
use Rattle.length.specs.Least.{least_total, IsLeast}
use Rattle.length.specs.Lawful.{standard_lawful}
use Rattle.length.proofs.Walks.{there, walk_valid}
use Rattle.length.proofs.Members.{in_kept, from_kept}
use Rattle.length.proofs.Least.{walk_ok, least_of_all, least_same}
use Rattle.routes.specs.declared.enquiry.Enquiry.{Enquiry}
use Rattle.routes.specs.Totals.{total}
use Rattle.routes.specs.Routes.{end_of, is_path, is_complete, some_site, paths, is_route, is_within_limits, feasible_routes, route_order}
use Rattle.routes.specs.Partial.{at_most, no_longer, rest_from, projected, projected_length, is_admissible, partial_order, partial_routes, taken_of}
use Rattle.routes.specs.Listing.{TakenListsTheRoutes}
use Rattle.routes.proofs.Parents.{test, cut, end_below, walk_in}
use Rattle.routes.proofs.Sorting.{Rising, into_sort, from_sort, sort_rising, kept_rising, rising_as}
use Rattle.routes.proofs.Once.{unique_kept}
use Rattle.routes.proofs.Orders.{by_length_antisym, by_length_trans, by_length_total}
use Rattle.routes.proofs.Enumerate.{at_own_site, in_paths, paths_unique}
use Rattle.routes.proofs.Places.{rising_same}
use Rattle.routes.proofs.Lines.{Admitted, few_hops, partial_admitted, partial_rising, admitted_partial}

-- the complete ones among those taken are the first complete ones
pub taken_kept : {K L : Type 0} (model : K → Model L) (net : Net) (e : Enquiry K) (w : ℕ) (ps : List (List ℕ))
    → filter (is_complete net e) (taken_of model net e w ps) ≡ take w (filter (is_complete net e) ps)
taken_kept model net e zero [] = refl
taken_kept model net e (suc w) [] = refl
taken_kept model net e zero (p ∷ ps) = refl
taken_kept model net e (suc w) (p ∷ ps) = go (is_complete net e p) (taken_kept model net e w ps) (taken_kept model net e (suc w) ps)
  where
    keep : List (List ℕ) → List (List ℕ)
    keep = filter (is_complete net e)

    go : (b : Bool) → keep (taken_of model net e w ps) ≡ take w (keep ps) → keep (taken_of model net e (suc w) ps) ≡ take (suc w) (keep ps)
        → cond b (p ∷ keep (taken_of model net e (cond b w (suc w)) ps)) (keep (taken_of model net e (cond b w (suc w)) ps))
        ≡ take (suc w) (cond b (p ∷ keep ps) (keep ps))
    go true less same = ap (λ t. p ∷ t) less
    go false less same = same

-- a walk that meets no site twice does not leave its end
module _ (net : Net) (width : ℕ) where
  end_among : (s : ℕ) (p : List ℕ) (d : ℕ) → follow net width s p ≡ Some d → among d (sites_along net s p) ≡ true
  end_among s [] d q = or_left _ _ (eq-eqb d s (sym (some_same q)))
  end_among s (i ∷ is) d q =
      let c = cut net width (test net width s i) (follow net width (arc_at net i).to is) d q in
      or_right _ _ (end_among (arc_at net i).to is d c.1)

  pub never_leaves : (s : ℕ) (p : List ℕ) (d : ℕ) → follow net width s p ≡ Some d → distinct (sites_along net s p) ≡ true
      → all_of (λ i. not (eqb (arc_at net i).from d)) p ≡ true
  never_leaves s [] d q h = refl
  never_leaves s (i ∷ is) d q h =
      let rest : List ℕ = sites_along net (arc_at net i).to is in
      let c = cut net width (test net width s i) (follow net width (arc_at net i).to is) d q in
      let two = and_parts (not (among s rest)) (distinct rest) h in
      let starts = eqb-true _ _ (and_parts (usable net width i) (eqb (arc_at net i).from s) c.0).1 in
      let ends : among d rest ≡ true = end_among (arc_at net i).to is d c.1 in
      let far : (arc_at net i).from ≡ d → ⊥ = λ here. both_ways (among s rest) (not-true _ two.0) (subst (λ x. among x rest ≡ true) (sym here ∙ starts) ends) in
      and_from _ _ (not_from_false _ (ne_eqb (arc_at net i).from d far)) (never_leaves (arc_at net i).to is d c.1 two.1)

-- limits and orders, at lengths that are there
limits_same : (a b c d : Option ℕ) (w x y z i j k l : ℕ) → a ≡ Some w → b ≡ Some x → c ≡ Some y → d ≡ Some z
    → (at_most a i && (at_most b j && (at_most c k && (at_most d l && true)))) ≡ (leb w i && (leb x j && (leb y k && (leb z l && true))))
limits_same a b c d w x y z i j k l qa qb qc qd = rw (qa, qb, qc, qd)

order_same : {L : Type 0} (m : Model L) (a b : Option L) (x y : L) (p : Bool) → a ≡ Some x → b ≡ Some y
    → (no_longer m a b && (not (no_longer m b a) || p)) ≡ (m.no_longer x y && (not (m.no_longer y x) || p))
order_same m a b x y p qa qb = rw (qa, qb)

module _ {K : Type 0} (net : Net) (wf : WellFormed net) (e : Enquiry K) (source_there : e.source < net.sites) where
  -- at the destination nothing is left to go
  least_here : {M : Type 0} (m : Model M) → Lawful m → e.destination < net.sites
      → least_total m net e.width e.destination e.destination ≡ Some m.empty
  least_here {M} m law below = least_same m law net wf e.width d d (least_total m net e.width d d) (Some m.empty) (least_of_all m law net wf e.width d d below) none
    where
      d : ℕ
      d = e.destination

      none : IsLeast m net e.width d d (Some m.empty)
      none = (([], refl, refl), λ walk way. law.empty_least (walk_length m net walk) (walk_ok m law net wf e.width d d walk way))

  pub complete_there : (p : List ℕ) → is_complete net e p ≡ true → T (there net p)
  complete_there p h =
      walk_in net e.width (standard Delay) (standard_lawful Delay) wf e.source p e.destination (at_own_site e.destination (end_of net e p) h)

  -- so the projected length of a complete one is its length
  pub complete_projected : {M : Type 0} (m : Model M) → Lawful m → (p : List ℕ) → is_complete net e p ≡ true → projected net e m p ≡ Some (walk_length m net p)
  complete_projected m law p h =
      let ends = at_own_site e.destination (end_of net e p) h in
      let below = end_below net e.width wf e.source p e.destination source_there ends in
      ap (λ o. option_map (m.join (walk_length m net p)) (rest_from net e m o)) ends
      ∙ (ap (option_map (m.join (walk_length m net p))) (least_here m law below)
      ∙ ap Some (law.empty_right (walk_length m net p) (walk_valid m law net wf p (complete_there p h))))

  standard_projected : (kind : StandardKind) (p : List ℕ) → is_complete net e p ≡ true → projected net e (standard kind) p ≡ Some (total net kind p)
  standard_projected kind p h = complete_projected (standard kind) (standard_lawful kind) p h

  some_arcs : (e.source ≡ e.destination → ⊥) → (p : List ℕ) → is_complete net e p ≡ true → 0 < length p
  some_arcs apart [] h = absurd (apart (eqb-true e.source e.destination h))
  some_arcs apart (i ∷ is) h = omega arith

module _ {K L : Type 0} (model : K → Model L) (net : Net) (e : Enquiry K)
    (law : Lawful (model e.kind)) (wf : WellFormed net) (source_there : e.source < net.sites) where
  -- a complete partial route is admissible where it is within the limits
  pub complete_admissible : (p : List ℕ) → is_complete net e p ≡ true → is_admissible model net e p ≡ is_within_limits net e p
  complete_admissible p h =
      let at : (kind : StandardKind) → projected net e (standard kind) p ≡ Some (total net kind p) = λ kind. standard_projected net wf e source_there kind p h in
      ap (λ o. is_some o && within) (complete_projected net wf e source_there (model e.kind) law p h)
      ∙ limits_same (projected net e (standard Delay) p) (projected net e (standard Jitter) p) (projected net e (standard Charge) p) (projected net e (standard Hops) p)
      (total net Delay p) (total net Jitter p) (total net Charge p) (total net Hops p)
      e.limits.delay e.limits.jitter e.limits.charge e.limits.hops (at Delay) (at Jitter) (at Charge) (at Hops)
    where
      within : Bool
      within =
          at_most (projected net e (standard Delay) p) e.limits.delay
          && (at_most (projected net e (standard Jitter) p) e.limits.jitter
          && (at_most (projected net e (standard Charge) p) e.limits.charge
          && (at_most (projected net e (standard Hops) p) e.limits.hops && true)))

  -- complete ones are ordered as routes are
  pub complete_order : (x y : List ℕ) → is_complete net e x ≡ true → is_complete net e y ≡ true → partial_order model net e x y ≡ route_order model net e x y
  complete_order x y hx hy =
      let m : Model L = model e.kind in
      order_same m (projected_length model net e x) (projected_length model net e y) (walk_length m net x) (walk_length m net y) _
      (complete_projected net wf e source_there m law x hx) (complete_projected net wf e source_there m law y hy)

  complete_valid : (p : List ℕ) → is_complete net e p ≡ true → T ((model e.kind).valid (walk_length (model e.kind) net p))
  complete_valid p h = walk_valid (model e.kind) law net wf p (complete_there net wf e source_there p h)

  route_total : (x y : List ℕ) → is_complete net e x ≡ true → is_complete net e y ≡ true → T (route_order model net e x y) ⊎ T (route_order model net e y x)
  route_total x y hx hy =
      let m : Model L = model e.kind in
      by_length_total m.no_longer (walk_length m net) x y (law.total (walk_length m net x) (walk_length m net y) (complete_valid x hx) (complete_valid y hy))

  feasible_complete : (r : List ℕ) → In r (feasible_routes net e) → is_complete net e r ≡ true
  feasible_complete r i =
      let t = and_parts (is_route net e r) (is_within_limits net e r) (from_kept (λ r. is_route net e r && is_within_limits net e r) (paths net e) r i).1 in
      let route = and_parts (is_path net e r && is_complete net e r) (ltb 0 (length r)) t.0 in
      (and_parts (is_path net e r) (is_complete net e r) route.0).1

  -- the feasible routes in order, each before all that follow
  pub routes_rising : Rising (route_order model net e) (sort (route_order model net e) (feasible_routes net e))
  routes_rising =
      sort_rising (route_order model net e) P (by_length_antisym m.no_longer (walk_length m net) P carries) (by_length_trans m.no_longer (walk_length m net) P carries)
      (feasible_routes net e) feasible_complete
      (unique_kept (λ r. is_route net e r && is_within_limits net e r) (paths net e) (paths_unique net wf e))
    where
      m : Model L
      m = model e.kind

      P : List ℕ → Type 0
      P p = is_complete net e p ≡ true

      carries : (a b c : List ℕ) → P a → P b → P c → T (m.no_longer (walk_length m net a) (walk_length m net b)) → T (m.no_longer (walk_length m net b) (walk_length m net c))
          → T (m.no_longer (walk_length m net a) (walk_length m net c))
      carries a b c pa pb pc = law.trans (walk_length m net a) (walk_length m net b) (walk_length m net c) (complete_valid a pa) (complete_valid b pb) (complete_valid c pc)

  -- a feasible route is an admissible partial route
  pub feasible_admitted : (r : List ℕ) → In r (feasible_routes net e) → Admitted model net e r
  feasible_admitted r i =
      let t = and_parts (is_route net e r) (is_within_limits net e r) (from_kept (λ r. is_route net e r && is_within_limits net e r) (paths net e) r i).1 in
      let route = and_parts (is_path net e r && is_complete net e r) (ltb 0 (length r)) t.0 in
      let two = and_parts (is_path net e r) (is_complete net e r) route.0 in
      let path = and_parts (some_site (end_of net e r)) (distinct (sites_along net e.source r)) two.0 in
      let ends = at_own_site e.destination (end_of net e r) two.1 in
      (and_from _ _ two.0 (never_leaves net e.width e.source r e.destination ends path.1), complete_admissible r two.1 ∙ t.1)

  module _ (apart : e.source ≡ e.destination → ⊥) (few : e.limits.hops ≤ 15) where
    -- and a complete admissible partial route is a feasible route
    pub admitted_feasible : (r : List ℕ) → Admitted model net e r → is_complete net e r ≡ true → In r (feasible_routes net e)
    admitted_feasible r a done =
        let path = (and_parts (is_path net e r) _ a.0).0 in
        in_kept (λ r. is_route net e r && is_within_limits net e r) (paths net e) r (in_paths net wf e r path (few_hops model net e few r a.1))
        (and_from _ _ (and_from _ _ (and_from _ _ path done) (lt-ltb 0 (length r) (some_arcs net wf e source_there apart r done)))
        (sym (complete_admissible r done) ∙ a.1))

    -- the complete ones among all admissible partial routes in order are the feasible routes in order
    pub complete_routes : filter (is_complete net e) (partial_routes model net e) ≡ sort (route_order model net e) (feasible_routes net e)
    complete_routes = rising_same (route_order model net e) done routes total up routes_rising into from
      where
        done : List (List ℕ)
        done = filter (is_complete net e) (partial_routes model net e)

        routes : List (List ℕ)
        routes = sort (route_order model net e) (feasible_routes net e)

        is_done : (x : List ℕ) → In x done → is_complete net e x ≡ true
        is_done x i = (from_kept (is_complete net e) (partial_routes model net e) x i).1

        total : (x y : List ℕ) → In x done → In y done → T (route_order model net e x y) ⊎ T (route_order model net e y x)
        total x y i j = route_total x y (is_done x i) (is_done y j)

        up : Rising (route_order model net e) done
        up =
            rising_as (partial_order model net e) (route_order model net e) done (λ x y i j. complete_order x y (is_done x i) (is_done y j))
            (kept_rising (partial_order model net e) (is_complete net e) (partial_routes model net e) (partial_rising model net e law wf source_there))

        into : (x : List ℕ) → In x done → In x routes
        into x i =
            let k = from_kept (is_complete net e) (partial_routes model net e) x i in
            into_sort (route_order model net e) (feasible_routes net e) x (admitted_feasible x (partial_admitted model net e law wf source_there x k.0) k.1)

        from : (x : List ℕ) → In x routes → In x done
        from x i =
            let f = from_sort (route_order model net e) (feasible_routes net e) x i in
            in_kept (is_complete net e) (partial_routes model net e) x (admitted_partial model net e law wf source_there few x (feasible_admitted x f)) (feasible_complete x f)

module _ {K L : Type 0} (model : K → Model L) (net : Net) (e : Enquiry K) where
  pub taken_lists_the_routes : TakenListsTheRoutes model net e
  taken_lists_the_routes law wf source_there apart few =
      taken_kept model net e e.wanted (partial_routes model net e)
      ∙ ap (take e.wanted) (complete_routes model net e law wf source_there apart few)

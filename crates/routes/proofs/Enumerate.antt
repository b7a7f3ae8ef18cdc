-- The list of routes is the one that is asked for: all feasible routes are enumerated, each once, and sorted.
use Rattle.std.proofs.Common.{◌≡◌, ℕ, zero, suc, ◌<◌, ◌≤◌, min, Bool, true, ◌&&◌, T, ltb, leb, List, [], ◌∷◌, ◌++◌, map, length, Some, None, Option, sym, refl, ap, ◌∙◌, subst, inl, inr, ⊎_elim, zero-add, arith, length-append}
use borrow.Author.Tests.{clash}
use Rattle.std.specs.List.{range_with_len, flat_map}
use Rattle.std.proofs.lemmas.List.{map-append}
use Rattle.std.proofs.lemmas.Bool.{ltb-true, lt-ltb, leb-true, le-leb, eqb-true, eq-eqb, and_parts, and_from}
use Rattle.network.specs.Lists.{In, distinct, sort}
use Rattle.network.specs.Net.{Net, WellFormed, arc_at, arc_count}
use Rattle.length.specs.Model.{Model}
use Rattle.length.specs.declared.standard.StandardKind.TheVariants.{Delay, Jitter, Charge, Hops}
use Rattle.length.specs.Standard.{standard}
use Rattle.length.specs.Walks.{sites_along, walk_length}
use Rattle.length.specs.Lawful.{standard_lawful}
use Rattle.length.proofs.Walks.{there, walk_valid}
use Rattle.length.proofs.Members.{in_map, from_map, in_kept, from_kept, in_counting}
use Rattle.length.proofs.Least.{true_T, T_true, walk_there, arc_there}
use Rattle.routes.specs.declared.enquiry.Enquiry.{Enquiry}
use Rattle.routes.specs.Totals.{total}
use Rattle.routes.specs.Routes.{extended, end_of, is_path, is_complete, some_site, at_site, paths_of, paths, is_route, is_within_limits, feasible_routes, route_order}
use Rattle.routes.specs.Listing.{Feasible, InOrder, RouteListLists}
use Rattle.routes.proofs.Parents.{follow_push, distinct_front, some_there}
use Rattle.routes.proofs.Sorting.{Unique, all_in, from_take, from_sort, into_sort, sort_rising, take_rising, first_or_after, as_many}
use Rattle.routes.proofs.Once.{in_joined, from_joined, unique_map, unique_kept, unique_counting, unique_joined, push_parts, last_of}
use Rattle.routes.proofs.Orders.{by_length_antisym, by_length_trans}

pub hops_total : (net : Net) (r : List ℕ) → total net Hops r ≡ min (length r) 4294967295
hops_total net [] = refl
hops_total net (i ∷ is) = let h = hops_total net is in omega arith

pub at_own_site : (d : ℕ) (o : Option ℕ) → at_site d o ≡ true → o ≡ Some d
at_own_site d None h = absurd (clash h)
at_own_site d (Some s) h = ap Some (eqb-true s d h)

module _ {K : Type 0} (net : Net) (wf : WellFormed net) (e : Enquiry K) where
  pub path_parent : (p : List ℕ) (i : ℕ) → is_path net e (p ++ i ∷ []) ≡ true → (is_path net e p ≡ true) × (i < arc_count net)
  path_parent p i h =
      let q : List ℕ = p ++ i ∷ [] in
      let path = and_parts (some_site (end_of net e q)) (distinct (sites_along net e.source q)) h in
      let ends = some_there (end_of net e q) path.0 in
      let b = follow_push net e.width e.source p i ends.0 ends.1 in
      let apart : distinct ((e.source ∷ map (λ j. (arc_at net j).to) p) ++ (arc_at net i).to ∷ []) ≡ true =
      subst (λ l. distinct (e.source ∷ l) ≡ true) (map-append (λ j. (arc_at net j).to) p (i ∷ [])) path.1 in (
        and_from _ _ (ap some_site b.1) (distinct_front (e.source ∷ map (λ j. (arc_at net j).to) p) ((arc_at net i).to ∷ []) apart),
        arc_there (standard Delay) (standard_lawful Delay) net wf e.width 0 b.0 i b.2,
      )

  pub in_extended : (p : List ℕ) (i : ℕ) → i < arc_count net → In (p ++ i ∷ []) (extended net p)
  in_extended p i h = in_map (λ j. p ++ j ∷ []) (range_with_len 0 (arc_count net)) i
      (subst (λ j. In j (range_with_len 0 (arc_count net))) (zero-add i) (in_counting 0 (arc_count net) i h))

  in_paths_of : (k : ℕ) (r : List ℕ) → is_path net e r ≡ true → length r ≡ k → In r (paths_of net e k)
  in_paths_of zero [] h l = in_kept (is_path net e) ([] ∷ []) [] (inl refl) h
  in_paths_of zero (i ∷ is) h l = absurd (omega arith)
  in_paths_of (suc k) r h l =
      let s = last_of r k l in
      let p : List ℕ = s.0 in
      let i : ℕ = s.1 in
      let hq : is_path net e (p ++ i ∷ []) ≡ true = subst (λ x. is_path net e x ≡ true) s.2 h in
      let b = path_parent p i hq in
      let found : In (p ++ i ∷ []) (paths_of net e (suc k)) =
      in_kept (is_path net e) (flat_map (extended net) (paths_of net e k)) (p ++ i ∷ [])
      (in_joined (extended net) (paths_of net e k) p (p ++ i ∷ []) (in_paths_of k p b.0 s.3) (in_extended p i b.1)) hq in
      subst (λ x. In x (paths_of net e (suc k))) (sym s.2) found

  paths_of_length : (k : ℕ) (r : List ℕ) → In r (paths_of net e k) → length r ≡ k
  paths_of_length zero r i = elim (from_kept (is_path net e) ([] ∷ []) r i).0 [ inl q ↦ ap length q | inr j ↦ absurd j ]
  paths_of_length (suc k) r i =
      let f = from_joined (extended net) (paths_of net e k) r (from_kept (is_path net e) (flat_map (extended net) (paths_of net e k)) r i).0 in
      let g = from_map (λ j. f.0 ++ j ∷ []) (range_with_len 0 (arc_count net)) r f.2 in
      let ih = paths_of_length k f.0 f.1 in
      let l = length-append f.0 (g.0 ∷ []) in
      let q = ap length g.2 in
      omega arith

  pub extended_unique : (p : List ℕ) → Unique (extended net p)
  extended_unique p = unique_map (λ j. p ++ j ∷ []) (λ a b q. (push_parts p p a b q).1) (range_with_len 0 (arc_count net)) (unique_counting 0 (arc_count net))

  pub extended_apart : (p q x : List ℕ) → In x (extended net p) → In x (extended net q) → p ≡ q
  extended_apart p q x i j =
      let a = from_map (λ k. p ++ k ∷ []) (range_with_len 0 (arc_count net)) x i in
      let b = from_map (λ k. q ++ k ∷ []) (range_with_len 0 (arc_count net)) x j in
      (push_parts p q a.0 b.0 (sym a.2 ∙ b.2)).0

  paths_of_unique : (k : ℕ) → Unique (paths_of net e k)
  paths_of_unique zero = unique_kept (is_path net e) ([] ∷ []) (λ i. i, tt)
  paths_of_unique (suc k) =
      unique_kept (is_path net e) (flat_map (extended net) (paths_of net e k)) (unique_joined (extended net) extended_unique extended_apart (paths_of net e k) (paths_of_unique k))

  pub paths_unique : Unique (paths net e)
  paths_unique =
      unique_joined (paths_of net e) paths_of_unique (λ a b x i j. sym (paths_of_length a x i) ∙ paths_of_length b x j)
      (range_with_len 0 (suc e.limits.hops)) (unique_counting 0 (suc e.limits.hops))

  pub in_paths : (r : List ℕ) → is_path net e r ≡ true → length r ≤ e.limits.hops → In r (paths net e)
  in_paths r h l =
      in_joined (paths_of net e) (range_with_len 0 (suc e.limits.hops)) (length r) r
      (subst (λ j. In j (range_with_len 0 (suc e.limits.hops))) (zero-add (length r)) (in_counting 0 (suc e.limits.hops) (length r) (omega arith)))
      (in_paths_of (length r) r h refl)

  pub feasible_in : e.limits.hops ≤ 15 → (r : List ℕ) → Feasible net e r → In r (feasible_routes net e)
  feasible_in few r f =
      let limits = f.within_limits in
      let hops = limits.1.1.1.0 in
      let count = hops_total net r in
      let short : length r ≤ e.limits.hops = omega arith in
      let path : is_path net e r ≡ true = and_from _ _ (ap some_site f.leads) (T_true _ f.no_site_twice) in
      let done : is_complete net e r ≡ true = ap (at_site e.destination) f.leads ∙ eq-eqb e.destination e.destination refl in
      in_kept (λ r. is_route net e r && is_within_limits net e r) (paths net e) r (in_paths r path short)
      (and_from _ _ (and_from _ _ (and_from _ _ path done) (lt-ltb 0 (length r) f.some_arcs))
      (and_from _ _ (le-leb _ _ limits.0) (and_from _ _ (le-leb _ _ limits.1.0) (and_from _ _ (le-leb _ _ limits.1.1.0) (and_from _ _ (le-leb _ _ hops) refl)))))

  pub in_feasible : (r : List ℕ) → In r (feasible_routes net e) → Feasible net e r
  in_feasible r i =
      let t = and_parts (is_route net e r) (is_within_limits net e r) (from_kept (λ r. is_route net e r && is_within_limits net e r) (paths net e) r i).1 in
      let route = and_parts (is_path net e r && is_complete net e r) (ltb 0 (length r)) t.0 in
      let ends = and_parts (is_path net e r) (is_complete net e r) route.0 in
      let path = and_parts (some_site (end_of net e r)) (distinct (sites_along net e.source r)) ends.0 in
      let d = and_parts (leb (total net Delay r) e.limits.delay) _ t.1 in
      let j = and_parts (leb (total net Jitter r) e.limits.jitter) _ d.1 in
      let c = and_parts (leb (total net Charge r) e.limits.charge) _ j.1 in
      let h = and_parts (leb (total net Hops r) e.limits.hops) true c.1 in
      record {
        some_arcs = ltb-true 0 (length r) route.1;
        leads = at_own_site e.destination (end_of net e r) ends.1;
        no_site_twice = true_T _ path.1;
        within_limits = (leb-true _ _ d.0, (leb-true _ _ j.0, (leb-true _ _ c.0, (leb-true _ _ h.0, tt))));
      }

module _ {K L : Type 0} (model : K → Model L) (net : Net) (e : Enquiry K) where
  pub route_list_lists : RouteListLists model net e
  route_list_lists law wf few =
      record {
        each_feasible = all_in (Feasible net e) _ (λ r i. in_feasible net wf e r (from_sort order all r (from_take e.wanted (sort order all) r i)));
        in_order = take_rising order e.wanted (sort order all) up;
        others_after = λ r f. first_or_after order e.wanted (sort order all) r up (into_sort order all r (feasible_in net wf e few r f));
        enough = ⊎_elim inl (λ h. inr (h.0, λ r f. h.1 r (into_sort order all r (feasible_in net wf e few r f)))) (as_many order e.wanted (sort order all));
      }
    where
      m : Model L
      m = model e.kind

      order : List ℕ → List ℕ → Bool
      order = route_order model net e

      all : List (List ℕ)
      all = feasible_routes net e

      P : List ℕ → Type 0
      P r = T (there net r)

      in_net : (r : List ℕ) → In r all → P r
      in_net r i = walk_there m law net wf e.width e.destination e.source r (in_feasible net wf e r i).leads

      ok : (r : List ℕ) → P r → T (m.valid (walk_length m net r))
      ok r h = walk_valid m law net wf r h

      carries : (a b c : List ℕ) → P a → P b → P c → T (m.no_longer (walk_length m net a) (walk_length m net b)) → T (m.no_longer (walk_length m net b) (walk_length m net c)) → T (m.no_longer (walk_length m net a) (walk_length m net c))
      carries a b c pa pb pc = law.trans _ _ _ (ok a pa) (ok b pb) (ok c pc)

      once : Unique all
      once = unique_kept (λ r. is_route net e r && is_within_limits net e r) (paths net e) (paths_unique net wf e)

      up : InOrder model net e (sort order all)
      up = sort_rising order P (by_length_antisym m.no_longer (walk_length m net) P carries) (by_length_trans m.no_longer (walk_length m net) P carries) all in_net once

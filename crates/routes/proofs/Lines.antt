-- Work that takes the first of the lines written and not yet taken takes all admissible partial routes in order.
use Rattle.std.proofs.Common.{◌≡◌, ℕ, ◌+◌, ◌<◌, ◌≤◌, min, Bool, true, false, not, ◌||◌, T, eqb, ◌⊎◌, List, [], ◌∷◌, ◌++◌, length, get_or, take, is_some, Some, None, filter, Option, sym, refl, ap, ◌∙◌, subst, inl, inr, ⊎_elim, arith, length-append}
use borrow.Author.Tests.{clash}
use Rattle.std.proofs.lemmas.Bool.{leb-true, eqb-true, eqb-false, ne_eqb, and_parts, not-true, not_from_false}
use Rattle.network.specs.Lists.{In, all_of}
use Rattle.network.specs.Net.{Net, WellFormed, arc_at}
use Rattle.network.specs.ListsLemmas.{none_some}
use Rattle.length.specs.Model.{Model, Lawful}
use Rattle.length.specs.declared.standard.StandardKind.TheVariants.{Hops}
use Rattle.length.specs.Standard.{standard}
use Rattle.length.specs.Walks.{usable, walk_length}
use Rattle.length.specs.Least.{least_total, IsLeast}
use Rattle.length.proofs.Walks.{walk_valid}
use Rattle.length.proofs.Members.{in_kept, from_kept}
use Rattle.length.proofs.Least.{true_T, walk_ok, least_of_all}
use Rattle.routes.specs.declared.enquiry.Enquiry.{Enquiry}
use Rattle.routes.specs.Totals.{total}
use Rattle.routes.specs.Routes.{extended, end_of, is_path, is_complete, some_site, at_site, paths}
use Rattle.routes.specs.Partial.{at_most, no_longer, is_partial, rest_from, projected, projected_length, is_admissible, admissible_of, partial_order, partial_routes, written}
use Rattle.routes.specs.Listing.{LinesAreTakenInOrder}
use Rattle.routes.proofs.Hops.{within_hops}
use Rattle.routes.proofs.Parents.{some_there, some_is, follow_push, end_below, walk_in, mapped_some, parents_come_first}
use Rattle.routes.proofs.Sorting.{Unique, Rising, from_sort, into_sort, sort_rising}
use Rattle.routes.proofs.Once.{in_left, in_right, from_append, in_joined, from_joined, unique_kept, last_of}
use Rattle.routes.proofs.Orders.{by_length_antisym, by_length_trans, by_length_total}
use Rattle.routes.proofs.Enumerate.{hops_total, path_parent, in_paths, in_extended, paths_unique}
use Rattle.routes.proofs.Places.{in_get_or, unique_sort, up_to}

-- a number of arcs that fits once more is joined to it
few_of : (n r total limit : ℕ) → total ≡ min n 4294967295 → limit ≤ 15 → min (total + r) 4294967295 ≤ limit → n ≤ limit
few_of n r total limit same few h = omega arith

module _ {K : Type 0} (net : Net) (e : Enquiry K) where
  -- what has a rest has an end
  pub end_with_rest : {M : Type 0} (m : Model M) (o : Option ℕ) (r : M) → rest_from net e m o ≡ Some r
      → (u : ℕ) × (o ≡ Some u) × (least_total m net e.width e.destination u ≡ Some r)
  end_with_rest m None r q = absurd (none_some q)
  end_with_rest m (Some u) r q = (u, refl, q)

  -- a projected length is that of the arcs and of a rest
  pub projected_parts : {M : Type 0} (m : Model M) (p : List ℕ) (y : M) → projected net e m p ≡ Some y
      → (u : ℕ) × (r : M) × (end_of net e p ≡ Some u) × (least_total m net e.width e.destination u ≡ Some r) × (y ≡ m.join (walk_length m net p) r)
  projected_parts m p y q =
      let a = mapped_some (m.join (walk_length m net p)) (rest_from net e m (end_of net e p)) y q in
      let b = end_with_rest m (end_of net e p) a.0 a.1 in
      (b.0, a.0, b.1, b.2, a.2)

  at_most_some : (o : Option ℕ) (limit : ℕ) → at_most o limit ≡ true → (y : ℕ) × (o ≡ Some y) × (y ≤ limit)
  at_most_some None limit h = absurd (clash h)
  at_most_some (Some y) limit h = (y, refl, leb-true y limit h)

  elsewhere : (o : Option ℕ) (u : ℕ) → o ≡ Some u → (u ≡ e.destination → ⊥) → at_site e.destination o ≡ false
  elsewhere o u q far = ap (at_site e.destination) q ∙ ne_eqb u e.destination far

  last_test : (t : ℕ → Bool) (p : List ℕ) (i : ℕ) → all_of t (p ++ i ∷ []) ≡ true → t i ≡ true
  last_test t [] i h = (and_parts (t i) true h).0
  last_test t (j ∷ js) i h = last_test t js i (and_parts (t j) (all_of t (js ++ i ∷ [])) h).1

  -- a partial route that has a next arc has not reached the destination
  pub parent_open : (p : List ℕ) (i : ℕ) → is_partial net e (p ++ i ∷ []) ≡ true → is_complete net e p ≡ false
  parent_open p i h =
      let q : List ℕ = p ++ i ∷ [] in
      let leaves : ℕ → Bool = λ j. not (eqb (arc_at net j).from e.destination) in
      let two = and_parts (is_path net e q) (all_of leaves q) h in
      let path = and_parts (some_site (end_of net e q)) _ two.0 in
      let ends = some_there (end_of net e q) path.0 in
      let b = follow_push net e.width e.source p i ends.0 ends.1 in
      let starts = eqb-true _ _ (and_parts (usable net e.width i) (eqb (arc_at net i).from b.0) b.2).1 in
      let far = eqb-false _ _ (not-true _ (last_test leaves p i two.1)) in
      elsewhere (end_of net e p) b.0 b.1 (λ here. far (starts ∙ here))

module _ {K L : Type 0} (model : K → Model L) (net : Net) (e : Enquiry K) where
  -- an admissible partial route
  abbrev pub Admitted : List ℕ → Type 0
  Admitted p = (is_partial net e p ≡ true) × (is_admissible model net e p ≡ true)

  pub in_admissible_of : (rows : List (List ℕ)) (p : List ℕ) → In p rows → Admitted p → In p (admissible_of model net e rows)
  in_admissible_of rows p i a =
      in_kept (is_admissible model net e) (filter (is_partial net e) rows) p (in_kept (is_partial net e) rows p i a.0) a.1

  pub was_in_rows : (rows : List (List ℕ)) (p : List ℕ) → In p (admissible_of model net e rows) → In p rows
  was_in_rows rows p i = (from_kept (is_partial net e) rows p (from_kept (is_admissible model net e) (filter (is_partial net e) rows) p i).0).0

  pub was_admitted : (rows : List (List ℕ)) (p : List ℕ) → In p (admissible_of model net e rows) → Admitted p
  was_admitted rows p i =
      let a = from_kept (is_admissible model net e) (filter (is_partial net e) rows) p i in
      ((from_kept (is_partial net e) rows p a.0).1, a.1)

  -- all that is written is an admissible partial route
  pub written_admitted : (ps : List (List ℕ)) (x : List ℕ) → In x (written model net e ps) → Admitted x
  written_admitted ps x i =
      ⊎_elim (was_admitted ([] ∷ []) x)
      (λ j.
      let r = from_joined (λ p. admissible_of model net e (extended net p)) (filter (λ p. not (is_complete net e p)) ps) x j in
      was_admitted (extended net r.0) x r.2)
      (from_append (admissible_of model net e ([] ∷ [])) _ x i)

  -- the empty one is written at once, and what is one arc longer than an open one that was taken
  pub written_start : (ps : List (List ℕ)) → Admitted [] → In [] (written model net e ps)
  written_start ps a = in_left (admissible_of model net e ([] ∷ [])) _ [] (in_admissible_of ([] ∷ []) [] (inl refl) a)

  pub written_child : (ps : List (List ℕ)) (p x : List ℕ) → In p ps → is_complete net e p ≡ false → In x (extended net p) → Admitted x
      → In x (written model net e ps)
  written_child ps p x i more next a =
      in_right (admissible_of model net e ([] ∷ [])) _ x
      (in_joined (λ p. admissible_of model net e (extended net p)) (filter (λ p. not (is_complete net e p)) ps) p x
      (in_kept (λ p. not (is_complete net e p)) ps p i (not_from_false _ more)) (in_admissible_of (extended net p) x next a))

  -- an admissible partial route has no more arcs than the hop limit
  pub few_hops : e.limits.hops ≤ 15 → (p : List ℕ) → is_admissible model net e p ≡ true → length p ≤ e.limits.hops
  few_hops few p h =
      let a = at_most_some net e (projected net e (standard Hops) p) e.limits.hops (within_hops model net e p h) in
      let b = projected_parts net e (standard Hops) p a.0 a.1 in
      few_of (length p) b.1 (total net Hops p) e.limits.hops (hops_total net p) few (subst (λ y. y ≤ e.limits.hops) b.4 a.2)

  -- it has a projected length, and that is a length
  abbrev pub Projects : List ℕ → Type 0
  Projects p = (y : L) × (projected_length model net e p ≡ Some y) × T ((model e.kind).valid y)

-- a least total is a length
pub least_valid : {M : Type 0} (m : Model M) (law : Lawful m) (net : Net) (wf : WellFormed net) (width destination u : ℕ) (r : M) → u < net.sites
    → least_total m net width destination u ≡ Some r → T (m.valid r)
least_valid m law net wf width destination u r below q =
    let least = subst (IsLeast m net width destination u) q (least_of_all m law net wf width destination u below) in
    subst (λ z. T (m.valid z)) least.0.2 (walk_ok m law net wf width destination u least.0.0 least.0.1)

module _ {K L : Type 0} (model : K → Model L) (net : Net) (e : Enquiry K)
    (law : Lawful (model e.kind)) (wf : WellFormed net) (source_there : e.source < net.sites) where
  pub projects : (p : List ℕ) → is_admissible model net e p ≡ true → Projects model net e p
  projects p h =
      let m : Model L = model e.kind in
      let some = some_is (projected_length model net e p) (and_parts (is_some (projected_length model net e p)) _ h).0 in
      let b = projected_parts net e m p some.0 some.1 in
      let below = end_below net e.width wf e.source p b.0 source_there b.2 in
      let rest_valid = least_valid m law net wf e.width e.destination b.0 b.1 below b.3 in
      let walk = walk_valid m law net wf p (walk_in net e.width m law wf e.source p b.0 b.2) in
      (some.0, some.1, subst (λ z. T (m.valid z)) (sym b.4) (law.join_valid (walk_length m net p) b.1 walk rest_valid))

  carries : (a b c : List ℕ) → Projects model net e a → Projects model net e b → Projects model net e c
      → T (no_longer (model e.kind) (projected_length model net e a) (projected_length model net e b))
      → T (no_longer (model e.kind) (projected_length model net e b) (projected_length model net e c))
      → T (no_longer (model e.kind) (projected_length model net e a) (projected_length model net e c))
  carries a b c pa pb pc =
      go (projected_length model net e a) (projected_length model net e b) (projected_length model net e c) pa.1 pb.1 pc.1
    where
      m : Model L
      m = model e.kind

      go : (x y z : Option L) → x ≡ Some pa.0 → y ≡ Some pb.0 → z ≡ Some pc.0
          → T (no_longer m x y) → T (no_longer m y z) → T (no_longer m x z)
      go x y z qx qy qz h k =
          let h2 : T (m.no_longer pa.0 pb.0) = subst (λ o. T (no_longer m (Some pa.0) o)) qy (subst (λ o. T (no_longer m o y)) qx h) in
          let k2 : T (m.no_longer pb.0 pc.0) = subst (λ o. T (no_longer m (Some pb.0) o)) qz (subst (λ o. T (no_longer m o z)) qy k) in
          let l : T (m.no_longer pa.0 pc.0) = law.trans pa.0 pb.0 pc.0 pa.2 pb.2 pc.2 h2 k2 in
          subst (λ o. T (no_longer m o z)) (sym qx) (subst (λ o. T (no_longer m (Some pa.0) o)) (sym qz) l)

  -- of two partial routes one may stand before the other
  pub partial_total : (a b : List ℕ) → is_admissible model net e a ≡ true → is_admissible model net e b ≡ true
      → T (partial_order model net e a b) ⊎ T (partial_order model net e b a)
  partial_total a b ha hb =
      let m : Model L = model e.kind in
      let pa = projects a ha in
      let pb = projects b hb in
      by_length_total (no_longer m) (projected_length model net e) a b
      (subst (λ o. T (no_longer m o (projected_length model net e b) || no_longer m (projected_length model net e b) o)) (sym pa.1)
      (subst (λ o. T (no_longer m (Some pa.0) o || no_longer m o (Some pa.0))) (sym pb.1) (law.total pa.0 pb.0 pa.2 pb.2)))

  -- the admissible partial routes in order are admissible partial routes, each once, each before all that follow
  pub partial_admitted : (p : List ℕ) → In p (partial_routes model net e) → Admitted model net e p
  partial_admitted p i = was_admitted model net e (paths net e) p (from_sort (partial_order model net e) (admissible_of model net e (paths net e)) p i)

  pub partial_unique : Unique (partial_routes model net e)
  partial_unique =
      unique_sort (partial_order model net e) (admissible_of model net e (paths net e))
      (unique_kept (is_admissible model net e) (filter (is_partial net e) (paths net e)) (unique_kept (is_partial net e) (paths net e) (paths_unique net wf e)))

  pub partial_rising : Rising (partial_order model net e) (partial_routes model net e)
  partial_rising =
      let m : Model L = model e.kind in
      let len : List ℕ → Option L = projected_length model net e in
      let rows : List (List ℕ) = admissible_of model net e (paths net e) in
      sort_rising (partial_order model net e) (Projects model net e)
      (by_length_antisym (no_longer m) len (Projects model net e) carries) (by_length_trans (no_longer m) len (Projects model net e) carries)
      rows (λ p i. projects p (was_admitted model net e (paths net e) p i).1)
      (unique_kept (is_admissible model net e) (filter (is_partial net e) (paths net e)) (unique_kept (is_partial net e) (paths net e) (paths_unique net wf e)))

  module _ (few : e.limits.hops ≤ 15) where
    -- and they are all of them
    pub admitted_partial : (p : List ℕ) → Admitted model net e p → In p (partial_routes model net e)
    admitted_partial p a =
        into_sort (partial_order model net e) (admissible_of model net e (paths net e)) p
        (in_admissible_of model net e (paths net e) p (in_paths net wf e p (and_parts (is_path net e p) _ a.0).0 (few_hops model net e few p a.1)) a)

    pub written_partial : (ps : List (List ℕ)) (x : List ℕ) → In x (written model net e ps) → In x (partial_routes model net e)
    written_partial ps x i = admitted_partial x (written_admitted model net e ps x i)

    -- what stands at a place
    pub at_place : (k : ℕ) → k < length (partial_routes model net e) → Admitted model net e (get_or (partial_routes model net e) k [])
    at_place k h = partial_admitted (get_or (partial_routes model net e) k []) (in_get_or (partial_routes model net e) k [] h)

    -- the parent of what stands at a place stands before it
    parent_taken : (k : ℕ) → k < length (partial_routes model net e) → (p : List ℕ) (i : ℕ) → get_or (partial_routes model net e) k [] ≡ p ++ i ∷ []
        → Admitted model net e (p ++ i ∷ []) → In p (take k (partial_routes model net e))
    parent_taken k h p i q a =
        let first = parents_come_first model net e law wf source_there p i a.0 a.1 in
        let t : T (partial_order model net e p (get_or (partial_routes model net e) k [])) =
        subst (λ x. T (partial_order model net e p x)) (sym q) (true_T _ first.2) in
        let longer = length-append p (i ∷ []) in
        ⊎_elim (λ j. j) (λ same. let l = ap length (same ∙ q) in absurd (omega arith))
        (up_to (partial_order model net e) (partial_routes model net e) k [] p partial_rising h (admitted_partial p (first.0, first.1)) t)

    first_written : (k : ℕ) → k < length (partial_routes model net e) → (x : List ℕ) → get_or (partial_routes model net e) k [] ≡ x
        → Admitted model net e x → In x (written model net e (take k (partial_routes model net e)))
    first_written k h [] q a = written_start model net e (take k (partial_routes model net e)) a
    first_written k h (j ∷ js) q a =
        let s = last_of (j ∷ js) (length js) refl in
        let p : List ℕ = s.0 in
        let i : ℕ = s.1 in
        let b : Admitted model net e (p ++ i ∷ []) = subst (Admitted model net e) s.2 a in
        let taken = parent_taken k h p i (q ∙ s.2) b in
        let path = (and_parts (is_path net e (p ++ i ∷ [])) _ b.0).0 in
        let next = in_extended net wf e p i (path_parent net wf e p i path).1 in
        subst (λ y. In y (written model net e (take k (partial_routes model net e)))) (sym s.2)
        (written_child model net e (take k (partial_routes model net e)) p (p ++ i ∷ []) taken (parent_open net e p i b.0) next b)

    pub first_is_written : (k : ℕ) → k < length (partial_routes model net e)
        → In (get_or (partial_routes model net e) k []) (written model net e (take k (partial_routes model net e)))
    first_is_written k h = first_written k h (get_or (partial_routes model net e) k []) refl (at_place k h)

    pub first_of_rest : (k : ℕ) → k < length (partial_routes model net e) → (x : List ℕ) → In x (written model net e (take k (partial_routes model net e)))
        → In x (take k (partial_routes model net e)) ⊎ T (partial_order model net e (get_or (partial_routes model net e) k []) x)
    first_of_rest k h x i = go (get_or (partial_routes model net e) k []) refl
      where
        all : List (List ℕ)
        all = partial_routes model net e

        a : Admitted model net e x
        a = written_admitted model net e (take k all) x i

        turned : (g : List ℕ) → x ≡ g → T (partial_order model net e x g) → T (partial_order model net e g x)
        turned g q t = subst (λ y. T (partial_order model net e y x)) q (subst (λ y. T (partial_order model net e x y)) (sym q) t)

        go : (g : List ℕ) → get_or all k [] ≡ g → In x (take k all) ⊎ T (partial_order model net e g x)
        go g q =
            ⊎_elim inr
            (λ t. ⊎_elim inl (λ same. inr (turned g (same ∙ q) t))
            (up_to (partial_order model net e) all k [] x partial_rising h (admitted_partial x a) (subst (λ y. T (partial_order model net e x y)) (sym q) t)))
            (partial_total g x (subst (λ y. is_admissible model net e y ≡ true) q (at_place k h).1) a.1)

module _ {K L : Type 0} (model : K → Model L) (net : Net) (e : Enquiry K) where
  pub lines_are_taken_in_order : LinesAreTakenInOrder model net e
  lines_are_taken_in_order law wf source_there apart few =
      record {
        written_first = first_is_written model net e law wf source_there few;
        before_the_rest = first_of_rest model net e law wf source_there few;
        nothing_left = written_partial model net e law wf source_there few (partial_routes model net e);
      }

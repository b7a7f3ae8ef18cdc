-- A partial route comes before each that is one arc longer: the longer one is admissible only if the
-- shorter one is, and its projected length is no less.
use Rattle.std.proofs.Common.{◌≡◌, ℕ, ◌<◌, ◌≤◌, Bool, true, false, cond, not, ◌&&◌, T, eqb, List, [], ◌∷◌, ◌++◌, map, is_some, Some, None, Option, sym, refl, ap, ◌∙◌, subst, arith, leb→le}
use borrow.Author.Tests.{clash}
use Rattle.std.specs.Option.{option_map}
use Rattle.std.proofs.lemmas.List.Folds.{list_all-append, list_any-append}
use Rattle.std.proofs.lemmas.List.{map-append}
use Rattle.std.proofs.lemmas.Bool.{leb-true, le-leb, eq-eqb, and_parts, and_from, or_parts, or_right, not-true, not_from_false}
use Rattle.network.specs.Lists.{all_of, among, distinct, place_by_place}
use Rattle.network.specs.Net.{Net, WellFormed, arc_at}
use Rattle.length.specs.Model.{Model, Lawful}
use Rattle.length.specs.declared.standard.StandardKind.{StandardKind}
use Rattle.length.specs.declared.standard.StandardKind.TheVariants.{Delay, Jitter, Charge, Hops}
use Rattle.length.specs.Standard.{standard}
use Rattle.length.specs.Walks.{usable, follow, sites_along, walk_length}
use Rattle.length.specs.Least.{least_total, IsLeast}
use Rattle.length.specs.Lawful.{standard_lawful}
use Rattle.length.proofs.Walks.{there, walk_push, walk_valid}
use Rattle.network.specs.ListsLemmas.{some_same, none_some}
use Rattle.length.proofs.Least.{T_true, way_rest, arc_there, walk_there, arc_ok, walk_ok, to_below, least_of_all}
use Rattle.routes.specs.declared.enquiry.Enquiry.{Enquiry}
use Rattle.routes.specs.Totals.{Limit, limits_of}
use Rattle.routes.specs.Routes.{end_of, is_path, some_site}
use Rattle.routes.specs.Partial.{at_most, no_longer, is_partial, rest_from, projected}
use Rattle.routes.specs.Listing.{ParentsComeFirst}

pub among_front : (x : ℕ) (xs ys : List ℕ) → among x (xs ++ ys) ≡ false → among x xs ≡ false
among_front x xs ys h = (or_parts (among x xs) (among x ys) (sym (list_any-append (eqb x) xs ys) ∙ h)).0

pub distinct_front : (xs ys : List ℕ) → distinct (xs ++ ys) ≡ true → distinct xs ≡ true
distinct_front [] ys h = refl
distinct_front (x ∷ xs) ys h =
    let p = and_parts (not (among x (xs ++ ys))) (distinct (xs ++ ys)) h in
    and_from (not (among x xs)) (distinct xs) (not_from_false _ (among_front x xs ys (not-true _ p.0))) (distinct_front xs ys p.1)

pub all_front : (t : ℕ → Bool) (xs ys : List ℕ) → all_of t (xs ++ ys) ≡ true → all_of t xs ≡ true
all_front t xs ys h = (and_parts (all_of t xs) (all_of t ys) (sym (list_all-append t xs ys) ∙ h)).0

pub some_there : (o : Option ℕ) → some_site o ≡ true → (t : ℕ) × (o ≡ Some t)
some_there None h = absurd (clash h)
some_there (Some t) h = (t, refl)

pub some_is : {M : Type 0} (o : Option M) → is_some o ≡ true → (y : M) × (o ≡ Some y)
some_is None h = absurd (clash h)
some_is (Some y) h = (y, refl)

-- a list comes before each that it begins
pub begins_first : (xs ys : List ℕ) → place_by_place xs (xs ++ ys) ≡ true
begins_first [] ys = refl
begins_first (x ∷ xs) ys = or_right _ _ (and_from _ _ (eq-eqb x x refl) (begins_first xs ys))

module _ (net : Net) (width : ℕ) where
  abbrev pub test : ℕ → ℕ → Bool
  test s i = usable net width i && eqb (arc_at net i).from s

  pub cut : (b : Bool) (o : Option ℕ) (t : ℕ) → cond b o None ≡ Some t → (b ≡ true) × (o ≡ Some t)
  cut true o t e = (refl, e)
  cut false o t e = absurd (none_some e)

  pub follow_first : (s j : ℕ) (js : List ℕ) (u : ℕ) → test s j ≡ true → follow net width (arc_at net j).to js ≡ Some u → follow net width s (j ∷ js) ≡ Some u
  follow_first s j js u t f = rw t f

  -- a walk that is one arc longer
  pub follow_push : (s : ℕ) (p : List ℕ) (i t : ℕ) → follow net width s (p ++ i ∷ []) ≡ Some t
      → (u : ℕ) × (follow net width s p ≡ Some u) × (test u i ≡ true) × ((arc_at net i).to ≡ t)
  follow_push s [] i t e = let c = cut (test s i) (Some (arc_at net i).to) t e in (s, refl, c.0, some_same c.1)
  follow_push s (j ∷ js) i t e =
      let c = cut (test s j) (follow net width (arc_at net j).to (js ++ i ∷ [])) t e in
      let r = follow_push (arc_at net j).to js i t c.1 in
      (r.0, follow_first s j js r.0 c.0 r.1, r.2, r.3)

  pub end_below : WellFormed net → (s : ℕ) (p : List ℕ) (t : ℕ) → s < net.sites → follow net width s p ≡ Some t → t < net.sites
  end_below wf s [] t h e = subst (λ x. x < net.sites) (some_same e) h
  end_below wf s (j ∷ js) t h e =
      let c = cut (test s j) (follow net width (arc_at net j).to js) t e in
      end_below wf (arc_at net j).to js t (to_below (standard Delay) (standard_lawful Delay) net wf width 0 s j c.0) c.1

  pub walk_in : {M : Type 0} (m : Model M) → Lawful m → WellFormed net → (s : ℕ) (p : List ℕ) (t : ℕ) → follow net width s p ≡ Some t → T (there net p)
  walk_in m law wf s p t e = walk_there m law net wf width t s p e

pub mapped_some : {A B : Type 0} (f : A → B) (o : Option A) (z : B) → option_map f o ≡ Some z → (y : A) × (o ≡ Some y) × (z ≡ f y)
mapped_some f None z e = absurd (none_some e)
mapped_some f (Some y) z e = (y, refl, sym (some_same e))

module _ {K : Type 0} (net : Net) (wf : WellFormed net) (e : Enquiry K) (source_there : e.source < net.sites) where
  -- what the least total from the end of a walk tells of the least total one arc before
  pub least_before : {M : Type 0} (m : Model M) (law : Lawful m) (s i : ℕ) (r : M) → s < net.sites → test net e.width s i ≡ true
      → least_total m net e.width e.destination (arc_at net i).to ≡ Some r
      → (q : M) × (least_total m net e.width e.destination s ≡ Some q) × T (m.no_longer q (m.join (m.arc (arc_at net i)) r)) × T (m.valid q) × T (m.valid r)
  least_before {M} m law s i r hs t er =
      go (least_total m net e.width e.destination s) refl (least_of_all m law net wf e.width e.destination s hs)
    where
      at : ℕ
      at = (arc_at net i).to

      ahead : IsLeast m net e.width e.destination at (Some r)
      ahead = subst (IsLeast m net e.width e.destination at) er (least_of_all m law net wf e.width e.destination at (to_below m law net wf e.width e.destination s i t))

      walk : List ℕ
      walk = ahead.0.0

      way : follow net e.width s (i ∷ walk) ≡ Some e.destination
      way = way_rest m law net wf e.width e.destination s i walk t ahead.0.1

      valid_r : T (m.valid r)
      valid_r = subst (λ x. T (m.valid x)) ahead.0.2 (walk_ok m law net wf e.width e.destination at walk ahead.0.1)

      Wanted : Option M → Type 0
      Wanted o = (q : M) × (o ≡ Some q) × T (m.no_longer q (m.join (m.arc (arc_at net i)) r)) × T (m.valid q) × T (m.valid r)

      go : (o : Option M) → least_total m net e.width e.destination s ≡ o → IsLeast m net e.width e.destination s o → Wanted o
      go None eq none = absurd (none (i ∷ walk) way)
      go (Some q) eq least =
          let near : T (m.no_longer q (m.join (m.arc (arc_at net i)) (walk_length m net walk))) = least.1 (i ∷ walk) way in
          let vq : T (m.valid q) = subst (λ x. T (m.valid x)) least.0.2 (walk_ok m law net wf e.width e.destination s least.0.0 least.0.1) in
          (q, refl, subst (λ x. T (m.no_longer q (m.join (m.arc (arc_at net i)) x))) ahead.0.2 near, vq, valid_r)

  there_is_at : {M : Type 0} (m : Model M) (p : List ℕ) (u : ℕ) (q : M) → end_of net e p ≡ Some u → least_total m net e.width e.destination u ≡ Some q
      → projected net e m p ≡ Some (m.join (walk_length m net p) q)
  there_is_at m p u q ends least = ap (λ o. option_map (m.join (walk_length m net p)) (rest_from net e m o)) ends ∙ ap (option_map (m.join (walk_length m net p))) least

  -- projected lengths do not fall along a route
  pub projected_grows : {M : Type 0} (m : Model M) (law : Lawful m) (p : List ℕ) (i : ℕ) (y : M) → projected net e m (p ++ i ∷ []) ≡ Some y
      → (x : M) × (projected net e m p ≡ Some x) × T (m.no_longer x y)
  projected_grows {M} m law p i y eq = go (end_of net e (p ++ i ∷ [])) refl eq
    where
      Wanted : Type 0
      Wanted = (x : M) × (projected net e m p ≡ Some x) × T (m.no_longer x y)

      go : (o : Option ℕ) → end_of net e (p ++ i ∷ []) ≡ o → option_map (m.join (walk_length m net (p ++ i ∷ []))) (rest_from net e m o) ≡ Some y → Wanted
      go None h f = absurd (none_some f)
      go (Some t) h f =
          let b = follow_push net e.width e.source p i t h in
          let u : ℕ = b.0 in
          let hu = end_below net e.width wf e.source p u source_there b.1 in
          let r = mapped_some (m.join (walk_length m net (p ++ i ∷ []))) (least_total m net e.width e.destination t) y f in
          let at_to : least_total m net e.width e.destination (arc_at net i).to ≡ Some r.0 = rw b.3 r.1 in
          let q = least_before m law u i r.0 hu b.2 at_to in
          let w : M = walk_length m net p in
          let a : M = m.arc (arc_at net i) in
          let tp = walk_in net e.width m law wf e.source p u b.1 in
          let vw = walk_valid m law net wf p tp in
          let va = arc_ok m law net wf e.width e.destination u i b.2 in
          let len : walk_length m net (p ++ i ∷ []) ≡ m.join w a = walk_push m law net wf p i tp (arc_there m law net wf e.width e.destination u i b.2) in
          let ahead : T (m.no_longer (m.join w q.0) (m.join w (m.join a r.0))) = law.join_left q.0 (m.join a r.0) w q.3 (law.join_valid a r.0 va q.4) vw q.2 in
          let same : m.join w (m.join a r.0) ≡ y = sym (law.assoc w a r.0 vw va q.4) ∙ (ap (λ z. m.join z r.0) (sym len) ∙ sym r.2) in
          (m.join w q.0, there_is_at m p u q.0 b.1 q.1, subst (λ z. T (m.no_longer (m.join w q.0) z)) same ahead)

  -- so an admissible partial route has an admissible parent
  at_most_step : (m : Model ℕ) (law : Lawful m) (order_is : (a b : ℕ) → T (m.no_longer a b) → a ≤ b) (p : List ℕ) (i limit : ℕ)
      → at_most (projected net e m (p ++ i ∷ [])) limit ≡ true → at_most (projected net e m p) limit ≡ true
  at_most_step m law order_is p i limit h = go (projected net e m (p ++ i ∷ [])) refl h
    where
      go : (o : Option ℕ) → projected net e m (p ++ i ∷ []) ≡ o → at_most o limit ≡ true → at_most (projected net e m p) limit ≡ true
      go None q k = absurd (clash k)
      go (Some y) q k =
          let r = projected_grows m law p i y q in
          let small = order_is r.0 y r.2 in
          let top = leb-true y limit k in
          ap (λ o. at_most o limit) r.1 ∙ le-leb r.0 limit (omega arith)

  standard_step : (kind : StandardKind) (order_is : (a b : ℕ) → T ((standard kind).no_longer a b) → a ≤ b) (p : List ℕ) (i limit : ℕ)
      → at_most (projected net e (standard kind) (p ++ i ∷ [])) limit ≡ true → at_most (projected net e (standard kind) p) limit ≡ true
  standard_step kind order_is p i limit h = at_most_step (standard kind) (standard_lawful kind) order_is p i limit h

  pub partial_parent : (p : List ℕ) (i : ℕ) → is_partial net e (p ++ i ∷ []) ≡ true → is_partial net e p ≡ true
  partial_parent p i h =
      let q : List ℕ = p ++ i ∷ [] in
      let halves = and_parts (is_path net e q) (all_of (λ j. not (eqb (arc_at net j).from e.destination)) q) h in
      let path = and_parts (some_site (end_of net e q)) (distinct (sites_along net e.source q)) halves.0 in
      let ends = some_there (end_of net e q) path.0 in
      let b = follow_push net e.width e.source p i ends.0 ends.1 in
      let apart : distinct ((e.source ∷ map (λ j. (arc_at net j).to) p) ++ (arc_at net i).to ∷ []) ≡ true =
      subst (λ l. distinct (e.source ∷ l) ≡ true) (map-append (λ j. (arc_at net j).to) p (i ∷ [])) path.1 in
      and_from _ _
      (and_from _ _ (ap some_site b.1) (distinct_front (e.source ∷ map (λ j. (arc_at net j).to) p) ((arc_at net i).to ∷ []) apart))
      (all_front (λ j. not (eqb (arc_at net j).from e.destination)) p (i ∷ []) halves.1)

module _ {K L : Type 0} (model : K → Model L) (net : Net) (e : Enquiry K) where
  pub parents_come_first : ParentsComeFirst model net e
  parents_come_first law wf there p i partial admissible =
      let q : List ℕ = p ++ i ∷ [] in
      let m : Model L = model e.kind in
      let within : StandardKind → ℕ → List ℕ → Bool = λ kind limit arcs. at_most (projected net e (standard kind) arcs) limit in
      let two = and_parts (is_some (projected net e m q)) (all_of (λ (l : Limit). within l.0 l.1 q) (limits_of e.limits)) admissible in
      let d = and_parts (within Delay e.limits.delay q) _ two.1 in
      let j = and_parts (within Jitter e.limits.jitter q) _ d.1 in
      let c = and_parts (within Charge e.limits.charge q) _ j.1 in
      let h = and_parts (within Hops e.limits.hops q) true c.1 in
      let some = some_is (projected net e m q) two.0 in
      let grown = projected_grows net wf e there m law p i some.0 some.1 in
      let step = standard_step net wf e there in (
        partial_parent net wf e there p i partial,
        and_from _ _ (ap is_some grown.1)
            (and_from _ _ (step Delay leb→le p i e.limits.delay d.0)
            (and_from _ _ (step Jitter leb→le p i e.limits.jitter j.0)
            (and_from _ _ (step Charge leb→le p i e.limits.charge c.0)
            (and_from _ _ (step Hops leb→le p i e.limits.hops h.0) refl)))),
        and_from _ _
            (ap (λ o. no_longer m o (projected net e m q)) grown.1 ∙ (ap (no_longer m (Some grown.0)) some.1 ∙ T_true _ grown.2))
            (or_right _ _ (begins_first p (i ∷ []))),
      )

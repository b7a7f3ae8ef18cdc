-- One arc more: what becomes of a partial route's end, sites, totals and limits.
use Rattle.std.proofs.Common.{◌≡◌, ℕ, Bool, true, false, cond, not, ◌&&◌, ◌||◌, eqb, List, [], ◌∷◌, ◌++◌, Some, None, refl, ap, ◌∙◌, arith}
use Rattle.std.proofs.Math.Bool.{and-true, or-false}
use Rattle.std.proofs.lemmas.List.Folds.{list_all-append, list_any-append}
use Rattle.std.proofs.lemmas.List.{map-append}
use Rattle.std.proofs.lemmas.Bool.Decides.{nat_tests}
use Rattle.std.proofs.lemmas.Bool.{and_parts, eqb-true}
use Rattle.network.specs.ListsLemmas.{some_same}
use Rattle.network.specs.Lists.{all_of, among, distinct}
use Rattle.network.specs.Net.{Net, arc_at}
use Rattle.length.specs.Walks.{usable, follow, sites_along}
use Rattle.routes.specs.declared.enquiry.Enquiry.{Enquiry}
use Rattle.routes.specs.Routes.{end_of, is_path, some_site}
use Rattle.routes.specs.Partial.{is_partial}
use Rattle.routes.proofs.Parents.{test, cut}

pub among_push : (x : ℕ) (xs : List ℕ) (y : ℕ) → among x (xs ++ y ∷ []) ≡ (among x xs || eqb x y)
among_push x xs y = list_any-append (eqb x) xs (y ∷ []) ∙ ap (λ b. among x xs || b) (or-false (eqb x y))

pub eqb_swap : (a b : ℕ) → eqb a b ≡ eqb b a
eqb_swap a b = grind (arith, nat_tests)

shuffle : (m e d n : Bool) → (not (m || e) && (d && not n)) ≡ ((not m && d) && not (e || n))
shuffle true e d n = refl
shuffle false true true n = refl
shuffle false true false n = refl
shuffle false false d n = refl

pub distinct_push : (xs : List ℕ) (y : ℕ) → distinct (xs ++ y ∷ []) ≡ (distinct xs && not (among y xs))
distinct_push [] y = refl
distinct_push (x ∷ xs) y =
    simp (among_push x xs y, distinct_push xs y, eqb_swap y x) (shuffle (among x xs) (eqb x y) (distinct xs) (among y xs))

pub all_push : {A : Type 0} (t : A → Bool) (xs : List A) (y : A) → all_of t (xs ++ y ∷ []) ≡ (all_of t xs && t y)
all_push t xs y = list_all-append t xs (y ∷ []) ∙ ap (λ b. all_of t xs && b) (and-true (t y))

pub sites_push : (net : Net) (s : ℕ) (p : List ℕ) (i : ℕ) → sites_along net s (p ++ i ∷ []) ≡ sites_along net s p ++ (arc_at net i).to ∷ []
sites_push net s p i = ap (λ l. s ∷ l) (map-append (λ j. (arc_at net j).to) p (i ∷ []))

-- where a walk ends that is one arc longer
pub follow_step : (net : Net) (width s : ℕ) (p : List ℕ) (i u : ℕ) → follow net width s p ≡ Some u
    → follow net width s (p ++ i ∷ []) ≡ cond (test net width u i) (Some (arc_at net i).to) None
follow_step net width s [] i u e = ap (λ x. cond (test net width x i) (Some (arc_at net i).to) None) (some_same e)
follow_step net width s (j ∷ js) i u e =
    let c = cut net width (test net width s j) (follow net width (arc_at net j).to js) u e in
    rw c.0 (follow_step net width (arc_at net j).to js i u c.1)

module _ {K : Type 0} (net : Net) (e : Enquiry K) (p : List ℕ) (i u : ℕ) (ends : end_of net e p ≡ Some u) where
  -- the arc can follow: it is usable, begins where the partial route ends, and leads to a site not met before
  abbrev pub can_follow : Bool
  can_follow = test net e.width u i && not (among (arc_at net i).to (sites_along net e.source p))

  pub end_step : end_of net e (p ++ i ∷ []) ≡ cond (test net e.width u i) (Some (arc_at net i).to) None
  end_step = follow_step net e.width e.source p i u ends

  some_cond : (b : Bool) (t : ℕ) → some_site (cond b (Some t) None) ≡ b
  some_cond true t = refl
  some_cond false t = refl

  pub partial_step : is_partial net e p ≡ true → eqb u e.destination ≡ false → is_partial net e (p ++ i ∷ []) ≡ can_follow
  partial_step partial away =
      let halves = and_parts (is_path net e p) (all_of (λ j. not (eqb (arc_at net j).from e.destination)) p) partial in
      let path = and_parts (some_site (end_of net e p)) (distinct (sites_along net e.source p)) halves.0 in
      let more : distinct (sites_along net e.source (p ++ i ∷ [])) ≡ not (among (arc_at net i).to (sites_along net e.source p)) =
      ap distinct (sites_push net e.source p i) ∙ distinct_push (sites_along net e.source p) (arc_at net i).to
      ∙ ap (λ b. b && not (among (arc_at net i).to (sites_along net e.source p))) path.1 in
      let from : all_of (λ j. not (eqb (arc_at net j).from e.destination)) (p ++ i ∷ []) ≡ not (eqb (arc_at net i).from e.destination) =
      all_push (λ j. not (eqb (arc_at net j).from e.destination)) p i ∙ ap (λ b. b && not (eqb (arc_at net i).from e.destination)) halves.1 in
      let some : some_site (end_of net e (p ++ i ∷ [])) ≡ test net e.width u i = ap some_site end_step ∙ some_cond (test net e.width u i) (arc_at net i).to in
      ap (λ b. (b && distinct (sites_along net e.source (p ++ i ∷ []))) && all_of (λ j. not (eqb (arc_at net j).from e.destination)) (p ++ i ∷ [])) some
      ∙ ap (λ b. (test net e.width u i && b) && all_of (λ j. not (eqb (arc_at net j).from e.destination)) (p ++ i ∷ [])) more
      ∙ ap (λ b. (test net e.width u i && not (among (arc_at net i).to (sites_along net e.source p))) && b) from
      ∙ last (test net e.width u i) refl
    where
      last : (b : Bool) → test net e.width u i ≡ b
          → ((b && not (among (arc_at net i).to (sites_along net e.source p))) && not (eqb (arc_at net i).from e.destination)) ≡ (b && not (among (arc_at net i).to (sites_along net e.source p)))
      last true q =
          let begins = eqb-true (arc_at net i).from u (and_parts (usable net e.width i) (eqb (arc_at net i).from u) q).1 in
          ap (λ b. not (among (arc_at net i).to (sites_along net e.source p)) && not b) (ap (λ x. eqb x e.destination) begins ∙ away)
          ∙ and-true (not (among (arc_at net i).to (sites_along net e.source p)))
      last false q = refl

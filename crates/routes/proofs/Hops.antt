-- An admissible partial route that has not arrived has fewer than 15 arcs.
use Rattle.std.proofs.Common.{◌≡◌, ℕ, ◌<◌, ◌≤◌, true, false, eqb, List, [], ◌∷◌, length, is_some, Some, None, Option, refl, subst, arith}
use borrow.Author.Tests.{clash}
use Rattle.std.specs.Option.{option_map}
use Rattle.std.proofs.lemmas.Bool.{and_parts, eqb-false, leb-true}
use Rattle.network.specs.ListsLemmas.{some_same}
use Rattle.network.specs.Net.{Net, WellFormed}
use Rattle.length.specs.declared.standard.StandardKind.TheVariants.{Delay, Jitter, Charge, Hops}
use Rattle.length.specs.Model.{Model}
use Rattle.length.specs.Standard.{capped_sum, standard}
use Rattle.length.specs.Walks.{follow, walk_length}
use Rattle.length.specs.Least.{IsLeast, least_total}
use Rattle.length.specs.Lawful.{standard_lawful}
use Rattle.length.proofs.Least.{least_of_all}
use Rattle.routes.specs.declared.enquiry.Enquiry.{Enquiry}
use Rattle.routes.specs.Totals.{total}
use Rattle.routes.specs.Routes.{end_of}
use Rattle.routes.specs.Partial.{is_admissible, at_most, projected, projected_length}
use Rattle.routes.proofs.Enumerate.{hops_total}
use Rattle.routes.proofs.Parents.{end_below}

module _ {K L : Type 0} (model : K → Model L) (net : Net) (e : Enquiry K) where
  -- the limit on hops, of an admissible row of arcs
  pub within_hops : (p : List ℕ) → is_admissible model net e p ≡ true → at_most (projected net e (standard Hops) p) e.limits.hops ≡ true
  within_hops p h =
      let two = and_parts (is_some (projected_length model net e p)) _ h in
      let d = and_parts (at_most (projected net e (standard Delay) p) e.limits.delay) _ two.1 in
      let j = and_parts (at_most (projected net e (standard Jitter) p) e.limits.jitter) _ d.1 in
      let c = and_parts (at_most (projected net e (standard Charge) p) e.limits.charge) _ j.1 in
      (and_parts (at_most (projected net e (standard Hops) p) e.limits.hops) true c.1).0

module _ {K L : Type 0} (model : K → Model L) (net : Net) (wf : WellFormed net) (e : Enquiry K) where
  -- the least hops from a site that is not the destination are at least 1
  far : (u x : ℕ) → u < net.sites → eqb u e.destination ≡ false → least_total (standard Hops) net e.width e.destination u ≡ Some x → 1 ≤ x
  far u x hu away is =
      let least : IsLeast (standard Hops) net e.width e.destination u (Some x) =
      subst (IsLeast (standard Hops) net e.width e.destination u) is (least_of_all (standard Hops) (standard_lawful Hops) net wf e.width e.destination u hu) in
      go least.0.0 least.0.1 least.0.2
    where
      go : (w : List ℕ) → follow net e.width u w ≡ Some e.destination → walk_length (standard Hops) net w ≡ x → 1 ≤ x
      go [] way long = absurd (eqb-false u e.destination away (some_same way))
      go (i ∷ is) way long = let h = hops_total net (i ∷ is) in omega arith

  pub still_short : (p : List ℕ) (u : ℕ) → e.source < net.sites → e.limits.hops ≤ 15 → end_of net e p ≡ Some u → eqb u e.destination ≡ false
      → is_admissible model net e p ≡ true → length p < 15
  still_short p u source few ends away admissible =
      go (least_total (standard Hops) net e.width e.destination u) refl
    where
      hu : u < net.sites
      hu = end_below net e.width wf e.source p u source ends

      within : at_most (option_map (capped_sum (total net Hops p)) (least_total (standard Hops) net e.width e.destination u)) e.limits.hops ≡ true
      within = subst (λ o. at_most (option_map (capped_sum (total net Hops p)) o) e.limits.hops ≡ true) refl (rw ends at (within_hops model net e p admissible))

      go : (o : Option ℕ) → least_total (standard Hops) net e.width e.destination u ≡ o → length p < 15
      go None q = absurd (clash (rw q at within))
      go (Some x) q =
          let one = far u x hu away q in
          let top = leb-true _ _ (rw q at within) in
          let many = hops_total net p in
          omega arith

-- What an enquiry has once the checks before the work have passed, and its answer then.
use Rattle.std.proofs.Common.{◌≡◌, ℕ, ◌<◌, ◌≤◌, min, Bool, true, false, cond, ◌||◌, eqb, ltb, leb, List, length, drop, Some, None, Ok, Err, Option, sym, refl, ap, ◌∙◌, subst, arith, ltb-false}
use Rattle.std.proofs.lemmas.List.FromFn.{get_or-map-range_with_len, length-map-range_with_len}
use Rattle.std.proofs.lemmas.List.{get_or_append_left, length-append}
use Rattle.std.proofs.lemmas.Bool.Decides.{nat_tests}
use Rattle.std.proofs.lemmas.Bool.{eqb-false, leb-false, or_parts}
use Rattle.network.specs.Checks.{Told, answered, first_failed, refusal}
use Rattle.network.specs.Net.{Net}
use Rattle.network.specs.ListsLemmas.{none_some}
use Rattle.length.specs.Model.{Model}
use Rattle.length.specs.Least.{least_total, least_totals, table_after}
use Rattle.routes.specs.declared.checking.Sizes.{Sizes}
use Rattle.routes.specs.Enquire.{Brought, Tables, checks_before, early_checks, enquiry_answer, enquiry_outcome, filled_tables, found, shorter_than, too_few_lines}
use Rattle.routes.specs.Lent.{routes_answer, routes_list}
use Rattle.routes.specs.Routes.{list_after, route_list}
use Rattle.routes.specs.Lines.{Asked, HoldsRests}
use Rattle.routes.specs.Sizes.{size_checks}

passed_one : (b : Bool) (t : Told) (rest : Option Told) → cond b (Some t) rest ≡ None → (b ≡ false) × (rest ≡ None)
passed_one true t rest h = absurd (none_some (sym h))
passed_one false t rest h = (refl, h)

-- what the result of checks tells
checks_failed : (o : Option Told) (t : Told) → Err t ≡ answered {A = Unit {0}} o tt → o ≡ Some t
checks_failed None t q = cc
checks_failed (Some r) t q = cc

checks_passed : (o : Option Told) → Ok tt ≡ answered {A = Unit {0}} o tt → o ≡ None
checks_passed None q = refl
checks_passed (Some r) q = cc

-- what stands once the checks have passed
pub record Passed {K L : Type 0} (net : Net) (b : Brought K L) : Type 0 where
  pub asked : Asked net b.enquiry
  pub width : 0 < b.enquiry.width
  pub list : b.enquiry.wanted ≤ length b.list
  pub by_kind : net.sites ≤ length b.tables.by_kind
  pub by_delay : net.sites ≤ length b.tables.by_delay
  pub by_jitter : net.sites ≤ length b.tables.by_jitter
  pub by_charge : net.sites ≤ length b.tables.by_charge
  pub by_hops : net.sites ≤ length b.tables.by_hops

pub early_passed : {K L : Type 0} (model : K → Model L) (net : Net) (b : Brought K L) → first_failed (early_checks model net b) ≡ None → Passed net b
early_passed model net b h =
    let e = b.enquiry in
    let t = b.tables in
    let n = net.sites in
    let c20 = passed_one (leb n e.source || leb n e.destination) _ _ h in
    let c21 = passed_one (eqb e.source e.destination) _ _ c20.1 in
    let c22 = passed_one (eqb e.width 0) _ _ c21.1 in
    let c23 = passed_one (ltb e.limits.hops 1 || ltb 15 e.limits.hops) _ _ c22.1 in
    let c24 = passed_one (ltb e.wanted 1 || ltb 32 e.wanted) _ _ c23.1 in
    let c25 = passed_one (ltb (length b.list) e.wanted) _ _ c24.1 in
    let c26 = passed_one (shorter_than n t) _ _ c25.1 in
    let sites = or_parts _ _ c20.0 in
    let hops = or_parts _ _ c23.0 in
    let wanted = or_parts _ _ c24.0 in
    let t1 = or_parts _ (ltb (length t.by_hops) n) c26.0 in
    let t2 = or_parts _ (ltb (length t.by_charge) n) t1.0 in
    let t3 = or_parts _ (ltb (length t.by_jitter) n) t2.0 in
    let t4 = or_parts (ltb (length t.by_kind) n) (ltb (length t.by_delay) n) t3.0 in
    let some_width = eqb-false e.width 0 c22.0 in
    record {
      asked = record {
        source_there = leb-false n e.source sites.0;
        destination_there = leb-false n e.destination sites.1;
        apart = eqb-false e.source e.destination c21.0;
        some_hops = ltb-false e.limits.hops 1 hops.0;
        few_hops = ltb-false 15 e.limits.hops hops.1;
        some_wanted = ltb-false e.wanted 1 wanted.0;
        few_wanted = ltb-false 32 e.wanted wanted.1;
      };
      width = positive e.width some_width;
      list = ltb-false (length b.list) e.wanted c25.0;
      by_kind = ltb-false (length t.by_kind) n t4.0;
      by_delay = ltb-false (length t.by_delay) n t4.1;
      by_jitter = ltb-false (length t.by_jitter) n t3.1;
      by_charge = ltb-false (length t.by_charge) n t2.1;
      by_hops = ltb-false (length t.by_hops) n t1.1;
    }
  where
    positive : (n : ℕ) → (n ≡ 0 → ⊥) → 0 < n
    positive n h = omega (arith, h)

-- the shortest of the tables is too short where one is
pub shortest_short : {L : Type 0} (t : Tables L) (n : ℕ)
    → ltb (min (min (min (length t.by_kind) (length t.by_delay)) (min (length t.by_jitter) (length t.by_charge))) (length t.by_hops)) n ≡ shorter_than n t
shortest_short t n = grind (arith, nat_tests)

-- the checks by sizes are those of the enquiry
module _ {K L : Type 0} (model : K → Model L) (net : Net) (b : Brought K L) (sizes : Sizes) (sites : sizes.sites ≡ net.sites) (rows : sizes.list ≡ length b.list)
    (places : sizes.tables
    ≡ min (min (min (length b.tables.by_kind) (length b.tables.by_delay)) (min (length b.tables.by_jitter) (length b.tables.by_charge))) (length b.tables.by_hops)) where
  same_checks : first_failed (size_checks b.enquiry sizes) ≡ first_failed (early_checks model net b)
  same_checks =
      let short : ltb sizes.tables sizes.sites ≡ shorter_than net.sites b.tables = (λ k. ltb (places k) (sites k)) ∙ shortest_short b.tables net.sites in
      λ k. first_failed (checks_before b.enquiry (sites k) (rows k) (short k))

  pub one_failed : (told : Told) → Err told ≡ answered {A = Unit {0}} (first_failed (size_checks b.enquiry sizes)) tt → first_failed (early_checks model net b) ≡ Some told
  one_failed told q = sym same_checks ∙ checks_failed (first_failed (size_checks b.enquiry sizes)) told q

  pub none_failed : Ok tt ≡ answered {A = Unit {0}} (first_failed (size_checks b.enquiry sizes)) tt → first_failed (early_checks model net b) ≡ None
  none_failed q = sym same_checks ∙ checks_passed (first_failed (size_checks b.enquiry sizes)) q

-- a filled table holds the least totals
pub filled_holds : {L : Type 0} (m : Model L) (net : Net) (width destination : ℕ) (brought table : List (Option L)) → table ≡ table_after m net width destination brought
    → HoldsRests m net width destination table
filled_holds m net width destination brought table is =
    let long : length (least_totals m net width destination) ≡ net.sites = length-map-range_with_len (least_total m net width destination) 0 net.sites in
    subst (HoldsRests m net width destination) (sym is) (
      omega (arith, long, length-append (least_totals m net width destination) (drop net.sites brought)),
      λ site h.
          get_or_append_left (least_totals m net width destination) (drop net.sites brought) None site (omega (arith, long))
          ∙ get_or-map-range_with_len (least_total m net width destination) 0 net.sites site site None h (omega arith),
    )

module _ {K L : Type 0} (model : K → Model L) (net : Net) (b : Brought K L) where
  -- the answer where a check before the work fails
  pub refused_early : (told : Told) → first_failed (early_checks model net b) ≡ Some told → enquiry_answer model net b ≡ record { result = Err told; tables = b.tables; list = b.list }
  refused_early told h = ap (λ o. enquiry_outcome model net b o (too_few_lines model net b)) h

  -- and where they pass: what the work comes to, and the tables filled
  pub answered_work : first_failed (early_checks model net b) ≡ None
      → enquiry_answer model net b
      ≡ record { result = routes_answer model net b.enquiry b.notebook; tables = filled_tables model net b; list = routes_list model net b.enquiry b.notebook b.list }
  answered_work h = ap (λ o. enquiry_outcome model net b o (too_few_lines model net b)) h ∙ go (too_few_lines model net b)
    where
      go : (short : Bool)
          → enquiry_outcome model net b None short
          ≡ record {
            result = cond short (Err (refusal 27)) (Ok (found model net b));
            tables = filled_tables model net b;
            list = cond short b.list (list_after net (route_list model net b.enquiry) b.list);
          }
      go true = refl
      go false = refl

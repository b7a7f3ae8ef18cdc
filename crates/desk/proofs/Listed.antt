-- Each enquiry lists what it should.
use Rattle.std.proofs.Common.{◌≡◌, ℕ, zero, suc, ◌+◌, ◌-◌, ◌<◌, ◌≤◌, Bool, true, false, cond, ltb, List, [], ◌∷◌, ◌++◌, map, length, take, drop, replicate, Some, None, Ok, Option, Result, sym, refl, ap, ◌∙◌, subst, inl, inr, arith}
use mathlib.Core.Path.{fun_ext}
use lib.ListN.{length-map}
use borrow.Author.Tests.{clash}
use Rattle.std.specs.List.{range_with_len, AllByRecursion}
use Rattle.std.proofs.lemmas.List.{take_at, drop_at}
use Rattle.std.proofs.lemmas.Bool.{ltb-true, ltb-false, lt-ltb, or_parts}
use Rattle.std.proofs.ByRecursion.{All-get_or, All-map}
use Rattle.std.proofs.lemmas.List.FromFn.{length-map-range_with_len}
use Rattle.network.specs.Lists.{In}
use Rattle.network.specs.Checks.{Check, Told, first_failed}
use Rattle.network.specs.Net.{Net, WellFormed, ArcFits, arc_count, arc_at, no_arc, with_capacity}
use Rattle.length.specs.Model.{Model, Lawful}
use Rattle.routes.specs.declared.enquiry.RouteRow.{RouteRow}
use Rattle.routes.specs.Routes.{row_of, routes_in, route_list, list_after}
use Rattle.routes.specs.Enquire.{Brought, EnquiryAnswer, early_checks, too_few_lines, found, enquiry_outcome, enquiry_answer}
use Rattle.routes.specs.Listing.{Lists}
use Rattle.routes.proofs.Enumerate.{route_list_lists}
use Rattle.routes.proofs.Sorting.{all_in}
use Rattle.ledger.specs.Tally.{Tally, opened, free_on, free_net, with_free, taken_on}
use Rattle.desk.specs.Calls.{Call, enquired, tally_of}
use Rattle.desk.specs.Trace.{Trace, calls, net_after}
use Rattle.desk.specs.Faithful.{Answered, Enquired, enquiry_step, run_from}
use Rattle.desk.proofs.Capacity.{free_is}
use Rattle.desk.proofs.Answers.{run_split, answer_is}

-- if no check is told, none failed
pub all_passed : (cs : List Check) → first_failed cs ≡ None → AllByRecursion (λ c. c.0 ≡ false) cs
all_passed [] e = tt
all_passed (c ∷ cs) e = go c.0 refl e (all_passed cs)
  where
    go : (b : Bool) → c.0 ≡ b → cond b (Some c.1) (first_failed cs) ≡ None → (first_failed cs ≡ None → AllByRecursion (λ c. c.0 ≡ false) cs) → AllByRecursion (λ c. c.0 ≡ false) (c ∷ cs)
    go true q e ih = absurd (let z : ◌≡◌ {A = ℕ} 0 1 = cc in omega arith)
    go false q e ih = (q, ih e)

ok_same : {A E : Type 0} {x y : A} → ◌≡◌ {A = Result A E} (Ok x) (Ok y) → x ≡ y
ok_same e = cc

rows_back : (net : Net) (rs : List (List ℕ)) → map (λ row. take row.count row.arcs) (map (row_of net) rs) ≡ rs
rows_back net [] = refl
rows_back net (r ∷ rs) =
    let h = take_at r (replicate (15 - length r) 0) (length r) refl in
    ap (λ x. x ∷ map (λ row. take row.count row.arcs) (map (row_of net) rs)) h ∙ ap (λ x. r ∷ x) (rows_back net rs)

module _ {K L : Type 0} (model : K → Model L) (law : (kind : K) → Lawful (model kind)) where
  module _ (net : Net) (wf : WellFormed net) (b : Brought K L) where
    few_hops : first_failed (early_checks model net b) ≡ None → b.enquiry.limits.hops ≤ 15
    few_hops e =
        let all = all_passed (early_checks model net b) e in
        ltb-false 15 b.enquiry.limits.hops (or_parts (ltb b.enquiry.limits.hops 1) (ltb 15 b.enquiry.limits.hops) all.1.1.1.0).1

    rs : List (List ℕ)
    rs = route_list model net b.enquiry

    full : List RouteRow
    full = list_after net (route_list model net b.enquiry) b.list

    taken_rows : take (length rs) full ≡ map (row_of net) rs
    unfolding full rs
    taken_rows = take_at (map (row_of net) rs) (drop (length rs) b.list) (length rs) (length-map rs (row_of net))

    back : routes_in (length rs) full ≡ rs
    back = ap (map (λ row. take row.count row.arcs)) taken_rows ∙ rows_back net rs

    answered_is : first_failed (early_checks model net b) ≡ None → Answered model net b (enquiry_outcome model net b None false) (found model net b)
    unfolding full rs
    answered_is e =
        record {
          passed = e;
          routes = subst (Lists model net b.enquiry) (sym back) (route_list_lists model net b.enquiry (law b.enquiry.kind) wf (few_hops e));
          count = ap length back;
          rows = taken_rows ∙ ap (map (row_of net)) (sym back);
          rest = drop_at (map (row_of net) rs) (drop (length rs) b.list) (length rs) (length-map rs (row_of net));
          lines = refl;
        }

    outcome_is : (o : Option Told) (short : Bool) → first_failed (early_checks model net b) ≡ o → too_few_lines model net b ≡ short → Enquired model net b (enquiry_outcome model net b o short)
    outcome_is (Some r) short e f =
        record {
          answered = λ g q. absurd (let z : ◌≡◌ {A = ℕ} 0 1 = cc in omega arith);
          short = λ q. absurd (let z : ◌≡◌ {A = ℕ} 0 1 = cc in omega arith);
        }
    outcome_is None true e f =
        record {
          answered = λ g q. absurd (let z : ◌≡◌ {A = ℕ} 0 1 = cc in omega arith);
          short = λ q. (λ w. ltb-true _ _ f, λ w. refl);
        }
    outcome_is None false e f =
        record {
          answered = λ g q. subst (Answered model net b (enquiry_outcome model net b None false)) (ok_same q) (answered_is e);
          short = λ q. (λ w. absurd (let z : ◌≡◌ {A = ℕ} 0 1 = cc in omega arith), λ w. absurd (clash (sym f ∙ lt-ltb _ _ w)));
        }

    pub enquired_is : Enquired model net b (enquiry_answer model net b)
    enquired_is = outcome_is (first_failed (early_checks model net b)) (too_few_lines model net b) refl refl

counting_below : (a n x : ℕ) → In x (range_with_len a n) → x < a + n
counting_below a zero x i = absurd i
counting_below a (suc n) x (inl e) = omega arith
counting_below a (suc n) x (inr i) = let h = counting_below (a + 1) n x i in omega arith

-- a network with less capacity is a network
pub free_fits : (net : Net) (free : ℕ → ℕ) → ((i : ℕ) → free i ≤ (arc_at net i).capacity) → WellFormed net → WellFormed (with_free net free)
free_fits net free less wf =
    record {
      some_sites = wf.some_sites;
      few_sites = wf.few_sites;
      few_arcs = let l = length-map-range_with_len (λ i. with_capacity (free i) (arc_at net i)) 0 (arc_count net) in let m = wf.few_arcs in omega arith;
      arcs_fit = All-map (ArcFits net.sites) (λ i. with_capacity (free i) (arc_at net i)) (range_with_len 0 (arc_count net)) (all_in _ (range_with_len 0 (arc_count net)) each);
    }
  where
    each : (i : ℕ) → In i (range_with_len 0 (arc_count net)) → ArcFits net.sites (with_capacity (free i) (arc_at net i))
    each i h =
        let below = counting_below 0 (arc_count net) i h in
        let fit = All-get_or (ArcFits net.sites) net.arcs i no_arc (omega arith) wf.arcs_fit in
        let room = fit.capacity_fits in
        let here = less i in
        record {
          from_site = fit.from_site;
          to_site = fit.to_site;
          two_sites = fit.two_sites;
          weight_fits = fit.weight_fits;
          delay_fits = fit.delay_fits;
          jitter_fits = fit.jitter_fits;
          charge_fits = fit.charge_fits;
          capacity_fits = omega arith;
        }

pub free_less : (net : Net) (t : Tally) (i : ℕ) → free_on net t i ≤ (arc_at net i).capacity
free_less net t i = go (t.marked i)
  where
    go : (b : Bool) → cond b 0 ((arc_at net i).capacity - taken_on t i) ≤ (arc_at net i).capacity
    go true = omega arith
    go false = omega arith

enquired_same : {L : Type 0} {a c : EnquiryAnswer L} → enquired a ≡ enquired c → a ≡ c
enquired_same e = cc

module _ {K L : Type 0} (model : K → Model L) (law : (kind : K) → Lawful (model kind)) (net : Net) (wf : WellFormed net) (cs : List (Call K L)) where
  -- the network that a part of the trace leaves is the one that the tally shows
  pub net_is : (before after : Trace K L) → run_from model net opened cs ≡ before ++ after → net_after net before ≡ free_net net (tally_of net (calls before))
  net_is before after e =
      ap (net_after net) (run_split model net before after cs opened e).0
      ∙ ap (with_free net) (fun_ext (λ i. sym (free_is model net i (calls before))))

  pub lists_is : (before after : Trace K L) (b : Brought K L) (a : EnquiryAnswer L)
      → run_from model net opened cs ≡ before ++ (enquiry_step b a ∷ after) → Enquired model (net_after net before) b a
  lists_is before after b a e =
      let t : Tally = tally_of net (calls before) in
      let same : a ≡ enquiry_answer model (free_net net t) b = enquired_same (answer_is model net before after (enquiry_step b a) cs opened e) in
      let shown = enquired_is model law (free_net net t) (free_fits net (free_on net t) (free_less net t) wf) b in
      subst (λ n. Enquired model n b a) (sym (net_is before (enquiry_step b a ∷ after) e)) (subst (Enquired model (free_net net t) b) (sym same) shown)

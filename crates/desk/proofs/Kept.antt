-- After closings alone, an enquiry that asks alike lists again what is still open.
use Rattle.std.proofs.Common.{◌≡◌, ℕ, ◌<◌, ◌≤◌, Bool, true, false, cond, not, ◌&&◌, ◌||◌, T, eqb, ltb, leb, ◌⊎◌, List, [], ◌∷◌, ◌++◌, length, Some, Ok, filter, sym, refl, ap, ◌∙◌, subst, inl, inr, ⊎_elim, append_assoc, zero-add, arith, T_not}
use lib.ListN.{get_or-eq_default}
use Rattle.std.proofs.lemmas.List.FromFn.{length-map-range_with_len, get_or-map-range_with_len}
use Rattle.std.proofs.lemmas.Bool.{ltb-true, leb-true, eqb-false, and_parts, and_from, or_right, or_from, or_parts, not-true, not_from_false, cases_Bool, cases_lt}
use Rattle.network.specs.Lists.{In, any_of, distinct, place_by_place}
use Rattle.network.specs.Net.{Net, WellFormed, arc_count, arc_at, no_arc, with_capacity}
use Rattle.length.specs.Model.{Model, Lawful}
use Rattle.length.specs.declared.standard.StandardKind.TheVariants.{Delay, Jitter, Charge, Hops}
use Rattle.length.specs.Standard.{standard}
use Rattle.length.specs.Walks.{usable, follow, walk_length}
use Rattle.length.proofs.Least.{walk_ok}
use Rattle.length.proofs.Members.{in_kept, from_kept}
use Rattle.routes.specs.declared.enquiry.Enquiry.{Enquiry}
use Rattle.routes.specs.declared.enquiry.Found.{Found}
use Rattle.routes.specs.Routes.{routes_in, route_order}
use Rattle.routes.specs.Enquire.{Brought, EnquiryAnswer, early_checks}
use Rattle.routes.specs.Listing.{Feasible, Lists}
use Rattle.routes.proofs.Parents.{cut}
use Rattle.routes.proofs.Sorting.{Ahead, Rising, all_in, in_all, kept_rising, rising_as}
use Rattle.routes.proofs.Orders.{by_length_total}
use Rattle.ledger.specs.Tally.{opened, with_free, free_on}
use Rattle.desk.specs.Calls.{Call, tally_of}
use Rattle.desk.specs.Trace.{Step, Trace, calls, is_granted, closed_from, closed_after, free_after, net_after}
use Rattle.desk.specs.Faithful.{Answered, enquiry_step, only_closings, still_open, Begins, run_from}
use Rattle.desk.proofs.Prefix.{First, prefix}
use Rattle.desk.proofs.Agree.{Agree, follow_agree, walk_agree, sites_agree}
use Rattle.desk.proofs.Calm.{free_calm}
use Rattle.desk.proofs.Listed.{lists_is, all_passed, net_is, free_fits, free_less}

-- arcs of a network with its capacities given
free_count : (net : Net) (f : ℕ → ℕ) → arc_count (with_free net f) ≡ arc_count net
free_count net f = length-map-range_with_len (λ i. with_capacity (f i) (arc_at net i)) 0 (arc_count net)

free_arc : (net : Net) (f : ℕ → ℕ) (i : ℕ) → i < arc_count net → arc_at (with_free net f) i ≡ with_capacity (f i) (arc_at net i)
free_arc net f i h = get_or-map-range_with_len (λ i. with_capacity (f i) (arc_at net i)) 0 (arc_count net) i i no_arc h (zero-add i)

same_arc : (net : Net) (f g : ℕ → ℕ) (i : ℕ) → f i ≡ g i → arc_at (with_free net f) i ≡ arc_at (with_free net g) i
same_arc net f g i e = go (cases_lt i (arc_count net))
  where
    go : (i < arc_count net) ⊎ (arc_count net ≤ i) → arc_at (with_free net f) i ≡ arc_at (with_free net g) i
    go (inl h) = free_arc net f i h ∙ (ap (λ c. with_capacity c (arc_at net i)) e ∙ sym (free_arc net g i h))
    go (inr h) =
        let cf = free_count net f in
        let cg = free_count net g in
        get_or-eq_default (with_free net f).arcs no_arc (omega arith) ∙ sym (get_or-eq_default (with_free net g).arcs no_arc (omega arith))

-- feasible on one of two networks that agree on the route is feasible on the other
feasible_agree : {K : Type 0} (M N : Net) (count : arc_count M ≡ arc_count N) (q : Enquiry K) (r : List ℕ) → Agree M N count r → Feasible M q r → Feasible N q r
feasible_agree M N count q r same f =
    record {
      some_arcs = f.some_arcs;
      leads = sym (follow_agree M N count q.width q.source r same) ∙ f.leads;
      no_site_twice = subst (λ l. T (distinct (q.source ∷ l))) (sites_agree M N count r same) f.no_site_twice;
      within_limits = (
        subst (λ n. n ≤ q.limits.delay) (walk_agree M N count (standard Delay) r same) f.within_limits.0,
        (
          subst (λ n. n ≤ q.limits.jitter) (walk_agree M N count (standard Jitter) r same) f.within_limits.1.0,
          (
            subst (λ n. n ≤ q.limits.charge) (walk_agree M N count (standard Charge) r same) f.within_limits.1.1.0,
            (subst (λ n. n ≤ q.limits.hops) (walk_agree M N count (standard Hops) r same) f.within_limits.1.1.1.0, tt),
          ),
        ),
      );
    }

order_agree : {K L : Type 0} (model : K → Model L) (M N : Net) (count : arc_count M ≡ arc_count N) (q : Enquiry K) (r s : List ℕ) → Agree M N count r → Agree M N count s
    → route_order model M q r s ≡ route_order model N q r s
order_agree {K} {L} model M N count q r s ra sa =
    ap (λ x. lengths x (walk_length (model q.kind) M s)) (walk_agree M N count (model q.kind) r ra)
    ∙ ap (lengths (walk_length (model q.kind) N r)) (walk_agree M N count (model q.kind) s sa)
  where
    lengths : L → L → Bool
    lengths x y = (model q.kind).no_longer x y && (not ((model q.kind).no_longer y x) || place_by_place r s)

cond_same : {A : Type 0} (b : Bool) (x : A) → cond b x x ≡ x
cond_same true x = refl
cond_same false x = refl

-- the arcs of a row are open
open_arc : (shut : ℕ → Bool) (r : List ℕ) (i : ℕ) → any_of shut r ≡ false → In i r → shut i ≡ false
open_arc shut [] i h k = absurd k
open_arc shut (x ∷ xs) i h (inl e) = ap shut e ∙ (or_parts (shut x) (any_of shut xs) h).0
open_arc shut (x ∷ xs) i h (inr k) = open_arc shut xs i (or_parts (shut x) (any_of shut xs) h).1 k

kept_length : {A : Type 0} (p : A → Bool) (xs : List A) → length (filter p xs) ≤ length xs
kept_length p [] = omega arith
kept_length p (x ∷ xs) = go (p x) (kept_length p xs)
  where
    go : (b : Bool) → length (filter p xs) ≤ length xs → length (cond b (x ∷ filter p xs) (filter p xs)) ≤ length (x ∷ xs)
    go true h = omega arith
    go false h = omega arith

-- a walk of some width over a network meets no arc of capacity 0
open_walk : (net : Net) (f : ℕ → ℕ) (shut : ℕ → Bool) → ((i : ℕ) → shut i ≡ true → f i ≡ 0) → (w : ℕ) → (w ≡ 0 → ⊥) → (r : List ℕ) (s d : ℕ)
    → follow (with_free net f) w s r ≡ Some d → any_of shut r ≡ false
open_walk net f shut zeros w some [] s d h = refl
open_walk net f shut zeros w some (i ∷ is) s d h =
    let N : Net = with_free net f in
    let c = cut N w (usable N w i && eqb (arc_at N i).from s) (follow N w (arc_at N i).to is) d h in
    let u = and_parts (ltb i (arc_count N)) (leb w (arc_at N i).capacity) (and_parts (usable N w i) (eqb (arc_at N i).from s) c.0).0 in
    let there : i < arc_count net = subst (λ n. i < n) (free_count net f) (ltb-true _ _ u.0) in
    let room : w ≤ (arc_at N i).capacity = leb-true _ _ u.1 in
    or_from (shut i) (any_of shut is) (here there room (cases_Bool (shut i))) (open_walk net f shut zeros w some is (arc_at N i).to d c.1)
  where
    here : i < arc_count net → w ≤ (arc_at (with_free net f) i).capacity → (shut i ≡ true) ⊎ (shut i ≡ false) → shut i ≡ false
    here there room (inr e) = e
    here there room (inl e) =
        let none : (arc_at (with_free net f) i).capacity ≡ 0 = ap (λ a. a.capacity) (free_arc net f i there) ∙ zeros i e in
        absurd (some (omega arith))

module _ {K L : Type 0} (model : K → Model L) (law : (kind : K) → Lawful (model kind)) (net : Net) (wf : WellFormed net) (cs : List (Call K L)) where
  shown_fits : (before after : Trace K L) → run_from model net opened cs ≡ before ++ after → WellFormed (net_after net before)
  shown_fits before after e =
      subst WellFormed (sym (net_is model law net wf cs before after e)) (free_fits net (free_on net (tally_of net (calls before))) (free_less net (tally_of net (calls before))) wf)

  module _ (q : Enquiry K) (f g : ℕ → ℕ) (shut : ℕ → Bool) (closed_zero : (i : ℕ) → g i ≡ cond (shut i) 0 (f i)) (wide : q.width ≡ 0 → ⊥)
      (wf_g : WellFormed (with_free net g)) (R S : List (List ℕ)) (first : Lists model (with_free net f) q R) (second : Lists model (with_free net g) q S) where
    M : Net
    M = with_free net f

    N : Net
    N = with_free net g

    count : arc_count (with_free net f) ≡ arc_count (with_free net g)
    count = free_count net f ∙ sym (free_count net g)

    agrees : (r : List ℕ) → any_of shut r ≡ false → Agree (with_free net f) (with_free net g) count r
    agrees r h i k = same_arc net f g i (sym (closed_zero i ∙ ap (λ b. cond b 0 (f i)) (open_arc shut r i h k)))

    back : (r : List ℕ) → any_of shut r ≡ false → Agree (with_free net g) (with_free net f) (sym count) r
    back r h i k = sym (agrees r h i k)

    zeros : (i : ℕ) → shut i ≡ true → g i ≡ 0
    zeros i e = closed_zero i ∙ ap (λ b. cond b 0 (f i)) e

    is_open : (r : List ℕ) → Feasible (with_free net g) q r → any_of shut r ≡ false
    is_open r h = open_walk net g shut zeros q.width wide r q.source q.destination h.leads

    order : List ℕ → List ℕ → Bool
    order = route_order model (with_free net g) q

    left : List (List ℕ)
    left = filter (λ r. not (any_of shut r)) R

    in_left : (r : List ℕ) → In r left → In r R × (any_of shut r ≡ false)
    unfolding left
    in_left r i = let k = from_kept (λ r. not (any_of shut r)) R r i in (k.0, not-true _ k.1)

    left_feasible : (r : List ℕ) → In r left → Feasible (with_free net g) q r
    left_feasible r i = let k = in_left r i in feasible_agree (with_free net f) (with_free net g) count q r (agrees r k.1) (in_all (Feasible (with_free net f) q) R r first.each_feasible k.0)

    left_rising : Rising order left
    unfolding order left
    left_rising =
        rising_as (route_order model (with_free net f) q) (route_order model (with_free net g) q) left
        (λ r s i j. order_agree model (with_free net f) (with_free net g) count q r s (agrees r (in_left r i).1) (agrees s (in_left s j).1))
        (kept_rising (route_order model (with_free net f) q) (λ r. not (any_of shut r)) R first.in_order)

    left_first : First order (Feasible (with_free net g) q) left
    unfolding order left
    left_first r h =
        let free = is_open r h in
        ⊎_elim
        (λ i. inl (in_kept (λ r. not (any_of shut r)) R r i (not_from_false _ free)))
        (λ all. inr (all_in _ left (λ s i.
        let k = in_left s i in
        subst (λ b. T (not b)) (order_agree model (with_free net f) (with_free net g) count q r s (agrees r free) (agrees s k.1))
        (in_all (λ s. T (not (route_order model (with_free net f) q r s))) R s all k.0))))
        (first.others_after r (feasible_agree (with_free net g) (with_free net f) (sym count) q r (back r free) h))

    apart : (a b : List ℕ) → Feasible (with_free net g) q a → Feasible (with_free net g) q b → Ahead order a b → Ahead order b a → ⊥
    unfolding order
    apart a b fa fb h k =
        let m : Model L = model q.kind in
        let ok : (r : List ℕ) → Feasible (with_free net g) q r → T (m.valid (walk_length m (with_free net g) r)) =
        λ r h. walk_ok m (law q.kind) (with_free net g) wf_g q.width q.destination q.source r h.leads in
        ⊎_elim (T_not _ k) (T_not _ h) (by_length_total m.no_longer (walk_length m (with_free net g)) a b ((law q.kind).total _ _ (ok a fa) (ok b fb)))

    pub begins : Begins (filter (λ r. not (any_of shut r)) R) S
    unfolding order left
    begins =
        prefix order left S (Feasible (with_free net g) q) apart left_feasible (λ r i. in_all (Feasible (with_free net g) q) S r second.each_feasible i)
        left_rising second.in_order left_first second.others_after (many first.enough second.enough)
      where
        many : (length R ≡ q.wanted) ⊎ ((length R < q.wanted) × ((r : List ℕ) → Feasible (with_free net f) q r → In r R))
            → (length S ≡ q.wanted) ⊎ ((length S < q.wanted) × ((r : List ℕ) → Feasible (with_free net g) q r → In r S))
            → (length left ≤ length S) ⊎ ((r : List ℕ) → Feasible (with_free net g) q r → In r S)
        many (inl a) (inl b) = let l = kept_length (λ r. not (any_of shut r)) R in inl (omega arith)
        many (inr a) (inl b) = let l = kept_length (λ r. not (any_of shut r)) R in let c = a.0 in inl (omega arith)
        many a (inr b) = inr b.1

  pub kept_is : (before between after : Trace K L) (b₁ b₂ : Brought K L) (a₁ a₂ : EnquiryAnswer L) (f₁ f₂ : Found)
      → run_from model net opened cs ≡ before ++ (enquiry_step b₁ a₁ ∷ (between ++ (enquiry_step b₂ a₂ ∷ after)))
      → a₁.result ≡ Ok f₁ → a₂.result ≡ Ok f₂ → b₁.enquiry ≡ b₂.enquiry → only_closings between ≡ true
      → Begins (still_open between (routes_in f₁.routes a₁.list)) (routes_in f₂.routes a₂.list)
  kept_is before between after b₁ b₂ a₁ a₂ f₁ f₂ e r₁ r₂ alike calm =
      let s₁ : Step K L = enquiry_step b₁ a₁ in
      let s₂ : Step K L = enquiry_step b₂ a₂ in
      let part : Trace K L = s₁ ∷ between in
      let e₂ : run_from model net opened cs ≡ (before ++ part) ++ (s₂ ∷ after) = e ∙ sym (append_assoc before part (s₂ ∷ after)) in
      let one : Answered model (net_after net before) b₁ a₁ f₁ = (lists_is model law net wf cs before (between ++ (s₂ ∷ after)) b₁ a₁ e).answered f₁ r₁ in
      let two : Answered model (net_after net (before ++ part)) b₂ a₂ f₂ = (lists_is model law net wf cs (before ++ part) after b₂ a₂ e₂).answered f₂ r₂ in
      let quiet : only_closings part ≡ true = and_from _ _ (or_right _ _ refl) calm in
      let shuts : (i : ℕ) → closed_after part i ≡ closed_after between i = λ i. ap (λ w. closed_from i w between) (cond_same (is_granted s₁.answer) false) in
      let width_there = all_passed (early_checks model (net_after net before) b₁) one.passed in
      begins b₁.enquiry (free_after net before) (free_after net (before ++ part)) (closed_after between)
      (λ i. free_calm net before part i quiet ∙ ap (λ b. cond b 0 (free_after net before i)) (shuts i))
      (eqb-false b₁.enquiry.width 0 width_there.1.1.0)
      (shown_fits (before ++ part) (s₂ ∷ after) e₂)
      (routes_in f₁.routes a₁.list) (routes_in f₂.routes a₂.list)
      one.routes (subst (λ z. Lists model (net_after net (before ++ part)) z (routes_in f₂.routes a₂.list)) (sym alike) two.routes)

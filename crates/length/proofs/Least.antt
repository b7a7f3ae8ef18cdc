-- Least totals are least: over all walks, however long.
use Rattle.std.proofs.Common.{◌≡◌, ℕ, zero, suc, ◌<◌, ◌≤◌, Bool, true, false, cond, not, ◌&&◌, T, eqb, ltb, ◌⊎◌, List, [], ◌∷◌, map, length, Some, None, Option, sym, refl, ap, ◌∙◌, subst, inl, inr, ⊎_elim, le_of_suc-le-suc, not-suc-le-zero, zero-add, arith}
use borrow.Author.Tests.{clash}
use lib.ListN.{length-map}
use Rattle.std.specs.Bool.{passes}
use Rattle.std.specs.List.{range_with_len}
use Rattle.std.specs.Option.{option_map}
use Rattle.std.proofs.ByRecursion.{All-get_or}
use Rattle.std.proofs.lemmas.Bool.{ltb-true, lt-ltb, eqb-true, eq-eqb, and_parts, and_from, or_cases, cond_both, cases_cond}
use mir.Facts.{or_yes}
use Rattle.network.specs.Lists.{In, all_of, among, distinct}
use Rattle.network.specs.Net.{Net, WellFormed, ArcFits, arc_count, arc_at, no_arc}
use Rattle.length.specs.Model.{Model, Lawful}
use Rattle.length.specs.Walks.{usable, follow, sites_along, walk_length}
use Rattle.length.specs.Least.{arcs_from, shorter, shortest, least_within, least_total, IsLeast}
use Rattle.length.proofs.Walks.{arc_valid_at, there, walk_valid}
use Rattle.length.proofs.Members.{in_map, from_map, in_kept, from_kept, in_counting}
use Rattle.length.proofs.Members.{distinct_few}

pub true_T : (b : Bool) → b ≡ true → T b
true_T b e = rw e tt

pub T_true : (b : Bool) → T b → b ≡ true
T_true true t = refl
T_true false t = absurd t

module _ {L : Type 0} (m : Model L) where
  -- a missing length counts as valid, and is at most nothing
  abbrev pub ValidO : Option L → Type 0
  ValidO None = Unit {0}
  ValidO (Some x) = T (m.valid x)

  abbrev pub AtMost : Option L → L → Type 0
  AtMost None z = ⊥
  AtMost (Some x) z = T (m.no_longer x z)

module _ {L : Type 0} (m : Model L) (law : Lawful m) where
  pub no_longer_refl : (a : L) → T (m.valid a) → T (m.no_longer a a)
  no_longer_refl a v = ⊎_elim (λ t. t) (λ t. t) (or_yes _ _ (law.total a a v v))

  shorter_valid : (a b : Option L) → ValidO m a → ValidO m b → ValidO m (shorter m a b)
  shorter_valid None b va vb = vb
  shorter_valid (Some x) None va vb = va
  shorter_valid (Some x) (Some y) va vb = cond_both (m.no_longer x y) x y (λ v. T (m.valid v)) (λ e. va) (λ e. vb)

  pub shorter_left : (a b : Option L) (z : L) → ValidO m a → ValidO m b → T (m.valid z) → AtMost m a z → AtMost m (shorter m a b) z
  shorter_left None b z va vb vz h = absurd h
  shorter_left (Some x) None z va vb vz h = h
  shorter_left (Some x) (Some y) z va vb vz h =
      cond_both (m.no_longer x y) x y (λ v. T (m.no_longer v z)) (λ e. h) (λ e. law.trans y x z vb va vz (rw e at (law.total x y va vb)) h)

  pub shorter_right : (a b : Option L) (z : L) → ValidO m a → ValidO m b → T (m.valid z) → AtMost m b z → AtMost m (shorter m a b) z
  shorter_right None b z va vb vz h = h
  shorter_right (Some x) None z va vb vz h = absurd h
  shorter_right (Some x) (Some y) z va vb vz h =
      cond_both (m.no_longer x y) x y (λ v. T (m.no_longer v z)) (λ e. law.trans x y z va vb vz (passes _ e) h) (λ e. h)

  shortest_valid : (xs : List (Option L)) → ((e : Option L) → In e xs → ValidO m e) → ValidO m (shortest m xs)
  shortest_valid [] h = tt
  shortest_valid (x ∷ xs) h = shorter_valid x (shortest m xs) (h x (inl refl)) (shortest_valid xs (λ e i. h e (inr i)))

  shortest_at_most : (xs : List (Option L)) (e : Option L) (z : L) → ((e : Option L) → In e xs → ValidO m e) → T (m.valid z) → In e xs → AtMost m e z → AtMost m (shortest m xs) z
  shortest_at_most [] e z h vz i a = absurd i
  shortest_at_most (x ∷ xs) e z h vz (inl q) a =
      shorter_left x (shortest m xs) z (h x (inl refl)) (shortest_valid xs (λ e i. h e (inr i))) vz (subst (λ o. AtMost m o z) q a)
  shortest_at_most (x ∷ xs) e z h vz (inr i) a =
      shorter_right x (shortest m xs) z (h x (inl refl)) (shortest_valid xs (λ e j. h e (inr j))) vz (shortest_at_most xs e z (λ e j. h e (inr j)) vz i a)

  pub shorter_one : (a b : Option L) (z : L) → shorter m a b ≡ Some z → (a ≡ Some z) ⊎ (b ≡ Some z)
  shorter_one None b z e = inr e
  shorter_one (Some x) None z e = inl e
  shorter_one (Some x) (Some y) z e = ⊎_elim (λ q. inl (ap Some (sym q))) (λ q. inr (ap Some (sym q))) (cases_cond (m.no_longer x y) x y z (cc))

  shortest_one : (xs : List (Option L)) (z : L) → shortest m xs ≡ Some z → In (Some z) xs
  shortest_one [] z e = absurd (cc)
  shortest_one (x ∷ xs) z e = ⊎_elim (λ q. inl (sym q)) (λ q. inr (shortest_one xs z q)) (shorter_one x (shortest m xs) z e)

  pub mapped_some : (f : L → L) (o : Option L) (z : L) → Some z ≡ option_map f o → (y : L) × (o ≡ Some y) × (z ≡ f y)
  mapped_some f None z e = absurd (cc)
  mapped_some f (Some y) z e = (y, refl, cc)

  module _ (net : Net) (wf : WellFormed net) (width destination : ℕ) where
    abbrev pub Way : ℕ → List ℕ → Type 0
    Way s w = follow net width s w ≡ Some destination

    -- the first arc of a walk, and the rest
    abbrev pub first_test : ℕ → ℕ → Bool
    first_test s i = usable net width i && eqb (arc_at net i).from s

    pub split : (b : Bool) (o : Option ℕ) → cond b o None ≡ Some destination → (b ≡ true) × (o ≡ Some destination)
    split true o e = (refl, e)
    split false o e = absurd (cc)

    pub rest_way : (s i : ℕ) (is : List ℕ) → Way s (i ∷ is) → (first_test s i ≡ true) × Way (arc_at net i).to is
    rest_way s i is e = split _ _ e

    pub way_rest : (s i : ℕ) (is : List ℕ) → first_test s i ≡ true → Way (arc_at net i).to is → Way s (i ∷ is)
    way_rest s i is t e = rw t e

    pub arc_there : (s i : ℕ) → first_test s i ≡ true → i < arc_count net
    arc_there s i t = ltb-true _ _ (and_parts _ _ (and_parts _ _ t).0).0

    pub walk_there : (s : ℕ) (w : List ℕ) → Way s w → T (there net w)
    walk_there s [] e = tt
    walk_there s (i ∷ is) e =
        let r = rest_way s i is e in
        passes _ (and_from _ _ (lt-ltb i (arc_count net) (arc_there s i r.0)) (T_true _ (walk_there (arc_at net i).to is r.1)))

    pub arc_ok : (s i : ℕ) → first_test s i ≡ true → T (m.valid (m.arc (arc_at net i)))
    arc_ok s i t = arc_valid_at m law net wf i (arc_there s i t)

    pub walk_ok : (s : ℕ) (w : List ℕ) → Way s w → T (m.valid (walk_length m net w))
    walk_ok s w e = walk_valid m law net wf w (walk_there s w e)

    here : ℕ → Option L
    here s = cond (eqb s destination) (Some m.empty) None

    here_valid : (s : ℕ) → ValidO m (here s)
    unfolding here
    here_valid s = cond_both (eqb s destination) (Some m.empty) None (ValidO m) (λ e. law.empty_valid) (λ e. tt)

    here_least : (s : ℕ) → Way s [] → AtMost m (here s) m.empty
    unfolding here
    here_least s e = rw (eq-eqb s destination (cc)) (no_longer_refl m.empty law.empty_valid)

    here_way : (s : ℕ) (x : L) → here s ≡ Some x → Way s [] × (m.empty ≡ x)
    unfolding here
    here_way s x e = go (eqb s destination) refl e
      where
        go : (b : Bool) → eqb s destination ≡ b → cond b (Some m.empty) None ≡ Some x → (follow net width s [] ≡ Some destination) × (m.empty ≡ x)
        go true q e = (ap Some (eqb-true s destination q), cc)
        go false q e = absurd (cc)

    -- what follows a first arc
    after : ℕ → ℕ → Option L
    after k i = option_map (m.join (m.arc (arc_at net i))) (least_within m net width destination k (arc_at net i).to)

    all_after : ℕ → ℕ → List (Option L)
    all_after k s = map (after k) (arcs_from net width s)

    arc_in : (s i : ℕ) → first_test s i ≡ true → In i (arcs_from net width s)
    arc_in s i t = in_kept (λ j. usable net width j && eqb (arc_at net j).from s) (range_with_len 0 (arc_count net)) i
        (subst (λ j. In j (range_with_len 0 (arc_count net))) (zero-add i) (in_counting 0 (arc_count net) i (arc_there s i t))) t

    arc_out : (s i : ℕ) → In i (arcs_from net width s) → first_test s i ≡ true
    arc_out s i h = (from_kept (λ j. usable net width j && eqb (arc_at net j).from s) (range_with_len 0 (arc_count net)) i h).1

    pub mapped_valid : (a : L) (o : Option L) → T (m.valid a) → ValidO m o → ValidO m (option_map (m.join a) o)
    mapped_valid a None va vo = tt
    mapped_valid a (Some x) va vo = law.join_valid a x va vo

    pub mapped_at_most : (a : L) (o : Option L) (z : L) → T (m.valid a) → ValidO m o → T (m.valid z) → AtMost m o z → AtMost m (option_map (m.join a) o) (m.join a z)
    mapped_at_most a None z va vo vz h = absurd h
    mapped_at_most a (Some x) z va vo vz h = law.join_left x z a vo vz va h

    W : ℕ → ℕ → Option L
    W k s = least_within m net width destination k s

    after_valid : (k s : ℕ) → ((t : ℕ) → ValidO m (W k t)) → (e : Option L) → In e (all_after k s) → ValidO m e
    unfolding all_after after W
    after_valid k s ih e h =
        let r = from_map (after k) (arcs_from net width s) e h in
        subst (ValidO m) (sym r.2) (mapped_valid (m.arc (arc_at net r.0)) (W k (arc_at net r.0).to) (arc_ok s r.0 (arc_out s r.0 r.1)) (ih (arc_at net r.0).to))

    within_valid : (k s : ℕ) → ValidO m (W k s)
    unfolding W here after all_after
    within_valid zero s = here_valid s
    within_valid (suc k) s = shorter_valid (here s) (shortest m (all_after k s)) (here_valid s) (shortest_valid (all_after k s) (after_valid k s (within_valid k)))

    -- no walk of at most k arcs is shorter
    within_least : (k s : ℕ) (w : List ℕ) → Way s w → length w ≤ k → AtMost m (W k s) (walk_length m net w)
    unfolding W here after all_after
    within_least zero s [] e h = here_least s e
    within_least zero s (i ∷ is) e h = absurd (not-suc-le-zero h)
    within_least (suc k) s [] e h =
        shorter_left (here s) (shortest m (all_after k s)) m.empty (here_valid s) (shortest_valid (all_after k s) (after_valid k s (within_valid k))) law.empty_valid (here_least s e)
    within_least (suc k) s (i ∷ is) e h =
        let r = rest_way s i is e in
        let t : ℕ = (arc_at net i).to in
        let a : L = m.arc (arc_at net i) in
        let z : L = walk_length m net is in
        let va = arc_ok s i r.0 in
        let vz = walk_ok t is r.1 in
        let ih = within_least k t is r.1 (le_of_suc-le-suc h) in
        shorter_right (here s) (shortest m (all_after k s)) (m.join a z) (here_valid s) (shortest_valid (all_after k s) (after_valid k s (within_valid k))) (law.join_valid a z va vz)
        (shortest_at_most (all_after k s) (after k i) (m.join a z) (after_valid k s (within_valid k)) (law.join_valid a z va vz)
        (in_map (after k) (arcs_from net width s) i (arc_in s i r.0))
        (mapped_at_most a (W k t) z va (within_valid k t) vz ih))

    -- some walk has the least length
    HasWalk : ℕ → L → Type 0
    HasWalk s x = (w : List ℕ) × Way s w × (walk_length m net w ≡ x)

    within_walk : (k s : ℕ) (x : L) → W k s ≡ Some x → HasWalk s x
    unfolding W here after all_after HasWalk
    within_walk zero s x e = let r = here_way s x e in ([], r.0, r.1)
    within_walk (suc k) s x e =
        ⊎_elim
        (λ q. let r = here_way s x q in ([], r.0, r.1))
        (λ q.
        let f = from_map (after k) (arcs_from net width s) (Some x) (shortest_one (all_after k s) x q) in
        let i : ℕ = f.0 in
        let y = mapped_some (m.join (m.arc (arc_at net i))) (W k (arc_at net i).to) x f.2 in
        let ih = within_walk k (arc_at net i).to y.0 y.1 in
        (i ∷ ih.0, way_rest s i ih.0 (arc_out s i f.1) ih.1, ap (m.join (m.arc (arc_at net i))) ih.2 ∙ sym y.2))
        (shorter_one (here s) (shortest m (all_after k s)) x e)

    -- a walk without its loops is no longer

    -- an arc put in front makes a walk no shorter
    pub longer : (a z : L) → T (m.valid a) → T (m.valid z) → T (m.no_longer z (m.join a z))
    longer a z va vz = subst (λ y. T (m.no_longer y (m.join a z))) (law.empty_left z vz) (law.join_right m.empty a z law.empty_valid va vz (law.empty_least a va))

    Simple : ℕ → List ℕ → Type 0
    Simple s w = Way s w × (distinct (sites_along net s w) ≡ true)

    -- from a site on the way on
    PartFrom : ℕ → List ℕ → Type 0
    PartFrom s v = (u : List ℕ) × Simple s u × T (m.no_longer (walk_length m net u) (walk_length m net v))

    whole : (t s : ℕ) (v : List ℕ) → Simple t v → eqb s t ≡ true → PartFrom s v
    unfolding PartFrom Simple
    whole t s v simple q =
        (v, subst (λ x. Simple x v) (sym (eqb-true s t q)) simple, no_longer_refl (walk_length m net v) (walk_ok t v simple.0))

    from_site : (t s : ℕ) (v : List ℕ) → Simple t v → among s (sites_along net t v) ≡ true → PartFrom s v
    unfolding Simple PartFrom
    from_site t s [] simple met = ⊎_elim (whole t s [] simple) (λ q. absurd (clash q)) (or_cases (eqb s t) false met)
    from_site t s (i ∷ is) simple met =
        ⊎_elim (whole t s (i ∷ is) simple)
        (λ q.
        let r = rest_way t i is simple.0 in
        let d = and_parts (not (among t (sites_along net (arc_at net i).to is))) (distinct (sites_along net (arc_at net i).to is)) simple.1 in
        let ih = from_site (arc_at net i).to s is (r.1, d.1) q in
        let vi = walk_ok (arc_at net i).to is r.1 in
        let va = arc_ok t i r.0 in (
          ih.0,
          ih.1,
          law.trans _ (walk_length m net is) _ (walk_ok s ih.0 ih.1.0) vi (law.join_valid _ _ va vi) ih.2 (longer (m.arc (arc_at net i)) (walk_length m net is) va vi),
        ))
        (or_cases (eqb s t) (among s (sites_along net (arc_at net i).to is)) met)

    in_front : (s i : ℕ) (is v : List ℕ) (b : Bool) → first_test s i ≡ true → Way (arc_at net i).to is → Simple (arc_at net i).to v
        → T (m.no_longer (walk_length m net v) (walk_length m net is)) → among s (sites_along net (arc_at net i).to v) ≡ b → PartFrom s (i ∷ is)
    unfolding Simple PartFrom
    in_front s i is v false t w simple le q =
        let a : L = m.arc (arc_at net i) in
        (i ∷ v, (way_rest s i v t simple.0, and_from _ _ (ap not q) simple.1), law.join_left (walk_length m net v) (walk_length m net is) a (walk_ok _ v simple.0) (walk_ok _ is w) (arc_ok s i t) le)
    in_front s i is v true t w simple le q =
        let a : L = m.arc (arc_at net i) in
        let p = from_site (arc_at net i).to s v simple q in
        let vv = walk_ok (arc_at net i).to v simple.0 in
        let vi = walk_ok (arc_at net i).to is w in
        let va = arc_ok s i t in
        let vp = walk_ok s p.0 p.1.0 in
        let step : T (m.no_longer (walk_length m net v) (m.join a (walk_length m net is))) =
        law.trans (walk_length m net v) (walk_length m net is) (m.join a (walk_length m net is)) vv vi (law.join_valid _ _ va vi) le (longer a (walk_length m net is) va vi) in
        (p.0, p.1, law.trans (walk_length m net p.0) (walk_length m net v) (m.join a (walk_length m net is)) vp vv (law.join_valid _ _ va vi) p.2 step)

    simple : (s : ℕ) (w : List ℕ) → Way s w → PartFrom s w
    unfolding Simple PartFrom
    simple s [] e = ([], (e, refl), no_longer_refl m.empty law.empty_valid)
    simple s (i ∷ is) e =
        let r = rest_way s i is e in
        let ih = simple (arc_at net i).to is r.1 in
        in_front s i is ih.0 (among s (sites_along net (arc_at net i).to ih.0)) r.0 r.1 ih.1 ih.2 refl

    -- a walk with no site twice has fewer arcs than there are sites
    pub to_below : (s i : ℕ) → first_test s i ≡ true → (arc_at net i).to < net.sites
    to_below s i t = (All-get_or (ArcFits net.sites) net.arcs i no_arc (arc_there s i t) wf.arcs_fit).to_site

    sites_below : (s : ℕ) (w : List ℕ) → s < net.sites → Way s w → all_of (λ x. ltb x net.sites) (sites_along net s w) ≡ true
    sites_below s [] h e = and_from _ _ (lt-ltb s net.sites h) refl
    sites_below s (i ∷ is) h e =
        let r = rest_way s i is e in
        and_from _ _ (lt-ltb s net.sites h) (sites_below (arc_at net i).to is (to_below s i r.0) r.1)

    few_arcs : (s : ℕ) (v : List ℕ) → s < net.sites → Simple s v → length v ≤ net.sites
    unfolding Simple
    few_arcs s v h p =
        let n = distinct_few net.sites (sites_along net s v) p.1 (sites_below s v h p.0) in
        let l : length (map (λ i. (arc_at net i).to) v) ≡ length v = length-map v (λ i. (arc_at net i).to) in
        omega arith

    -- a missing length is reached by nothing, and any other by a walk that has it
    abbrev pub Reached : ℕ → Option L → Type 0
    Reached s None = Unit {0}
    Reached s (Some x) = (w : List ℕ) × Way s w × (walk_length m net w ≡ x)

    pub reached_valid : (s : ℕ) (o : Option L) → Reached s o → ValidO m o
    reached_valid s None r = tt
    reached_valid s (Some x) r = subst (λ y. T (m.valid y)) r.2 (walk_ok s r.0 r.1)

    -- what some walk has, and what no walk of as many arcs as there are sites is shorter than, is least over all walks
    pub settled : (s : ℕ) → s < net.sites → (o : Option L) → Reached s o
        → ((w : List ℕ) → Way s w → length w ≤ net.sites → AtMost m o (walk_length m net w)) → IsLeast m net width destination s o
    unfolding PartFrom Simple
    settled s h None r least = λ walk way. let p = simple s walk way in least p.0 p.1.0 (few_arcs s p.0 h p.1)
    settled s h (Some x) r least = (
      r,
      λ walk way.
          let p = simple s walk way in
          let near : T (m.no_longer x (walk_length m net p.0)) = least p.0 p.1.0 (few_arcs s p.0 h p.1) in
          law.trans x (walk_length m net p.0) (walk_length m net walk) (reached_valid s (Some x) r) (walk_ok s p.0 p.1.0) (walk_ok s walk way) near p.2,
    )

    within_reached : (s : ℕ) (o : Option L) → W net.sites s ≡ o → Reached s o
    unfolding HasWalk
    within_reached s None e = tt
    within_reached s (Some x) e = within_walk net.sites s x e

    pub least_of_all : (s : ℕ) → s < net.sites → IsLeast m net width destination s (least_total m net width destination s)
    unfolding W
    least_of_all s h = settled s h (W net.sites s) (within_reached s (W net.sites s) refl) (λ w way few. within_least net.sites s w way few)

    -- there is only one least length
    pub least_same : (s : ℕ) (a b : Option L) → IsLeast m net width destination s a → IsLeast m net width destination s b → a ≡ b
    least_same s None None p q = refl
    least_same s None (Some y) p q = absurd (p q.0.0 q.0.1)
    least_same s (Some x) None p q = absurd (q p.0.0 p.0.1)
    least_same s (Some x) (Some y) p q =
        let vx = reached_valid s (Some x) p.0 in
        let vy = reached_valid s (Some y) q.0 in
        let xy : T (m.no_longer x y) = subst (λ z. T (m.no_longer x z)) q.0.2 (p.1 q.0.0 q.0.1) in
        let yx : T (m.no_longer y x) = subst (λ z. T (m.no_longer y z)) p.0.2 (q.1 p.0.0 p.0.1) in
        ap Some (law.antisym x y vx vy xy yx)

-- Rounds over all arcs fill a table with the least totals.
use Rattle.std.proofs.Common.{◌≡◌, ℕ, zero, suc, ◌+◌, ◌-◌, ◌<◌, ◌≤◌, true, T, eqb, ltb, leb, List, [], ◌∷◌, ◌++◌, length, get_or, take, drop, set, replicate, Some, None, fold, Option, sym, refl, ap, ◌∙◌, subst, inl, inr, ⊎_elim, le_of_suc-le-suc, not-suc-le-zero, add-zero, add-suc, suc-add, zero-add, arith}
use Rattle.std.specs.List.{range_with_len, AllByRecursion}
use Rattle.std.specs.Option.{option_map}
use Rattle.std.proofs.lemmas.List.FromFn.{fill_by_all}
use Rattle.std.proofs.ByRecursion.{All-get_or}
use Rattle.std.proofs.lemmas.List.{length-set, length-append, length-replicate, length-drop, drop-set-lt, drop_at, get_or-take, take-append-drop, length-take-le, get_or-set_same, get_or-set_other, get_or_append_left, get_or-replicate}
use Rattle.std.proofs.lemmas.Bool.{eq-eqb, eqb-true, lt-ltb, and_parts, and_from, cases_eq, cond_both}
use Rattle.std.proofs.lemmas.List.Folds.{fold-map}
use Rattle.network.specs.declared.arc.Arc.{Arc}
use Rattle.network.specs.Lists.{In}
use Rattle.network.specs.Net.{Net, WellFormed, ArcFits, arc_count, arc_at, no_arc}
use Rattle.length.specs.Model.{Model, Lawful}
use Rattle.length.specs.Walks.{usable, walk_length, arc_length}
use Rattle.length.specs.Least.{shorter, least_total, least_totals, table_after, IsLeast, HoldsLeast}
use Rattle.length.specs.Rounds.{first_table, tried, all_tried, rounds}
use Rattle.length.proofs.Members.{in_counting}
use Rattle.length.proofs.Least.{ValidO, AtMost, no_longer_refl, shorter_left, shorter_right, mapped_valid, mapped_at_most, Way, first_test, rest_way, way_rest, arc_there, walk_ok, Reached, reached_valid, settled, least_of_all, least_same}

-- the numbers from a on, k of them, are below any number that is at least a + k
counting_below : (n a k : ℕ) → a + k ≤ n → AllByRecursion (λ i. i < n) (range_with_len a k)
counting_below n a zero h = tt
counting_below n a (suc k) h = (omega arith, counting_below n (a + 1) k (omega arith))

-- an entry of a table
abbrev pub entry : {L : Type 0} → List (Option L) → ℕ → Option L
entry t s = get_or t s None

-- an entry after a write
set_entry : {L : Type 0} (P : Option L → Type 0) (t : List (Option L)) (at : ℕ) (v : Option L) (s : ℕ) → at < length t
    → (s ≡ at → P v) → P (entry t s) → P (entry (set t at v) s)
set_entry P t at v s h new old =
    ⊎_elim
    (λ e. subst (λ i. P (entry (set t at v) i)) (sym e) (rw (get_or-set_same t at v None h) (new e)))
    (λ ne. rw (get_or-set_other t at s v None ne) old)
    (cases_eq s at)

module _ {L : Type 0} (m : Model L) (law : Lawful m) (net : Net) (wf : WellFormed net) (width destination : ℕ) where
  -- a walk's beginning, as the lemmas on walks take it
  abbrev Leads : ℕ → List ℕ → Type 0
  Leads s w = Way m law net wf width destination s w

  abbrev Comes : ℕ → Option L → Type 0
  Comes s o = Reached m law net wf width destination s o

  -- a table whose first places are missing or reached
  pub record Good (t : List (Option L)) : Type 0 where
    pub long : net.sites ≤ length t
    pub reached : (s : ℕ) → s < net.sites → Comes s (entry t s)

  fits_at : (i : ℕ) → i < arc_count net → ArcFits net.sites (arc_at net i)
  fits_at i h = All-get_or (ArcFits net.sites) net.arcs i no_arc h wf.arcs_fit

  good_valid : (t : List (Option L)) → Good t → (s : ℕ) → s < net.sites → ValidO m (entry t s)
  good_valid t good s h = reached_valid m law net wf width destination s (entry t s) (good.reached s h)

  -- the way over an arc
  abbrev over : ℕ → List (Option L) → Option L
  over i t = option_map (m.join (arc_length m net i)) (entry t (arc_at net i).to)

  -- what is entered at the beginning of an arc
  abbrev entered : ℕ → List (Option L) → Option L
  entered i t = shorter m (entry t (arc_at net i).from) (over i t)

  comes_over : (i : ℕ) → first_test m law net wf width destination (arc_at net i).from i ≡ true → (o : Option L) → Comes (arc_at net i).to o
      → Comes (arc_at net i).from (option_map (m.join (arc_length m net i)) o)
  comes_over i test None r = tt
  comes_over i test (Some x) r =
      (i ∷ r.0, way_rest m law net wf width destination (arc_at net i).from i r.0 test r.1, ap (m.join (arc_length m net i)) r.2)

  comes_shorter : (s : ℕ) (a b : Option L) → Comes s a → Comes s b → Comes s (shorter m a b)
  comes_shorter s None b p q = q
  comes_shorter s (Some x) None p q = p
  comes_shorter s (Some x) (Some y) p q = cond_both (m.no_longer x y) x y (λ v. Comes s (Some v)) (λ e. p) (λ e. q)

  -- the test of an arc that begins where it begins
  test_of : (i : ℕ) → i < arc_count net → leb width (arc_at net i).capacity ≡ true → first_test m law net wf width destination (arc_at net i).from i ≡ true
  test_of i h wide = and_from _ _ (and_from _ _ (lt-ltb i (arc_count net) h) wide) (eq-eqb (arc_at net i).from (arc_at net i).from refl)

  -- an arc tried: what the table keeps
  try : ℕ → List (Option L) → List (Option L)
  try i t = tried m width (arc_at net i) t

  -- a fact of the table after a try: of the table as it was where the arc has no room, and else of the table with the entry made
  tried_so : (P : List (Option L) → Type 0) (i : ℕ) (t : List (Option L))
      → (leb width (arc_at net i).capacity ≡ true → P (set t (arc_at net i).from (entered i t))) → P t → P (try i t)
  unfolding try
  tried_so P i t yes_room no_room = cond_both (leb width (arc_at net i).capacity) (set t (arc_at net i).from (entered i t)) t P yes_room (λ e. no_room)

  try_long : (i : ℕ) (t : List (Option L)) → length (try i t) ≡ length t
  try_long i t = tried_so (λ u. length u ≡ length t) i t (λ e. length-set t (arc_at net i).from (entered i t)) refl

  try_rest : (i : ℕ) (t : List (Option L)) → i < arc_count net → drop net.sites (try i t) ≡ drop net.sites t
  try_rest i t h =
      tried_so (λ u. drop net.sites u ≡ drop net.sites t) i t
      (λ e. drop-set-lt net.sites t (arc_at net i).from (entered i t) (fits_at i h).from_site) refl

  inside : (i : ℕ) (t : List (Option L)) → i < arc_count net → Good t → (arc_at net i).from < length t
  inside i t h good = omega (arith, (fits_at i h).from_site, good.long)

  try_good : (i : ℕ) (t : List (Option L)) → i < arc_count net → Good t → Good (try i t)
  try_good i t h good =
      record {
        long = rw (try_long i t) good.long;
        reached = λ s hs.
            tried_so (λ u. Comes s (entry u s)) i t
            (λ wide.
            set_entry (Comes s) t (arc_at net i).from (entered i t) s (inside i t h good)
            (λ e. subst (λ x. Comes x (entered i t)) (sym e) (
            comes_shorter (arc_at net i).from (entry t (arc_at net i).from) (over i t) (good.reached (arc_at net i).from (fits_at i h).from_site)
            (comes_over i (test_of i h wide) (entry t (arc_at net i).to) (good.reached (arc_at net i).to (fits_at i h).to_site))
            ))
            (good.reached s hs))
            (good.reached s hs);
      }

  arc_fine : (i : ℕ) → i < arc_count net → T (m.valid (arc_length m net i))
  arc_fine i h = law.arc_valid net.sites (arc_at net i) (fits_at i h)

  over_valid : (i : ℕ) (t : List (Option L)) → i < arc_count net → Good t → ValidO m (over i t)
  over_valid i t h good =
      mapped_valid m law net wf width destination (arc_length m net i) (entry t (arc_at net i).to) (arc_fine i h) (good_valid t good (arc_at net i).to (fits_at i h).to_site)

  -- no entry becomes longer
  try_keeps : (i : ℕ) (t : List (Option L)) → i < arc_count net → Good t → (s : ℕ) (z : L) → T (m.valid z) → AtMost m (entry t s) z → AtMost m (entry (try i t) s) z
  try_keeps i t h good s z vz below =
      tried_so (λ u. AtMost m (entry u s) z) i t
      (λ wide.
      set_entry (λ o. AtMost m o z) t (arc_at net i).from (entered i t) s (inside i t h good)
      (λ e. shorter_left m law (entry t (arc_at net i).from) (over i t) z (good_valid t good (arc_at net i).from (fits_at i h).from_site) (over_valid i t h good) vz (subst (λ x. AtMost m (entry t x) z) e below))
      below)
      below

  -- the way over the arc is no shorter than what stands at its beginning
  try_enters : (i : ℕ) (t : List (Option L)) → i < arc_count net → leb width (arc_at net i).capacity ≡ true → Good t → (z : L) → T (m.valid z)
      → AtMost m (entry t (arc_at net i).to) z → AtMost m (entry (try i t) (arc_at net i).from) (m.join (arc_length m net i) z)
  unfolding try
  try_enters i t h wide good z vz below =
      rw wide (rw (get_or-set_same t (arc_at net i).from (entered i t) None (inside i t h good))
      (shorter_right m law (entry t (arc_at net i).from) (over i t) (m.join (arc_length m net i) z)
      (good_valid t good (arc_at net i).from (fits_at i h).from_site) (over_valid i t h good) (law.join_valid (arc_length m net i) z (arc_fine i h) vz)
      (mapped_at_most m law net wf width destination (arc_length m net i) (entry t (arc_at net i).to) z (arc_fine i h) (good_valid t good (arc_at net i).to (fits_at i h).to_site) vz below)))

  -- a row of arcs tried in order
  tries : List ℕ → List (Option L) → List (Option L)
  tries is t = fold (λ u i. try i u) t is

  pub record Kept (t u : List (Option L)) : Type 0 where
    pub good : Good u
    pub rest : drop net.sites u ≡ drop net.sites t
    pub keeps : (s : ℕ) (z : L) → T (m.valid z) → AtMost m (entry t s) z → AtMost m (entry u s) z

  kept_more : (t u v : List (Option L)) → Kept t u → Kept u v → Kept t v
  kept_more t u v p q =
      record {
        good = q.good;
        rest = q.rest ∙ p.rest;
        keeps = λ s z vz h. q.keeps s z vz (p.keeps s z vz h);
      }

  try_kept : (i : ℕ) (t : List (Option L)) → i < arc_count net → Good t → Kept t (try i t)
  try_kept i t h good =
      record { good = try_good i t h good; rest = try_rest i t h; keeps = try_keeps i t h good }

  same_kept : (t : List (Option L)) → Good t → Kept t t
  same_kept t good = record { good = good; rest = refl; keeps = λ s z vz h. h }

  tries_kept : (is : List ℕ) (t : List (Option L)) → AllByRecursion (λ i. i < arc_count net) is → Good t → Kept t (tries is t)
  unfolding tries
  tries_kept [] t all good = same_kept t good
  tries_kept (i ∷ is) t all good =
      let one = try_kept i t all.0 good in kept_more t (try i t) (tries is (try i t)) one (tries_kept is (try i t) all.1 one.good)

  tries_enter : (is : List ℕ) (t : List (Option L)) → AllByRecursion (λ i. i < arc_count net) is → Good t → (i : ℕ) → In i is → leb width (arc_at net i).capacity ≡ true
      → (z : L) → T (m.valid z) → AtMost m (entry t (arc_at net i).to) z → AtMost m (entry (tries is t) (arc_at net i).from) (m.join (arc_length m net i) z)
  unfolding tries
  tries_enter [] t all good i there wide z vz below = absurd there
  tries_enter (j ∷ is) t all good i (inl e) wide z vz below =
      let h : i < arc_count net = subst (λ k. k < arc_count net) (sym e) all.0 in
      let rest = tries_kept is (try j t) all.1 (try_good j t all.0 good) in
      rest.keeps (arc_at net i).from (m.join (arc_length m net i) z) (law.join_valid (arc_length m net i) z (arc_fine i h) vz)
      (subst (λ k. AtMost m (entry (try k t) (arc_at net i).from) (m.join (arc_length m net i) z)) e (try_enters i t h wide good z vz below))
  tries_enter (j ∷ is) t all good i (inr there) wide z vz below =
      tries_enter is (try j t) all.1 (try_good j t all.0 good) i there wide z vz (try_keeps j t all.0 good (arc_at net i).to z vz below)

  every : List ℕ
  every = range_with_len 0 (arc_count net)

  every_there : AllByRecursion (λ i. i < arc_count net) every
  unfolding every
  every_there = counting_below (arc_count net) 0 (arc_count net) (omega arith)

  -- a round tries every arc in the order of the numbers
  round_is : (t : List (Option L)) → all_tried m width net.arcs t ≡ tries every t
  unfolding tries every try
  round_is t =
      ap (λ arcs. fold (λ u arc. tried m width arc u) t arcs) (fill_by_all (arc_at net) net.arcs (arc_count net) no_arc refl (λ k h. refl))
      ∙ fold-map (λ u arc. tried m width arc u) (arc_at net) t (range_with_len 0 (arc_count net))

  -- no walk of at most so many arcs is shorter than the entry where it begins
  Covers : ℕ → List (Option L) → Type 0
  Covers k t = (s : ℕ) (w : List ℕ) → Leads s w → length w ≤ k → AtMost m (entry t s) (walk_length m net w)

  covers_round : (k : ℕ) (t : List (Option L)) → Good t → Covers k t → Covers (suc k) (tries every t)
  unfolding Covers every
  covers_round k t good covers s [] way h =
      (tries_kept every t every_there good).keeps s m.empty law.empty_valid (covers s [] way (omega arith))
  covers_round k t good covers s (i ∷ is) way h =
      let r = rest_way m law net wf width destination s i is way in
      let tests = and_parts (usable net width i) (eqb (arc_at net i).from s) r.0 in
      let wide = (and_parts (ltb i (arc_count net)) (leb width (arc_at net i).capacity) tests.0).1 in
      let there = arc_there m law net wf width destination s i r.0 in
      let begins = eqb-true (arc_at net i).from s tests.1 in
      let vz = walk_ok m law net wf width destination (arc_at net i).to is r.1 in
      subst (λ x. AtMost m (entry (tries every t) x) (walk_length m net (i ∷ is))) begins
      (tries_enter every t every_there good i (subst (λ x. In x (range_with_len 0 (arc_count net))) (zero-add i) (in_counting 0 (arc_count net) i there)) wide (walk_length m net is) vz (covers (arc_at net i).to is r.1 (le_of_suc-le-suc h)))

  rounds_kept : (k : ℕ) (t : List (Option L)) → Good t → Kept t (rounds m width net.arcs k t)
  rounds_kept zero t good = same_kept t good
  rounds_kept (suc k) t good =
      rw (round_is t) (
      let one = tries_kept every t every_there good in
      kept_more t (tries every t) (rounds m width net.arcs k (tries every t)) one (rounds_kept k (tries every t) one.good)
      )

  rounds_cover : (k j : ℕ) (t : List (Option L)) → Good t → Covers j t → Covers (j + k) (rounds m width net.arcs k t)
  unfolding Covers
  rounds_cover zero j t good covers = rw add-zero covers
  rounds_cover (suc k) j t good covers =
      rw (round_is t, add-suc j k, ← suc-add j k) (rounds_cover k (suc j) (tries every t) (tries_kept every t every_there good).good (covers_round j t good covers))

  module _ (at_site : destination < net.sites) (table : List (Option L)) (room : net.sites ≤ length table) where
    start : List (Option L)
    start = first_table m net.sites destination table

    blank : List (Option L)
    blank = replicate net.sites None ++ drop net.sites table

    blank_long : length blank ≡ length table
    unfolding blank
    blank_long = simp (length-append, length-replicate, length-drop) (omega arith)

    blank_entry : (s : ℕ) → s < net.sites → entry blank s ≡ None
    unfolding blank
    blank_entry s h =
        let none : Option L = None in
        let l : s < length (replicate net.sites none) = rw length-replicate h in
        get_or_append_left (replicate net.sites none) (drop net.sites table) None s l ∙ get_or-replicate net.sites s None None h

    start_long : length start ≡ length table
    unfolding start blank
    start_long = length-set blank destination (Some m.empty) ∙ blank_long

    start_rest : drop net.sites start ≡ drop net.sites table
    unfolding start blank
    start_rest =
        drop-set-lt net.sites blank destination (Some m.empty) at_site
        ∙ drop_at (replicate net.sites None) (drop net.sites table) net.sites (length-replicate net.sites None)

    start_good : Good start
    unfolding start blank
    start_good =
        record {
          long = rw start_long room;
          reached = λ s h.
              set_entry (Comes s) blank destination (Some m.empty) s (omega (arith, blank_long))
              (λ e. ([], ap Some e, refl))
              (rw (blank_entry s h) tt);
        }

    start_covers : Covers 0 start
    unfolding Covers start blank
    start_covers s [] way h =
        let e : s ≡ destination = cc in
        let inside : destination < length blank = omega (arith, blank_long) in
        rw (e, get_or-set_same blank destination (Some m.empty) None inside) (no_longer_refl m law m.empty law.empty_valid)
    start_covers s (i ∷ is) way h = absurd (not-suc-le-zero h)

    final : List (Option L)
    final = rounds m width net.arcs net.sites start

    final_kept : Kept start final
    unfolding final
    final_kept = rounds_kept net.sites start start_good

    final_covers : Covers net.sites final
    unfolding final
    final_covers = rw zero-add at (rounds_cover net.sites 0 start start_good start_covers)

    final_least : (s : ℕ) → s < net.sites → IsLeast m net width destination s (entry final s)
    unfolding Covers
    final_least s h = settled m law net wf width destination s h (entry final s) (final_kept.good.reached s h) (λ w way few. final_covers s w way few)

    final_total : (s : ℕ) → s < net.sites → entry final s ≡ least_total m net width destination s
    final_total s h =
        least_same m law net wf width destination s (entry final s) (least_total m net width destination s) (final_least s h)
        (least_of_all m law net wf width destination s h)

    front_total : (s : ℕ) → s < net.sites → get_or (take net.sites final) s None ≡ least_total m net width destination s
    front_total s h = get_or-take net.sites final s None h ∙ final_total s h

    front_long : length (take net.sites final) ≡ net.sites
    front_long = length-take-le net.sites final final_kept.good.long

    -- after as many rounds as there are sites, the table holds the least totals, and then what stood there
    pub rounds_fill : rounds m width net.arcs net.sites (first_table m net.sites destination table) ≡ table_after m net width destination table
    unfolding final start
    rounds_fill =
        sym (take-append-drop net.sites final)
        ∙ ap (λ front. front ++ drop net.sites final) (fill_by_all (least_total m net width destination) (take net.sites final) net.sites None front_long front_total)
        ∙ ap (λ rest. least_totals m net width destination ++ rest) (final_kept.rest ∙ start_rest)

    -- and each of them is least over all walks
    pub rounds_least : HoldsLeast m net destination width (table_after m net width destination table)
    unfolding final start
    rounds_least s h = rw (← rounds_fill) (final_least s h)

-- a table that a round does not change is not changed by more rounds
pub rounds_settled : {L : Type 0} (m : Model L) (width : ℕ) (arcs : List Arc) (k : ℕ) (t : List (Option L)) → all_tried m width arcs t ≡ t → rounds m width arcs k t ≡ t
rounds_settled m width arcs zero t e = refl
rounds_settled m width arcs (suc k) t e = rw e (rounds_settled m width arcs k t e)

-- of the rounds that are left, the next one done
pub rounds_next : {L : Type 0} (m : Model L) (width : ℕ) (arcs : List Arc) (k i : ℕ) (t u : List (Option L)) → i < k → u ≡ all_tried m width arcs t
    → rounds m width arcs (k - (i + 1)) u ≡ rounds m width arcs (k - i) t
rounds_next m width arcs k i t u h e =
    let one : k - i ≡ suc (k - (i + 1)) = omega arith in
    rw (one, e)

-- Lemmas on a hold: what its checks tell, and what one row that turns held makes of the ledger.
use Rattle.std.proofs.Common.{◌≡◌, ℕ, ◌+◌, ◌-◌, ◌<◌, ◌≤◌, Bool, true, false, cond, not, ◌&&◌, ◌||◌, eqb, ltb, leb, List, [], ◌∷◌, ◌++◌, map, length, get_or, set, Some, None, Ok, Err, count_by, Option, is_some, unwrap_or, add-zero, sym, refl, ap, ◌∙◌, subst, ⊎_elim, arith}
use Rattle.std.specs.Option.{option_map_or}
use Rattle.std.proofs.ByRecursion.{All-get_or}
use Rattle.std.proofs.lemmas.List.{get_or_past}
use Rattle.std.proofs.lemmas.List.Sums.{sum_by-cons, sum_by-set}
use Rattle.std.proofs.lemmas.Bool.{and_from, and_parts, both_ways, cases_eq, cases_lt, eq-eqb, eqb-false, eqb-true, le-leb, lt-leb, lt-ltb, ltb-false, ltb-true, ne_eqb, not-false, not-true, or_parts}
use Rattle.network.specs.Checks.{Check, Told, answered, first_failed, refusal}
use Rattle.network.specs.Lists.{all_of, among, any_of, distinct}
use Rattle.network.specs.Net.{Net, ArcFits, WellFormed, arc_at, arc_count, no_arc}
use Rattle.length.specs.Walks.{arcs_outside, no_such_arc}
use Rattle.ledger.specs.declared.arcs.ArcUse.{ArcUse}
use Rattle.ledger.specs.declared.ledger.Ledger.{Ledger}
use Rattle.ledger.specs.declared.row.Circuit.{Circuit}
use Rattle.ledger.specs.declared.row.Row.{Row}
use Rattle.ledger.specs.declared.row.Row.TheVariants.{Empty, Held, Booked}
use Rattle.ledger.specs.declared.row.RowCall.TheVariants.{Hold}
use Rattle.ledger.specs.Ledgers.{ledger_tally}
use Rattle.ledger.specs.Routes.{route_refusal}
use Rattle.ledger.specs.Rows.{OneRowEach, entries_of, entry_fits, entry_of, fits, has_ticket, in_use, row_entry, row_next, share, width_on}
use Rattle.ledger.specs.Tally.{Entry, Tally, free_net, free_on, hold_next, hold_refusal, is_joined, last_ticket, row_count, sites_met, taken_on}
use Rattle.ledger.specs.Shown.{free_less, shown_at, shown_count}
use Rattle.ledger.proofs.Selling.{use_at}
use Rattle.ledger.proofs.Standing.{entry_from, entry_says, hold_entries}
use Rattle.ledger.proofs.Tests.{all_put, all_so, any_same}
use Rattle.ledger.proofs.Marks.{same_marks, tally_of}
use Rattle.ledger.proofs.Turns.{Stand}

-- what an answer says of the checks

clash : {P : Type 0} → ◌≡◌ {A = ℕ} 0 1 → P
clash e = absurd (omega arith)

module _ {A : Type 0} (x : A) where
  pub passed_none : (o : Option Told) (y : A) → Ok y ≡ answered o x → o ≡ None
  passed_none None y e = refl
  passed_none (Some told) y e = cc

  pub passed_is : (o : Option Told) (y : A) → Ok y ≡ answered o x → y ≡ x
  passed_is None y e = cc
  passed_is (Some told) y e = cc

  pub failed_some : (o : Option Told) (told : Told) → Err told ≡ answered o x → o ≡ Some told
  failed_some None told e = cc
  failed_some (Some other) told e = cc

or_else : Option Told → Option Told → Option Told
or_else None o = o
or_else (Some x) o = Some x

first_failed_append : (xs ys : List Check) → first_failed (xs ++ ys) ≡ or_else (first_failed xs) (first_failed ys)
unfolding or_else
first_failed_append [] ys = refl
first_failed_append (c ∷ cs) ys = go c.0 (first_failed_append cs ys)
  where
    go : (b : Bool) → first_failed (cs ++ ys) ≡ or_else (first_failed cs) (first_failed ys)
        → cond b (Some c.1) (first_failed (cs ++ ys)) ≡ or_else (cond b (Some c.1) (first_failed cs)) (first_failed ys)
    go true ih = refl
    go false ih = ih

pass : (b : Bool) (x : Told) (o : Option Told) → cond b (Some x) o ≡ None → (b ≡ false) × (o ≡ None)
pass true x o e = clash (cc)
pass false x o e = (refl, e)

-- tests over a list, at one of its numbers

all_among : (test : ℕ → Bool) (a : ℕ) (xs : List ℕ) → all_of test xs ≡ true → among a xs ≡ true → test a ≡ true
all_among test a [] h m = clash (ap (λ b. cond b 1 0) m)
all_among test a (x ∷ xs) h m = go (eqb a x) refl m (all_among test a xs (and_parts (test x) (all_of test xs) h).1)
  where
    go : (b : Bool) → eqb a x ≡ b → (b || among a xs) ≡ true → (among a xs ≡ true → test a ≡ true) → test a ≡ true
    go true e m ih = ap test (eqb-true a x e) ∙ (and_parts (test x) (all_of test xs) h).0
    go false e m ih = ih m

none_among : (test : ℕ → Bool) (a : ℕ) (xs : List ℕ) → any_of test xs ≡ false → among a xs ≡ true → test a ≡ false
none_among test a [] h m = clash (ap (λ b. cond b 1 0) m)
none_among test a (x ∷ xs) h m = go (eqb a x) refl m (none_among test a xs (or_parts (test x) (any_of test xs) h).1)
  where
    go : (b : Bool) → eqb a x ≡ b → (b || among a xs) ≡ true → (among a xs ≡ true → test a ≡ false) → test a ≡ false
    go true e m ih = ap test (eqb-true a x e) ∙ (or_parts (test x) (any_of test xs) h).0
    go false e m ih = ih m

among_map : (f : ℕ → ℕ) (a : ℕ) (xs : List ℕ) → among a xs ≡ true → among (f a) (map f xs) ≡ true
among_map f a [] m = clash (ap (λ b. cond b 1 0) m)
among_map f a (x ∷ xs) m = go (eqb a x) refl m (among_map f a xs)
  where
    yes : (b : Bool) → (b || true) ≡ true
    yes true = refl
    yes false = refl

    go : (b : Bool) → eqb a x ≡ b → (b || among a xs) ≡ true → (among a xs ≡ true → among (f a) (map f xs) ≡ true) → (eqb (f a) (f x) || among (f a) (map f xs)) ≡ true
    go true e m ih = ap (λ b. b || among (f a) (map f xs)) (eq-eqb (f a) (f x) (ap f (eqb-true a x e)))
    go false e m ih = ap (λ b. eqb (f a) (f x) || b) (ih m) ∙ yes (eqb (f a) (f x))

-- what differs in its image differs
distinct_map : (f : ℕ → ℕ) (xs : List ℕ) → distinct (map f xs) ≡ true → distinct xs ≡ true
distinct_map f [] h = refl
distinct_map f (x ∷ xs) h =
    let parts = and_parts (not (among (f x) (map f xs))) (distinct (map f xs)) h in
    go (among x xs) refl (not-true (among (f x) (map f xs)) parts.0) (distinct_map f xs parts.1)
  where
    go : (b : Bool) → among x xs ≡ b → among (f x) (map f xs) ≡ false → distinct xs ≡ true → (not b && distinct xs) ≡ true
    go true e n ih = absurd (both_ways (among (f x) (map f xs)) n (among_map f x xs e))
    go false e n ih = ih

arcs_apart : (net : Net) (arcs : List ℕ) → distinct (sites_met net arcs) ≡ true → distinct arcs ≡ true
arcs_apart net [] h = refl
arcs_apart net (i ∷ is) h =
    distinct_map (λ j. (arc_at net j).to) (i ∷ is) (and_parts (not (among (arc_at net i).from (map (λ j. (arc_at net j).to) (i ∷ is)))) (distinct (map (λ j. (arc_at net j).to) (i ∷ is))) h).1

-- the capacity that a ledger shows is what is free

free_past : (net : Net) (t : Tally) (i : ℕ) → arc_count net ≤ i → free_on net t i ≡ 0
free_past net t i past = let none : (arc_at net i).capacity ≡ 0 = rw (get_or_past net.arcs i no_arc past) in omega (arith, free_less (t.marked i) (arc_at net i).capacity (taken_on t i))

shown_capacity : (net : Net) (t : Tally) (i : ℕ) → (arc_at (free_net net t) i).capacity ≡ free_on net t i
shown_capacity net t i =
    ⊎_elim
    (λ l. ap (λ a. a.capacity) (shown_at net (free_on net t) i l))
    (λ past. ap (λ a. a.capacity) (get_or_past (free_net net t).arcs i no_arc (omega (arith, shown_count net (free_on net t)))) ∙ sym (free_past net t i past))
    (cases_lt i (arc_count net))

pub shown_room : (net : Net) (t : Tally) (width : ℕ) (arcs : List ℕ) → any_of (λ i. ltb (arc_at (free_net net t) i).capacity width) arcs ≡ any_of (λ i. ltb (free_on net t i) width) arcs
shown_room net t width arcs = any_same _ _ (λ i. ap (λ n. ltb n width) (shown_capacity net t i)) arcs

pub numbers_are : (arcs : List ℕ) (b : Bool) (numbers : List ℕ) → Some numbers ≡ cond b (Some arcs) None → numbers ≡ arcs
numbers_are arcs true numbers e = cc
numbers_are arcs false numbers e = cc

module _ (net : Net) (t : Tally) (width : ℕ) (arcs : List ℕ) where
  -- where all checks of the route but the last pass
  pub route_last : (b : Bool) → eqb width 0 ≡ false → arcs_outside arcs ≡ false → all_of (λ i. ltb i (arc_count net)) arcs ≡ true → is_joined net arcs ≡ true → distinct (sites_met net arcs) ≡ true
      → any_of (λ i. ltb (free_on net t i) width) arcs ≡ b → route_refusal net t width arcs ≡ cond b (Some (refusal 35)) None
  route_last b some inside there joined apart room = rw (some, inside, there, joined, apart, room)

  -- where there are numbers that a circuit does not hold, one is no arc's
  pub route_no_arc : WellFormed net → eqb width 0 ≡ false → arcs_outside arcs ≡ false → length arcs ≤ 15 → None ≡ cond (leb (length arcs) 15 && all_of (λ i. ltb i 256) arcs) (Some arcs) None → route_refusal net t width arcs ≡ Some (refusal 32)
  route_no_arc wf some inside few none = rw (some, inside, go (all_of (λ i. ltb i (arc_count net)) arcs) refl)
    where
      go : (b : Bool) → all_of (λ i. ltb i (arc_count net)) arcs ≡ b → b ≡ false
      go true e =
          let below = all_so (λ i. ltb i (arc_count net)) (λ i. ltb i 256) (λ i l. lt-ltb i 256 (omega (arith, ltb-true i (arc_count net) l, wf.few_arcs))) arcs e in
          let there : None ≡ Some arcs = none ∙ ap (λ b. cond b (Some arcs) None) (and_from _ _ (le-leb (length arcs) 15 few) below) in
          cc
      go false e = refl

  abbrev last_checks : List Check
  last_checks = (leb row_count (length t.entries), refusal 36) ∷ (leb last_ticket t.given, refusal 37) ∷ []

  after_route : (o : Option Told) → route_refusal net t width arcs ≡ o → hold_refusal net t width arcs ≡ or_else o (first_failed last_checks)
  after_route o e =
      first_failed_append ((eqb width 0, refusal 30)
      ∷ (arcs_outside arcs, refusal 31)
      ∷ (no_such_arc net arcs, refusal 32)
      ∷ (not (is_joined net arcs), refusal 33)
      ∷ (not (distinct (sites_met net arcs)), refusal 34)
      ∷ (any_of (λ i. ltb (free_on net t i) width) arcs, refusal 35)
      ∷ []) last_checks
      ∙ ap (λ o. or_else o (first_failed last_checks)) e

  pub hold_failed : (x : Told) → route_refusal net t width arcs ≡ Some x → hold_refusal net t width arcs ≡ Some x
  unfolding or_else
  hold_failed x e = after_route (Some x) e

  module _ (passed : route_refusal net t width arcs ≡ None) where
    pub hold_full : row_count ≤ length t.entries → hold_refusal net t width arcs ≡ Some (refusal 36)
    unfolding or_else
    hold_full full = after_route None passed ∙ rw (le-leb row_count (length t.entries) full)

    pub hold_no_ticket : length t.entries < row_count → last_ticket ≤ t.given → hold_refusal net t width arcs ≡ Some (refusal 37)
    unfolding or_else
    hold_no_ticket room none = after_route None passed ∙ rw (lt-leb row_count (length t.entries) room, le-leb last_ticket t.given none)

    pub hold_granted : length t.entries < row_count → t.given < last_ticket → hold_refusal net t width arcs ≡ None
    unfolding or_else
    hold_granted room some = after_route None passed ∙ rw (lt-leb row_count (length t.entries) room, lt-leb last_ticket t.given some)

-- what is known of a route that passed its checks
pub record Passed (net : Net) (t : Tally) (width : ℕ) (arcs : List ℕ) : Type 0 where
  pub some_width : 0 < width
  pub some_arcs : 0 < length arcs
  pub few_arcs : length arcs ≤ 15
  pub arcs_differ : distinct arcs ≡ true
  pub there : (i : ℕ) → among i arcs ≡ true → i < arc_count net
  pub room : (i : ℕ) → among i arcs ≡ true → width ≤ free_on net t i

pub route_passed : (net : Net) (t : Tally) (width : ℕ) (arcs : List ℕ) → route_refusal net t width arcs ≡ None → Passed net t width arcs
route_passed net t width arcs e =
    let p0 = pass (eqb width 0) _ _ e in
    let p1 = pass (arcs_outside arcs) _ _ p0.1 in
    let p2 = pass (no_such_arc net arcs) _ _ p1.1 in
    let p3 = pass (not (is_joined net arcs)) _ _ p2.1 in
    let p4 = pass (not (distinct (sites_met net arcs))) _ _ p3.1 in
    let p5 = pass (any_of (λ i. ltb (free_on net t i) width) arcs) _ _ p4.1 in
    let inside = or_parts (ltb (length arcs) 1) (ltb 15 (length arcs)) p1.0 in
    let exist = not-false (all_of (λ i. ltb i (arc_count net)) arcs) p2.0 in
    record {
      some_width = let ne = eqb-false width 0 p0.0 in ⊎_elim (λ l. l) (λ z. absurd (ne (omega arith))) (cases_lt 0 width);
      some_arcs = omega (arith, ltb-false (length arcs) 1 inside.0);
      few_arcs = ltb-false 15 (length arcs) inside.1;
      arcs_differ = arcs_apart net arcs (not-false (distinct (sites_met net arcs)) p4.0);
      there = λ i m. ltb-true i (arc_count net) (all_among (λ i. ltb i (arc_count net)) i arcs exist m);
      room = λ i m. ltb-false (free_on net t i) width (none_among (λ i. ltb (free_on net t i) width) i arcs p5.0 m);
    }

module _ (net : Net) (wf : WellFormed net) (t : Tally) (width : ℕ) (arcs : List ℕ) (p : Passed net t width arcs) where
  capacity_at : (i : ℕ) → i < arc_count net → (arc_at net i).capacity ≤ 255
  capacity_at i l = (All-get_or (ArcFits net.sites) net.arcs i no_arc l wf.arcs_fit).capacity_fits

  -- with the width, what is taken on an arc is at most its capacity
  pub room_for : (i : ℕ) → among i arcs ≡ true → taken_on t i + width ≤ 255
  room_for i m = go (t.marked i) (p.room i m) (capacity_at i (p.there i m))
    where
      go : (b : Bool) → width ≤ cond b 0 ((arc_at net i).capacity - taken_on t i) → (arc_at net i).capacity ≤ 255 → taken_on t i + width ≤ 255
      go true h cap = absurd (omega (arith, p.some_width))
      go false h cap = omega (arith, p.some_width)

-- an empty row turns held

fits_more : (given : ℕ) (r : Row) → fits given r ≡ true → fits (given + 1) r ≡ true
fits_more given r h = go (row_entry r) h
  where
    go : (o : Option Entry) → option_map_or (entry_fits given) o true ≡ true → option_map_or (entry_fits (given + 1)) o true ≡ true
    go None h = refl
    go (Some x) h =
        let was = entry_says given x h in
        entry_from (given + 1) x (record {
          some_ticket = was.some_ticket;
          ticket_given = omega (arith, was.ticket_given);
          some_width = was.some_width;
          some_arcs = was.some_arcs;
          few_arcs = was.few_arcs;
          arcs_apart = was.arcs_apart;
        })

count_new : (given ticket : ℕ) → given < ticket → (rows : List Row) → all_of (fits given) rows ≡ true → count_by (has_ticket ticket) rows ≡ 0
count_new given ticket new [] h = refl
count_new given ticket new (r ∷ rs) h = sum_by-cons (λ r. cond (has_ticket ticket r) 1 0) r rs ∙ (go (row_entry r) (and_parts _ _ h).0 ∙ count_new given ticket new rs (and_parts _ _ h).1)
  where
    go : (o : Option Entry) → option_map_or (entry_fits given) o true ≡ true → cond (option_map_or (λ x. eqb x.ticket ticket) o false) 1 0 + count_by (has_ticket ticket) rs ≡ count_by (has_ticket ticket) rs
    go None fit = omega arith
    go (Some x) fit =
        let none : cond {A = ℕ} (eqb x.ticket ticket) 1 0 ≡ 0 = ap (λ b. cond b 1 0) (ne_eqb x.ticket ticket (λ e. absurd (omega (arith, (entry_says given x fit).ticket_given)))) in
        omega arith

-- a circuit of a route that passed its checks, under a new ticket
pub held_fit : (net : Net) (t : Tally) (width : ℕ) (arcs : List ℕ) → Passed net t width arcs → (given : ℕ) (c : Circuit) → c.ticket ≡ given + 1 → c.width ≡ width → c.arcs ≡ arcs → entry_fits (given + 1) (entry_of false c) ≡ true
held_fit net t width arcs p given c ticket w a =
    entry_from (given + 1) (entry_of false c) (record {
      some_ticket = omega (arith, ticket);
      ticket_given = omega (arith, ticket);
      some_width = omega (arith, w, p.some_width);
      some_arcs = rw a p.some_arcs;
      few_arcs = rw a p.few_arcs;
      arcs_apart = rw a p.arcs_differ;
    })

pub after_hold : (old next : Row) (c : Circuit) → not (in_use old) ≡ true → next ≡ unwrap_or (row_next old (Hold c)) old → next ≡ Held c
after_hold Empty next c h e = e
after_hold (Held d) next c h e = absurd (both_ways _ refl h)
after_hold (Booked d) next c h e = absurd (both_ways _ refl h)

module _ {N : Type 0} (l : Ledger N) (k : ℕ) (room : k < length l.rows) (empty : not (in_use (get_or l.rows k Empty)) ≡ true)
    (c : Circuit) (ticket : c.ticket ≡ l.given + 1) (fit : entry_fits (l.given + 1) (entry_of false c) ≡ true) where
  none_there : {A : Type 0} (f : Entry → A) (d : A) → option_map_or f (row_entry (get_or l.rows k Empty)) d ≡ d
  none_there f d = go (row_entry (get_or l.rows k Empty)) empty
    where
      go : (o : Option Entry) → not (is_some o) ≡ true → option_map_or f o d ≡ d
      go None h = refl
      go (Some x) h = absurd (both_ways _ refl h)

  held_one : OneRowEach (set l.rows k (Held c))
  held_one t =
      let none : cond {A = ℕ} (has_ticket t (get_or l.rows k Empty)) 1 0 ≡ 0 = ap (λ b. cond b 1 0) (none_there (λ x. eqb x.ticket t) false) in
      ⊎_elim
      (λ e. let new : count_by (has_ticket t) l.rows ≡ 0 = count_new l.given t (omega (arith, ticket)) l.rows l.rows_fit in
      let yes : cond {A = ℕ} (eqb c.ticket t) 1 0 ≡ 1 = ap (λ b. cond b 1 0) (eq-eqb c.ticket t e) in
      omega (arith, sum_by-set (λ r. cond (has_ticket t r) 1 0) l.rows k (Held c) Empty room))
      (λ ne. let no : cond {A = ℕ} (eqb c.ticket t) 1 0 ≡ 0 = ap (λ b. cond b 1 0) (ne_eqb c.ticket t ne) in
      omega (arith, sum_by-set (λ r. cond (has_ticket t r) 1 0) l.rows k (Held c) Empty room, l.one_row_each t))
      (cases_eq c.ticket t)

  held_stand : (more : List ArcUse) → ((arc : ℕ) → arc < 256 → (use_at more arc).sold ≡ (use_at l.arcs arc).sold + share arc (entry_of false c)) → Stand (l.given + 1) more (set l.rows k (Held c))
  held_stand more h =
      record {
        one_row_each = held_one;
        rows_fit = all_put (fits (l.given + 1)) l.rows k (Held c) fit (all_so (fits l.given) (fits (l.given + 1)) (fits_more l.given) l.rows l.rows_fit);
        sold_is = λ arc la. omega (arith, h arc la, l.sold_is arc la, none_there (share arc) 0, sum_by-set (width_on arc) l.rows k (Held c) Empty room);
      }

  module _ (next : Row) (held : next ≡ Held c) (more : List ArcUse) (changed : (arc : ℕ) → arc < 256 → among arc c.arcs ≡ true → (use_at more arc).sold ≡ (use_at l.arcs arc).sold + c.width)
      (others : (arc : ℕ) → among arc c.arcs ≡ false → use_at more arc ≡ use_at l.arcs arc) (closed : (arc : ℕ) → (use_at more arc).closed ≡ (use_at l.arcs arc).closed) where
    more_sold : (arc : ℕ) → arc < 256 → (use_at more arc).sold ≡ (use_at l.arcs arc).sold + share arc (entry_of false c)
    more_sold arc la = go (among arc c.arcs) refl
      where
        go : (b : Bool) → among arc c.arcs ≡ b → (use_at more arc).sold ≡ (use_at l.arcs arc).sold + cond (among arc c.arcs) c.width 0
        go true m = changed arc la m ∙ ap (λ b. (use_at l.arcs arc).sold + cond b c.width 0) (sym m)
        go false m = ap (λ u. u.sold) (others arc m) ∙ (sym (add-zero (use_at l.arcs arc).sold) ∙ ap (λ b. (use_at l.arcs arc).sold + cond b c.width 0) (sym m))

    pub hold_stand : Stand c.ticket more (set l.rows k next)
    hold_stand = rw held (subst (λ n. Stand n more (set l.rows k (Held c))) (sym ticket) (held_stand more more_sold))

    pub hold_tally : tally_of (λ i. (use_at more i).closed) c.ticket (entries_of (set l.rows k next)) ≡ hold_next (ledger_tally l) c.width c.arcs
    hold_tally =
        ap (λ n. tally_of (λ i. (use_at more i).closed) n (entries_of (set l.rows k next))) ticket
        ∙ (ap (λ r. tally_of (λ i. (use_at more i).closed) (l.given + 1) (entries_of (set l.rows k r))) held
        ∙ (same_marks _ _ (l.given + 1) (entries_of (set l.rows k (Held c))) closed
        ∙ (ap (tally_of (λ i. (use_at l.arcs i).closed) (l.given + 1)) (hold_entries l.given c (omega (arith, ticket)) l.rows k room (not-true _ empty) l.rows_fit)
        ∙ ap (λ n. tally_of (λ i. (use_at l.arcs i).closed) (l.given + 1) (entries_of l.rows ++ (record { ticket = n; width = c.width; arcs = c.arcs; booked = false } ∷ []))) ticket)))

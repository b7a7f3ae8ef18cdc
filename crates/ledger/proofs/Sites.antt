-- Lemmas on the marks of visited sites: the sites met so far, and that a site stands twice where it is marked already.
use Rattle.std.proofs.Common.{◌≡◌, ℕ, ◌+◌, ◌<◌, Bool, true, false, cond, not, ◌&&◌, ◌||◌, eqb, List, [], ◌∷◌, ◌++◌, map, length, get_or, take, drop, set, replicate, sym, refl, ap, ◌∙◌, subst, ⊎_elim, arith, lit<}
use mathlib.Core.Bool.{or-false}
use mathlib.Core.List.{map-append}
use Rattle.std.proofs.ByRecursion.{All-get_or}
use Rattle.std.proofs.lemmas.List.{get_or_past, get_or-set_other, get_or-set_same, length-replicate, take-append-drop, take_more}
use Rattle.std.proofs.lemmas.Bool.{and_left, and_right, cases_eq, cases_lt, eq-eqb, ne_eqb, not_from_true}
use Rattle.std.proofs.lemmas.Bool.Decides.{nat_tests}
use Rattle.network.specs.Lists.{among, any_of, distinct}
use Rattle.network.specs.Net.{Net, ArcFits, WellFormed, arc_at, arc_count, no_arc}
use Rattle.ledger.specs.Tally.{sites_met}
use Rattle.ledger.proofs.Selling.{any_push}
use Rattle.ledger.proofs.Tests.{get_or_same}

-- sites are below 64, also those of no arc
pub site_below : (net : Net) → WellFormed net → (i : ℕ) → ((arc_at net i).from < 64) × ((arc_at net i).to < 64)
site_below net wf i =
    ⊎_elim
    (λ l. let fit = All-get_or (ArcFits net.sites) net.arcs i no_arc l wf.arcs_fit in (omega (arith, fit.from_site, wf.few_sites), omega (arith, fit.to_site, wf.few_sites)))
    (λ past. rw (get_or_past net.arcs i no_arc past) (lit< tt, lit< tt))
    (cases_lt i (arc_count net))

-- lists of which no number stands twice

pub eqb_swap : (a b : ℕ) → eqb a b ≡ eqb b a
eqb_swap a b = grind (arith, nat_tests)

shuffle : (m e d n : Bool) → (not (m || e) && (d && not n)) ≡ ((not m && d) && not (e || n))
shuffle true e d n = refl
shuffle false true true n = refl
shuffle false true false n = refl
shuffle false false d n = refl

distinct_push : (xs : List ℕ) (y : ℕ) → distinct (xs ++ (y ∷ [])) ≡ (distinct xs && not (among y xs))
distinct_push [] y = refl
distinct_push (x ∷ xs) y =
    ap (λ b. not b && distinct (xs ++ (y ∷ []))) (any_push (eqb x) xs y)
    ∙ (ap (λ d. not (among x xs || eqb x y) && d) (distinct_push xs y)
    ∙ (shuffle (among x xs) (eqb x y) (distinct xs) (among y xs) ∙ ap (λ e. (not (among x xs) && distinct xs) && not (e || among y xs)) (eqb_swap x y)))

any_front : {A : Type 0} (test : A → Bool) (xs ys : List A) → any_of test xs ≡ true → any_of test (xs ++ ys) ≡ true
any_front test [] ys h = absurd (none h)
  where
    none : false ≡ true → ⊥
    none e = let z : ◌≡◌ {A = ℕ} 0 1 = ap (λ b. cond b 1 0) e in omega arith
any_front test (x ∷ xs) ys h = go (test x) h (any_front test xs ys)
  where
    go : (b : Bool) → (b || any_of test xs) ≡ true → (any_of test xs ≡ true → any_of test (xs ++ ys) ≡ true) → (b || any_of test (xs ++ ys)) ≡ true
    go true h ih = refl
    go false h ih = ih h

distinct_front : (xs ys : List ℕ) → distinct xs ≡ false → distinct (xs ++ ys) ≡ false
distinct_front [] ys h = absurd (none h)
  where
    none : true ≡ false → ⊥
    none e = let z : ◌≡◌ {A = ℕ} 1 0 = ap (λ b. cond b 1 0) e in omega arith
distinct_front (x ∷ xs) ys h = go (among x xs) refl h (distinct_front xs ys)
  where
    go : (b : Bool) → among x xs ≡ b → (not b && distinct xs) ≡ false → (distinct xs ≡ false → distinct (xs ++ ys) ≡ false) → (not (among x (xs ++ ys)) && distinct (xs ++ ys)) ≡ false
    go true e h ih = and_left _ _ (not_from_true (among x (xs ++ ys)) (any_front (eqb x) xs ys e))
    go false e h ih = and_right _ _ (ih h)

-- the places that are marked are the numbers of a list
abbrev pub Marks : List Bool → List ℕ → Type 0
Marks marks xs = (s : ℕ) → get_or marks s false ≡ among s xs

marks_more : (marks : List Bool) (y : ℕ) (xs : List ℕ) → y < length marks → Marks marks xs → Marks (set marks y true) (xs ++ (y ∷ []))
marks_more marks y xs l h s =
    ⊎_elim
    (λ e. ap (λ s. get_or (set marks y true) s false) e ∙ (get_or-set_same marks y true false l ∙ sym (pushed true (eq-eqb s y e) ∙ or_true (among s xs))))
    (λ ne. get_or-set_other marks y s true false ne ∙ (h s ∙ sym (pushed false (ne_eqb s y ne) ∙ or-false (among s xs))))
    (cases_eq s y)
  where
    or_true : (b : Bool) → (b || true) ≡ true
    or_true true = refl
    or_true false = refl

    pushed : (b : Bool) → eqb s y ≡ b → among s (xs ++ (y ∷ [])) ≡ (among s xs || b)
    pushed b e = any_push (eqb s) xs y ∙ ap (λ b. among s xs || b) e

-- the sites met on the first arcs of a route that has one

whole : (net : Net) (arcs : List ℕ) → 0 < length arcs → sites_met net arcs ≡ (arc_at net (get_or arcs 0 0)).from ∷ map (λ i. (arc_at net i).to) arcs
whole net [] l = absurd (omega arith)
whole net (i ∷ is) l = refl

module _ (net : Net) (arcs : List ℕ) where
  abbrev to_site : ℕ → ℕ
  to_site i = (arc_at net i).to

  abbrev pub met : ℕ → List ℕ
  met k = (arc_at net (get_or arcs 0 0)).from ∷ map to_site (take k arcs)

  pub marks_start : (n y : ℕ) → y < n → y ≡ (arc_at net (get_or arcs 0 0)).from → Marks (set (replicate n false) y true) (met 0)
  marks_start n y l e = rw (← e) (marks_more (replicate n false) y [] (omega (arith, length-replicate n false)) (λ s. get_or_same n s false))

  met_more : (k y : ℕ) → k < length arcs → y ≡ (arc_at net (get_or arcs k 0)).to → met (k + 1) ≡ met k ++ (y ∷ [])
  met_more k y l e =
      ap (λ is. (arc_at net (get_or arcs 0 0)).from ∷ map to_site is) (take_more arcs k 0 l)
      ∙ (ap (λ is. (arc_at net (get_or arcs 0 0)).from ∷ is) (map-append to_site (take k arcs) (get_or arcs k 0 ∷ [])) ∙ ap (λ z. met k ++ (z ∷ [])) (sym e))

  pub met_next : (k y : ℕ) (marks : List Bool) → k < length arcs → y ≡ (arc_at net (get_or arcs k 0)).to → y < length marks → distinct (met k) ≡ true → Marks marks (met k) → get_or marks y false ≡ false
      → (distinct (met (k + 1)) ≡ true) × Marks (set marks y true) (met (k + 1))
  met_next k y marks l e room once h new =
      subst (λ xs. (distinct xs ≡ true) × Marks (set marks y true) xs) (sym (met_more k y l e)) (
        distinct_push (met k) y ∙ (ap (λ b. b && not (among y (met k))) once ∙ ap not (sym (h y) ∙ new)),
        marks_more marks y (met k) room h,
      )

  met_all : (k : ℕ) → 0 < length arcs → sites_met net arcs ≡ met k ++ map to_site (drop k arcs)
  met_all k l = whole net arcs l ∙ (ap (λ is. (arc_at net (get_or arcs 0 0)).from ∷ map to_site is) (sym (take-append-drop k arcs)) ∙ ap (λ is. (arc_at net (get_or arcs 0 0)).from ∷ is) (map-append to_site (take k arcs) (drop k arcs)))

  pub met_twice : (k y : ℕ) (marks : List Bool) → k < length arcs → y ≡ (arc_at net (get_or arcs k 0)).to → Marks marks (met k) → get_or marks y false ≡ true → distinct (sites_met net arcs) ≡ false
  met_twice k y marks l e h old =
      let here : distinct (met (k + 1)) ≡ false =
      ap distinct (met_more k y l e) ∙ (distinct_push (met k) y ∙ and_right (distinct (met k)) (not (among y (met k))) (ap not (sym (h y) ∙ old))) in
      ap distinct (met_all (k + 1) (omega arith)) ∙ distinct_front (met (k + 1)) (map to_site (drop (k + 1) arcs)) here

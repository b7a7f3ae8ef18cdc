-- Membership in lists that are mapped, filtered and counted, and how many different numbers there are.
use Rattle.std.proofs.Common.{not, eqb, ltb, ◌≤◌, length, ◌≡◌, ℕ, zero, suc, ◌+◌, ◌<◌, Bool, true, false, cond, List, [], ◌∷◌, map, filter, refl, ap, subst, inl, inr, le_of_suc-le-suc, not-suc-le-zero, add-zero, arith}
use Rattle.std.specs.List.{range_with_len, AllByRecursion, IsDistinct}
use Rattle.std.proofs.lemmas.Bool.{and_parts, or_parts, not-true, ltb-true, eqb-true}
use Rattle.std.proofs.lemmas.List.Folds.{Any-from_list_any}
use Rattle.std.proofs.lemmas.List.Sums.{AllPass-from_list_all}
use Rattle.std.proofs.lemmas.Map.Steps.{length-le_from_distinct_below}
use Rattle.network.specs.Lists.{In, all_of, among, distinct}

module _ {A B : Type 0} (f : A → B) where
  pub in_map : (xs : List A) (x : A) → In x xs → In (f x) (map f xs)
  in_map [] x h = absurd h
  in_map (y ∷ ys) x (inl e) = inl (ap f e)
  in_map (y ∷ ys) x (inr h) = inr (in_map ys x h)

  pub from_map : (xs : List A) (b : B) → In b (map f xs) → (x : A) × In x xs × (b ≡ f x)
  from_map [] b h = absurd h
  from_map (x ∷ xs) b (inl e) = (x, inl refl, e)
  from_map (x ∷ xs) b (inr h) = let r = from_map xs b h in (r.0, inr r.1, r.2)

module _ {A : Type 0} (p : A → Bool) where
  still_in : (b : Bool) (y : A) (ks : List A) (x : A) → In x ks → In x (cond b (y ∷ ks) ks)
  still_in true y ks x h = inr h
  still_in false y ks x h = h

  pub in_kept : (xs : List A) (x : A) → In x xs → p x ≡ true → In x (filter p xs)
  in_kept [] x h t = absurd h
  in_kept (y ∷ ys) x (inl e) t = let u : p y ≡ true = rw e at t in rw u (inl e)
  in_kept (y ∷ ys) x (inr h) t = still_in (p y) y (filter p ys) x (in_kept ys x h t)

  was_in : (y : A) (ys : List A) (x : A) (b : Bool) → p y ≡ b → (In x (filter p ys) → In x ys × (p x ≡ true)) → In x (cond b (y ∷ filter p ys) (filter p ys)) → In x (y ∷ ys) × (p x ≡ true)
  was_in y ys x true e rest (inl q) = (inl q, rw q e)
  was_in y ys x true e rest (inr h) = (inr (rest h).0, (rest h).1)
  was_in y ys x false e rest h = (inr (rest h).0, (rest h).1)

  pub from_kept : (xs : List A) (x : A) → In x (filter p xs) → In x xs × (p x ≡ true)
  from_kept [] x h = absurd h
  from_kept (y ∷ ys) x h = was_in y ys x (p y) refl (from_kept ys x) h

pub in_counting : (a n i : ℕ) → i < n → In (a + i) (range_with_len a n)
in_counting a zero i h = absurd (not-suc-le-zero h)
in_counting a (suc n) zero h = inl (add-zero a)
in_counting a (suc n) (suc i) h =
    let e : (a + 1) + i ≡ a + suc i = omega arith in
    inr (subst (λ x. In x (range_with_len (a + 1) n)) e (in_counting (a + 1) n i (le_of_suc-le-suc h)))

-- different numbers below n are at most n

none_same : (x : ℕ) (xs : List ℕ) → among x xs ≡ false → AllByRecursion (λ y. eqb x y ≡ false) xs
none_same x [] h = tt
none_same x (y ∷ ys) h = let parts = or_parts (eqb x y) (among x ys) h in (parts.0, none_same x ys parts.1)

all_different : (xs : List ℕ) → distinct xs ≡ true → IsDistinct eqb xs
unfolding IsDistinct
all_different [] h = tt
all_different (x ∷ xs) h =
    let parts = and_parts (not (among x xs)) (distinct xs) h in
    (none_same x xs (not-true _ parts.0), all_different xs parts.1)

pub distinct_few : (n : ℕ) (xs : List ℕ) → distinct xs ≡ true → all_of (λ x. ltb x n) xs ≡ true → length xs ≤ n
distinct_few n xs d below =
    length-le_from_distinct_below xs n (all_different xs d)
    (λ q h.
    let found = Any-from_list_any (eqb q) xs h in
    let small : ltb found.1 n ≡ true = rw found.3 at (AllPass-from_list_all (λ x. ltb x n) xs below found.0 found.1 found.2) in
    let same = eqb-true q found.1 found.4 in
    let bound = ltb-true found.1 n small in
    omega arith)

-- What stands at a place of a list that rises, what stands before it, and lists with the same items.
use Rattle.std.proofs.Common.{◌≡◌, ℕ, zero, suc, ◌<◌, Bool, true, false, cond, not, T, ◌⊎◌, List, [], ◌∷◌, length, get_or, take, sym, refl, ◌∙◌, subst, inl, inr, ⊎_elim, arith}
use Rattle.network.specs.Lists.{In, insert, sort}
use Rattle.routes.proofs.Sorting.{Unique, Rising, Ahead, in_all, from_take, from_insert, from_sort}

not_both : (b : Bool) → T (not b) → T b → ⊥
not_both true h t = h
not_both false h t = t

pub in_get_or : {A : Type 0} (xs : List A) (k : ℕ) (d : A) → k < length xs → In (get_or xs k d) xs
in_get_or [] k d h = absurd (omega arith)
in_get_or (x ∷ xs) zero d h = inl refl
in_get_or (x ∷ xs) (suc k) d h = inr (in_get_or xs k d (omega arith))

-- in a list with no item twice, the item at a place is not among those before it
pub not_before : {A : Type 0} (xs : List A) (k : ℕ) (d : A) → Unique xs → k < length xs
    → In (get_or xs k d) (take k xs) → ⊥
not_before [] k d u h i = absurd (omega arith)
not_before (x ∷ xs) zero d u h i = i
not_before (x ∷ xs) (suc k) d u h (inl q) = u.0 (subst (λ y. In y xs) q (in_get_or xs k d (omega arith)))
not_before (x ∷ xs) (suc k) d u h (inr i) = not_before xs k d u.1 (omega arith) i

pub unique_take : {A : Type 0} (k : ℕ) (xs : List A) → Unique xs → Unique (take k xs)
unique_take zero xs u = tt
unique_take (suc k) [] u = tt
unique_take (suc k) (x ∷ xs) u = (λ i. u.0 (from_take k xs x i), unique_take k xs u.1)

module _ {A : Type 0} (first : A → A → Bool) where
  unique_insert : (x : A) (xs : List A) → (In x xs → ⊥) → Unique xs → Unique (insert first x xs)
  unique_insert x [] new u = (λ i. i, tt)
  unique_insert x (y ∷ ys) new u = go (first x y) (unique_insert x ys (λ i. new (inr i)) u.1)
    where
      go : (b : Bool) → Unique (insert first x ys) → Unique (cond b (x ∷ (y ∷ ys)) (y ∷ insert first x ys))
      go true ih = (new, u)
      go false ih = (λ i. ⊎_elim (λ q. new (inl (sym q))) u.0 (from_insert first x ys y i), ih)

  pub unique_sort : (xs : List A) → Unique xs → Unique (sort first xs)
  unique_sort [] u = tt
  unique_sort (x ∷ xs) u = unique_insert x (sort first xs) (λ i. u.0 (from_sort first xs x i)) (unique_sort xs u.1)

  -- what may stand before the item at a place stands before that place, or is that item
  pub up_to : (xs : List A) (k : ℕ) (d p : A) → Rising first xs → k < length xs → In p xs → T (first p (get_or xs k d))
      → In p (take k xs) ⊎ (p ≡ get_or xs k d)
  up_to [] k d p r h i t = absurd i
  up_to (y ∷ ys) zero d p r h (inl q) t = inr q
  up_to (y ∷ ys) zero d p r h (inr i) t = absurd (not_both (first p y) (in_all (Ahead first y) ys p r.0 i) t)
  up_to (y ∷ ys) (suc k) d p r h (inl q) t = inl (inl q)
  up_to (y ∷ ys) (suc k) d p r h (inr i) t = ⊎_elim (λ j. inl (inr j)) inr (up_to ys k d p r.1 (omega arith) i t)

  -- two rising lists with the same items are the same
  pub rising_same : (xs ys : List A) → ((a b : A) → In a xs → In b xs → T (first a b) ⊎ T (first b a))
      → Rising first xs → Rising first ys → ((x : A) → In x xs → In x ys) → ((x : A) → In x ys → In x xs) → xs ≡ ys
  rising_same [] [] total r s into from = refl
  rising_same [] (y ∷ ys) total r s into from = absurd (from y (inl refl))
  rising_same (x ∷ xs) [] total r s into from = absurd (into x (inl refl))
  rising_same (x ∷ xs) (y ∷ ys) total r s into from =
      let rest = rising_same xs ys (λ a b i j. total a b (inr i) (inr j)) r.1 s.1 (λ z i. down z i (into z (inr i))) (λ z i. up z i (from z (inr i))) in
      let top = same in
      cc
    where
      heads : In x (y ∷ ys) → In y (x ∷ xs) → x ≡ y
      heads (inl q) j = q
      heads (inr i) (inl q) = sym q
      heads (inr i) (inr j) =
          absurd (⊎_elim (not_both (first x y) (in_all (Ahead first y) ys x s.0 i)) (not_both (first y x) (in_all (Ahead first x) xs y r.0 j)) (total x y (inl refl) (inr j)))

      same : x ≡ y
      same = heads (into x (inl refl)) (from y (inl refl))

      itself : T (first x x)
      itself = ⊎_elim (λ t. t) (λ t. t) (total x x (inl refl) (inl refl))

      down : (z : A) → In z xs → In z (y ∷ ys) → In z ys
      down z i (inl q) = absurd (not_both (first x x) (subst (Ahead first x) (q ∙ sym same) (in_all (Ahead first x) xs z r.0 i)) itself)
      down z i (inr j) = j

      up : (z : A) → In z ys → In z (x ∷ xs) → In z xs
      up z i (inl q) =
          absurd (not_both (first x x) (subst (λ w. Ahead first w x) (sym same) (subst (Ahead first y) q (in_all (Ahead first y) ys z s.0 i))) itself)
      up z i (inr j) = j

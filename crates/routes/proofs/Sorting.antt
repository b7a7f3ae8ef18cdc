-- A sorted list: it has the same items, each before all that follow.
use Rattle.std.proofs.Common.{◌≡◌, ℕ, zero, suc, ◌<◌, Bool, true, false, cond, not, T, ◌⊎◌, List, [], ◌∷◌, length, take, filter, sym, refl, ap, subst, inl, inr, ⊎_elim, arith}
use Rattle.std.specs.List.{AllByRecursion}
use Rattle.network.specs.Lists.{In, insert, sort}
use Rattle.length.proofs.Members.{from_kept}

-- no item stands there twice
abbrev pub Unique : {A : Type 0} → List A → Type 0
Unique [] = Unit {0}
Unique (x ∷ xs) = (In x xs → ⊥) × Unique xs

pub all_in : {A : Type 0} (P : A → Type 0) (xs : List A) → ((x : A) → In x xs → P x) → AllByRecursion P xs
all_in P [] h = tt
all_in P (x ∷ xs) h = (h x (inl refl), all_in P xs (λ y i. h y (inr i)))

pub in_all : {A : Type 0} (P : A → Type 0) (xs : List A) (x : A) → AllByRecursion P xs → In x xs → P x
in_all P [] x h i = absurd i
in_all P (y ∷ ys) x h (inl e) = subst P (sym e) h.0
in_all P (y ∷ ys) x h (inr i) = in_all P ys x h.1 i

pub from_take : {A : Type 0} (k : ℕ) (xs : List A) (x : A) → In x (take k xs) → In x xs
from_take zero xs x i = absurd i
from_take (suc k) [] x i = absurd i
from_take (suc k) (y ∷ ys) x (inl e) = inl e
from_take (suc k) (y ∷ ys) x (inr i) = inr (from_take k ys x i)

module _ {A : Type 0} (first : A → A → Bool) where
  abbrev pub Ahead : A → A → Type 0
  Ahead r s = T (not (first s r))

  abbrev pub Rising : List A → Type 0
  Rising [] = Unit {0}
  Rising (r ∷ rs) = AllByRecursion (Ahead r) rs × Rising rs

  -- the same items
  pub from_insert : (x : A) (xs : List A) (y : A) → In y (insert first x xs) → (y ≡ x) ⊎ In y xs
  from_insert x [] y (inl e) = inl e
  from_insert x [] y (inr i) = absurd i
  from_insert x (z ∷ zs) y i = go (first x z) (from_insert x zs y) i
    where
      go : (b : Bool) → (In y (insert first x zs) → (y ≡ x) ⊎ In y zs) → In y (cond b (x ∷ (z ∷ zs)) (z ∷ insert first x zs)) → (y ≡ x) ⊎ In y (z ∷ zs)
      go true ih (inl e) = inl e
      go true ih (inr i) = inr i
      go false ih (inl e) = inr (inl e)
      go false ih (inr i) = ⊎_elim inl (λ j. inr (inr j)) (ih i)

  pub into_insert : (x : A) (xs : List A) (y : A) → (y ≡ x) ⊎ In y xs → In y (insert first x xs)
  into_insert x [] y (inl e) = inl e
  into_insert x [] y (inr i) = absurd i
  into_insert x (z ∷ zs) y i = go (first x z) (into_insert x zs y) i
    where
      go : (b : Bool) → ((y ≡ x) ⊎ In y zs → In y (insert first x zs)) → (y ≡ x) ⊎ In y (z ∷ zs) → In y (cond b (x ∷ (z ∷ zs)) (z ∷ insert first x zs))
      go true ih (inl e) = inl e
      go true ih (inr i) = inr i
      go false ih (inl e) = inr (ih (inl e))
      go false ih (inr (inl e)) = inl e
      go false ih (inr (inr i)) = inr (ih (inr i))

  pub from_sort : (xs : List A) (y : A) → In y (sort first xs) → In y xs
  from_sort [] y i = i
  from_sort (x ∷ xs) y i = ⊎_elim inl (λ j. inr (from_sort xs y j)) (from_insert x (sort first xs) y i)

  pub into_sort : (xs : List A) (y : A) → In y xs → In y (sort first xs)
  into_sort [] y i = i
  into_sort (x ∷ xs) y (inl e) = into_insert x (sort first xs) y (inl e)
  into_sort (x ∷ xs) y (inr i) = into_insert x (sort first xs) y (inr (into_sort xs y i))

  -- in order, where the comparison is one on the items at hand
  module _ (P : A → Type 0)
      (antisym : (a b : A) → P a → P b → T (first a b) → T (first b a) → a ≡ b)
      (trans : (a b c : A) → P a → P b → P c → T (first a b) → T (first b c) → T (first a c)) where
    not_yes : (b : Bool) → (T b → ⊥) → T (not b)
    not_yes true h = h tt
    not_yes false h = tt

    yes_not : (b : Bool) → T (not b) → T b → ⊥
    yes_not true h t = h
    yes_not false h t = t

    insert_rising : (x : A) (xs : List A) → P x → ((y : A) → In y xs → P y) → (In x xs → ⊥) → Rising xs → Rising (insert first x xs)
    insert_rising x [] px ps new r = (tt, tt)
    insert_rising x (y ∷ ys) px ps new r = go (first x y) refl (insert_rising x ys px (λ z i. ps z (inr i)) (λ i. new (inr i)) r.1)
      where
        py : P y
        py = ps y (inl refl)

        behind : T (first x y) → (z : A) → In z ys → Ahead x z
        behind t z i = not_yes (first z x) (λ u. yes_not (first z y) (in_all (Ahead y) ys z r.0 i) (trans z x y (ps z (inr i)) px py u t))

        go : (b : Bool) → first x y ≡ b → Rising (insert first x ys) → Rising (cond b (x ∷ (y ∷ ys)) (y ∷ insert first x ys))
        go true e ih =
            let t : T (first x y) = subst T (sym e) tt in
            ((not_yes (first y x) (λ u. new (inl (antisym x y px py t u))), all_in (Ahead x) ys (behind t)), r)
        go false e ih = (
          all_in (Ahead y) (insert first x ys) (λ z i. ⊎_elim (λ q. subst (Ahead y) (sym q) (subst (λ b. T (not b)) (sym e) tt)) (in_all (Ahead y) ys z r.0) (from_insert x ys z i)),
          ih,
        )

    pub sort_rising : (xs : List A) → ((y : A) → In y xs → P y) → Unique xs → Rising (sort first xs)
    sort_rising [] ps u = tt
    sort_rising (x ∷ xs) ps u =
        insert_rising x (sort first xs) (ps x (inl refl)) (λ y i. ps y (inr (from_sort xs y i))) (λ i. u.0 (from_sort xs x i)) (sort_rising xs (λ y i. ps y (inr i)) u.1)

  pub take_rising : (k : ℕ) (xs : List A) → Rising xs → Rising (take k xs)
  take_rising zero xs r = tt
  take_rising (suc k) [] r = tt
  take_rising (suc k) (x ∷ xs) r = (all_in (Ahead x) (take k xs) (λ y i. in_all (Ahead x) xs y r.0 (from_take k xs y i)), take_rising k xs r.1)

  -- an item is among the first k, or all of those are ahead of it
  pub first_or_after : (k : ℕ) (xs : List A) (r : A) → Rising xs → In r xs → In r (take k xs) ⊎ AllByRecursion (λ s. Ahead s r) (take k xs)
  first_or_after zero xs r up i = inr tt
  first_or_after (suc k) [] r up i = absurd i
  first_or_after (suc k) (x ∷ xs) r up (inl e) = inl (inl e)
  first_or_after (suc k) (x ∷ xs) r up (inr i) = ⊎_elim (λ j. inl (inr j)) (λ all. inr (in_all (Ahead x) xs r up.0 i, all)) (first_or_after k xs r up.1 i)

  -- they are k, or all
  pub as_many : (k : ℕ) (xs : List A) → (length (take k xs) ≡ k) ⊎ ((length (take k xs) < k) × ((r : A) → In r xs → In r (take k xs)))
  as_many zero xs = inl refl
  as_many (suc k) [] = inr (omega arith, λ r i. i)
  as_many (suc k) (x ∷ xs) =
      ⊎_elim (λ e. inl (ap suc e)) (λ h. let less = h.0 in inr (omega arith, λ r i. elim i [ inl e ↦ inl e | inr j ↦ inr (h.1 r j) ])) (as_many k xs)

  pub kept_rising : (p : A → Bool) (xs : List A) → Rising xs → Rising (filter p xs)
  kept_rising p [] r = tt
  kept_rising p (x ∷ xs) r = go (p x) (kept_rising p xs r.1)
    where
      go : (b : Bool) → Rising (filter p xs) → Rising (cond b (x ∷ filter p xs) (filter p xs))
      go true ih = (all_in (Ahead x) (filter p xs) (λ y i. in_all (Ahead x) xs y r.0 (from_kept p xs y i).0), ih)
      go false ih = ih

pub rising_as : {A : Type 0} (f g : A → A → Bool) (xs : List A) → ((x y : A) → In x xs → In y xs → f x y ≡ g x y) → Rising f xs → Rising g xs
rising_as f g [] same r = tt
rising_as f g (x ∷ xs) same r = (
  all_in (Ahead g x) xs (λ y i. subst (λ b. T (not b)) (same y x (inr i) (inl refl)) (in_all (Ahead f x) xs y r.0 i)),
  rising_as f g xs (λ y z i j. same y z (inr i) (inr j)) r.1,
)

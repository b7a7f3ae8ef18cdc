-- Lists with no item twice, and what stands in joined lists.
use Rattle.std.proofs.Common.{◌≡◌, ℕ, zero, suc, ◌+◌, ◌≤◌, Bool, true, false, cond, ◌⊎◌, List, [], ◌∷◌, ◌++◌, map, length, filter, sym, refl, ap, subst, inl, inr, ⊎_elim, arith}
use Rattle.std.specs.List.{range_with_len, flat_map}
use Rattle.network.specs.Lists.{In}
use Rattle.length.proofs.Members.{from_map, from_kept}
use Rattle.routes.proofs.Sorting.{Unique}

pub in_left : {A : Type 0} (xs ys : List A) (x : A) → In x xs → In x (xs ++ ys)
in_left [] ys x i = absurd i
in_left (y ∷ xs) ys x (inl e) = inl e
in_left (y ∷ xs) ys x (inr i) = inr (in_left xs ys x i)

pub in_right : {A : Type 0} (xs ys : List A) (x : A) → In x ys → In x (xs ++ ys)
in_right [] ys x i = i
in_right (y ∷ xs) ys x i = inr (in_right xs ys x i)

pub from_append : {A : Type 0} (xs ys : List A) (x : A) → In x (xs ++ ys) → In x xs ⊎ In x ys
from_append [] ys x i = inr i
from_append (y ∷ xs) ys x (inl e) = inl (inl e)
from_append (y ∷ xs) ys x (inr i) = ⊎_elim (λ j. inl (inr j)) inr (from_append xs ys x i)

module _ {A B : Type 0} (f : A → List B) where
  pub in_joined : (ps : List A) (p : A) (q : B) → In p ps → In q (f p) → In q (flat_map f ps)
  in_joined [] p q i j = absurd i
  in_joined (x ∷ xs) p q (inl e) j = in_left (f x) (flat_map f xs) q (subst (λ y. In q (f y)) e j)
  in_joined (x ∷ xs) p q (inr i) j = in_right (f x) (flat_map f xs) q (in_joined xs p q i j)

  pub from_joined : (ps : List A) (q : B) → In q (flat_map f ps) → (p : A) × In p ps × In q (f p)
  from_joined [] q i = absurd i
  from_joined (x ∷ xs) q i =
      ⊎_elim (λ j. (x, inl refl, j)) (λ j. let r = from_joined xs q j in (r.0, inr r.1, r.2)) (from_append (f x) (flat_map f xs) q i)

pub unique_append : {A : Type 0} (xs ys : List A) → Unique xs → Unique ys → ((x : A) → In x xs → In x ys → ⊥) → Unique (xs ++ ys)
unique_append [] ys ux uy apart = uy
unique_append (x ∷ xs) ys ux uy apart =
    (λ i. ⊎_elim ux.0 (apart x (inl refl)) (from_append xs ys x i), unique_append xs ys ux.1 uy (λ y i. apart y (inr i)))

pub unique_map : {A B : Type 0} (f : A → B) → ((a b : A) → f a ≡ f b → a ≡ b) → (xs : List A) → Unique xs → Unique (map f xs)
unique_map f inj [] u = tt
unique_map f inj (x ∷ xs) u =
    (λ i. let r = from_map f xs (f x) i in u.0 (subst (λ y. In y xs) (sym (inj x r.0 r.2)) r.1), unique_map f inj xs u.1)

pub unique_kept : {A : Type 0} (p : A → Bool) (xs : List A) → Unique xs → Unique (filter p xs)
unique_kept p [] u = tt
unique_kept p (x ∷ xs) u = go (p x) (unique_kept p xs u.1)
  where
    go : (b : Bool) → Unique (filter p xs) → Unique (cond b (x ∷ filter p xs) (filter p xs))
    go true v = (λ i. u.0 (from_kept p xs x i).0, v)
    go false v = v

pub counting_from : (a n x : ℕ) → In x (range_with_len a n) → a ≤ x
counting_from a zero x i = absurd i
counting_from a (suc n) x (inl e) = omega arith
counting_from a (suc n) x (inr i) = let h = counting_from (a + 1) n x i in omega arith

pub unique_counting : (a n : ℕ) → Unique (range_with_len a n)
unique_counting a zero = tt
unique_counting a (suc n) = (λ i. let h = counting_from (a + 1) n a i in omega arith, unique_counting (a + 1) n)

pub unique_joined : {A B : Type 0} (f : A → List B) → ((p : A) → Unique (f p)) → ((p q : A) (x : B) → In x (f p) → In x (f q) → p ≡ q)
    → (ps : List A) → Unique ps → Unique (flat_map f ps)
unique_joined f each apart [] u = tt
unique_joined f each apart (p ∷ ps) u =
    unique_append (f p) (flat_map f ps) (each p) (unique_joined f each apart ps u.1)
    (λ x i j. let r = from_joined f ps x j in u.0 (subst (λ y. In y ps) (sym (apart p r.0 x i r.2)) r.1))

-- the last item of a list, and what stands before it
pub push_parts : {A : Type 0} (p q : List A) (i j : A) → p ++ i ∷ [] ≡ q ++ j ∷ [] → (p ≡ q) × (i ≡ j)
push_parts [] [] i j e = (refl, cc)
push_parts [] (y ∷ []) i j e = absurd cc
push_parts [] (y ∷ (z ∷ zs)) i j e = absurd cc
push_parts (x ∷ []) [] i j e = absurd cc
push_parts (x ∷ (w ∷ ws)) [] i j e = absurd cc
push_parts (x ∷ p) (y ∷ q) i j e =
    let tails : p ++ i ∷ [] ≡ q ++ j ∷ [] = cc in
    let r = push_parts p q i j tails in
    let heads : x ≡ y = cc in
    let rest = r.0 in
    (cc, r.1)

pub last_of : {A : Type 0} (r : List A) (k : ℕ) → length r ≡ suc k → (p : List A) × (i : A) × (r ≡ p ++ i ∷ []) × (length p ≡ k)
last_of [] k e = absurd (omega arith)
last_of (x ∷ []) k e = ([], x, refl, omega arith)
last_of (x ∷ (y ∷ ys)) zero e = absurd (omega arith)
last_of (x ∷ (y ∷ ys)) (suc k) e =
    let r = last_of (y ∷ ys) k (omega arith) in
    let l = r.3 in
    (x ∷ r.0, r.1, ap (λ t. x ∷ t) r.2, omega arith)

-- Lemmas on tests over lists: what some item passes, and what every item passes.
use Rattle.std.proofs.Common.{◌≡◌, ℕ, zero, suc, ◌<◌, Bool, true, false, cond, ◌||◌, List, [], ◌∷◌, length, get_or, set, replicate, filter, refl, ap, ◌∙◌, arith}
use Rattle.std.proofs.lemmas.Bool.{and_from, and_parts, or_from}
use Rattle.network.specs.Lists.{all_of, any_of}

-- past its end too, a list of one value reads as that value
pub get_or_same : {A : Type 0} (n i : ℕ) (a : A) → get_or (replicate n a) i a ≡ a
get_or_same zero i a = refl
get_or_same (suc n) zero a = refl
get_or_same (suc n) (suc i) a = get_or_same n i a

module _ {A : Type 0} (test : A → Bool) where
  pub any_none : (xs : List A) (d : A) → ((k : ℕ) → k < length xs → test (get_or xs k d) ≡ false) → any_of test xs ≡ false
  any_none [] d h = refl
  any_none (x ∷ xs) d h = or_from _ _ (h 0 (omega arith)) (any_none xs d (λ k l. h (suc k) (omega arith)))

  pub all_at : (xs : List A) (d : A) (k : ℕ) → k < length xs → all_of test xs ≡ true → test (get_or xs k d) ≡ true
  all_at [] d k l h = absurd (omega arith)
  all_at (x ∷ xs) d zero l h = (and_parts _ _ h).0
  all_at (x ∷ xs) d (suc k) l h = all_at xs d k (omega arith) (and_parts _ _ h).1

  pub all_put : (xs : List A) (k : ℕ) (a : A) → test a ≡ true → all_of test xs ≡ true → all_of test (set xs k a) ≡ true
  all_put [] k a h all = refl
  all_put (x ∷ xs) zero a h all = and_from _ _ h (and_parts _ _ all).1
  all_put (x ∷ xs) (suc k) a h all = and_from _ _ (and_parts _ _ all).0 (all_put xs k a h (and_parts _ _ all).1)

  pub all_kept : (keep : A → Bool) (xs : List A) → all_of test xs ≡ true → all_of test (filter keep xs) ≡ true
  all_kept keep [] h = refl
  all_kept keep (x ∷ xs) h = go (keep x) (and_parts _ _ h).0 (all_kept keep xs (and_parts _ _ h).1)
    where
      go : (b : Bool) → test x ≡ true → all_of test (filter keep xs) ≡ true → all_of test (cond b (x ∷ filter keep xs) (filter keep xs)) ≡ true
      go true hx ih = and_from _ _ hx ih
      go false hx ih = ih

pub all_so : {A : Type 0} (p q : A → Bool) → ((x : A) → p x ≡ true → q x ≡ true) → (xs : List A) → all_of p xs ≡ true → all_of q xs ≡ true
all_so p q so [] h = refl
all_so p q so (x ∷ xs) h = and_from _ _ (so x (and_parts _ _ h).0) (all_so p q so xs (and_parts _ _ h).1)

pub any_same : {A : Type 0} (p q : A → Bool) → ((x : A) → p x ≡ q x) → (xs : List A) → any_of p xs ≡ any_of q xs
any_same p q same [] = refl
any_same p q same (x ∷ xs) = ap (λ b. b || any_of p xs) (same x) ∙ ap (λ b. q x || b) (any_same p q same xs)

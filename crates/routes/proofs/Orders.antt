-- Arc numbers compared place by place, and routes compared by length first.
use Rattle.std.proofs.Common.{◌≡◌, ℕ, ◌<◌, Bool, true, false, not, ◌&&◌, ◌||◌, T, eqb, ltb, ◌⊎◌, List, [], ◌∷◌, sym, refl, ◌∙◌, inl, inr, ⊎_elim, arith}
use borrow.Author.Tests.{clash}
use Rattle.std.proofs.lemmas.Bool.{ltb-true, lt-ltb, eqb-true, eq-eqb, and_parts, and_from, or_cases, or_from, or_left, or_right, not-true, cases_Bool, cases_order}
use Rattle.network.specs.Lists.{place_by_place}
use Rattle.length.proofs.Least.{true_T, T_true}
use Rattle.routes.specs.Routes.{by_length}

abbrev pbp : List ℕ → List ℕ → Type 0
pbp xs ys = place_by_place xs ys ≡ true

first_less : (x y : ℕ) (b : Bool) → (ltb x y || (eqb x y && b)) ≡ true → (x < y) ⊎ ((x ≡ y) × (b ≡ true))
first_less x y b h =
    ⊎_elim (λ l. inl (ltb-true x y l)) (λ r. let p = and_parts (eqb x y) b r in inr (eqb-true x y p.0, p.1)) (or_cases (ltb x y) (eqb x y && b) h)

pub place_antisym : (xs ys : List ℕ) → pbp xs ys → pbp ys xs → xs ≡ ys
place_antisym [] [] h k = refl
place_antisym [] (y ∷ ys) h k = absurd (clash k)
place_antisym (x ∷ xs) [] h k = absurd (clash h)
place_antisym (x ∷ xs) (y ∷ ys) h k = go (first_less x y _ h) (first_less y x _ k) (place_antisym xs ys)
  where
    go : (x < y) ⊎ ((x ≡ y) × pbp xs ys) → (y < x) ⊎ ((y ≡ x) × pbp ys xs) → (pbp xs ys → pbp ys xs → xs ≡ ys) → x ∷ xs ≡ y ∷ ys
    go (inl l) (inl m) ih = absurd (omega arith)
    go (inl l) (inr m) ih = let e = m.0 in absurd (omega arith)
    go (inr l) (inl m) ih = let e = l.0 in absurd (omega arith)
    go (inr l) (inr m) ih = let e = l.0 in let r = ih l.1 m.1 in cc

pub place_trans : (xs ys zs : List ℕ) → pbp xs ys → pbp ys zs → pbp xs zs
place_trans [] ys zs h k = refl
place_trans (x ∷ xs) [] zs h k = absurd (clash h)
place_trans (x ∷ xs) (y ∷ ys) [] h k = absurd (clash k)
place_trans (x ∷ xs) (y ∷ ys) (z ∷ zs) h k = go (first_less x y _ h) (first_less y z _ k) (place_trans xs ys zs)
  where
    go : (x < y) ⊎ ((x ≡ y) × pbp xs ys) → (y < z) ⊎ ((y ≡ z) × pbp ys zs) → (pbp xs ys → pbp ys zs → pbp xs zs) → pbp (x ∷ xs) (z ∷ zs)
    go (inl l) (inl m) ih = or_left _ _ (lt-ltb x z (omega arith))
    go (inl l) (inr m) ih = let e = m.0 in or_left _ _ (lt-ltb x z (omega arith))
    go (inr l) (inl m) ih = let e = l.0 in or_left _ _ (lt-ltb x z (omega arith))
    go (inr l) (inr m) ih = or_right _ _ (and_from _ _ (eq-eqb x z (l.0 ∙ m.0)) (ih l.1 m.1))

pub place_total : (xs ys : List ℕ) → pbp xs ys ⊎ pbp ys xs
place_total [] ys = inl refl
place_total (x ∷ xs) [] = inr refl
place_total (x ∷ xs) (y ∷ ys) = go (cases_order x y) (place_total xs ys)
  where
    go : (x ≡ y) ⊎ ((x < y) ⊎ (y < x)) → pbp xs ys ⊎ pbp ys xs → pbp (x ∷ xs) (y ∷ ys) ⊎ pbp (y ∷ ys) (x ∷ xs)
    go (inl e) (inl h) = inl (or_right _ _ (and_from _ _ (eq-eqb x y e) h))
    go (inl e) (inr h) = inr (or_right _ _ (and_from _ _ (eq-eqb y x (sym e)) h))
    go (inr (inl l)) r = inl (or_left _ _ (lt-ltb x y l))
    go (inr (inr l)) r = inr (or_left _ _ (lt-ltb y x l))

-- routes
module _ {X : Type 0} (first : X → X → Bool) (len : List ℕ → X) where
  pub by_length_parts : (r s : List ℕ) → T (by_length first len r s) → T (first (len r) (len s)) × (T (first (len s) (len r)) → pbp r s)
  by_length_parts r s h =
      let p = and_parts _ _ (T_true _ h) in
      (true_T _ p.0, λ t. ⊎_elim (λ n. absurd (clash (sym (not-true _ n) ∙ T_true _ t))) (λ q. q) (or_cases _ _ p.1))

  pub by_length_from : (r s : List ℕ) → T (first (len r) (len s)) → (T (first (len s) (len r)) → pbp r s) → T (by_length first len r s)
  by_length_from r s t f = true_T _ (and_from _ _ (T_true _ t) (go (first (len s) (len r)) refl))
    where
      go : (b : Bool) → first (len s) (len r) ≡ b → (not b || place_by_place r s) ≡ true
      go true e = f (true_T _ e)
      go false e = refl

  module _ (P : List ℕ → Type 0) (carries : (a b c : List ℕ) → P a → P b → P c → T (first (len a) (len b)) → T (first (len b) (len c)) → T (first (len a) (len c))) where
    pub by_length_antisym : (r s : List ℕ) → P r → P s → T (by_length first len r s) → T (by_length first len s r) → r ≡ s
    by_length_antisym r s pr ps h k =
        let a = by_length_parts r s h in
        let b = by_length_parts s r k in
        place_antisym r s (a.1 b.0) (b.1 a.0)

    pub by_length_trans : (r s t : List ℕ) → P r → P s → P t → T (by_length first len r s) → T (by_length first len s t) → T (by_length first len r t)
    by_length_trans r s t pr ps pt h k =
        let a = by_length_parts r s h in
        let b = by_length_parts s t k in
        by_length_from r t (carries r s t pr ps pt a.0 b.0)
        (λ back. place_trans r s t (a.1 (carries s t r ps pt pr b.0 back)) (b.1 (carries t r s pt pr ps back a.0)))

  -- of two rows one may stand before the other, where that holds of their lengths
  pub by_length_total : (r s : List ℕ) → T (first (len r) (len s) || first (len s) (len r)) → T (by_length first len r s) ⊎ T (by_length first len s r)
  by_length_total r s h = go (cases_Bool (first (len r) (len s))) (cases_Bool (first (len s) (len r))) (place_total r s)
    where
      no : {P : Type 0} {a : Bool} → a ≡ false → T a → P
      no e t = absurd (clash (sym e ∙ T_true _ t))

      go : (first (len r) (len s) ≡ true) ⊎ (first (len r) (len s) ≡ false) → (first (len s) (len r) ≡ true) ⊎ (first (len s) (len r) ≡ false) → pbp r s ⊎ pbp s r → T (by_length first len r s) ⊎ T (by_length first len s r)
      go (inl a) (inl b) (inl p) = inl (by_length_from r s (true_T _ a) (λ t. p))
      go (inl a) (inl b) (inr p) = inr (by_length_from s r (true_T _ b) (λ t. p))
      go (inl a) (inr b) p = inl (by_length_from r s (true_T _ a) (λ t. no b t))
      go (inr a) (inl b) p = inr (by_length_from s r (true_T _ b) (λ t. no a t))
      go (inr a) (inr b) p = absurd (clash (sym (or_from _ _ a b) ∙ T_true _ h))

-- Of two first parts of the same ordered items the shorter begins the longer.
use Rattle.std.proofs.Common.{◌≡◌, ◌≤◌, Bool, ◌⊎◌, List, [], ◌∷◌, length, take, sym, refl, ap, ◌∙◌, subst, inl, inr, le_of_suc-le-suc, not-suc-le-zero}
use Rattle.std.specs.List.{AllByRecursion}
use Rattle.network.specs.Lists.{In}
use Rattle.routes.proofs.Sorting.{Ahead, Rising, in_all}

module _ {A : Type 0} (leq : A → A → Bool) where
  -- each item of F is there, or comes after all that are
  abbrev pub First : (A → Type 0) → List A → Type 0
  First F xs = (x : A) → F x → In x xs ⊎ AllByRecursion (λ s. Ahead leq s x) xs

  abbrev pub Apart : (A → Type 0) → Type 0
  Apart F = (a b : A) → F a → F b → Ahead leq a b → Ahead leq b a → ⊥

  abbrev Without : (A → Type 0) → A → A → Type 0
  Without F s x = F x × (x ≡ s → ⊥)

  head_or_behind : (F : A → Type 0) (b : A) (bs : List A) (x : A) → F x → Rising leq (b ∷ bs) → First F (b ∷ bs) → (x ≡ b) ⊎ Ahead leq b x
  head_or_behind F b bs x f up first = go (first x f)
    where
      go : In x (b ∷ bs) ⊎ AllByRecursion (λ s. Ahead leq s x) (b ∷ bs) → (x ≡ b) ⊎ Ahead leq b x
      go (inl (inl e)) = inl e
      go (inl (inr i)) = inr (in_all (Ahead leq b) bs x up.0 i)
      go (inr all) = inr all.0

  same_head : (F : A → Type 0) → Apart F → (s : A) (ss : List A) (b : A) (bs : List A) → F s → F b → Rising leq (s ∷ ss) → Rising leq (b ∷ bs) → First F (s ∷ ss) → First F (b ∷ bs) → s ≡ b
  same_head F apart s ss b bs fs fb us ub firsts firstb = go (head_or_behind F b bs s fs ub firstb) (head_or_behind F s ss b fb us firsts)
    where
      go : (s ≡ b) ⊎ Ahead leq b s → (b ≡ s) ⊎ Ahead leq s b → s ≡ b
      go (inl e) r = e
      go (inr h) (inl e) = sym e
      go (inr h) (inr k) = absurd (apart s b fs fb k h)

  tail_first : (F : A → Type 0) (s : A) (b : A) (bs : List A) → s ≡ b → First F (b ∷ bs) → First (Without F s) bs
  tail_first F s b bs e first x f = go (first x f.0)
    where
      go : In x (b ∷ bs) ⊎ AllByRecursion (λ s. Ahead leq s x) (b ∷ bs) → In x bs ⊎ AllByRecursion (λ s. Ahead leq s x) bs
      go (inl (inl q)) = absurd (f.1 (q ∙ sym e))
      go (inl (inr i)) = inl i
      go (inr all) = inr all.1

  tail_of : (F : A → Type 0) → Apart F → (s : A) (b : A) (bs : List A) → s ≡ b → F b → Rising leq (b ∷ bs) → ((x : A) → In x (b ∷ bs) → F x) → (x : A) → In x bs → Without F s x
  tail_of F apart s b bs e fb up each x i =
      (each x (inr i), λ q. let h : Ahead leq b b = subst (Ahead leq b) (q ∙ e) (in_all (Ahead leq b) bs x up.0 i) in apart b b fb fb h h)

  pub prefix : (ss bs : List A) (F : A → Type 0) → Apart F → ((x : A) → In x ss → F x) → ((x : A) → In x bs → F x) → Rising leq ss → Rising leq bs → First F ss → First F bs
      → (length ss ≤ length bs) ⊎ ((x : A) → F x → In x bs) → take (length ss) bs ≡ ss
  prefix [] bs F apart es eb us ub firsts firstb enough = refl
  prefix (s ∷ ss) [] F apart es eb us ub firsts firstb (inl le) = absurd (not-suc-le-zero le)
  prefix (s ∷ ss) [] F apart es eb us ub firsts firstb (inr all) = absurd (all s (es s (inl refl)))
  prefix (s ∷ ss) (b ∷ bs) F apart es eb us ub firsts firstb enough =
      let e : s ≡ b = same_head F apart s ss b bs (es s (inl refl)) (eb b (inl refl)) us ub firsts firstb in
      let ih = prefix ss bs (Without F s) (λ x y fx fy. apart x y fx.0 fy.0) (tail_of F apart s s ss refl (es s (inl refl)) us es) (tail_of F apart s b bs e (eb b (inl refl)) ub eb) us.1 ub.1
      (tail_first F s s ss refl firsts) (tail_first F s b bs e firstb) (rest e enough) in
      ap (λ x. x ∷ take (length ss) bs) (sym e) ∙ ap (λ r. s ∷ r) ih
    where
      rest : s ≡ b → (length (s ∷ ss) ≤ length (b ∷ bs)) ⊎ ((x : A) → F x → In x (b ∷ bs)) → (length ss ≤ length bs) ⊎ ((x : A) → Without F s x → In x bs)
      rest e (inl le) = inl (le_of_suc-le-suc le)
      rest e (inr all) = inr (λ x f. elim (all x f.0) [ inl q ↦ absurd (f.1 (q ∙ sym e)) | inr i ↦ i ])

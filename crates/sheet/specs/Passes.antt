-- Checks that all pass: of two lists one after the other, and of lists joined.
use Rattle.std.specs.Prelude.{◌≡◌, ℕ, zero, suc, ◌+◌, ◌<◌, Bool, true, false, cond, List, [], ◌∷◌, ◌++◌, is_ok, Some, None, Option, refl}
use Rattle.std.proofs.Common.{append-nil, append_assoc, sym, ap, ◌∙◌, arith}
use Rattle.std.specs.List.{range_with_len, flat_map}
use Rattle.network.specs.Checks.{Check, Told, first_failed, answered}

-- a check that passes, and those after it
pub passes : (b : Bool) (t : Told) (rest : Option Told) → cond b (Some t) rest ≡ None → (b ≡ false) × (rest ≡ None)
passes true t rest e = absurd (let z : ◌≡◌ {A = ℕ} 0 1 = cc in omega arith)
passes false t rest e = (refl, e)

pub all_pass : (b : Bool) (t : Told) (rest : Option Told) → b ≡ false → rest ≡ None → cond b (Some t) rest ≡ None
all_pass b t rest e none = rw (e, none)

pub first_failed_append : (xs ys : List Check) → first_failed xs ≡ None → first_failed (xs ++ ys) ≡ first_failed ys
first_failed_append [] ys e = refl
first_failed_append (x ∷ xs) ys e =
    let p = passes x.0 x.1 (first_failed xs) e in rw p.0 (first_failed_append xs ys p.1)

pub append_fails : (xs ys : List Check) (t : Told) → first_failed xs ≡ Some t → first_failed (xs ++ ys) ≡ Some t
append_fails [] ys t e = absurd (let z : ◌≡◌ {A = ℕ} 0 1 = cc in omega arith)
append_fails (x ∷ xs) ys t e = go x.0 e (append_fails xs ys t)
  where
    go : (b : Bool) → cond b (Some x.1) (first_failed xs) ≡ Some t → (first_failed xs ≡ Some t → first_failed (xs ++ ys) ≡ Some t) → cond b (Some x.1) (first_failed (xs ++ ys)) ≡ Some t
    go true here rest = here
    go false here rest = rest here

pub append_passes : (xs ys : List Check) → first_failed (xs ++ ys) ≡ None → (first_failed xs ≡ None) × (first_failed ys ≡ None)
append_passes [] ys e = (refl, e)
append_passes (x ∷ xs) ys e =
    let p = passes x.0 x.1 (first_failed (xs ++ ys)) e in
    let q = append_passes xs ys p.1 in
    (rw p.0 q.0, q.1)

module _ (f : ℕ → List Check) where
  pub joined_passes : (a n : ℕ) → ((i : ℕ) → i < n → first_failed (f (a + i)) ≡ None) → first_failed (flat_map f (range_with_len a n)) ≡ None
  joined_passes a zero each = refl
  joined_passes a (suc n) each =
      let z : a + 0 ≡ a = omega arith in
      let here : first_failed (f a) ≡ None = ap (λ k. first_failed (f k)) (sym z) ∙ each 0 (omega arith) in
      first_failed_append (f a) (flat_map f (range_with_len (a + 1) n)) here
      ∙ joined_passes (a + 1) n (λ i h. let s : a + 1 + i ≡ a + suc i = omega arith in ap (λ k. first_failed (f k)) s ∙ each (suc i) (omega arith))

  pub each_passes : (a n : ℕ) → first_failed (flat_map f (range_with_len a n)) ≡ None → (i : ℕ) → i < n → first_failed (f (a + i)) ≡ None
  each_passes a zero e i h = absurd (omega arith)
  each_passes a (suc n) e zero h = let z : a + 0 ≡ a = omega arith in ap (λ k. first_failed (f k)) z ∙ (append_passes (f a) (flat_map f (range_with_len (a + 1) n)) e).0
  each_passes a (suc n) e (suc i) h =
      let s : a + suc i ≡ a + 1 + i = omega arith in
      ap (λ k. first_failed (f k)) s ∙ each_passes (a + 1) n (append_passes (f a) (flat_map f (range_with_len (a + 1) n)) e).1 i (omega arith)

  -- the first that fails, where those before it pass
  pub joined_fails : (a i n : ℕ) (t : Told) → i < n → first_failed (flat_map f (range_with_len a i)) ≡ None → first_failed (f (a + i)) ≡ Some t → first_failed (flat_map f (range_with_len a n)) ≡ Some t
  joined_fails a i zero t h before e = absurd (omega arith)
  joined_fails a zero (suc n) t h before e =
      let z : a + 0 ≡ a = omega arith in append_fails (f a) (flat_map f (range_with_len (a + 1) n)) t (ap (λ k. first_failed (f k)) (sym z) ∙ e)
  joined_fails a (suc i) (suc n) t h before e =
      let s : a + 1 + i ≡ a + suc i = omega arith in
      let p = append_passes (f a) (flat_map f (range_with_len (a + 1) i)) before in
      first_failed_append (f a) (flat_map f (range_with_len (a + 1) n)) p.0
      ∙ joined_fails (a + 1) i n t (omega arith) p.1 (ap (λ k. first_failed (f k)) s ∙ e)

  -- one more at the end
  pub joined_counting_more : (a n : ℕ) → flat_map f (range_with_len a (n + 1)) ≡ flat_map f (range_with_len a n) ++ f (a + n)
  joined_counting_more a zero =
      let z : a + 0 ≡ a = omega arith in append-nil (f a) ∙ ap f (sym z)
  joined_counting_more a (suc n) =
      let s : suc n + 1 ≡ suc (n + 1) = omega arith in
      let t : a + 1 + n ≡ a + suc n = omega arith in
      ap (λ k. flat_map f (range_with_len a k)) s
      ∙ (ap (λ xs. f a ++ xs) (joined_counting_more (a + 1) n ∙ ap (λ k. flat_map f (range_with_len (a + 1) n) ++ f k) t)
      ∙ sym (append_assoc (f a) (flat_map f (range_with_len (a + 1) n)) (f (a + suc n))))

-- an answer that is a result
pub ok_passes : {A : Type 0} (o : Option Told) (x : A) → is_ok (answered o x) ≡ true → o ≡ None
ok_passes None x e = refl
ok_passes (Some t) x e = absurd (let z : ◌≡◌ {A = ℕ} 0 1 = cc in omega arith)

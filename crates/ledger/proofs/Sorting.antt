-- Lemmas on entries sorted by their tickets: what is kept, summed and counted, and where a last ticket goes.
use Rattle.std.proofs.Common.{◌≡◌, ℕ, Bool, true, false, cond, ltb, List, [], ◌∷◌, ◌++◌, map, length, sum_by, filter, sym, refl, ap, ◌∙◌, arith}
use Rattle.std.specs.List.Sorted.{IsPermutation}
use Rattle.std.proofs.lemmas.List.Sorted.{All-permutation, IsPermutation-cons, IsPermutation-middle, IsPermutation-refl, IsPermutation-trans, length_permutation, list_any-IsPermutation, sum_by-IsPermutation}
use Rattle.std.proofs.lemmas.List.Sums.{AllPass-from_list_all, list_all-from_AllPass}
use Rattle.std.proofs.lemmas.Bool.{and_from, and_parts, le-leb, leb-false, leb-true, lt-leb, ltb-true}
use Rattle.network.specs.Lists.{all_of, any_of, insert, sort}
use Rattle.ledger.specs.Rows.{earlier}
use Rattle.ledger.specs.Tally.{Entry, book}
use Rattle.ledger.proofs.Tests.{all_kept, all_so}

-- sorting moves entries about

pub insert_permutes : (x : Entry) (ys : List Entry) → IsPermutation (x ∷ ys) (insert earlier x ys)
insert_permutes x [] = IsPermutation-refl (x ∷ [])
insert_permutes x (y ∷ ys) = go (earlier x y) (insert_permutes x ys)
  where
    go : (b : Bool) → IsPermutation (x ∷ ys) (insert earlier x ys) → IsPermutation (x ∷ (y ∷ ys)) (cond b (x ∷ (y ∷ ys)) (y ∷ insert earlier x ys))
    go true ih = IsPermutation-refl (x ∷ (y ∷ ys))
    go false ih =
        IsPermutation-trans (x ∷ (y ∷ ys)) (y ∷ (x ∷ ys)) (y ∷ insert earlier x ys) (IsPermutation-middle (x ∷ []) y ys) (IsPermutation-cons y (x ∷ ys) (insert earlier x ys) ih)

pub sort_permutes : (xs : List Entry) → IsPermutation xs (sort earlier xs)
sort_permutes [] = IsPermutation-refl []
sort_permutes (x ∷ xs) =
    IsPermutation-trans (x ∷ xs) (x ∷ sort earlier xs) (sort earlier (x ∷ xs)) (IsPermutation-cons x xs (sort earlier xs) (sort_permutes xs)) (insert_permutes x (sort earlier xs))

pub any_sort : (test : Entry → Bool) (xs : List Entry) → any_of test (sort earlier xs) ≡ any_of test xs
any_sort test xs = sym (list_any-IsPermutation test xs (sort earlier xs) (sort_permutes xs))

all_permuted : (test : Entry → Bool) (xs ys : List Entry) → IsPermutation xs ys → all_of test xs ≡ true → all_of test ys ≡ true
all_permuted test xs ys p h = list_all-from_AllPass test ys (All-permutation (λ x. test x ≡ true) xs ys p (AllPass-from_list_all test xs h))

pub all_sort : (test : Entry → Bool) (xs : List Entry) → all_of test xs ≡ true → all_of test (sort earlier xs) ≡ true
all_sort test xs h = all_permuted test xs (sort earlier xs) (sort_permutes xs) h

pub length_sort : (xs : List Entry) → length (sort earlier xs) ≡ length xs
length_sort xs = length_permutation xs (sort earlier xs) (sort_permutes xs)

-- each entry is earlier than all that follow
abbrev Sorted : List Entry → Type 0
Sorted [] = Unit {0}
Sorted (x ∷ xs) = (all_of (earlier x) xs ≡ true) × Sorted xs

insert_first : (x : Entry) (ys : List Entry) → all_of (earlier x) ys ≡ true → insert earlier x ys ≡ x ∷ ys
insert_first x [] h = refl
insert_first x (y ∷ ys) h = ap (λ b. cond b (x ∷ (y ∷ ys)) (y ∷ insert earlier x ys)) (and_parts (earlier x y) (all_of (earlier x) ys) h).0

earlier_than_all : (x y : Entry) (ys : List Entry) → earlier x y ≡ true → all_of (earlier y) ys ≡ true → all_of (earlier x) (y ∷ ys) ≡ true
earlier_than_all x y ys e h =
    and_from _ _ e (all_so (earlier y) (earlier x) (λ z f. le-leb x.ticket z.ticket (omega (arith, leb-true x.ticket y.ticket e, leb-true y.ticket z.ticket f))) ys h)

later : (x y : Entry) → earlier x y ≡ false → earlier y x ≡ true
later x y e = le-leb y.ticket x.ticket (omega (arith, leb-false x.ticket y.ticket e))

sorted_insert : (x : Entry) (ys : List Entry) → Sorted ys → Sorted (insert earlier x ys)
sorted_insert x [] s = (refl, tt)
sorted_insert x (y ∷ ys) s = go (earlier x y) refl (sorted_insert x ys s.1)
  where
    go : (b : Bool) → earlier x y ≡ b → Sorted (insert earlier x ys) → Sorted (cond b (x ∷ (y ∷ ys)) (y ∷ insert earlier x ys))
    go true e ih = (earlier_than_all x y ys e s.0, s)
    go false e ih = (all_permuted (earlier y) (x ∷ ys) (insert earlier x ys) (insert_permutes x ys) (and_from _ _ (later x y e) s.0), ih)

sorted_sort : (xs : List Entry) → Sorted (sort earlier xs)
sorted_sort [] = tt
sorted_sort (x ∷ xs) = sorted_insert x (sort earlier xs) (sorted_sort xs)

-- a filter
module _ (keep : Entry → Bool) where
  kept_insert : (x : Entry) (ys : List Entry) → Sorted ys → filter keep (insert earlier x ys) ≡ cond (keep x) (insert earlier x (filter keep ys)) (filter keep ys)
  kept_insert x [] s = refl
  kept_insert x (y ∷ ys) s = go (earlier x y) refl (kept_insert x ys s.1)
    where
      apart : earlier x y ≡ false → (a b : Bool) (ks : List Entry)
          → cond b (y ∷ cond a (insert earlier x ks) ks) (cond a (insert earlier x ks) ks) ≡ cond a (insert earlier x (cond b (y ∷ ks) ks)) (cond b (y ∷ ks) ks)
      apart e true true ks = sym (ap (λ b. cond b (x ∷ (y ∷ ks)) (y ∷ insert earlier x ks)) e)
      apart e true false ks = refl
      apart e false true ks = refl
      apart e false false ks = refl

      go : (b : Bool) → earlier x y ≡ b → filter keep (insert earlier x ys) ≡ cond (keep x) (insert earlier x (filter keep ys)) (filter keep ys)
          → filter keep (cond b (x ∷ (y ∷ ys)) (y ∷ insert earlier x ys)) ≡ cond (keep x) (insert earlier x (filter keep (y ∷ ys))) (filter keep (y ∷ ys))
      go true e ih =
          let first = insert_first x (filter keep (y ∷ ys)) (all_kept (earlier x) keep (y ∷ ys) (earlier_than_all x y ys e s.0)) in
          ap (λ zs. cond (keep x) zs (filter keep (y ∷ ys))) (sym first)
      go false e ih = ap (λ zs. cond (keep y) (y ∷ zs) zs) ih ∙ apart e (keep x) (keep y) (filter keep ys)

  pub kept_sort : (xs : List Entry) → filter keep (sort earlier xs) ≡ sort earlier (filter keep xs)
  kept_sort [] = refl
  kept_sort (x ∷ xs) = kept_insert x (sort earlier xs) (sorted_sort xs) ∙ (ap (λ zs. cond (keep x) (insert earlier x zs) zs) (kept_sort xs) ∙ go (keep x))
    where
      go : (b : Bool) → cond b (insert earlier x (sort earlier (filter keep xs))) (sort earlier (filter keep xs)) ≡ sort earlier (cond b (x ∷ filter keep xs) (filter keep xs))
      go true = refl
      go false = refl

-- a sum over what a filter keeps
pub kept_sum_sort : (value : Entry → ℕ) (keep : Entry → Bool) (xs : List Entry) → sum_by value (filter keep (sort earlier xs)) ≡ sum_by value (filter keep xs)
kept_sum_sort value keep xs = ap (sum_by value) (kept_sort keep xs) ∙ sum_by-IsPermutation value (filter keep xs) (sort earlier (filter keep xs)) (sort_permutes (filter keep xs))

-- a booking, which keeps the tickets
module _ (ticket : ℕ) where
  book_insert : (x : Entry) (ys : List Entry) → map (book ticket) (insert earlier x ys) ≡ insert earlier (book ticket x) (map (book ticket) ys)
  book_insert x [] = refl
  book_insert x (y ∷ ys) = go (earlier x y) (book_insert x ys)
    where
      go : (b : Bool) → map (book ticket) (insert earlier x ys) ≡ insert earlier (book ticket x) (map (book ticket) ys)
          → map (book ticket) (cond b (x ∷ (y ∷ ys)) (y ∷ insert earlier x ys))
          ≡ cond b (book ticket x ∷ (book ticket y ∷ map (book ticket) ys)) (book ticket y ∷ insert earlier (book ticket x) (map (book ticket) ys))
      go true ih = refl
      go false ih = ap (λ zs. book ticket y ∷ zs) ih

  pub book_sort : (xs : List Entry) → map (book ticket) (sort earlier xs) ≡ sort earlier (map (book ticket) xs)
  book_sort [] = refl
  book_sort (x ∷ xs) = book_insert x (sort earlier xs) ∙ ap (insert earlier (book ticket x)) (book_sort xs)

-- the last ticket
module _ (e : Entry) where
  abbrev pub before : Entry → Bool
  before y = ltb y.ticket e.ticket

  pub insert_last : (ys : List Entry) → all_of before ys ≡ true → insert earlier e ys ≡ ys ++ (e ∷ [])
  insert_last [] h = refl
  insert_last (y ∷ ys) h =
      let parts = and_parts (before y) (all_of before ys) h in
      ap (λ b. cond b (e ∷ (y ∷ ys)) (y ∷ insert earlier e ys)) (lt-leb e.ticket y.ticket (ltb-true y.ticket e.ticket parts.0))
      ∙ ap (λ zs. y ∷ zs) (insert_last ys parts.1)

  pub insert_before_last : (x : Entry) (ys : List Entry) → before x ≡ true → insert earlier x (ys ++ (e ∷ [])) ≡ insert earlier x ys ++ (e ∷ [])
  insert_before_last x [] h =
      ap (λ b. cond b (x ∷ (e ∷ [])) (e ∷ (x ∷ []))) (le-leb x.ticket e.ticket (omega (arith, ltb-true x.ticket e.ticket h)))
  insert_before_last x (y ∷ ys) h = go (earlier x y) (insert_before_last x ys h)
    where
      go : (b : Bool) → insert earlier x (ys ++ (e ∷ [])) ≡ insert earlier x ys ++ (e ∷ [])
          → cond b (x ∷ (y ∷ (ys ++ (e ∷ [])))) (y ∷ insert earlier x (ys ++ (e ∷ []))) ≡ cond b (x ∷ (y ∷ ys)) (y ∷ insert earlier x ys) ++ (e ∷ [])
      go true ih = refl
      go false ih = ap (λ zs. y ∷ zs) ih

-- Lemmas on what stands at a number in a list.
use Rattle.std.specs.Prelude.{◌≡◌, ℕ, zero, suc, ◌+◌, ◌<◌, ◌≤◌, List, [], ◌∷◌, ◌++◌, map, length, take, drop, Some, None, ◌≢◌, slice_index_or, slice_set, refl}
use Rattle.std.proofs.Common.{sym, arith}
use Rattle.std.specs.Option.{option_map}
use Rattle.std.specs.List.{slice_get}
use Rattle.std.proofs.lemmas.List.{append_assoc, drop_more, length-take-le, set_at, take_more}

pub nth_map : {A B : Type 0} (f : A → B) (xs : List A) (i : ℕ) → slice_get (map f xs) i ≡ option_map f (slice_get xs i)
nth_map f [] i = refl
nth_map f (x ∷ xs) zero = refl
nth_map f (x ∷ xs) (suc i) = nth_map f xs i

pub none_some : {A : Type 0} {a : A} → None ≢ Some a
none_some e = let z : ◌≡◌ {A = ℕ} 0 1 = cc in omega arith

pub some_same : {A : Type 0} {a b : A} → Some a ≡ Some b → a ≡ b
some_same e = cc

-- what a network's answer for an arc tells
pub nth_some : {A : Type 0} (xs : List A) (i : ℕ) (a d : A) → Some a ≡ slice_get xs i → (i < length xs) × (slice_index_or xs i d ≡ a)
nth_some [] i a d e = absurd (none_some (sym e))
nth_some (x ∷ xs) zero a d e = (omega arith, some_same (sym e))
nth_some (x ∷ xs) (suc i) a d e = let h = nth_some xs i a d e in (omega arith, h.1)

pub nth_none : {A : Type 0} (xs : List A) (i : ℕ) → None ≡ slice_get xs i → length xs ≤ i
nth_none [] i e = omega arith
nth_none (x ∷ xs) zero e = absurd (none_some e)
nth_none (x ∷ xs) (suc i) e = let h = nth_none xs i e in omega arith

-- a table of which the first places are entered from a list: one place more
pub enter_more : {A : Type 0} (xs ys : List A) (i : ℕ) (d : A) → i < length xs → i < length ys
    → slice_set (take i xs ++ drop i ys) i (slice_index_or xs i d) ≡ take (i + 1) xs ++ drop (i + 1) ys
enter_more xs ys i d hx hy =
    let l : length (take i xs) ≡ i = length-take-le i xs (omega arith) in
    rw (drop_more ys i d hy, set_at (take i xs) (slice_index_or ys i d) (drop (i + 1) ys) (slice_index_or xs i d) i l, take_more xs i d hx) (sym (append_assoc (take i xs) (slice_index_or xs i d ∷ []) (drop (i + 1) ys)))

pub enter_at : {A : Type 0} (xs ys t : List A) (i j : ℕ) (v d : A) → t ≡ take i xs ++ drop i ys → j ≡ i → i < length xs → i < length ys → slice_index_or xs i d ≡ v
    → slice_set t j v ≡ take (i + 1) xs ++ drop (i + 1) ys
enter_at xs ys t i j v d so at hx hy is = rw (so, at, ← is) (enter_more xs ys i d hx hy)

-- Words on lists that the other definitions use.
use Rattle.std.specs.Prelude.{◌≡◌, ℕ, Bool, true, false, cond, not, ◌&&◌, ◌||◌, ◌⊎◌, List, [], ◌∷◌, ◌==◌, nat_eq, nat_lt}
use Rattle.std.specs.List.{list_all, list_any}

-- the item stands in the list
abbrev pub In : {A : Type 0} → A → List A → Type 0
In x [] = ⊥
In x (y ∷ ys) = (x ≡ y) ⊎ In x ys

-- some item passes the test
abbrev pub any_of : {A : Type 0} → (A → Bool) → List A → Bool
any_of = list_any

-- every item passes the test
abbrev pub all_of : {A : Type 0} → (A → Bool) → List A → Bool
all_of = list_all

-- the number stands in the list
abbrev pub among : ℕ → List ℕ → Bool
among x xs = any_of (nat_eq x) xs

-- no number stands in the list twice
abbrev pub distinct : List ℕ → Bool
distinct [] = true
distinct (x ∷ xs) = not (among x xs) && distinct xs

-- numbers compared place by place; a list that begins another comes first
abbrev pub place_by_place : List ℕ → List ℕ → Bool
place_by_place [] ys = true
place_by_place (x ∷ xs) [] = false
place_by_place (x ∷ xs) (y ∷ ys) = nat_lt x y || (x == y && place_by_place xs ys)

-- a list sorted by a test `first x y`, "x may stand before y": each item is put in before the first that it may precede
abbrev pub insert : {A : Type 0} → (A → A → Bool) → A → List A → List A
insert first x [] = x ∷ []
insert first x (y ∷ ys) = cond (first x y) (x ∷ (y ∷ ys)) (y ∷ insert first x ys)

abbrev pub sort : {A : Type 0} → (A → A → Bool) → List A → List A
sort first [] = []
sort first (x ∷ xs) = insert first x (sort first xs)

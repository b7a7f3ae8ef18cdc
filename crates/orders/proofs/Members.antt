-- Lists of tickets with some taken out or put in.
use Rattle.std.proofs.Common.{◌≡◌, ℕ, ◌+◌, ◌<◌, ◌≤◌, Bool, true, false, not, eqb, ◌⊎◌, List, [], ◌∷◌, ◌++◌, map, length, get_or, take, drop, sym, refl, ap, ◌∙◌, inl, inr, append-nil, None, arith}
use Rattle.std.specs.List.{position, position_or_len}
use Rattle.std.proofs.lemmas.Grind.{common_steps}
use Rattle.std.proofs.lemmas.List.Folds.{list_any_none}
use Rattle.std.proofs.lemmas.List.Sums.{fails_before_first}
use mathlib.Core.List.{map-append}
use borrow.Author.Tests.{clash}
use Rattle.std.proofs.lemmas.Bool.{and_from, and_parts, eq-eqb, not-true, not_from_false, ne_eqb, or_from, or_left, or_parts, or_right}
use Rattle.std.proofs.lemmas.List.{drop_more, take-append-drop}
use Rattle.network.specs.Lists.{In, among, any_of, distinct}
use Rattle.orders.specs.InHand.{TakenOut}

pub in_among : (x : ℕ) (xs : List ℕ) → In x xs → among x xs ≡ true
in_among x [] i = elim i [ ]
in_among x (y ∷ ys) (inl e) = or_left _ _ (eq-eqb x y e)
in_among x (y ∷ ys) (inr i) = or_right _ _ (in_among x ys i)

pub in_left : (x : ℕ) (xs ys : List ℕ) → In x xs → In x (xs ++ ys)
in_left x [] ys i = elim i [ ]
in_left x (z ∷ xs) ys (inl e) = inl e
in_left x (z ∷ xs) ys (inr i) = inr (in_left x xs ys i)

pub in_last : (x : ℕ) (xs : List ℕ) → In x (xs ++ x ∷ [])
in_last x [] = inl refl
in_last x (y ∷ xs) = inr (in_last x xs)

pub from_last : (x y : ℕ) (xs : List ℕ) → In x (xs ++ y ∷ []) → In x xs ⊎ (x ≡ y)
from_last x y [] (inl e) = inr e
from_last x y [] (inr i) = elim i [ ]
from_last x y (z ∷ xs) (inl e) = inl (inl e)
from_last x y (z ∷ xs) (inr i) = elim (from_last x y xs i) [ inl j ↦ inl (inr j) | inr e ↦ inr e ]

-- with one in the middle taken out
pub in_middle : (x u : ℕ) (before after : List ℕ) → In x (before ++ after) → In x (before ++ u ∷ after)
in_middle x u [] after i = inr i
in_middle x u (b ∷ before) after (inl e) = inl e
in_middle x u (b ∷ before) after (inr i) = inr (in_middle x u before after i)

pub the_middle : (u : ℕ) (before after : List ℕ) → In u (before ++ u ∷ after)
the_middle u [] after = inl refl
the_middle u (b ∷ before) after = inr (the_middle u before after)

among_middle : (x u : ℕ) (before after : List ℕ) → among x (before ++ u ∷ after) ≡ false → (eqb x u ≡ false) × (among x (before ++ after) ≡ false)
among_middle x u [] after h = or_parts (eqb x u) (among x after) h
among_middle x u (b ∷ before) after h =
    let p = or_parts (eqb x b) (among x (before ++ u ∷ after)) h in
    let q = among_middle x u before after p.1 in
    (q.0, or_from _ _ p.0 q.1)

turned : (x u : ℕ) → eqb x u ≡ false → eqb u x ≡ false
turned x u h = ne_eqb u x (λ e. clash (sym h ∙ eq-eqb x u (sym e)))

pub once_middle : (u : ℕ) (before after : List ℕ) → distinct (before ++ u ∷ after) ≡ true → (distinct (before ++ after) ≡ true) × (among u (before ++ after) ≡ false)
once_middle u [] after h = let p = and_parts (not (among u after)) (distinct after) h in (p.1, not-true _ p.0)
once_middle u (b ∷ before) after h =
    let p = and_parts (not (among b (before ++ u ∷ after))) (distinct (before ++ u ∷ after)) h in
    let ih = once_middle u before after p.1 in
    let apart = among_middle b u before after (not-true _ p.0) in
    (and_from _ _ (not_from_false _ apart.1) ih.0, or_from _ _ (turned b u apart.0) ih.1)

-- where no item is found, none is there
pub none_found : (test : ℕ → Bool) (xs : List ℕ) → position test xs ≡ None → any_of test xs ≡ false
none_found test xs e =
    let past : length xs ≤ position_or_len test xs = grind (arith, common_steps) in
    list_any_none test xs (λ k d l. fails_before_first test xs k d (omega arith))

-- an item taken out of a list stood between those that are left
module _ {X : Type 0} (ticket : X → ℕ) where
  pub taken_at : (items left : List X) (place : ℕ) (item : X) → place < length items → item ≡ get_or items place item → left ≡ take place items ++ drop (place + 1) items
      → TakenOut (map ticket items) (ticket item ∷ []) (map ticket left)
  taken_at items left place item lt is rest =
      let whole : items ≡ take place items ++ (item ∷ drop (place + 1) items) =
      sym (take-append-drop place items) ∙ ap (λ r. take place items ++ r) (drop_more items place item lt ∙ ap (λ x. x ∷ drop (place + 1) items) (sym is)) in
      record {
        before = map ticket (take place items);
        after = map ticket (drop (place + 1) items);
        was = ap (map ticket) whole ∙ map-append ticket (take place items) (item ∷ drop (place + 1) items);
        is = ap (map ticket) rest ∙ map-append ticket (take place items) (drop (place + 1) items);
      }

  -- and so did the last one
  pub taken_last : (items left : List X) (item : X) → items ≡ left ++ item ∷ [] → TakenOut (map ticket items) (ticket item ∷ []) (map ticket left)
  taken_last items left item whole =
      record {
        before = map ticket left;
        after = [];
        was = ap (map ticket) whole ∙ map-append ticket left (item ∷ []);
        is = sym (append-nil (map ticket left));
      }

-- The held rows of a ledger have the tickets of the tally's held entries.
use Rattle.std.proofs.Common.{◌≡◌, ℕ, Bool, true, false, cond, not, ◌&&◌, ◌||◌, eqb, ◌↔◌, List, [], ◌∷◌, map, filter, sym, refl, ap, ◌∙◌, subst, inl, inr}
use Rattle.std.specs.List.{filter_map}
use Rattle.std.proofs.lemmas.List.Sorted.{IsPermutation-map, list_any-IsPermutation}
use Rattle.std.proofs.lemmas.Bool.{false≢true, or_left, or_right, eq-eqb, eqb-true}
use Rattle.network.specs.Lists.{In, among, distinct, insert, sort}
use Rattle.ledger.specs.declared.ledger.Ledger.{Ledger}
use Rattle.ledger.specs.Ledgers.{ledger_tally, tickets_held}
use Rattle.ledger.specs.Rows.{earlier, row_entry}
use Rattle.ledger.specs.Tally.{Entry, held_tickets}
use Rattle.ledger.proofs.Sites.{eqb_swap}
use Rattle.ledger.proofs.Sorting.{insert_permutes, kept_sort, sort_permutes}

abbrev tickets : List Entry → List ℕ
tickets xs = map (λ x. x.ticket) xs

-- sorting keeps the tickets

among_insert : (t : ℕ) (x : Entry) (ys : List Entry) → among t (tickets (insert earlier x ys)) ≡ among t (tickets (x ∷ ys))
among_insert t x ys = sym (list_any-IsPermutation (eqb t) (tickets (x ∷ ys)) (tickets (insert earlier x ys)) (IsPermutation-map (λ x. x.ticket) (x ∷ ys) (insert earlier x ys) (insert_permutes x ys)))

among_sort : (t : ℕ) (xs : List Entry) → among t (tickets (sort earlier xs)) ≡ among t (tickets xs)
among_sort t xs = sym (list_any-IsPermutation (eqb t) (tickets xs) (tickets (sort earlier xs)) (IsPermutation-map (λ x. x.ticket) xs (sort earlier xs) (sort_permutes xs)))

to_among : (t : ℕ) (ts : List ℕ) → In t ts → among t ts ≡ true
to_among t [] h = absurd h
to_among t (u ∷ ts) h = elim h [ inl e ↦ or_left _ _ (eq-eqb t u e) | inr i ↦ or_right _ _ (to_among t ts i) ]

from_among : (t : ℕ) (ts : List ℕ) → among t ts ≡ true → In t ts
from_among t [] h = false≢true h
from_among t (u ∷ ts) h = go (eqb t u) refl h (from_among t ts)
  where
    go : (b : Bool) → eqb t u ≡ b → (b || among t ts) ≡ true → (among t ts ≡ true → In t ts) → In t (u ∷ ts)
    go true e h ih = inl (eqb-true t u e)
    go false e h ih = inr (ih h)

in_sort : (t : ℕ) (xs : List Entry) → In t (tickets (sort earlier xs)) ↔ In t (tickets xs)
in_sort t xs = (
  λ h. from_among t (tickets xs) (sym (among_sort t xs) ∙ to_among t (tickets (sort earlier xs)) h),
  λ h. from_among t (tickets (sort earlier xs)) (among_sort t xs ∙ to_among t (tickets xs) h),
)

apart_swap : (e a b d : Bool) → (not (e || b) && (not a && d)) ≡ (not (e || a) && (not b && d))
apart_swap true a b d = refl
apart_swap false true true d = refl
apart_swap false true false d = refl
apart_swap false false true d = refl
apart_swap false false false d = refl

once_insert : (x : Entry) (ys : List Entry) → distinct (tickets (insert earlier x ys)) ≡ distinct (tickets (x ∷ ys))
once_insert x [] = refl
once_insert x (y ∷ ys) = go (earlier x y) (once_insert x ys)
  where
    go : (b : Bool) → distinct (tickets (insert earlier x ys)) ≡ distinct (tickets (x ∷ ys))
        → distinct (tickets (cond b (x ∷ (y ∷ ys)) (y ∷ insert earlier x ys))) ≡ distinct (tickets (x ∷ (y ∷ ys)))
    go true ih = refl
    go false ih =
        (λ k. not (among_insert y.ticket x ys k) && ih k)
        ∙ (ap (λ e. not (e || among y.ticket (tickets ys)) && (not (among x.ticket (tickets ys)) && distinct (tickets ys))) (eqb_swap y.ticket x.ticket)
        ∙ apart_swap (eqb x.ticket y.ticket) (among x.ticket (tickets ys)) (among y.ticket (tickets ys)) (distinct (tickets ys)))

once_sort : (xs : List Entry) → distinct (tickets (sort earlier xs)) ≡ distinct (tickets xs)
once_sort [] = refl
once_sort (x ∷ xs) = once_insert x (sort earlier xs) ∙ (λ k. not (among_sort x.ticket xs k) && once_sort xs k)

tally_held : {N : Type 0} (l : Ledger N) → held_tickets (ledger_tally l) ≡ tickets (sort earlier (filter (λ x. not x.booked) (filter_map row_entry l.rows)))
tally_held l = ap tickets (kept_sort (λ x. not x.booked) (filter_map row_entry l.rows))

-- the tickets in the held rows are those of the held entries, in some order
pub held_in_rows : {N : Type 0} (l : Ledger N) (t : ℕ) → In t (tickets_held l) ↔ In t (held_tickets (ledger_tally l))
held_in_rows l t =
    let sorted = in_sort t (filter (λ x. not x.booked) (filter_map row_entry l.rows)) in
    (λ h. subst (In t) (sym (tally_held l)) (sorted.1 h), λ h. sorted.0 (subst (In t) (tally_held l) h))

pub held_rows_once : {N : Type 0} (l : Ledger N) → distinct (tickets_held l) ≡ distinct (held_tickets (ledger_tally l))
held_rows_once l = sym (once_sort (filter (λ x. not x.booked) (filter_map row_entry l.rows))) ∙ ap distinct (sym (tally_held l))

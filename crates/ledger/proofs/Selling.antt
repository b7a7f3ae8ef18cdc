-- Lemmas on a loop over the arcs of a route that changes what is sold on each in turn.
use Rattle.std.proofs.Common.{◌≡◌, ℕ, zero, suc, ◌+◌, ◌<◌, Bool, true, false, not, ◌||◌, eqb, List, [], ◌∷◌, ◌++◌, length, get_or, take, set, sym, refl, ap, ◌∙◌, subst, ⊎_elim, arith}
use mathlib.Core.Bool.{or-false}
use Rattle.std.proofs.lemmas.List.{get_or-set_same, get_or-set_other, length-set, take_more}
use Rattle.std.proofs.lemmas.List.Folds.{list_any-append, list_any_at}
use Rattle.std.proofs.lemmas.Bool.{and_parts, both_ways, cases_eq, eq-eqb, ne_eqb, not-true, or_from, or_parts}
use Rattle.network.specs.Lists.{among, any_of, distinct}
use Rattle.ledger.specs.declared.arcs.ArcUse.{ArcUse}
use Rattle.ledger.specs.Rows.{no_use}

pub any_push : {A : Type 0} (test : A → Bool) (xs : List A) (y : A) → any_of test (xs ++ (y ∷ [])) ≡ (any_of test xs || test y)
any_push test xs y = list_any-append test xs (y ∷ []) ∙ ap (λ b. any_of test xs || b) (or-false (test y))

-- a number of a list of which none stands twice is not among those before it
pub apart : (xs : List ℕ) (k : ℕ) → k < length xs → distinct xs ≡ true → among (get_or xs k 0) (take k xs) ≡ false
apart xs zero l h = refl
apart [] (suc k) l h = absurd (omega arith)
apart (x ∷ xs) (suc k) l h =
    let parts = and_parts (not (among x xs)) (distinct xs) h in
    or_from _ _ (other (not-true (among x xs) parts.0)) (apart xs k (omega arith) parts.1)
  where
    other : among x xs ≡ false → eqb (get_or xs k 0) x ≡ false
    other n =
        ne_eqb (get_or xs k 0) x (λ e. both_ways (among x xs) n (list_any_at (eqb x) xs k 0 (omega arith) (eq-eqb x (get_or xs k 0) (sym e))))

pub among_at : (xs : List ℕ) (k a : ℕ) → a ≡ get_or xs k 0 → k < length xs → among a xs ≡ true
among_at xs k a is l = list_any_at (eqb a) xs k 0 l (eq-eqb a (get_or xs k 0) is)

abbrev pub use_at : List ArcUse → ℕ → ArcUse
use_at arcs arc = get_or arcs arc no_use

-- what is sold on the arcs of a route was changed so that `change` holds of before and after, and all else is as it was
pub record Changed (change : ℕ → ℕ → Type 0) (route : List ℕ) (start now : List ArcUse) : Type 0 where
  pub changed : (arc : ℕ) → among arc route ≡ true → change (use_at start arc).sold (use_at now arc).sold
  pub others : (arc : ℕ) → among arc route ≡ false → use_at now arc ≡ use_at start arc
  pub closed : (arc : ℕ) → (use_at now arc).closed ≡ (use_at start arc).closed
  pub long : length now ≡ length start

module _ (change : ℕ → ℕ → Type 0) (route : List ℕ) (start now : List ArcUse) (k a : ℕ) (inv : Changed change (take k route) start now) (l : k < length route) (is : a ≡ get_or route k 0) (once : distinct route ≡ true) where
  -- before its turn, an arc is as it was
  pub changed_not_yet : use_at now a ≡ use_at start a
  changed_not_yet = inv.others a (ap (λ j. among j (take k route)) is ∙ apart route k l once)

  more : (arc : ℕ) → among arc (take (k + 1) route) ≡ (among arc (take k route) || eqb arc a)
  more arc = ap (among arc) (take_more route k 0 l) ∙ (any_push (eqb arc) (take k route) (get_or route k 0) ∙ ap (λ j. among arc (take k route) || eqb arc j) (sym is))

  before : (arc : ℕ) → (arc ≡ a → ⊥) → (b : Bool) → among arc (take (k + 1) route) ≡ b → among arc (take k route) ≡ b
  before arc ne b m = sym (or-false _) ∙ (ap (λ d. among arc (take k route) || d) (sym (ne_eqb arc a ne)) ∙ (sym (more arc) ∙ m))

  pub changed_more : (v : ArcUse) → a < length now → v.closed ≡ (use_at now a).closed → change (use_at start a).sold v.sold → Changed change (take (k + 1) route) start (set now a v)
  changed_more v room kept new =
      record {
        changed = λ arc m. ⊎_elim (λ e. rw (here arc e) (subst (λ j. change (use_at start j).sold v.sold) (sym e) new)) (λ ne. rw (other arc ne) (inv.changed arc (before arc ne true m))) (cases_eq arc a);
        others = λ arc n. ⊎_elim (λ e. absurd (both_ways _ (or_parts _ _ (sym (more arc) ∙ n)).1 (eq-eqb arc a e))) (λ ne. other arc ne ∙ inv.others arc (before arc ne false n)) (cases_eq arc a);
        closed = λ arc. ⊎_elim (λ e. ap (λ u. u.closed) (here arc e) ∙ (kept ∙ (inv.closed a ∙ ap (λ j. (use_at start j).closed) (sym e)))) (λ ne. ap (λ u. u.closed) (other arc ne) ∙ inv.closed arc) (cases_eq arc a);
        long = length-set now a v ∙ inv.long;
      }
    where
      here : (arc : ℕ) → arc ≡ a → use_at (set now a v) arc ≡ v
      here arc e = ap (use_at (set now a v)) e ∙ get_or-set_same now a v no_use room

      other : (arc : ℕ) → (arc ≡ a → ⊥) → use_at (set now a v) arc ≡ use_at now arc
      other arc ne = get_or-set_other now a arc v no_use ne

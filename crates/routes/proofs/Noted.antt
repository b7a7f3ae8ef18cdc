-- A notebook in which a line is marked or one more is written still holds the lines of its partial routes.
use Rattle.std.proofs.Common.{◌≡◌, ℕ, zero, suc, ◌+◌, ◌<◌, ◌≤◌, true, false, List, [], ◌∷◌, ◌++◌, length, get_or, take, set, Some, sym, refl, ap, ◌∙◌, subst, inl, inr, ⊎_elim, le_of_suc-le-suc, not-suc-le-zero, arith}
use borrow.Author.Tests.{clash}
use Rattle.std.specs.List.{slice_get}
use Rattle.std.proofs.lemmas.List.{get_or_append_left, get_or_push, get_or-take, length-append, length_push, length-set, length-take-le}
use Rattle.std.proofs.lemmas.Bool.{cases_eq, cases_lt}
use Rattle.network.specs.ListsLemmas.{some_same}
use Rattle.network.specs.Lists.{In}
use Rattle.network.specs.Net.{Net}
use Rattle.length.specs.Model.{Model}
use Rattle.routes.specs.declared.enquiry.Enquiry.{Enquiry}
use Rattle.routes.specs.declared.line.Line.{Line}
use Rattle.routes.specs.Lines.{line_of}
use Rattle.routes.specs.Work.{Noted, OneLine, marked}
use Rattle.routes.proofs.Once.{from_append, in_left, in_right}
use Rattle.routes.proofs.Places.{in_get_or, not_before}
use Rattle.routes.proofs.Sorting.{Unique}

nth_set_same : {A : Type 0} (xs : List A) (i : ℕ) (x : A) → i < length xs → slice_get (set xs i x) i ≡ Some x
nth_set_same [] i x h = absurd (not-suc-le-zero h)
nth_set_same (y ∷ ys) zero x h = refl
nth_set_same (y ∷ ys) (suc i) x h = nth_set_same ys i x (le_of_suc-le-suc h)

nth_set_other : {A : Type 0} (xs : List A) (i j : ℕ) (x : A) → (j ≡ i → ⊥) → slice_get (set xs i x) j ≡ slice_get xs j
nth_set_other [] i j x ne = refl
nth_set_other (y ∷ ys) zero zero x ne = absurd (ne refl)
nth_set_other (y ∷ ys) zero (suc j) x ne = refl
nth_set_other (y ∷ ys) (suc i) zero x ne = refl
nth_set_other (y ∷ ys) (suc i) (suc j) x ne = nth_set_other ys i j x (λ e. ne (ap suc e))

pub in_index : {A : Type 0} (xs : List A) (x d : A) → In x xs → (j : ℕ) × (j < length xs) × (get_or xs j d ≡ x)
in_index [] x d h = absurd h
in_index (y ∷ ys) x d (inl e) = (0, omega arith, sym e)
in_index (y ∷ ys) x d (inr h) = let r = in_index ys x d h in (suc r.0, omega (arith, r.1), r.2)

-- in a list with no item twice, places of the same item are the same
less_apart : {A : Type 0} (xs : List A) (i j : ℕ) (d : A) → Unique xs → j < length xs → i < j → get_or xs i d ≡ get_or xs j d → ⊥
less_apart xs i j d once h lt e =
    not_before xs j d once h
    (subst (λ x. In x (take j xs)) (get_or-take j xs i d lt ∙ e) (in_get_or (take j xs) i d (omega (arith, length-take-le j xs (omega arith)))))

pub same_place : {A : Type 0} (xs : List A) (i j : ℕ) (d : A) → Unique xs → i < length xs → j < length xs → get_or xs i d ≡ get_or xs j d → i ≡ j
same_place xs i j d once hi hj e =
    ⊎_elim (λ lt. absurd (less_apart xs i j d once hj lt e))
    (λ ge. ⊎_elim (λ gt. absurd (less_apart xs j i d once hi gt (sym e))) (λ le. omega arith) (cases_lt j i))
    (cases_lt i j)

module _ {K L : Type 0} (model : K → Model L) (net : Net) (e : Enquiry K) where
  module _ (routes taken_routes : List (List ℕ)) (notebook : List (Line L)) (used : ℕ) (noted : Noted model net e routes taken_routes notebook used) where
    -- the line at a place that is taken now
    pub noted_mark : Unique routes → (at : ℕ) → at < used → (line : Line L) → slice_get notebook at ≡ Some line
        → Noted model net e routes (taken_routes ++ get_or routes at [] ∷ []) (set notebook at (marked line)) used
    noted_mark once at inside line there =
        record {
          count = noted.count;
          room = rw (length-set notebook at (marked line)) noted.room;
          each = λ j h. ⊎_elim (λ q. here j q) (λ ne. elsewhere j h ne) (cases_eq j at);
        }
      where
        old : OneLine model net e routes taken_routes notebook at
        old = noted.each at inside

        same : old.line ≡ line
        same = some_same (sym old.there ∙ there)

        marked_is : marked line ≡ line_of model net e true (get_or routes at [])
        marked_is = ap marked (sym same) ∙ ap marked old.is

        here : (j : ℕ) → j ≡ at → OneLine model net e routes (taken_routes ++ get_or routes at [] ∷ []) (set notebook at (marked line)) j
        here j q =
            record {
              line = marked line;
              there = ap (slice_get (set notebook at (marked line))) q ∙ nth_set_same notebook at (marked line) (omega (arith, noted.room));
              is = marked_is ∙ ap (λ k. line_of model net e true (get_or routes k [])) (sym q);
              was_taken = λ t. in_right taken_routes (get_or routes at [] ∷ []) (get_or routes j []) (inl (ap (λ k. get_or routes k []) q));
              not_taken = λ f. absurd (clash (sym f));
            }

        elsewhere : (j : ℕ) → j < used → (j ≡ at → ⊥) → OneLine model net e routes (taken_routes ++ get_or routes at [] ∷ []) (set notebook at (marked line)) j
        elsewhere j h ne =
            let one = noted.each j h in
            record {
              line = one.line;
              there = nth_set_other notebook at j (marked line) ne ∙ one.there;
              is = one.is;
              was_taken = λ t. in_left taken_routes (get_or routes at [] ∷ []) (get_or routes j []) (one.was_taken t);
              not_taken = λ f i.
                  ⊎_elim (λ a. one.not_taken f a)
                  (λ b. ⊎_elim (λ q. ne (same_place routes j at [] once (omega (arith, noted.count)) (omega (arith, noted.count)) q)) (λ z. z) b)
                  (from_append taken_routes (get_or routes at [] ∷ []) (get_or routes j []) i);
            }

    -- one line more, of a partial route that is not taken
    pub noted_write : (route : List ℕ) → (In route taken_routes → ⊥) → used < length notebook
        → Noted model net e (routes ++ route ∷ []) taken_routes (set notebook used (line_of model net e false route)) (used + 1)
    noted_write route new room =
        record {
          count = rw (length_push routes route) (ap (λ n. n + 1) noted.count);
          room = rw (length-set notebook used (line_of model net e false route)) (omega arith);
          each = λ j h. ⊎_elim (λ q. here j q) (λ ne. elsewhere j h ne) (cases_eq j used);
        }
      where
        last : get_or (routes ++ route ∷ []) used [] ≡ route
        last = get_or_push routes route [] used (sym noted.count)

        here : (j : ℕ) → j ≡ used → OneLine model net e (routes ++ route ∷ []) taken_routes (set notebook used (line_of model net e false route)) j
        here j q =
            let at : get_or (routes ++ route ∷ []) j [] ≡ route = ap (λ k. get_or (routes ++ route ∷ []) k []) q ∙ last in
            record {
              line = line_of model net e false route;
              there = ap (slice_get (set notebook used (line_of model net e false route))) q ∙ nth_set_same notebook used (line_of model net e false route) room;
              is = ap (line_of model net e false) (sym at);
              was_taken = λ t. absurd (clash t);
              not_taken = λ f i. new (subst (λ r. In r taken_routes) at i);
            }

        elsewhere : (j : ℕ) → j < used + 1 → (j ≡ used → ⊥) → OneLine model net e (routes ++ route ∷ []) taken_routes (set notebook used (line_of model net e false route)) j
        elsewhere j h ne =
            let one = noted.each j (omega arith) in
            let at : get_or (routes ++ route ∷ []) j [] ≡ get_or routes j [] = get_or_append_left routes (route ∷ []) [] j (omega (arith, noted.count)) in
            record {
              line = one.line;
              there = nth_set_other notebook used j (line_of model net e false route) ne ∙ one.there;
              is = one.is ∙ ap (line_of model net e one.line.taken) (sym at);
              was_taken = λ t. subst (λ r. In r taken_routes) (sym at) (one.was_taken t);
              not_taken = λ f i. one.not_taken f (subst (λ r. In r taken_routes) at i);
            }

-- where an item stands in a list
parted : {A : Type 0} (ys : List A) (x : A) → In x ys → (before : List A) × (after : List A) × (ys ≡ before ++ x ∷ after)
parted [] x h = absurd h
parted (y ∷ ys) x (inl q) = ([], ys, ap (λ z. z ∷ ys) (sym q))
parted (y ∷ ys) x (inr h) = let r = parted ys x h in (y ∷ r.0, r.1, ap (λ l. y ∷ l) r.2)

-- items with none twice, all in a list, are at most as many
pub few_of : {A : Type 0} (xs ys : List A) → Unique xs → ((x : A) → In x xs → In x ys) → length xs ≤ length ys
few_of [] ys once sub = omega arith
few_of (x ∷ xs) ys once sub =
    let r = parted ys x (sub x (inl refl)) in
    let rest : (z : _) → In z xs → In z (r.0 ++ r.1) = λ z i.
    ⊎_elim (λ a. in_left r.0 r.1 z a)
    (λ b. ⊎_elim (λ q. absurd (once.0 (subst (λ y. In y xs) q i))) (λ c. in_right r.0 r.1 z c) b)
    (from_append r.0 (x ∷ r.1) z (subst (In z) r.2 (sub z (inr i)))) in
    let fewer = few_of xs (r.0 ++ r.1) once.1 rest in
    omega (arith, ap length r.2, length-append r.0 (x ∷ r.1), length-append r.0 r.1)

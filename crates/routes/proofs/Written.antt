-- The lines written as partial routes are taken, and which partial routes are taken: step by step, as work does it.
use Rattle.std.proofs.Common.{◌≡◌, ℕ, zero, suc, ◌+◌, ◌<◌, ◌≤◌, Bool, true, false, cond, not, List, [], ◌∷◌, ◌++◌, length, get_or, take, drop, filter, sym, refl, ap, ◌∙◌, subst, inl, inr, ⊎_elim, add-one, arith, length-append}
use Rattle.std.specs.List.{range_with_len, flat_map}
use Rattle.std.proofs.lemmas.List.Elements.{filter-append}
use Rattle.std.proofs.lemmas.List.{append-nil, append_assoc, take_all, take-take, take_more, take-append-drop}
use Rattle.std.proofs.lemmas.Bool.{cases_lt}
use Rattle.std.proofs.lemmas.Grind.{flat_map-append}
use Rattle.network.specs.Lists.{In}
use Rattle.network.specs.Net.{Net, WellFormed, arc_count}
use Rattle.length.specs.Model.{Model, Lawful}
use Rattle.length.proofs.Least.{true_T}
use Rattle.length.proofs.Members.{from_map}
use Rattle.routes.specs.declared.enquiry.Enquiry.{Enquiry}
use Rattle.routes.specs.Routes.{extended, is_complete}
use Rattle.routes.specs.Partial.{is_partial, is_admissible, admissible_of, partial_order, partial_routes, taken_of, taken, written, line_count}
use Rattle.routes.proofs.Sorting.{Unique}
use Rattle.routes.proofs.Once.{from_joined, unique_append, unique_kept, unique_joined}
use Rattle.routes.proofs.Enumerate.{extended_unique, extended_apart}
use Rattle.routes.proofs.Places.{unique_take, not_before, up_to}
use Rattle.routes.proofs.Lines.{was_in_rows, partial_unique, partial_rising, written_partial, first_is_written}

at_most_sum : (n a b : ℕ) → n ≡ a + b → a ≤ n
at_most_sum n a b q = omega arith

empty_only : (x : List ℕ) → In x ([] ∷ []) → length x ≡ 0
empty_only x (inl q) = ap length q
empty_only x (inr i) = absurd i

module _ {K L : Type 0} (model : K → Model L) (net : Net) (e : Enquiry K) where
  -- the lines written before any is taken
  pub written_empty : written model net e [] ≡ admissible_of model net e ([] ∷ [])
  written_empty = append-nil (admissible_of model net e ([] ∷ []))

  -- and what one more that is taken adds
  pub written_push : (ps : List (List ℕ)) (p : List ℕ)
      → written model net e (ps ++ p ∷ []) ≡ written model net e ps ++ cond (is_complete net e p) [] (admissible_of model net e (extended net p))
  written_push ps p =
      let start : List (List ℕ) = admissible_of model net e ([] ∷ []) in
      ap (λ l. start ++ flat_map next l) (filter-append still ps (p ∷ []))
      ∙ (ap (λ l. start ++ l) (flat_map-append next (filter still ps) (filter still (p ∷ [])) ∙ ap (λ l. flat_map next (filter still ps) ++ l) (one (is_complete net e p)))
      ∙ sym (append_assoc start (flat_map next (filter still ps)) (cond (is_complete net e p) [] (next p))))
    where
      next : List ℕ → List (List ℕ)
      next q = admissible_of model net e (extended net q)

      still : List ℕ → Bool
      still q = not (is_complete net e q)

      one : (b : Bool) → flat_map next (cond (not b) (p ∷ []) []) ≡ cond b [] (next p)
      one true = refl
      one false = append-nil (next p)

  -- the same, of the first of a list
  pub written_more : (ps : List (List ℕ)) (k : ℕ) → k < length ps
      → written model net e (take (k + 1) ps)
      ≡ written model net e (take k ps) ++ cond (is_complete net e (get_or ps k [])) [] (admissible_of model net e (extended net (get_or ps k [])))
  written_more ps k h = ap (written model net e) (take_more ps k [] h) ∙ written_push (take k ps) (get_or ps k [])

  -- how many of them are complete
  abbrev pub complete_of : List (List ℕ) → ℕ
  complete_of ps = length (filter (is_complete net e) ps)

  taken_none : (ps : List (List ℕ)) → taken_of model net e 0 ps ≡ []
  taken_none [] = refl
  taken_none (p ∷ ps) = refl

  -- while fewer are complete than are wanted, all are taken
  pub taken_of_front : (w k : ℕ) (ps : List (List ℕ)) → complete_of (take k ps) < w → take k (taken_of model net e w ps) ≡ take k ps
  taken_of_front w zero ps h = refl
  taken_of_front w (suc k) [] h = refl
  taken_of_front zero (suc k) (p ∷ ps) h = absurd (omega arith)
  taken_of_front (suc w) (suc k) (p ∷ ps) h = go (is_complete net e p) (taken_of_front w k ps) (taken_of_front (suc w) k ps) h
    where
      go : (b : Bool) → (complete_of (take k ps) < w → take k (taken_of model net e w ps) ≡ take k ps)
          → (complete_of (take k ps) < suc w → take k (taken_of model net e (suc w) ps) ≡ take k ps)
          → length (cond b (p ∷ filter (is_complete net e) (take k ps)) (filter (is_complete net e) (take k ps))) < suc w
          → p ∷ take k (taken_of model net e (cond b w (suc w)) ps) ≡ p ∷ take k ps
      go true less same l = ap (λ t. p ∷ t) (less (omega arith))
      go false less same l = ap (λ t. p ∷ t) (same l)

  -- the one that completes the wanted number is the last
  pub taken_of_stop : (w k : ℕ) (ps : List (List ℕ)) → k < length ps → complete_of (take k ps) < w → w ≤ complete_of (take (suc k) ps)
      → taken_of model net e w ps ≡ take (suc k) ps
  taken_of_stop w k [] l h s = absurd (omega arith)
  taken_of_stop zero k (p ∷ ps) l h s = absurd (omega arith)
  taken_of_stop (suc w) zero (p ∷ ps) l h s = go (is_complete net e p) s
    where
      go : (b : Bool) → suc w ≤ length (cond b (p ∷ []) []) → p ∷ taken_of model net e (cond b w (suc w)) ps ≡ p ∷ []
      go true t = let z : w ≡ 0 = omega arith in ap (λ u. p ∷ u) (ap (λ n. taken_of model net e n ps) z ∙ taken_none ps)
      go false t = absurd (omega arith)
  taken_of_stop (suc w) (suc k) (p ∷ ps) l h s =
      go (is_complete net e p) (taken_of_stop w k ps (omega arith)) (taken_of_stop (suc w) k ps (omega arith)) h s
    where
      go : (b : Bool) → (complete_of (take k ps) < w → w ≤ complete_of (take (suc k) ps) → taken_of model net e w ps ≡ take (suc k) ps)
          → (complete_of (take k ps) < suc w → suc w ≤ complete_of (take (suc k) ps) → taken_of model net e (suc w) ps ≡ take (suc k) ps)
          → length (cond b (p ∷ filter (is_complete net e) (take k ps)) (filter (is_complete net e) (take k ps))) < suc w
          → suc w ≤ length (cond b (p ∷ filter (is_complete net e) (take (suc k) ps)) (filter (is_complete net e) (take (suc k) ps)))
          → p ∷ taken_of model net e (cond b w (suc w)) ps ≡ p ∷ take (suc k) ps
      go true less same a b = ap (λ t. p ∷ t) (less (omega arith) (omega arith))
      go false less same a b = ap (λ t. p ∷ t) (same a b)

  -- if fewer are complete than are wanted, all are taken
  pub taken_of_all : (w : ℕ) (ps : List (List ℕ)) → complete_of ps < w → taken_of model net e w ps ≡ ps
  taken_of_all w [] h = refl
  taken_of_all zero (p ∷ ps) h = absurd (omega arith)
  taken_of_all (suc w) (p ∷ ps) h = go (is_complete net e p) (taken_of_all w ps) (taken_of_all (suc w) ps) h
    where
      go : (b : Bool) → (complete_of ps < w → taken_of model net e w ps ≡ ps) → (complete_of ps < suc w → taken_of model net e (suc w) ps ≡ ps)
          → length (cond b (p ∷ filter (is_complete net e) ps) (filter (is_complete net e) ps)) < suc w
          → p ∷ taken_of model net e (cond b w (suc w)) ps ≡ p ∷ ps
      go true less same l = ap (λ t. p ∷ t) (less (omega arith))
      go false less same l = ap (λ t. p ∷ t) (same l)

  pub taken_prefix : (k : ℕ) → complete_of (take k (partial_routes model net e)) < e.wanted
      → take k (taken model net e) ≡ take k (partial_routes model net e)
  taken_prefix k h = taken_of_front e.wanted k (partial_routes model net e) h

  pub taken_stop : (k : ℕ) → k < length (partial_routes model net e) → complete_of (take k (partial_routes model net e)) < e.wanted
      → e.wanted ≤ complete_of (take (k + 1) (partial_routes model net e)) → taken model net e ≡ take (k + 1) (partial_routes model net e)
  taken_stop k l h s =
      let t : e.wanted ≤ complete_of (take (suc k) (partial_routes model net e)) = subst (λ n. e.wanted ≤ complete_of (take n (partial_routes model net e))) (add-one k) s in
      taken_of_stop e.wanted k (partial_routes model net e) l h t ∙ ap (λ n. take n (partial_routes model net e)) (sym (add-one k))

  pub taken_all : complete_of (partial_routes model net e) < e.wanted → taken model net e ≡ partial_routes model net e
  taken_all h = taken_of_all e.wanted (partial_routes model net e) h

  -- the same, at the end of the list
  pub taken_end : (k : ℕ) → length (partial_routes model net e) ≤ k → complete_of (take k (partial_routes model net e)) < e.wanted
      → taken model net e ≡ take k (partial_routes model net e)
  taken_end k l h =
      let whole = take_all k (partial_routes model net e) l in
      taken_all (subst (λ ps. complete_of ps < e.wanted) whole h) ∙ sym whole

  -- one more is taken while fewer are complete than are wanted
  pub taken_more : (k : ℕ) → k < length (partial_routes model net e) → complete_of (take k (partial_routes model net e)) < e.wanted
      → take (k + 1) (taken model net e) ≡ take (k + 1) (partial_routes model net e)
  taken_more k l h =
      let ps : List (List ℕ) = partial_routes model net e in
      ⊎_elim (taken_prefix (k + 1))
      (λ s. ap (take (k + 1)) (taken_stop k l h s) ∙ take-take (k + 1) (k + 1) ps (omega arith))
      (cases_lt (complete_of (take (k + 1) ps)) e.wanted)

  -- what is written once more are taken begins with what is written before
  pub written_append : (ps qs : List (List ℕ)) → written model net e (ps ++ qs)
      ≡ written model net e ps ++ flat_map (λ q. admissible_of model net e (extended net q)) (filter (λ q. not (is_complete net e q)) qs)
  written_append ps qs =
      ap (λ l. start ++ flat_map next l) (filter-append still ps qs)
      ∙ (ap (λ l. start ++ l) (flat_map-append next (filter still ps) (filter still qs))
      ∙ sym (append_assoc start (flat_map next (filter still ps)) (flat_map next (filter still qs))))
    where
      start : List (List ℕ)
      start = admissible_of model net e ([] ∷ [])

      next : List ℕ → List (List ℕ)
      next q = admissible_of model net e (extended net q)

      still : List ℕ → Bool
      still q = not (is_complete net e q)

  pub written_grows : (k : ℕ) (ps : List (List ℕ)) → length (written model net e (take k ps)) ≤ length (written model net e ps)
  written_grows k ps =
      let rest : List (List ℕ) =
      flat_map (λ q. admissible_of model net e (extended net q)) (filter (λ q. not (is_complete net e q)) (drop k ps)) in
      let whole : length (written model net e ps) ≡ length (written model net e (take k ps) ++ rest) =
      ap (λ l. length (written model net e l)) (sym (take-append-drop k ps)) ∙ ap length (written_append (take k ps) (drop k ps)) in
      let sum : length (written model net e (take k ps) ++ rest) ≡ length (written model net e (take k ps)) + length rest = length-append (written model net e (take k ps)) rest in
      at_most_sum (length (written model net e ps)) (length (written model net e (take k ps))) (length rest) (whole ∙ sum)

  -- no more lines are written on the way than there are at the end
  pub lines_more : (k : ℕ) → k < length (partial_routes model net e) → complete_of (take k (partial_routes model net e)) < e.wanted
      → length (written model net e (take (k + 1) (partial_routes model net e))) ≤ line_count model net e
  lines_more k l h = subst (λ ps. length (written model net e ps) ≤ line_count model net e) (taken_more k l h) (written_grows (k + 1) (taken model net e))

module _ {K L : Type 0} (model : K → Model L) (net : Net) (e : Enquiry K)
    (law : Lawful (model e.kind)) (wf : WellFormed net) (source_there : e.source < net.sites) (few : e.limits.hops ≤ 15) where
  -- no partial route stands there twice
  pub partial_once : Unique (partial_routes model net e)
  partial_once = partial_unique model net e law wf source_there

  -- what is written and not taken shows that there are more
  pub more_than : (k : ℕ) (x : List ℕ) → In x (written model net e (take k (partial_routes model net e)))
      → (In x (take k (partial_routes model net e)) → ⊥) → k < length (partial_routes model net e)
  more_than k x i new =
      let ps : List (List ℕ) = partial_routes model net e in
      ⊎_elim (λ l. l)
      (λ l. absurd (new (subst (In x) (sym (take_all k ps l)) (written_partial model net e law wf source_there few (take k ps) x i))))
      (cases_lt k (length ps))

  -- where all that is written is taken, all are taken
  pub none_left : (k : ℕ) → k ≤ length (partial_routes model net e)
      → ((x : List ℕ) → In x (written model net e (take k (partial_routes model net e))) → In x (take k (partial_routes model net e)))
      → k ≡ length (partial_routes model net e)
  none_left k h done =
      let ps : List (List ℕ) = partial_routes model net e in
      ⊎_elim
      (λ l. absurd (not_before ps k [] partial_once l (done (get_or ps k []) (first_is_written model net e law wf source_there few k l))))
      (λ l. omega arith)
      (cases_lt k (length ps))

  -- the first of those that are written and not taken is the next in order
  pub first_of : (k : ℕ) → k < length (partial_routes model net e) → (y : List ℕ)
      → In y (written model net e (take k (partial_routes model net e))) → (In y (take k (partial_routes model net e)) → ⊥)
      → ((x : List ℕ) → In x (written model net e (take k (partial_routes model net e))) → (In x (take k (partial_routes model net e)) → ⊥)
      → partial_order model net e y x ≡ true)
      → y ≡ get_or (partial_routes model net e) k []
  first_of k h y i new least =
      let ps : List (List ℕ) = partial_routes model net e in
      let t = least (get_or ps k []) (first_is_written model net e law wf source_there few k h) (not_before ps k [] partial_once h) in
      ⊎_elim (λ j. absurd (new j)) (λ q. q)
      (up_to (partial_order model net e) ps k [] y (partial_rising model net e law wf source_there) h
      (written_partial model net e law wf source_there few (take k ps) y i) (true_T _ t))

  -- no line is written twice
  pub written_once_of : (ps : List (List ℕ)) → Unique ps → Unique (written model net e ps)
  written_once_of ps u =
      unique_append start (flat_map next (filter still ps)) (each_once ([] ∷ []) (λ i. i, tt))
      (unique_joined next (λ p. each_once (extended net p) (extended_unique net wf e p)) apart (filter still ps) (unique_kept still ps u))
      no_parent
    where
      start : List (List ℕ)
      start = admissible_of model net e ([] ∷ [])

      next : List ℕ → List (List ℕ)
      next q = admissible_of model net e (extended net q)

      still : List ℕ → Bool
      still q = not (is_complete net e q)

      each_once : (rows : List (List ℕ)) → Unique rows → Unique (admissible_of model net e rows)
      each_once rows v = unique_kept (is_admissible model net e) (filter (is_partial net e) rows) (unique_kept (is_partial net e) rows v)

      apart : (p q x : List ℕ) → In x (next p) → In x (next q) → p ≡ q
      apart p q x i j = extended_apart net wf e p q x (was_in_rows model net e (extended net p) x i) (was_in_rows model net e (extended net q) x j)

      no_parent : (x : List ℕ) → In x start → In x (flat_map next (filter still ps)) → ⊥
      no_parent x i j =
          let r = from_joined next (filter still ps) x j in
          let g = from_map (λ n. r.0 ++ n ∷ []) (range_with_len 0 (arc_count net)) x (was_in_rows model net e (extended net r.0) x r.2) in
          let none = empty_only x (was_in_rows model net e ([] ∷ []) x i) in
          let l = length-append r.0 (g.0 ∷ []) in
          let q = ap length g.2 in
          omega arith

  pub written_once : (k : ℕ) → Unique (written model net e (take k (partial_routes model net e)))
  written_once k = written_once_of (take k (partial_routes model net e)) (unique_take k (partial_routes model net e) partial_once)

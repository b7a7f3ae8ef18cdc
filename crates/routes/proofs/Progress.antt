-- Taking lines: which line is next, that none is left out, and what is new when a line is taken.
use Rattle.std.proofs.Common.{◌≡◌, ℕ, zero, suc, ◌+◌, ◌<◌, ◌≤◌, Bool, true, false, cond, not, ◌&&◌, ◌||◌, T, List, [], ◌∷◌, ◌++◌, length, get_or, take, drop, Some, filter, Option, unwrap_or, sym, refl, ap, ◌∙◌, subst, inl, inr, add-zero, suc-add, zero-add, arith}
use Rattle.std.specs.List.{range_with_len}
use Rattle.std.proofs.lemmas.List.{append-nil, get_or-take, length-take, take-append-drop, take-take}
use Rattle.std.proofs.lemmas.List.Elements.{filter-append}
use Rattle.network.specs.ListsLemmas.{some_same}
use Rattle.network.specs.Lists.{In, place_by_place}
use Rattle.network.specs.Net.{Net, WellFormed}
use Rattle.length.specs.Model.{Model, Lawful}
use Rattle.routes.specs.declared.enquiry.Enquiry.{Enquiry}
use Rattle.routes.specs.declared.line.Line.{Line}
use Rattle.routes.specs.Routes.{is_complete, extended}
use Rattle.routes.specs.Partial.{admissible_of, is_admissible, no_longer, partial_order, partial_routes, is_partial, projected_length, written}
use Rattle.routes.specs.Lines.{Asked, line_of, is_writable}
use Rattle.routes.specs.Choice.{AllSound, AllTaken, FirstLine, Sound, line_before}
use Rattle.routes.specs.Work.{Noted}
use Rattle.routes.proofs.Lines.{Admitted, first_is_written, projects, written_admitted}
use Rattle.routes.proofs.Noted.{in_index}
use Rattle.routes.proofs.Once.{in_left, in_right}
use Rattle.routes.proofs.Places.{in_get_or}
use Rattle.routes.proofs.Sorting.{Unique}
use Rattle.routes.proofs.Written.{first_of, more_than, none_left, written_append, written_more, written_once}

-- an item of the first of two parts is not in the other, where none is twice in both together
pub parts_apart : {A : Type 0} (xs ys : List A) (x : A) → Unique (xs ++ ys) → In x xs → In x ys → ⊥
parts_apart [] ys x once a b = a
parts_apart (y ∷ more) ys x once (inl e) b = once.0 (in_right more ys y (subst (λ z. In z ys) e b))
parts_apart (y ∷ more) ys x once (inr a) b = parts_apart more ys x once.1 a b

module _ {K L : Type 0} (model : K → Model L) (net : Net) (e : Enquiry K) where
  module _ (law : Lawful (model e.kind)) (wf : WellFormed net) (asked : Asked net e) where
    pub line_sound : (b : Bool) (p : List ℕ) → Admitted model net e p → Sound (model e.kind) (line_of model net e b p)
    line_sound b p admitted =
        let y = projects model net e law wf asked.source_there p admitted.1 in
        record { valid = subst (λ o. T ((model e.kind).valid (unwrap_or o (model e.kind).empty))) (sym y.1) y.2 }

    -- lines stand in the order of their partial routes
    pub before_order : (b c : Bool) (p q : List ℕ) → Admitted model net e p → Admitted model net e q
        → line_before (model e.kind) (line_of model net e b p) (line_of model net e c q) ≡ partial_order model net e p q
    before_order b c p q ap' aq =
        let x = projects model net e law wf asked.source_there p ap'.1 in
        let y = projects model net e law wf asked.source_there q aq.1 in
        go (projected_length model net e p) (projected_length model net e q) x.0 y.0 x.1 y.1
      where
        go : (o u : Option L) (x y : L) → o ≡ Some x → u ≡ Some y
            → ((model e.kind).no_longer (unwrap_or o (model e.kind).empty) (unwrap_or u (model e.kind).empty)
            && (not ((model e.kind).no_longer (unwrap_or u (model e.kind).empty) (unwrap_or o (model e.kind).empty))
            || place_by_place p q))
            ≡ (no_longer (model e.kind) o u && (not (no_longer (model e.kind) u o) || place_by_place p q))
        go o u x y s t = rw (s, t) refl

    module _ (k : ℕ) (notebook : List (Line L)) (used : ℕ)
        (noted : Noted model net e (written model net e (take k (partial_routes model net e))) (take k (partial_routes model net e)) notebook used) where
      all : List (List ℕ)
      all = partial_routes model net e

      admitted_at : (j : ℕ) → j < used → Admitted model net e (get_or (written model net e (take k (partial_routes model net e))) j [])
      admitted_at j h =
          written_admitted model net e (take k (partial_routes model net e)) (get_or (written model net e (take k (partial_routes model net e))) j [])
          (in_get_or (written model net e (take k (partial_routes model net e))) j [] (omega (arith, noted.count)))

      pub all_sound : AllSound (model e.kind) notebook used
      all_sound j line h at =
          let one = noted.each j h in
          subst (Sound (model e.kind)) (sym one.is ∙ some_same (sym one.there ∙ at))
          (line_sound one.line.taken (get_or (written model net e (take k (partial_routes model net e))) j []) (admitted_at j h))

      -- the line chosen is that of the next partial route
      pub next_is : (at : ℕ) → FirstLine (model e.kind) notebook used at
          → (k < length (partial_routes model net e)) × (get_or (written model net e (take k (partial_routes model net e))) at [] ≡ get_or (partial_routes model net e) k [])
      next_is at f =
          let W : List (List ℕ) = written model net e (take k (partial_routes model net e)) in
          let one = noted.each at f.inside in
          let same : one.line ≡ f.line = some_same (sym one.there ∙ f.there) in
          let spare : In (get_or W at []) (take k (partial_routes model net e)) → ⊥ = one.not_taken (ap (λ (l : Line L). l.taken) same ∙ f.untaken) in
          let inside : In (get_or W at []) W = in_get_or W at [] (omega (arith, noted.count, f.inside)) in
          let some = more_than model net e law wf asked.source_there asked.few_hops k (get_or W at []) inside spare in (
            some,
            first_of model net e law wf asked.source_there asked.few_hops k some (get_or W at []) inside spare (λ x i n. comes at f x i n),
          )
        where
          comes : (at : ℕ) → FirstLine (model e.kind) notebook used at → (x : List ℕ) → In x (written model net e (take k (partial_routes model net e)))
              → (In x (take k (partial_routes model net e)) → ⊥) → partial_order model net e (get_or (written model net e (take k (partial_routes model net e))) at []) x ≡ true
          comes at f x i n =
              let W : List (List ℕ) = written model net e (take k (partial_routes model net e)) in
              let r = in_index W x [] i in
              let hj : r.0 < used = omega (arith, noted.count, r.1) in
              let one = noted.each at f.inside in
              let other = noted.each r.0 hj in
              let same : one.line ≡ f.line = some_same (sym one.there ∙ f.there) in
              let out : other.line.taken ≡ false = untaken other.line.taken (λ t. n (subst (λ z. In z (take k (partial_routes model net e))) r.2 (other.was_taken t))) in
              let first = f.first r.0 other.line hj other.there out in
              let lines : line_before (model e.kind) one.line other.line ≡ true = subst (λ l. line_before (model e.kind) l other.line ≡ true) (sym same) first in
              let ordered : line_before (model e.kind) (line_of model net e one.line.taken (get_or W at [])) (line_of model net e other.line.taken (get_or W r.0 [])) ≡ true =
              subst (λ l. line_before (model e.kind) l (line_of model net e other.line.taken (get_or W r.0 [])) ≡ true) one.is
              (subst (λ l. line_before (model e.kind) one.line l ≡ true) other.is lines) in
              subst (λ z. partial_order model net e (get_or W at []) z ≡ true) r.2
              (sym (before_order one.line.taken other.line.taken (get_or W at []) (get_or W r.0 []) (admitted_at at f.inside) (admitted_at r.0 hj)) ∙ ordered)
            where
              untaken : (b : Bool) → (b ≡ true → ⊥) → b ≡ false
              untaken true never = absurd (never refl)
              untaken false never = refl

      -- where every line is taken, all partial routes are
      pub none_more : k ≤ length (partial_routes model net e) → AllTaken (model e.kind) notebook used → k ≡ length (partial_routes model net e)
      none_more h taken =
          none_left model net e law wf asked.source_there asked.few_hops k h
          (λ x i.
          let W : List (List ℕ) = written model net e (take k (partial_routes model net e)) in
          let r = in_index W x [] i in
          let hj : r.0 < used = omega (arith, noted.count, r.1) in
          let one = noted.each r.0 hj in
          subst (λ z. In z (take k (partial_routes model net e))) r.2 (one.was_taken (taken r.0 one.line hj one.there)))

    module _ (k : ℕ) (more : k < length (partial_routes model net e)) where
      -- what was taken, and the next, is written
      pub written_so_far : (x : List ℕ) → In x (take (k + 1) (partial_routes model net e)) → In x (written model net e (take k (partial_routes model net e)))
      written_so_far x i =
          let r = in_index (take (k + 1) (partial_routes model net e)) x [] i in
          let hj : r.0 < k + 1 = omega (arith, r.1, length-take (k + 1) (partial_routes model net e)) in
          let at : get_or (partial_routes model net e) r.0 [] ≡ x = sym (get_or-take (k + 1) (partial_routes model net e) r.0 [] hj) ∙ r.2 in
          let first = first_is_written model net e law wf asked.source_there asked.few_hops r.0 (omega arith) in
          let parts : take k (partial_routes model net e) ≡ take r.0 (partial_routes model net e) ++ drop r.0 (take k (partial_routes model net e)) =
          sym (take-append-drop r.0 (take k (partial_routes model net e))) ∙ ap (λ l. l ++ drop r.0 (take k (partial_routes model net e))) (take-take r.0 k (partial_routes model net e) (omega arith)) in
          subst (λ z. In z (written model net e (take k (partial_routes model net e)))) at
          (subst (λ l. In (get_or (partial_routes model net e) r.0 []) (written model net e l)) (sym parts)
          (subst (λ l. In (get_or (partial_routes model net e) r.0 []) l) (sym (written_append model net e (take r.0 (partial_routes model net e)) (drop r.0 (take k (partial_routes model net e)))))
          (in_left (written model net e (take r.0 (partial_routes model net e))) _ (get_or (partial_routes model net e) r.0 []) first)))

      -- a partial route one arc longer than the one taken is not among those taken
      pub new_line : is_complete net e (get_or (partial_routes model net e) k []) ≡ false → (x : List ℕ) → In x (admissible_of model net e (extended net (get_or (partial_routes model net e) k [])))
          → In x (take (k + 1) (partial_routes model net e)) → ⊥
      new_line away x new old =
          let p : List ℕ = get_or (partial_routes model net e) k [] in
          let whole : written model net e (take (k + 1) (partial_routes model net e)) ≡ written model net e (take k (partial_routes model net e)) ++ admissible_of model net e (extended net p) =
          written_more model net e (partial_routes model net e) k more ∙ ap (λ b. written model net e (take k (partial_routes model net e)) ++ cond b [] (admissible_of model net e (extended net p))) away in
          let once = subst Unique whole (written_once model net e law wf asked.source_there asked.few_hops (k + 1)) in
          parts_apart (written model net e (take k (partial_routes model net e))) (admissible_of model net e (extended net p)) x once (written_so_far x old) new

-- numbers counted in two parts
pub counting_split : (a n j : ℕ) → range_with_len a (n + j) ≡ range_with_len a n ++ range_with_len (a + n) j
counting_split a zero j = rw (zero-add, add-zero)
counting_split a (suc n) j =
    let here : a + suc n ≡ (a + 1) + n = omega arith in
    rw (suc-add, here) (ap (λ l. a ∷ l) (counting_split (a + 1) n j))

-- the admissible ones among rows, one row more
module _ {K L : Type 0} (model : K → Model L) (net : Net) (e : Enquiry K) where
  pub admissible_push : (rows : List (List ℕ)) (x : List ℕ) → admissible_of model net e (rows ++ x ∷ []) ≡ admissible_of model net e rows ++ cond (is_writable model net e x) (x ∷ []) []
  admissible_push rows x =
      ap (filter (is_admissible model net e)) (filter-append (is_partial net e) rows (x ∷ [])) ∙ go (is_partial net e x)
    where
      go : (b : Bool) → filter (is_admissible model net e) (filter (is_partial net e) rows ++ cond b (x ∷ []) []) ≡ filter (is_admissible model net e) (filter (is_partial net e) rows) ++ cond (b && is_admissible model net e x) (x ∷ []) []
      go true = filter-append (is_admissible model net e) (filter (is_partial net e) rows) (x ∷ [])
      go false = ap (filter (is_admissible model net e)) (append-nil (filter (is_partial net e) rows)) ∙ sym (append-nil (filter (is_admissible model net e) (filter (is_partial net e) rows)))

  pub admissible_append : (xs ys : List (List ℕ)) → admissible_of model net e (xs ++ ys) ≡ admissible_of model net e xs ++ admissible_of model net e ys
  admissible_append xs ys =
      ap (filter (is_admissible model net e)) (filter-append (is_partial net e) xs ys) ∙ filter-append (is_admissible model net e) (filter (is_partial net e) xs) (filter (is_partial net e) ys)

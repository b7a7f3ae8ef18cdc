-- The choice among the lines looked at, one line more; and the order of lines.
use Rattle.std.proofs.Common.{◌≡◌, Bor, ℕ, zero, suc, ◌+◌, ◌<◌, ◌≤◌, Bool, true, false, not, ◌||◌, T, ◌⊎◌, List, [], ◌∷◌, length, take, Some, None, Option, sym, refl, ap, ◌∙◌, subst, inl, inr, ⊎_elim, arith}
use borrow.Author.Tests.{clash}
use Rattle.std.specs.List.{slice_get}
use Rattle.std.specs.Option.{option_map}
use Rattle.std.proofs.lemmas.List.{length-take}
use Rattle.std.proofs.lemmas.Bool.{and_from, and_parts, cases_Bool, cases_lt, or_cases, not-true}
use Rattle.network.specs.ListsLemmas.{some_same}
use Rattle.network.specs.Lists.{place_by_place}
use Rattle.length.specs.Model.{Model, Lawful}
use Rattle.length.proofs.Least.{T_true, true_T}
use Rattle.routes.specs.declared.line.Line.{Line}
use Rattle.routes.specs.Choice.{AllSound, AllTaken, Chosen, FirstLine, Sound, line_before}
use Rattle.routes.proofs.Orders.{place_total, place_trans}

-- a number below the next is below or is the last
up_to : (j k : ℕ) → j < k + 1 → (j < k) ⊎ (j ≡ k)
up_to j k h = ⊎_elim inl (λ ge. inr (omega arith)) (cases_lt j k)

pub slice_get-take : {A : Type 0} (n : ℕ) (xs : List A) (j : ℕ) → j < n → slice_get (take n xs) j ≡ slice_get xs j
slice_get-take zero xs j h = absurd (omega arith)
slice_get-take (suc n) [] j h = refl
slice_get-take (suc n) (x ∷ xs) zero h = refl
slice_get-take (suc n) (x ∷ xs) (suc j) h = slice_get-take n xs j (omega arith)

module _ {L : Type 0} (m : Model L) where
  -- the best of the lines looked at, with its place
  abbrev pub Best : List (Line L) → ℕ → Option (ℕ × Bor (Line L)) → Type 0
  Best lines looked None = AllTaken m lines looked
  Best lines looked (Some best) = FirstLine m lines looked best.0 × (slice_get lines best.0 ≡ Some best.1.now)

  -- whether a line may stand before the best so far
  abbrev pub beats : Line L → Option (ℕ × Bor (Line L)) → Bool
  beats line None = true
  beats line (Some best) = line_before m line best.1.now

  -- the best of all lines is the choice
  pub best_chosen : (lines : List (Line L)) (all looked : ℕ) (best : Option (ℕ × Bor (Line L))) → looked ≡ all → Best lines looked best
      → Chosen m lines all (option_map (λ b. b.0) best)
  best_chosen lines all looked None e every = subst (λ n. AllTaken m lines n) e every
  best_chosen lines all looked (Some best) e (f, at_best) = subst (λ n. FirstLine m lines n best.0) e f

  module _ (notebook : List (Line L)) (used : ℕ) (lines : List (Line L)) (are : lines ≡ take used notebook) where
    below : (j : ℕ) → j < length lines → j < used
    below j h = omega (arith, ap length are, length-take used notebook)

    same_line : (j : ℕ) → j < used → slice_get lines j ≡ slice_get notebook j
    same_line j h = ap (λ l. slice_get l j) are ∙ slice_get-take used notebook j h

    -- the lines used are sound
    pub sound_used : AllSound m notebook used → AllSound m lines (length lines)
    sound_used sound j line h at = sound j line (below j h) (sym (same_line j (below j h)) ∙ at)

    -- what is chosen of the lines used is chosen of the notebook
    pub chosen_used : (choice : Option ℕ) → used ≤ length notebook → Chosen m lines (length lines) choice → Chosen m notebook used choice
    chosen_used None room every = λ j line h at. every j line (omega (arith, ap length are, length-take used notebook)) (same_line j h ∙ at)
    chosen_used (Some at) room f =
        record {
          line = f.line;
          there = sym (same_line at (below at f.inside)) ∙ f.there;
          inside = below at f.inside;
          untaken = f.untaken;
          first = λ j other h here. f.first j other (omega (arith, ap length are, length-take used notebook)) (same_line j h ∙ here);
        }

module _ {L : Type 0} (m : Model L) (law : Lawful m) where
  -- what it says that a line may stand before another
  before_parts : (a b : Line L) → line_before m a b ≡ true
      → T (m.no_longer a.projected b.projected) × (T (m.no_longer b.projected a.projected) → place_by_place a.arcs b.arcs ≡ true)
  before_parts a b h =
      let p = and_parts _ _ h in
      (true_T _ p.0, λ t. ⊎_elim (λ n. absurd (clash (sym (not-true _ n) ∙ T_true _ t))) (λ q. q) (or_cases _ _ p.1))

  before_from : (a b : Line L) → T (m.no_longer a.projected b.projected)
      → (T (m.no_longer b.projected a.projected) → place_by_place a.arcs b.arcs ≡ true) → line_before m a b ≡ true
  before_from a b t f = and_from _ _ (T_true _ t) (go (m.no_longer b.projected a.projected) refl)
    where
      go : (c : Bool) → m.no_longer b.projected a.projected ≡ c → (not c || place_by_place a.arcs b.arcs) ≡ true
      go true e = f (true_T _ e)
      go false e = refl

  pub before_trans : (a b c : Line L) → Sound m a → Sound m b → Sound m c → line_before m a b ≡ true → line_before m b c ≡ true → line_before m a c ≡ true
  before_trans a b c sa sb sc h k =
      let p = before_parts a b h in
      let q = before_parts b c k in
      let va = sa.valid in
      let vb = sb.valid in
      let vc = sc.valid in
      before_from a c (law.trans a.projected b.projected c.projected va vb vc p.0 q.0)
      (λ back.
      place_trans a.arcs b.arcs c.arcs
      (p.1 (law.trans b.projected c.projected a.projected vb vc va q.0 back))
      (q.1 (law.trans c.projected a.projected b.projected vc va vb back p.0)))

  no : {P : Type 0} {a : Bool} → a ≡ false → T a → P
  no e t = absurd (clash (sym e ∙ T_true _ t))

  either : (a b : Bool) → a ≡ false → b ≡ false → T (a || b) → ⊥
  either true b e f t = clash (sym e)
  either false true e f t = clash (sym f)
  either false false e f t = t

  pub before_total : (a b : Line L) → Sound m a → Sound m b → line_before m a b ≡ false → line_before m b a ≡ true
  before_total a b sa sb h =
      go (cases_Bool (m.no_longer a.projected b.projected)) (cases_Bool (m.no_longer b.projected a.projected)) (place_total a.arcs b.arcs)
    where
      go : (m.no_longer a.projected b.projected ≡ true) ⊎ (m.no_longer a.projected b.projected ≡ false)
          → (m.no_longer b.projected a.projected ≡ true) ⊎ (m.no_longer b.projected a.projected ≡ false)
          → (place_by_place a.arcs b.arcs ≡ true) ⊎ (place_by_place b.arcs a.arcs ≡ true) → line_before m b a ≡ true
      go (inl p) q (inl r) = absurd (clash (sym h ∙ before_from a b (true_T _ p) (λ t. r)))
      go (inl p) (inl q) (inr r) = before_from b a (true_T _ q) (λ t. r)
      go (inl p) (inr q) (inr r) = absurd (clash (sym h ∙ before_from a b (true_T _ p) (λ t. no q t)))
      go (inr p) (inl q) r = before_from b a (true_T _ q) (λ t. no p t)
      go (inr p) (inr q) r = absurd (either _ _ p q (law.total a.projected b.projected sa.valid sb.valid))

  pub before_self : (a : Line L) → Sound m a → line_before m a a ≡ true
  before_self a sa = ⊎_elim (λ t. t) (λ f. before_total a a sa sa f) (cases_Bool (line_before m a a))

  module _ (notebook : List (Line L)) (place : ℕ) (sound : AllSound m notebook (place + 1)) (line : Line L) (there : slice_get notebook place ≡ Some line) where
    is_line : (j : ℕ) (other : Line L) → j ≡ place → slice_get notebook j ≡ Some other → other ≡ line
    is_line j other e at = some_same (sym at ∙ ap (slice_get notebook) e ∙ there)

    line_sound : Sound m line
    line_sound = sound place line (omega arith) there

    pub stays : (best : Option (ℕ × Bor (Line L))) → Best m notebook place best → line.taken ≡ true → Best m notebook (place + 1) best
    stays None chosen taken = λ j other h at. ⊎_elim (λ l. chosen j other l at) (λ e. ap (λ (x : Line L). x.taken) (is_line j other e at) ∙ taken) (up_to j place h)
    stays (Some best) (f, at_best) taken = (
      record {
        line = f.line;
        there = f.there;
        inside = omega (arith, f.inside);
        untaken = f.untaken;
        first = λ j other h at un.
            ⊎_elim (λ l. f.first j other l at un) (λ e. absurd (clash (sym un ∙ ap (λ (x : Line L). x.taken) (is_line j other e at) ∙ taken))) (up_to j place h);
      },
      at_best,
    )

    pub stays_before : (best : Option (ℕ × Bor (Line L))) → Best m notebook place best → beats m line best ≡ false → Best m notebook (place + 1) best
    stays_before None chosen behind = absurd (clash (sym behind))
    stays_before (Some best) (f, at_best) behind =
        let same : f.line ≡ best.1.now = some_same (sym f.there ∙ at_best) in (
          record {
            line = f.line;
            there = f.there;
            inside = omega (arith, f.inside);
            untaken = f.untaken;
            first = λ j other h at spare.
                ⊎_elim (λ l. f.first j other l at spare)
                (λ e.
                subst (λ x. line_before m f.line x ≡ true) (sym (is_line j other e at))
                (subst (λ x. line_before m x line ≡ true) (sym same) (before_total line best.1.now line_sound (sound best.0 best.1.now (omega (arith, f.inside)) at_best) behind)))
                (up_to j place h);
          },
          at_best,
        )

    comes_first : (best : Option (ℕ × Bor (Line L))) → Best m notebook place best → beats m line best ≡ true
        → (j : ℕ) (other : Line L) → j < place → slice_get notebook j ≡ Some other → other.taken ≡ false → line_before m line other ≡ true
    comes_first None chosen ahead j other l at spare = absurd (clash (sym spare ∙ chosen j other l at))
    comes_first (Some best) (f, at_best) ahead j other l at spare =
        let same : f.line ≡ best.1.now = some_same (sym f.there ∙ at_best) in
        before_trans line best.1.now other line_sound (sound best.0 best.1.now (omega (arith, f.inside)) at_best) (sound j other (omega arith) at) ahead
        (subst (λ x. line_before m x other ≡ true) same (f.first j other l at spare))

    pub takes_over : (best : Option (ℕ × Bor (Line L))) → Best m notebook place best → line.taken ≡ false → beats m line best ≡ true → FirstLine m notebook (place + 1) place
    takes_over best so_far un ahead =
        record {
          line = line;
          there = there;
          inside = omega arith;
          untaken = un;
          first = λ j other h at spare.
              ⊎_elim (λ l. comes_first best so_far ahead j other l at spare)
              (λ e. subst (λ x. line_before m line x ≡ true) (sym (is_line j other e at)) (before_self line line_sound))
              (up_to j place h);
        }

-- Lengths of walks: they are lengths, and a walk in two parts is as long as its parts joined.
use Rattle.std.proofs.Common.{arith, None, ◌≡◌, ℕ, ◌<◌, ◌≤◌, Bool, false, T, ltb, List, [], ◌∷◌, ◌++◌, length, get_or, Err, sym, ap, ◌∙◌, ltb→lt, lt→ltb}
use Rattle.std.proofs.ByRecursion.{All-get_or}
use Rattle.network.specs.Checks.{refusal}
use Rattle.network.specs.Lists.{all_of}
use Rattle.network.specs.Net.{Net, WellFormed, ArcFits, arc_count, arc_at, arc_of, no_arc}
use Rattle.length.specs.Model.{Model, Lawful}
use Rattle.length.specs.Walks.{walk_length, arcs_outside, row_answer}
use Rattle.std.proofs.lemmas.Bool.{le-ltb, or_from}
use Rattle.std.proofs.lemmas.Option.{slice_get-get_or}
use Rattle.std.proofs.lemmas.List.Folds.{list_all-append, list_all_at}
use mir.Facts.{and_yes, yes_and}

-- each number is that of an arc
abbrev pub there : Net → List ℕ → Bool
there net arcs = all_of (λ i. ltb i (arc_count net)) arcs

pub there_one : (net : Net) (i : ℕ) → i < arc_count net → T (there net (i ∷ []))
there_one net i h = yes_and _ _ (lt→ltb i (arc_count net) h) tt

pub there_push : (net : Net) (xs : List ℕ) (i : ℕ) → T (there net xs) → i < arc_count net → T (there net (xs ++ i ∷ []))
there_push net xs i hx h = rw (list_all-append (λ k. ltb k (arc_count net)) xs (i ∷ [])) (yes_and _ _ hx (there_one net i h))

module _ {L : Type 0} (m : Model L) (law : Lawful m) (net : Net) (wf : WellFormed net) where
  pub arc_valid_at : (i : ℕ) → i < arc_count net → T (m.valid (m.arc (arc_at net i)))
  arc_valid_at i h = law.arc_valid net.sites (arc_at net i) (All-get_or (ArcFits net.sites) net.arcs i no_arc h wf.arcs_fit)

  first_valid : (i : ℕ) (is : List ℕ) → T (there net (i ∷ is)) → T (m.valid (m.arc (arc_at net i)))
  first_valid i is h = arc_valid_at i (ltb→lt i (arc_count net) (and_yes _ _ h).0)

  pub walk_valid : (arcs : List ℕ) → T (there net arcs) → T (m.valid (walk_length m net arcs))
  walk_valid [] h = law.empty_valid
  walk_valid (i ∷ is) h = law.join_valid _ _ (first_valid i is h) (walk_valid is (and_yes _ _ h).1)

  pub walk_append : (xs ys : List ℕ) → T (there net xs) → T (there net ys) → walk_length m net (xs ++ ys) ≡ m.join (walk_length m net xs) (walk_length m net ys)
  walk_append [] ys hx hy = sym (law.empty_left _ (walk_valid ys hy))
  walk_append (x ∷ xs) ys hx hy =
      ap (m.join (m.arc (arc_at net x))) (walk_append xs ys (and_yes _ _ hx).1 hy)
      ∙ sym (law.assoc _ _ _ (first_valid x xs hx) (walk_valid xs (and_yes _ _ hx).1) (walk_valid ys hy))

  pub walk_push : (xs : List ℕ) (i : ℕ) → T (there net xs) → i < arc_count net → walk_length m net (xs ++ i ∷ []) ≡ m.join (walk_length m net xs) (m.arc (arc_at net i))
  walk_push xs i hx h = walk_append xs (i ∷ []) hx (there_one net i h) ∙ ap (m.join (walk_length m net xs)) (law.empty_right _ (arc_valid_at i h))

-- a row of 1 to 15 arcs is not outside
pub inside_of : (arcs : List ℕ) → 1 ≤ length arcs → length arcs ≤ 15 → arcs_outside arcs ≡ false
inside_of arcs lo hi = or_from _ _ (le-ltb (length arcs) 1 lo) (le-ltb 15 (length arcs) hi)

-- a row of 1 to 15 numbers of which one is not that of an arc
pub row_no_arc : {L : Type 0} (m : Model L) (net : Net) (arcs : List ℕ) (k : ℕ) → 1 ≤ length arcs → length arcs ≤ 15 → k < length arcs → None ≡ arc_of net (get_or arcs k 0)
    → row_answer m net arcs ≡ Err (refusal 32)
row_no_arc m net arcs k some few here none =
    let over : arc_count net ≤ get_or arcs k 0 = grind (arith, slice_get-get_or net.arcs (get_or arcs k 0) no_arc) in
    rw (inside_of arcs some few, list_all_at (λ i. ltb i (arc_count net)) arcs k 0 here (le-ltb (get_or arcs k 0) (arc_count net) over))

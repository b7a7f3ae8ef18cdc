-- Lemmas on arcs that are joined, asked of each two that follow one another.
use Rattle.std.proofs.Common.{◌≡◌, ℕ, zero, suc, ◌+◌, ◌<◌, ◌≤◌, Bool, true, false, eqb, List, [], ◌∷◌, length, get_or, Some, None, Option, option_map, refl, sym, ap, ◌∙◌, arith}
use Rattle.std.specs.Prelude.{IsTrue, IfSome, IsSomeAnd, MatchBool}
use Rattle.std.specs.Borrow.{Bor}
use Rattle.std.specs.Fn.{Mut, Called}
use Rattle.std.specs.Iterator.Runs.{Run, IsWindowsRun, AllItemsGive, AnyItemGives, CallKeepsClosure}
use Rattle.std.specs.List.{IsSubsliceAt}
use Rattle.std.proofs.lemmas.Bool.{and_from, and_left, and_right}
use Rattle.network.specs.Net.{Net, arc_at}
use Rattle.ledger.specs.Tally.{is_joined}

-- the first arc of two ends where the second begins
abbrev pub pair_joined : Net → List ℕ → Bool
pair_joined net pair = eqb (arc_at net (get_or pair 0 0)).to (arc_at net (get_or pair 1 0)).from

abbrev joined_at : Net → List ℕ → ℕ → Bool
joined_at net arcs k = eqb (arc_at net (get_or arcs k 0)).to (arc_at net (get_or arcs (suc k) 0)).from

joined_from : (net : Net) (arcs : List ℕ) → ((k : ℕ) → suc k < length arcs → joined_at net arcs k ≡ true) → is_joined net arcs ≡ true
joined_from net [] h = refl
joined_from net (i ∷ []) h = refl
joined_from net (i ∷ (j ∷ is)) h = and_from _ _ (h 0 (omega arith)) (joined_from net (j ∷ is) (λ k l. h (suc k) (omega arith)))

joined_broken : (net : Net) (arcs : List ℕ) (k : ℕ) → suc k < length arcs → joined_at net arcs k ≡ false → is_joined net arcs ≡ false
joined_broken net [] k l h = absurd (omega arith)
joined_broken net (i ∷ []) k l h = absurd (omega arith)
joined_broken net (i ∷ (j ∷ is)) zero l h = and_left _ _ h
joined_broken net (i ∷ (j ∷ is)) (suc k) l h = and_right _ _ (joined_broken net (j ∷ is) k (omega arith) h)

-- a window of two at place k has the arcs there
window_joined : (net : Net) (arcs pair : List ℕ) (k : ℕ) → IsSubsliceAt 2 arcs k pair → pair_joined net pair ≡ joined_at net arcs k
window_joined net arcs pair k w =
    let first : get_or pair 0 0 ≡ get_or arcs k 0 = w.2 0 0 (omega arith) ∙ ap (λ i. get_or arcs i 0) (omega arith) in
    let second : get_or pair 1 0 ≡ get_or arcs (suc k) 0 = w.2 1 0 (omega arith) ∙ ap (λ i. get_or arcs i 0) (omega arith) in
    rw (first, second)

-- a test that computes this, asked of each window of two in turn
module _ (net : Net) (arcs : List ℕ) {S F : Type 0} {steps : S → Option (Bor (List ℕ)) → S → Type 0} (p : Run steps) (g : Mut F (Bor (List ℕ) × Unit {0}) Bool) (f : F)
    (windows : IsWindowsRun p 2 arcs) (keeps : CallKeepsClosure g f) (tests : (x : Bor (List ℕ)) (b : Bool) → Called g f (x, tt) b f → b ≡ pair_joined net x.now) where
  window_at : (k : ℕ) (b : Bool) → k < p.len → IfSome (p.at k) (λ x. Called g f (x, tt) b f) → joined_at net arcs k ≡ b
  window_at k b l t = go (p.at k) (windows.3 k 0 l) (windows.2 k) t
    where
      go : (o : Option (Bor (List ℕ))) {v : ℕ} → option_map (λ x. get_or x.now 0 0) o ≡ Some v
          → IfSome o (λ x. (length x.now ≡ 2) × (k + 2 ≤ length arcs) × IsSubsliceAt 2 arcs k x.now) → IfSome o (λ x. Called g f (x, tt) b f) → joined_at net arcs k ≡ b
      go None e w t = cc
      go (Some x) e w t = sym (window_joined net arcs x.now k w.2) ∙ sym (tests x b t)

  pub windows_joined : (r : Bool) → MatchBool r (IsTrue p.whole × AllItemsGive p g f true) (AnyItemGives p g f false) → r ≡ is_joined net arcs
  windows_joined true all = sym (joined_from net arcs (λ k l. window_at k true (omega (arith, windows.1 all.0)) (all.1 keeps k)))
  windows_joined false any =
      let found = any keeps in
      sym (joined_broken net arcs found.0 (omega (arith, windows.0 (omega (arith, found.1)), found.1)) (window_at found.0 false found.1 (some (p.at found.0) found.2)))
    where
      some : (o : Option (Bor (List ℕ))) → IsSomeAnd o (λ x. Called g f (x, tt) false f) → IfSome o (λ x. Called g f (x, tt) false f)
      some None t = absurd t
      some (Some x) t = t

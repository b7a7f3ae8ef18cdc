-- Lemmas on ring plans: how many arcs there are, which stands at a number, and that they keep the limits.
use Rattle.std.specs.Prelude.{◌≡◌, ℕ, zero, suc, ◌+◌, ◌*◌, ◌/◌, ◌%◌, ◌<◌, ◌≤◌, cond, List, length, Some, None, ◌==◌, ◌≢◌}
use Rattle.std.proofs.Common.{⊎_elim, sym, mod-eq_of_lt}
use Rattle.std.proofs.Math.Path.{refl}
use Rattle.std.proofs.Math.Nat.{mod-lt, mod_self, add-zero}
use native.Mathlib.Omega.{arith}
use Rattle.std.specs.List.{range_with_len, flat_map, AllByRecursion, slice_get}
use Rattle.std.proofs.lemmas.Option.{slice_get_past}
use Rattle.std.proofs.lemmas.Bool.{cases_lt}
use Rattle.network.specs.declared.arc.Arc.{Arc}
use Rattle.network.specs.declared.figures.Figures.{Figures}
use Rattle.network.specs.Net.{ArcFits, arc_of}
use Rattle.network.specs.Ring.{FiguresFit, both_ways, next_site, ring_arc, ring_net}

module _ (n : ℕ) (f : Figures) where
  -- the arcs of the sites from a on, k of them
  arcs_from : ℕ → ℕ → List Arc
  arcs_from a k = flat_map (both_ways n f) (range_with_len a k)

  length_from : (a k : ℕ) → length (arcs_from a k) ≡ 2 * k
  unfolding arcs_from
  length_from a zero = refl
  length_from a (suc k) = let h = length_from (a + 1) k in omega arith

  -- the arc of number i, where the first is that of site a
  at : ℕ → ℕ → Arc
  at a i =
      cond (i % 2 == 0) (ring_arc f (a + i / 2) (next_site n (a + i / 2))) (ring_arc f (next_site n (a + i / 2)) (a + i / 2))

  at_more : (a i : ℕ) → at (a + 1) i ≡ at a (suc (suc i))
  unfolding at
  at_more a i =
      let r : suc (suc i) % 2 ≡ i % 2 = omega arith in
      let q : a + suc (suc i) / 2 ≡ a + 1 + i / 2 = omega arith in
      rw (r, q)

  nth_from : (a k i : ℕ) → i < 2 * k → slice_get (arcs_from a k) i ≡ Some (at a i)
  unfolding arcs_from at
  nth_from a zero i h = absurd (omega arith)
  nth_from a (suc k) zero h = rw add-zero
  nth_from a (suc k) (suc zero) h = rw add-zero
  nth_from a (suc k) (suc (suc i)) h = rw (← at_more) (nth_from (a + 1) k i (omega arith))

  -- the next of three or more sites is another site
  next_apart : (i : ℕ) → 3 ≤ n → i < n → next_site n i ≢ i
  next_apart i h l e =
      ⊎_elim
      (λ lt. omega (arith, mod-eq_of_lt lt))
      (λ ge. let is : n ≡ i + 1 = omega arith in let z : (i + 1) % n ≡ 0 = rw is (mod_self (i + 1)) in omega arith)
      (cases_lt (i + 1) n)

  fits : FiguresFit f → (a b : ℕ) → a < n → b < n → (a ≢ b) → ArcFits n (ring_arc f a b)
  fits limits a b ha hb apart =
      record {
        from_site = ha;
        to_site = hb;
        two_sites = apart;
        weight_fits = limits.0;
        delay_fits = limits.1;
        jitter_fits = limits.2;
        charge_fits = limits.3;
        capacity_fits = limits.4;
      }

  fit_from : 3 ≤ n → FiguresFit f → (a k : ℕ) → a + k ≤ n → AllByRecursion (ArcFits n) (arcs_from a k)
  unfolding arcs_from
  fit_from few limits a zero h = tt
  fit_from few limits a (suc k) h =
      let la : a < n = omega arith in
      let lb : next_site n a < n = mod-lt (a + 1) (omega arith) in
      let apart = next_apart a few la in (
        fits limits a (next_site n a) la lb (λ e. apart (sym e)),
        (fits limits (next_site n a) a lb la apart, fit_from few limits (a + 1) k (omega arith)),
      )

  pub ring_length : length (flat_map (both_ways n f) (range_with_len 0 n)) ≡ 2 * n
  unfolding arcs_from
  ring_length = length_from 0 n

  pub ring_fits : 3 ≤ n → FiguresFit f → AllByRecursion (ArcFits n) (flat_map (both_ways n f) (range_with_len 0 n))
  unfolding arcs_from
  ring_fits few limits = fit_from few limits 0 n (omega arith)

  -- the arc of an even number runs forward from its site, that of an odd one back to it
  pub ring_forward : (i : ℕ) → i < 2 * n → i % 2 ≡ 0 → arc_of (ring_net n f) i ≡ Some (ring_arc f (i / 2) (next_site n (i / 2)))
  unfolding arcs_from at
  ring_forward i h even = let z : 0 + i / 2 ≡ i / 2 = omega arith in rw (nth_from 0 n i h, z, even)

  pub ring_back : (i : ℕ) → i < 2 * n → (i % 2 ≢ 0) → arc_of (ring_net n f) i ≡ Some (ring_arc f (next_site n (i / 2)) (i / 2))
  unfolding arcs_from at
  ring_back i h odd = let z : 0 + i / 2 ≡ i / 2 = omega arith in let r : i % 2 ≡ 1 = omega arith in rw (nth_from 0 n i h, z, r)

  pub ring_past : (i : ℕ) → 2 * n ≤ i → arc_of (ring_net n f) i ≡ None
  ring_past i h = slice_get_past (ring_net n f).arcs i (omega (arith, ring_length))

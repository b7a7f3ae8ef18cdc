-- Lemmas on the network that a ledger shows: it keeps the limits, and what is at a number.
use Rattle.std.specs.Prelude.{◌≡◌, ℕ, ◌-◌, ◌<◌, ◌≤◌, Bool, true, false, cond, length, Some, None, slice_index, slice_index_or}
use Rattle.std.proofs.Common.{ap, ◌∙◌, arith}
use Rattle.std.specs.List.{range_with_len}
use Rattle.std.proofs.lemmas.List.FromFn.{get_or-range_with_len, get_or-map-range_with_len, length-range_with_len, length-map-range_with_len}
use Rattle.std.proofs.ByRecursion.{All-from_get_or, All-get_or, All-map}
use Rattle.std.proofs.lemmas.Option.{slice_get-get_or, slice_get_past}
use Rattle.network.specs.declared.arc.Arc.{Arc}
use Rattle.network.specs.Net.{Net, ArcFits, WellFormed, arc_at, arc_count, arc_of, no_arc, with_capacity}
use Rattle.network.specs.ListsLemmas.{nth_some}
use Rattle.ledger.specs.Tally.{with_free}

module _ (net : Net) (free : ℕ → ℕ) where
  abbrev shown : ℕ → Arc
  shown i = with_capacity (free i) (arc_at net i)

  pub shown_count : arc_count (with_free net free) ≡ arc_count net
  shown_count = length-map-range_with_len shown 0 (arc_count net)

  pub shown_at : (i : ℕ) → i < arc_count net → arc_at (with_free net free) i ≡ shown i
  shown_at i l = get_or-map-range_with_len shown 0 (arc_count net) i i no_arc l (omega arith)

  pub shown_some : (i : ℕ) → i < arc_count net → arc_of (with_free net free) i ≡ Some (shown i)
  shown_some i l = slice_get-get_or (with_free net free).arcs i no_arc (omega (arith, shown_count)) ∙ ap Some (shown_at i l)

  pub shown_none : (i : ℕ) → arc_count net ≤ i → arc_of (with_free net free) i ≡ None
  shown_none i l = slice_get_past (with_free net free).arcs i (omega (arith, shown_count))

  shown_fits : WellFormed net → ((i : ℕ) → free i ≤ (arc_at net i).capacity) → (i : ℕ) → i < arc_count net → ArcFits net.sites (shown i)
  shown_fits wf less i l =
      let fit = All-get_or (ArcFits net.sites) net.arcs i no_arc l wf.arcs_fit in
      record {
        from_site = fit.from_site;
        to_site = fit.to_site;
        two_sites = fit.two_sites;
        weight_fits = fit.weight_fits;
        delay_fits = fit.delay_fits;
        jitter_fits = fit.jitter_fits;
        charge_fits = fit.charge_fits;
        capacity_fits = omega (arith, fit.capacity_fits, less i);
      }

  -- a network with less capacity keeps the limits
  pub shown_formed : WellFormed net → ((i : ℕ) → free i ≤ (arc_at net i).capacity) → WellFormed (with_free net free)
  shown_formed wf less =
      record {
        some_sites = wf.some_sites;
        few_sites = wf.few_sites;
        few_arcs = omega (arith, shown_count, wf.few_arcs);
        arcs_fit = All-map (ArcFits net.sites) shown (range_with_len 0 (arc_count net)) (All-from_get_or (λ i. ArcFits net.sites (shown i)) (range_with_len 0 (arc_count net)) 0 each);
      }
    where
      each : (k : ℕ) → k < length (range_with_len 0 (arc_count net)) → ArcFits net.sites (shown (slice_index (range_with_len 0 (arc_count net)) k))
      each k l =
          let there : k < arc_count net = omega (arith, length-range_with_len 0 (arc_count net)) in
          let here : slice_index_or (range_with_len 0 (arc_count net)) k 0 ≡ k = get_or-range_with_len 0 (arc_count net) k 0 there ∙ omega arith in
          rw here (shown_fits wf less k there)

pub free_less : (b : Bool) (m n : ℕ) → cond b 0 (m - n) ≤ m
free_less true m n = omega arith
free_less false m n = omega arith

-- an arc that a network has stands below 256
pub arc_below : (net : Net) → WellFormed net → (i : ℕ) (arc : Arc) → Some arc ≡ arc_of net i → i < 256
arc_below net wf i arc e = omega (arith, (nth_some net.arcs i arc no_arc e).0, wf.few_arcs)

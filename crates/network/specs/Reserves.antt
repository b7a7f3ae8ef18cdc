-- Lemmas on headroom: the arcs below with their capacities lessened keep the limits, and what is at a number.
use Rattle.std.specs.Prelude.{◌≡◌, ℕ, Option}
use Rattle.std.proofs.Common.{sym, ap, ◌∙◌, arith}
use Rattle.std.specs.Option.{option_map}
use Rattle.std.proofs.ByRecursion.{All-map, All-weaker}
use Rattle.std.proofs.lemmas.List.{length-map}
use Rattle.network.specs.declared.arc.Arc.{Arc}
use Rattle.network.specs.Headroom.{less, with_headroom}
use Rattle.network.specs.Net.{Net, ArcFits, WellFormed, arc_of}
use Rattle.network.specs.ListsLemmas.{nth_map}

less_fits : (sites h : ℕ) (a : Arc) → ArcFits sites a → ArcFits sites (less h a)
less_fits sites h a fit =
    record {
      from_site = fit.from_site;
      to_site = fit.to_site;
      two_sites = fit.two_sites;
      weight_fits = fit.weight_fits;
      delay_fits = fit.delay_fits;
      jitter_fits = fit.jitter_fits;
      charge_fits = fit.charge_fits;
      capacity_fits = omega (arith, fit.capacity_fits);
    }

pub headroom_formed : (h : ℕ) (net : Net) → WellFormed net → WellFormed (with_headroom h net)
headroom_formed h net wf =
    record {
      some_sites = wf.some_sites;
      few_sites = wf.few_sites;
      few_arcs = rw length-map wf.few_arcs;
      arcs_fit = All-map (ArcFits net.sites) (less h) net.arcs (All-weaker (ArcFits net.sites) (λ a. ArcFits net.sites (less h a)) (less_fits net.sites h) net.arcs wf.arcs_fit);
    }

-- what is asked of the network below, and what headroom then answers
pub headroom_arc : (h : ℕ) (net : Net) (i : ℕ) (below : Option Arc) → below ≡ arc_of net i → option_map (less h) below ≡ arc_of (with_headroom h net) i
headroom_arc h net i below e = ap (option_map (less h)) e ∙ sym (nth_map (less h) net.arcs i)

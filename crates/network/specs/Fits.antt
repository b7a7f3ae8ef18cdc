-- The limits as tests and as facts.
use Rattle.std.specs.Prelude.{◌≡◌, ℕ, true, not, List, [], ◌∷◌, refl}
use Rattle.std.proofs.Common.{ap}
use Rattle.std.specs.List.{AllByRecursion}
use Rattle.std.proofs.lemmas.Bool.{and_parts, and_from, eqb-false, leb-true, ltb-true, not-true, lt-ltb, le-leb, ne_eqb}
use Rattle.network.specs.declared.arc.Arc.{Arc}
use Rattle.network.specs.Limits.{arc_fits, net_fits}
use Rattle.network.specs.Lists.{all_of}
use Rattle.network.specs.Net.{Net, ArcFits, WellFormed}

pub one_fits : (sites : ℕ) (arc : Arc) → arc_fits sites arc ≡ true → ArcFits sites arc
one_fits sites arc e =
    let p0 = and_parts _ _ e in
    let p1 = and_parts _ _ p0.1 in
    let p2 = and_parts _ _ p1.1 in
    let p3 = and_parts _ _ p2.1 in
    let p4 = and_parts _ _ p3.1 in
    let p5 = and_parts _ _ p4.1 in
    let p6 = and_parts _ _ p5.1 in
    record {
      from_site = ltb-true _ _ p0.0;
      to_site = ltb-true _ _ p1.0;
      two_sites = eqb-false _ _ (not-true _ p2.0);
      weight_fits = leb-true _ _ p3.0;
      delay_fits = leb-true _ _ p4.0;
      jitter_fits = leb-true _ _ p5.0;
      charge_fits = leb-true _ _ p6.0;
      capacity_fits = leb-true _ _ p6.1;
    }

fits_one : (sites : ℕ) (arc : Arc) → ArcFits sites arc → arc_fits sites arc ≡ true
fits_one sites arc fits =
    and_from _ _ (lt-ltb _ _ fits.from_site) (and_from _ _ (lt-ltb _ _ fits.to_site) (
    and_from _ _ (ap not (ne_eqb arc.from arc.to fits.two_sites)) (and_from _ _ (le-leb _ _ fits.weight_fits) (
    and_from _ _ (le-leb _ _ fits.delay_fits) (and_from _ _ (le-leb _ _ fits.jitter_fits) (
    and_from _ _ (le-leb _ _ fits.charge_fits) (le-leb _ _ fits.capacity_fits)
    ))
    ))
    ))

pub all_fit : (sites : ℕ) (arcs : List Arc) → all_of (arc_fits sites) arcs ≡ true → AllByRecursion (ArcFits sites) arcs
all_fit sites [] e = tt
all_fit sites (a ∷ more) e = let p = and_parts _ _ e in (one_fits sites a p.0, all_fit sites more p.1)

fit_all : (sites : ℕ) (arcs : List Arc) → AllByRecursion (ArcFits sites) arcs → all_of (arc_fits sites) arcs ≡ true
fit_all sites [] h = refl
fit_all sites (a ∷ more) h = and_from _ _ (fits_one sites a h.0) (fit_all sites more h.1)

pub formed_fits : (net : Net) → WellFormed net → net_fits net ≡ true
formed_fits net wf =
    and_from _ _ (le-leb _ _ wf.some_sites) (and_from _ _ (le-leb _ _ wf.few_sites) (
    and_from _ _ (le-leb _ _ wf.few_arcs) (fit_all net.sites net.arcs wf.arcs_fit)
    ))

pub fits_formed : (net : Net) → net_fits net ≡ true → WellFormed net
fits_formed net e =
    let p0 = and_parts _ _ e in
    let p1 = and_parts _ _ p0.1 in
    let p2 = and_parts _ _ p1.1 in
    record {
      some_sites = leb-true _ _ p0.0;
      few_sites = leb-true _ _ p1.0;
      few_arcs = leb-true _ _ p2.0;
      arcs_fit = all_fit net.sites net.arcs p2.1;
    }

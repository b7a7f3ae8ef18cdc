-- A table into which the arcs of a network were listed holds them in its first places.
use Rattle.std.proofs.Common.{◌≡◌, ℕ, true, List, ◌++◌, take, sym, subst}
use Rattle.std.proofs.lemmas.List.{take_at}
use Rattle.network.specs.declared.arc.Arc.{Arc}
use Rattle.network.specs.Fits.{formed_fits}
use Rattle.network.specs.Limits.{net_fits}
use Rattle.network.specs.Net.{Net, WellFormed, arc_count}

pub listed : (net : Net) (table rest : List Arc) (count : ℕ) → count ≡ arc_count net → table ≡ net.arcs ++ rest → take count table ≡ net.arcs
listed net table rest count e is = rw is (take_at net.arcs rest count (sym e))

pub same_net : (net : Net) (sites : ℕ) (arcs : List Arc) → sites ≡ net.sites → arcs ≡ net.arcs → (record { sites = sites; arcs = arcs }) ≡ net
same_net net sites arcs e f = rw (e, f)

-- what has the sites and arcs of a network keeps the limits as the network does
pub same_fits : (net : Net) (sites : ℕ) (arcs : List Arc) → WellFormed net → sites ≡ net.sites → arcs ≡ net.arcs → net_fits (record { sites = sites; arcs = arcs }) ≡ true
same_fits net sites arcs wf e f = subst (λ (n : Net). net_fits n ≡ true) (sym (same_net net sites arcs e f)) (formed_fits net wf)

-- Whether a row of arcs meets a site, as it is asked of each arc's number.
use Rattle.std.proofs.Common.{◌≡◌, ℕ, Bool, true, false, ◌||◌, eqb, ltb, List, [], ◌∷◌, map, Some, None, Option, sym, refl, ap, ◌∙◌}
use Rattle.std.specs.List.{list_any}
use Rattle.std.proofs.lemmas.Option.{slice_get-get_or}
use Rattle.std.proofs.lemmas.Bool.{and_parts, ltb-true, ne_eqb}
use Rattle.network.specs.declared.arc.Arc.{Arc}
use Rattle.network.specs.Lists.{among}
use Rattle.network.specs.Net.{Net, arc_at, arc_count, arc_of, no_arc}
use Rattle.length.specs.Walks.{sites_along}
use Rattle.routes.specs.Lines.{there}
use Rattle.routes.proofs.Steps.{eqb_swap}

-- there is an arc of this number, and it leads to the site
abbrev pub leads : Net → ℕ → ℕ → Bool
leads net site i = elim (arc_of net i) [ None ↦ false | Some arc ↦ eqb arc.to site ]

pub meets_is : (net : Net) (site : ℕ) (arcs : List ℕ) → there net arcs ≡ true → list_any (leads net site) arcs ≡ among site (map (λ i. (arc_at net i).to) arcs)
meets_is net site [] t = refl
meets_is net site (i ∷ is) t =
    let parts = and_parts (ltb i (arc_count net)) (there net is) t in
    let one : leads net site i ≡ eqb site (arc_at net i).to =
    ap (λ (o : Option Arc). elim o as (λ _. Bool) [ None ↦ false | Some arc ↦ eqb arc.to site ]) (slice_get-get_or net.arcs i no_arc (ltb-true i (arc_count net) parts.0))
    ∙ eqb_swap (arc_at net i).to site in
    ap (λ b. b || list_any (leads net site) is) one ∙ ap (λ b. eqb site (arc_at net i).to || b) (meets_is net site is parts.1)

-- a row of arcs meets a site that is not where it starts, where some arc leads to it
pub met_later : (net : Net) (source site : ℕ) (arcs : List ℕ) (met : Bool) → there net arcs ≡ true → (site ≡ source → ⊥) → met ≡ list_any (leads net site) arcs
    → met ≡ among site (sites_along net source arcs)
met_later net source site arcs met t ne is =
    is ∙ meets_is net site arcs t ∙ sym (ap (λ b. b || among site (map (λ i. (arc_at net i).to) arcs)) (ne_eqb site source ne))

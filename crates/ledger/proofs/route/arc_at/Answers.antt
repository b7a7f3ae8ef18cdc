-- The arc of a number, or that of figures 0 past the last; its sites are below 64.
use Rattle.std.proofs.Common.{◌≡◌, ℕ, Option, Some, None, sym, ap, ◌∙◌, arith, rules}
use Rattle.std.specs.Option.{UnwrapsOrElse}
use Rattle.std.proofs.lemmas.List.{get_or_past}
use Rattle.network.specs.declared.arc.Arc.{Arc}
use Rattle.network.specs.Net.{Net, arc_at, arc_of, no_arc}
use Rattle.network.specs.ListsLemmas.{nth_none, nth_some}
use Rattle.ledger.proofs.Sites.{site_below}
use Rattle.ledger.proofs.route.arc_at.Goals as goal

found_or_none : (net : Net) (i : ℕ) (IsBlank : Arc → Type 0) (found : Option Arc) (arc : Arc) → found ≡ arc_of net i → ((a : Arc) → IsBlank a → a ≡ no_arc) → UnwrapsOrElse found IsBlank arc → arc ≡ arc_at net i
found_or_none net i IsBlank (Some there) arc e blank is = is ∙ sym (nth_some net.arcs i there no_arc e).1
found_or_none net i IsBlank None arc e blank is = blank arc is ∙ sym (get_or_past net.arcs i no_arc (nth_none net.arcs i e))

pub returns : goal.returns
returns g c =
    let network = c.args.network.now in
    let net = g.N.Network.meaning network in
    let is : c.unwrap_or_default.result ≡ arc_at net c.args.number = found_or_none net c.args.number _ c.arc.result c.unwrap_or_default.result c.arc.ensures (λ a p. search rules) c.unwrap_or_default.ensures in
    let below = site_below net (g.met.N.Network.formed network) c.args.number in
    record {
      is = is;
      from = omega (arith, ap (λ (a : Arc). a.from) is, below.0);
      to = omega (arith, ap (λ (a : Arc). a.to) is, below.1);
    }

-- Each arc number is written as it is.
use Rattle.std.proofs.Common.{◌≡◌, length, ◌∙◌, rules}
use Rattle.std.proofs.lemmas.List.{ext_get_or}
use Rattle.routes.proofs.listing.row_of.Goals as goal

pub returns : goal.returns
returns g c =
    let line = c.args.line.now in
    let wide : c.map.result ≡ c.places.result =
    ext_get_or 0 c.map.result c.places.result (search rules) (λ k h. let t = c.map.ensures.items.at k 0 0 (search rules) in search rules) in
    let count : c.from.result ≡ length line.arcs = c.from.ensures ∙ c.len.ensures in
    λ k. record {
      count = count k;
      arcs = (wide ∙ c.places.ensures) k;
      delay = line.totals.delay;
      jitter = line.totals.jitter;
      charge = line.totals.charge;
    }

-- What is asked of each two arcs that follow one another.
use Rattle.std.proofs.Common.{ap, ◌∙◌, arith, rules}
use Rattle.std.specs.Iterator.Runs.{IsWindowsRun}
use borrow.Author.Tests.{tests}
use Rattle.ledger.proofs.Joins.{windows_joined}
use Rattle.ledger.proofs.route.are_joined.Goals as goal

pub returns : goal.returns
returns g c =
    let net = g.N.Network.meaning c.args.network.now in
    let h = c.all.ensures.runs in
    let size = ap (λ s. s.size) h.1 ∙ c.windows.ensures.size in
    let rest = ap (λ s. s.rest.now) h.1 ∙ c.windows.ensures.rest in
    let windows : IsWindowsRun h.0 h.0.from.size h.0.from.rest.now = c.windows.ensures.runs h.0 h.0.seen (rw size (omega arith)) in
    windows_joined net c.args.arcs.now h.0 _ _ (rw (size, rest) at windows) (λ a r f' k. search (rules, tests)) (λ x b k. search (rules, tests)) c.all.result h.2

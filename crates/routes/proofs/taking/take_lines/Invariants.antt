-- The work goes on as it should, and each turn takes one line more of all there are.
use Rattle.std.proofs.Common.{◌≡◌, ℕ, ◌+◌, ◌-◌, length}
use Rattle.network.specs.Copies.{copy_meaning}
use Rattle.routes.specs.Partial.{partial_routes}
use Rattle.routes.proofs.Works.{Widening, Working}
use Rattle.routes.proofs.taking.take_lines.Given as goal

abbrev pub invariant-taking : goal.invariant-taking
invariant-taking g l = Working g.K.Kind.model (copy_meaning l.search.network.now) l.enquiry (length l.fn.notebook.lines.now) l.done l.notebook.used l.notebook.lines.now l.finished.items

abbrev pub decreases-taking : goal.decreases-taking
decreases-taking g l = length (partial_routes g.K.Kind.model (copy_meaning l.search.network.now) l.enquiry) - l.done

abbrev pub invariant-loop-number : goal.invariant-loop-number
invariant-loop-number g l =
    (k : ℕ) × (l.done ≡ k + 1)
    × Widening g.K.Kind.model (copy_meaning l.search.network.now) l.enquiry (length l.fn.notebook.lines.now) k l.number l.notebook.used l.notebook.lines.now l.finished.items l.line

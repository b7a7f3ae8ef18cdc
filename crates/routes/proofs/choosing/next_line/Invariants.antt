-- The best so far is the choice among the lines looked at.
use Rattle.routes.proofs.Chosen.{Best}
use Rattle.routes.proofs.choosing.next_line.Given as goal

abbrev pub invariant-loop-place : goal.invariant-loop-place
invariant-loop-place g l = Best (g.K.Kind.model l.kind) l.lines l.place l.best

-- The lesser of two widths.
use Rattle.length.proofs.standard.StandardKindKind.join.Goals as goal

pub returns-in-Width : goal.returns-in-Width
returns-in-Width c = rw c.in-Width.is c.min.ensures

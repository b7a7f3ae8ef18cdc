-- The first rows are written, and the others are as they were.
use Rattle.std.proofs.Common.{◌≡◌, ◌++◌, take, drop}
use Rattle.routes.specs.Rows.{rows_at}
use Rattle.routes.proofs.listing.list_rows.Given as goal

abbrev pub invariant-loop-row : goal.invariant-loop-row
invariant-loop-row g l = l.list ≡ take l.row (rows_at l.notebook l.places) ++ drop l.row l.initial.list

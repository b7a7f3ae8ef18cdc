-- The four totals that have limits.
use Rattle.std.specs.Prelude.{ℕ, List, [], ◌∷◌}
use Rattle.network.specs.Net.{Net}
use Rattle.length.specs.declared.standard.StandardKind.{StandardKind}
use Rattle.length.specs.declared.standard.StandardKind.TheVariants.{Delay, Jitter, Charge, Hops}
use Rattle.length.specs.Standard.{standard}
use Rattle.length.specs.Walks.{walk_length}
use Rattle.routes.specs.declared.enquiry.Limits.{Limits}

-- a kind of total, and the most that it may come to
abbrev pub Limit : Type 0
Limit = StandardKind × ℕ

abbrev pub limits_of : Limits → List Limit
limits_of l = (Delay, l.delay) ∷ (Jitter, l.jitter) ∷ (Charge, l.charge) ∷ (Hops, l.hops) ∷ []

-- the total of a row of arcs
abbrev pub total : Net → StandardKind → List ℕ → ℕ
total net kind arcs = walk_length (standard kind) net arcs

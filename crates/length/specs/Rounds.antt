-- How a table of least totals is filled: round after round, each arc is tried in turn. The contracts of the private steps
-- cite these; what the table means in the end is said in Least.
use Rattle.std.specs.Prelude.{ℕ, zero, suc, ◌<◌, Bool, true, cond, not, List, ◌++◌, drop, replicate, Some, None, fold, Option, nat_le, slice_index_or, slice_set}
use Rattle.std.specs.Option.{option_map}
use Rattle.network.specs.declared.arc.Arc.{Arc}
use Rattle.length.specs.Model.{Model}
use Rattle.length.specs.Least.{shorter}

-- the table before the first round: only the destination is reached, by the empty walk
abbrev pub first_table : {L : Type 0} → Model L → ℕ → ℕ → List (Option L) → List (Option L)
first_table m sites destination table = slice_set (replicate sites None ++ drop sites table) destination (Some m.empty)

-- an arc begins and ends within the places of a table
abbrev pub EndsWithin : ℕ → Arc → Type 0
EndsWithin places arc = (arc.from < places) × (arc.to < places)

-- a length is shorter than what stands in a table
abbrev pub shortens : {L : Type 0} → Model L → Option L → L → Bool
shortens m None x = true
shortens m (Some old) x = not (m.no_longer old x)

module _ {L : Type 0} (m : Model L) (width : ℕ) where
  -- an arc tried: the way over it is entered at its beginning where that is shorter, if the arc has room for the width
  abbrev pub tried : Arc → List (Option L) → List (Option L)
  tried arc table =
      cond (nat_le width arc.capacity)
      (slice_set table arc.from (shorter m (slice_index_or table arc.from None) (option_map (m.join (m.arc arc)) (slice_index_or table arc.to None))))
      table

  -- the arcs of a row tried in order
  abbrev pub all_tried : List Arc → List (Option L) → List (Option L)
  all_tried arcs table = fold (λ t arc. tried arc t) table arcs

  -- so many rounds
  abbrev pub rounds : List Arc → ℕ → List (Option L) → List (Option L)
  rounds arcs zero table = table
  rounds arcs (suc k) table = rounds arcs k (all_tried arcs table)

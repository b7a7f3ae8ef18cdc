-- The rows of a list, from the lines of the routes.
use Rattle.std.specs.Prelude.{ℕ, ◌-◌, ◌<◌, List, ◌++◌, map, length, replicate, Some, None, slice_index}
use Rattle.std.specs.List.{slice_get}
use Rattle.routes.specs.declared.enquiry.RouteRow.{RouteRow}
use Rattle.routes.specs.declared.line.Line.{Line}

-- the row of a line
abbrev pub row_on : {L : Type 0} → Line L → RouteRow
row_on line =
    record {
      count = length line.arcs;
      arcs = line.arcs ++ replicate (15 - length line.arcs) 0;
      delay = line.totals.delay;
      jitter = line.totals.jitter;
      charge = line.totals.charge;
    }

abbrev pub no_row : RouteRow
no_row = record { count = 0; arcs = replicate 15 0; delay = 0; jitter = 0; charge = 0 }

-- the row of the line at a place
abbrev pub row_at : {L : Type 0} → List (Line L) → ℕ → RouteRow
row_at notebook place = elim (slice_get notebook place) [ None ↦ no_row | Some line ↦ row_on line ]

-- the rows of the lines at places
abbrev pub rows_at : {L : Type 0} → List (Line L) → List ℕ → List RouteRow
rows_at notebook places = map (row_at notebook) places

-- each of the places is inside the notebook
abbrev pub PlacesInside : {L : Type 0} → List (Line L) → List ℕ → Type 0
PlacesInside notebook places = (j : ℕ) → j < length places → slice_index places j < length notebook

-- What a table means as a network.
use Rattle.std.specs.Prelude.{ℕ, List, [], ◌∷◌, ◌++◌, vec_items, slice_index}
use Rattle.network.specs.declared.arc.Arc.{Arc}
use Rattle.network.specs.Net.{Net}
use Rattle.pathcomputer.specs.declared.table.Table.{Table}

abbrev pub table_meaning : Table → Net
table_meaning t = record { sites = t.sites; arcs = vec_items t.arcs }

-- a network with one arc more
abbrev pub with_arc : Arc → Net → Net
with_arc arc net = record { sites = net.sites; arcs = net.arcs ++ arc ∷ [] }

-- the arc that seven figures give, in the order of a line
abbrev pub arc_from : List ℕ → Arc
arc_from figures =
    record {
      from = slice_index figures 0;
      to = slice_index figures 1;
      weight = slice_index figures 2;
      delay = slice_index figures 3;
      jitter = slice_index figures 4;
      charge = slice_index figures 5;
      capacity = slice_index figures 6;
    }

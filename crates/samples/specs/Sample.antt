-- The sample network of four sites and six arcs, and the enquiries that are made of it.
use Rattle.std.specs.Prelude.{ℕ, List, [], ◌∷◌, replicate, None, Option}
use Rattle.network.specs.declared.arc.Arc.{Arc}
use Rattle.network.specs.Net.{Net}
use Rattle.length.specs.declared.standard.StandardKind.{StandardKind}
use Rattle.routes.specs.declared.enquiry.RouteRow.{RouteRow}
use Rattle.routes.specs.Enquire.{Brought, Tables}

abbrev pub arc : ℕ → ℕ → ℕ → ℕ → ℕ → ℕ → ℕ → Arc
arc a b w d j c room = record { from = a; to = b; weight = w; delay = d; jitter = j; charge = c; capacity = room }

--        from to weight delay jitter charge capacity
abbrev pub sample : Net
sample =
    record {
      sites = 4;
      arcs =
          arc 0 1 2 3 1 5 10
          ∷ arc 0 2 4 1 1 2 10
          ∷ arc 1 3 2 6 2 5 4
          ∷ arc 2 3 1 1 1 2 10
          ∷ arc 1 2 1 1 1 1 10
          ∷ arc 2 1 1 1 1 1 10
          ∷ [];
    }

abbrev pub blank_row : RouteRow
blank_row = record { count = 0; arcs = replicate 15 0; delay = 0; jitter = 0; charge = 0 }

abbrev pub blank_table : List (Option ℕ)
blank_table = replicate 4 None

abbrev pub blank_tables : Tables ℕ
blank_tables =
    record { by_kind = blank_table; by_delay = blank_table; by_jitter = blank_table; by_charge = blank_table; by_hops = blank_table }

-- from site 0 to site 3 at width 1, with jitter at most 10, charge at most 20 and at most 15 hops: by a kind, with delay at
-- most a number, so many routes wanted, and a notebook of so many lines
abbrev pub ask : StandardKind → ℕ → ℕ → ℕ → Brought StandardKind ℕ
ask kind delay wanted lines =
    record {
      enquiry =
          record {
            source = 0;
            destination = 3;
            width = 1;
            limits = record { delay = delay; jitter = 10; charge = 20; hops = 15 };
            wanted = wanted;
            kind = kind;
          };
      tables = blank_tables;
      list = replicate wanted blank_row;
      notebook = lines;
    }

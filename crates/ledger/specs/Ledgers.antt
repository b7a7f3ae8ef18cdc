-- What a ledger comes to: its tally, and the network that it shows.
use Rattle.std.specs.Prelude.{ℕ, not, List, map, filter, slice_index_or}
use Rattle.std.specs.List.{filter_map}
use Rattle.network.specs.Net.{Net}
use Rattle.ledger.specs.declared.ledger.Ledger.{Ledger}
use Rattle.ledger.specs.Rows.{entries_of, no_use, row_entry}
use Rattle.ledger.specs.Tally.{Tally, free_net}

abbrev pub ledger_tally : {N : Type 0} → Ledger N → Tally
ledger_tally l = record { marked = λ i. (slice_index_or l.arcs i no_use).closed; given = l.given; entries = entries_of l.rows }

-- what a ledger over networks of a meaning means
abbrev pub ledger_meaning : {N : Type 0} → (N → Net) → Ledger N → Net
ledger_meaning meaning l = free_net (meaning l.network) (ledger_tally l)

-- the network that a ledger lies over
abbrev pub network_below : {N : Type 0} → Ledger N → N
network_below l = l.network

-- the tickets in the held rows of a ledger, row by row
abbrev pub tickets_held : {N : Type 0} → Ledger N → List ℕ
tickets_held l = map (λ x. x.ticket) (filter (λ x. not x.booked) (filter_map row_entry l.rows))

-- The rows of a ledger: what a call makes of one, and the entries that they stand for.
use Rattle.std.specs.Prelude.{◌≡◌, ℕ, ◌<◌, ◌≤◌, Bool, true, false, cond, ◌&&◌, List, length, Some, None, Option, is_some, sum_by, count_by, ◌==◌, nat_le, nat_lt, slice_index_or}
use Rattle.std.specs.List.{filter_map}
use Rattle.std.specs.Option.{option_map_or}
use Rattle.network.specs.Lists.{distinct, sort}
use Rattle.ledger.specs.declared.row.Circuit.{Circuit}
use Rattle.ledger.specs.declared.row.Row.{Row}
use Rattle.ledger.specs.declared.row.Row.TheVariants.{Empty, Held, Booked}
use Rattle.ledger.specs.declared.row.RowCall.{RowCall}
use Rattle.ledger.specs.declared.row.RowCall.TheVariants.{Hold, Confirm, LetGo, End}
use Rattle.ledger.specs.declared.arcs.ArcUse.{ArcUse}
use Rattle.ledger.specs.Tally.{Entry, Tally, confirm_next, is_booked, is_held, is_through, strike_next}

-- the circuit in a row in use
abbrev pub circuit_in : Row → Option Circuit
circuit_in Empty = None
circuit_in (Held circuit) = Some circuit
circuit_in (Booked circuit) = Some circuit

-- What a call makes of a row

-- the row after a call, where the row allows the call
abbrev pub row_next : Row → RowCall → Option Row
row_next Empty (Hold circuit) = Some (Held circuit)
row_next (Held circuit) Confirm = Some (Booked circuit)
row_next (Held circuit) LetGo = Some Empty
row_next (Booked circuit) End = Some Empty
row_next _ _ = None

-- The entries that rows stand for

abbrev pub entry_of : Bool → Circuit → Entry
entry_of booked circuit = record { ticket = circuit.ticket; width = circuit.width; arcs = circuit.arcs; booked = booked }

-- none for an empty row
abbrev pub row_entry : Row → Option Entry
row_entry Empty = None
row_entry (Held circuit) = Some (entry_of false circuit)
row_entry (Booked circuit) = Some (entry_of true circuit)

abbrev pub earlier : Entry → Entry → Bool
earlier x y = nat_le x.ticket y.ticket

-- in the order of their tickets
abbrev pub entries_of : List Row → List Entry
entries_of rows = sort earlier (filter_map row_entry rows)

-- the row is held or booked
abbrev pub in_use : Row → Bool
in_use row = is_some (row_entry row)

-- the row is in use, and its entry passes the test
abbrev pub row_test : (Entry → Bool) → Row → Bool
row_test test row = option_map_or test (row_entry row) false

abbrev pub has_ticket : ℕ → Row → Bool
has_ticket ticket = row_test (λ x. x.ticket == ticket)

-- What a call asks of the tally

-- the entry has the ticket, and the call may be put to it
abbrev pub asked : RowCall → ℕ → Entry → Bool
asked (Hold circuit) ticket = λ _. false
asked Confirm ticket = is_held ticket
asked LetGo ticket = is_held ticket
asked End ticket = is_booked ticket

-- the tally after a call that is allowed
abbrev pub asked_next : RowCall → Tally → ℕ → Tally
asked_next (Hold circuit) t ticket = t
asked_next Confirm t ticket = confirm_next t ticket
asked_next LetGo t ticket = strike_next t ticket
asked_next End t ticket = strike_next t ticket

-- What holds of the rows of every ledger

-- the width that an entry takes on an arc
abbrev pub share : ℕ → Entry → ℕ
share arc x = cond (is_through arc x) x.width 0

-- the width that a row takes on an arc
abbrev pub width_on : ℕ → Row → ℕ
width_on arc row = option_map_or (share arc) (row_entry row) 0

-- a circuit has a width and 1 to 15 arcs, none twice
abbrev pub circuit_fits : ℕ → List ℕ → Bool
circuit_fits width arcs = nat_lt 0 width && (nat_lt 0 (length arcs) && (nat_le (length arcs) 15 && distinct arcs))

-- an entry has one of the tickets that were given, from 1 on, and a circuit
abbrev pub entry_fits : ℕ → Entry → Bool
entry_fits given x = nat_lt 0 x.ticket && (nat_le x.ticket given && circuit_fits x.width x.arcs)

abbrev pub fits : ℕ → Row → Bool
fits given row = option_map_or (entry_fits given) (row_entry row) true

-- no ticket stands in two rows
abbrev pub OneRowEach : List Row → Type 0
OneRowEach rows = (ticket : ℕ) → count_by (has_ticket ticket) rows ≤ 1

-- for where there is no arc
abbrev pub no_use : ArcUse
no_use = record { closed = false; sold = 0 }

-- what is sold on each arc is what the rows take on it
abbrev pub SoldIs : List ArcUse → List Row → Type 0
SoldIs arcs rows = (arc : ℕ) → arc < 256 → (slice_index_or arcs arc no_use).sold ≡ sum_by (width_on arc) rows

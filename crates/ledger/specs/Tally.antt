-- The tally of a ledger: what the calls so far come to. It is fed what the calls bring, and
-- nothing that a ledger holds.
use Rattle.std.specs.Prelude.{ℕ, ◌+◌, ◌-◌, Bool, true, false, cond, not, ◌&&◌, ◌||◌, List, [], ◌∷◌, ◌++◌, map, length, Some, None, sum_by, filter, Option, ◌==◌, nat_le, nat_lt}
use Rattle.std.specs.List.{range_with_len}
use Rattle.network.specs.Lists.{any_of, among, distinct}
use Rattle.network.specs.Checks.{Told, refusal, first_failed}
use Rattle.network.specs.Net.{Net, arc_count, arc_at, with_capacity}
use Rattle.length.specs.Walks.{arcs_outside, no_such_arc, sites_along}

-- an entry is held until it is booked
pub record Entry : Type 0 where
  pub ticket : ℕ
  pub width : ℕ
  pub arcs : List ℕ
  pub booked : Bool

-- which arcs are marked closed, the number of tickets given, and the entries in the order of their tickets
pub record Tally : Type 0 where
  pub marked : ℕ → Bool
  pub given : ℕ
  pub entries : List Entry

abbrev pub opened : Tally
opened = record { marked = λ i. false; given = 0; entries = [] }

-- Free capacity

abbrev pub is_through : ℕ → Entry → Bool
is_through i x = among i x.arcs

abbrev pub taken_on : Tally → ℕ → ℕ
taken_on t i = sum_by (λ x. x.width) (filter (is_through i) t.entries)

abbrev pub free_on : Net → Tally → ℕ → ℕ
free_on net t i = cond (t.marked i) 0 ((arc_at net i).capacity - taken_on t i)

-- a network whose capacities are given arc by arc
abbrev pub with_free : Net → (ℕ → ℕ) → Net
with_free net free =
    record { sites = net.sites; arcs = map (λ i. with_capacity (free i) (arc_at net i)) (range_with_len 0 (arc_count net)) }

-- the network as a ledger shows it
abbrev pub free_net : Net → Tally → Net
free_net net t = with_free net (free_on net t)

-- The checks of each call

-- each arc begins where the one before it ends
abbrev pub is_joined : Net → List ℕ → Bool
is_joined net [] = true
is_joined net (i ∷ []) = true
is_joined net (i ∷ (j ∷ is)) = (arc_at net i).to == (arc_at net j).from && is_joined net (j ∷ is)

-- the sites that a row of arcs meets, from the beginning of the first on
abbrev pub sites_met : Net → List ℕ → List ℕ
sites_met net [] = []
sites_met net (i ∷ is) = sites_along net (arc_at net i).from (i ∷ is)

-- how many rows a ledger has, and the last ticket that it gives
abbrev pub row_count : ℕ
row_count = 64

abbrev pub last_ticket : ℕ
last_ticket = 4294967295

abbrev pub hold_refusal : Net → Tally → ℕ → List ℕ → Option Told
hold_refusal net t width arcs =
    first_failed
    (((width == 0), refusal 30)
    ∷ (arcs_outside arcs, refusal 31)
    ∷ (no_such_arc net arcs, refusal 32)
    ∷ (not (is_joined net arcs), refusal 33)
    ∷ (not (distinct (sites_met net arcs)), refusal 34)
    ∷ (any_of (λ i. nat_lt (free_on net t i) width) arcs, refusal 35)
    ∷ (nat_le row_count (length t.entries), refusal 36)
    ∷ (nat_le last_ticket t.given, refusal 37)
    ∷ [])

abbrev pub is_held : ℕ → Entry → Bool
is_held ticket x = x.ticket == ticket && not x.booked

abbrev pub is_booked : ℕ → Entry → Bool
is_booked ticket x = x.ticket == ticket && x.booked

-- of confirm and of let go
abbrev pub slip_refusal : Tally → ℕ → Option Told
slip_refusal t ticket = first_failed ((not (any_of (is_held ticket) t.entries), refusal 40) ∷ [])

abbrev pub end_refusal : Tally → ℕ → Option Told
end_refusal t ticket = first_failed ((not (any_of (is_booked ticket) t.entries), refusal 41) ∷ [])

abbrev pub close_refusal : Net → Tally → ℕ → Option Told
close_refusal net t i =
    first_failed
    ((nat_le (arc_count net) i, refusal 42)
    ∷ (t.marked i, refusal 43)
    ∷ (any_of (is_through i) t.entries, refusal 44)
    ∷ [])

abbrev pub reopen_refusal : Net → Tally → ℕ → Option Told
reopen_refusal net t i =
    first_failed
    ((nat_le (arc_count net) i, refusal 42)
    ∷ (not (t.marked i), refusal 45)
    ∷ [])

-- What each granted call makes of the tally

abbrev pub next_ticket : Tally → ℕ
next_ticket t = t.given + 1

abbrev pub hold_next : Tally → ℕ → List ℕ → Tally
hold_next t width arcs =
    record {
      marked = t.marked;
      given = next_ticket t;
      entries = t.entries ++ (record { ticket = next_ticket t; width = width; arcs = arcs; booked = false } ∷ []);
    }

abbrev pub book : ℕ → Entry → Entry
book ticket x = record { ticket = x.ticket; width = x.width; arcs = x.arcs; booked = x.ticket == ticket || x.booked }

abbrev pub confirm_next : Tally → ℕ → Tally
confirm_next t ticket = record { marked = t.marked; given = t.given; entries = map (book ticket) t.entries }

-- of let go and of end
abbrev pub strike_next : Tally → ℕ → Tally
strike_next t ticket =
    record { marked = t.marked; given = t.given; entries = filter (λ x. not (x.ticket == ticket)) t.entries }

abbrev pub close_next : Tally → ℕ → Tally
close_next t i = record { marked = λ j. (j == i) || t.marked j; given = t.given; entries = t.entries }

abbrev pub reopen_next : Tally → ℕ → Tally
reopen_next t i = record { marked = λ j. not (j == i) && t.marked j; given = t.given; entries = t.entries }

-- the tally after a call: the next one if no check failed, else as it was
abbrev pub unless_refused : Option Told → Tally → Tally → Tally
unless_refused None next t = next
unless_refused (Some r) next t = t

-- the tickets of the entries that are held
abbrev pub held_tickets : Tally → List ℕ
held_tickets t = map (λ x. x.ticket) (filter (λ x. not x.booked) t.entries)

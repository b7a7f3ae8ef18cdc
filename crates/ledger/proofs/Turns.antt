-- Lemmas on one row that turns booked or empty: what holds of every ledger's rows holds again, and what the entries become.
use Rattle.std.proofs.Common.{◌≡◌, ℕ, ◌-◌, ◌<◌, ◌≤◌, Bool, true, false, cond, not, ◌&&◌, eqb, ltb, ◌⊎◌, List, [], ◌∷◌, length, get_or, set, Some, None, Option, is_some, unwrap_or, position, sum_by, sym, refl, ap, ◌∙◌, inl, inr, arith}
use native.Mathlib.Nat.{sub-zero}
use Rattle.std.specs.List.{position_or_len}
use Rattle.std.specs.Option.{option_map_or}
use Rattle.std.proofs.lemmas.List.{get_or_default, set-get_or}
use Rattle.std.proofs.lemmas.List.Quantifiers.{position-Some}
use Rattle.std.proofs.lemmas.List.Sums.{fails_before_first, get_or-le-sum_by, sum_by-set}
use Rattle.std.proofs.lemmas.Bool.{and_from, and_parts, both_ways, false≢true, ltb-false, not-false, or_parts}
use Rattle.network.specs.Lists.{all_of, among, any_of}
use Rattle.ledger.specs.declared.arcs.ArcUse.{ArcUse}
use Rattle.ledger.specs.declared.ledger.Ledger.{Ledger}
use Rattle.ledger.specs.declared.row.Circuit.{Circuit}
use Rattle.ledger.specs.declared.row.Row.{Row}
use Rattle.ledger.specs.declared.row.Row.TheVariants.{Empty, Held, Booked}
use Rattle.ledger.specs.declared.row.RowCall.{RowCall}
use Rattle.ledger.specs.declared.row.RowCall.TheVariants.{Hold, Confirm, LetGo, End}
use Rattle.ledger.specs.Rows.{OneRowEach, SoldIs, asked, asked_next, circuit_in, entries_of, entry_fits, entry_of, fits, has_ticket, in_use, row_next, row_test, share, width_on}
use Rattle.ledger.specs.Ledgers.{ledger_tally}
use Rattle.ledger.specs.Tally.{Entry, Tally, confirm_next, strike_next}
use Rattle.ledger.proofs.Marks.{same_marks, tally_of}
use Rattle.ledger.proofs.Selling.{use_at}
use Rattle.ledger.proofs.Standing.{EntryFits, book_entries, entry_says, none_passes, one_passes, strike_entries}
use Rattle.ledger.proofs.Tests.{all_at, all_put, any_none}

-- what a call makes of a row of a ticket that allows it

abbrev pub Turned : ℕ → Row → RowCall → Row → Type 0
Turned ticket old call next =
    ((c : Circuit) × (old ≡ Held c) × (eqb c.ticket ticket ≡ true) × (call ≡ Confirm) × (next ≡ Booked c))
    ⊎ ((next ≡ Empty) × ((t : Tally) → asked_next call t ticket ≡ strike_next t ticket))

pub turned : (ticket : ℕ) (old : Row) (call : RowCall) (next : Row) → has_ticket ticket old ≡ true → is_some (row_next old call) ≡ true → next ≡ unwrap_or (row_next old call) old → Turned ticket old call next
turned ticket Empty call next h some e = absurd (false≢true h)
turned ticket (Held c) (Hold d) next h some e = absurd (false≢true some)
turned ticket (Held c) Confirm next h some e = inl (c, refl, h, refl, e)
turned ticket (Held c) LetGo next h some e = inr (e, λ t. refl)
turned ticket (Held c) End next h some e = absurd (false≢true some)
turned ticket (Booked c) (Hold d) next h some e = absurd (false≢true some)
turned ticket (Booked c) Confirm next h some e = absurd (false≢true some)
turned ticket (Booked c) LetGo next h some e = absurd (false≢true some)
turned ticket (Booked c) End next h some e = inr (e, λ t. refl)

-- the row of a ticket allows a call where its entry is one that allows it
allowed_is : (ticket : ℕ) (old : Row) (call : RowCall) → has_ticket ticket old ≡ true → is_some (row_next old call) ≡ row_test (asked call ticket) old
allowed_is ticket Empty call h = absurd (false≢true h)
allowed_is ticket (Held c) (Hold d) h = refl
allowed_is ticket (Held c) Confirm h = sym (ap (λ b. b && true) h)
allowed_is ticket (Held c) LetGo h = sym (ap (λ b. b && true) h)
allowed_is ticket (Held c) End h = sym (ap (λ b. b && false) h)
allowed_is ticket (Booked c) (Hold d) h = refl
allowed_is ticket (Booked c) Confirm h = sym (ap (λ b. b && false) h)
allowed_is ticket (Booked c) LetGo h = sym (ap (λ b. b && false) h)
allowed_is ticket (Booked c) End h = sym (ap (λ b. b && true) h)

-- a row that does not allow a call stays as it is
pub row_kept : (old : Row) (call : RowCall) → is_some (row_next old call) ≡ false → unwrap_or (row_next old call) old ≡ old
row_kept old call h = go (row_next old call) h
  where
    go : (o : Option Row) → is_some o ≡ false → unwrap_or o old ≡ old
    go None h = refl
    go (Some r) h = absurd (both_ways _ h refl)

-- a row of a ticket has a circuit
pub circuit_none : (ticket : ℕ) (row : Row) → None ≡ circuit_in row → has_ticket ticket row ≡ true → ⊥
circuit_none ticket Empty e h = false≢true h
circuit_none ticket (Held c) e h = cc
circuit_none ticket (Booked c) e h = cc

asked_like : (call : RowCall) (ticket : ℕ) (x : Entry) → asked call ticket x ≡ true → eqb x.ticket ticket ≡ true
asked_like (Hold d) ticket x h = absurd (false≢true h)
asked_like Confirm ticket x h = (and_parts _ _ h).0
asked_like LetGo ticket x h = (and_parts _ _ h).0
asked_like End ticket x h = (and_parts _ _ h).0

pub none_asked : (ticket : ℕ) (call : RowCall) (rows : List Row) → any_of (has_ticket ticket) rows ≡ false → any_of (asked call ticket) (entries_of rows) ≡ false
none_asked ticket call rows h = none_passes ticket (asked call ticket) (asked_like call ticket) rows h

pub none_of : {A : Type 0} (test : A → Bool) (xs : List A) (d : A) → None ≡ position test xs → any_of test xs ≡ false
none_of test xs d e = go (ltb (position_or_len test xs) (length xs)) refl e
  where
    go : (b : Bool) → ltb (position_or_len test xs) (length xs) ≡ b → None ≡ cond b (Some (position_or_len test xs)) None → any_of test xs ≡ false
    go true t e = cc
    go false t e = any_none test xs d (λ k l. fails_before_first test xs k d (omega (arith, ltb-false (position_or_len test xs) (length xs) t)))

-- where no row is found that is empty, all are in use
pub full_of : (rows : List Row) → None ≡ position (λ row. not (in_use row)) rows → all_of in_use rows ≡ true
full_of rows e = go rows (none_of (λ row. not (in_use row)) rows Empty e)
  where
    go : (rows : List Row) → any_of (λ row. not (in_use row)) rows ≡ false → all_of in_use rows ≡ true
    go [] h = refl
    go (r ∷ rs) h = let parts = or_parts (not (in_use r)) (any_of (λ row. not (in_use row)) rs) h in and_from _ _ (not-false (in_use r) parts.0) (go rs parts.1)

-- what is known of a row in use by its circuit
circuit_fits_in : (given : ℕ) (row : Row) → fits given row ≡ option_map_or (λ c. entry_fits given (entry_of false c)) (circuit_in row) true
circuit_fits_in given Empty = refl
circuit_fits_in given (Held c) = refl
circuit_fits_in given (Booked c) = refl

circuit_width_in : (arc : ℕ) (row : Row) → width_on arc row ≡ option_map_or (λ c. share arc (entry_of false c)) (circuit_in row) 0
circuit_width_in arc Empty = refl
circuit_width_in arc (Held c) = refl
circuit_width_in arc (Booked c) = refl

-- the tally of a ledger with other rows, and so many tickets given
abbrev pub tally_with : {N : Type 0} → Ledger N → ℕ → List Row → Tally
tally_with l given rows = tally_of (λ i. (use_at l.arcs i).closed) given (entries_of rows)

-- what holds of a ledger's rows
pub record Stand (given : ℕ) (arcs : List ArcUse) (rows : List Row) : Type 0 where
  pub one_row_each : OneRowEach rows
  pub rows_fit : all_of (fits given) rows ≡ true
  pub sold_is : SoldIs arcs rows

-- a row at place k is the row of a ticket
pub record Found (rows : List Row) (ticket k : ℕ) (row : Row) : Type 0 where
  pub room : k < length rows
  pub is : row ≡ get_or rows k Empty
  pub of_ticket : has_ticket ticket row ≡ true

pub found_at : (rows : List Row) (ticket k : ℕ) (r : Row) → Some k ≡ position (has_ticket ticket) rows → Found rows ticket k (get_or rows k r)
found_at rows ticket k r e =
    let first = position-Some (has_ticket ticket) rows k r (sym e) in
    record { room = first.0; is = get_or_default rows k r Empty first.0; of_ticket = first.1 }

module _ {N : Type 0} (l : Ledger N) (ticket k : ℕ) (old : Row) (found : Found l.rows ticket k old) where
  at_empty : has_ticket ticket (get_or l.rows k Empty) ≡ true
  at_empty = ap (has_ticket ticket) (sym found.is) ∙ found.of_ticket

  pub one_asked : (call : RowCall) → any_of (asked call ticket) (entries_of l.rows) ≡ is_some (row_next old call)
  one_asked call = one_passes ticket (asked call ticket) (asked_like call ticket) l.rows k found.room at_empty (l.one_row_each ticket) ∙ (ap (row_test (asked call ticket)) (sym found.is) ∙ sym (allowed_is ticket old call found.of_ticket))

  -- it stays as it is
  pub kept_stand : (next : Row) → next ≡ old → Stand l.given l.arcs (set l.rows k next)
  kept_stand next e = rw (e, found.is, set-get_or l.rows k Empty) (record { one_row_each = l.one_row_each; rows_fit = l.rows_fit; sold_is = l.sold_is })

  pub kept_tally : (next : Row) → next ≡ old → tally_with l l.given (set l.rows k next) ≡ ledger_tally l
  kept_tally next e = ap (tally_with l l.given) (ap (set l.rows k) (e ∙ found.is) ∙ set-get_or l.rows k Empty)

  -- it turns booked
  module _ (c : Circuit) (held : old ≡ Held c) where
    same_sum : (value : Row → ℕ) → value (Booked c) ≡ value (Held c) → sum_by value (set l.rows k (Booked c)) ≡ sum_by value l.rows
    same_sum value e = let was = ap value (sym found.is ∙ held) in omega (arith, sum_by-set value l.rows k (Booked c) Empty found.room)

    booked_one : OneRowEach (set l.rows k (Booked c))
    booked_one t = omega (arith, same_sum (λ r. cond (has_ticket t r) 1 0) refl, l.one_row_each t)

    booked_stand : Stand l.given l.arcs (set l.rows k (Booked c))
    booked_stand =
        record {
          one_row_each = booked_one;
          rows_fit = all_put (fits l.given) l.rows k (Booked c) (ap (fits l.given) (sym held ∙ found.is) ∙ all_at (fits l.given) l.rows Empty k found.room l.rows_fit) l.rows_fit;
          sold_is = λ arc la. l.sold_is arc la ∙ sym (same_sum (width_on arc) refl);
        }

    booked_tally : tally_with l l.given (set l.rows k (Booked c)) ≡ confirm_next (ledger_tally l) ticket
    booked_tally = ap (tally_of (λ i. (use_at l.arcs i).closed) l.given) (sym (book_entries ticket c (sym (ap (has_ticket ticket) held) ∙ found.of_ticket) l.rows k found.room (sym found.is ∙ held) (l.one_row_each ticket)))

  -- it turns empty
  emptied_one : OneRowEach (set l.rows k Empty)
  emptied_one t = omega (arith, sum_by-set (λ r. cond (has_ticket t r) 1 0) l.rows k Empty Empty found.room, l.one_row_each t)

  taken_sold : (arc : ℕ) → arc < 256 → width_on arc old ≤ (use_at l.arcs arc).sold
  taken_sold arc la = omega (arith, ap (width_on arc) found.is, get_or-le-sum_by (width_on arc) l.rows k Empty found.room, l.sold_is arc la)

  emptied_stand : (less : List ArcUse) → ((arc : ℕ) → arc < 256 → (use_at less arc).sold ≡ (use_at l.arcs arc).sold - width_on arc old) → Stand l.given less (set l.rows k Empty)
  emptied_stand less h =
      record {
        one_row_each = emptied_one;
        rows_fit = all_put (fits l.given) l.rows k Empty refl l.rows_fit;
        sold_is = λ arc la. omega (arith, h arc la, ap (width_on arc) found.is, l.sold_is arc la, sum_by-set (width_on arc) l.rows k Empty Empty found.room);
      }

  emptied_tally : (less : List ArcUse) → ((arc : ℕ) → (use_at less arc).closed ≡ (use_at l.arcs arc).closed) → tally_of (λ i. (use_at less i).closed) l.given (entries_of (set l.rows k Empty)) ≡ strike_next (ledger_tally l) ticket
  emptied_tally less same =
      same_marks _ _ l.given (entries_of (set l.rows k Empty)) same ∙ ap (tally_of (λ i. (use_at l.arcs i).closed) l.given) (sym (strike_entries ticket l.rows k found.room at_empty (l.one_row_each ticket)))

  -- what is known of the circuit in it
  pub circuit_stands : (c : Circuit) → Some c ≡ circuit_in old → EntryFits l.given (entry_of false c)
  circuit_stands c e = entry_says l.given (entry_of false c) (ap (λ o. option_map_or (λ c. entry_fits l.given (entry_of false c)) o true) e ∙ (sym (circuit_fits_in l.given old) ∙ (ap (fits l.given) found.is ∙ all_at (fits l.given) l.rows Empty k found.room l.rows_fit)))

  pub circuit_sold : (c : Circuit) → Some c ≡ circuit_in old → (arc : ℕ) → arc < 256 → among arc c.arcs ≡ true → c.width ≤ (use_at l.arcs arc).sold
  circuit_sold c e arc la m =
      let whole : width_on arc old ≡ c.width = circuit_width_in arc old ∙ (ap (λ o. option_map_or (λ c. share arc (entry_of false c)) o 0) (sym e) ∙ ap (λ b. cond b c.width 0) m) in
      omega (arith, whole, taken_sold arc la)

  -- the ledger after a call that the row allows and that leaves it in use, and after one that empties it
  pub turn_booked : (call : RowCall) (next : Row) → is_some (row_next old call) ≡ true → next ≡ unwrap_or (row_next old call) old → in_use next ≡ true
      → Stand l.given l.arcs (set l.rows k next) × (tally_with l l.given (set l.rows k next) ≡ asked_next call (ledger_tally l) ticket)
  turn_booked call next some e used =
      elim (turned ticket old call next found.of_ticket some e) [
        | inl b ↦ (rw b.4 (booked_stand b.0 b.1), ap (λ r. tally_with l l.given (set l.rows k r)) b.4 ∙ (booked_tally b.0 b.1 ∙ ap (λ call. asked_next call (ledger_tally l) ticket) (sym b.3)))
        | inr z ↦ absurd (both_ways _ (ap in_use z.0) used)
      ]

  module _ (call : RowCall) (next : Row) (some : is_some (row_next old call) ≡ true) (e : next ≡ unwrap_or (row_next old call) old) (unused : in_use next ≡ false)
      (c : Circuit) (there : Some c ≡ circuit_in old) (less : List ArcUse)
      (changed : (arc : ℕ) → arc < 256 → among arc c.arcs ≡ true → (use_at less arc).sold ≡ (use_at l.arcs arc).sold - c.width)
      (others : (arc : ℕ) → among arc c.arcs ≡ false → use_at less arc ≡ use_at l.arcs arc) (closed : (arc : ℕ) → (use_at less arc).closed ≡ (use_at l.arcs arc).closed) where
    less_sold : (arc : ℕ) → arc < 256 → (use_at less arc).sold ≡ (use_at l.arcs arc).sold - width_on arc old
    less_sold arc la = go (among arc c.arcs) refl ∙ ap (λ n. (use_at l.arcs arc).sold - n) (ap (λ o. option_map_or (λ c. share arc (entry_of false c)) o 0) there ∙ sym (circuit_width_in arc old))
      where
        go : (b : Bool) → among arc c.arcs ≡ b → (use_at less arc).sold ≡ (use_at l.arcs arc).sold - cond (among arc c.arcs) c.width 0
        go true m = changed arc la m ∙ ap (λ b. (use_at l.arcs arc).sold - cond b c.width 0) (sym m)
        go false m = ap (λ u. u.sold) (others arc m) ∙ (sym (sub-zero (use_at l.arcs arc).sold) ∙ ap (λ b. (use_at l.arcs arc).sold - cond b c.width 0) (sym m))

    pub turn_emptied : Stand l.given less (set l.rows k next) × (tally_of (λ i. (use_at less i).closed) l.given (entries_of (set l.rows k next)) ≡ asked_next call (ledger_tally l) ticket)
    turn_emptied =
        elim (turned ticket old call next found.of_ticket some e) [
          | inl b ↦ absurd (both_ways _ unused (ap in_use b.4))
          | inr z ↦ (rw z.0 (emptied_stand less less_sold), ap (λ r. tally_of (λ i. (use_at less i).closed) l.given (entries_of (set l.rows k r))) z.0 ∙ (emptied_tally less closed ∙ sym (z.1 (ledger_tally l))))
        ]

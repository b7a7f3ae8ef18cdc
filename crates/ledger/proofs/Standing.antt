-- Lemmas on the rows of a ledger and the entries that they stand for: what a change of one row makes of the entries.
use Rattle.std.proofs.Common.{◌≡◌, ℕ, zero, suc, ◌+◌, ◌<◌, ◌≤◌, Bool, true, false, cond, not, ◌&&◌, ◌||◌, eqb, ltb, leb, List, [], ◌∷◌, ◌++◌, map, length, get_or, set, Some, None, Option, is_some, sum_by, count_by, filter, sym, refl, ap, ◌∙◌, arith}
use mathlib.Core.Bool.{or-false}
use Rattle.std.specs.List.{cons_option, filter_map}
use Rattle.std.specs.Option.{option_map_or}
use Rattle.std.proofs.lemmas.List.{length-set}
use Rattle.std.proofs.lemmas.List.Sums.{count_by-le-length, get_or-le-sum_by, sum_by-cons, sum_by-set}
use Rattle.std.proofs.lemmas.Bool.{and_from, and_parts, both_ways, le-leb, leb-true, lt-ltb, ltb-true, or_from, or_parts}
use Rattle.network.specs.Lists.{all_of, any_of, distinct, insert, sort}
use Rattle.ledger.specs.declared.row.Circuit.{Circuit}
use Rattle.ledger.specs.declared.row.Row.{Row}
use Rattle.ledger.specs.declared.row.Row.TheVariants.{Empty, Held, Booked}
use Rattle.ledger.specs.Rows.{circuit_fits, earlier, entries_of, entry_fits, entry_of, fits, has_ticket, in_use, row_entry, row_test, share, width_on}
use Rattle.ledger.specs.Tally.{Entry, book, is_through}
use Rattle.ledger.proofs.Sorting.{any_sort, all_sort, before, book_sort, insert_before_last, insert_last, kept_sort, kept_sum_sort, length_sort}

-- the entries in the order of the rows
abbrev pub unsorted : List Row → List Entry
unsorted rows = filter_map row_entry rows

-- what is known of an entry
pub record EntryFits (given : ℕ) (x : Entry) : Type 0 where
  pub some_ticket : 0 < x.ticket
  pub ticket_given : x.ticket ≤ given
  pub some_width : 0 < x.width
  pub some_arcs : 0 < length x.arcs
  pub few_arcs : length x.arcs ≤ 15
  pub arcs_apart : distinct x.arcs ≡ true

pub entry_says : (given : ℕ) (x : Entry) → entry_fits given x ≡ true → EntryFits given x
entry_says given x fit =
    let ticket = and_parts (ltb 0 x.ticket) (leb x.ticket given && circuit_fits x.width x.arcs) fit in
    let last = and_parts (leb x.ticket given) (circuit_fits x.width x.arcs) ticket.1 in
    let width = and_parts (ltb 0 x.width) (ltb 0 (length x.arcs) && (leb (length x.arcs) 15 && distinct x.arcs)) last.1 in
    let some = and_parts (ltb 0 (length x.arcs)) (leb (length x.arcs) 15 && distinct x.arcs) width.1 in
    let few = and_parts (leb (length x.arcs) 15) (distinct x.arcs) some.1 in
    record {
      some_ticket = ltb-true 0 x.ticket ticket.0;
      ticket_given = leb-true x.ticket given last.0;
      some_width = ltb-true 0 x.width width.0;
      some_arcs = ltb-true 0 (length x.arcs) some.0;
      few_arcs = leb-true (length x.arcs) 15 few.0;
      arcs_apart = few.1;
    }

pub entry_from : (given : ℕ) (x : Entry) → EntryFits given x → entry_fits given x ≡ true
entry_from given x f =
    and_from _ _ (lt-ltb 0 x.ticket f.some_ticket) (and_from _ _ (le-leb x.ticket given f.ticket_given)
    (and_from _ _ (lt-ltb 0 x.width f.some_width) (and_from _ _ (lt-ltb 0 (length x.arcs) f.some_arcs) (and_from _ _ (le-leb (length x.arcs) 15 f.few_arcs) f.arcs_apart))))

-- tests, sums and how many

any_unsorted : (test : Entry → Bool) (rows : List Row) → any_of test (unsorted rows) ≡ any_of (row_test test) rows
any_unsorted test [] = refl
any_unsorted test (r ∷ rs) = go (row_entry r) (any_unsorted test rs)
  where
    go : (o : Option Entry) → any_of test (unsorted rs) ≡ any_of (row_test test) rs → any_of test (cons_option o (unsorted rs)) ≡ (option_map_or test o false || any_of (row_test test) rs)
    go None ih = ih
    go (Some x) ih = ap (λ b. test x || b) ih

pub any_entries : (test : Entry → Bool) (rows : List Row) → any_of test (entries_of rows) ≡ any_of (row_test test) rows
any_entries test rows = any_sort test (unsorted rows) ∙ any_unsorted test rows

sum_unsorted : (arc : ℕ) (rows : List Row) → sum_by (λ (x : Entry). x.width) (filter (is_through arc) (unsorted rows)) ≡ sum_by (width_on arc) rows
sum_unsorted arc [] = refl
sum_unsorted arc (r ∷ rs) = go (row_entry r) (sum_unsorted arc rs) ∙ sym (sum_by-cons (width_on arc) r rs)
  where
    go : (o : Option Entry) → sum_by (λ (x : Entry). x.width) (filter (is_through arc) (unsorted rs)) ≡ sum_by (width_on arc) rs
        → sum_by (λ (x : Entry). x.width) (filter (is_through arc) (cons_option o (unsorted rs))) ≡ option_map_or (share arc) o 0 + sum_by (width_on arc) rs
    go None ih = omega arith
    go (Some x) ih = kept (is_through arc x) ∙ ap (λ n. share arc x + n) ih
      where
        kept : (b : Bool) → sum_by (λ (x : Entry). x.width) (cond b (x ∷ filter (is_through arc) (unsorted rs)) (filter (is_through arc) (unsorted rs))) ≡ cond b x.width 0 + sum_by (λ (x : Entry). x.width) (filter (is_through arc) (unsorted rs))
        kept true = sum_by-cons (λ (x : Entry). x.width) x (filter (is_through arc) (unsorted rs))
        kept false = omega arith

pub sum_entries : (arc : ℕ) (rows : List Row) → sum_by (λ (x : Entry). x.width) (filter (is_through arc) (entries_of rows)) ≡ sum_by (width_on arc) rows
sum_entries arc rows = kept_sum_sort (λ x. x.width) (is_through arc) (unsorted rows) ∙ sum_unsorted arc rows

length_unsorted : (rows : List Row) → length (unsorted rows) ≡ count_by in_use rows
length_unsorted [] = refl
length_unsorted (r ∷ rs) = go (row_entry r) (length_unsorted rs) ∙ sym (sum_by-cons (λ r. cond (in_use r) 1 0) r rs)
  where
    go : (o : Option Entry) → length (unsorted rs) ≡ count_by in_use rs → length (cons_option o (unsorted rs)) ≡ cond (is_some o) 1 0 + count_by in_use rs
    go None ih = omega arith
    go (Some x) ih = omega arith

length_entries : (rows : List Row) → length (entries_of rows) ≡ count_by in_use rows
length_entries rows = length_sort (unsorted rows) ∙ length_unsorted rows

pub entries_full : (rows : List Row) → all_of in_use rows ≡ true → length (entries_of rows) ≡ length rows
entries_full rows h = length_entries rows ∙ full rows h
  where
    full : (rows : List Row) → all_of in_use rows ≡ true → count_by in_use rows ≡ length rows
    full [] h = refl
    full (r ∷ rs) h =
        let parts = and_parts (in_use r) (all_of in_use rs) h in
        let one : cond {A = ℕ} (in_use r) 1 0 ≡ 1 = ap (λ b. cond b 1 0) parts.0 in
        omega (arith, sum_by-cons (λ r. cond (in_use r) 1 0) r rs, full rs parts.1)

pub entries_room : (rows : List Row) (k : ℕ) → k < length rows → in_use (get_or rows k Empty) ≡ false → length (entries_of rows) < length rows
entries_room rows k l h =
    let filled = Held (record { ticket = 0; width = 0; arcs = [] }) in
    let none : cond {A = ℕ} (in_use (get_or rows k Empty)) 1 0 ≡ 0 = ap (λ b. cond b 1 0) h in
    omega (arith, length_entries rows, sum_by-set (λ r. cond (in_use r) 1 0) rows k filled Empty l, count_by-le-length in_use (set rows k filled), length-set rows k filled)

-- entries of which none is of a ticket

contra : (a b : Bool) → (a ≡ true → b ≡ true) → b ≡ false → a ≡ false
contra true b h e = absurd (both_ways b e (h refl))
contra false b h e = refl

none_less : (p q : Entry → Bool) → ((x : Entry) → p x ≡ true → q x ≡ true) → (xs : List Entry) → any_of q xs ≡ false → any_of p xs ≡ false
none_less p q less [] h = refl
none_less p q less (x ∷ xs) h =
    let parts = or_parts (q x) (any_of q xs) h in
    or_from _ _ (contra (p x) (q x) (less x) parts.0) (none_less p q less xs parts.1)

-- what a change of one row makes of the entries

module _ (ticket : ℕ) where
  abbrev count : List Row → ℕ
  count rows = count_by (has_ticket ticket) rows

  abbrev like : Entry → Bool
  like x = eqb x.ticket ticket

  abbrev unlike : Entry → Bool
  unlike x = not (like x)

  strike_none : (xs : List Entry) → any_of like xs ≡ false → filter unlike xs ≡ xs
  strike_none [] h = refl
  strike_none (x ∷ xs) h =
      let parts = or_parts (like x) (any_of like xs) h in
      ap (λ b. cond (not b) (x ∷ filter unlike xs) (filter unlike xs)) parts.0 ∙ ap (λ zs. x ∷ zs) (strike_none xs parts.1)

  book_other : (x : Entry) → like x ≡ false → book ticket x ≡ x
  book_other x h = ap (λ b. record { ticket = x.ticket; width = x.width; arcs = x.arcs; booked = b || x.booked }) h

  book_none : (xs : List Entry) → any_of like xs ≡ false → map (book ticket) xs ≡ xs
  book_none [] h = refl
  book_none (x ∷ xs) h =
      let parts = or_parts (like x) (any_of like xs) h in
      ap (λ y. y ∷ map (book ticket) xs) (book_other x parts.0) ∙ ap (λ zs. x ∷ zs) (book_none xs parts.1)

  count_cons : (r : Row) (rs : List Row) (b : Bool) → has_ticket ticket r ≡ b → count (r ∷ rs) ≡ cond b 1 0 + count rs
  count_cons r rs b e = sum_by-cons (λ r. cond (has_ticket ticket r) 1 0) r rs ∙ ap (λ b. cond b 1 0 + count rs) e

  count_some : (rows : List Row) (k : ℕ) → k < length rows → has_ticket ticket (get_or rows k Empty) ≡ true → 1 ≤ count rows
  count_some rows k l h =
      let one : cond {A = ℕ} (has_ticket ticket (get_or rows k Empty)) 1 0 ≡ 1 = ap (λ b. cond b 1 0) h in
      omega (arith, get_or-le-sum_by (λ r. cond (has_ticket ticket r) 1 0) rows k Empty l)

  -- a row that does not count is of another ticket
  other : (r : Row) (rs : List Row) (x : Entry) → row_entry r ≡ Some x → count (r ∷ rs) ≤ count rs → like x ≡ false
  other r rs x e h = go (like x) refl
    where
      go : (b : Bool) → like x ≡ b → b ≡ false
      go true f = absurd (omega (arith, count_cons r rs true (ap (λ o. option_map_or like o false) e ∙ f)))
      go false f = refl

  none_like : (rows : List Row) → count rows ≤ 0 → any_of like (unsorted rows) ≡ false
  none_like [] h = refl
  none_like (r ∷ rs) h = go (row_entry r) refl (none_like rs (omega (arith, count_cons r rs (has_ticket ticket r) refl)))
    where
      go : (o : Option Entry) → row_entry r ≡ o → any_of like (unsorted rs) ≡ false → any_of like (cons_option o (unsorted rs)) ≡ false
      go None e ih = ih
      go (Some x) e ih = or_from _ _ (other r rs x e (omega arith)) ih

  -- where no row has the ticket, no entry passes a test for it
  pub none_passes : (test : Entry → Bool) → ((x : Entry) → test x ≡ true → like x ≡ true) → (rows : List Row) → any_of (has_ticket ticket) rows ≡ false → any_of test (entries_of rows) ≡ false
  none_passes test less rows h = any_sort test (unsorted rows) ∙ none_less test like less (unsorted rows) (any_unsorted like rows ∙ h)

  module _ (test : Entry → Bool) (less : (x : Entry) → test x ≡ true → like x ≡ true) where
    one_unsorted : (rows : List Row) (k : ℕ) → k < length rows → has_ticket ticket (get_or rows k Empty) ≡ true → count rows ≤ 1 → any_of test (unsorted rows) ≡ row_test test (get_or rows k Empty)
    one_unsorted [] k l h one = absurd (omega arith)
    one_unsorted (r ∷ rs) zero l h one = go (row_entry r) h
      where
        go : (o : Option Entry) → option_map_or like o false ≡ true → any_of test (cons_option o (unsorted rs)) ≡ option_map_or test o false
        go None h = absurd (both_ways _ refl h)
        go (Some x) h' = ap (λ b. test x || b) (none_less test like less (unsorted rs) (none_like rs (omega (arith, count_cons r rs true h)))) ∙ or-false (test x)
    one_unsorted (r ∷ rs) (suc k) l h one = go (row_entry r) refl (count_some rs k (omega arith) h) (one_unsorted rs k (omega arith) h (omega (arith, count_cons r rs (has_ticket ticket r) refl)))
      where
        go : (o : Option Entry) → row_entry r ≡ o → 1 ≤ count rs → any_of test (unsorted rs) ≡ row_test test (get_or rs k Empty) → any_of test (cons_option o (unsorted rs)) ≡ row_test test (get_or rs k Empty)
        go None e some ih = ih
        go (Some x) e some ih = ap (λ b. b || any_of test (unsorted rs)) (contra (test x) (like x) (less x) (other r rs x e (omega arith))) ∙ ih

    -- where a row has the ticket, some entry passes a test for it if that of the row does
    pub one_passes : (rows : List Row) (k : ℕ) → k < length rows → has_ticket ticket (get_or rows k Empty) ≡ true → count rows ≤ 1 → any_of test (entries_of rows) ≡ row_test test (get_or rows k Empty)
    one_passes rows k l h one = any_sort test (unsorted rows) ∙ one_unsorted rows k l h one

  -- a row of the ticket turns empty
  strike_unsorted : (rows : List Row) (k : ℕ) → k < length rows → has_ticket ticket (get_or rows k Empty) ≡ true → count rows ≤ 1 → filter unlike (unsorted rows) ≡ unsorted (set rows k Empty)
  strike_unsorted [] k l h one = absurd (omega arith)
  strike_unsorted (r ∷ rs) zero l h one = go (row_entry r) h
    where
      go : (o : Option Entry) → option_map_or like o false ≡ true → filter unlike (cons_option o (unsorted rs)) ≡ unsorted rs
      go None h = absurd (both_ways _ refl h)
      go (Some x) h' = ap (λ b. cond (not b) (x ∷ filter unlike (unsorted rs)) (filter unlike (unsorted rs))) h' ∙ strike_none (unsorted rs) (none_like rs (omega (arith, count_cons r rs true h)))
  strike_unsorted (r ∷ rs) (suc k) l h one = go (row_entry r) refl (count_some rs k (omega arith) h) (strike_unsorted rs k (omega arith) h (omega (arith, count_cons r rs (has_ticket ticket r) refl)))
    where
      go : (o : Option Entry) → row_entry r ≡ o → 1 ≤ count rs → filter unlike (unsorted rs) ≡ unsorted (set rs k Empty) → filter unlike (cons_option o (unsorted rs)) ≡ cons_option o (unsorted (set rs k Empty))
      go None e some ih = ih
      go (Some x) e some ih = ap (λ b. cond (not b) (x ∷ filter unlike (unsorted rs)) (filter unlike (unsorted rs))) (other r rs x e (omega arith)) ∙ ap (λ zs. x ∷ zs) ih

  pub strike_entries : (rows : List Row) (k : ℕ) → k < length rows → has_ticket ticket (get_or rows k Empty) ≡ true → count rows ≤ 1 → filter unlike (entries_of rows) ≡ entries_of (set rows k Empty)
  strike_entries rows k l h one = kept_sort unlike (unsorted rows) ∙ ap (sort earlier) (strike_unsorted rows k l h one)

  -- a held row of the ticket turns booked
  module _ (c : Circuit) (of_ticket : eqb c.ticket ticket ≡ true) where
    book_held : book ticket (entry_of false c) ≡ entry_of true c
    book_held = ap (λ b. record { ticket = c.ticket; width = c.width; arcs = c.arcs; booked = b || false }) of_ticket

    book_unsorted : (rows : List Row) (k : ℕ) → k < length rows → get_or rows k Empty ≡ Held c → count rows ≤ 1 → map (book ticket) (unsorted rows) ≡ unsorted (set rows k (Booked c))
    book_unsorted [] k l h one = absurd (omega arith)
    book_unsorted (r ∷ rs) zero l h one =
        ap (λ r. map (book ticket) (cons_option (row_entry r) (unsorted rs))) h
        ∙ (ap (λ x. x ∷ map (book ticket) (unsorted rs)) book_held
        ∙ ap (λ zs. entry_of true c ∷ zs) (book_none (unsorted rs) (none_like rs (omega (arith, count_cons r rs true (ap (has_ticket ticket) h ∙ of_ticket))))))
    book_unsorted (r ∷ rs) (suc k) l h one =
        go (row_entry r) refl (count_some rs k (omega arith) (ap (has_ticket ticket) h ∙ of_ticket)) (book_unsorted rs k (omega arith) h (omega (arith, count_cons r rs (has_ticket ticket r) refl)))
      where
        go : (o : Option Entry) → row_entry r ≡ o → 1 ≤ count rs → map (book ticket) (unsorted rs) ≡ unsorted (set rs k (Booked c)) → map (book ticket) (cons_option o (unsorted rs)) ≡ cons_option o (unsorted (set rs k (Booked c)))
        go None e some ih = ih
        go (Some x) e some ih = ap (λ y. y ∷ map (book ticket) (unsorted rs)) (book_other x (other r rs x e (omega arith))) ∙ ap (λ zs. x ∷ zs) ih

    pub book_entries : (rows : List Row) (k : ℕ) → k < length rows → get_or rows k Empty ≡ Held c → count rows ≤ 1 → map (book ticket) (entries_of rows) ≡ entries_of (set rows k (Booked c))
    book_entries rows k l h one = book_sort ticket (unsorted rows) ∙ ap (sort earlier) (book_unsorted rows k l h one)

-- an empty row turns held, with a ticket above all that were given
module _ (given : ℕ) (c : Circuit) (new : given < c.ticket) where
  abbrev held : Entry
  held = entry_of false c

  all_before : (rows : List Row) → all_of (fits given) rows ≡ true → all_of (before held) (unsorted rows) ≡ true
  all_before [] h = refl
  all_before (r ∷ rs) h = go (row_entry r) (and_parts _ _ h).0 (all_before rs (and_parts _ _ h).1)
    where
      go : (o : Option Entry) → option_map_or (entry_fits given) o true ≡ true → all_of (before held) (unsorted rs) ≡ true → all_of (before held) (cons_option o (unsorted rs)) ≡ true
      go None fit ih = ih
      go (Some x) fit ih = and_from _ _ (lt-ltb x.ticket c.ticket (omega (arith, (entry_says given x fit).ticket_given))) ih

  pub hold_entries : (rows : List Row) (k : ℕ) → k < length rows → in_use (get_or rows k Empty) ≡ false → all_of (fits given) rows ≡ true
      → entries_of (set rows k (Held c)) ≡ entries_of rows ++ (held ∷ [])
  hold_entries [] k l h fit = absurd (omega arith)
  hold_entries (r ∷ rs) zero l h fit = insert_last held (entries_of rs) (all_sort (before held) (unsorted rs) (all_before rs (and_parts _ _ fit).1)) ∙ go (row_entry r) h
    where
      go : (o : Option Entry) → is_some o ≡ false → (entries_of rs ++ (held ∷ [])) ≡ (sort earlier (cons_option o (unsorted rs)) ++ (held ∷ []))
      go None h = refl
      go (Some x) h = absurd (both_ways _ h refl)
  hold_entries (r ∷ rs) (suc k) l h fit = go (row_entry r) (and_parts _ _ fit).0 (hold_entries rs k (omega arith) h (and_parts _ _ fit).1)
    where
      go : (o : Option Entry) → option_map_or (entry_fits given) o true ≡ true → entries_of (set rs k (Held c)) ≡ entries_of rs ++ (held ∷ [])
          → sort earlier (cons_option o (unsorted (set rs k (Held c)))) ≡ sort earlier (cons_option o (unsorted rs)) ++ (held ∷ [])
      go None fit ih = ih
      go (Some x) fit ih =
          ap (insert earlier x) ih ∙ insert_before_last held x (entries_of rs) (lt-ltb x.ticket c.ticket (omega (arith, (entry_says given x fit).ticket_given)))

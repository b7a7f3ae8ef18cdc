-- Lemmas on the marks of a tally, and on when an arc is in use.
use Rattle.std.proofs.Common.{◌≡◌, ℕ, ◌+◌, Bool, true, false, cond, ◌||◌, ltb, List, [], ◌∷◌, Some, None, Option, sum_by, sym, refl, ap, ◌∙◌, arith}
use Rattle.std.specs.Option.{option_map_or}
use Rattle.std.proofs.lemmas.List.Sums.{sum_by-cons}
use Rattle.std.proofs.lemmas.Bool.{and_parts, lt-ltb}
use Rattle.network.specs.Lists.{all_of, any_of}
use Rattle.ledger.specs.declared.row.Row.{Row}
use Rattle.ledger.specs.Rows.{entries_of, entry_fits, fits, row_entry, row_test, share, width_on}
use Rattle.ledger.specs.Tally.{Entry, Tally, is_through}
use Rattle.ledger.proofs.Standing.{any_entries, entry_says}

abbrev pub tally_of : (ℕ → Bool) → ℕ → List Entry → Tally
tally_of marked given entries = record { marked = marked; given = given; entries = entries }

pub same_marks : (m n : ℕ → Bool) (given : ℕ) (entries : List Entry) → ((j : ℕ) → m j ≡ n j) → tally_of m given entries ≡ tally_of n given entries
same_marks m n given entries h = λ i. tally_of (λ j. h j i) given entries

-- an arc is in use where something is sold on it

meets_sold : (given arc : ℕ) (rows : List Row) → all_of (fits given) rows ≡ true → any_of (row_test (is_through arc)) rows ≡ ltb 0 (sum_by (width_on arc) rows)
meets_sold given arc [] h = refl
meets_sold given arc (r ∷ rs) h = go (row_entry r) (and_parts _ _ h).0 (meets_sold given arc rs (and_parts _ _ h).1) ∙ ap (ltb 0) (sym (sum_by-cons (width_on arc) r rs))
  where
    through : (x : Entry) → entry_fits given x ≡ true → (b : Bool) → any_of (row_test (is_through arc)) rs ≡ ltb 0 (sum_by (width_on arc) rs)
        → (b || any_of (row_test (is_through arc)) rs) ≡ ltb 0 (cond b x.width 0 + sum_by (width_on arc) rs)
    through x fit true ih = sym (lt-ltb 0 (x.width + sum_by (width_on arc) rs) (omega (arith, (entry_says given x fit).some_width)))
    through x fit false ih = ih ∙ ap (ltb 0) (omega arith)

    go : (o : Option Entry) → option_map_or (entry_fits given) o true ≡ true → any_of (row_test (is_through arc)) rs ≡ ltb 0 (sum_by (width_on arc) rs)
        → (option_map_or (is_through arc) o false || any_of (row_test (is_through arc)) rs) ≡ ltb 0 (option_map_or (share arc) o 0 + sum_by (width_on arc) rs)
    go None fit ih = ih ∙ ap (ltb 0) (omega arith)
    go (Some x) fit ih = through x fit (is_through arc x) ih

pub in_use_sold : (given arc sold : ℕ) (rows : List Row) → all_of (fits given) rows ≡ true → sold ≡ sum_by (width_on arc) rows → any_of (is_through arc) (entries_of rows) ≡ ltb 0 sold
in_use_sold given arc sold rows h is = any_entries (is_through arc) rows ∙ (meets_sold given arc rows h ∙ ap (ltb 0) (sym is))

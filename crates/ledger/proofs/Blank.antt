-- Lemmas on a ledger as it is opened: its rows stand for nothing, and no arc is marked.
use Rattle.std.proofs.Common.{◌≡◌, ℕ, zero, suc, true, cond, [], replicate, sum_by, sym, refl, ap, ◌∙◌, arith}
use Rattle.std.specs.List.{filter_map}
use Rattle.std.proofs.lemmas.List.Sums.{sum_by-cons}
use Rattle.network.specs.Lists.{all_of, sort}
use Rattle.ledger.specs.declared.arcs.ArcUse.{ArcUse}
use Rattle.ledger.specs.declared.row.Row.{Row}
use Rattle.ledger.specs.declared.row.Row.TheVariants.{Empty}
use Rattle.ledger.specs.Rows.{OneRowEach, SoldIs, earlier, entries_of, fits, has_ticket, no_use, row_entry, width_on}
use Rattle.ledger.specs.Tally.{Tally, opened}
use Rattle.ledger.proofs.Selling.{use_at}
use Rattle.ledger.proofs.Tests.{get_or_same}

sum_blank : (value : Row → ℕ) → value Empty ≡ 0 → (n : ℕ) → sum_by value (replicate n Empty) ≡ 0
sum_blank value e zero = refl
sum_blank value e (suc n) = let ih = sum_blank value e n in omega (arith, sum_by-cons value Empty (replicate n Empty))

kept_blank : (n : ℕ) → filter_map row_entry (replicate n Empty) ≡ []
kept_blank zero = refl
kept_blank (suc n) = kept_blank n

pub one_row_blank : (n : ℕ) → OneRowEach (replicate n Empty)
one_row_blank n ticket = omega (arith, sum_blank (λ r. cond (has_ticket ticket r) 1 0) refl n)

pub fits_blank : (n : ℕ) → all_of (fits 0) (replicate n Empty) ≡ true
fits_blank zero = refl
fits_blank (suc n) = fits_blank n

pub sold_blank : (n m : ℕ) (u : ArcUse) → u ≡ no_use → SoldIs (replicate m u) (replicate n Empty)
sold_blank n m u e = rw e (λ arc l. ap (λ u. u.sold) (get_or_same m arc no_use) ∙ sym (sum_blank (width_on arc) refl n))

pub opened_blank : (n m : ℕ) (u : ArcUse) → u ≡ no_use → ◌≡◌ {A = Tally} (record { marked = λ i. (use_at (replicate m u) i).closed; given = 0; entries = entries_of (replicate n Empty) }) opened
opened_blank n m u e = rw e (λ i. record { marked = λ j. (get_or_same m j no_use i).closed; given = 0; entries = sort earlier (kept_blank n i) })

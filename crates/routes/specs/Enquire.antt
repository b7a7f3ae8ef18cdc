-- What an enquiry answers, and what it leaves in the memory that the caller brought.
use Rattle.std.specs.Prelude.{ℕ, min, Bool, true, false, ◌||◌, List, [], ◌∷◌, length, Some, None, Ok, Err, Option, Result, ◌==◌, nat_le, nat_lt}
use Rattle.network.specs.Checks.{Check, Told, refusal, first_failed}
use Rattle.network.specs.Net.{Net}
use Rattle.length.specs.declared.standard.StandardKind.TheVariants.{Delay, Jitter, Charge, Hops}
use Rattle.length.specs.Model.{Model}
use Rattle.length.specs.Standard.{standard}
use Rattle.length.specs.Least.{table_after}
use Rattle.routes.specs.declared.enquiry.Enquiry.{Enquiry}
use Rattle.routes.specs.declared.enquiry.RouteRow.{RouteRow}
use Rattle.routes.specs.declared.enquiry.Found.{Found}
use Rattle.routes.specs.declared.refusals.EnquiryRefusal.{EnquiryRefusal}
use Rattle.routes.specs.declared.refusals.EnquiryRefusal.TheVariants.{NoSuchSite, SameSite, WidthZero, HopsOutside, WantedOutside, ListTooShort, TableTooShort, TooFewLines}
use Rattle.routes.specs.Routes.{route_list, list_after}
use Rattle.routes.specs.Partial.{line_count}

abbrev pub enquiry_told : EnquiryRefusal → Told
enquiry_told NoSuchSite = refusal 20
enquiry_told SameSite = refusal 21
enquiry_told WidthZero = refusal 22
enquiry_told HopsOutside = refusal 23
enquiry_told WantedOutside = refusal 24
enquiry_told ListTooShort = refusal 25
enquiry_told TableTooShort = refusal 26
enquiry_told TooFewLines = refusal 27

-- the five tables that a caller brings
pub record Tables (L : Type 0) : Type 0 where
  pub by_kind : List (Option L)
  pub by_delay : List (Option ℕ)
  pub by_jitter : List (Option ℕ)
  pub by_charge : List (Option ℕ)
  pub by_hops : List (Option ℕ)

-- all that a caller brings: what is asked, tables, a list, and a notebook, of which only the number of lines counts
pub record Brought (K L : Type 0) : Type 0 where
  pub enquiry : Enquiry K
  pub tables : Tables L
  pub list : List RouteRow
  pub notebook : ℕ

-- what the call answers, and the memory as it leaves it
pub record EnquiryAnswer (L : Type 0) : Type 0 where
  pub result : Result Found Told
  pub tables : Tables L
  pub list : List RouteRow

-- only the first 4,096 lines of a notebook count
abbrev pub lines_that_count : ℕ → ℕ
lines_that_count notebook = min notebook 4096

abbrev pub shorter_than : {L : Type 0} → ℕ → Tables L → Bool
shorter_than n t =
    nat_lt (length t.by_kind) n || nat_lt (length t.by_delay) n || nat_lt (length t.by_jitter) n
    || nat_lt (length t.by_charge) n || nat_lt (length t.by_hops) n

-- the checks before the work begins, with so many sites, a list of so many rows, and a table too short or none
abbrev pub checks_before : {K : Type 0} → Enquiry K → ℕ → ℕ → Bool → List Check
checks_before e sites rows short_table =
    (nat_le sites e.source || nat_le sites e.destination, refusal 20)
    ∷ ((e.source == e.destination), refusal 21)
    ∷ ((e.width == 0), refusal 22)
    ∷ (nat_lt e.limits.hops 1 || nat_lt 15 e.limits.hops, refusal 23)
    ∷ (nat_lt e.wanted 1 || nat_lt 32 e.wanted, refusal 24)
    ∷ (nat_lt rows e.wanted, refusal 25)
    ∷ (short_table, refusal 26)
    ∷ []

module _ {K L : Type 0} (model : K → Model L) (net : Net) (b : Brought K L) where
  abbrev pub early_checks : List Check
  early_checks = checks_before b.enquiry net.sites (length b.list) (shorter_than net.sites b.tables)

  -- the line count is above the notebook lines that count
  abbrev pub too_few_lines : Bool
  too_few_lines = nat_lt (lines_that_count b.notebook) (line_count model net b.enquiry)

  abbrev pub filled_tables : Tables L
  filled_tables =
      let w : ℕ = b.enquiry.width in
      let d : ℕ = b.enquiry.destination in
      record {
        by_kind = table_after (model b.enquiry.kind) net w d b.tables.by_kind;
        by_delay = table_after (standard Delay) net w d b.tables.by_delay;
        by_jitter = table_after (standard Jitter) net w d b.tables.by_jitter;
        by_charge = table_after (standard Charge) net w d b.tables.by_charge;
        by_hops = table_after (standard Hops) net w d b.tables.by_hops;
      }

  abbrev pub found : Found
  found = record { routes = length (route_list model net b.enquiry); lines = line_count model net b.enquiry }

  -- the answer, from the first of the earlier checks that failed and from whether the lines are too few. A check that fails
  -- leaves all memory as it was, but for the last, which leaves the tables filled
  abbrev pub enquiry_outcome : Option Told → Bool → EnquiryAnswer L
  enquiry_outcome (Some r) short = record { result = Err r; tables = b.tables; list = b.list }
  enquiry_outcome None true = record { result = Err (refusal 27); tables = filled_tables; list = b.list }
  enquiry_outcome None false =
      record { result = Ok found; tables = filled_tables; list = list_after net (route_list model net b.enquiry) b.list }

  abbrev pub enquiry_answer : EnquiryAnswer L
  enquiry_answer = enquiry_outcome (first_failed early_checks) too_few_lines

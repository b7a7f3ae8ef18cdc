-- What a caller brings to an enquiry, and the answer in terms of it.
use Rattle.std.specs.Prelude.{ℕ, Bool, cond, List, length, Ok, Err, Option, Result, nat_lt}
use Rattle.network.specs.Checks.{Told, refusal}
use Rattle.network.specs.Net.{Net}
use Rattle.length.specs.Model.{Model}
use Rattle.routes.specs.declared.enquiry.Enquiry.{Enquiry}
use Rattle.routes.specs.declared.enquiry.Found.{Found}
use Rattle.routes.specs.declared.enquiry.RouteRow.{RouteRow}
use Rattle.routes.specs.declared.filling.LentTables.{LentTables}
use Rattle.routes.specs.Enquire.{Brought, Tables, lines_that_count}
use Rattle.routes.specs.Partial.{line_count}
use Rattle.routes.specs.Routes.{list_after, route_list}

-- five tables, each as the list of what it holds
abbrev pub five_tables : {L : Type 0} → List (Option L) → List (Option ℕ) → List (Option ℕ) → List (Option ℕ) → List (Option ℕ) → Tables L
five_tables kind delay jitter charge hops =
    record { by_kind = kind; by_delay = delay; by_jitter = jitter; by_charge = charge; by_hops = hops }

-- what the five tables hold
abbrev pub held_in : {L : Type 0} → LentTables L → Tables L
held_in tables =
    record {
      by_kind = tables.length.now;
      by_delay = tables.delay.now;
      by_jitter = tables.jitter.now;
      by_charge = tables.charge.now;
      by_hops = tables.hops.now;
    }

abbrev pub brought : {K L : Type 0} → Enquiry K → LentTables L → List RouteRow → ℕ → Brought K L
brought e tables list notebook = record { enquiry = e; tables = held_in tables; list = list; notebook = notebook }

module _ {K L : Type 0} (model : K → Model L) (net : Net) (e : Enquiry K) (notebook : ℕ) where
  -- the notebook has too few lines
  abbrev pub short_of_lines : Bool
  short_of_lines = nat_lt (lines_that_count notebook) (line_count model net e)

  -- the answer, once the early checks have passed
  abbrev pub routes_answer : Result Found Told
  routes_answer = cond short_of_lines (Err (refusal 27)) (Ok (record { routes = length (route_list model net e); lines = line_count model net e }))

  -- the list then
  abbrev pub routes_list : List RouteRow → List RouteRow
  routes_list list = cond short_of_lines list (list_after net (route_list model net e) list)

-- Rows written one after another, and the rows of the routes that an enquiry asks for.
use Rattle.std.proofs.Common.{◌≡◌, ℕ, ◌<◌, ◌≤◌, List, [], map, length, get_or, take, Some, None, Option, sym, ap, ◌∙◌, arith}
use Rattle.std.specs.List.{slice_get}
use Rattle.std.proofs.lemmas.List.{ext_get_or, get_or-map, length-map, length-take}
use Rattle.network.specs.Net.{Net}
use Rattle.length.specs.Model.{Model}
use Rattle.routes.specs.declared.enquiry.Enquiry.{Enquiry}
use Rattle.routes.specs.declared.enquiry.RouteRow.{RouteRow}
use Rattle.routes.specs.declared.line.Line.{Line}
use Rattle.routes.specs.Routes.{route_list, row_of}
use Rattle.routes.specs.Rows.{PlacesInside, no_row, row_at, row_on, rows_at}
use Rattle.routes.specs.Work.{Ended}
use Rattle.routes.proofs.Chosen.{slice_get-take}

pub row_there : {L : Type 0} (notebook : List (Line L)) (place : ℕ) (line : Line L) → slice_get notebook place ≡ Some line → row_at notebook place ≡ row_on line
row_there notebook place line e = ap (λ (o : Option (Line _)). elim o as (λ _. RouteRow) [ None ↦ no_row | Some l ↦ row_on l ]) e

module _ {K L : Type 0} (model : K → Model L) (net : Net) (e : Enquiry K) (finished : List ℕ) (notebook : List (Line L)) (used : ℕ) (ended : Ended model net e finished notebook used)
    (lines : List (Line L)) (are : lines ≡ take used notebook) where
  -- the rows of the lines of the routes are the rows of the routes
  pub rows_listed : rows_at lines finished ≡ map (row_of net) (route_list model net e)
  rows_listed =
      ext_get_or no_row (rows_at lines finished) (map (row_of net) (route_list model net e))
      (length-map finished (row_at lines) ∙ ended.routes ∙ sym (length-map (route_list model net e) (row_of net)))
      (λ j h.
      let inside : j < length finished = omega (arith, length-map finished (row_at lines)) in
      let one = ended.each j inside in
      let place = get_or finished j 0 in
      get_or-map (row_at lines) finished j 0 no_row inside
      ∙ row_there lines place one.0 (ap (λ l. slice_get l place) are ∙ slice_get-take used notebook place (ended.inside j inside) ∙ one.1) ∙ ap row_on one.2
      ∙ sym (get_or-map (row_of net) (route_list model net e) j [] no_row (omega (arith, ended.routes))))

  -- the lines of the routes are among those used
  pub listed_inside : used ≤ length notebook → PlacesInside lines finished
  listed_inside room j h = omega (arith, ended.inside j h, ap length are, length-take used notebook)

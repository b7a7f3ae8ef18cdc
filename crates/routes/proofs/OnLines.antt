-- What is known of a line that is that of an admissible partial route.
use Rattle.std.proofs.Common.{◌≡◌, ℕ, ◌<◌, true, false, eqb, length, Some, None, Option, sym, subst}
use Rattle.std.proofs.lemmas.Bool.{and_parts}
use Rattle.network.specs.Net.{Net, WellFormed}
use Rattle.length.specs.Model.{Model, Lawful}
use Rattle.length.proofs.Least.{T_true}
use Rattle.routes.specs.declared.enquiry.Enquiry.{Enquiry}
use Rattle.routes.specs.declared.line.Line.{Line}
use Rattle.routes.specs.declared.filling.LentTables.{LentTables}
use Rattle.routes.specs.Routes.{at_site, is_complete, end_of, is_path, some_site}
use Rattle.routes.specs.Partial.{is_admissible, is_partial}
use Rattle.routes.specs.Lines.{Asked, OnLine, RestsHold, following_arc, next_line, stretched, there}
use Rattle.routes.proofs.Hops.{still_short}
use Rattle.routes.proofs.Parents.{some_there, walk_in}
use Rattle.routes.proofs.Stretch.{next_step}

module _ {K L : Type 0} (model : K → Model L) (net : Net) (e : Enquiry K) (law : Lawful (model e.kind)) (wf : WellFormed net) (asked : Asked net e) where
  module _ (line : Line L) (on : OnLine model net e line) where
    pub on_partial : is_partial net e line.arcs ≡ true
    on_partial = (and_parts (is_partial net e line.arcs) (is_admissible model net e line.arcs) on.written).0

    pub on_admissible : is_admissible model net e line.arcs ≡ true
    on_admissible = (and_parts (is_partial net e line.arcs) (is_admissible model net e line.arcs) on.written).1

    pub on_end : (u : ℕ) × (end_of net e line.arcs ≡ Some u)
    on_end =
        some_there (end_of net e line.arcs)
        (and_parts (some_site (end_of net e line.arcs)) _ (and_parts (is_path net e line.arcs) _ on_partial).0).0

    pub on_there : there net line.arcs ≡ true
    on_there = T_true _ (walk_in net e.width (model e.kind) law wf e.source line.arcs on_end.0 on_end.1)

    module _ (away : is_complete net e line.arcs ≡ false) where
      pub on_away : eqb on_end.0 e.destination ≡ false
      on_away = subst (λ o. at_site e.destination o ≡ false) on_end.1 away

      pub on_short : length line.arcs < 15
      on_short = still_short model net wf e line.arcs on_end.0 asked.source_there asked.few_hops on_end.1 on_away on_admissible

      -- the next line, from whether the arc may follow
      pub on_next : (rests : LentTables L) → RestsHold model net e rests → (i : ℕ)
          → next_line model net e line.arcs i ≡ elim (following_arc net e line i) as (λ _. Option (Line L)) [
            | None ↦ None
            | Some arc ↦ stretched (model e.kind) e.limits rests arc i line
          ]
      on_next rests hold i =
          subst (λ (l : Line L). next_line model net e line.arcs i ≡ elim (following_arc net e l i) as (λ _. Option (Line L)) [
            | None ↦ None
            | Some arc ↦ stretched (model e.kind) e.limits rests arc i l
          ]) (sym on.is) (next_step model net e rests hold law wf line.arcs i on_end.0 on_end.1 on_short line.taken on_partial on_away)

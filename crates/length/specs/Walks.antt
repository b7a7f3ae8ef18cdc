-- Walks: rows of arc numbers, each arc beginning where the last ended.
use Rattle.std.specs.Prelude.{ℕ, Bool, cond, not, ◌&&◌, ◌||◌, List, [], ◌∷◌, map, length, Some, None, Option, Result, ◌==◌, nat_le, nat_lt}
use Rattle.network.specs.Lists.{all_of}
use Rattle.network.specs.Checks.{Told, refusal, first_failed, answered}
use Rattle.network.specs.Net.{Net, arc_count, arc_at}
use Rattle.length.specs.declared.refusals.RowRefusal.{RowRefusal}
use Rattle.length.specs.declared.refusals.RowRefusal.TheVariants.{ArcsOutside, NoSuchArc}
use Rattle.length.specs.Model.{Model}

-- there is an arc of this number, with room for the width
abbrev pub usable : Net → ℕ → ℕ → Bool
usable net width i = nat_lt i (arc_count net) && nat_le width (arc_at net i).capacity

-- where a row of usable arcs leads from a site; none where the next arc begins elsewhere or is not usable
abbrev pub follow : Net → ℕ → ℕ → List ℕ → Option ℕ
follow net width site [] = Some site
follow net width site (i ∷ is) =
    cond (usable net width i && (arc_at net i).from == site) (follow net width (arc_at net i).to is) None

-- the sites on the way, the first included
abbrev pub sites_along : Net → ℕ → List ℕ → List ℕ
sites_along net site arcs = site ∷ map (λ i. (arc_at net i).to) arcs

-- the length of the arc of a number
abbrev pub arc_length : {L : Type 0} → Model L → Net → ℕ → L
arc_length m net i = m.arc (arc_at net i)

-- the length of a walk: its arcs' lengths joined in order
abbrev pub walk_length : {L : Type 0} → Model L → Net → List ℕ → L
walk_length m net [] = m.empty
walk_length m net (i ∷ is) = m.join (arc_length m net i) (walk_length m net is)

-- The length of a given row of arcs

-- fewer than 1 or more than 15
abbrev pub arcs_outside : List ℕ → Bool
arcs_outside arcs = nat_lt (length arcs) 1 || nat_lt 15 (length arcs)

-- some number is not that of an arc
abbrev pub no_such_arc : Net → List ℕ → Bool
no_such_arc net arcs = not (all_of (λ i. nat_lt i (arc_count net)) arcs)

abbrev pub row_refusal : Net → List ℕ → Option Told
row_refusal net arcs =
    first_failed
    ((arcs_outside arcs, refusal 31)
    ∷ (no_such_arc net arcs, refusal 32)
    ∷ [])

abbrev pub row_answer : {L : Type 0} → Model L → Net → List ℕ → Result L Told
row_answer m net arcs = answered (row_refusal net arcs) (walk_length m net arcs)

abbrev pub row_told : RowRefusal → Told
row_told ArcsOutside = refusal 31
row_told NoSuchArc = refusal 32

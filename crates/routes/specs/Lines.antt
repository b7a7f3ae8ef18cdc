-- What a line of a notebook says of its partial route, and what stands on it for one arc more.
use Rattle.std.specs.Prelude.{◌≡◌, ℕ, ◌<◌, ◌≤◌, Bool, true, false, cond, not, ◌&&◌, List, [], ◌∷◌, ◌++◌, length, Some, None, Option, ◌==◌, nat_lt, slice_index_or}
use Rattle.std.specs.Option.{option_map, unwrap_or}
use Rattle.network.specs.declared.arc.Arc.{Arc}
use Rattle.network.specs.Lists.{all_of, among}
use Rattle.network.specs.Net.{Net, arc_at, arc_count}
use Rattle.network.specs.Numbers.{with_number}
use Rattle.length.specs.declared.standard.StandardKind.TheVariants.{Delay, Jitter, Charge, Hops}
use Rattle.length.specs.Model.{Model}
use Rattle.length.specs.Standard.{capped_sum, standard}
use Rattle.length.specs.Walks.{sites_along, usable, walk_length}
use Rattle.length.specs.Least.{least_total}
use Rattle.routes.specs.declared.enquiry.Enquiry.{Enquiry}
use Rattle.routes.specs.declared.enquiry.Limits.{Limits}
use Rattle.routes.specs.declared.line.Line.{Line}
use Rattle.routes.specs.declared.filling.LentTables.{LentTables}
use Rattle.routes.specs.declared.totals.Totals.{Totals}
use Rattle.routes.specs.Totals.{total}
use Rattle.routes.specs.Routes.{end_of}
use Rattle.routes.specs.Partial.{at_most, is_partial, is_admissible, projected_length}

-- each number is that of an arc
abbrev pub there : Net → List ℕ → Bool
there net arcs = all_of (λ i. nat_lt i (arc_count net)) arcs

-- a table holds the least totals of a kind
abbrev pub HoldsRests : {L : Type 0} → Model L → Net → ℕ → ℕ → List (Option L) → Type 0
HoldsRests m net width destination table =
    (net.sites ≤ length table) × ((site : ℕ) → site < net.sites → slice_index_or table site None ≡ least_total m net width destination site)

-- the totals of a row of arcs; its hops are its number of arcs
abbrev pub totals_of : Net → List ℕ → Totals
totals_of net arcs = record { delay = total net Delay arcs; jitter = total net Jitter arcs; charge = total net Charge arcs }

module _ {K L : Type 0} (model : K → Model L) (net : Net) (e : Enquiry K) where
  -- all five tables do
  pub record RestsHold (rests : LentTables L) : Type 0 where
    pub by_kind : HoldsRests (model e.kind) net e.width e.destination rests.length.now
    pub by_delay : HoldsRests (standard Delay) net e.width e.destination rests.delay.now
    pub by_jitter : HoldsRests (standard Jitter) net e.width e.destination rests.jitter.now
    pub by_charge : HoldsRests (standard Charge) net e.width e.destination rests.charge.now
    pub by_hops : HoldsRests (standard Hops) net e.width e.destination rests.hops.now

  -- a row of arcs that is written down: an admissible partial route
  abbrev pub is_writable : List ℕ → Bool
  is_writable arcs = is_partial net e arcs && is_admissible model net e arcs

  -- the line of a partial route
  abbrev pub line_of : Bool → List ℕ → Line L
  line_of is_taken arcs =
      record {
        length = walk_length (model e.kind) net arcs;
        projected = unwrap_or (projected_length model net e arcs) (model e.kind).empty;
        totals = totals_of net arcs;
        arcs = arcs;
        end = unwrap_or (end_of net e arcs) 0;
        taken = is_taken;
      }

  -- the line of one arc more, where that is written down
  abbrev pub next_line : List ℕ → ℕ → Option (Line L)
  next_line arcs i = cond (is_writable (arcs ++ i ∷ [])) (Some (line_of false (arcs ++ i ∷ []))) None

-- totals of 0
abbrev pub no_totals : Totals
no_totals = record { delay = 0; jitter = 0; charge = 0 }

-- totals with those of one arc more
abbrev pub totals_with : Totals → Arc → Totals
totals_with t arc =
    record {
      delay = capped_sum t.delay arc.delay;
      jitter = capped_sum t.jitter arc.jitter;
      charge = capped_sum t.charge arc.charge;
    }

-- three totals and so many hops, each with the least that is to come from a site, are within the limits
abbrev pub totals_within : {L : Type 0} → Totals → ℕ → Limits → LentTables L → ℕ → Bool
totals_within t hops limits rests site =
    at_most (option_map (capped_sum t.delay) (slice_index_or rests.delay.now site None)) limits.delay
    && (at_most (option_map (capped_sum t.jitter) (slice_index_or rests.jitter.now site None)) limits.jitter
    && (at_most (option_map (capped_sum t.charge) (slice_index_or rests.charge.now site None)) limits.charge
    && at_most (option_map (capped_sum hops) (slice_index_or rests.hops.now site None)) limits.hops))

module _ {L : Type 0} (m : Model L) (limits : Limits) (rests : LentTables L) where
  -- the line of a partial route of this length and these totals, where the destination can be reached from its end within
  -- the limits
  abbrev pub line_within : L → Totals → List ℕ → ℕ → Option (Line L)
  line_within sum totals arcs end =
      elim (slice_index_or rests.length.now end None) [
        | None ↦ None
        | Some rest ↦ cond (totals_within totals (length arcs) limits rests end)
            (Some (record { length = sum; projected = m.join sum rest; totals = totals; arcs = arcs; end = end; taken = false })) None
      ]

  -- a line made longer by an arc, where there is room for its number and the destination can be reached within the limits
  abbrev pub stretched : Arc → ℕ → Line L → Option (Line L)
  stretched arc number line =
      elim (with_number line.arcs number) [
        | None ↦ None
        | Some arcs ↦ line_within (m.join line.length (m.arc arc)) (totals_with line.totals arc) arcs arc.to
      ]

-- the arc of a number, where it is usable, begins where the partial route on a line ends, and leads to a site not met before
abbrev pub following_arc : {K L : Type 0} → Net → Enquiry K → Line L → ℕ → Option Arc
following_arc net e line i =
    cond
    ((usable net e.width i && (arc_at net i).from == line.end) && not (among (arc_at net i).to (sites_along net e.source line.arcs)))
    (Some (arc_at net i)) None

-- what the checks before the work have shown of an enquiry
pub record Asked {K : Type 0} (net : Net) (e : Enquiry K) : Type 0 where
  pub source_there : e.source < net.sites
  pub destination_there : e.destination < net.sites
  pub apart : e.source ≡ e.destination → ⊥
  pub some_hops : 1 ≤ e.limits.hops
  pub few_hops : e.limits.hops ≤ 15
  pub some_wanted : 1 ≤ e.wanted
  pub few_wanted : e.wanted ≤ 32

-- a line with nothing written
abbrev pub blank_line : {L : Type 0} → L → Line L
blank_line length = record { length = length; projected = length; totals = no_totals; arcs = []; end = 0; taken = false }

-- a line is that of an admissible partial route
pub record OnLine {K L : Type 0} (model : K → Model L) (net : Net) (e : Enquiry K) (line : Line L) : Type 0 where
  pub is : line ≡ line_of model net e line.taken line.arcs
  pub written : is_writable model net e line.arcs ≡ true

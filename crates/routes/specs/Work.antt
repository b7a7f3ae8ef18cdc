-- What a notebook holds while lines are taken, and what the work comes to.
use Rattle.std.specs.Prelude.{◌≡◌, ℕ, ◌+◌, ◌<◌, ◌≤◌, true, false, cond, List, [], length, Some, None, Option, ◌==◌, slice_index, slice_index_or, slice_set}
use Rattle.std.specs.List.{slice_get}
use Rattle.arrayvec.specs.ArrayVec.{ArrayVec}
use Rattle.network.specs.Lists.{In}
use Rattle.network.specs.Net.{Net}
use Rattle.length.specs.Model.{Model}
use Rattle.routes.specs.declared.enquiry.Enquiry.{Enquiry}
use Rattle.routes.specs.declared.line.Line.{Line}
use Rattle.routes.specs.declared.line.Notebook.{Notebook}
use Rattle.routes.specs.Routes.{route_list}
use Rattle.routes.specs.Partial.{line_count}
use Rattle.routes.specs.Lines.{line_of}

-- a line that is marked taken
abbrev pub marked : {L : Type 0} → Line L → Line L
marked line = record line { taken = true }

module _ {K L : Type 0} (model : K → Model L) (net : Net) (e : Enquiry K) where
  -- the line at a place is that of the partial route written there, marked if that is among those taken
  pub record OneLine (routes taken_routes : List (List ℕ)) (notebook : List (Line L)) (j : ℕ) : Type 0 where
    pub line : Line L
    pub there : slice_get notebook j ≡ Some line
    pub is : line ≡ line_of model net e line.taken (slice_index_or routes j [])
    pub was_taken : line.taken ≡ true → In (slice_index_or routes j []) taken_routes
    pub not_taken : line.taken ≡ false → In (slice_index_or routes j []) taken_routes → ⊥

  -- the first lines of a notebook are those of partial routes, in the order of writing
  pub record Noted (routes taken_routes : List (List ℕ)) (notebook : List (Line L)) (used : ℕ) : Type 0 where
    pub count : used ≡ length routes
    pub room : used ≤ length notebook
    pub each : (j : ℕ) → j < used → OneLine routes taken_routes notebook j

-- how many lines are used once a line may have been written; none where there is no room
abbrev pub used_after : {L : Type 0} → Option (Line L) → ℕ → ℕ → Option ℕ
used_after None used lines = Some used
used_after (Some line) used lines = cond (used == lines) None (Some (used + 1))

-- the notebook then
abbrev pub notebook_after : {L : Type 0} → Option (Line L) → ℕ → ℕ → List (Line L) → List (Line L)
notebook_after None used lines notebook = notebook
notebook_after (Some line) used lines notebook = cond (used == lines) notebook (slice_set notebook used line)

module _ {K L : Type 0} (model : K → Model L) (net : Net) (e : Enquiry K) where
  -- the places of the lines that completed routes
  pub record Completed (routes complete : List (List ℕ)) (finished : List ℕ) : Type 0 where
    pub count : length finished ≡ length complete
    pub each : (j : ℕ) → j < length finished → (slice_index finished j < length routes) × (slice_index_or routes (slice_index finished j) [] ≡ slice_index_or complete j [])

  -- the lines of the routes that the enquiry asks for are finished, and as many lines are used as the work takes
  pub record Ended (finished : List ℕ) (notebook : List (Line L)) (used : ℕ) : Type 0 where
    pub lines : used ≡ line_count model net e
    pub routes : length finished ≡ length (route_list model net e)
    pub inside : (j : ℕ) → j < length finished → slice_index finished j < used
    pub each : (j : ℕ) → j < length finished
        → (line : Line L) × (slice_get notebook (slice_index finished j) ≡ Some line) × (line ≡ line_of model net e line.taken (slice_index_or (route_list model net e) j []))

  -- what the work comes to with so many lines: the routes, or too few lines
  abbrev pub WorkDone : Option (ArrayVec ℕ) → Notebook L → ℕ → Type 0
  WorkDone None notebook lines = lines < line_count model net e
  WorkDone (Some finished) notebook lines = Ended finished.items notebook.lines.now notebook.used × (line_count model net e ≤ lines)

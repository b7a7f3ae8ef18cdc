-- Which line of a notebook is taken next: of those not taken yet, the first in the order of projected length and arc numbers.
use Rattle.std.specs.Prelude.{◌≡◌, ℕ, ◌<◌, Bool, true, false, not, ◌&&◌, ◌||◌, T, List, Some, None, Option}
use Rattle.std.specs.List.{slice_get}
use Rattle.network.specs.Lists.{place_by_place}
use Rattle.length.specs.Model.{Model}
use Rattle.routes.specs.declared.line.Line.{Line}

module _ {L : Type 0} (m : Model L) where
  -- a line may stand before another: its projected length is shorter, or as long and its arc numbers come first
  abbrev pub line_before : Line L → Line L → Bool
  line_before a b =
      m.no_longer a.projected b.projected
      && (not (m.no_longer b.projected a.projected) || place_by_place a.arcs b.arcs)

  -- the projected length of a line is a length
  pub record Sound (line : Line L) : Type 0 where
    pub valid : T (m.valid line.projected)

  module _ (notebook : List (Line L)) (used : ℕ) where
    -- each of the lines used is sound
    abbrev pub AllSound : Type 0
    AllSound = (j : ℕ) (line : Line L) → j < used → slice_get notebook j ≡ Some line → Sound line

    -- each of the lines used is taken
    abbrev pub AllTaken : Type 0
    AllTaken = (j : ℕ) (line : Line L) → j < used → slice_get notebook j ≡ Some line → line.taken ≡ true

    -- the line at a place is not taken, and may stand before every other that is not
    pub record FirstLine (at : ℕ) : Type 0 where
      pub line : Line L
      pub there : slice_get notebook at ≡ Some line
      pub inside : at < used
      pub untaken : line.taken ≡ false
      pub first : (j : ℕ) (other : Line L) → j < used → slice_get notebook j ≡ Some other → other.taken ≡ false → line_before line other ≡ true

    -- what the choice answers
    abbrev pub Chosen : Option ℕ → Type 0
    Chosen None = AllTaken
    Chosen (Some at) = FirstLine at

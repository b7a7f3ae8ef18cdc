-- What a kind of length is, and the laws that it keeps.
use Rattle.std.specs.Prelude.{◌≡◌, ℕ, Bool, ◌||◌, T}
use Rattle.network.specs.declared.arc.Arc.{Arc}
use Rattle.network.specs.Net.{ArcFits}

-- A kind of length: a length for each arc, an empty length, a join of two lengths and the comparison "no longer than".
-- Only valid values are lengths: `valid` says which values of the type the kind speaks of.
pub record Model (L : Type 0) : Type 0 where
  pub valid : L → Bool
  pub arc : Arc → L
  pub empty : L
  pub join : L → L → L
  pub no_longer : L → L → Bool

-- the laws of a kind of length
pub record Lawful {L : Type 0} (m : Model L) : Type 0 where
  -- what is built from lengths is a length
  pub arc_valid : (sites : ℕ) (a : Arc) → ArcFits sites a → T (m.valid (m.arc a))
  pub empty_valid : T (m.valid m.empty)
  pub join_valid : (a b : L) → T (m.valid a) → T (m.valid b) → T (m.valid (m.join a b))
  -- join is associative
  pub assoc : (a b c : L) → T (m.valid a) → T (m.valid b) → T (m.valid c) → m.join (m.join a b) c ≡ m.join a (m.join b c)
  -- the empty length joined on either side changes nothing
  pub empty_left : (a : L) → T (m.valid a) → m.join m.empty a ≡ a
  pub empty_right : (a : L) → T (m.valid a) → m.join a m.empty ≡ a
  -- of two lengths at least one is no longer than the other, and if both are, they are equal
  pub total : (a b : L) → T (m.valid a) → T (m.valid b) → T (m.no_longer a b || m.no_longer b a)
  pub antisym : (a b : L) → T (m.valid a) → T (m.valid b) → T (m.no_longer a b) → T (m.no_longer b a) → a ≡ b
  -- the comparison carries over a middle length
  pub trans : (a b c : L) → T (m.valid a) → T (m.valid b) → T (m.valid c) → T (m.no_longer a b) → T (m.no_longer b c) → T (m.no_longer a c)
  -- the empty length is no longer than any
  pub empty_least : (a : L) → T (m.valid a) → T (m.no_longer m.empty a)
  -- joining the same length on either side keeps the order
  pub join_left : (a b c : L) → T (m.valid a) → T (m.valid b) → T (m.valid c) → T (m.no_longer a b) → T (m.no_longer (m.join c a) (m.join c b))
  pub join_right : (a b c : L) → T (m.valid a) → T (m.valid b) → T (m.valid c) → T (m.no_longer a b) → T (m.no_longer (m.join a c) (m.join b c))

-- Checks that run in order, and the answer of a call: the first check that fails is told, or else the result is given.
use Rattle.std.specs.Prelude.{ℕ, Bool, cond, List, [], ◌∷◌, Some, None, Ok, Err, Option, Result}

-- what a caller is told of a failed check: its number, and the bit position of the field at fault where there is one
pub record Told : Type 0 where
  pub number : ℕ
  pub position : Option ℕ

abbrev pub refusal : ℕ → Told
refusal n = record { number = n; position = None }

abbrev pub refusal_at : ℕ → ℕ → Told
refusal_at n bit = record { number = n; position = Some bit }

-- a check: whether it fails, and what is told if so
abbrev pub Check : Type 0
Check = Bool × Told

-- what the first failed check tells
abbrev pub first_failed : List Check → Option Told
first_failed [] = None
first_failed (c ∷ cs) = cond c.0 (Some c.1) (first_failed cs)

-- the answer of a call: what the first failed check tells, or else the result
abbrev pub answered : {A : Type 0} → Option Told → A → Result A Told
answered None x = Ok x
answered (Some t) x = Err t

-- an answer of the program, read by what its result means and what its refusal tells
abbrev pub outcome : {A B R : Type 0} → (A → B) → (R → Told) → Result A R → Result B Told
outcome means told (Ok x) = Ok (means x)
outcome means told (Err r) = Err (told r)

-- Arc numbers in 15 places: what they stand for, and how they are laid out.
use Rattle.std.specs.Prelude.{◌≡◌, ℕ, ◌-◌, ◌≤◌, List, [], ◌∷◌, ◌++◌, length, take, replicate, Some, None, Option, cond, nat_lt}
use Rattle.std.proofs.Common.{arith, refl}
use Rattle.std.proofs.lemmas.List.{length-take-le}
use Rattle.network.specs.declared.numbers.ArcNumbers.TheInside.{Inside}

-- the numbers that stand in the places
abbrev pub numbers_in : Inside → List ℕ
numbers_in a = take a.count a.places

-- there are 15 places, and each after the last number holds 0
abbrev pub IsPadded : Inside → Type 0
IsPadded a = (a.count ≤ 15) × (length a.places ≡ 15) × (a.places ≡ take a.count a.places ++ replicate (15 - a.count) 0)

-- numbers laid out in the places
abbrev pub padded : List ℕ → Inside
padded numbers = record { places = numbers ++ replicate (15 - length numbers) 0; count = length numbers }

pub padded_back : (a : Inside) → IsPadded a → padded (numbers_in a) ≡ a
padded_back a h =
    let counted : length (take a.count a.places) ≡ a.count = length-take-le a.count a.places (omega (arith, h.0, h.1)) in
    rw (counted, ← h.2) refl

-- numbers and one more, or none where there are 15 already
abbrev pub with_number : List ℕ → ℕ → Option (List ℕ)
with_number numbers number = cond (nat_lt (length numbers) 15) (Some (numbers ++ number ∷ [])) None

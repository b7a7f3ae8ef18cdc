-- The standard kinds. Weight, delay, jitter, charge and hops add up from 0, and a sum stops at
-- 4,294,967,295. Width is the least capacity on the way, and the greater width is the shorter.
use Rattle.std.specs.Prelude.{ℕ, ◌+◌, min, nat_le}
use Rattle.network.specs.declared.arc.Arc.{Arc}
use Rattle.length.specs.declared.standard.StandardKind.{StandardKind}
use Rattle.length.specs.declared.standard.StandardKind.TheVariants.{Weight, Delay, Jitter, Charge, Hops, Width}
use Rattle.length.specs.Model.{Model}

-- a sum that stops at the greatest number of 32 bits
abbrev pub capped_sum : ℕ → ℕ → ℕ
capped_sum a b = min (a + b) 4294967295

-- lengths that add up from 0, by a figure of each arc
abbrev pub adding : (Arc → ℕ) → Model ℕ
adding figure =
    record { valid = λ x. nat_le x 4294967295; arc = figure; empty = 0; join = capped_sum; no_longer = nat_le }

-- the least capacity on the way; the empty length is the greatest capacity, and the greater width is the shorter
abbrev pub narrowing : Model ℕ
narrowing = record { valid = λ x. nat_le x 255; arc = λ a. a.capacity; empty = 255; join = min; no_longer = λ a b. nat_le b a }

abbrev pub standard : StandardKind → Model ℕ
standard Weight = adding (λ a. a.weight)
standard Delay = adding (λ a. a.delay)
standard Jitter = adding (λ a. a.jitter)
standard Charge = adding (λ a. a.charge)
standard Hops = adding (λ a. 1)
standard Width = narrowing

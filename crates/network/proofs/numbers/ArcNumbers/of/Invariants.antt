-- The first numbers stand in the first places, and are below 256; the other places hold 0.
use Rattle.std.proofs.Common.{◌≡◌, ℕ, true, ltb, ◌++◌, take, drop, replicate}
use Rattle.network.specs.Lists.{all_of}
use Rattle.network.proofs.numbers.ArcNumbers.of.Given as goal

abbrev pub invariant-loop-place : goal.invariant-loop-place
invariant-loop-place l = record { kept : l.places ≡ take l.place l.row ++ drop l.place (replicate {A = ℕ} 15 0); below : all_of (λ i. ltb i 256) (take l.place l.row) ≡ true }

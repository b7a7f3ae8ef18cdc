-- The numbers and one more stand in the places, and 0 after them.
use Rattle.std.proofs.Common.{◌≡◌, ℕ, suc, ◌+◌, ◌-◌, ◌<◌, List, [], ◌∷◌, ◌++◌, length, take, replicate, sym, ap, ◌∙◌, arith, append_assoc, length-take-le, subst}
use Rattle.std.specs.Prelude.{slice_set}
use Rattle.std.proofs.lemmas.List.{length-set, set_at, take_more_set}
use Rattle.network.proofs.numbers.ArcNumbers.with.Goals as goal

one_more : (places : List ℕ) (count number : ℕ) → count < 15 → length places ≡ 15 → places ≡ take count places ++ replicate (15 - count) 0
    → slice_set places count number ≡ take (count + 1) (slice_set places count number) ++ replicate (15 - (count + 1)) 0
one_more places count number few long is =
    let left : 15 - count ≡ suc (15 - (count + 1)) = omega arith in
    let blank : replicate {A = ℕ} (15 - count) 0 ≡ 0 ∷ replicate (15 - (count + 1)) 0 = ap (λ (n : ℕ). replicate {A = ℕ} n 0) left in
    let counted : length (take count places) ≡ count = length-take-le count places (omega arith) in
    let whole : places ≡ take count places ++ (0 ∷ replicate (15 - (count + 1)) 0) = subst (λ z. places ≡ take count places ++ z) blank is in
    let put = set_at (take count places) 0 (replicate (15 - (count + 1)) 0) number count counted in
    ap (λ z. slice_set z count number) whole ∙ put
    ∙ sym (append_assoc (take count places) (number ∷ []) (replicate (15 - (count + 1)) 0))
    ∙ ap (λ z. z ++ replicate (15 - (count + 1)) 0) (sym (take_more_set places count number (omega arith)))

pub invariant_of-result : goal.invariant_of-result
invariant_of-result c =
    let is = c.self.invariant in
    let places : List ℕ = c.self.inside.places in
    let count : ℕ = c.self.inside.count in
    let more = one_more places count c.args.number c.if-self-ge15.false is.1 is.2 in
    (omega arith, length-set places c.from.result c.args.number ∙ is.1, rw c.from.ensures more)

-- Each turn puts one number more into its place, and the last puts the last.
use Rattle.std.proofs.Common.{◌≡◌, ◌-◌, ◌<◌, ◌≤◌, ℕ, List, ltb, ◌++◌, length, get_or, take, drop, replicate, refl, sym, ap, ◌∙◌, arith, rules}
use Rattle.std.proofs.lemmas.Bool.{and_from}
use Rattle.std.proofs.lemmas.List.{drop-replicate, length-append, length-replicate, take_all}
use Rattle.std.proofs.lemmas.List.Folds.{list_all_more}
use Rattle.std.proofs.Math.Seq.{take-append_seam}
use Rattle.network.specs.ListsLemmas.{enter_at}
use Rattle.network.proofs.numbers.ArcNumbers.of.Goals as goal

pub loop-place-preserved : goal.loop-place-preserved
loop-place-preserved c =
    let row = c.args.row.now in
    let i = c.loop-place.place in
    let number : get_or row i 0 ≡ c.in_ok-places.field-0 = search rules in
    let room : i < 15 = omega (arith, c.if-row-gt15.false, c.loop-place-test.true) in
    let kept = enter_at row (replicate {A = ℕ} 15 0) c.loop-place.places i i c.in_ok-places.field-0 0 c.loop-place.invariant.kept refl c.loop-place-test.true room number in
    let below = list_all_more (λ k. ltb k 256) row i 0 c.loop-place-test.true ∙ and_from _ _ c.loop-place.invariant.below (search rules) in
    record { kept = kept; below = below }

pub invariant_of-result : goal.invariant_of-result
invariant_of-result c =
    let row = c.args.row.now in
    let places = c.loop-place.places in
    let n = length row in
    let blank : List ℕ = replicate (15 - n) 0 in
    let few : n ≤ 15 = omega (arith, c.if-row-gt15.false) in
    let last : c.loop-place.place ≡ n = omega (arith, c.loop-place-test.false, c.loop-place.auto.place-end) in
    let is : places ≡ row ++ blank =
    c.loop-place.invariant.kept ∙ (ap (λ k. take k row ++ drop k (replicate {A = ℕ} 15 0)) last ∙ (ap (λ z. z ++ drop n (replicate {A = ℕ} 15 0)) (take_all n row (omega arith)) ∙ ap (λ z. row ++ z) (drop-replicate n 15 0))) in
    let long : length places ≡ 15 = ap length is ∙ (length-append row blank ∙ omega (arith, few, length-replicate {A = ℕ} (15 - n) 0)) in
    let first : take n places ≡ row = ap (take n) is ∙ take-append_seam row blank in
    (few, long, is ∙ ap (λ z. z ++ blank) (sym first))

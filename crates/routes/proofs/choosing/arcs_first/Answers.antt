-- The first place that differs decides, and else the number of arcs.
use Rattle.std.proofs.Common.{◌≡◌, Bool, true, false, cond, ◌&&◌, ◌||◌, eqb, ltb, Ordering, Less, Equal, Greater, sym, refl, ◌∙◌, subst}
use Rattle.std.proofs.lemmas.Cmp.{same_from_slice_cmp}
use Rattle.std.specs.Ordering.{MatchOrdering, nat_cmp, is_le}
use Rattle.network.specs.Lists.{place_by_place}
use Rattle.routes.proofs.choosing.arcs_first.Goals as goal

-- what the first places decide, by whether the first is less or the same, and what the others decide
at_first : (less same rest : Bool) (o : Ordering) → o ≡ cond less Less (cond same Equal Greater)
    → MatchOrdering o ((less || (same && rest)) ≡ true) ((less || (same && rest)) ≡ rest) ((less || (same && rest)) ≡ false)
at_first true same rest o e = subst (λ o. MatchOrdering o (true ≡ true) (true ≡ rest) (true ≡ false)) (sym e) refl
at_first false true rest o e = subst (λ o. MatchOrdering o (rest ≡ true) (rest ≡ rest) (rest ≡ false)) (sym e) refl
at_first false false rest o e = subst (λ o. MatchOrdering o (false ≡ true) (false ≡ rest) (false ≡ false)) (sym e) refl

pub returns : goal.returns
returns c =
    c.is_le.ensures
    ∙ same_from_slice_cmp nat_cmp is_le place_by_place refl (λ y ys. refl) (λ x xs. refl) (λ x y xs ys. at_first (ltb x y) (eqb x y) (place_by_place xs ys))
    c.args.a.now c.args.b.now c.cmp.result c.cmp.ensures

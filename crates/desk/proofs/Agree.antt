-- Two networks that agree on the arcs of a walk agree on the walk.
use Rattle.std.proofs.Common.{◌≡◌, ℕ, cond, ◌&&◌, eqb, ltb, leb, List, [], ◌∷◌, map, None, refl, ap, ◌∙◌, inl, inr}
use Rattle.network.specs.declared.arc.Arc.{Arc}
use Rattle.network.specs.Lists.{In}
use Rattle.network.specs.Net.{Net, arc_count, arc_at}
use Rattle.length.specs.Model.{Model}
use Rattle.length.specs.Walks.{follow, walk_length}

module _ (M N : Net) (count : arc_count M ≡ arc_count N) where
  abbrev pub Agree : List ℕ → Type 0
  Agree r = (i : ℕ) → In i r → arc_at M i ≡ arc_at N i

  rest : (i : ℕ) (is : List ℕ) → Agree (i ∷ is) → Agree is
  rest i is h j k = h j (inr k)

  pub follow_agree : (w s : ℕ) (r : List ℕ) → Agree r → follow M w s r ≡ follow N w s r
  follow_agree w s [] h = refl
  follow_agree w s (i ∷ is) h =
      ap (λ (a : Arc). cond (ltb i (arc_count M) && leb w a.capacity && eqb a.from s) (follow M w a.to is) None) (h i (inl refl))
      ∙ (ap (λ c. cond (ltb i c && leb w (arc_at N i).capacity && eqb (arc_at N i).from s) (follow M w (arc_at N i).to is) None) count
      ∙ ap (λ o. cond (ltb i (arc_count N) && leb w (arc_at N i).capacity && eqb (arc_at N i).from s) o None) (follow_agree w (arc_at N i).to is (rest i is h)))

  pub walk_agree : {L : Type 0} (m : Model L) (r : List ℕ) → Agree r → walk_length m M r ≡ walk_length m N r
  walk_agree m [] h = refl
  walk_agree m (i ∷ is) h =
      ap (λ (a : Arc). m.join (m.arc a) (walk_length m M is)) (h i (inl refl)) ∙ ap (m.join (m.arc (arc_at N i))) (walk_agree m is (rest i is h))

  pub sites_agree : (r : List ℕ) → Agree r → map (λ i. (arc_at M i).to) r ≡ map (λ i. (arc_at N i).to) r
  sites_agree [] h = refl
  sites_agree (i ∷ is) h = ap (λ (a : Arc). a.to ∷ map (λ i. (arc_at M i).to) is) (h i (inl refl)) ∙ ap (λ r. (arc_at N i).to ∷ r) (sites_agree is (rest i is h))

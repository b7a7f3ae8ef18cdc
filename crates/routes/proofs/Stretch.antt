-- The line that the code makes of a partial route is its line: that of the empty one, and that of one arc longer.
use Rattle.std.proofs.Common.{◌≡◌, ℕ, ◌<◌, ◌≤◌, Bool, true, false, cond, not, ◌&&◌, eqb, ltb, leb, List, [], ◌∷◌, ◌++◌, length, get_or, Some, None, Option, unwrap_or, sym, refl, ap, ◌∙◌, arith}
use Rattle.std.specs.Option.{option_map}
use Rattle.std.proofs.Math.Bool.{and-true}
use Rattle.std.proofs.lemmas.Bool.{and_parts, lt-ltb, ltb-true}
use Rattle.std.proofs.lemmas.List.{length-append}
use Rattle.network.specs.declared.arc.Arc.{Arc}
use Rattle.network.specs.Lists.{all_of, among}
use Rattle.network.specs.Net.{Net, WellFormed, arc_at, arc_count}
use Rattle.network.specs.Numbers.{with_number}
use Rattle.length.specs.declared.standard.StandardKind.{StandardKind}
use Rattle.length.specs.declared.standard.StandardKind.TheVariants.{Delay, Jitter, Charge, Hops}
use Rattle.length.specs.Model.{Model, Lawful}
use Rattle.length.specs.Standard.{capped_sum, standard}
use Rattle.length.specs.Walks.{usable, sites_along, walk_length, arc_length}
use Rattle.length.specs.Lawful.{standard_lawful}
use Rattle.length.proofs.Least.{to_below}
use Rattle.length.proofs.Walks.{walk_push}
use Rattle.routes.specs.declared.enquiry.Enquiry.{Enquiry}
use Rattle.routes.specs.declared.line.Line.{Line}
use Rattle.routes.specs.declared.filling.LentTables.{LentTables}
use Rattle.routes.specs.Totals.{limits_of, total}
use Rattle.routes.specs.Routes.{end_of}
use Rattle.routes.specs.Partial.{is_admissible, at_most, is_partial, projected, rest_from}
use Rattle.routes.specs.Lines.{HoldsRests, RestsHold, following_arc, line_of, line_within, next_line, stretched, totals_of, totals_with, totals_within}
use Rattle.routes.proofs.Enumerate.{hops_total}
use Rattle.routes.proofs.Parents.{test, walk_in}
use Rattle.routes.proofs.Steps.{can_follow, end_step, partial_step}

four : (a b c d a' b' c' d' : Bool) → a ≡ a' → b ≡ b' → c ≡ c' → d ≡ d' → (a && (b && (c && (d && true)))) ≡ (a' && (b' && (c' && d')))
four a b c d a' b' c' d' p₁ p₂ p₃ p₄ = rw (p₁, p₂, p₃, p₄, and-true d')

module _ {K L : Type 0} (model : K → Model L) (net : Net) (e : Enquiry K) (rests : LentTables L) (hold : RestsHold model net e rests) where
  module _ (arcs : List ℕ) (u : ℕ) (few : length arcs ≤ 15) (ends : end_of net e arcs ≡ Some u) (below : u < net.sites) where
    -- the limits of a row of arcs, by the tables
    one_limit : (kind : StandardKind) (table : List (Option ℕ)) (limit : ℕ) → HoldsRests (standard kind) net e.width e.destination table
        → at_most (projected net e (standard kind) arcs) limit ≡ at_most (option_map ((standard kind).join (walk_length (standard kind) net arcs)) (get_or table u None)) limit
    one_limit kind table limit holds =
        ap (λ o. at_most (option_map ((standard kind).join (walk_length (standard kind) net arcs)) (rest_from net e (standard kind) o)) limit) ends
        ∙ ap (λ o. at_most (option_map ((standard kind).join (walk_length (standard kind) net arcs)) o) limit) (sym (holds.1 u below))

    hops : total net Hops arcs ≡ length arcs
    hops = hops_total net arcs ∙ omega (arith, few)

    limits : all_of (λ l. at_most (projected net e (standard l.0) arcs) l.1) (limits_of e.limits) ≡ totals_within (totals_of net arcs) (length arcs) e.limits rests u
    limits =
        four _ _ _ _ _ _ _ _ (one_limit Delay rests.delay.now e.limits.delay hold.by_delay) (one_limit Jitter rests.jitter.now e.limits.jitter hold.by_jitter)
        (one_limit Charge rests.charge.now e.limits.charge hold.by_charge)
        (one_limit Hops rests.hops.now e.limits.hops hold.by_hops ∙ ap (λ n. at_most (option_map (capped_sum n) (get_or rests.hops.now u None)) e.limits.hops) hops)

    -- whether a row of arcs is admissible, and its line, by the least length from its end
    by_rest : (o : Option L) → rest_from net e (model e.kind) (end_of net e arcs) ≡ o
        → cond (is_admissible model net e arcs) (Some (line_of model net e false arcs)) None
        ≡ elim o as (λ _. Option (Line L)) [
          | None ↦ None
          | Some rest ↦ cond (totals_within (totals_of net arcs) (length arcs) e.limits rests u)
              (Some (record {
                length = walk_length (model e.kind) net arcs;
                projected = (model e.kind).join (walk_length (model e.kind) net arcs) rest;
                totals = totals_of net arcs;
                arcs = arcs;
                end = u;
                taken = false;
              }))
              None
        ]
    by_rest None q = rw q refl
    by_rest (Some rest) q = rw (q, limits) (ap (λ o. cond (totals_within (totals_of net arcs) (length arcs) e.limits rests u)
        (Some (record {
          length = walk_length (model e.kind) net arcs;
          projected = (model e.kind).join (walk_length (model e.kind) net arcs) rest;
          totals = totals_of net arcs;
          arcs = arcs;
          end = unwrap_or o 0;
          taken = false;
        }))
        None) ends)

    pub line_is : cond (is_admissible model net e arcs) (Some (line_of model net e false arcs)) None
        ≡ line_within (model e.kind) e.limits rests (walk_length (model e.kind) net arcs) (totals_of net arcs) arcs u
    line_is = by_rest (get_or rests.length.now u None) (ap (rest_from net e (model e.kind)) ends ∙ sym (hold.by_kind.1 u below))

  module _ (law : Lawful (model e.kind)) (wf : WellFormed net) (p : List ℕ) (i u : ℕ) (ends : end_of net e p ≡ Some u) (short : length p < 15) where
    module _ (follows : test net e.width u i ≡ true) where
      there_i : i < arc_count net
      there_i = ltb-true i (arc_count net) (and_parts (ltb i (arc_count net)) (leb e.width (arc_at net i).capacity) (and_parts (usable net e.width i) (eqb (arc_at net i).from u) follows).0).0

      pushed : {M : Type 0} (k : Model M) → Lawful k → walk_length k net (p ++ i ∷ []) ≡ k.join (walk_length k net p) (arc_length k net i)
      pushed k klaw = walk_push k klaw net wf p i (walk_in net e.width k klaw wf e.source p u ends) there_i

      totals_push : totals_of net (p ++ i ∷ []) ≡ totals_with (totals_of net p) (arc_at net i)
      totals_push = λ k.
          record {
            delay = pushed (standard Delay) (standard_lawful Delay) k;
            jitter = pushed (standard Jitter) (standard_lawful Jitter) k;
            charge = pushed (standard Charge) (standard_lawful Charge) k;
          }

      -- the line of one arc more
      stretch_step : (b : Bool) → cond (is_admissible model net e (p ++ i ∷ [])) (Some (line_of model net e false (p ++ i ∷ []))) None
          ≡ stretched (model e.kind) e.limits rests (arc_at net i) i (line_of model net e b p)
      stretch_step b =
          let m = model e.kind in
          let arc = arc_at net i in
          let ended : end_of net e (p ++ i ∷ []) ≡ Some arc.to = end_step net e p i u ends ∙ ap (λ t. cond t (Some arc.to) None) follows in
          let below = to_below (standard Delay) (standard_lawful Delay) net wf e.width 0 u i follows in
          let room : with_number p i ≡ Some (p ++ i ∷ []) = ap (λ t. cond t (Some (p ++ i ∷ [])) None) (lt-ltb (length p) 15 short) in
          line_is (p ++ i ∷ []) arc.to (omega (arith, short, length-append p (i ∷ []))) ended below
          ∙ (λ k. line_within m e.limits rests (pushed m law k) (totals_push k) (p ++ i ∷ []) arc.to)
          ∙ ap (λ (o : Option (List ℕ)). elim o as (λ _. Option (Line L)) [
            | None ↦ None
            | Some arcs ↦ line_within m e.limits rests (m.join (walk_length m net p) (m.arc arc)) (totals_with (totals_of net p) arc) arcs arc.to
          ]) (sym room)

    -- the next line, from whether the arc may follow
    pub next_step : (b : Bool) → is_partial net e p ≡ true → eqb u e.destination ≡ false
        → next_line model net e p i ≡ elim (following_arc net e (line_of model net e b p) i) as (λ _. Option (Line L)) [
          | None ↦ None
          | Some arc ↦ stretched (model e.kind) e.limits rests arc i (line_of model net e b p)
        ]
    next_step b partial away =
        ap (λ t. cond (t && is_admissible model net e (p ++ i ∷ [])) (Some (line_of model net e false (p ++ i ∷ []))) None) (partial_step net e p i u ends partial away)
        ∙ go (test net e.width u i) (among (arc_at net i).to (sites_along net e.source p)) refl refl
        ∙ ap (λ (o : Option Arc). elim o as (λ _. Option (Line L)) [ None ↦ None | Some arc ↦ stretched (model e.kind) e.limits rests arc i (line_of model net e b p) ]) (sym same_arc)
      where
        same_arc : following_arc net e (line_of model net e b p) i
            ≡ cond (test net e.width u i && not (among (arc_at net i).to (sites_along net e.source p))) (Some (arc_at net i)) None
        same_arc =
            ap (λ o. cond ((usable net e.width i && eqb (arc_at net i).from (unwrap_or o 0)) && not (among (arc_at net i).to (sites_along net e.source p))) (Some (arc_at net i)) None) ends

        go : (t s : Bool) → test net e.width u i ≡ t → among (arc_at net i).to (sites_along net e.source p) ≡ s
            → cond (can_follow net e p i u ends && is_admissible model net e (p ++ i ∷ [])) (Some (line_of model net e false (p ++ i ∷ []))) None
            ≡ elim (cond (test net e.width u i && not (among (arc_at net i).to (sites_along net e.source p))) (Some (arc_at net i)) None) as (λ _. Option (Line L)) [
              | None ↦ None
              | Some arc ↦ stretched (model e.kind) e.limits rests arc i (line_of model net e b p)
            ]
        go false s q r = rw (q) refl
        go true true q r = rw (q, r) refl
        go true false q r = rw (q, r) (stretch_step q b)

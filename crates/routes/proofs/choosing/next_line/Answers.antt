-- Each turn looks at one line more.
use Rattle.std.proofs.Common.{◌≡◌, ◌+◌, length, sym, refl, ◌∙◌, subst, rules, tests, arith}
use Rattle.std.proofs.lemmas.Option.{slice_get_read}
use Rattle.std.specs.Option.{option_map}
use Rattle.routes.specs.Choice.{AllSound, Chosen}
use Rattle.routes.proofs.Chosen.{Best, best_chosen, beats, stays, stays_before, takes_over}
use Rattle.routes.proofs.choosing.next_line.Goals as goal
use Rattle.routes.proofs.choosing.next_line.Goals.{then-not-line+then-is_none_or, else-not-line, else-not-line-via-then-not-line+else-is_none_or, else-not-line-via-else-not-line}

pub loop-place-preserved : goal.loop-place-preserved
loop-place-preserved g c =
    let kind = c.args.kind.now in
    let m = g.K.Kind.model kind in
    let law = g.met.K.Kind.lawful kind in
    let lines = c.args.lines.now in
    let place = c.loop-place.place in
    let best = c.loop-place.best in
    let line = c.index-lines-place.result in
    let there = slice_get_read lines (length lines) place line refl c.loop-place-test.true c.index-lines-place.is in
    let sound : AllSound m lines (place + 1) = λ j other h at. c.requires j other (omega (arith, c.loop-place-test.true)) at in
    elim c.if-not-line.branch [
      | then-not-line+then-is_none_or w ↦
          let is : w.is_none_or.result ≡ beats m line best = search (rules, tests) in
          subst (Best m lines (place + 1)) (sym w.best-is) (takes_over m law lines place sound line there best c.loop-place.invariant w.if-not-line.true (sym is ∙ w.if-is_none_or.true), there)
      | else-not-line w ↦
          subst (Best m lines (place + 1)) (sym w.best-is)
          (elim w.else-not-line.branch [
            | else-not-line-via-then-not-line+else-is_none_or v ↦
                let is : v.is_none_or.result ≡ beats m line best = search (rules, tests) in
                stays_before m law lines place sound line there best c.loop-place.invariant (sym is ∙ v.if-is_none_or.false)
            | else-not-line-via-else-not-line v ↦ stays m law lines place sound line there best c.loop-place.invariant v.if-not-line.false
          ])
    ]

pub returns : goal.returns
returns g c =
    let m = g.K.Kind.model c.args.kind.now in
    let best = c.loop-place.best in
    let is : c.map.result ≡ option_map (λ b. b.0) best = search (rules, tests) in
    subst (Chosen m c.args.lines.now (length c.args.lines.now)) (sym is) (best_chosen m c.args.lines.now (length c.args.lines.now) c.loop-place.place best (omega arith) c.loop-place.invariant)

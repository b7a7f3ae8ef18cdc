-- The checks of the arcs so far pass, and then come those of the next.
use Rattle.std.proofs.Common.{◌≡◌, ◌+◌, sym, ap, ◌∙◌, arith}
use Rattle.std.proofs.lemmas.Grind.{common_steps}
use Rattle.std.proofs.lemmas.Result.{err_from_is_err_and}
use Rattle.network.specs.Checks.{first_failed}
use Rattle.sheet.specs.Layout.{arc_checks, read_told}
use Rattle.sheet.specs.Passes.{joined_fails, joined_counting_more, first_failed_append}
use Rattle.sheet.specs.Sound.{arc_checks_are}
use Rattle.sheet.proofs.reading.check_arcs.Goals as goal

pub returns-in_err-check_arc : goal.returns-in_err-check_arc
returns-in_err-check_arc c =
    let bytes = c.args.reader.now.bytes.now in
    let i = c.loop-i._i in
    let inv = c.loop-i.invariant in
    let z : 0 + i ≡ i = omega arith in
    let here = arc_checks_are bytes c.loop-i.reader.bytes.now c.loop-i.reader.position i c.args.head.sites (ap (λ x. x.now) inv.2) inv.1 c.requires.sites in
    let p = err_from_is_err_and c.from_residual.result c.from_residual.ensures.1 in
    rw (p.1, p.2) (sym (joined_fails (arc_checks bytes) 0 i c.args.head.arcs (read_told c.in_err-check_arc.field-0.0) c.loop-i-test.true inv.0 (ap (λ k. first_failed (arc_checks bytes k)) z ∙ sym (c.in_err-check_arc.ensures.told ∙ here))))

pub loop-i-preserved : goal.loop-i-preserved
loop-i-preserved c = grind (arith, common_steps, joined_counting_more, first_failed_append, arc_checks_are)

-- The work came to an end with too few lines, or its routes are those that are asked for.
use Rattle.std.proofs.Common.{◌≡◌, ℕ, cond, ◌++◌, length, drop, Some, Option, sym, ap, ◌∙◌, subst, arith}
use Rattle.std.proofs.lemmas.Bool.{le-ltb}
use Rattle.std.proofs.lemmas.List.{length-take}
use Rattle.arrayvec.specs.ArrayVec.{ArrayVec}
use Rattle.network.specs.Copies.{copy_meaning}
use Rattle.routes.specs.Enquire.{lines_that_count}
use Rattle.routes.specs.Partial.{line_count}
use Rattle.routes.specs.Routes.{list_after, route_list}
use Rattle.routes.specs.Rows.{rows_at}
use Rattle.routes.specs.Work.{WorkDone}
use Rattle.routes.proofs.Listed.{listed_inside, rows_listed}
use Rattle.routes.proofs.enquiring.find_routes.Goals as goal

pub list_rows-requires-clause-inside : goal.list_rows-requires-clause-inside
list_rows-requires-clause-inside g c =
    let search = c.args.search.now in
    let net = copy_meaning search.network.now in
    let e = search.enquiry.now in
    let model = g.K.Kind.model in
    let book = c.take_lines.new.notebook in
    let some : c.take_lines.result ≡ Some c.in_ok-finished.finished = grind arith in
    let work = subst (λ (o : Option (ArrayVec ℕ)). WorkDone model net e o book (length c.of-lines.result.lines.now)) some c.take_lines.ensures in
    rw c.as_slice.ensures.value (listed_inside model net e c.in_ok-finished.finished.items book.lines.now book.used work.0 c.lines_used.result.now c.lines_used.ensures book.room)

pub returns-clause-list : goal.returns-clause-list
returns-clause-list g c =
    let search = c.args.search.now in
    let net = copy_meaning search.network.now in
    let e = search.enquiry.now in
    let model = g.K.Kind.model in
    let list = c.args.list.now in
    let some : c.take_lines.result ≡ Some c.in_ok-finished.finished = grind arith in
    let work = subst (λ (o : Option (ArrayVec ℕ)). WorkDone model net e o c.take_lines.new.notebook (length c.of-lines.result.lines.now)) some c.take_lines.ensures in
    let enough = le-ltb (lines_that_count (length c.args.notebook.now)) (line_count model net e) (omega (arith, work.1, ap length c.of-lines.ensures.lines, length-take c.min-count.result c.args.notebook.now, c.min-count.ensures)) in
    let finished = c.in_ok-finished.finished.items in
    let rows = rows_listed model net e finished c.take_lines.new.notebook.lines.now c.take_lines.new.notebook.used work.0 c.lines_used.result.now c.lines_used.ensures in
    c.list_rows.ensures
    ∙ (λ k. rows_at c.lines_used.result.now (c.as_slice.ensures.value k) ++ drop (length (c.as_slice.ensures.value k)) list)
    ∙ (λ k. rows k ++ drop (work.0.routes k) list)
    ∙ sym (ap (λ b. cond b list (list_after net (route_list model net e) list)) enough)

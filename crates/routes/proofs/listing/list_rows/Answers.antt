-- Each turn writes one row more, and after the last all are written.
use Rattle.std.proofs.Common.{◌≡◌, ◌<◌, length, get_or, refl, sym, ◌∙◌, arith}
use Rattle.std.proofs.lemmas.List.{get_or-map, length-map}
use Rattle.std.proofs.lemmas.Option.{slice_get_read}
use Rattle.network.specs.ListsLemmas.{enter_at}
use Rattle.routes.specs.Rows.{no_row, row_at, rows_at}
use Rattle.routes.proofs.Listed.{row_there}
use Rattle.routes.proofs.listing.list_rows.Goals as goal

pub loop-row-preserved : goal.loop-row-preserved
loop-row-preserved g c =
    let notebook = c.args.notebook.now in
    let places = c.args.places.now in
    let i = c.loop-row.row in
    let rows = rows_at notebook places in
    let long = length-map places (row_at notebook) in
    let there = slice_get_read notebook (length notebook) (get_or places i 0) c.index-notebook-place.result refl (c.requires.inside i c.loop-row-test.true) c.index-notebook-place.is in
    let is : get_or rows i no_row ≡ c.row_of.result =
    get_or-map (row_at notebook) places i 0 no_row c.loop-row-test.true
    ∙ row_there notebook (get_or places i 0) c.index-notebook-place.result there ∙ sym c.row_of.ensures in
    let inside : i < length rows = omega (arith, c.loop-row-test.true) in
    let room : i < length c.args.list.now = omega (arith, c.requires.room, c.loop-row-test.true) in
    enter_at rows c.args.list.now c.loop-row.list i i c.row_of.result no_row c.loop-row.invariant refl inside room is

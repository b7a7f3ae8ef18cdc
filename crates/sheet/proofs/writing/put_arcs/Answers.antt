-- Each arc is there to be written, and is written after those before it.
use Rattle.std.proofs.Common.{arith, rules}
use Rattle.std.proofs.lemmas.Option.{slice_get-get_or}
use Rattle.network.specs.Net.{no_arc}
use Rattle.sheet.proofs.Pieces.{buffer_none, buffer_more}
use Rattle.sheet.proofs.writing.put_arcs.Goals as goal

pub loop-number-init : goal.loop-number-init
loop-number-init g c = search (rules, buffer_none)

pub unwrap-arc-requires : goal.unwrap-arc-requires
unwrap-arc-requires g c =
    let there = slice_get-get_or (g.N.Network.meaning c.args.network.now).arcs c.loop-number.number no_arc (omega arith) in
    grind (arith, there)

pub loop-number-preserved : goal.loop-number-preserved
loop-number-preserved g c = grind (arith, buffer_more, slice_get-get_or)

-- The word of an arc, field by field.
use Rattle.std.proofs.Common.{◌<◌, arith, rules}
use Rattle.sheet.specs.Arcs.{word_of_arc}
use Rattle.sheet.proofs.words.ArcWordFromArc.from.Goals as goal

pub returns : goal.returns
returns c =
    let is = word_of_arc c.args.arc in
    let small : c.args.arc.capacity < 256 = search rules in
    omega arith

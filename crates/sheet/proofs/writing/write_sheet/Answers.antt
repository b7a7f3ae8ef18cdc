-- What is written is the sheet, and what follows it is as it was; so it reads back.
use Rattle.std.proofs.Common.{◌≤◌, ltb, ◌++◌, length, take, drop, sym, ap, ◌∙◌, arith, rules, take_at}
use Rattle.std.proofs.lemmas.Bool.{le-ltb, cond-false}
use Rattle.network.specs.Net.{arc_count}
use Rattle.sheet.specs.Layout.{sheet_of, sheet_size, read_answer}
use Rattle.sheet.proofs.Pieces.{buffer_whole}
use Rattle.sheet.proofs.Written.{length_sheet, written_reads_back}
use Rattle.sheet.proofs.writing.write_sheet.Goals as goal

pub returns : goal.returns
returns g c =
    let net = g.N.Network.meaning c.args.network.now in
    let old = c.args.buffer.now in
    let size = sheet_size (arc_count net) in
    let room : size ≤ length old = omega arith in
    let whole = buffer_whole net c.sites.result c.arcs-arcs.result old c.put_head.new.buffer c.put_arcs.new.buffer c.sites.ensures c.arcs-arcs.ensures c.put_head.ensures c.put_arcs.ensures in
    record {
      answer = search rules;
      buffer = whole ∙ sym (cond-false (ltb (length old) size) old (sheet_of net ++ drop size old) (le-ltb (length old) size room));
      reads_back = λ _. ap read_answer (ap (take size) whole ∙ take_at (sheet_of net) (drop size old) size (length_sheet net)) ∙ written_reads_back net (g.met.N.Network.formed c.args.network.now);
    }

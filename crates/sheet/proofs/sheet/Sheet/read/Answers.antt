-- Reading answers what the checks tell, and keeps the bytes as they came.
use Rattle.std.proofs.Common.{◌<◌, is_ok, sym, ap, ◌∙◌, arith}
use Rattle.std.proofs.ByRecursion.{All-from_get_or}
use Rattle.sheet.specs.Layout.{sheet_of, net_in, read_answer}
use Rattle.sheet.specs.Sound.{sound, sound_writes_back}
use Rattle.sheet.proofs.sheet.Sheet.read.Goals as goal

pub returns-clause-writes_back : goal.returns-clause-writes_back
returns-clause-writes_back c =
    let bytes = c.args.bytes.now in
    let e = c.keep.ensures in
    let ok = ap (λ xs. is_ok (read_answer xs)) (sym e) ∙ c.keep.result.sound in
    let small = All-from_get_or (λ b. b < 256) bytes 0 (λ i _. omega (arith, c.type_inv.bytes i)) in
    ap (λ xs. sheet_of (net_in xs)) e ∙ sound_writes_back bytes small (sound bytes ok)

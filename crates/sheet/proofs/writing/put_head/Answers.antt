-- The two bytes of a head stand before what was after them.
use Rattle.std.proofs.Common.{◌+◌, ◌*◌, ◌++◌, drop, ap, ◌∙◌}
use Rattle.std.specs.Int.{w16, to_be_bytes}
use Rattle.sheet.proofs.Numbers.{head_bytes_are}
use Rattle.sheet.proofs.writing.put_head.Goals as goal

pub returns : goal.returns
returns c =
    let are = head_bytes_are c.args.sites c.args.arcs c.requires.few_sites c.requires.few_arcs in
    ap (λ xs. xs ++ drop 2 c.args.buffer.now) (c.copy_from_slice.ensures.after ∙ (c.to_be_bytes.ensures ∙ (ap (λ n. to_be_bytes w16 (n * 512 + c.args.arcs)) c.from.ensures ∙ are)))

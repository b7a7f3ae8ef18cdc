-- The eight bytes of a word stand between what was before them and after them.
use Rattle.std.proofs.Common.{◌≡◌, ◌+◌, ◌-◌, ◌++◌, take, drop, ap, ◌∙◌, arith}
use Rattle.std.proofs.lemmas.List.{drop-drop}
use Rattle.sheet.specs.Steps.{word_bytes}
use Rattle.sheet.proofs.writing.put_word.Goals as goal

pub returns : goal.returns
returns c =
    let old = c.args.buffer.now in
    let at = c.args.at in
    let n : at + (at + 8 - at) ≡ at + 8 = omega arith in
    let here : c.copy_from_slice.new.self ≡ word_bytes c.args.word.0 = c.copy_from_slice.ensures.after ∙ c.to_be_bytes.ensures in
    let after = drop-drop (at + 8 - at) at old ∙ ap (λ k. drop k old) n in
    ap (λ xs. take at old ++ (xs ++ drop (at + 8 - at) (drop at old))) here ∙ ap (λ xs. take at old ++ (word_bytes c.args.word.0 ++ xs)) after

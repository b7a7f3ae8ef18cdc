-- The eight bytes of an arc are read as one number, which has the arc.
use Rattle.std.proofs.Common.{◌≡◌, ◌<◌, ◌+◌, ◌*◌, ◌/◌, ◌∙◌, Some, length, get_or, take, drop, sym, ap, arith, rules, length-take}
use Rattle.std.proofs.lemmas.List.{drop-drop, get_or-take}
use Rattle.sheet.specs.Bits.{field, number, bits_of}
use Rattle.sheet.specs.Layout.{kept_bytes, sheet_size, arc_in}
use Rattle.sheet.specs.Words.{arc_in_word}
use Rattle.sheet.specs.FieldsLemmas.{middle, field_of_front, field_of_bytes}
use Rattle.sheet.specs.Layouts.{arc_in_is}
use Rattle.sheet.specs.Sound.{sound, count_in, arc_found}
use Rattle.sheet.proofs.Numbers.{chunk_at}
use Rattle.sheet.proofs.questions.SheetNetwork.arc.Goals as goal

pub returns : goal.returns
returns c =
    let sheet = c.args.self.now in
    let i = c.args.number in
    let bytes = kept_bytes sheet.arcs sheet.bytes in
    let size = (sound bytes sheet.sound).size in
    let count = sheet.arcs_counted ∙ count_in bytes in
    let few = sheet.few_arcs in
    let words = c.as_chunks.result.0.now in
    let place : 8 * (2 + 8 * i) ≡ 16 + 64 * i = omega arith in
    let cut : length words ≡ 256 = search rules in
    let inside : i < length (take c.from.result words) = search rules in
    let here : i < sheet.arcs = let is = c.from.ensures in omega (arith, length-take c.from.result words) in
    let word : c.in_ok-word.word.now ≡ take 8 (drop (2 + 8 * i) sheet.bytes) =
    c.in_ok-word.ensures.lookup.1
    ∙ (get_or-take c.from.result words i c.in_ok-word.word.now (omega arith)
    ∙ (ap (λ xs. get_or xs i c.in_ok-word.word.now) c.as_chunks.ensures.front
    ∙ (chunk_at 8 (length (take 2048 (drop 2 sheet.bytes)) / 8) (take 2048 (drop 2 sheet.bytes)) i c.in_ok-word.word.now (omega arith)
    ∙ (middle (drop 2 sheet.bytes) 2048 (8 * i) 8 (omega arith) ∙ ap (take 8) (drop-drop (8 * i) 2 sheet.bytes))))) in
    let value : c.from_be_bytes.result.0 ≡ field bytes (16 + 64 * i) 64 =
    c.from_be_bytes.ensures
    ∙ (ap (λ xs. number (bits_of xs)) word
    ∙ (sym (field_of_bytes 8 (2 + 8 * i) sheet.bytes)
    ∙ (ap (λ p. field sheet.bytes p 64) place ∙ sym (field_of_front sheet.bytes (sheet_size sheet.arcs) (16 + 64 * i) 64 (omega arith))))) in
    let arc : c.from-2.result ≡ arc_in bytes i = c.from-2.ensures ∙ (ap arc_in_word value ∙ sym (arc_in_is bytes i (omega arith))) in
    ap (λ a. Some a) arc ∙ sym (arc_found bytes i (omega arith))

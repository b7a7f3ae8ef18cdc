-- The first field is the number of sites, and the second that of arcs.
use Rattle.std.proofs.Common.{◌≡◌, Some, ap, ◌∙◌, arith}
use Rattle.sheet.specs.Fields.{next_field, next_position}
use Rattle.sheet.specs.FieldsLemmas.{field_found, left_parts}
use Rattle.sheet.specs.Sound.{head_found}
use Rattle.sheet.proofs.reading.read_head.Goals as goal

pub returns-clause-head : goal.returns-clause-head
returns-clause-head c =
    let bytes = c.args.reader.now.bytes.now in
    let sites = c.in_ok-field.field-0 in
    let arcs = c.in_ok-field-2.field-0 in
    let first = field_found bytes 0 7 sites (c.in_ok-field.ensures.value ∙ ap (λ q. next_field bytes q 7) c.requires) in
    let at : c.field.new.self.position ≡ 7 = c.field.ensures.position ∙ (ap (λ q. next_position bytes q 7) c.requires ∙ first.2) in
    let same : c.field.new.self.bytes.now ≡ bytes = ap (λ x. x.now) c.field.ensures.bytes in
    let next : Some arcs ≡ next_field bytes 7 9 = c.in_ok-field-2.ensures.value ∙ (ap (λ xs. next_field xs c.field.new.self.position 9) same ∙ ap (λ q. next_field bytes q 9) at) in
    let second = field_found bytes 7 9 arcs next in
    let parts = left_parts bytes 7 9 second.1 in
    head_found bytes sites.value arcs.value (ap (λ f. f.value) first.0) (ap (λ f. f.value) second.0) (omega arith)

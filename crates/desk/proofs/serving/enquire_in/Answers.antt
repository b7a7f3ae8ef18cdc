-- An enquiry in a client's memory leaves in it what the enquiry leaves.
use Rattle.std.proofs.Common.{is_some, ap, ◌∙◌}
use Rattle.std.proofs.lemmas.List.{with_items_is}
use Rattle.network.specs.Checks.{first_failed}
use Rattle.routes.specs.Enquire.{early_checks, enquiry_answer}
use Rattle.ledger.specs.Ledgers.{ledger_meaning}
use Rattle.desk.proofs.SameMemory.{same_brought, same_tables}
use Rattle.desk.proofs.serving.enquire_in.Goals as goal

pub returns-clause-tables : goal.returns-clause-tables
returns-clause-tables g c =
    let model = g.K.Kind.model in
    let net = ledger_meaning g.N.Network.meaning c.args.ledger.now in
    let m = c.args.memory.now in
    let did = c.enquire_with in
    let kind = c.as_mut_slice.ensures in
    let delay = c.as_mut_slice-2.ensures in
    let jitter = c.as_mut_slice-3.ensures in
    let charge = c.as_mut_slice-4.ensures in
    let hops = c.as_mut_slice-5.ensures in
    let by_kind = with_items_is m.length did.new.lengths (did.auto.lengths ∙ kind.len) in
    let by_delay = with_items_is m.delay did.new.delay (did.auto.delay ∙ delay.len) in
    let by_jitter = with_items_is m.jitter did.new.jitter (did.auto.jitter ∙ jitter.len) in
    let by_charge = with_items_is m.charge did.new.charge (did.auto.charge ∙ charge.len) in
    let by_hops = with_items_is m.hops did.new.hops (did.auto.hops ∙ hops.len) in
    let same = same_brought c.args.enquiry.now (same_tables kind.value delay.value jitter.value charge.value hops.value) c.as_mut_slice-7.ensures.value c.as_mut_slice-6.ensures.value in
    same_tables by_kind by_delay by_jitter by_charge by_hops ∙ (did.ensures.tables ∙ ap (λ b. (enquiry_answer model net b).tables) same)

pub returns-clause-notebook : goal.returns-clause-notebook
returns-clause-notebook g c some =
    let model = g.K.Kind.model in
    let net = ledger_meaning g.N.Network.meaning c.args.ledger.now in
    let did = c.enquire_with in
    let notebook = c.as_mut_slice-6.ensures in
    let tables = same_tables c.as_mut_slice.ensures.value c.as_mut_slice-2.ensures.value c.as_mut_slice-3.ensures.value c.as_mut_slice-4.ensures.value c.as_mut_slice-5.ensures.value in
    let same = same_brought c.args.enquiry.now tables c.as_mut_slice-7.ensures.value notebook.value in
    with_items_is c.args.memory.now.notebook did.new.notebook (did.auto.notebook ∙ notebook.len)
    ∙ (did.ensures.notebook (ap (λ b. is_some (first_failed (early_checks model net b))) same ∙ some) ∙ notebook.value)

-- An enquiry leaves the notebook as it was where a check fails before the search.
use Rattle.std.proofs.Common.{refl}
use Rattle.routes.specs.Enquire.{enquiry_answer}
use Rattle.ledger.specs.Ledgers.{ledger_meaning}
use Rattle.desk.specs.Turns.{brought_in}
use Rattle.desk.proofs.SameMemory.{failed_early, same_answer}
use Rattle.desk.proofs.serving.answer_enquiry.Goals as goal

pub returns-clause-returned : goal.returns-clause-returned
returns-clause-returned g c =
    let model = g.K.Kind.model in
    let net = ledger_meaning g.N.Network.meaning c.args.ledger.now in
    let b = brought_in c.args.enquiry c.args.memory in
    let did = c.enquire_in-found.ensures in
    let is = same_answer (enquiry_answer model net b) did.answer did.tables did.list in
    record { arcs = refl; lines = did.lines; notebook = λ early. did.notebook (failed_early model net b _ is early) }

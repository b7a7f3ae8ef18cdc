-- The next line is there where the arc may follow and the limits allow it.
use Rattle.std.proofs.Common.{Some, None, Option, sym, ap, ◌∙◌}
use Rattle.network.specs.Copies.{copy_meaning}
use Rattle.network.specs.declared.arc.Arc.{Arc}
use Rattle.network.specs.Fits.{fits_formed}
use Rattle.routes.specs.declared.line.Line.{Line}
use Rattle.routes.specs.Lines.{stretched}
use Rattle.routes.proofs.OnLines.{on_next, on_there}
use Rattle.routes.proofs.extending.Search.extended.Goals as goal

pub following-requires : goal.following-requires
following-requires g c =
    let search = c.args.self.now in
    let net = copy_meaning search.network.now in
    let e = search.enquiry.now in
    on_there g.K.Kind.model net e (g.met.K.Kind.lawful e.kind) (fits_formed net search.network.now.limits) search.asked c.args.line.now c.requires.line

pub returns-in_err-following : goal.returns-in_err-following
returns-in_err-following g c =
    let search = c.args.self.now in
    let net = copy_meaning search.network.now in
    let e = search.enquiry.now in
    let line = c.args.line.now in
    let model = g.K.Kind.model in
    let next = on_next model net e (g.met.K.Kind.lawful e.kind) (fits_formed net search.network.now.limits) search.asked line c.requires.line c.requires.open search.rests.now search.rests_hold c.args.number in
    c.from_residual.ensures
    ∙ ap (λ (o : Option Arc). elim o as (λ _. Option (Line g.row.K-Length.Denot)) [ None ↦ None | Some arc ↦ stretched (model e.kind) e.limits search.rests.now arc c.args.number line ]) c.in_err-following.ensures
    ∙ sym next

pub returns : goal.returns
returns g c =
    let search = c.args.self.now in
    let net = copy_meaning search.network.now in
    let e = search.enquiry.now in
    let line = c.args.line.now in
    let model = g.K.Kind.model in
    let next = on_next model net e (g.met.K.Kind.lawful e.kind) (fits_formed net search.network.now.limits) search.asked line c.requires.line c.requires.open search.rests.now search.rests_hold c.args.number in
    c.stretched.ensures
    ∙ ap (λ (o : Option Arc). elim o as (λ _. Option (Line g.row.K-Length.Denot)) [ None ↦ None | Some arc ↦ stretched (model e.kind) e.limits search.rests.now arc c.args.number line ]) c.in_ok-following.ensures
    ∙ sym next

-- Each step of the code is a step of the work.
use Rattle.std.proofs.Common.{◌≡◌, length, Option, sym, refl, ◌∙◌, subst, arith}
use Rattle.arrayvec.specs.ArrayVec.{ArrayVec}
use Rattle.network.specs.Copies.{copy_meaning}
use Rattle.network.specs.Net.{arc_count}
use Rattle.network.specs.Fits.{fits_formed}
use Rattle.routes.specs.Work.{WorkDone, notebook_after, used_after}
use Rattle.routes.proofs.Chosen.{sound_used}
use Rattle.routes.proofs.Progress.{all_sound}
use Rattle.routes.proofs.Works.{Known, all_wanted, goes_on, none_left_over, step_more, step_room, too_few, widened, widens, wider, work_starts}
use Rattle.routes.proofs.taking.take_lines.Goals as goal
use Rattle.routes.proofs.taking.take_lines.Goals.{in-Some+then-from-enquiry+then-len-enquiry, in_default}

pub taking-init : goal.taking-init
taking-init g c =
    let search = c.args.search.now in
    let net = copy_meaning search.network.now in
    let e = search.enquiry.now in
    let model = g.K.Kind.model in
    let known : Known model net e = record { law = g.met.K.Kind.lawful e.kind; wf = fits_formed net search.network.now.limits; asked = search.asked } in
    let book = c.args.notebook.now in
    let lines = length book.lines.now in
    rw c.new-finished.ensures
    (work_starts model net e known book.lines.now refl (c.in_ok-note.ensures.used ∙ (λ k. used_after (c.start.ensures k) (c.requires k) lines))
    (c.note.ensures.lines ∙ (λ k. notebook_after (c.start.ensures k) (c.requires k) lines book.lines.now)))

pub next_line-requires : goal.next_line-requires
next_line-requires g c =
    let search = c.args.search.now in
    let net = copy_meaning search.network.now in
    let e = search.enquiry.now in
    let model = g.K.Kind.model in
    let known : Known model net e = record { law = g.met.K.Kind.lawful e.kind; wf = fits_formed net search.network.now.limits; asked = search.asked } in
    let book = c.taking.notebook in
    sound_used (model e.kind) book.lines.now book.used c.lines_used.result.now c.lines_used.ensures
    (all_sound model net e known.law known.wf known.asked c.taking.done book.lines.now book.used c.taking.invariant.noted)

pub overflow_add-done : goal.overflow_add-done
overflow_add-done g c =
    let search = c.args.search.now in
    let net = copy_meaning search.network.now in
    let e = search.enquiry.now in
    let model = g.K.Kind.model in
    let known : Known model net e = record { law = g.met.K.Kind.lawful e.kind; wf = fits_formed net search.network.now.limits; asked = search.asked } in
    let room = step_room model net e known c.taking.invariant c.lines_used.ensures c.in-Some.ensures c.mark_taken-line.ensures.line in
    record { fits = omega (arith, room, c.taking.notebook.room) }

pub taking-smaller-then-from-enquiry : goal.taking-smaller-then-from-enquiry
taking-smaller-then-from-enquiry g c =
    let search = c.args.search.now in
    let net = copy_meaning search.network.now in
    let e = search.enquiry.now in
    let model = g.K.Kind.model in
    let known : Known model net e = record { law = g.met.K.Kind.lawful e.kind; wf = fits_formed net search.network.now.limits; asked = search.asked } in
    omega (arith, step_more model net e known c.taking.invariant c.lines_used.ensures c.in-Some.ensures c.mark_taken-line.ensures.line)

pub taking-preserved-then-from-enquiry : goal.taking-preserved-then-from-enquiry
taking-preserved-then-from-enquiry g c =
    let search = c.args.search.now in
    let net = copy_meaning search.network.now in
    let e = search.enquiry.now in
    let model = g.K.Kind.model in
    let known : Known model net e = record { law = g.met.K.Kind.lawful e.kind; wf = fits_formed net search.network.now.limits; asked = search.asked } in
    rw (c.mark_taken-line.ensures.used, c.mark_taken-line.ensures.lines, c.push.ensures.items)
    (goes_on model net e known c.taking.invariant c.lines_used.ensures c.in-Some.ensures c.mark_taken-line.ensures.line (sym c.from.ensures ∙ c.if-from-enquiry.true)
    (λ q. c.if-len-enquiry.false (c.len.ensures.value ∙ c.push.ensures.len ∙ q)))

pub loop-number-init : goal.loop-number-init
loop-number-init g c =
    let search = c.args.search.now in
    let net = copy_meaning search.network.now in
    let e = search.enquiry.now in
    let model = g.K.Kind.model in
    let known : Known model net e = record { law = g.met.K.Kind.lawful e.kind; wf = fits_formed net search.network.now.limits; asked = search.asked } in (
      c.taking.done,
      refl,
      rw (c.mark_taken-line.ensures.used, c.mark_taken-line.ensures.lines)
          (widens model net e known c.taking.invariant c.lines_used.ensures c.in-Some.ensures c.mark_taken-line.ensures.line (λ q. c.if-from-enquiry.false (c.from.ensures ∙ q))),
    )

pub taking-preserved : goal.taking-preserved
taking-preserved g c =
    let search = c.args.search.now in
    let net = copy_meaning search.network.now in
    let e = search.enquiry.now in
    let model = g.K.Kind.model in
    let known : Known model net e = record { law = g.met.K.Kind.lawful e.kind; wf = fits_formed net search.network.now.limits; asked = search.asked } in
    let inv = c.loop-number.invariant in
    let last : c.loop-number.number ≡ arc_count net = omega (arith, c.arcs-number-end.ensures) in
    rw inv.1 (widened model net e known inv.2 last)

pub returns-in_err-note-2 : goal.returns-in_err-note-2
returns-in_err-note-2 g c =
    let search = c.args.search.now in
    let net = copy_meaning search.network.now in
    let e = search.enquiry.now in
    let model = g.K.Kind.model in
    let known : Known model net e = record { law = g.met.K.Kind.lawful e.kind; wf = fits_formed net search.network.now.limits; asked = search.asked } in
    let wide = c.loop-number.invariant.2 in
    subst (λ (o : Option (ArrayVec _)). WorkDone model net e o c.note-in-loop-number.new.self (length c.args.notebook.now.lines.now)) (sym c.from_residual-in_err-note-2.ensures)
    (too_few model net e known wide (omega (arith, c.arcs-number-end.ensures))
    (c.in_err-note-2.ensures.used ∙ (λ k. used_after (c.extended.ensures k) c.loop-number.notebook.used (wide.long k))))

pub loop-number-preserved : goal.loop-number-preserved
loop-number-preserved g c =
    let search = c.args.search.now in
    let net = copy_meaning search.network.now in
    let e = search.enquiry.now in
    let model = g.K.Kind.model in
    let known : Known model net e = record { law = g.met.K.Kind.lawful e.kind; wf = fits_formed net search.network.now.limits; asked = search.asked } in
    let inv = c.loop-number.invariant in
    let wide = inv.2 in
    let book = c.loop-number.notebook in (
      inv.0,
      inv.1,
      wider model net e known wide (omega (arith, c.arcs-number-end.ensures)) (c.in_ok-note-2.ensures.used ∙ (λ k. used_after (c.extended.ensures k) book.used (wide.long k)))
          (c.note-in-loop-number.ensures.lines ∙ (λ k. notebook_after (c.extended.ensures k) book.used (wide.long k) book.lines.now)),
    )

pub returns : goal.returns
returns g c =
    let search = c.args.search.now in
    let net = copy_meaning search.network.now in
    let e = search.enquiry.now in
    let model = g.K.Kind.model in
    let known : Known model net e = record { law = g.met.K.Kind.lawful e.kind; wf = fits_formed net search.network.now.limits; asked = search.asked } in
    elim c.match-next_line.branch [
      | in-Some+then-from-enquiry+then-len-enquiry w ↦
          rw (w.notebook-is, w.finished-is, w.mark_taken-line.ensures.used, w.mark_taken-line.ensures.lines, w.push.ensures.items)
          (all_wanted model net e known c.taking.invariant c.lines_used.ensures w.in-Some.ensures w.mark_taken-line.ensures.line (sym w.from.ensures ∙ w.if-from-enquiry.true)
          (sym (w.len.ensures.value ∙ w.push.ensures.len) ∙ w.if-len-enquiry.true))
      | in_default w ↦ rw (w.notebook-is, w.finished-is) (none_left_over model net e known c.taking.invariant c.lines_used.ensures w.in_default.ensures)
    ]

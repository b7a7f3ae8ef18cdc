-- The checks run in order; where all pass, the empty row turns held, and its entry comes last.
use Rattle.std.proofs.Common.{◌≡◌, ◌+◌, ◌<◌, ◌≤◌, get_or, not, sym, refl, ap, ◌∙◌, arith, rules}
use Rattle.std.proofs.lemmas.Bool.{not-true}
use Rattle.std.proofs.lemmas.List.Quantifiers.{position-Some}
use Rattle.network.specs.Lists.{among, distinct}
use Rattle.ledger.specs.Ledgers.{ledger_tally}
use Rattle.ledger.specs.Routes.{route_refusal}
use Rattle.ledger.specs.Rows.{in_use}
use Rattle.ledger.specs.declared.row.Circuit.{Circuit}
use Rattle.ledger.specs.declared.row.Row.TheVariants.{Empty}
use Rattle.ledger.specs.Told.{hold_told}
use Rattle.ledger.specs.Tally.{hold_next, unless_refused}
use Rattle.ledger.proofs.Holds.{after_hold, failed_some, held_fit, hold_failed, hold_full, hold_granted, hold_no_ticket, hold_stand, hold_tally, passed_is, passed_none, room_for, route_passed}
use Rattle.ledger.proofs.Selling.{use_at}
use Rattle.ledger.proofs.Standing.{entries_full, entries_room, sum_entries}
use Rattle.ledger.proofs.Turns.{full_of}
use Rattle.ledger.proofs.ledger.Ledger.hold.Goals as goal

pub returns-in_err-width : goal.returns-in_err-width
returns-in_err-width g c =
    let l = c.args.self.now in
    let net = g.N.Network.meaning l.network in
    let t = ledger_tally l in
    let width = c.args.width in
    let arcs = c.args.arcs.now in
    let told = hold_told c.in_err-width.field-0.0 in
    let refused = hold_failed net t width arcs told (failed_some (width, arcs) (route_refusal net t width arcs) told c.in_err-width.ensures) in
    record { answer = search rules; tally = search rules; network = refl }

pub returns-in_err-place : goal.returns-in_err-place
returns-in_err-place g c =
    let l = c.args.self.now in
    let net = g.N.Network.meaning l.network in
    let t = ledger_tally l in
    let width = c.args.width in
    let arcs = c.args.arcs.now in
    let passed = passed_none (width, arcs) (route_refusal net t width arcs) _ c.in_ok-width.ensures in
    let full = entries_full l.rows (full_of l.rows (sym c.in_err-place.ensures.ok_part ∙ c.empty_row.ensures)) in
    let refused = hold_full net t width arcs passed (omega (arith, full)) in
    record { answer = search rules; tally = search rules; network = refl }

pub returns-in_err-ticket : goal.returns-in_err-ticket
returns-in_err-ticket g c =
    let l = c.args.self.now in
    let net = g.N.Network.meaning l.network in
    let t = ledger_tally l in
    let width = c.args.width in
    let arcs = c.args.arcs.now in
    let passed = passed_none (width, arcs) (route_refusal net t width arcs) _ c.in_ok-width.ensures in
    let k = c.in_ok-place.place in
    let at = position-Some (λ row. not (in_use row)) l.rows k Empty (sym c.empty_row.ensures ∙ c.in_ok-place.ensures.ok_part) in
    let last : 4294967295 ≤ l.given = search rules in
    let refused = hold_no_ticket net t width arcs passed (omega (arith, entries_room l.rows k at.0 (not-true _ at.1))) last in
    record { answer = search rules; tally = search rules; network = refl }

pub change_sold-requires : goal.change_sold-requires
change_sold-requires g c =
    let l = c.args.self.now in
    let net = g.N.Network.meaning l.network in
    let t = ledger_tally l in
    let width = c.args.width in
    let arcs = c.args.arcs.now in
    let passed = passed_none (width, arcs) (route_refusal net t width arcs) _ c.in_ok-width.ensures in
    let same = passed_is (width, arcs) (route_refusal net t width arcs) _ c.in_ok-width.ensures in
    let checked = route_passed net t width arcs passed in
    let numbers = c.as_slice.ensures ∙ ap (λ p. p.1) same in
    record {
      apart = ap distinct numbers ∙ checked.arcs_differ;
      may =
          λ arc la m.
          let taken = l.sold_is arc la ∙ sym (sum_entries arc l.rows) in
          let room = room_for net (g.met.N.Network.formed l.network) t width arcs checked arc (ap (among arc) (sym numbers) ∙ m) in
          let fits : (use_at l.arcs arc).sold + c.in_ok-width.width < 256 = omega (arith, ap (λ p. p.0) same, taken, room) in
          search rules;
    }

pub invariant_of-self : goal.invariant_of-self
invariant_of-self g c =
    let l = c.args.self.now in
    let net = g.N.Network.meaning l.network in
    let t = ledger_tally l in
    let width = c.args.width in
    let arcs = c.args.arcs.now in
    let passed = passed_none (width, arcs) (route_refusal net t width arcs) _ c.in_ok-width.ensures in
    let same = passed_is (width, arcs) (route_refusal net t width arcs) _ c.in_ok-width.ensures in
    let checked = route_passed net t width arcs passed in
    let k = c.in_ok-place.place in
    let at = position-Some (λ row. not (in_use row)) l.rows k Empty (sym c.empty_row.ensures ∙ c.in_ok-place.ensures.ok_part) in
    let old = get_or l.rows k c.index-self-place.result in
    let unused = position-Some (λ row. not (in_use row)) l.rows k c.index-self-place.result (sym c.empty_row.ensures ∙ c.in_ok-place.ensures.ok_part) in
    let circuit : Circuit = record { ticket = c.in_ok-ticket.ticket; width = c.in_ok-width.width; arcs = c.in_ok-width.arcs } in
    let ticket : circuit.ticket ≡ l.given + 1 = search rules in
    let fit = held_fit net t width arcs checked l.given circuit ticket (ap (λ p. p.0) same) (ap (λ p. p.1) same) in
    let held = after_hold old c.apply.new.row circuit unused.1 c.apply.ensures.row in
    let stand =
    hold_stand l k at.0 at.1 circuit ticket fit c.apply.new.row held c.change_sold.new.arcs
    (λ arc la m. let changed = c.change_sold.ensures.changed arc (ap (among arc) c.as_slice.ensures ∙ m) in search rules)
    (λ arc m. c.change_sold.ensures.others arc (ap (among arc) c.as_slice.ensures ∙ m)) c.change_sold.ensures.closed in
    record { one_row_each = stand.one_row_each; rows_fit = stand.rows_fit; sold_is = stand.sold_is }

pub returns : goal.returns
returns g c =
    let l = c.args.self.now in
    let net = g.N.Network.meaning l.network in
    let t = ledger_tally l in
    let width = c.args.width in
    let arcs = c.args.arcs.now in
    let passed = passed_none (width, arcs) (route_refusal net t width arcs) _ c.in_ok-width.ensures in
    let same = passed_is (width, arcs) (route_refusal net t width arcs) _ c.in_ok-width.ensures in
    let checked = route_passed net t width arcs passed in
    let k = c.in_ok-place.place in
    let at = position-Some (λ row. not (in_use row)) l.rows k Empty (sym c.empty_row.ensures ∙ c.in_ok-place.ensures.ok_part) in
    let old = get_or l.rows k c.index-self-place.result in
    let unused = position-Some (λ row. not (in_use row)) l.rows k c.index-self-place.result (sym c.empty_row.ensures ∙ c.in_ok-place.ensures.ok_part) in
    let circuit : Circuit = record { ticket = c.in_ok-ticket.ticket; width = c.in_ok-width.width; arcs = c.in_ok-width.arcs } in
    let ticket : circuit.ticket ≡ l.given + 1 = search rules in
    let fit = held_fit net t width arcs checked l.given circuit ticket (ap (λ p. p.0) same) (ap (λ p. p.1) same) in
    let held = after_hold old c.apply.new.row circuit unused.1 c.apply.ensures.row in
    let few : l.given < 4294967295 = search rules in
    let granted = hold_granted net t width arcs passed (omega (arith, entries_room l.rows k at.0 (not-true _ at.1))) few in
    let next =
    hold_tally l k at.0 at.1 circuit ticket fit c.apply.new.row held c.change_sold.new.arcs
    (λ arc la m. let changed = c.change_sold.ensures.changed arc (ap (among arc) c.as_slice.ensures ∙ m) in search rules)
    (λ arc m. c.change_sold.ensures.others arc (ap (among arc) c.as_slice.ensures ∙ m)) c.change_sold.ensures.closed in
    record {
      answer = search rules;
      tally = next ∙ (ap (λ p. hold_next t p.0 p.1) same ∙ sym (ap (λ o. unless_refused o (hold_next t width arcs) t) granted));
      network = refl;
    }

-- The row of the ticket turns booked, and so its entry; or it turns empty, and its entry is struck.
use Rattle.std.proofs.Common.{sym, refl, ap, ◌∙◌, rules}
use Rattle.std.proofs.lemmas.Bool.{not-false, not-true}
use Rattle.network.specs.Lists.{among, distinct}
use Rattle.ledger.specs.declared.row.Row.TheVariants.{Empty}
use Rattle.ledger.specs.Rows.{has_ticket, in_use}
use Rattle.ledger.proofs.Turns.{circuit_none, circuit_sold, circuit_stands, found_at, kept_stand, kept_tally, none_asked, none_of, one_asked, row_kept, turn_booked, turn_emptied}
use Rattle.ledger.proofs.ledger.Ledger.turn.Goals as goal

pub returns-in_err-place : goal.returns-in_err-place
returns-in_err-place g c =
    let l = c.args.self.now in
    let none = none_asked c.args.ticket c.args.call l.rows (none_of (has_ticket c.args.ticket) l.rows Empty c.in_err-place.ensures) in
    record { answer = search rules; tally = search rules; network = refl }

pub invariant_of-self : goal.invariant_of-self
invariant_of-self g c =
    let l = c.args.self.now in
    let found = found_at l.rows c.args.ticket c.in_ok-place.place c.index-self-place.result c.in_ok-place.ensures in
    let stand = kept_stand l c.args.ticket c.in_ok-place.place _ found _ refl in
    record { one_row_each = stand.one_row_each; rows_fit = stand.rows_fit; sold_is = stand.sold_is }

pub returns-in_err-circuit : goal.returns-in_err-circuit
returns-in_err-circuit g c =
    let l = c.args.self.now in
    let found = found_at l.rows c.args.ticket c.in_ok-place.place c.index-self-place.result c.in_ok-place.ensures in
    let none = circuit_none c.args.ticket _ c.in_err-circuit.ensures found.of_ticket in
    absurd none

pub invariant_of-self-then-not-apply : goal.invariant_of-self-then-not-apply
invariant_of-self-then-not-apply g c =
    let l = c.args.self.now in
    let found = found_at l.rows c.args.ticket c.in_ok-place.place c.index-self-place.result c.in_ok-place.ensures in
    let refused = sym c.apply.ensures.answer ∙ c.if-not-apply.true in
    let same = c.apply.ensures.row ∙ row_kept _ c.args.call refused in
    let stand = kept_stand l c.args.ticket c.in_ok-place.place _ found c.apply.new.row same in
    record { one_row_each = stand.one_row_each; rows_fit = stand.rows_fit; sold_is = stand.sold_is }

pub returns-then-not-apply : goal.returns-then-not-apply
returns-then-not-apply g c =
    let l = c.args.self.now in
    let found = found_at l.rows c.args.ticket c.in_ok-place.place c.index-self-place.result c.in_ok-place.ensures in
    let refused = sym c.apply.ensures.answer ∙ c.if-not-apply.true in
    let same = c.apply.ensures.row ∙ row_kept _ c.args.call refused in
    record {
      answer = sym (one_asked l c.args.ticket c.in_ok-place.place _ found c.args.call ∙ refused);
      tally = kept_tally l c.args.ticket c.in_ok-place.place _ found c.apply.new.row same;
      network = refl;
    }

pub change_sold-requires : goal.change_sold-requires
change_sold-requires g c =
    let l = c.args.self.now in
    let found = found_at l.rows c.args.ticket c.in_ok-place.place c.index-self-place.result c.in_ok-place.ensures in
    let fit = circuit_stands l c.args.ticket c.in_ok-place.place _ found c.in_ok-circuit.circuit c.in_ok-circuit.ensures in
    record {
      apart = ap distinct c.as_slice.ensures ∙ fit.arcs_apart;
      may = λ arc la m. let there = circuit_sold l c.args.ticket c.in_ok-place.place _ found c.in_ok-circuit.circuit c.in_ok-circuit.ensures arc la (ap (among arc) (sym c.as_slice.ensures) ∙ m) in search rules;
    }

pub invariant_of-self-then-is_empty : goal.invariant_of-self-then-is_empty
invariant_of-self-then-is_empty g c =
    let l = c.args.self.now in
    let found = found_at l.rows c.args.ticket c.in_ok-place.place c.index-self-place.result c.in_ok-place.ensures in
    let allowed = sym c.apply.ensures.answer ∙ c.if-not-apply.false in
    let unused = not-true (in_use c.apply.new.row) (sym c.is_empty.ensures ∙ c.if-is_empty.true) in
    let turn =
    turn_emptied l c.args.ticket c.in_ok-place.place _ found c.args.call c.apply.new.row allowed c.apply.ensures.row unused c.in_ok-circuit.circuit c.in_ok-circuit.ensures c.change_sold.new.arcs
    (λ arc la m. let changed = c.change_sold.ensures.changed arc (ap (among arc) c.as_slice.ensures ∙ m) in search rules)
    (λ arc m. c.change_sold.ensures.others arc (ap (among arc) c.as_slice.ensures ∙ m)) c.change_sold.ensures.closed in
    record { one_row_each = turn.0.one_row_each; rows_fit = turn.0.rows_fit; sold_is = turn.0.sold_is }

pub returns-then-is_empty : goal.returns-then-is_empty
returns-then-is_empty g c =
    let l = c.args.self.now in
    let found = found_at l.rows c.args.ticket c.in_ok-place.place c.index-self-place.result c.in_ok-place.ensures in
    let allowed = sym c.apply.ensures.answer ∙ c.if-not-apply.false in
    let unused = not-true (in_use c.apply.new.row) (sym c.is_empty.ensures ∙ c.if-is_empty.true) in
    let turn =
    turn_emptied l c.args.ticket c.in_ok-place.place _ found c.args.call c.apply.new.row allowed c.apply.ensures.row unused c.in_ok-circuit.circuit c.in_ok-circuit.ensures c.change_sold.new.arcs
    (λ arc la m. let changed = c.change_sold.ensures.changed arc (ap (among arc) c.as_slice.ensures ∙ m) in search rules)
    (λ arc m. c.change_sold.ensures.others arc (ap (among arc) c.as_slice.ensures ∙ m)) c.change_sold.ensures.closed in
    record { answer = sym (one_asked l c.args.ticket c.in_ok-place.place _ found c.args.call ∙ allowed); tally = turn.1; network = refl }

pub invariant_of-self-else-is_empty : goal.invariant_of-self-else-is_empty
invariant_of-self-else-is_empty g c =
    let l = c.args.self.now in
    let found = found_at l.rows c.args.ticket c.in_ok-place.place c.index-self-place.result c.in_ok-place.ensures in
    let allowed = sym c.apply.ensures.answer ∙ c.if-not-apply.false in
    let used = not-false (in_use c.apply.new.row) (sym c.is_empty.ensures ∙ c.if-is_empty.false) in
    let turn = turn_booked l c.args.ticket c.in_ok-place.place _ found c.args.call c.apply.new.row allowed c.apply.ensures.row used in
    record { one_row_each = turn.0.one_row_each; rows_fit = turn.0.rows_fit; sold_is = turn.0.sold_is }

pub returns-else-is_empty : goal.returns-else-is_empty
returns-else-is_empty g c =
    let l = c.args.self.now in
    let found = found_at l.rows c.args.ticket c.in_ok-place.place c.index-self-place.result c.in_ok-place.ensures in
    let allowed = sym c.apply.ensures.answer ∙ c.if-not-apply.false in
    let used = not-false (in_use c.apply.new.row) (sym c.is_empty.ensures ∙ c.if-is_empty.false) in
    let turn = turn_booked l c.args.ticket c.in_ok-place.place _ found c.args.call c.apply.new.row allowed c.apply.ensures.row used in
    record { answer = sym (one_asked l c.args.ticket c.in_ok-place.place _ found c.args.call ∙ allowed); tally = turn.1; network = refl }

-- The slip taken out is that of the ticket, and stood between those that are left.
use Rattle.std.proofs.Common.{rules, ◌<◌, eqb, length, vec_items, sym, ap, ◌∙◌, arith}
use Rattle.std.proofs.lemmas.List.{get_or-map, length-map}
use Rattle.std.proofs.lemmas.List.Quantifiers.{position-Some}
use Rattle.std.proofs.lemmas.Bool.{eqb-true}
use Rattle.ledger.specs.Slips.{ticket_on}
use Rattle.orders.specs.InHand.{in_hand}
use Rattle.orders.proofs.Members.{none_found, taken_at}
use Rattle.orders.proofs.pocket.Pocket.take.Goals as goal

pub returns-in_err-place : goal.returns-in_err-place
returns-in_err-place g c = search (rules, none_found)

pub returns : goal.returns
returns g c =
    let items = vec_items c.args.self.now.slips in
    let place = c.in_ok-place.place in
    let slip = c.remove.result in
    let removed = c.remove.ensures in
    let found = position-Some (eqb c.args.ticket) (in_hand c.args.self.now) place 0 (sym c.in_ok-place.ensures) in
    let there : place < length items = omega (arith, found.0, length-map items ticket_on) in (
      ap ticket_on removed.value ∙ (sym (get_or-map ticket_on items place slip 0 there) ∙ sym (eqb-true c.args.ticket _ found.1)),
      (
        taken_at ticket_on items (vec_items c.remove.new.self) place slip there removed.value removed.by_index.2,
        omega (arith, c.args.self.now.slips.ok.1, removed.len, removed.capacity),
      ),
    )

-- Where an arc is not there, that check failed; each turn the total is the length of one arc more.
use Rattle.std.proofs.Common.{◌≡◌, ◌<◌, Some, get_or, take}
use Rattle.std.proofs.lemmas.List.{take_more}
use Rattle.std.proofs.lemmas.Option.{slice_get_within, get_or_from_slice_get}
use Rattle.network.specs.Net.{arc_at, arc_count, arc_of, no_arc}
use Rattle.length.proofs.Walks.{there_push, walk_push}
use Rattle.length.proofs.rows.row_length.Goals as goal

pub loop-number-preserved : goal.loop-number-preserved
loop-number-preserved g c =
    let kind = c.args.kind.now in
    let network = c.args.network.now in
    let net = g.N.Network.meaning network in
    let arcs = c.args.arcs.now in
    let i = c.loop-number.number-index in
    let number = get_or arcs i 0 in
    let before = c.loop-number.invariant.there in
    let found : arc_of net number ≡ Some c.in_ok-arc.arc = cc (c.arc.ensures, c.in_ok-arc.ensures.ok_part) in
    let here : number < arc_count net = slice_get_within net.arcs number c.in_ok-arc.arc found in
    let is : arc_at net number ≡ c.in_ok-arc.arc = get_or_from_slice_get net.arcs number c.in_ok-arc.arc no_arc found in
    let more = take_more arcs i 0 c.loop-number-test.true in
    let pushed = walk_push (g.K.Kind.model kind) (g.met.K.Kind.lawful kind) net (g.met.N.Network.formed network) (take i arcs) number before here in
    record { there = rw more (there_push net (take i arcs) number before here); length = rw more (cc) }

-- Each turn is answered as the tally answers, so the law holds of all of them.
use Rattle.std.proofs.Common.{◌≡◌, length, refl, ◌∙◌, subst, inl, inr, arith}
use Rattle.ledger.specs.Ledgers.{network_below}
use Rattle.desk.specs.Served.{Served}
use Rattle.desk.proofs.SoFar.{none_yet, one_more, served}
use Rattle.desk.proofs.serving.serve.Goals as goal

pub loop-turn-init : goal.loop-turn-init
loop-turn-init g c =
    none_yet g.K.Kind.model g.N.Network.meaning g.C.Client.asks g.C.Client.hears (network_below c.open-ledger.result) c.args.client.now c.open-ledger.result refl c.open-ledger.ensures.tally

pub loop-turn-preserved : goal.loop-turn-preserved
loop-turn-preserved g c =
    let did = c.respond-reply.ensures in
    one_more g.K.Kind.model g.N.Network.meaning g.C.Client.asks g.C.Client.hears (network_below c.open-ledger.result) c.args.client.now c.loop-turn.client c.next.new.self c.told.new.self
    c.loop-turn._turn c.loop-turn.ledger c.respond-reply.new.ledger (record { request = c.in-Some.request; reply = c.respond-reply.result }) c.loop-turn.invariant
    (record { answer = did.answer; tally = did.tally; below = did.below; returned = did.returned }) c.in-Some.ensures c.told.ensures

pub returns-in_default : goal.returns-in_default
returns-in_default g c =
    let model = g.K.Kind.model in
    let meaning = g.N.Network.meaning in
    let asks = g.C.Client.asks in
    let hears = g.C.Client.hears in
    let below = network_below c.open-ledger.result in
    subst (λ n. Served model meaning asks hears n c.args.most c.args.client.now c.next.new.self c.loop-turn.ledger) c.open-ledger.ensures.network
    (served model meaning asks hears below g.met.K.Kind.lawful (g.met.N.Network.formed below) c.args.client.now c.loop-turn.client c.next.new.self c.loop-turn._turn c.args.most c.loop-turn.ledger c.loop-turn.invariant (inr c.in_default.ensures))

pub returns : goal.returns
returns g c =
    let model = g.K.Kind.model in
    let meaning = g.N.Network.meaning in
    let asks = g.C.Client.asks in
    let hears = g.C.Client.hears in
    let below = network_below c.open-ledger.result in
    let all : length c.loop-turn.invariant.turns ≡ c.args.most = c.loop-turn.invariant.counted ∙ omega arith in
    subst (λ n. Served model meaning asks hears n c.args.most c.args.client.now c.loop-turn.client c.loop-turn.ledger) c.open-ledger.ensures.network
    (served model meaning asks hears below g.met.K.Kind.lawful (g.met.N.Network.formed below) c.args.client.now c.loop-turn.client c.loop-turn.client c.loop-turn._turn c.args.most c.loop-turn.ledger c.loop-turn.invariant (inl (all, refl)))

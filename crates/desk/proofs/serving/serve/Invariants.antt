-- After each turn the ledger stands as the calls so far left it.
use Rattle.ledger.specs.Ledgers.{network_below}
use Rattle.desk.proofs.SoFar.{SoFar}
use Rattle.desk.proofs.serving.serve.Given as goal

abbrev pub invariant-loop-turn : goal.invariant-loop-turn
invariant-loop-turn g l =
    SoFar g.K.Kind.model g.N.Network.meaning g.C.Client.asks g.C.Client.hears (network_below l.initial.ledger) l.initial.client l._turn l.ledger l.client

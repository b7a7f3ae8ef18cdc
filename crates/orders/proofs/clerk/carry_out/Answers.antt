-- The slips that are left are of held rows.
use Rattle.length.specs.Standard.{standard}
use Rattle.orders.proofs.Afterwards.{all_held}
use Rattle.orders.proofs.clerk.carry_out.Goals as goal

pub let_all_go-let_go-requires : goal.let_all_go-let_go-requires
let_all_go-let_go-requires g c =
    all_held standard g.N.Network.meaning c.args.network 4294967295 _ c.serve-ledger.new.client c.serve-ledger.result c.serve-ledger.ensures c.empty.ensures

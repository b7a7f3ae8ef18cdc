-- The contract of tally_stands is the law of the tally.
use Rattle.desk.proofs.Law.{the_tally_is_faithful}
use Rattle.desk.proofs.tally_stands.Goals as goal

pub returns : goal.returns
returns g c = the_tally_is_faithful g.K.Kind.model

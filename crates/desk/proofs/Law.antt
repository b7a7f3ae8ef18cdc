-- The law of a ledger holds of the tally's own trace, whatever the calls.
use Rattle.std.proofs.Common.{sym, ap, ◌∙◌, subst}
use Rattle.network.specs.Lists.{In, distinct}
use Rattle.length.specs.Model.{Model}
use Rattle.ledger.specs.Tally.{opened}
use Rattle.desk.specs.Faithful.{TheTallyIsFaithful}
use Rattle.desk.proofs.Capacity.{free_is}
use Rattle.desk.proofs.Oversold.{oversold_never}
use Rattle.desk.proofs.Answers.{answer_is}
use Rattle.desk.proofs.Listed.{lists_is}
use Rattle.desk.proofs.Kept.{kept_is}
use Rattle.desk.proofs.Slips.{slips_match, held_once}

pub the_tally_is_faithful : {K L : Type 0} (model : K → Model L) → TheTallyIsFaithful model
the_tally_is_faithful model law net wf cs =
    let same = slips_match model net cs in
    let once = held_once net cs in
    record {
      answers = λ before after s e. answer_is model net before after s cs opened e;
      capacity = λ i h. free_is model net i cs;
      never_oversold = λ before after i e h. oversold_never model net cs before after i e;
      lists = lists_is model law net wf cs;
      kept = kept_is model law net wf cs;
      slips_once = (once, ap distinct (sym same) ∙ once);
      slips_match = λ ticket. (subst (In ticket) same, subst (In ticket) (sym same));
    }

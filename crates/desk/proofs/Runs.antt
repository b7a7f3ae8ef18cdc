-- A run of calls with one call more, and the calls of a run.
use Rattle.std.proofs.Common.{◌≡◌, List, [], ◌∷◌, ◌++◌, refl, ap}
use Rattle.network.specs.Net.{Net}
use Rattle.length.specs.Model.{Model}
use Rattle.ledger.specs.Tally.{Tally}
use Rattle.desk.specs.Calls.{Call, tally_answer, tally_next, tally_from}
use Rattle.desk.specs.Trace.{Step, calls}
use Rattle.desk.specs.Faithful.{run_from}

-- the tally after one call more is the next one
pub tally_more : {K L : Type 0} (net : Net) (t : Tally) (cs : List (Call K L)) (c : Call K L)
    → tally_from net t (cs ++ c ∷ []) ≡ tally_next net (tally_from net t cs) c
tally_more net t [] c = refl
tally_more net t (x ∷ cs) c = tally_more net (tally_next net t x) cs c

-- the run of one call more has one step more, answered by the tally of the calls before it
pub run_more : {K L : Type 0} (model : K → Model L) (net : Net) (t : Tally) (cs : List (Call K L)) (c : Call K L)
    → run_from model net t (cs ++ c ∷ []) ≡ run_from model net t cs ++ (record { call = c; answer = tally_answer model net (tally_from net t cs) c } ∷ [])
run_more model net t [] c = refl
run_more {K} {L} model net t (x ∷ cs) c =
    let first : Step K L = record { call = x; answer = tally_answer model net t x } in
    ap (λ r. first ∷ r) (run_more model net (tally_next net t x) cs c)

-- a run is of the calls that were made
pub run_calls : {K L : Type 0} (model : K → Model L) (net : Net) (t : Tally) (cs : List (Call K L))
    → calls (run_from model net t cs) ≡ cs
run_calls model net t [] = refl
run_calls model net t (c ∷ cs) = ap (λ x. c ∷ x) (run_calls model net (tally_next net t c) cs)

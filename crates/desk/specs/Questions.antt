-- Questions to a ledger as a network: what is asked, and what it shows; and what a desk is asked, a call or a question.
use Rattle.std.specs.Prelude.{ℕ, List, Option, Result}
use Rattle.network.specs.Checks.{Told}
use Rattle.network.specs.declared.arc.Arc.{Arc}
use Rattle.network.specs.Net.{Net, arc_of}
use Rattle.length.specs.Model.{Model}
use Rattle.length.specs.Walks.{row_answer}
use Rattle.ledger.specs.Tally.{Tally, free_net}
use Rattle.desk.specs.Calls.{Call, Answer, tally_answer, tally_next}

-- a question to a ledger as a network: for an arc, or for the length of a row of arcs in a kind
pub data Question (K : Type 0) : Type 0 where
  of_arc : (arc : ℕ) → Question K
  of_length : (kind : K) (arcs : List ℕ) → Question K

-- what it shows: the arc, if there is one, or the length
pub data Shown (L : Type 0) : Type 0 where
  an_arc : Option Arc → Shown L
  a_length : Result L Told → Shown L

-- what a network shows when it is asked
abbrev pub shown_by : {K L : Type 0} → (K → Model L) → Net → Question K → Shown L
shown_by model net (of_arc i) = an_arc (arc_of net i)
shown_by model net (of_length kind arcs) = a_length (row_answer (model kind) net arcs)

-- what a desk is asked: a call on the ledger, or a question to it, which changes nothing
pub data Asking (K L : Type 0) : Type 0 where
  a_call : Call K L → Asking K L
  a_question : Question K → Asking K L

-- what a desk tells: the answer to a call, or what is shown
pub data Telling (L : Type 0) : Type 0 where
  an_answer : Answer L → Telling L
  a_showing : Shown L → Telling L

-- what is told, by the tally of the calls before
module _ {K L : Type 0} (model : K → Model L) (net : Net) (t : Tally) where
  abbrev pub telling_by : Asking K L → Telling L
  telling_by (a_call call) = an_answer (tally_answer model net t call)
  telling_by (a_question q) = a_showing (shown_by model (free_net net t) q)

-- the tally after it; a question leaves it as it was
abbrev pub tally_then : {K L : Type 0} → Net → Tally → Asking K L → Tally
tally_then net t (a_call call) = tally_next net t call
tally_then net t (a_question q) = t

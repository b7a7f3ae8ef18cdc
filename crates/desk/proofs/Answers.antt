-- Every part of the tally's own trace is the tally's own trace.
use Rattle.std.proofs.Common.{◌≡◌, List, [], ◌∷◌, ◌++◌, sym, refl, ap, ◌∙◌, subst}
use mathlib.Core.List.{nil≢cons, head-eq_of_cons-eq, tail-eq_of_cons-eq}
use Rattle.network.specs.Net.{Net}
use Rattle.length.specs.Model.{Model}
use Rattle.ledger.specs.Tally.{Tally}
use Rattle.desk.specs.Calls.{Call, tally_answer, tally_next, tally_from}
use Rattle.desk.specs.Trace.{Step, Trace, calls}
use Rattle.desk.specs.Faithful.{run_from}
use Rattle.desk.proofs.Runs.{run_calls}

module _ {K L : Type 0} (model : K → Model L) (net : Net) where
  own : (cs : List (Call K L)) (t : Tally) (a : Trace K L) → run_from model net t cs ≡ a → a ≡ run_from model net t (calls a)
  own cs t a e = sym e ∙ ap (run_from model net t) (sym (run_calls model net t cs) ∙ ap calls e)

  abbrev Split : Tally → Trace K L → Trace K L → Type 0
  Split t b a = (b ≡ run_from model net t (calls b)) × (a ≡ run_from model net (tally_from net t (calls b)) (calls a))

  pub run_split : (b a : Trace K L) (cs : List (Call K L)) (t : Tally) → run_from model net t cs ≡ b ++ a → Split t b a
  run_split [] a cs t e = (refl, own cs t a e)
  run_split (x ∷ xs) a [] t e = absurd (nil≢cons e)
  run_split (x ∷ xs) a (c ∷ cs) t e =
      let ih = run_split xs a cs (tally_next net t c) (tail-eq_of_cons-eq e) in
      let step : Step K L = record { call = c; answer = tally_answer model net t c } in
      subst (λ y. Split t (y ∷ xs) a) (head-eq_of_cons-eq e) (ap (λ r. step ∷ r) ih.0, ih.1)

  pub answer_is : (b a : Trace K L) (s : Step K L) (cs : List (Call K L)) (t : Tally) → run_from model net t cs ≡ b ++ (s ∷ a)
      → s.answer ≡ tally_answer model net (tally_from net t (calls b)) s.call
  answer_is b a s cs t e = ap (λ x. x.answer) (head-eq_of_cons-eq (run_split b (s ∷ a) cs t e).1)

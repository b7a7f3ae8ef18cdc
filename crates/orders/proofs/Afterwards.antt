-- A clerk that was served has in hand only slips of held rows.
use Rattle.std.proofs.Common.{◌≡◌, ℕ, List, [], ◌∷◌, ◌++◌, sym, refl, ap, ◌∙◌, subst, ⊎_elim, append_assoc, append-nil}
use mathlib.Core.List.{map-append}
use Rattle.std.proofs.lemmas.Grind.{flat_map-append}
use Rattle.network.specs.Net.{Net}
use Rattle.length.specs.Model.{Model}
use Rattle.ledger.specs.declared.ledger.Ledger.{Ledger}
use Rattle.ledger.specs.Ledgers.{ledger_tally}
use Rattle.ledger.specs.Tally.{opened}
use Rattle.desk.specs.Calls.{tally_of}
use Rattle.desk.specs.Questions.{Asking, Telling, a_call, a_question, tally_then, telling_by}
use Rattle.desk.specs.Trace.{Trace, calls}
use Rattle.desk.specs.Turns.{Turn, asking_in, steps, telling_in, trace_in}
use Rattle.desk.specs.Served.{Served, Went}
use Rattle.desk.proofs.Runs.{tally_more}
use Rattle.desk.proofs.Slips.{opened_sound, sound_from}
use Rattle.orders.specs.declared.clerk.Clerk.{Clerk}
use Rattle.orders.specs.InHand.{AllHeld, Asks, Hears, in_hand}
use Rattle.orders.proofs.Holding.{turn_held}

-- the tally of the calls made, after one thing more was asked
after_one : {K L : Type 0} (model : K → Model L) (net : Net) (trace : Trace K L) (a : Asking K L)
    → tally_of net (calls (trace ++ steps a (telling_by model net (tally_of net (calls trace)) a))) ≡ tally_then net (tally_of net (calls trace)) a
after_one model net trace (a_call c) =
    ap (tally_of net) (map-append (λ s. s.call) trace (steps (a_call c) (telling_by model net (tally_of net (calls trace)) (a_call c)))) ∙ tally_more net opened (calls trace) c
after_one model net trace (a_question q) = ap (λ tr. tally_of net (calls tr)) (append-nil trace)

-- the trace of one turn more
trace_more : {N K L : Type 0} (turns : List (Turn N K L)) (turn : Turn N K L)
    → trace_in (turns ++ turn ∷ []) ≡ trace_in turns ++ steps (asking_in turn.request) (telling_in turn.reply)
trace_more turns turn =
    flat_map-append (λ turn. steps (asking_in turn.request) (telling_in turn.reply)) turns (turn ∷ [])
    ∙ ap (λ s. trace_in turns ++ s) (append-nil (steps (asking_in turn.request) (telling_in turn.reply)))

module _ {N K L : Type 0} (model : K → Model L) (net : Net) (all : List (Turn N K L))
    (answered : (before after : List (Turn N K L)) (turn : Turn N K L) → all ≡ before ++ (turn ∷ after)
    → telling_in turn.reply ≡ telling_by model net (tally_of net (calls (trace_in before))) (asking_in turn.request)) where
  hand_held : (before turns : List (Turn N K L)) (first last : Clerk N) → all ≡ before ++ turns → AllHeld (tally_of net (calls (trace_in before))) (in_hand first.pocket)
      → Went Asks Hears first turns last → AllHeld (tally_of net (calls (trace_in (before ++ turns)))) (in_hand last.pocket)
  unfolding Went
  hand_held before [] first last e h went =
      subst (λ ts. AllHeld (tally_of net (calls (trace_in ts))) (in_hand last.pocket)) (sym (append-nil before))
      (subst (λ (c : Clerk N). AllHeld (tally_of net (calls (trace_in before))) (in_hand c.pocket)) went h)
  hand_held before (turn ∷ turns) first last e h went =
      let a = asking_in turn.request in
      let t = tally_of net (calls (trace_in before)) in
      let asking : Clerk N = went.0 in
      let told : Clerk N = went.1 in
      let is = answered before turns turn e in
      let here : AllHeld (tally_then net t a) (in_hand told.pocket) =
      subst (AllHeld (tally_then net t a)) (sym went.2.1.0)
      (turn_held model net t (sound_from net (calls (trace_in before)) opened opened_sound) (in_hand first.pocket) (in_hand asking.pocket) h turn.request turn.reply is went.2.0.taken) in
      let more : tally_of net (calls (trace_in (before ++ turn ∷ []))) ≡ tally_then net t a =
      ap (λ tr. tally_of net (calls tr)) (trace_more before turn)
      ∙ (ap (λ (r : Telling L). tally_of net (calls (trace_in before ++ steps a r))) is ∙ after_one model net (trace_in before) a) in
      let joined : (before ++ turn ∷ []) ++ turns ≡ before ++ (turn ∷ turns) = append_assoc before (turn ∷ []) turns in
      subst (λ ts. AllHeld (tally_of net (calls (trace_in ts))) (in_hand last.pocket)) joined
      (hand_held (before ++ turn ∷ []) turns told last (e ∙ sym joined) (subst (λ t. AllHeld t (in_hand told.pocket)) (sym more) here) went.2.1.1)

-- so all of them can be let go
pub all_held : {N K L : Type 0} (model : K → Model L) (meaning : N → Net) (network : N) (most : ℕ) (first last : Clerk N) (ledger : Ledger N)
    → Served {N = N} {K = K} {L = L} model meaning Asks Hears network most first last ledger → in_hand first.pocket ≡ []
    → AllHeld (ledger_tally ledger) (in_hand last.pocket)
all_held model meaning network most first last ledger served none =
    let net = meaning network in
    let begun : AllHeld opened (in_hand first.pocket) = subst (AllHeld opened) (sym none) (record { once = refl; held = λ v i. elim i [ ] }) in
    let after = hand_held model net served.turns served.answered [] served.turns first served.after refl begun served.went in
    subst (λ t. AllHeld t (in_hand last.pocket)) (sym served.tally)
    (⊎_elim
    (λ (p : _). subst (λ (c : Clerk _). AllHeld (tally_of net (calls (trace_in served.turns))) (in_hand c.pocket)) p.1 after)
    (λ (same : _). subst (AllHeld (tally_of net (calls (trace_in served.turns)))) (sym same) after)
    served.ended)

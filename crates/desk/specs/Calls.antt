-- The calls on a ledger, what each answers, and what it makes of the tally.
use Rattle.std.specs.Prelude.{ℕ, List, [], ◌∷◌, Some, None, Ok, Err, Option, Result}
use Rattle.network.specs.Checks.{Told, answered}
use Rattle.network.specs.Net.{Net}
use Rattle.length.specs.Model.{Model}
use Rattle.routes.specs.Enquire.{Brought, EnquiryAnswer, enquiry_answer}
use Rattle.ledger.specs.Tally.{Tally, opened, free_net, next_ticket, hold_refusal, slip_refusal, end_refusal, close_refusal, reopen_refusal, hold_next, confirm_next, strike_next, close_next, reopen_next, unless_refused}

-- a call, with all that it brings; a slip is brought as the ticket on it
pub data Call (K L : Type 0) : Type 0 where
  enquire : Brought K L → Call K L
  hold : (width : ℕ) (arcs : List ℕ) → Call K L
  confirm : (ticket : ℕ) → Call K L
  let_go : (ticket : ℕ) → Call K L
  end : (ticket : ℕ) → Call K L
  close : (arc : ℕ) → Call K L
  reopen : (arc : ℕ) → Call K L

-- a slip that was not taken: what was told, and the ticket on the slip that came back
pub record HandedBack : Type 0 where
  pub told : Told
  pub ticket : ℕ

-- the answer of a call: an enquiry's with the memory brought as the call leaves it, a hold's with the ticket on the slip given,
-- and a refused confirm's or let go's with the slip that came back
pub data Answer (L : Type 0) : Type 0 where
  enquired : EnquiryAnswer L → Answer L
  held : Result ℕ Told → Answer L
  confirmed : Result (Unit {0}) HandedBack → Answer L
  gone : Result (Unit {0}) HandedBack → Answer L
  ended : Result (Unit {0}) Told → Answer L
  closed : Result (Unit {0}) Told → Answer L
  reopened : Result (Unit {0}) Told → Answer L

-- a slip is taken, or what the failed check tells is answered and the slip comes back
abbrev pub taken_or_back : Option Told → ℕ → Result (Unit {0}) HandedBack
taken_or_back None ticket = Ok tt
taken_or_back (Some t) ticket = Err (record { told = t; ticket = ticket })

module _ {K L : Type 0} (model : K → Model L) (net : Net) (t : Tally) where
  -- what a call answers by the tally of the calls before it
  abbrev pub tally_answer : Call K L → Answer L
  tally_answer (enquire b) = enquired (enquiry_answer model (free_net net t) b)
  tally_answer (hold width arcs) = held (answered (hold_refusal net t width arcs) (next_ticket t))
  tally_answer (confirm ticket) = confirmed (taken_or_back (slip_refusal t ticket) ticket)
  tally_answer (let_go ticket) = gone (taken_or_back (slip_refusal t ticket) ticket)
  tally_answer (end ticket) = ended (answered (end_refusal t ticket) tt)
  tally_answer (close i) = closed (answered (close_refusal net t i) tt)
  tally_answer (reopen i) = reopened (answered (reopen_refusal net t i) tt)

module _ {K L : Type 0} (net : Net) (t : Tally) where
  -- the tally after a call
  abbrev pub tally_next : Call K L → Tally
  tally_next (enquire b) = t
  tally_next (hold width arcs) = unless_refused (hold_refusal net t width arcs) (hold_next t width arcs) t
  tally_next (confirm ticket) = unless_refused (slip_refusal t ticket) (confirm_next t ticket) t
  tally_next (let_go ticket) = unless_refused (slip_refusal t ticket) (strike_next t ticket) t
  tally_next (end ticket) = unless_refused (end_refusal t ticket) (strike_next t ticket) t
  tally_next (close i) = unless_refused (close_refusal net t i) (close_next t i) t
  tally_next (reopen i) = unless_refused (reopen_refusal net t i) (reopen_next t i) t

-- the tally after calls, from a given one on
abbrev pub tally_from : {K L : Type 0} → Net → Tally → List (Call K L) → Tally
tally_from net t [] = t
tally_from net t (c ∷ cs) = tally_from net (tally_next net t c) cs

-- the tally after all calls on a ledger that was opened empty
abbrev pub tally_of : {K L : Type 0} → Net → List (Call K L) → Tally
tally_of net cs = tally_from net opened cs

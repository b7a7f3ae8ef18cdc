-- What can be read off a trace, the calls made on a ledger and what each was answered, without
-- looking at the ledger or at the tally.
use Rattle.std.specs.Prelude.{ℕ, ◌+◌, ◌-◌, Bool, true, false, cond, not, ◌&&◌, ◌||◌, List, [], ◌∷◌, ◌++◌, map, is_ok, Some, None, Ok, Err, Option, ◌==◌}
use Rattle.network.specs.Lists.{any_of, among}
use Rattle.network.specs.Net.{Net, arc_at}
use Rattle.ledger.specs.Tally.{with_free}
use Rattle.desk.specs.Calls.{Call, enquire, hold, confirm, let_go, end, close, reopen, Answer, enquired, held, confirmed, gone, ended, closed, reopened}

-- a call and its answer
pub record Step (K L : Type 0) : Type 0 where
  pub call : Call K L
  pub answer : Answer L

-- the calls on one ledger since it was opened, in order, each with its answer
abbrev pub Trace : Type 0 → Type 0 → Type 0
Trace K L = List (Step K L)

-- the calls of a trace
abbrev pub calls : {K L : Type 0} → Trace K L → List (Call K L)
calls trace = map (λ s. s.call) trace

-- Of one answer

-- it was granted: no check failed
abbrev pub is_granted : {L : Type 0} → Answer L → Bool
is_granted (enquired a) = is_ok a.result
is_granted (held r) = is_ok r
is_granted (confirmed r) = is_ok r
is_granted (gone r) = is_ok r
is_granted (ended r) = is_ok r
is_granted (closed r) = is_ok r
is_granted (reopened r) = is_ok r

-- the ticket on the slip that was given
abbrev pub ticket_given : {L : Type 0} → Answer L → Option ℕ
ticket_given (enquired a) = None
ticket_given (held r) = elim r [ Ok ticket ↦ Some ticket | Err e ↦ None ]
ticket_given (confirmed r) = None
ticket_given (gone r) = None
ticket_given (ended r) = None
ticket_given (closed r) = None
ticket_given (reopened r) = None

-- Of one call

-- the width that a hold asks for on an arc
abbrev pub width_on : {K L : Type 0} → ℕ → Call K L → ℕ
width_on i (enquire b) = 0
width_on i (hold width arcs) = cond (among i arcs) width 0
width_on i (confirm t) = 0
width_on i (let_go t) = 0
width_on i (end t) = 0
width_on i (close j) = 0
width_on i (reopen j) = 0

-- it lets go or ends the ticket
abbrev pub gives_up : {K L : Type 0} → ℕ → Call K L → Bool
gives_up t (enquire b) = false
gives_up t (hold width arcs) = false
gives_up t (confirm u) = false
gives_up t (let_go u) = t == u
gives_up t (end u) = t == u
gives_up t (close j) = false
gives_up t (reopen j) = false

-- it brings the ticket's slip: it confirms it or lets it go
abbrev pub brings_slip : {K L : Type 0} → ℕ → Call K L → Bool
brings_slip t (enquire b) = false
brings_slip t (hold width arcs) = false
brings_slip t (confirm u) = t == u
brings_slip t (let_go u) = t == u
brings_slip t (end u) = false
brings_slip t (close j) = false
brings_slip t (reopen j) = false

-- the mark of an arc after a granted call, from the mark before it
abbrev pub mark_after : {K L : Type 0} → ℕ → Call K L → Bool → Bool
mark_after i (enquire b) was = was
mark_after i (hold width arcs) was = was
mark_after i (confirm u) was = was
mark_after i (let_go u) was = was
mark_after i (end u) was = was
mark_after i (close j) was = i == j || was
mark_after i (reopen j) was = not (i == j) && was

-- it closes an arc or enquires
abbrev pub closes_or_enquires : {K L : Type 0} → Call K L → Bool
closes_or_enquires (enquire b) = true
closes_or_enquires (hold width arcs) = false
closes_or_enquires (confirm u) = false
closes_or_enquires (let_go u) = false
closes_or_enquires (end u) = false
closes_or_enquires (close j) = true
closes_or_enquires (reopen j) = false

-- Of a trace

module _ {K L : Type 0} where
  -- a granted call that passes a test
  abbrev pub granted_call : (Call K L → Bool) → Step K L → Bool
  granted_call test s = test s.call && is_granted s.answer

  -- the ticket that a step gave, unless a later granted call is such a one for it
  abbrev pub outlasting : (ℕ → Call K L → Bool) → Step K L → Trace K L → Option ℕ
  outlasting spends s later =
      elim (ticket_given s.answer) [
        | None ↦ None
        | Some t ↦ cond (any_of (granted_call (spends t)) later) None (Some t)
      ]

  -- the widths of the granted holds through an arc that were not since let go or ended
  abbrev pub width_held : ℕ → Trace K L → ℕ
  width_held i [] = 0
  width_held i (s ∷ later) = elim (outlasting gives_up s later) [ None ↦ 0 | Some t ↦ width_on i s.call ] + width_held i later

  -- the arc is closed: of the granted calls that closed or reopened it the last one closed it
  abbrev pub closed_from : ℕ → Bool → Trace K L → Bool
  closed_from i was [] = was
  closed_from i was (s ∷ later) = closed_from i (cond (is_granted s.answer) (mark_after i s.call was) was) later

  -- the arc is closed after a trace of a ledger that was opened with every arc open
  abbrev pub closed_after : Trace K L → ℕ → Bool
  closed_after trace i = closed_from i false trace

  -- the free capacity of an arc after a trace: 0 if the arc is closed, and else what the holds through it leave
  abbrev pub free_after : Net → Trace K L → ℕ → ℕ
  free_after net trace i = cond (closed_after trace i) 0 ((arc_at net i).capacity - width_held i trace)

  -- the network with that capacity
  abbrev pub net_after : Net → Trace K L → Net
  net_after net trace = with_free net (free_after net trace)

  -- the tickets on slips given and not since taken by a granted confirm or let go
  abbrev pub slips_out : Trace K L → List ℕ
  slips_out [] = []
  slips_out (s ∷ later) = elim (outlasting brings_slip s later) [ None ↦ [] | Some t ↦ t ∷ [] ] ++ slips_out later

-- One turn of a client: a request and its reply, what they ask and tell, and what else comes back.
use Rattle.std.specs.Prelude.{◌≡◌, ℕ, Bool, true, false, List, [], ◌∷◌, length, Ok, Err, vec_items, Result, nat_lt}
use Rattle.std.specs.List.{flat_map}
use Rattle.network.specs.Checks.{outcome}
use Rattle.length.specs.Walks.{row_told}
use Rattle.routes.specs.declared.enquiry.Enquiry.{Enquiry}
use Rattle.routes.specs.declared.enquiry.RouteRow.{RouteRow}
use Rattle.routes.specs.declared.line.Line.{Line}
use Rattle.routes.specs.Enquire.{Brought, Tables, enquiry_told}
use Rattle.routes.specs.Lent.{five_tables}
use Rattle.ledger.specs.declared.slip.SlipRefusal.{SlipRefusal}
use Rattle.ledger.specs.Slips.{slip_told, slip_in, ticket_on}
use Rattle.ledger.specs.Told.{hold_told, end_told, close_told, reopen_told}
use Rattle.desk.specs.declared.requests.Memory.{Memory}
use Rattle.desk.specs.declared.requests.Request.{Request}
use Rattle.desk.specs.declared.requests.Reply.{Reply}
use Rattle.desk.specs.Calls.{enquire, hold, confirm, let_go, end, close, reopen, HandedBack, enquired, held, confirmed, gone, ended, closed, reopened}
use Rattle.desk.specs.Questions.{of_arc, of_length, an_arc, a_length, Asking, a_call, a_question, Telling, an_answer, a_showing}
use Rattle.desk.specs.Trace.{Trace}

-- what the five tables in a client's memory hold
abbrev pub tables_in : {L : Type 0} → Memory L → Tables L
tables_in m =
    five_tables (vec_items m.length) (vec_items m.delay) (vec_items m.jitter) (vec_items m.charge) (vec_items m.hops)

-- what an enquiry brings
abbrev pub bringing : {K L : Type 0} → Enquiry K → Tables L → List RouteRow → ℕ → Brought K L
bringing e tables list notebook = record { enquiry = e; tables = tables; list = list; notebook = notebook }

-- what it brings in a client's memory
abbrev pub brought_in : {K L : Type 0} → Enquiry K → Memory L → Brought K L
brought_in e m = bringing e (tables_in m) (vec_items m.list) (length (vec_items m.notebook))

-- what a slip that was not taken comes back with
abbrev pub slip_back : {N : Type 0} → SlipRefusal N → HandedBack
slip_back r = record { told = slip_told r; ticket = ticket_on (slip_in r) }

-- a slip was taken, or not
abbrev pub taken_in : {N : Type 0} → Result (Unit {0}) (SlipRefusal N) → Result (Unit {0}) HandedBack
taken_in (Ok x) = Ok tt
taken_in (Err r) = Err (slip_back r)

module _ {N K L : Type 0} where
  -- what a request asks
  abbrev pub asking_in : Request N K L → Asking K L
  asking_in (Request.Enquire e m) = a_call (enquire (brought_in e m))
  asking_in (Request.Hold width arcs) = a_call (hold width (vec_items arcs))
  asking_in (Request.Confirm slip) = a_call (confirm (ticket_on slip))
  asking_in (Request.LetGo slip) = a_call (let_go (ticket_on slip))
  asking_in (Request.End ticket) = a_call (end ticket)
  asking_in (Request.Close arc) = a_call (close arc)
  asking_in (Request.Reopen arc) = a_call (reopen arc)
  asking_in (Request.Ask arc) = a_question (of_arc arc)
  asking_in (Request.Measure kind arcs) = a_question (of_length kind (vec_items arcs))

  -- what a reply tells
  abbrev pub telling_in : Reply N K L → Telling L
  telling_in (Reply.Enquired r m) = an_answer (enquired (record { result = outcome (λ x. x) enquiry_told r; tables = tables_in m; list = vec_items m.list }))
  telling_in (Reply.Held r arcs) = an_answer (held (outcome ticket_on hold_told r))
  telling_in (Reply.Confirmed r) = an_answer (confirmed (taken_in r))
  telling_in (Reply.LetGo r) = an_answer (gone (taken_in r))
  telling_in (Reply.Ended r) = an_answer (ended (outcome (λ x. x) end_told r))
  telling_in (Reply.Closed r) = an_answer (closed (outcome (λ x. x) close_told r))
  telling_in (Reply.Reopened r) = an_answer (reopened (outcome (λ x. x) reopen_told r))
  telling_in (Reply.Shown arc) = a_showing (an_arc arc)
  telling_in (Reply.Measured r arcs) = a_showing (a_length (outcome (λ x. x) row_told r))

  -- the arcs that a request brings, and that come back with a reply
  abbrev pub arcs_brought : Request N K L → List ℕ
  arcs_brought (Request.Enquire e m) = []
  arcs_brought (Request.Hold width arcs) = vec_items arcs
  arcs_brought (Request.Confirm slip) = []
  arcs_brought (Request.LetGo slip) = []
  arcs_brought (Request.End ticket) = []
  arcs_brought (Request.Close arc) = []
  arcs_brought (Request.Reopen arc) = []
  arcs_brought (Request.Ask arc) = []
  arcs_brought (Request.Measure kind arcs) = vec_items arcs

  abbrev pub arcs_back : Reply N K L → List ℕ
  arcs_back (Reply.Enquired r m) = []
  arcs_back (Reply.Held r arcs) = vec_items arcs
  arcs_back (Reply.Confirmed r) = []
  arcs_back (Reply.LetGo r) = []
  arcs_back (Reply.Ended r) = []
  arcs_back (Reply.Closed r) = []
  arcs_back (Reply.Reopened r) = []
  arcs_back (Reply.Shown arc) = []
  arcs_back (Reply.Measured r arcs) = vec_items arcs

  -- the notebook that a request brings, and that comes back with a reply
  abbrev pub notebook_brought : Request N K L → List (Line L)
  notebook_brought (Request.Enquire e m) = vec_items m.notebook
  notebook_brought (Request.Hold width arcs) = []
  notebook_brought (Request.Confirm slip) = []
  notebook_brought (Request.LetGo slip) = []
  notebook_brought (Request.End ticket) = []
  notebook_brought (Request.Close arc) = []
  notebook_brought (Request.Reopen arc) = []
  notebook_brought (Request.Ask arc) = []
  notebook_brought (Request.Measure kind arcs) = []

  abbrev pub notebook_back : Reply N K L → List (Line L)
  notebook_back (Reply.Enquired r m) = vec_items m.notebook
  notebook_back (Reply.Held r arcs) = []
  notebook_back (Reply.Confirmed r) = []
  notebook_back (Reply.LetGo r) = []
  notebook_back (Reply.Ended r) = []
  notebook_back (Reply.Closed r) = []
  notebook_back (Reply.Reopened r) = []
  notebook_back (Reply.Shown arc) = []
  notebook_back (Reply.Measured r arcs) = []

-- an enquiry was refused before its work began: by a check of a number below 27
abbrev pub refused_early : {L : Type 0} → Telling L → Bool
refused_early (an_answer (enquired a)) = elim a.result [ Ok f ↦ false | Err told ↦ nat_lt told.number 27 ]
refused_early (an_answer (held r)) = false
refused_early (an_answer (confirmed r)) = false
refused_early (an_answer (gone r)) = false
refused_early (an_answer (ended r)) = false
refused_early (an_answer (closed r)) = false
refused_early (an_answer (reopened r)) = false
refused_early (a_showing s) = false

-- the step of a trace that a turn makes: a call with its answer, and none for a question. A call that was told no answer would
-- make none either; that no turn is such is part of `Served`, by `answered`
abbrev pub steps : {K L : Type 0} → Asking K L → Telling L → Trace K L
steps (a_call call) (an_answer answer) = record { call = call; answer = answer } ∷ []
steps (a_call call) (a_showing s) = []
steps (a_question q) told = []

-- a request and its reply
pub record Turn (N K L : Type 0) : Type 0 where
  pub request : Request N K L
  pub reply : Reply N K L

module _ {N K L : Type 0} where
  -- the calls made in some turns, with their answers
  abbrev pub trace_in : List (Turn N K L) → Trace K L
  trace_in turns = flat_map (λ turn. steps (asking_in turn.request) (telling_in turn.reply)) turns

  -- what comes back besides: the arcs as they were brought, and the notebook with as many lines, and as it was brought where
  -- the enquiry was refused before its work began
  pub record Returned (turn : Turn N K L) : Type 0 where
    pub arcs : arcs_back turn.reply ≡ arcs_brought turn.request
    pub lines : length (notebook_back turn.reply) ≡ length (notebook_brought turn.request)
    pub notebook : refused_early (telling_in turn.reply) ≡ true → notebook_back turn.reply ≡ notebook_brought turn.request

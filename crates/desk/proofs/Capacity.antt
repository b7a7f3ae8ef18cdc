-- What is read off the trace of the tally's own answers is what the tally has: free capacity.
use Rattle.std.proofs.Common.{◌≡◌, ℕ, ◌+◌, ◌-◌, Bool, true, false, cond, not, ◌&&◌, ◌||◌, eqb, List, [], ◌∷◌, ◌++◌, map, Some, None, sum_by, filter, Option, sym, refl, ap, ◌∙◌, subst, zero-add, arith}
use Rattle.std.proofs.lemmas.List.Sums.{sum_by-cons}
use Rattle.network.specs.Lists.{any_of, among}
use Rattle.network.specs.Checks.{Told, answered}
use Rattle.network.specs.Net.{Net, arc_at}
use Rattle.length.specs.Model.{Model}
use Rattle.ledger.specs.Tally.{Entry, Tally, unless_refused, opened, is_through, taken_on, free_on, next_ticket, book, hold_refusal, slip_refusal, end_refusal, close_refusal, reopen_refusal, hold_next, confirm_next, strike_next, close_next, reopen_next}
use Rattle.desk.specs.Calls.{Call, enquire, hold, confirm, let_go, end, close, reopen, Answer, held, confirmed, gone, ended, closed, reopened, taken_or_back, tally_answer, tally_from, tally_of}
use Rattle.desk.specs.Trace.{Step, Trace, is_granted, granted_call, gives_up, width_held, closed_from, closed_after, free_after}
use Rattle.desk.specs.Faithful.{run_from}

pub and_false : (b : Bool) → (b && false) ≡ false
and_false true = refl
and_false false = refl

pub and_true : (b : Bool) → (b && true) ≡ b
and_true true = refl
and_true false = refl

module _ {K L : Type 0} (model : K → Model L) (net : Net) (i : ℕ) where
  -- closed arcs

  abbrev ClosedIs : List (Call K L) → Tally → Type 0
  ClosedIs cs t = closed_from i (t.marked i) (run_from model net t cs) ≡ (tally_from net t cs).marked i

  same_mark : (g was x : Bool) (trace : Trace K L) → closed_from i was trace ≡ x → closed_from i (cond g was was) trace ≡ x
  same_mark true was x trace h = h
  same_mark false was x trace h = h

  -- of a call that keeps the marks
  keeps_marks : (o : Option Told) (next t : Tally) (g : Bool) (cs : List (Call K L)) → next.marked i ≡ t.marked i → ((t : Tally) → ClosedIs cs t)
      → closed_from i (cond g (t.marked i) (t.marked i)) (run_from model net (unless_refused o next t) cs) ≡ (tally_from net (unless_refused o next t) cs).marked i
  keeps_marks None next t g cs e ih =
      same_mark g (t.marked i) ((tally_from net next cs).marked i) (run_from model net next cs) (subst (λ w. closed_from i w (run_from model net next cs) ≡ (tally_from net next cs).marked i) e (ih next))
  keeps_marks (Some r) next t g cs e ih = same_mark g (t.marked i) ((tally_from net t cs).marked i) (run_from model net t cs) (ih t)

  closes : (o : Option Told) (t : Tally) (j : ℕ) (cs : List (Call K L)) → ((t : Tally) → ClosedIs cs t)
      → closed_from i (cond (is_granted {L = L} (closed (answered o tt))) (eqb i j || t.marked i) (t.marked i)) (run_from model net (unless_refused o (close_next t j) t) cs)
      ≡ (tally_from net (unless_refused o (close_next t j) t) cs).marked i
  closes None t j cs ih = ih (close_next t j)
  closes (Some r) t j cs ih = ih t

  reopens : (o : Option Told) (t : Tally) (j : ℕ) (cs : List (Call K L)) → ((t : Tally) → ClosedIs cs t)
      → closed_from i (cond (is_granted {L = L} (reopened (answered o tt))) (not (eqb i j) && t.marked i) (t.marked i)) (run_from model net (unless_refused o (reopen_next t j) t) cs)
      ≡ (tally_from net (unless_refused o (reopen_next t j) t) cs).marked i
  reopens None t j cs ih = ih (reopen_next t j)
  reopens (Some r) t j cs ih = ih t

  pub closed_is : (cs : List (Call K L)) (t : Tally) → ClosedIs cs t
  closed_is [] t = refl
  closed_is (enquire b ∷ cs) t =
      same_mark (is_granted (tally_answer model net t (enquire b))) (t.marked i) ((tally_from net t cs).marked i) (run_from model net t cs) (closed_is cs t)
  closed_is (hold w a ∷ cs) t = keeps_marks (hold_refusal net t w a) (hold_next t w a) t (is_granted (tally_answer model net t (hold w a))) cs refl (closed_is cs)
  closed_is (confirm u ∷ cs) t = keeps_marks (slip_refusal t u) (confirm_next t u) t (is_granted (tally_answer model net t (confirm u))) cs refl (closed_is cs)
  closed_is (let_go u ∷ cs) t = keeps_marks (slip_refusal t u) (strike_next t u) t (is_granted (tally_answer model net t (let_go u))) cs refl (closed_is cs)
  closed_is (end u ∷ cs) t = keeps_marks (end_refusal t u) (strike_next t u) t (is_granted (tally_answer model net t (end u))) cs refl (closed_is cs)
  closed_is (close j ∷ cs) t = closes (close_refusal net t j) t j cs (closed_is cs)
  closed_is (reopen j ∷ cs) t = reopens (reopen_refusal net t j) t j cs (closed_is cs)

  -- widths

  -- the entry is through the arc, and no granted call of the trace gives it up
  abbrev lasts : Trace K L → Entry → Bool
  lasts trace x = is_through i x && not (any_of (granted_call (gives_up x.ticket)) trace)

  abbrev lasting : Trace K L → List Entry → ℕ
  lasting trace [] = 0
  lasting trace (x ∷ xs) = cond (lasts trace x) x.width 0 + lasting trace xs

  lasting_none : (xs : List Entry) → sum_by (λ x. x.width) (filter (is_through i) xs) ≡ lasting [] xs
  lasting_none [] = refl
  lasting_none (x ∷ xs) = go (is_through i x) (lasting_none xs)
    where
      go : (b : Bool) → sum_by (λ x. x.width) (filter (is_through i) xs) ≡ lasting [] xs
          → sum_by (λ x. x.width) (cond b (x ∷ filter (is_through i) xs) (filter (is_through i) xs)) ≡ cond (b && true) x.width 0 + lasting [] xs
      go true ih = let c = sum_by-cons (λ x. x.width) x (filter (is_through i) xs) in omega arith
      go false ih = omega arith

  lasting_append : (trace : Trace K L) (xs ys : List Entry) → lasting trace (xs ++ ys) ≡ lasting trace xs + lasting trace ys
  lasting_append trace [] ys = omega arith
  lasting_append trace (x ∷ xs) ys = let ih = lasting_append trace xs ys in omega arith

  lasting_book : (trace : Trace K L) (u : ℕ) (xs : List Entry) → lasting trace (map (book u) xs) ≡ lasting trace xs
  lasting_book trace u [] = refl
  lasting_book trace u (x ∷ xs) = ap (λ n. cond (lasts trace x) x.width 0 + n) (lasting_book trace u xs)

  -- a step that gives nothing up
  lasting_quiet : (s : Step K L) (trace : Trace K L) → ((u : ℕ) → granted_call (gives_up u) s ≡ false) → (xs : List Entry) → lasting (s ∷ trace) xs ≡ lasting trace xs
  lasting_quiet s trace q [] = refl
  lasting_quiet s trace q (x ∷ xs) =
      let here : lasts (s ∷ trace) x ≡ lasts trace x = ap (λ b. is_through i x && not (b || any_of (granted_call (gives_up x.ticket)) trace)) (q x.ticket) in
      let ih = lasting_quiet s trace q xs in
      ap (λ b. cond b x.width 0 + lasting (s ∷ trace) xs) here ∙ ap (λ n. cond (lasts trace x) x.width 0 + n) ih

  -- a step that gives up the ticket u
  lasting_struck : (s : Step K L) (trace : Trace K L) (u : ℕ) → ((t : ℕ) → granted_call (gives_up t) s ≡ eqb t u) → (xs : List Entry)
      → lasting (s ∷ trace) xs ≡ lasting trace (filter (λ x. not (eqb x.ticket u)) xs)
  lasting_struck s trace u q [] = refl
  lasting_struck s trace u q (x ∷ xs) =
      ap (λ b. cond (is_through i x && not (b || any_of (granted_call (gives_up x.ticket)) trace)) x.width 0 + lasting (s ∷ trace) xs) (q x.ticket)
      ∙ go (eqb x.ticket u) (lasting_struck s trace u q xs)
    where
      go : (b : Bool) → lasting (s ∷ trace) xs ≡ lasting trace (filter (λ x. not (eqb x.ticket u)) xs)
          → cond (is_through i x && not (b || any_of (granted_call (gives_up x.ticket)) trace)) x.width 0 + lasting (s ∷ trace) xs
          ≡ lasting trace (cond (not b) (x ∷ filter (λ x. not (eqb x.ticket u)) xs) (filter (λ x. not (eqb x.ticket u)) xs))
      go true ih = ap (λ b. cond b x.width 0 + lasting (s ∷ trace) xs) (and_false (is_through i x)) ∙ (zero-add (lasting (s ∷ trace) xs) ∙ ih)
      go false ih = ap (λ n. cond (lasts trace x) x.width 0 + n) ih

  -- what the tally has taken on the arc is what lasts of its entries, and what the holds of the trace still hold
  abbrev TakenIs : List (Call K L) → Tally → Type 0
  TakenIs cs t = taken_on (tally_from net t cs) i ≡ lasting (run_from model net t cs) t.entries + width_held i (run_from model net t cs)

  abbrev step : Call K L → Answer L → Step K L
  step c a = record { call = c; answer = a }

  -- a step that gives nothing up and no ticket, with entries that weigh the same
  quiet_step : (s : Step K L) (cs : List (Call K L)) (t : Tally) (xs : List Entry) → ((u : ℕ) → granted_call (gives_up u) s ≡ false)
      → lasting (run_from model net t cs) t.entries ≡ lasting (run_from model net t cs) xs → TakenIs cs t
      → taken_on (tally_from net t cs) i ≡ lasting (s ∷ run_from model net t cs) xs + (0 + width_held i (run_from model net t cs))
  quiet_step s cs t xs q same ih =
      let l = lasting_quiet s (run_from model net t cs) q xs in
      omega arith

  gives_step : (s : Step K L) (u : ℕ) (cs : List (Call K L)) (t : Tally) → ((v : ℕ) → granted_call (gives_up v) s ≡ eqb v u)
      → TakenIs cs (strike_next t u)
      → taken_on (tally_from net (strike_next t u) cs) i ≡ lasting (s ∷ run_from model net (strike_next t u) cs) t.entries + (0 + width_held i (run_from model net (strike_next t u) cs))
  gives_step s u cs t q ih =
      let l = lasting_struck s (run_from model net (strike_next t u) cs) u q t.entries in
      omega arith

  hold_part : (b c : Bool) (ticket width : ℕ)
      → elim (cond b None (Some ticket)) as (λ (o : Option ℕ). ℕ) [ None ↦ 0 | Some t ↦ cond c width 0 ] ≡ cond (c && not b) width 0
  hold_part true true ticket width = refl
  hold_part true false ticket width = refl
  hold_part false true ticket width = refl
  hold_part false false ticket width = refl

  -- the tally after a call, by whether a check failed
  abbrev After : Call K L → Answer L → Option Told → Tally → Tally → List (Call K L) → Type 0
  After c a o next t cs =
      taken_on (tally_from net (unless_refused o next t) cs) i
      ≡ lasting (step c a ∷ run_from model net (unless_refused o next t) cs) t.entries + width_held i (step c a ∷ run_from model net (unless_refused o next t) cs)

  after_hold : (o : Option Told) (t : Tally) (w : ℕ) (a : List ℕ) (cs : List (Call K L)) → ((t : Tally) → TakenIs cs t)
      → After (hold w a) (held (answered o (next_ticket t))) o (hold_next t w a) t cs
  after_hold None t w a cs ih =
      let later : Trace K L = run_from model net (hold_next t w a) cs in
      let ticket : ℕ = next_ticket t in
      let entry : Entry = record { ticket = ticket; width = w; arcs = a; booked = false } in
      let s : Step K L = step (hold w a) (held (answered None ticket)) in
      let whole = ih (hold_next t w a) in
      let two = lasting_append later t.entries (entry ∷ []) in
      let quiet = lasting_quiet s later (λ u. refl) t.entries in
      let part = hold_part (any_of (granted_call (gives_up ticket)) later) (among i a) ticket w in
      omega arith
  after_hold (Some r) t w a cs ih = quiet_step (step (hold w a) (held (answered (Some r) (next_ticket t)))) cs t t.entries (λ u. refl) refl (ih t)

  after_confirm : (o : Option Told) (t : Tally) (u : ℕ) (cs : List (Call K L)) → ((t : Tally) → TakenIs cs t)
      → After (confirm u) (confirmed (taken_or_back o u)) o (confirm_next t u) t cs
  after_confirm None t u cs ih = quiet_step (step (confirm u) (confirmed (taken_or_back None u))) cs (confirm_next t u) t.entries (λ v. refl) (lasting_book (run_from model net (confirm_next t u) cs) u t.entries) (ih (confirm_next t u))
  after_confirm (Some r) t u cs ih = quiet_step (step (confirm u) (confirmed (taken_or_back (Some r) u))) cs t t.entries (λ v. refl) refl (ih t)

  after_let_go : (o : Option Told) (t : Tally) (u : ℕ) (cs : List (Call K L)) → ((t : Tally) → TakenIs cs t)
      → After (let_go u) (gone (taken_or_back o u)) o (strike_next t u) t cs
  after_let_go None t u cs ih = gives_step (step (let_go u) (gone (taken_or_back None u))) u cs t (λ v. and_true (eqb v u)) (ih (strike_next t u))
  after_let_go (Some r) t u cs ih = quiet_step (step (let_go u) (gone (taken_or_back (Some r) u))) cs t t.entries (λ v. and_false (eqb v u)) refl (ih t)

  after_end : (o : Option Told) (t : Tally) (u : ℕ) (cs : List (Call K L)) → ((t : Tally) → TakenIs cs t)
      → After (end u) (ended (answered o tt)) o (strike_next t u) t cs
  after_end None t u cs ih = gives_step (step (end u) (ended (answered None tt))) u cs t (λ v. and_true (eqb v u)) (ih (strike_next t u))
  after_end (Some r) t u cs ih = quiet_step (step (end u) (ended (answered (Some r) tt))) cs t t.entries (λ v. and_false (eqb v u)) refl (ih t)

  after_close : (o : Option Told) (t : Tally) (j : ℕ) (cs : List (Call K L)) → ((t : Tally) → TakenIs cs t)
      → After (close j) (closed (answered o tt)) o (close_next t j) t cs
  after_close None t j cs ih = quiet_step (step (close j) (closed (answered None tt))) cs (close_next t j) t.entries (λ v. refl) refl (ih (close_next t j))
  after_close (Some r) t j cs ih = quiet_step (step (close j) (closed (answered (Some r) tt))) cs t t.entries (λ v. refl) refl (ih t)

  after_reopen : (o : Option Told) (t : Tally) (j : ℕ) (cs : List (Call K L)) → ((t : Tally) → TakenIs cs t)
      → After (reopen j) (reopened (answered o tt)) o (reopen_next t j) t cs
  after_reopen None t j cs ih = quiet_step (step (reopen j) (reopened (answered None tt))) cs (reopen_next t j) t.entries (λ v. refl) refl (ih (reopen_next t j))
  after_reopen (Some r) t j cs ih = quiet_step (step (reopen j) (reopened (answered (Some r) tt))) cs t t.entries (λ v. refl) refl (ih t)

  pub taken_is : (cs : List (Call K L)) (t : Tally) → TakenIs cs t
  taken_is [] t = let l = lasting_none t.entries in omega arith
  taken_is (enquire b ∷ cs) t = quiet_step (step (enquire b) (tally_answer model net t (enquire b))) cs t t.entries (λ v. refl) refl (taken_is cs t)
  taken_is (hold w a ∷ cs) t = after_hold (hold_refusal net t w a) t w a cs (taken_is cs)
  taken_is (confirm u ∷ cs) t = after_confirm (slip_refusal t u) t u cs (taken_is cs)
  taken_is (let_go u ∷ cs) t = after_let_go (slip_refusal t u) t u cs (taken_is cs)
  taken_is (end u ∷ cs) t = after_end (end_refusal t u) t u cs (taken_is cs)
  taken_is (close j ∷ cs) t = after_close (close_refusal net t j) t j cs (taken_is cs)
  taken_is (reopen j ∷ cs) t = after_reopen (reopen_refusal net t j) t j cs (taken_is cs)

  -- so the free capacity of the tally is the free capacity that is read off the trace
  pub free_is : (cs : List (Call K L)) → free_on net (tally_of net cs) i ≡ free_after net (run_from model net opened cs) i
  free_is cs =
      let shut : closed_after (run_from model net opened cs) i ≡ (tally_of net cs).marked i = closed_is cs opened in
      let used : taken_on (tally_of net cs) i ≡ 0 + width_held i (run_from model net opened cs) = taken_is cs opened in
      ap (λ b. cond b 0 ((arc_at net i).capacity - taken_on (tally_of net cs) i)) (sym shut)
      ∙ ap (λ n. cond (closed_after (run_from model net opened cs) i) 0 ((arc_at net i).capacity - n)) (used ∙ zero-add (width_held i (run_from model net opened cs)))

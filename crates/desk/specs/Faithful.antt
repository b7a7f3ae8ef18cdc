-- The law of a ledger over any succession of calls: what every trace of one ledger, opened empty,
-- is held to, in terms of networks, routes, holds and slips.
use Rattle.std.specs.Prelude.{◌≡◌, ℕ, ◌<◌, ◌≤◌, Bool, true, not, ◌||◌, ◌↔◌, List, [], ◌∷◌, ◌++◌, map, length, take, drop, None, Ok, Err, filter}
use Rattle.network.specs.Lists.{In, any_of, all_of, distinct}
use Rattle.network.specs.Checks.{refusal, first_failed}
use Rattle.network.specs.Net.{Net, WellFormed, arc_count, arc_at}
use Rattle.length.specs.Model.{Model, Lawful}
use Rattle.routes.specs.declared.enquiry.Found.{Found}
use Rattle.routes.specs.Routes.{row_of, routes_in}
use Rattle.routes.specs.Partial.{line_count}
use Rattle.routes.specs.Enquire.{Brought, EnquiryAnswer, early_checks, lines_that_count}
use Rattle.routes.specs.Listing.{Lists}
use Rattle.ledger.specs.Tally.{Tally, opened, free_on, held_tickets}
use Rattle.desk.specs.Calls.{Call, enquire, enquired, tally_answer, tally_next, tally_of}
use Rattle.desk.specs.Trace.{Step, Trace, calls, is_granted, closes_or_enquires, width_held, closed_after, free_after, net_after, slips_out}

module _ {K L : Type 0} (model : K → Model L) where
  -- an answered enquiry over a network: the earlier checks passed; the rows are the first of all feasible routes, in order;
  -- the rows after them are as brought; and the lines told are the line count
  pub record Answered (net : Net) (b : Brought K L) (a : EnquiryAnswer L) (f : Found) : Type 0 where
    pub passed : first_failed (early_checks model net b) ≡ None
    pub routes : Lists model net b.enquiry (routes_in f.routes a.list)
    pub count : length (routes_in f.routes a.list) ≡ f.routes
    pub rows : take f.routes a.list ≡ map (row_of net) (routes_in f.routes a.list)
    pub rest : drop f.routes a.list ≡ drop f.routes b.list
    pub lines : f.lines ≡ line_count model net b.enquiry

  -- an enquiry over a network, answered or not; once the earlier checks have passed it is turned
  -- down for want of lines exactly when its line count is above the notebook lines that count
  pub record Enquired (net : Net) (b : Brought K L) (a : EnquiryAnswer L) : Type 0 where
    pub answered : (f : Found) → a.result ≡ Ok f → Answered net b a f
    pub short : first_failed (early_checks model net b) ≡ None
        → (a.result ≡ Err (refusal 27)) ↔ (lines_that_count b.notebook < line_count model net b.enquiry)

module _ {K L : Type 0} where
  -- an enquiry and its answer
  abbrev pub enquiry_step : Brought K L → EnquiryAnswer L → Step K L
  enquiry_step b a = record { call = enquire b; answer = enquired a }

  -- no call was granted but closings and enquiries
  abbrev pub only_closings : Trace K L → Bool
  only_closings trace = all_of (λ s. not (is_granted s.answer) || closes_or_enquires s.call) trace

  -- the routes that meet no arc closed in the trace
  abbrev pub still_open : Trace K L → List (List ℕ) → List (List ℕ)
  still_open trace rs = filter (λ r. not (any_of (closed_after trace) r)) rs

-- the second list begins with the first, in the same order
abbrev pub Begins : List (List ℕ) → List (List ℕ) → Type 0
Begins rs ss = take (length rs) ss ≡ rs

-- `free` is the free capacity, arc by arc, that the ledger shows after the trace, and `held` are the
-- tickets in its held rows, in any order.
pub record Faithful {K L : Type 0} (model : K → Model L) (net : Net) (trace : Trace K L) (free : ℕ → ℕ) (held : List ℕ) : Type 0 where
  -- each call is answered as the tally of the calls before it answers
  pub answers : (before after : Trace K L) (s : Step K L) → trace ≡ before ++ (s ∷ after)
      → s.answer ≡ tally_answer model net (tally_of net (calls before)) s.call
  -- an arc's free capacity is 0 if it is closed, and else what the granted holds through it leave
  pub capacity : (i : ℕ) → i < arc_count net → free i ≡ free_after net trace i
  -- no arc is ever oversold: after each part of the trace the granted holds through an arc that were not since let go or
  -- ended come to no more than its capacity
  pub never_oversold : (before after : Trace K L) (i : ℕ) → trace ≡ before ++ after → i < arc_count net
      → width_held i before ≤ (arc_at net i).capacity
  -- each enquiry lists the first of all feasible routes over the capacity that was then free
  pub lists : (before after : Trace K L) (b : Brought K L) (a : EnquiryAnswer L)
      → trace ≡ before ++ (enquiry_step b a ∷ after) → Enquired model (net_after net before) b a
  -- of two enquiries that ask alike, with nothing but closings and enquiries granted between, the second lists again,
  -- in the same order and before all others, each route of the first that meets no arc closed between
  pub kept : (before between after : Trace K L) (b₁ b₂ : Brought K L) (a₁ a₂ : EnquiryAnswer L) (f₁ f₂ : Found)
      → trace ≡ before ++ (enquiry_step b₁ a₁ ∷ (between ++ (enquiry_step b₂ a₂ ∷ after)))
      → a₁.result ≡ Ok f₁ → a₂.result ≡ Ok f₂ → b₁.enquiry ≡ b₂.enquiry → only_closings between ≡ true
      → Begins (still_open between (routes_in f₁.routes a₁.list)) (routes_in f₂.routes a₂.list)
  -- the held rows match the slips still out, one for one
  pub slips_once : (distinct held ≡ true) × (distinct (slips_out trace) ≡ true)
  pub slips_match : (ticket : ℕ) → In ticket held ↔ In ticket (slips_out trace)

-- the tally's own trace: each call answered by the tally of the calls before it, from a given tally on
abbrev pub run_from : {K L : Type 0} → (K → Model L) → Net → Tally → List (Call K L) → Trace K L
run_from model net t [] = []
run_from model net t (c ∷ cs) = record { call = c; answer = tally_answer model net t c } ∷ run_from model net (tally_next net t c) cs

-- Statement: whatever the calls, the tally's own trace is faithful, with the free capacity and the held tickets of the tally.
abbrev pub TheTallyIsFaithful : {K L : Type 0} → (K → Model L) → Type 0
TheTallyIsFaithful {K} {L} model =
    ((kind : K) → Lawful (model kind)) → (net : Net) → WellFormed net → (cs : List (Call K L))
    → Faithful model net (run_from model net opened cs) (free_on net (tally_of net cs)) (held_tickets (tally_of net cs))

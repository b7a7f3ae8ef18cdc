-- No arc is oversold: what the tally has taken on an arc is never more than its capacity.
use Rattle.std.proofs.Common.{◌≡◌, ℕ, ◌+◌, ◌-◌, ◌<◌, ◌≤◌, Bool, true, false, cond, not, eqb, ltb, leb, ◌⊎◌, List, [], ◌∷◌, ◌++◌, map, length, Some, None, sum_by, filter, Option, sym, refl, ap, ◌∙◌, subst, inl, inr, ⊎_elim, arith}
use Rattle.std.proofs.lemmas.List.Sums.{sum_by-cons, sum_by-append}
use Rattle.std.proofs.lemmas.List.Elements.{filter-append}
use Rattle.std.proofs.lemmas.Bool.{eqb-true, eqb-false, ltb-false, or_cases, or_parts, cases_lt}
use Rattle.network.specs.Lists.{any_of, among, distinct}
use Rattle.network.specs.Checks.{Told, refusal, Check}
use Rattle.network.specs.Net.{Net, arc_at}
use Rattle.length.specs.Model.{Model}
use Rattle.length.specs.Walks.{arcs_outside, no_such_arc}
use Rattle.ledger.specs.Tally.{Entry, Tally, opened, unless_refused, is_through, taken_on, free_on, next_ticket, book, hold_refusal, slip_refusal, end_refusal, close_refusal, reopen_refusal, hold_next, confirm_next, strike_next, close_next, reopen_next, is_joined, sites_met, row_count, last_ticket}
use Rattle.desk.specs.Calls.{Call, enquire, hold, confirm, let_go, end, close, reopen, tally_next, tally_from, tally_of}
use Rattle.desk.specs.Trace.{Trace, calls, width_held}
use Rattle.desk.specs.Faithful.{run_from}
use Rattle.desk.proofs.Capacity.{taken_is}
use Rattle.desk.proofs.Answers.{run_split}
use Rattle.desk.proofs.Listed.{all_passed}

-- what is taken on each arc is within its capacity
abbrev pub Within : Net → Tally → Type 0
Within net t = (i : ℕ) → taken_on t i ≤ (arc_at net i).capacity

-- the widths of the entries through an arc
abbrev widths : ℕ → List Entry → ℕ
widths i xs = sum_by (λ x. x.width) (filter (is_through i) xs)

widths_cons : (i : ℕ) (x : Entry) (xs : List Entry) → widths i (x ∷ xs) ≡ cond (is_through i x) x.width 0 + widths i xs
widths_cons i x xs = go (is_through i x)
  where
    go : (b : Bool) → sum_by (λ x. x.width) (cond b (x ∷ filter (is_through i) xs) (filter (is_through i) xs)) ≡ cond b x.width 0 + widths i xs
    go true = sum_by-cons (λ x. x.width) x (filter (is_through i) xs)
    go false = omega arith

-- a hold adds its width on its arcs
widths_push : (i : ℕ) (xs : List Entry) (x : Entry) → widths i (xs ++ x ∷ []) ≡ widths i xs + cond (is_through i x) x.width 0
widths_push i xs x =
    let parts = sum_by-append (λ (x : Entry). x.width) (filter (is_through i) xs) (filter (is_through i) (x ∷ [])) in
    let one : widths i (x ∷ []) ≡ cond (is_through i x) x.width 0 + 0 = widths_cons i x [] in
    ap (sum_by (λ x. x.width)) (filter-append (is_through i) xs (x ∷ [])) ∙ (omega arith)

-- a booking changes no width
widths_book : (i u : ℕ) (xs : List Entry) → widths i (map (book u) xs) ≡ widths i xs
widths_book i u [] = refl
widths_book i u (x ∷ xs) =
    let a = widths_cons i (book u x) (map (book u) xs) in
    let b = widths_cons i x xs in
    let ih = widths_book i u xs in
    omega arith

-- fewer entries have no greater widths
widths_part : (i : ℕ) (p : Entry → Bool) (xs : List Entry) → widths i (filter p xs) ≤ widths i xs
widths_part i p [] = omega arith
widths_part i p (x ∷ xs) = go (p x) (widths_part i p xs) (widths_cons i x xs)
  where
    go : (b : Bool) → widths i (filter p xs) ≤ widths i xs → widths i (x ∷ xs) ≡ cond (is_through i x) x.width 0 + widths i xs
        → widths i (cond b (x ∷ filter p xs) (filter p xs)) ≤ widths i (x ∷ xs)
    go true ih whole = let part = widths_cons i x (filter p xs) in omega arith
    go false ih whole = omega arith

-- an arc of a row passes a test that no arc of the row fails
none_fails : (fails : ℕ → Bool) (arcs : List ℕ) (i : ℕ) → any_of fails arcs ≡ false → among i arcs ≡ true → fails i ≡ false
none_fails fails [] i h k = absurd (let z : ◌≡◌ {A = ℕ} 0 1 = cc in omega arith)
none_fails fails (x ∷ xs) i h k =
    let p = or_parts (fails x) (any_of fails xs) h in
    ⊎_elim (λ e. ap fails (eqb-true i x e) ∙ p.0) (λ e. none_fails fails xs i p.1 e) (or_cases (eqb i x) (among i xs) k)

-- where the free capacity is at least a width that is not 0, the width still fits
fits_still : (shut : Bool) (capacity taken width : ℕ) → (width ≡ 0 → ⊥) → width ≤ cond shut 0 (capacity - taken) → taken + width ≤ capacity
fits_still true capacity taken width some room = absurd (some (omega arith))
fits_still false capacity taken width some room = go (cases_lt 0 width)
  where
    go : (0 < width) ⊎ (width ≤ 0) → taken + width ≤ capacity
    go (inl h) = omega arith
    go (inr h) = absurd (some (omega arith))

-- the checks of a hold
abbrev hold_checks : Net → Tally → ℕ → List ℕ → List Check
hold_checks net t width arcs =
    (eqb width 0, refusal 30)
    ∷ (arcs_outside arcs, refusal 31)
    ∷ (no_such_arc net arcs, refusal 32)
    ∷ (not (is_joined net arcs), refusal 33)
    ∷ (not (distinct (sites_met net arcs)), refusal 34)
    ∷ (any_of (λ i. ltb (free_on net t i) width) arcs, refusal 35)
    ∷ (leb row_count (length t.entries), refusal 36)
    ∷ (leb last_ticket t.given, refusal 37)
    ∷ []

within_hold : (net : Net) (t : Tally) (width : ℕ) (arcs : List ℕ) → hold_refusal net t width arcs ≡ None → Within net t → Within net (hold_next t width arcs)
within_hold net t width arcs granted within i =
    let passed = all_passed (hold_checks net t width arcs) granted in
    let some : width ≡ 0 → ⊥ = eqb-false width 0 passed.0 in
    let room : any_of (λ i. ltb (free_on net t i) width) arcs ≡ false = passed.1.1.1.1.1.0 in
    let entry : Entry = record { ticket = next_ticket t; width = width; arcs = arcs; booked = false } in
    let more : taken_on (hold_next t width arcs) i ≡ taken_on t i + cond (among i arcs) width 0 = widths_push i t.entries entry in
    let fits = go some room (among i arcs) refl in
    omega arith
  where
    go : (width ≡ 0 → ⊥) → any_of (λ i. ltb (free_on net t i) width) arcs ≡ false → (b : Bool) → among i arcs ≡ b → taken_on t i + cond b width 0 ≤ (arc_at net i).capacity
    go some room true e =
        fits_still (t.marked i) (arc_at net i).capacity (taken_on t i) width some (ltb-false (free_on net t i) width (none_fails (λ i. ltb (free_on net t i) width) arcs i room e))
    go some room false e = let h = within i in omega arith

within_confirm : (net : Net) (t : Tally) (u : ℕ) → Within net t → Within net (confirm_next t u)
within_confirm net t u within i = let same = widths_book i u t.entries in let h = within i in omega arith

within_strike : (net : Net) (t : Tally) (u : ℕ) → Within net t → Within net (strike_next t u)
within_strike net t u within i = let less = widths_part i (λ x. not (eqb x.ticket u)) t.entries in let h = within i in omega arith

-- every call keeps to the capacity
pub within_next : {K L : Type 0} (net : Net) (t : Tally) (c : Call K L) → Within net t → Within net (tally_next net t c)
within_next net t (enquire b) w = w
within_next net t (hold width arcs) w = go (hold_refusal net t width arcs) refl
  where
    go : (o : Option Told) → hold_refusal net t width arcs ≡ o → Within net (unless_refused o (hold_next t width arcs) t)
    go None e = within_hold net t width arcs e w
    go (Some r) e = w
within_next net t (confirm u) w = elim (slip_refusal t u) as (λ o. Within net (unless_refused o (confirm_next t u) t)) [ None ↦ within_confirm net t u w | Some r ↦ w ]
within_next net t (let_go u) w = elim (slip_refusal t u) as (λ o. Within net (unless_refused o (strike_next t u) t)) [ None ↦ within_strike net t u w | Some r ↦ w ]
within_next net t (end u) w = elim (end_refusal t u) as (λ o. Within net (unless_refused o (strike_next t u) t)) [ None ↦ within_strike net t u w | Some r ↦ w ]
within_next net t (close j) w = elim (close_refusal net t j) as (λ o. Within net (unless_refused o (close_next t j) t)) [ None ↦ w | Some r ↦ w ]
within_next net t (reopen j) w = elim (reopen_refusal net t j) as (λ o. Within net (unless_refused o (reopen_next t j) t)) [ None ↦ w | Some r ↦ w ]

pub within_from : {K L : Type 0} (net : Net) (cs : List (Call K L)) (t : Tally) → Within net t → Within net (tally_from net t cs)
within_from net [] t w = w
within_from net (c ∷ cs) t w = within_from net cs (tally_next net t c) (within_next net t c w)

-- the tally of any calls on a ledger that was opened empty
pub within_of : {K L : Type 0} (net : Net) (cs : List (Call K L)) → Within net (tally_of net cs)
within_of net cs = within_from net cs opened (λ i. omega arith)

-- so what the holds of any part of the trace still hold is within the capacity
pub oversold_never : {K L : Type 0} (model : K → Model L) (net : Net) (cs : List (Call K L)) (before after : Trace K L) (i : ℕ)
    → run_from model net opened cs ≡ before ++ after → width_held i before ≤ (arc_at net i).capacity
oversold_never {K} {L} model net cs before after i e =
    let made : List (Call K L) = calls before in
    let used : taken_on (tally_of net made) i ≡ 0 + width_held i (run_from model net opened made) = taken_is model net i made opened in
    let fits : taken_on (tally_of net made) i ≤ (arc_at net i).capacity = within_of net made i in
    let held : width_held i (run_from model net opened made) ≤ (arc_at net i).capacity = omega arith in
    subst (λ trace. width_held i trace ≤ (arc_at net i).capacity) (sym (run_split model net before after cs opened e).0) held

-- The held entries of the tally match the slips still out, one for one.
use Rattle.std.proofs.Common.{◌≡◌, ℕ, ◌+◌, Bool, true, false, cond, not, ◌&&◌, ◌||◌, eqb, leb, List, [], ◌∷◌, ◌++◌, map, Some, None, filter, Option, sym, refl, ap, ◌∙◌, ⊎_elim, append_assoc, append-nil, arith}
use borrow.Author.Tests.{clash}
use Rattle.std.proofs.lemmas.List.{map-append}
use Rattle.std.proofs.lemmas.List.Elements.{filter-append}
use Rattle.std.proofs.lemmas.Bool.{eqb-true, eq-eqb, ne_eqb, leb-true, le-leb, and_parts, and_from, or_parts, or_from, or_cases, or_left, or_right, not-true, not_from_false}
use Rattle.network.specs.Lists.{any_of, all_of, among, distinct}
use Rattle.network.specs.Checks.{Told, refusal, first_failed, answered}
use Rattle.network.specs.Net.{Net}
use Rattle.length.specs.Model.{Model}
use Rattle.ledger.specs.Tally.{Entry, Tally, unless_refused, held_tickets, opened, is_booked, next_ticket, book, hold_refusal, slip_refusal, end_refusal, close_refusal, reopen_refusal, hold_next, confirm_next, strike_next, close_next, reopen_next}
use Rattle.desk.specs.Calls.{Call, enquire, hold, confirm, let_go, end, close, reopen, Answer, held, confirmed, gone, ended, closed, reopened, taken_or_back, tally_answer, tally_next, tally_from, tally_of}
use Rattle.desk.specs.Trace.{Step, Trace, granted_call, brings_slip, slips_out}
use Rattle.desk.specs.Faithful.{run_from}
use Rattle.desk.proofs.Capacity.{and_false, and_true}

abbrev tickets : List Entry → List ℕ
tickets xs = map (λ x. x.ticket) xs

abbrev unbooked : Entry → Bool
unbooked x = not x.booked

abbrev others : ℕ → List ℕ → List ℕ
others u ts = filter (λ v. not (eqb v u)) ts

abbrev spared : ℕ → List Entry → List Entry
spared u xs = filter (λ x. not (eqb x.ticket u)) xs

-- no ticket was given twice, and none is above the number given
pub record Sound (t : Tally) : Type 0 where
  pub once : distinct (tickets t.entries) ≡ true
  pub counted : all_of (λ u. leb u t.given) (tickets t.entries) ≡ true

pub new_ticket : (n : ℕ) (ts : List ℕ) → all_of (λ u. leb u n) ts ≡ true → among (n + 1) ts ≡ false
new_ticket n [] h = refl
new_ticket n (x ∷ xs) h =
    let p = and_parts (leb x n) (all_of (λ u. leb u n) xs) h in
    let low = leb-true x n p.0 in
    or_from _ _ (ne_eqb (n + 1) x (λ e. omega arith)) (new_ticket n xs p.1)

among_push : (x y : ℕ) (ts : List ℕ) → among x ts ≡ false → eqb x y ≡ false → among x (ts ++ y ∷ []) ≡ false
among_push x y [] h e = or_from _ _ e refl
among_push x y (z ∷ ts) h e = let p = or_parts (eqb x z) (among x ts) h in or_from _ _ p.0 (among_push x y ts p.1 e)

pub distinct_push : (y : ℕ) (ts : List ℕ) → distinct ts ≡ true → among y ts ≡ false → distinct (ts ++ y ∷ []) ≡ true
distinct_push y [] h e = refl
distinct_push y (x ∷ ts) h e =
    let p = and_parts (not (among x ts)) (distinct ts) h in
    let q = or_parts (eqb y x) (among y ts) e in
    let apart : eqb x y ≡ false = ne_eqb x y (λ s. clash (sym q.0 ∙ (ap (λ z. eqb y z) s ∙ same y))) in
    and_from _ _ (not_from_false _ (among_push x y ts (not-true _ p.0) apart)) (distinct_push y ts p.1 q.1)
  where
    same : (y : ℕ) → eqb y y ≡ true
    same y = eq-eqb y y refl

counted_push : (n : ℕ) (ts : List ℕ) → all_of (λ u. leb u n) ts ≡ true → all_of (λ u. leb u (n + 1)) (ts ++ (n + 1) ∷ []) ≡ true
counted_push n [] h = and_from _ _ (le-leb (n + 1) (n + 1) (omega arith)) refl
counted_push n (x ∷ ts) h =
    let p = and_parts (leb x n) (all_of (λ u. leb u n) ts) h in
    let low = leb-true x n p.0 in
    and_from _ _ (le-leb x (n + 1) (omega arith)) (counted_push n ts p.1)

tickets_book : (u : ℕ) (xs : List Entry) → tickets (map (book u) xs) ≡ tickets xs
tickets_book u [] = refl
tickets_book u (x ∷ xs) = ap (λ r. x.ticket ∷ r) (tickets_book u xs)

-- a filter of entries keeps both
among_part : (p : Entry → Bool) (u : ℕ) (xs : List Entry) → among u (tickets xs) ≡ false → among u (tickets (filter p xs)) ≡ false
among_part p u [] h = refl
among_part p u (x ∷ xs) h = let q = or_parts (eqb u x.ticket) (among u (tickets xs)) h in go (p x) q.0 (among_part p u xs q.1)
  where
    go : (b : Bool) → eqb u x.ticket ≡ false → among u (tickets (filter p xs)) ≡ false → among u (tickets (cond b (x ∷ filter p xs) (filter p xs))) ≡ false
    go true e r = or_from _ _ e r
    go false e r = r

pub once_part : (p : Entry → Bool) (xs : List Entry) → distinct (tickets xs) ≡ true → distinct (tickets (filter p xs)) ≡ true
once_part p [] h = refl
once_part p (x ∷ xs) h =
    let q = and_parts (not (among x.ticket (tickets xs))) (distinct (tickets xs)) h in
    go (p x) (among_part p x.ticket xs (not-true _ q.0)) (once_part p xs q.1)
  where
    go : (b : Bool) → among x.ticket (tickets (filter p xs)) ≡ false → distinct (tickets (filter p xs)) ≡ true → distinct (tickets (cond b (x ∷ filter p xs) (filter p xs))) ≡ true
    go true e r = and_from _ _ (not_from_false _ e) r
    go false e r = r

counted_part : (p : Entry → Bool) (n : ℕ) (xs : List Entry) → all_of (λ u. leb u n) (tickets xs) ≡ true → all_of (λ u. leb u n) (tickets (filter p xs)) ≡ true
counted_part p n [] h = refl
counted_part p n (x ∷ xs) h = let q = and_parts (leb x.ticket n) (all_of (λ u. leb u n) (tickets xs)) h in go (p x) q.0 (counted_part p n xs q.1)
  where
    go : (b : Bool) → leb x.ticket n ≡ true → all_of (λ u. leb u n) (tickets (filter p xs)) ≡ true → all_of (λ u. leb u n) (tickets (cond b (x ∷ filter p xs) (filter p xs))) ≡ true
    go true e r = and_from _ _ e r
    go false e r = r

sound_hold : (t : Tally) (w : ℕ) (a : List ℕ) → Sound t → Sound (hold_next t w a)
sound_hold t w a s =
    let more : tickets (hold_next t w a).entries ≡ tickets t.entries ++ next_ticket t ∷ [] = map-append (λ x. x.ticket) t.entries _ in
    record {
      once = ap distinct more ∙ distinct_push (next_ticket t) (tickets t.entries) s.once (new_ticket t.given (tickets t.entries) s.counted);
      counted = ap (all_of (λ u. leb u (next_ticket t))) more ∙ counted_push t.given (tickets t.entries) s.counted;
    }

sound_confirm : (t : Tally) (u : ℕ) → Sound t → Sound (confirm_next t u)
sound_confirm t u s =
    record {
      once = ap distinct (tickets_book u t.entries) ∙ s.once;
      counted = ap (all_of (λ v. leb v t.given)) (tickets_book u t.entries) ∙ s.counted;
    }

sound_strike : (t : Tally) (u : ℕ) → Sound t → Sound (strike_next t u)
sound_strike t u s =
    record { once = once_part _ t.entries s.once; counted = counted_part _ t.given t.entries s.counted }

pub sound_next : {K L : Type 0} (net : Net) (t : Tally) (c : Call K L) → Sound t → Sound (tally_next net t c)
sound_next net t (enquire b) s = s
sound_next net t (hold w a) s = elim (hold_refusal net t w a) as (λ o. Sound (unless_refused o (hold_next t w a) t)) [ None ↦ sound_hold t w a s | Some r ↦ s ]
sound_next net t (confirm u) s = elim (slip_refusal t u) as (λ o. Sound (unless_refused o (confirm_next t u) t)) [ None ↦ sound_confirm t u s | Some r ↦ s ]
sound_next net t (let_go u) s = elim (slip_refusal t u) as (λ o. Sound (unless_refused o (strike_next t u) t)) [ None ↦ sound_strike t u s | Some r ↦ s ]
sound_next net t (end u) s = elim (end_refusal t u) as (λ o. Sound (unless_refused o (strike_next t u) t)) [ None ↦ sound_strike t u s | Some r ↦ s ]
sound_next net t (close j) s = elim (close_refusal net t j) as (λ o. Sound (unless_refused o (close_next t j) t)) [ None ↦ record { once = s.once; counted = s.counted } | Some r ↦ s ]
sound_next net t (reopen j) s = elim (reopen_refusal net t j) as (λ o. Sound (unless_refused o (reopen_next t j) t)) [ None ↦ record { once = s.once; counted = s.counted } | Some r ↦ s ]

pub sound_from : {K L : Type 0} (net : Net) (cs : List (Call K L)) (t : Tally) → Sound t → Sound (tally_from net t cs)
sound_from net [] t s = s
sound_from net (c ∷ cs) t s = sound_from net cs (tally_next net t c) (sound_next net t c s)

-- held tickets after each call
pub held_more : (t : Tally) (w : ℕ) (a : List ℕ) → held_tickets (hold_next t w a) ≡ held_tickets t ++ next_ticket t ∷ []
held_more t w a =
    let entry : Entry = record { ticket = next_ticket t; width = w; arcs = a; booked = false } in
    ap tickets (filter-append unbooked t.entries (entry ∷ [])) ∙ map-append (λ (x : Entry). x.ticket) (filter unbooked t.entries) (entry ∷ [])

pub held_book : (u : ℕ) (xs : List Entry) → tickets (filter unbooked (map (book u) xs)) ≡ others u (tickets (filter unbooked xs))
held_book u [] = refl
held_book u (x ∷ xs) = go (eqb x.ticket u) refl x.booked (held_book u xs)
  where
    go : (b : Bool) → eqb x.ticket u ≡ b → (k : Bool) → tickets (filter unbooked (map (book u) xs)) ≡ others u (tickets (filter unbooked xs))
        → tickets (cond (not (b || k)) (book u x ∷ filter unbooked (map (book u) xs)) (filter unbooked (map (book u) xs))) ≡ others u (tickets (cond (not k) (x ∷ filter unbooked xs) (filter unbooked xs)))
    go true e true ih = ih
    go true e false ih = ih ∙ sym (ap (λ c. cond (not c) (x.ticket ∷ others u (tickets (filter unbooked xs))) (others u (tickets (filter unbooked xs)))) e)
    go false e true ih = ih
    go false e false ih = ap (λ r. x.ticket ∷ r) ih ∙ sym (ap (λ c. cond (not c) (x.ticket ∷ others u (tickets (filter unbooked xs))) (others u (tickets (filter unbooked xs)))) e)

pub held_struck : (u : ℕ) (xs : List Entry) → tickets (filter unbooked (spared u xs)) ≡ others u (tickets (filter unbooked xs))
held_struck u [] = refl
held_struck u (x ∷ xs) = go (eqb x.ticket u) refl x.booked refl (held_struck u xs)
  where
    go : (b : Bool) → eqb x.ticket u ≡ b → (k : Bool) → x.booked ≡ k → tickets (filter unbooked (spared u xs)) ≡ others u (tickets (filter unbooked xs))
        → tickets (filter unbooked (cond (not b) (x ∷ spared u xs) (spared u xs))) ≡ others u (tickets (cond (not k) (x ∷ filter unbooked xs) (filter unbooked xs)))
    go true e true f ih = ih
    go true e false f ih = ih ∙ sym (ap (λ c. cond (not c) (x.ticket ∷ others u (tickets (filter unbooked xs))) (others u (tickets (filter unbooked xs)))) e)
    go false e true f ih = ap (λ c. tickets (cond (not c) (x ∷ filter unbooked (spared u xs)) (filter unbooked (spared u xs)))) f ∙ ih
    go false e false f ih =
        ap (λ c. tickets (cond (not c) (x ∷ filter unbooked (spared u xs)) (filter unbooked (spared u xs)))) f
        ∙ (ap (λ r. x.ticket ∷ r) ih ∙ sym (ap (λ c. cond (not c) (x.ticket ∷ others u (tickets (filter unbooked xs))) (others u (tickets (filter unbooked xs)))) e))

-- a booked ticket is no held one
no_other : (u : ℕ) (xs : List Entry) → among u (tickets xs) ≡ false → spared u xs ≡ xs
no_other u [] h = refl
no_other u (x ∷ xs) h =
    let p = or_parts (eqb u x.ticket) (among u (tickets xs)) h in
    let apart : eqb x.ticket u ≡ false = ne_eqb x.ticket u (λ s. clash (sym p.0 ∙ eq-eqb u x.ticket (sym s))) in
    ap (λ b. cond (not b) (x ∷ spared u xs) (spared u xs)) apart ∙ ap (λ r. x ∷ r) (no_other u xs p.1)

booked_there : (u : ℕ) (xs : List Entry) → any_of (is_booked u) xs ≡ true → among u (tickets xs) ≡ true
booked_there u [] h = h
booked_there u (x ∷ xs) h =
    ⊎_elim
    (λ q. or_left _ _ (eq-eqb u x.ticket (sym (eqb-true x.ticket u (and_parts (eqb x.ticket u) x.booked q).0))))
    (λ q. or_right _ _ (booked_there u xs q))
    (or_cases (is_booked u x) (any_of (is_booked u) xs) h)

pub held_ended : (u : ℕ) (xs : List Entry) → distinct (tickets xs) ≡ true → any_of (is_booked u) xs ≡ true → tickets (filter unbooked (spared u xs)) ≡ tickets (filter unbooked xs)
held_ended u [] d h = refl
held_ended u (x ∷ xs) d h =
    let p = and_parts (not (among x.ticket (tickets xs))) (distinct (tickets xs)) d in
    go (eqb x.ticket u) refl x.booked refl (not-true _ p.0) h (held_ended u xs p.1)
  where
    go : (b : Bool) → eqb x.ticket u ≡ b → (k : Bool) → x.booked ≡ k → among x.ticket (tickets xs) ≡ false → ((b && k) || any_of (is_booked u) xs) ≡ true
        → (any_of (is_booked u) xs ≡ true → tickets (filter unbooked (spared u xs)) ≡ tickets (filter unbooked xs))
        → tickets (filter unbooked (cond (not b) (x ∷ spared u xs) (spared u xs))) ≡ tickets (cond (not k) (x ∷ filter unbooked xs) (filter unbooked xs))
    go true e true f new h ih = ap (λ r. tickets (filter unbooked r)) (no_other u xs (ap (λ v. among v (tickets xs)) (sym (eqb-true x.ticket u e)) ∙ new))
    go true e false f new h ih = absurd (clash (sym (ap (λ v. among v (tickets xs)) (sym (eqb-true x.ticket u e)) ∙ new) ∙ booked_there u xs h))
    go false e true f new h ih = ap (λ c. tickets (cond (not c) (x ∷ filter unbooked (spared u xs)) (filter unbooked (spared u xs)))) f ∙ ih h
    go false e false f new h ih = ap (λ c. tickets (cond (not c) (x ∷ filter unbooked (spared u xs)) (filter unbooked (spared u xs)))) f ∙ ap (λ r. x.ticket ∷ r) (ih h)

module _ {K L : Type 0} (model : K → Model L) (net : Net) where
  -- the tickets whose slips no granted call of the trace brings
  abbrev unspent : Trace K L → List ℕ → List ℕ
  unspent trace ts = filter (λ u. not (any_of (granted_call (brings_slip u)) trace)) ts

  unspent_none : (ts : List ℕ) → ts ≡ unspent [] ts
  unspent_none [] = refl
  unspent_none (x ∷ ts) = ap (λ r. x ∷ r) (unspent_none ts)

  unspent_quiet : (s : Step K L) (trace : Trace K L) → ((u : ℕ) → granted_call (brings_slip u) s ≡ false) → (ts : List ℕ) → unspent (s ∷ trace) ts ≡ unspent trace ts
  unspent_quiet s trace q [] = refl
  unspent_quiet s trace q (x ∷ ts) =
      ap (λ b. cond (not (b || any_of (granted_call (brings_slip x)) trace)) (x ∷ unspent (s ∷ trace) ts) (unspent (s ∷ trace) ts)) (q x)
      ∙ ap (λ r. cond (not (any_of (granted_call (brings_slip x)) trace)) (x ∷ r) r) (unspent_quiet s trace q ts)

  unspent_spent : (s : Step K L) (trace : Trace K L) (u : ℕ) → ((v : ℕ) → granted_call (brings_slip v) s ≡ eqb v u) → (ts : List ℕ) → unspent (s ∷ trace) ts ≡ unspent trace (others u ts)
  unspent_spent s trace u q [] = refl
  unspent_spent s trace u q (x ∷ ts) =
      ap (λ b. cond (not (b || any_of (granted_call (brings_slip x)) trace)) (x ∷ unspent (s ∷ trace) ts) (unspent (s ∷ trace) ts)) (q x)
      ∙ go (eqb x u) (unspent_spent s trace u q ts)
    where
      go : (b : Bool) → unspent (s ∷ trace) ts ≡ unspent trace (others u ts)
          → cond (not (b || any_of (granted_call (brings_slip x)) trace)) (x ∷ unspent (s ∷ trace) ts) (unspent (s ∷ trace) ts)
          ≡ unspent trace (cond (not b) (x ∷ others u ts) (others u ts))
      go true ih = ih
      go false ih = ap (λ r. cond (not (any_of (granted_call (brings_slip x)) trace)) (x ∷ r) r) ih

  abbrev SlipsAre : List (Call K L) → Tally → Type 0
  SlipsAre cs t = held_tickets (tally_from net t cs) ≡ unspent (run_from model net t cs) (held_tickets t) ++ slips_out (run_from model net t cs)

  abbrev step : Call K L → Answer L → Step K L
  step c a = record { call = c; answer = a }

  -- a call that gives no slip and takes none
  quiet_slip : (s : Step K L) (cs : List (Call K L)) (next : Tally) (ts : List ℕ) → held_tickets next ≡ ts → ((u : ℕ) → granted_call (brings_slip u) s ≡ false) → SlipsAre cs next
      → held_tickets (tally_from net next cs) ≡ unspent (s ∷ run_from model net next cs) ts ++ slips_out (run_from model net next cs)
  quiet_slip s cs next ts same q ih =
      ih ∙ ap (λ r. r ++ slips_out (run_from model net next cs)) (ap (unspent (run_from model net next cs)) same ∙ sym (unspent_quiet s (run_from model net next cs) q ts))

  -- a call that takes the slip u
  taken_slip : (s : Step K L) (u : ℕ) (cs : List (Call K L)) (next : Tally) (ts : List ℕ) → held_tickets next ≡ others u ts → ((v : ℕ) → granted_call (brings_slip v) s ≡ eqb v u) → SlipsAre cs next
      → held_tickets (tally_from net next cs) ≡ unspent (s ∷ run_from model net next cs) ts ++ slips_out (run_from model net next cs)
  taken_slip s u cs next ts same q ih =
      ih ∙ ap (λ r. r ++ slips_out (run_from model net next cs)) (ap (unspent (run_from model net next cs)) same ∙ sym (unspent_spent s (run_from model net next cs) u q ts))

  abbrev After : Call K L → Answer L → Option Told → Tally → Tally → List (Call K L) → Type 0
  After c a o next t cs =
      held_tickets (tally_from net (unless_refused o next t) cs)
      ≡ unspent (step c a ∷ run_from model net (unless_refused o next t) cs) (held_tickets t) ++ slips_out (step c a ∷ run_from model net (unless_refused o next t) cs)

  given_part : (b : Bool) (ticket : ℕ) → cond (not b) (ticket ∷ []) [] ≡ elim (cond b None (Some ticket)) as (λ (o : Option ℕ). List ℕ) [ None ↦ [] | Some t ↦ t ∷ [] ]
  given_part true ticket = refl
  given_part false ticket = refl

  after_hold : (o : Option Told) (t : Tally) (w : ℕ) (a : List ℕ) (cs : List (Call K L)) → ((t : Tally) → Sound t → SlipsAre cs t) → Sound t
      → After (hold w a) (held (answered o (next_ticket t))) o (hold_next t w a) t cs
  after_hold None t w a cs ih sound =
      let later : Trace K L = run_from model net (hold_next t w a) cs in
      let ticket : ℕ = next_ticket t in
      let ts : List ℕ = held_tickets t in
      let s : Step K L = step (hold w a) (held (answered None ticket)) in
      let more : held_tickets (hold_next t w a) ≡ ts ++ ticket ∷ [] = held_more t w a in
      let test : ℕ → Bool = λ u. not (any_of (granted_call (brings_slip u)) later) in
      let part : unspent later (ticket ∷ []) ≡ cond (test ticket) (ticket ∷ []) [] = refl in
      let mine : List ℕ = elim (cond (any_of (granted_call (brings_slip ticket)) later) None (Some ticket)) as (λ (o : Option ℕ). List ℕ) [ None ↦ [] | Some t ↦ t ∷ [] ] in
      ih (hold_next t w a) (sound_hold t w a sound)
      ∙ (ap (λ r. r ++ slips_out later)
      (ap (unspent later) more ∙ (filter-append test ts (ticket ∷ []) ∙ (ap (λ r. unspent later ts ++ r) (given_part (any_of (granted_call (brings_slip ticket)) later) ticket) ∙ ap (λ r. r ++ mine) (sym (unspent_quiet s later (λ u. refl) ts)))))
      ∙ append_assoc (unspent (s ∷ later) ts) mine (slips_out later))
  after_hold (Some r) t w a cs ih sound = quiet_slip (step (hold w a) (held (answered (Some r) (next_ticket t)))) cs t (held_tickets t) refl (λ u. refl) (ih t sound)

  after_confirm : (o : Option Told) (t : Tally) (u : ℕ) (cs : List (Call K L)) → ((t : Tally) → Sound t → SlipsAre cs t) → Sound t
      → After (confirm u) (confirmed (taken_or_back o u)) o (confirm_next t u) t cs
  after_confirm None t u cs ih sound = taken_slip (step (confirm u) (confirmed (taken_or_back None u))) u cs (confirm_next t u) (held_tickets t) (held_book u t.entries) (λ v. and_true (eqb v u)) (ih (confirm_next t u) (sound_confirm t u sound))
  after_confirm (Some r) t u cs ih sound = quiet_slip (step (confirm u) (confirmed (taken_or_back (Some r) u))) cs t (held_tickets t) refl (λ v. and_false (eqb v u)) (ih t sound)

  after_let_go : (o : Option Told) (t : Tally) (u : ℕ) (cs : List (Call K L)) → ((t : Tally) → Sound t → SlipsAre cs t) → Sound t
      → After (let_go u) (gone (taken_or_back o u)) o (strike_next t u) t cs
  after_let_go None t u cs ih sound = taken_slip (step (let_go u) (gone (taken_or_back None u))) u cs (strike_next t u) (held_tickets t) (held_struck u t.entries) (λ v. and_true (eqb v u)) (ih (strike_next t u) (sound_strike t u sound))
  after_let_go (Some r) t u cs ih sound = quiet_slip (step (let_go u) (gone (taken_or_back (Some r) u))) cs t (held_tickets t) refl (λ v. and_false (eqb v u)) (ih t sound)

  after_end : (o : Option Told) (t : Tally) (u : ℕ) (cs : List (Call K L)) → end_refusal t u ≡ o → ((t : Tally) → Sound t → SlipsAre cs t) → Sound t
      → After (end u) (ended (answered o tt)) o (strike_next t u) t cs
  after_end None t u cs e ih sound =
      quiet_slip (step (end u) (ended (answered None tt))) cs (strike_next t u) (held_tickets t) (held_ended u t.entries sound.once (granted (any_of (is_booked u) t.entries) e)) (λ v. refl) (ih (strike_next t u) (sound_strike t u sound))
    where
      granted : (b : Bool) → first_failed ((not b, refusal 41) ∷ []) ≡ None → b ≡ true
      granted true e = refl
      granted false e = absurd (let z : ◌≡◌ {A = ℕ} 0 1 = cc in omega arith)
  after_end (Some r) t u cs e ih sound = quiet_slip (step (end u) (ended (answered (Some r) tt))) cs t (held_tickets t) refl (λ v. refl) (ih t sound)

  after_close : (o : Option Told) (t : Tally) (j : ℕ) (cs : List (Call K L)) → ((t : Tally) → Sound t → SlipsAre cs t) → Sound t
      → After (close j) (closed (answered o tt)) o (close_next t j) t cs
  after_close None t j cs ih s = quiet_slip (step (close j) (closed (answered None tt))) cs (close_next t j) (held_tickets t) refl (λ v. refl) (ih (close_next t j) (record { once = s.once; counted = s.counted }))
  after_close (Some r) t j cs ih s = quiet_slip (step (close j) (closed (answered (Some r) tt))) cs t (held_tickets t) refl (λ v. refl) (ih t s)

  after_reopen : (o : Option Told) (t : Tally) (j : ℕ) (cs : List (Call K L)) → ((t : Tally) → Sound t → SlipsAre cs t) → Sound t
      → After (reopen j) (reopened (answered o tt)) o (reopen_next t j) t cs
  after_reopen None t j cs ih s = quiet_slip (step (reopen j) (reopened (answered None tt))) cs (reopen_next t j) (held_tickets t) refl (λ v. refl) (ih (reopen_next t j) (record { once = s.once; counted = s.counted }))
  after_reopen (Some r) t j cs ih s = quiet_slip (step (reopen j) (reopened (answered (Some r) tt))) cs t (held_tickets t) refl (λ v. refl) (ih t s)

  pub slips_are : (cs : List (Call K L)) (t : Tally) → Sound t → SlipsAre cs t
  slips_are [] t s = unspent_none (held_tickets t) ∙ sym (append-nil (unspent [] (held_tickets t)))
  slips_are (enquire b ∷ cs) t s = quiet_slip (step (enquire b) (tally_answer model net t (enquire b))) cs t (held_tickets t) refl (λ v. refl) (slips_are cs t s)
  slips_are (hold w a ∷ cs) t s = after_hold (hold_refusal net t w a) t w a cs (slips_are cs) s
  slips_are (confirm u ∷ cs) t s = after_confirm (slip_refusal t u) t u cs (slips_are cs) s
  slips_are (let_go u ∷ cs) t s = after_let_go (slip_refusal t u) t u cs (slips_are cs) s
  slips_are (end u ∷ cs) t s = after_end (end_refusal t u) t u cs refl (slips_are cs) s
  slips_are (close j ∷ cs) t s = after_close (close_refusal net t j) t j cs (slips_are cs) s
  slips_are (reopen j ∷ cs) t s = after_reopen (reopen_refusal net t j) t j cs (slips_are cs) s

pub opened_sound : Sound opened
opened_sound = record { once = refl; counted = refl }

-- so they are the same list, and no ticket stands in it twice
pub slips_match : {K L : Type 0} (model : K → Model L) (net : Net) (cs : List (Call K L)) → held_tickets (tally_of net cs) ≡ slips_out (run_from model net opened cs)
slips_match model net cs = slips_are model net cs opened opened_sound

pub held_once : {K L : Type 0} (net : Net) (cs : List (Call K L)) → distinct (held_tickets (tally_of net cs)) ≡ true
held_once net cs = once_part unbooked (tally_of net cs).entries (sound_from net cs opened opened_sound).once

-- What is in hand stays held, whatever is asked.
use Rattle.std.proofs.Common.{◌≡◌, ℕ, ◌+◌, Bool, true, false, cond, not, eqb, leb, List, [], ◌∷◌, ◌++◌, map, Some, None, Ok, Err, vec_items, filter, Option, Result, sym, refl, ap, ◌∙◌, subst, inl, inr, ⊎_elim, append-nil, arith}
use borrow.Author.Tests.{clash}
use Rattle.std.proofs.lemmas.Bool.{and_from, and_parts, eq-eqb, leb-true, ne_eqb, not_from_false, or_from, or_left, or_right}
use Rattle.network.specs.Checks.{Told, answered, first_failed, refusal}
use Rattle.network.specs.Lists.{In, all_of, among, any_of}
use Rattle.network.specs.Net.{Net}
use Rattle.length.specs.Model.{Model}
use Rattle.length.proofs.Members.{in_kept}
use Rattle.ledger.specs.declared.slip.Slip.{Slip}
use Rattle.ledger.specs.Slips.{ticket_on}
use Rattle.ledger.specs.Tally.{Entry, Tally, is_booked, close_next, close_refusal, confirm_next, is_held, held_tickets, hold_next, hold_refusal, next_ticket, reopen_next, reopen_refusal, slip_refusal, strike_next, unless_refused}
use Rattle.desk.specs.Calls.{Answer, HandedBack, enquired, held, confirmed, gone, ended, closed, reopened, taken_or_back}
use Rattle.desk.specs.Questions.{Telling, an_answer, a_showing, tally_then, telling_by}
use Rattle.desk.specs.Turns.{asking_in, telling_in}
use Rattle.desk.specs.declared.requests.Request.{Request}
use Rattle.desk.specs.declared.requests.Reply.{Reply}
use Rattle.desk.proofs.Slips.{Sound, distinct_push, held_book, held_ended, held_more, held_struck}
use Rattle.orders.specs.InHand.{AllHeld, TakenOut, slips_brought, slips_given}
use Rattle.orders.proofs.Members.{from_last, in_among, in_last, in_left, in_middle, once_middle, taken_last, the_middle}

-- a held ticket is not refused
held_there : (u : ℕ) (xs : List Entry) → In u (map (λ x. x.ticket) (filter (λ x. not x.booked) xs)) → any_of (is_held u) xs ≡ true
held_there u [] i = elim i [ ]
held_there u (x ∷ xs) i = go x.booked refl i (held_there u xs)
  where
    go : (b : Bool) → x.booked ≡ b → In u (map (λ x. x.ticket) (cond (not b) (x ∷ filter (λ x. not x.booked) xs) (filter (λ x. not x.booked) xs)))
        → (In u (map (λ x. x.ticket) (filter (λ x. not x.booked) xs)) → any_of (is_held u) xs ≡ true) → any_of (is_held u) (x ∷ xs) ≡ true
    go true e i ih = or_right _ _ (ih i)
    go false e (inl q) ih = or_left _ _ (and_from _ _ (eq-eqb x.ticket u (sym q)) (not_from_false _ e))
    go false e (inr i) ih = or_right _ _ (ih i)

not_refused : (t : Tally) (u : ℕ) → In u (held_tickets t) → slip_refusal t u ≡ None
not_refused t u i = ap (λ b. first_failed ((not b, refusal 40) ∷ [])) (held_there u t.entries i)

-- nothing taken out
left_same : (hand left : List ℕ) → TakenOut hand [] left → hand ≡ left ++ []
left_same hand left out = out.was ∙ (sym out.is ∙ sym (append-nil left))

all_in : (t t' : Tally) (hand : List ℕ) → held_tickets t ≡ held_tickets t' → AllHeld t hand → AllHeld t' hand
all_in t t' hand same h = record { once = h.once; held = λ v i. subst (In v) same (h.held v i) }

-- one slip taken out, and its ticket held no more
one_less : (t t' : Tally) (u : ℕ) (hand left : List ℕ) → held_tickets t' ≡ filter (λ v. not (eqb v u)) (held_tickets t) → AllHeld t hand → TakenOut hand (u ∷ []) left → AllHeld t' left
one_less t t' u hand left less h out =
    let was : AllHeld t (out.before ++ u ∷ out.after) = subst (AllHeld t) out.was h in
    let once = once_middle u out.before out.after was.once in
    let rest : AllHeld t' (out.before ++ out.after) = record {
      once = once.0;
      held = λ v i.
          let apart : eqb v u ≡ false = ne_eqb v u (λ e. clash (sym once.1 ∙ subst (λ w. among w (out.before ++ out.after) ≡ true) e (in_among v (out.before ++ out.after) i))) in
          subst (In v) (sym less) (in_kept (λ v. not (eqb v u)) (held_tickets t) v (was.held v (in_middle v u out.before out.after i)) (not_from_false _ apart));
    } in
    subst (AllHeld t') (sym out.is) rest

taken_held : (t : Tally) (u : ℕ) (hand left : List ℕ) → AllHeld t hand → TakenOut hand (u ∷ []) left → In u (held_tickets t)
taken_held t u hand left h out = h.held u (subst (In u) (sym out.was) (the_middle u out.before out.after))

-- the last slip in hand can be let go, and the others stay held
module _ {N : Type 0} (t : Tally) (slips left : List (Slip N)) (slip : Slip N) (whole : slips ≡ left ++ slip ∷ []) (h : AllHeld t (map ticket_on slips)) where
  pub last_held : slip_refusal t (ticket_on slip) ≡ None
  last_held = not_refused t (ticket_on slip) (taken_held t (ticket_on slip) (map ticket_on slips) (map ticket_on left) h (taken_last ticket_on slips left slip whole))

  pub others_held : AllHeld (unless_refused (slip_refusal t (ticket_on slip)) (strike_next t (ticket_on slip)) t) (map ticket_on left)
  others_held =
      let u = ticket_on slip in
      subst (λ o. AllHeld (unless_refused o (strike_next t u) t) (map ticket_on left)) (sym last_held)
      (one_less t (strike_next t u) u (map ticket_on slips) (map ticket_on left) (held_struck u t.entries) h (taken_last ticket_on slips left slip whole))

-- one slip given, under a new ticket
counted_in : (n v : ℕ) (xs : List Entry) → all_of (λ u. leb u n) (map (λ x. x.ticket) xs) ≡ true → In v (map (λ x. x.ticket) (filter (λ x. not x.booked) xs)) → leb v n ≡ true
counted_in n v [] all i = elim i [ ]
counted_in n v (x ∷ xs) all i = let p = and_parts (leb x.ticket n) _ all in go x.booked p.0 i (counted_in n v xs p.1)
  where
    go : (b : Bool) → leb x.ticket n ≡ true → In v (map (λ x. x.ticket) (cond (not b) (x ∷ filter (λ x. not x.booked) xs) (filter (λ x. not x.booked) xs)))
        → (In v (map (λ x. x.ticket) (filter (λ x. not x.booked) xs)) → leb v n ≡ true) → leb v n ≡ true
    go true low i ih = ih i
    go false low (inl e) ih = subst (λ w. leb w n ≡ true) (sym e) low
    go false low (inr i) ih = ih i

fresh : (n : ℕ) (hand : List ℕ) → ((v : ℕ) → In v hand → leb v n ≡ true) → among (n + 1) hand ≡ false
fresh n [] h = refl
fresh n (x ∷ hand) h =
    let low = leb-true x n (h x (inl refl)) in
    or_from _ _ (ne_eqb (n + 1) x (λ e. omega arith)) (fresh n hand (λ v i. h v (inr i)))

one_more : (t : Tally) (w : ℕ) (a : List ℕ) (hand : List ℕ) → Sound t → AllHeld t hand → AllHeld (hold_next t w a) (hand ++ next_ticket t ∷ [])
one_more t w a hand sound h =
    let more = held_more t w a in
    record {
      once = distinct_push (next_ticket t) hand h.once (fresh t.given hand (λ v i. counted_in t.given v t.entries sound.counted (h.held v i)));
      held = λ v i. subst (In v) (sym more) (⊎_elim
          (λ j. in_left v (held_tickets t) (next_ticket t ∷ []) (h.held v j))
          (λ e. subst (λ n. In n (held_tickets t ++ next_ticket t ∷ [])) (sym e) (in_last (next_ticket t) (held_tickets t)))
          (from_last v (next_ticket t) hand i));
    }

-- the slips that come with an answer
abbrev back_by : Result (Unit {0}) HandedBack → List ℕ
back_by (Ok x) = []
back_by (Err h) = h.ticket ∷ []

abbrev given_by : {L : Type 0} → Answer L → List ℕ
given_by (enquired a) = []
given_by (held r) = elim r [ Ok ticket ↦ ticket ∷ [] | Err told ↦ [] ]
given_by (confirmed r) = back_by r
given_by (gone r) = back_by r
given_by (ended r) = []
given_by (closed r) = []
given_by (reopened r) = []

abbrev given_in : {L : Type 0} → Telling L → List ℕ
given_in (an_answer a) = given_by a
given_in (a_showing s) = []

given_is : {N K L : Type 0} (reply : Reply N K L) → slips_given reply ≡ given_in (telling_in reply)
given_is (Reply.Enquired r m) = refl
given_is (Reply.Held (Ok slip) arcs) = refl
given_is (Reply.Held (Err refusal) arcs) = refl
given_is (Reply.Confirmed (Ok x)) = refl
given_is (Reply.Confirmed (Err r)) = refl
given_is (Reply.LetGo (Ok x)) = refl
given_is (Reply.LetGo (Err r)) = refl
given_is (Reply.Ended r) = refl
given_is (Reply.Closed r) = refl
given_is (Reply.Reopened r) = refl
given_is (Reply.Shown arc) = refl
given_is (Reply.Measured r arcs) = refl

quiet : (t : Tally) (hand left : List ℕ) → AllHeld t hand → TakenOut hand [] left → AllHeld t (left ++ [])
quiet t hand left h out = subst (AllHeld t) (left_same hand left out) h

module _ {N K L : Type 0} (model : K → Model L) (net : Net) (t : Tally) (sound : Sound t) (hand left : List ℕ) (h : AllHeld t hand) where
  -- what is in hand after a call and its answer is held
  still_held : (request : Request N K L) → TakenOut hand (slips_brought request) left
      → AllHeld (tally_then net t (asking_in request)) (left ++ given_in (telling_by model net t (asking_in request)))
  still_held (Request.Enquire e m) out = quiet t hand left h out
  still_held (Request.Hold width arcs) out = go (hold_refusal net t width (vec_items arcs))
    where
      go : (o : Option Told) → AllHeld (unless_refused o (hold_next t width (vec_items arcs)) t) (left ++ given_by {L = L} (held (answered o (next_ticket t))))
      go None = one_more t width (vec_items arcs) left sound (subst (AllHeld t) (left_same hand left out ∙ append-nil left) h)
      go (Some r) = quiet t hand left h out
  still_held (Request.Confirm slip) out =
      let u = ticket_on slip in
      let none = not_refused t u (taken_held t u hand left h out) in
      subst (λ o. AllHeld (unless_refused o (confirm_next t u) t) (left ++ back_by (taken_or_back o u))) (sym none)
      (subst (AllHeld (confirm_next t u)) (sym (append-nil left)) (one_less t (confirm_next t u) u hand left (held_book u t.entries) h out))
  still_held (Request.LetGo slip) out =
      let u = ticket_on slip in
      let none = not_refused t u (taken_held t u hand left h out) in
      subst (λ o. AllHeld (unless_refused o (strike_next t u) t) (left ++ back_by (taken_or_back o u))) (sym none)
      (subst (AllHeld (strike_next t u)) (sym (append-nil left)) (one_less t (strike_next t u) u hand left (held_struck u t.entries) h out))
  still_held (Request.End u) out = go (any_of (is_booked u) t.entries) refl
    where
      go : (b : Bool) → any_of (is_booked u) t.entries ≡ b → AllHeld (unless_refused (first_failed ((not b, refusal 41) ∷ [])) (strike_next t u) t) (left ++ [])
      go true e = all_in t (strike_next t u) (left ++ []) (sym (held_ended u t.entries sound.once e)) (quiet t hand left h out)
      go false e = quiet t hand left h out
  still_held (Request.Close arc) out = elim (close_refusal net t arc) as (λ o. AllHeld (unless_refused o (close_next t arc) t) (left ++ [])) [ None ↦ all_in t (close_next t arc) (left ++ []) refl (quiet t hand left h out) | Some r ↦ quiet t hand left h out ]
  still_held (Request.Reopen arc) out = elim (reopen_refusal net t arc) as (λ o. AllHeld (unless_refused o (reopen_next t arc) t) (left ++ [])) [ None ↦ all_in t (reopen_next t arc) (left ++ []) refl (quiet t hand left h out) | Some r ↦ quiet t hand left h out ]
  still_held (Request.Ask arc) out = quiet t hand left h out
  still_held (Request.Measure kind arcs) out = quiet t hand left h out

  pub turn_held : (request : Request N K L) (reply : Reply N K L) → telling_in reply ≡ telling_by model net t (asking_in request) → TakenOut hand (slips_brought request) left
      → AllHeld (tally_then net t (asking_in request)) (left ++ slips_given reply)
  turn_held request reply is out =
      subst (λ ts. AllHeld (tally_then net t (asking_in request)) (left ++ ts)) (sym (given_is reply ∙ ap given_in is)) (still_held request out)

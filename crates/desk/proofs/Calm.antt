-- A part of a trace in which only closings and enquiries were granted.
use Rattle.std.proofs.Common.{◌≡◌, ℕ, ◌-◌, Bool, true, false, cond, not, ◌&&◌, ◌||◌, eqb, [], ◌∷◌, ◌++◌, Some, None, Ok, Err, Option, sym, refl, ap, ◌∙◌, arith}
use borrow.Author.Tests.{clash}
use Rattle.std.proofs.lemmas.Bool.{and_parts}
use Rattle.network.specs.Lists.{any_of}
use Rattle.network.specs.Net.{Net, arc_at}
use Rattle.desk.specs.Calls.{Call, enquire, hold, confirm, let_go, end, close, reopen, Answer, enquired, held, confirmed, gone, ended, closed, reopened}
use Rattle.desk.specs.Trace.{Step, Trace, is_granted, ticket_given, width_on, gives_up, mark_after, closes_or_enquires, granted_call, outlasting, width_held, closed_from, closed_after, free_after}
use Rattle.desk.specs.Faithful.{only_closings}

-- the test that each step passes
abbrev calm : {K L : Type 0} → Step K L → Bool
calm s = not (is_granted s.answer) || closes_or_enquires s.call

not_granted : (g : Bool) → (not g || false) ≡ true → g ≡ false
not_granted true h = absurd (clash h)
not_granted false h = refl

and_off : (a b : Bool) → b ≡ false → (a && b) ≡ false
and_off true b e = e
and_off false b e = refl

no_ticket : {L : Type 0} (a : Answer L) → is_granted a ≡ false → ticket_given a ≡ None
no_ticket (enquired a) h = refl
no_ticket (held (Ok s)) h = absurd (clash (sym h))
no_ticket (held (Err r)) h = refl
no_ticket (confirmed r) h = refl
no_ticket (gone r) h = refl
no_ticket (ended r) h = refl
no_ticket (closed r) h = refl
no_ticket (reopened r) h = refl

adds_none : (n : ℕ) (o : Option ℕ) → n ≡ 0 → elim o as (λ (o : Option ℕ). ℕ) [ None ↦ 0 | Some t ↦ n ] ≡ 0
adds_none n None e = refl
adds_none n (Some t) e = e

plain : (g w x : Bool) → (cond g w w || x) ≡ (w || (cond g false false || x))
plain true true x = refl
plain true false x = refl
plain false true x = refl
plain false false x = refl

closing : (g e w x : Bool) → (cond g (e || w) w || x) ≡ (w || (cond g (e || false) false || x))
closing true true true x = refl
closing true true false x = refl
closing true false true x = refl
closing true false false x = refl
closing false e true x = refl
closing false e false x = refl

choose : (b c : Bool) (n : ℕ) → cond (b || c) 0 n ≡ cond c 0 (cond b 0 n)
choose true true n = refl
choose true false n = refl
choose false true n = refl
choose false false n = refl

module _ {K L : Type 0} where
  abbrev stepped : Call K L → Answer L → Step K L
  stepped c a = record { call = c; answer = a }

  gives_nothing : (t : ℕ) (c : Call K L) (a : Answer L) → calm (stepped c a) ≡ true → granted_call (gives_up t) (stepped c a) ≡ false
  gives_nothing t (enquire b) a h = refl
  gives_nothing t (hold w x) a h = refl
  gives_nothing t (confirm u) a h = refl
  gives_nothing t (let_go u) a h = and_off (eqb t u) _ (not_granted _ h)
  gives_nothing t (end u) a h = and_off (eqb t u) _ (not_granted _ h)
  gives_nothing t (close j) a h = refl
  gives_nothing t (reopen j) a h = refl

  pub gives_none : (t : ℕ) (trace : Trace K L) → only_closings trace ≡ true → any_of (granted_call (gives_up t)) trace ≡ false
  gives_none t [] h = refl
  gives_none t (s ∷ trace) h =
      let p = and_parts (calm s) (only_closings trace) h in
      ap (λ b. b || any_of (granted_call (gives_up t)) trace) (gives_nothing t s.call s.answer p.0) ∙ gives_none t trace p.1

  -- the width that one step adds
  abbrev adds : ℕ → Step K L → Trace K L → ℕ
  adds i s later = elim (outlasting gives_up s later) as (λ (o : Option ℕ). ℕ) [ None ↦ 0 | Some t ↦ width_on i s.call ]

  adds_nothing : (i : ℕ) (c : Call K L) (a : Answer L) (later : Trace K L) → calm (stepped c a) ≡ true → adds i (stepped c a) later ≡ 0
  adds_nothing i (enquire b) a later h = adds_none 0 (outlasting gives_up (stepped (enquire b) a) later) refl
  adds_nothing i (hold w x) a later h =
      ap (λ (o : Option ℕ). elim (elim o as (λ (o : Option ℕ). Option ℕ) [ None ↦ None | Some t ↦ cond (any_of (granted_call (gives_up t)) later) None (Some t) ]) as (λ (o : Option ℕ). ℕ) [ None ↦ 0 | Some t ↦ width_on {K = K} {L = L} i (hold w x) ])
      (no_ticket a (not_granted _ h))
  adds_nothing i (confirm u) a later h = adds_none 0 (outlasting gives_up (stepped (confirm u) a) later) refl
  adds_nothing i (let_go u) a later h = adds_none 0 (outlasting gives_up (stepped (let_go u) a) later) refl
  adds_nothing i (end u) a later h = adds_none 0 (outlasting gives_up (stepped (end u) a) later) refl
  adds_nothing i (close j) a later h = adds_none 0 (outlasting gives_up (stepped (close j) a) later) refl
  adds_nothing i (reopen j) a later h = adds_none 0 (outlasting gives_up (stepped (reopen j) a) later) refl

  holds_nothing : (i : ℕ) (trace : Trace K L) → only_closings trace ≡ true → width_held i trace ≡ 0
  holds_nothing i [] h = refl
  holds_nothing i (s ∷ trace) h =
      let p = and_parts (calm s) (only_closings trace) h in
      let one : adds i s trace ≡ 0 = adds_nothing i s.call s.answer trace p.0 in
      let ih = holds_nothing i trace p.1 in
      omega arith

  any_calm : (f : Step K L → Bool) (xs ys : Trace K L) → any_of f ys ≡ false → any_of f (xs ++ ys) ≡ any_of f xs
  any_calm f [] ys h = h
  any_calm f (x ∷ xs) ys h = ap (λ b. f x || b) (any_calm f xs ys h)

  -- what was held before is held still
  pub held_calm : (i : ℕ) (before trace : Trace K L) → only_closings trace ≡ true → width_held i (before ++ trace) ≡ width_held i before
  held_calm i [] trace h = holds_nothing i trace h
  held_calm i (s ∷ before) trace h =
      let same : adds i s (before ++ trace) ≡ adds i s before =
      ap (λ (o : Option ℕ). elim o as (λ (o : Option ℕ). ℕ) [ None ↦ 0 | Some t ↦ width_on i s.call ]) (lasts (ticket_given s.answer)) in
      let ih = held_calm i before trace h in
      omega arith
    where
      lasts : (o : Option ℕ) → elim o as (λ (o : Option ℕ). Option ℕ) [ None ↦ None | Some t ↦ cond (any_of (granted_call (gives_up t)) (before ++ trace)) None (Some t) ]
          ≡ elim o as (λ (o : Option ℕ). Option ℕ) [ None ↦ None | Some t ↦ cond (any_of (granted_call (gives_up t)) before) None (Some t) ]
      lasts None = refl
      lasts (Some t) = ap (λ b. cond b None (Some t)) (any_calm (granted_call (gives_up t)) before trace (gives_none t trace h))

  -- what was closed before is closed still, with what was closed since
  mark_calm : (i : ℕ) (c : Call K L) (a : Answer L) (w x : Bool) → calm (stepped c a) ≡ true
      → (cond (is_granted a) (mark_after i c w) w || x) ≡ (w || (cond (is_granted a) (mark_after i c false) false || x))
  mark_calm i (enquire b) a w x h = plain (is_granted a) w x
  mark_calm i (hold u y) a w x h = plain (is_granted a) w x
  mark_calm i (confirm u) a w x h = plain (is_granted a) w x
  mark_calm i (let_go u) a w x h = plain (is_granted a) w x
  mark_calm i (end u) a w x h = plain (is_granted a) w x
  mark_calm i (close j) a w x h = closing (is_granted a) (eqb i j) w x
  mark_calm i (reopen j) a w x h =
      ap (λ g. cond g (not (eqb i j) && w) w || x) (not_granted (is_granted a) h) ∙ sym (ap (λ g. w || (cond g (not (eqb i j) && false) false || x)) (not_granted (is_granted a) h))

  pub closed_calm : (i : ℕ) (w : Bool) (trace : Trace K L) → only_closings trace ≡ true → closed_from i w trace ≡ (w || closed_from i false trace)
  closed_calm i true [] h = refl
  closed_calm i false [] h = refl
  closed_calm i w (s ∷ trace) h =
      let p = and_parts (calm s) (only_closings trace) h in
      closed_calm i (cond (is_granted s.answer) (mark_after i s.call w) w) trace p.1
      ∙ (mark_calm i s.call s.answer w (closed_from i false trace) p.0
      ∙ ap (λ b. w || b) (sym (closed_calm i (cond (is_granted s.answer) (mark_after i s.call false) false) trace p.1)))

  pub closed_append : (i : ℕ) (w : Bool) (before trace : Trace K L) → closed_from i w (before ++ trace) ≡ closed_from i (closed_from i w before) trace
  closed_append i w [] trace = refl
  closed_append i w (s ∷ before) trace = closed_append i (cond (is_granted s.answer) (mark_after i s.call w) w) before trace

  -- free capacity after it: 0 on what was closed, and else as before
  pub free_calm : (net : Net) (before trace : Trace K L) (i : ℕ) → only_closings trace ≡ true → free_after net (before ++ trace) i ≡ cond (closed_after trace i) 0 (free_after net before i)
  free_calm net before trace i h =
      ap (λ n. cond (closed_after (before ++ trace) i) 0 ((arc_at net i).capacity - n)) (held_calm i before trace h)
      ∙ (ap (λ b. cond b 0 ((arc_at net i).capacity - width_held i before)) (closed_append i false before trace ∙ closed_calm i (closed_after before i) trace h)
      ∙ choose (closed_after before i) (closed_after trace i) ((arc_at net i).capacity - width_held i before))

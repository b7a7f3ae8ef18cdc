-- The slips that a clerk has in hand, and what it asks and hears in terms of them.
use Rattle.std.specs.Prelude.{◌≡◌, ℕ, ◌<◌, Bool, true, false, List, [], ◌∷◌, ◌++◌, map, Some, None, Ok, Err, vec_items, vec_len, vec_capacity, Option, Result}
use Rattle.network.specs.Lists.{In, among, distinct}
use Rattle.ledger.specs.declared.slip.Slip.{Slip}
use Rattle.ledger.specs.declared.slip.SlipRefusal.{SlipRefusal}
use Rattle.ledger.specs.Slips.{slip_in, ticket_on}
use Rattle.ledger.specs.Tally.{Tally, held_tickets}
use Rattle.desk.specs.declared.requests.Request.{Request}
use Rattle.desk.specs.declared.requests.Reply.{Reply}
use Rattle.orders.specs.declared.pocket.Pocket.{Pocket}
use Rattle.orders.specs.declared.clerk.Clerk.{Clerk}

-- the tickets on the slips in a pocket
abbrev pub in_hand : {N : Type 0} → Pocket N → List ℕ
in_hand p = map ticket_on (vec_items p.slips)

-- there is a place for one slip more
abbrev pub Room : {N : Type 0} → Pocket N → Type 0
Room p = vec_len p.slips < vec_capacity p.slips

-- some tickets were taken out, and the others are left
pub record TakenOut (all out left : List ℕ) : Type 0 where
  pub before : List ℕ
  pub after : List ℕ
  pub was : all ≡ before ++ (out ++ after)
  pub is : left ≡ before ++ after

-- the slip of a ticket is taken out, and leaves room; or there is none of that ticket, and nothing is taken
abbrev pub Taken : {N : Type 0} → Pocket N → ℕ → Option (Slip N) → Pocket N → Type 0
Taken before ticket None after = (among ticket (in_hand before) ≡ false) × (in_hand after ≡ in_hand before)
Taken before ticket (Some slip) after =
    (ticket_on slip ≡ ticket) × (TakenOut (in_hand before) (ticket_on slip ∷ []) (in_hand after) × Room after)

-- no ticket is there twice, and each is that of a held entry
pub record AllHeld (t : Tally) (tickets : List ℕ) : Type 0 where
  pub once : distinct tickets ≡ true
  pub held : (ticket : ℕ) → In ticket tickets → In ticket (held_tickets t)

-- the slip that came back
abbrev pub came_back : {N : Type 0} → Result (Unit {0}) (SlipRefusal N) → List ℕ
came_back (Ok x) = []
came_back (Err r) = ticket_on (slip_in r) ∷ []

module _ {N K L : Type 0} where
  -- the slips that a request brings
  abbrev pub slips_brought : Request N K L → List ℕ
  slips_brought (Request.Enquire e m) = []
  slips_brought (Request.Hold width arcs) = []
  slips_brought (Request.Confirm slip) = ticket_on slip ∷ []
  slips_brought (Request.LetGo slip) = ticket_on slip ∷ []
  slips_brought (Request.End ticket) = []
  slips_brought (Request.Close arc) = []
  slips_brought (Request.Reopen arc) = []
  slips_brought (Request.Ask arc) = []
  slips_brought (Request.Measure kind arcs) = []

  -- a slip may come with the reply
  abbrev pub may_give_slip : Request N K L → Bool
  may_give_slip (Request.Enquire e m) = false
  may_give_slip (Request.Hold width arcs) = true
  may_give_slip (Request.Confirm slip) = true
  may_give_slip (Request.LetGo slip) = true
  may_give_slip (Request.End ticket) = false
  may_give_slip (Request.Close arc) = false
  may_give_slip (Request.Reopen arc) = false
  may_give_slip (Request.Ask arc) = false
  may_give_slip (Request.Measure kind arcs) = false

  -- the slips that come with a reply
  abbrev pub slips_given : Reply N K L → List ℕ
  slips_given (Reply.Enquired r m) = []
  slips_given (Reply.Held r arcs) = elim r [ Ok slip ↦ ticket_on slip ∷ [] | Err refusal ↦ [] ]
  slips_given (Reply.Confirmed r) = came_back r
  slips_given (Reply.LetGo r) = came_back r
  slips_given (Reply.Ended r) = []
  slips_given (Reply.Closed r) = []
  slips_given (Reply.Reopened r) = []
  slips_given (Reply.Shown arc) = []
  slips_given (Reply.Measured r arcs) = []

  -- a clerk brings slips that it has in hand, and has room for one that may come
  pub record Brings (before : Clerk N) (request : Request N K L) (after : Clerk N) : Type 0 where
    pub taken : TakenOut (in_hand before.pocket) (slips_brought request) (in_hand after.pocket)
    pub room : may_give_slip request ≡ true → Room after.pocket

  abbrev pub Asks : Clerk N → Option (Request N K L) → Clerk N → Type 0
  Asks before None after = in_hand after.pocket ≡ in_hand before.pocket
  Asks before (Some request) after = Brings before request after

  -- and keeps all slips that come
  abbrev pub Hears : Clerk N → Reply N K L → Clerk N → Type 0
  Hears before reply after = in_hand after.pocket ≡ in_hand before.pocket ++ slips_given reply

-- What a client that was served can rely on: the turns that it went through, and the law over all of them.
use Rattle.std.specs.Prelude.{◌≡◌, ℕ, ◌⊎◌, List, [], ◌∷◌, ◌++◌, length, Some, None, Option}
use Rattle.std.specs.List.{AllByRecursion}
use Rattle.network.specs.Net.{Net, arc_at}
use Rattle.length.specs.Model.{Model}
use Rattle.ledger.specs.declared.ledger.Ledger.{Ledger}
use Rattle.ledger.specs.Ledgers.{ledger_tally, ledger_meaning, network_below, tickets_held}
use Rattle.ledger.specs.Tally.{Tally}
use Rattle.desk.specs.declared.requests.Request.{Request}
use Rattle.desk.specs.declared.requests.Reply.{Reply}
use Rattle.desk.specs.Calls.{tally_of}
use Rattle.desk.specs.Questions.{Question, a_question, a_showing, shown_by, telling_by}
use Rattle.desk.specs.Trace.{calls, net_after}
use Rattle.desk.specs.Faithful.{Faithful}
use Rattle.desk.specs.Turns.{Turn, Returned, asking_in, telling_in, trace_in}

-- `asks before r after`: the client, as it is before, asks r, or nothing more, and is then as it is after.
-- `hears before r after`: it is told r, and is then as it is after.
module _ {N K L C : Type 0} (asks : C → Option (Request N K L) → C → Type 0) (hears : C → Reply N K L → C → Type 0) where
  -- the client goes through the turns, the oldest first
  unfoldable pub Went : C → List (Turn N K L) → C → Type 0
  Went first [] last = first ≡ last
  Went first (turn ∷ turns) last =
      (asking : C) × (told : C) × (asks first (Some turn.request) asking × (hears asking turn.reply told × Went told turns last))

-- a client is told only what some ledger answers to the request that it has just made
pub record Due {N K L C : Type 0} (model : K → Model L) (asks : C → Option (Request N K L) → C → Type 0) (client : C) (reply : Reply N K L) : Type 0 where
  pub before : C
  pub request : Request N K L
  pub asked : asks before (Some request) client
  pub net : Net
  pub tally : Tally
  pub answered : telling_in reply ≡ telling_by model net tally (asking_in request)

-- the client was served over a network, for at most so many turns; the ledger is as the last turn leaves it
pub record Served {N K L C : Type 0} (model : K → Model L) (meaning : N → Net)
    (asks : C → Option (Request N K L) → C → Type 0) (hears : C → Reply N K L → C → Type 0)
    (network : N) (most : ℕ) (first last : C) (ledger : Ledger N) : Type 0 where
  -- the turns, the oldest first, and the client after them
  pub turns : List (Turn N K L)
  pub after : C
  pub went : Went asks hears first turns after
  -- there were as many as were allowed, or the client asked no more
  pub ended : ((length turns ≡ most) × (after ≡ last)) ⊎ asks after None last
  -- each turn tells what the tally of the calls before it tells
  pub answered : (before after : List (Turn N K L)) (turn : Turn N K L) → turns ≡ before ++ (turn ∷ after)
      → telling_in turn.reply ≡ telling_by model (meaning network) (tally_of (meaning network) (calls (trace_in before))) (asking_in turn.request)
  -- each question is answered by the network with the capacity that was then free
  pub shows : (before after : List (Turn N K L)) (turn : Turn N K L) (q : Question K) → turns ≡ before ++ (turn ∷ after)
      → asking_in turn.request ≡ a_question q → telling_in turn.reply ≡ a_showing (shown_by model (net_after (meaning network) (trace_in before)) q)
  -- the law over all calls among them, with the free capacity that the ledger shows and the tickets in its held rows
  pub law : Faithful model (meaning network) (trace_in turns) (λ i. (arc_at (ledger_meaning meaning ledger) i).capacity) (tickets_held ledger)
  -- what came back with each reply
  pub returned : AllByRecursion Returned turns
  -- the ledger lies over that network, and stands as the calls left it
  pub below : network_below ledger ≡ network
  pub tally : ledger_tally ledger ≡ tally_of (meaning network) (calls (trace_in turns))

-- What stands after each turn that a client is served, and the law over all of them.
use Rattle.std.proofs.Common.{◌≡◌, ℕ, ◌+◌, ◌⊎◌, List, [], ◌∷◌, ◌++◌, length, Some, None, Option, sym, refl, ap, ◌∙◌, subst, append-nil}
use Rattle.std.specs.List.{AllByRecursion}
use Rattle.std.proofs.ByRecursion.{All-append}
use Rattle.std.proofs.lemmas.List.{length-append}
use Rattle.network.specs.declared.arc.Arc.{Arc}
use Rattle.network.specs.Lists.{In, distinct}
use Rattle.network.specs.Net.{Net, WellFormed, arc_at}
use Rattle.length.specs.Model.{Model, Lawful}
use Rattle.ledger.specs.declared.ledger.Ledger.{Ledger}
use Rattle.ledger.specs.Ledgers.{ledger_meaning, ledger_tally, network_below, tickets_held}
use Rattle.ledger.specs.Tally.{Tally, opened, free_net, free_on, held_tickets}
use Rattle.ledger.proofs.HeldRows.{held_in_rows, held_rows_once}
use Rattle.ledger.specs.Shown.{shown_at}
use Rattle.desk.specs.declared.requests.Request.{Request}
use Rattle.desk.specs.declared.requests.Reply.{Reply}
use Rattle.desk.specs.Calls.{tally_answer, tally_from, tally_of}
use Rattle.desk.specs.Questions.{Asking, Question, Telling, a_call, a_question, a_showing, shown_by, tally_then, telling_by}
use Rattle.desk.specs.Trace.{Step, Trace, calls, net_after}
use Rattle.desk.specs.Faithful.{Faithful, run_from}
use Rattle.desk.specs.Turns.{Turn, Returned, asking_in, steps, telling_in, trace_in}
use Rattle.desk.specs.Served.{Served, Went}
use Rattle.desk.proofs.Law.{the_tally_is_faithful}
use Rattle.desk.proofs.Listed.{net_is}

-- one thing asked in front: the calls made, and the run of them
module _ {K L : Type 0} (model : K → Model L) (net : Net) where
  made_first : (a : Asking K L) (t : Tally) (rest : Trace K L)
      → tally_from net t (calls (steps a (telling_by model net t a) ++ rest)) ≡ tally_from net (tally_then net t a) (calls rest)
  made_first (a_call c) t rest = refl
  made_first (a_question q) t rest = refl

  ran_first : (a : Asking K L) (t : Tally) (rest : Trace K L) → rest ≡ run_from model net (tally_then net t a) (calls rest)
      → steps a (telling_by model net t a) ++ rest ≡ run_from model net t (calls (steps a (telling_by model net t a) ++ rest))
  ran_first (a_call c) t rest h =
      let first : Step K L = record { call = c; answer = tally_answer model net t c } in ap (λ r. first ∷ r) h
  ran_first (a_question q) t rest h = h

-- turns that each tell what the tally of the calls before them tells
module _ {N K L : Type 0} (model : K → Model L) (net : Net) where
  -- the tally after some turns
  pub tally_past : Tally → List (Turn N K L) → Tally
  tally_past t [] = t
  tally_past t (turn ∷ turns) = tally_past (tally_then net t (asking_in turn.request)) turns

  pub AllTold : Tally → List (Turn N K L) → Type 0
  AllTold t [] = Unit {0}
  AllTold t (turn ∷ turns) =
      (telling_in turn.reply ≡ telling_by model net t (asking_in turn.request)) × AllTold (tally_then net t (asking_in turn.request)) turns

  pub past_more : (turns : List (Turn N K L)) (t : Tally) (turn : Turn N K L)
      → tally_past t (turns ++ turn ∷ []) ≡ tally_then net (tally_past t turns) (asking_in turn.request)
  unfolding tally_past
  past_more [] t turn = refl
  past_more (x ∷ turns) t turn = past_more turns (tally_then net t (asking_in x.request)) turn

  pub told_more : (turns : List (Turn N K L)) (t : Tally) (turn : Turn N K L) → AllTold t turns
      → telling_in turn.reply ≡ telling_by model net (tally_past t turns) (asking_in turn.request) → AllTold t (turns ++ turn ∷ [])
  unfolding AllTold tally_past
  told_more [] t turn told here = (here, tt)
  told_more (x ∷ turns) t turn told here = (told.0, told_more turns (tally_then net t (asking_in x.request)) turn told.1 here)

  pub told_front : (before after : List (Turn N K L)) (t : Tally) → AllTold t (before ++ after) → AllTold t before
  unfolding AllTold
  told_front [] after t told = tt
  told_front (x ∷ before) after t told = (told.0, told_front before after (tally_then net t (asking_in x.request)) told.1)

  pub told_at : (before after : List (Turn N K L)) (turn : Turn N K L) (t : Tally) → AllTold t (before ++ (turn ∷ after))
      → telling_in turn.reply ≡ telling_by model net (tally_past t before) (asking_in turn.request)
  unfolding AllTold tally_past
  told_at [] after turn t told = told.0
  told_at (x ∷ before) after turn t told = told_at before after turn (tally_then net t (asking_in x.request)) told.1

  -- the tally after the turns is the tally of the calls made
  pub made_past : (turns : List (Turn N K L)) (t : Tally) → AllTold t turns → tally_from net t (calls (trace_in turns)) ≡ tally_past t turns
  unfolding AllTold tally_past
  made_past [] t told = refl
  made_past (x ∷ turns) t told =
      let a = asking_in x.request in
      ap (λ r. tally_from net t (calls (steps a r ++ trace_in turns))) told.0
      ∙ (made_first model net a t (trace_in turns) ∙ made_past turns (tally_then net t a) told.1)

  -- their trace is the tally's own
  pub ran_all : (turns : List (Turn N K L)) (t : Tally) → AllTold t turns → trace_in turns ≡ run_from model net t (calls (trace_in turns))
  unfolding AllTold
  ran_all [] t told = refl
  ran_all (x ∷ turns) t told =
      let a = asking_in x.request in
      subst (λ (r : Telling L). steps a r ++ trace_in turns ≡ run_from model net t (calls (steps a r ++ trace_in turns))) (sym told.0)
      (ran_first model net a t (trace_in turns) (ran_all turns (tally_then net t a) told.1))

  -- a question is answered by the network with the capacity that was then free
  pub shown_then : ((kind : K) → Lawful (model kind)) → WellFormed net → (before after : List (Turn N K L)) (turn : Turn N K L) (q : Question K)
      → AllTold opened (before ++ (turn ∷ after)) → asking_in turn.request ≡ a_question q
      → telling_in turn.reply ≡ a_showing (shown_by model (net_after net (trace_in before)) q)
  shown_then law wf before after turn q told is =
      let front = told_front before (turn ∷ after) opened told in
      let run : run_from model net opened (calls (trace_in before)) ≡ trace_in before ++ [] =
      sym (ran_all before opened front) ∙ sym (append-nil (trace_in before)) in
      let then = net_is model law net wf (calls (trace_in before)) (trace_in before) [] run in
      told_at before after turn opened told
      ∙ (ap (telling_by model net (tally_past opened before)) is
      ∙ (ap (λ t. a_showing (shown_by model (free_net net t) q)) (sym (made_past before opened front))
      ∙ ap (λ n. a_showing (shown_by model n q)) (sym then)))

-- before the first turn
pub none_told : (N : Type 0) {K L : Type 0} (model : K → Model L) (net : Net) (t : Tally) → AllTold {N = N} model net t []
unfolding AllTold
none_told N model net t = tt

pub past_none : (N : Type 0) {K L : Type 0} (model : K → Model L) (net : Net) (t : Tally) → tally_past {N = N} model net t [] ≡ t
unfolding tally_past
past_none N model net t = refl

module _ {N K L C : Type 0} (model : K → Model L) (meaning : N → Net)
    (asks : C → Option (Request N K L) → C → Type 0) (hears : C → Reply N K L → C → Type 0) (network : N) where
  -- one turn more
  went_more : (turns : List (Turn N K L)) (first before asking after : C) (turn : Turn N K L)
      → Went asks hears first turns before → asks before (Some turn.request) asking → hears asking turn.reply after
      → Went asks hears first (turns ++ turn ∷ []) after
  unfolding Went
  went_more [] first before asking after turn went asked heard =
      (asking, after, (subst (λ c. asks c (Some turn.request) asking) (sym went) asked, (heard, refl)))
  went_more (t ∷ turns) first before asking after turn went asked heard =
      (went.0, went.1, (went.2.0, (went.2.1.0, went_more turns went.1 before asking after turn went.2.1.1 asked heard)))

  -- what stands after some turns
  pub record SoFar (first : C) (count : ℕ) (ledger : Ledger N) (client : C) : Type 0 where
    pub turns : List (Turn N K L)
    pub went : Went asks hears first turns client
    pub counted : length turns ≡ count
    pub told : AllTold model (meaning network) opened turns
    pub returned : AllByRecursion Returned turns
    pub below : network_below ledger ≡ network
    pub tally : ledger_tally ledger ≡ tally_past model (meaning network) opened turns

  pub none_yet : (first : C) (ledger : Ledger N) → network_below ledger ≡ network → ledger_tally ledger ≡ opened → SoFar first 0 ledger first
  unfolding Went
  none_yet first ledger below tally =
      record {
        turns = [];
        went = refl;
        counted = refl;
        told = none_told N model (meaning network) opened;
        returned = tt;
        below = below;
        tally = tally ∙ sym (past_none N model (meaning network) opened);
      }

  -- what one more turn does
  pub record Turned (before after : Ledger N) (turn : Turn N K L) : Type 0 where
    pub answer : telling_in turn.reply ≡ telling_by model (meaning (network_below before)) (ledger_tally before) (asking_in turn.request)
    pub tally : ledger_tally after ≡ tally_then (meaning (network_below before)) (ledger_tally before) (asking_in turn.request)
    pub below : network_below after ≡ network_below before
    pub returned : Returned turn

  pub one_more : (first before asking after : C) (count : ℕ) (ledger ledger' : Ledger N) (turn : Turn N K L) → SoFar first count ledger before
      → Turned ledger ledger' turn → asks before (Some turn.request) asking → hears asking turn.reply after → SoFar first (count + 1) ledger' after
  one_more first before asking after count ledger ledger' turn so did asked heard =
      let net = meaning network in
      let a = asking_in turn.request in
      record {
        turns = so.turns ++ turn ∷ [];
        went = went_more so.turns first before asking after turn so.went asked heard;
        counted = length-append so.turns (turn ∷ []) ∙ ap (λ n. n + 1) so.counted;
        told = told_more model net so.turns opened turn so.told (did.answer ∙ (λ k. telling_by model (meaning (so.below k)) (so.tally k) a));
        returned = All-append Returned so.turns (turn ∷ []) so.returned (did.returned, tt);
        below = did.below ∙ so.below;
        tally = did.tally ∙ ((λ k. tally_then (meaning (so.below k)) (so.tally k) a) ∙ sym (past_more model net so.turns opened turn));
      }

  -- the law over all calls among them
  pub law_so_far : ((kind : K) → Lawful (model kind)) → WellFormed (meaning network) → (first client : C) (count : ℕ) (ledger : Ledger N) (so : SoFar first count ledger client)
      → Faithful model (meaning network) (trace_in so.turns) (λ i. (arc_at (ledger_meaning meaning ledger) i).capacity) (tickets_held ledger)
  law_so_far law wf first client count ledger so =
      let net = meaning network in
      let t = tally_of net (calls (trace_in so.turns)) in
      let now : ledger_tally ledger ≡ t = so.tally ∙ sym (made_past model net so.turns opened so.told) in
      let all : Faithful model net (trace_in so.turns) (free_on net t) (held_tickets t) =
      subst (λ trace. Faithful model net trace (free_on net t) (held_tickets t)) (sym (ran_all model net so.turns opened so.told))
      (the_tally_is_faithful model law net wf (calls (trace_in so.turns))) in
      let held : held_tickets (ledger_tally ledger) ≡ held_tickets t = ap held_tickets now in
      record {
        answers = all.answers;
        capacity = λ i h.
            (λ k. (arc_at (free_net (meaning (so.below k)) (now k)) i).capacity)
            ∙ (ap (λ (a : Arc). a.capacity) (shown_at net (free_on net t) i h) ∙ all.capacity i h);
        never_oversold = all.never_oversold;
        lists = all.lists;
        kept = all.kept;
        slips_once = (held_rows_once ledger ∙ (ap distinct held ∙ all.slips_once.0), all.slips_once.1);
        slips_match = λ ticket. (
          λ h. (all.slips_match ticket).0 (subst (In ticket) held ((held_in_rows ledger ticket).0 h)),
          λ h. (held_in_rows ledger ticket).1 (subst (In ticket) (sym held) ((all.slips_match ticket).1 h)),
        );
      }

  pub served : ((kind : K) → Lawful (model kind)) → WellFormed (meaning network) → (first client last : C) (count most : ℕ) (ledger : Ledger N) (so : SoFar first count ledger client)
      → ((length so.turns ≡ most) × (client ≡ last)) ⊎ asks client None last
      → Served model meaning asks hears network most first last ledger
  served law wf first client last count most ledger so ended =
      let net = meaning network in
      let told_of : (turns : List (Turn N K L)) → so.turns ≡ turns → AllTold model net opened turns = λ turns e. subst (AllTold model net opened) e so.told in
      record {
        turns = so.turns;
        after = client;
        went = so.went;
        ended = ended;
        answered = λ before after turn e.
            let told = told_of (before ++ (turn ∷ after)) e in
            told_at model net before after turn opened told
            ∙ ap (λ t. telling_by model net t (asking_in turn.request)) (sym (made_past model net before opened (told_front model net before (turn ∷ after) opened told)));
        shows = λ before after turn q e is. shown_then model net law wf before after turn q (told_of (before ++ (turn ∷ after)) e) is;
        law = law_so_far law wf first client count ledger so;
        returned = so.returned;
        below = so.below;
        tally = so.tally ∙ sym (made_past model net so.turns opened so.told);
      }

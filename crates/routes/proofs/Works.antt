-- The work as it goes on: what holds after so many lines were taken, and while one is made longer.
use Rattle.std.proofs.Common.{◌≡◌, ℕ, ◌+◌, ◌-◌, ◌<◌, ◌≤◌, Bool, true, false, cond, eqb, List, [], ◌∷◌, ◌++◌, map, length, get_or, take, set, Some, None, filter, Option, unwrap_or, sym, refl, ap, ◌∙◌, subst, ⊎_elim, zero-add, arith}
use Rattle.std.specs.List.{range_with_len, slice_get}
use Rattle.std.proofs.lemmas.List.FromFn.{map-range_with_len_more}
use Rattle.std.proofs.lemmas.List.{append_assoc, append-nil, get_or_append_left, get_or_push, length-append, length_push, length-set, length-take-le, map-append, take_more}
use Rattle.std.proofs.lemmas.List.Elements.{filter_more}
use Rattle.std.proofs.lemmas.Bool.{and_from, and_parts, cases_eq, eq-eqb, eqb-false, eqb-true, ne_eqb}
use Rattle.network.specs.ListsLemmas.{some_same, none_some}
use Rattle.network.specs.Lists.{In}
use Rattle.network.specs.Net.{Net, WellFormed, arc_count}
use Rattle.length.proofs.Members.{in_counting, in_map}
use Rattle.length.specs.Model.{Model, Lawful}
use Rattle.routes.specs.declared.enquiry.Enquiry.{Enquiry}
use Rattle.routes.specs.declared.line.Line.{Line}
use Rattle.routes.specs.Routes.{at_site, is_complete, end_of, extended, is_path, route_list, some_site}
use Rattle.routes.specs.Partial.{admissible_of, line_count, partial_routes, is_partial, taken, written}
use Rattle.routes.specs.Lines.{Asked, OnLine, line_of, next_line, is_writable}
use Rattle.routes.specs.Choice.{AllTaken, FirstLine}
use Rattle.routes.specs.Work.{Completed, Ended, Noted, OneLine, marked, notebook_after, used_after}
use Rattle.routes.proofs.Chosen.{chosen_used}
use Rattle.routes.proofs.Lines.{Admitted, at_place, in_admissible_of}
use Rattle.routes.proofs.Noted.{few_of, noted_mark, noted_write}
use Rattle.routes.proofs.Parents.{some_there}
use Rattle.routes.proofs.Places.{unique_take}
use Rattle.routes.proofs.Progress.{admissible_append, admissible_push, counting_split, new_line, next_is, none_more, written_so_far}
use Rattle.routes.proofs.Taken.{taken_lists_the_routes}
use Rattle.routes.proofs.Written.{complete_of, lines_more, taken_end, partial_once, taken_stop, written_empty, written_more, written_once}

-- a line written keeps the length
after_long : {L : Type 0} (o : Option (Line L)) (used lines : ℕ) (notebook : List (Line L)) → length (notebook_after o used lines notebook) ≡ length notebook
after_long None used lines notebook = refl
after_long (Some line) used lines notebook = go (eqb used lines)
  where
    go : (b : Bool) → length (cond b notebook (set notebook used line)) ≡ length notebook
    go true = refl
    go false = length-set notebook used line

module _ {K L : Type 0} (model : K → Model L) (net : Net) (e : Enquiry K) where
  abbrev PR : List (List ℕ)
  PR = partial_routes model net e

  abbrev W : ℕ → List (List ℕ)
  W k = written model net e (take k PR)

  abbrev Done : ℕ → List (List ℕ)
  Done k = filter (is_complete net e) (take k PR)

  -- after k lines were taken
  pub record Working (lines k used : ℕ) (notebook : List (Line L)) (finished : List ℕ) : Type 0 where
    pub some : k ≤ length (partial_routes model net e)
    pub noted : Noted model net e (written model net e (take k (partial_routes model net e))) (take k (partial_routes model net e)) notebook used
    pub long : length notebook ≡ lines
    pub wanting : length finished < e.wanted
    pub completed : Completed model net e (written model net e (take k (partial_routes model net e))) (filter (is_complete net e) (take k (partial_routes model net e))) finished

  -- while the next of them is made longer, by the arcs below i
  pub record Widening (lines k i used : ℕ) (notebook : List (Line L)) (finished : List ℕ) (line : Line L) : Type 0 where
    pub more : k < length (partial_routes model net e)
    pub away : is_complete net e (get_or (partial_routes model net e) k []) ≡ false
    pub on : OnLine model net e line
    pub route : line.arcs ≡ get_or (partial_routes model net e) k []
    pub noted : Noted model net e (written model net e (take k (partial_routes model net e)) ++ admissible_of model net e (map (λ n. get_or (partial_routes model net e) k [] ++ n ∷ []) (range_with_len 0 i)))
        (take (k + 1) (partial_routes model net e)) notebook used
    pub long : length notebook ≡ lines
    pub wanting : length finished < e.wanted
    pub completed : Completed model net e (written model net e (take k (partial_routes model net e))) (filter (is_complete net e) (take k (partial_routes model net e))) finished

  -- what is known of the kind, the network and the enquiry
  pub record Known : Type 0 where
    pub law : Lawful (model e.kind)
    pub wf : WellFormed net
    pub asked : Asked net e

  next_taken : (k : ℕ) → k < length PR → take (k + 1) PR ≡ take k PR ++ get_or PR k [] ∷ []
  next_taken k h = take_more PR k [] h

  -- the complete ones among those taken, one more
  done_more : (k : ℕ) → k < length PR → Done (k + 1) ≡ Done k ++ cond (is_complete net e (get_or PR k [])) (get_or PR k [] ∷ []) []
  done_more k h = filter_more (is_complete net e) PR k [] h

  done_same : (k : ℕ) → k < length PR → is_complete net e (get_or PR k []) ≡ false → Done (k + 1) ≡ Done k
  done_same k h away = done_more k h ∙ ap (λ b. Done k ++ cond b (get_or PR k [] ∷ []) []) away ∙ append-nil (Done k)

  done_one : (k : ℕ) → k < length PR → is_complete net e (get_or PR k []) ≡ true → Done (k + 1) ≡ Done k ++ get_or PR k [] ∷ []
  done_one k h full = done_more k h ∙ ap (λ b. Done k ++ cond b (get_or PR k [] ∷ []) []) full

  written_same : (k : ℕ) → k < length PR → is_complete net e (get_or PR k []) ≡ true → W (k + 1) ≡ W k
  written_same k h full = written_more model net e PR k h ∙ ap (λ b. W k ++ cond b [] (admissible_of model net e (extended net (get_or PR k [])))) full ∙ append-nil (W k)

  written_wide : (k : ℕ) → k < length PR → is_complete net e (get_or PR k []) ≡ false → W (k + 1) ≡ W k ++ admissible_of model net e (extended net (get_or PR k []))
  written_wide k h away = written_more model net e PR k h ∙ ap (λ b. W k ++ cond b [] (admissible_of model net e (extended net (get_or PR k [])))) away

  -- places stay places when more is written
  completed_more : (routes more complete : List (List ℕ)) (finished : List ℕ) → Completed model net e routes complete finished → Completed model net e (routes ++ more) complete finished
  completed_more routes more complete finished done =
      record {
        count = done.count;
        each = λ j h.
            let one = done.each j h in (
              omega (arith, one.0, length-append routes more),
              get_or_append_left routes more [] (get_or finished j 0) one.0 ∙ one.1,
            );
      }

  -- one more route is complete
  completed_push : (routes complete : List (List ℕ)) (route : List ℕ) (finished : List ℕ) (at : ℕ) → Completed model net e routes complete finished
      → at < length routes → get_or routes at [] ≡ route → Completed model net e routes (complete ++ route ∷ []) (finished ++ at ∷ [])
  completed_push routes complete route finished at done inside is =
      record {
        count = rw (length_push finished at, length_push complete route) (ap (λ n. n + 1) done.count);
        each = λ j h. ⊎_elim (λ q. here j q) (λ ne. elsewhere j (omega (arith, length_push finished at, ne))) (cases_eq (length finished) j);
      }
    where
      here : (j : ℕ) → length finished ≡ j → (get_or (finished ++ at ∷ []) j 0 < length routes) × (get_or routes (get_or (finished ++ at ∷ []) j 0) [] ≡ get_or (complete ++ route ∷ []) j [])
      here j q = rw (get_or_push finished at 0 j q, get_or_push complete route [] j (sym done.count ∙ q)) (inside, is)

      elsewhere : (j : ℕ) → j < length finished → (get_or (finished ++ at ∷ []) j 0 < length routes) × (get_or routes (get_or (finished ++ at ∷ []) j 0) [] ≡ get_or (complete ++ route ∷ []) j [])
      elsewhere j h = rw (get_or_append_left finished (at ∷ []) 0 j h, get_or_append_left complete (route ∷ []) [] j (omega (arith, done.count))) (done.each j h)

  module _ (known : Known) where
    abbrev law : Lawful (model e.kind)
    law = known.law

    abbrev wf : WellFormed net
    wf = known.wf

    abbrev asked : Asked net e
    asked = known.asked

    -- the start: what is written for the empty partial route
    pub work_starts : {lines : ℕ} (notebook : List (Line L)) {after : List (Line L)} {used : ℕ} → length notebook ≡ lines
        → Some used ≡ used_after (cond (is_writable model net e []) (Some (line_of model net e false [])) None) 0 lines
        → after ≡ notebook_after (cond (is_writable model net e []) (Some (line_of model net e false [])) None) 0 lines notebook
        → Working lines 0 used after []
    work_starts {lines} notebook {after} {used} room u a =
        record {
          some = omega arith;
          noted = subst (λ r. Noted model net e r [] after used) (sym (written_empty model net e ∙ admissible_push model net e [] [])) (begin (is_writable model net e []) u a);
          long = ap length a ∙ after_long (cond (is_writable model net e []) (Some (line_of model net e false [])) None) 0 lines notebook ∙ room;
          wanting = asked.some_wanted;
          completed = record { count = refl; each = λ j h. absurd (omega arith) };
        }
      where
        none_noted : Noted model net e [] [] notebook 0
        none_noted = record { count = refl; room = omega arith; each = λ j h. absurd (omega arith) }

        one : (c : Bool) → eqb 0 lines ≡ c → Some used ≡ cond c None (Some (0 + 1)) → after ≡ cond c notebook (set notebook 0 (line_of model net e false [])) → Noted model net e ([] ∷ []) [] after used
        one true q u a = absurd (none_some (sym u))
        one false q u a =
            let ne = eqb-false 0 lines q in
            let step = noted_write model net e [] [] notebook 0 none_noted [] (λ i. i) (omega arith) in
            subst (λ n. Noted model net e ([] ∷ []) [] after n) (sym (some_same u)) (subst (λ b. Noted model net e ([] ∷ []) [] b (0 + 1)) (sym a) step)

        begin : (b : Bool) → Some used ≡ used_after (cond b (Some (line_of model net e false [])) None) 0 lines
            → after ≡ notebook_after (cond b (Some (line_of model net e false [])) None) 0 lines notebook → Noted model net e (cond b ([] ∷ []) []) [] after used
        begin true u a = one (eqb 0 lines) refl u a
        begin false u a = subst (λ n. Noted model net e [] [] after n) (sym (some_same u)) (subst (λ b. Noted model net e [] [] b 0) (sym a) none_noted)

    -- the end, with what was taken
    pub finish : (lines k used : ℕ) (notebook : List (Line L)) (finished : List ℕ) → Noted model net e (W k) (take k PR) notebook used → Completed model net e (W k) (Done k) finished
        → length notebook ≡ lines → taken model net e ≡ take k PR → Ended model net e finished notebook used × (line_count model net e ≤ lines)
    finish lines k used notebook finished noted done long all =
        let count : line_count model net e ≡ used = ap (λ t. length (written model net e t)) all ∙ sym noted.count in
        let list : route_list model net e ≡ Done k = sym (taken_lists_the_routes model net e law wf asked.source_there asked.apart asked.few_hops) ∙ ap (filter (is_complete net e)) all in (
          record {
            lines = sym count;
            routes = done.count ∙ sym (ap length list);
            inside = λ j h. omega (arith, (done.each j h).0, noted.count);
            each = λ j h.
                let place = done.each j h in
                let one = noted.each (get_or finished j 0) (omega (arith, place.0, noted.count)) in
                (one.line, one.there, one.is ∙ ap (line_of model net e one.line.taken) (place.1 ∙ ap (λ l. get_or l j []) (sym list)));
          },
          omega (arith, noted.room),
        )

    module _ {lines k used : ℕ} {notebook : List (Line L)} {finished : List ℕ} (work : Working lines k used notebook finished) {shown : List (Line L)} (are : shown ≡ take used notebook)
        {at : ℕ} (chosen : FirstLine (model e.kind) shown (length shown) at) {line : Line L} (there : slice_get notebook at ≡ Some line) where
      f : FirstLine (model e.kind) notebook used at
      f = chosen_used (model e.kind) notebook used shown are (Some at) work.noted.room chosen

      step : (k < length PR) × (get_or (W k) at [] ≡ get_or PR k [])
      step = next_is model net e law wf asked k notebook used work.noted at f

      pub step_more : k < length (partial_routes model net e)
      step_more = step.0

      -- fewer lines are taken than are used
      pub step_room : k < used
      step_room =
          let many = few_of (take (k + 1) PR) (W k) (unique_take (k + 1) PR (partial_once model net e law wf asked.source_there asked.few_hops)) (written_so_far model net e law wf asked k step_more) in
          omega (arith, many, work.noted.count, length-take-le (k + 1) PR (omega (arith, step_more)))

      one_line : OneLine model net e (W k) (take k PR) notebook at
      one_line = work.noted.each at f.inside

      same_line : one_line.line ≡ line
      same_line = some_same (sym one_line.there ∙ there)

      line_is : line ≡ line_of model net e line.taken (get_or PR k [])
      line_is =
          subst (λ l. l ≡ line_of model net e l.taken (get_or PR k [])) same_line (one_line.is ∙ ap (line_of model net e one_line.line.taken) step.1)

      admitted : Admitted model net e (get_or PR k [])
      admitted = at_place model net e law wf asked.source_there asked.few_hops k step_more

      route_is : line.arcs ≡ get_or PR k []
      route_is = ap (λ (l : Line L). l.arcs) line_is

      pub step_on : OnLine model net e line
      step_on =
          record {
            is = line_is ∙ ap (line_of model net e line.taken) (sym route_is);
            written = subst (λ r. is_writable model net e r ≡ true) (sym route_is) (and_from _ _ admitted.0 admitted.1);
          }

      ends : (u : ℕ) × (end_of net e (get_or PR k []) ≡ Some u)
      ends =
          some_there (end_of net e (get_or PR k []))
          (and_parts (some_site (end_of net e (get_or PR k []))) _ (and_parts (is_path net e (get_or PR k [])) _ admitted.0).0).0

      -- whether it has arrived is told by where it ends
      step_arrived : is_complete net e (get_or (partial_routes model net e) k []) ≡ eqb line.end e.destination
      step_arrived =
          ap (at_site e.destination) ends.1
          ∙ ap (λ n. eqb n e.destination) (sym (ap (λ (l : Line L). l.end) line_is ∙ ap (λ o. unwrap_or o 0) ends.1))

      complete : line.end ≡ e.destination → is_complete net e (get_or (partial_routes model net e) k []) ≡ true
      complete here = step_arrived ∙ eq-eqb line.end e.destination here

      open_still : (line.end ≡ e.destination → ⊥) → is_complete net e (get_or (partial_routes model net e) k []) ≡ false
      open_still away = step_arrived ∙ ne_eqb line.end e.destination away

      -- the notebook with the line marked
      step_noted : Noted model net e (W k) (take (k + 1) PR) (set notebook at (marked line)) used
      step_noted =
          subst (λ t. Noted model net e (W k) t (set notebook at (marked line)) used)
          (ap (λ r. take k PR ++ r ∷ []) step.1 ∙ sym (next_taken k step_more))
          (noted_mark model net e (W k) (take k PR) notebook used work.noted (written_once model net e law wf asked.source_there asked.few_hops k) at f.inside line there)

      inside_written : at < length (W k)
      inside_written = omega (arith, f.inside, work.noted.count)

      -- it has arrived
      done_now : is_complete net e (get_or PR k []) ≡ true → Completed model net e (W (k + 1)) (Done (k + 1)) (finished ++ at ∷ [])
      done_now full =
          subst (λ r. Completed model net e r (Done (k + 1)) (finished ++ at ∷ [])) (sym (written_same k step_more full))
          (subst (λ d. Completed model net e (W k) d (finished ++ at ∷ [])) (sym (done_one k step_more full))
          (completed_push (W k) (Done k) (get_or PR k []) finished at work.completed inside_written step.1))

      noted_now : is_complete net e (get_or PR k []) ≡ true → Noted model net e (W (k + 1)) (take (k + 1) PR) (set notebook at (marked line)) used
      noted_now full = subst (λ r. Noted model net e r (take (k + 1) PR) (set notebook at (marked line)) used) (sym (written_same k step_more full)) step_noted

      pub goes_on : line.end ≡ e.destination → (length finished + 1 ≡ e.wanted → ⊥) → Working lines (k + 1) used (set notebook at (marked line)) (finished ++ at ∷ [])
      goes_on here not_all =
          let full = complete here in
          record { some = omega (arith, step_more); noted = noted_now full; long = length-set notebook at (marked line) ∙ work.long; wanting = omega (arith, work.wanting, length_push finished at); completed = done_now full }

      -- it has not arrived, and is made longer
      pub widens : (line.end ≡ e.destination → ⊥) → Widening lines k 0 used (set notebook at (marked line)) finished line
      widens away =
          record {
            more = step_more;
            away = open_still away;
            on = step_on;
            route = route_is;
            noted = subst (λ r. Noted model net e r (take (k + 1) PR) (set notebook at (marked line)) used) (sym (append-nil (W k))) step_noted;
            long = length-set notebook at (marked line) ∙ work.long;
            wanting = work.wanting;
            completed = work.completed;
          }

      -- it has arrived, and is the last that is wanted
      pub all_wanted : line.end ≡ e.destination → length finished + 1 ≡ e.wanted
          → Ended model net e (finished ++ at ∷ []) (set notebook at (marked line)) used × (line_count model net e ≤ lines)
      all_wanted here last =
          let full = complete here in
          let now = done_now full in
          let before : complete_of model net e (take k PR) < e.wanted = subst (λ n. n < e.wanted) work.completed.count work.wanting in
          let stop : taken model net e ≡ take (k + 1) PR = taken_stop model net e k step_more before (omega (arith, now.count, length_push finished at)) in
          finish lines (k + 1) used (set notebook at (marked line)) (finished ++ at ∷ []) (noted_now full) now (length-set notebook at (marked line) ∙ work.long) stop

    -- no line is left
    pub none_left_over : {lines k used : ℕ} {notebook : List (Line L)} {finished : List ℕ} (work : Working lines k used notebook finished) {shown : List (Line L)} → shown ≡ take used notebook
        → AllTaken (model e.kind) shown (length shown) → Ended model net e finished notebook used × (line_count model net e ≤ lines)
    none_left_over {lines} {k} {used} {notebook} {finished} work {shown} are every =
        let last = none_more model net e law wf asked k notebook used work.noted work.some (chosen_used (model e.kind) notebook used shown are None work.noted.room every) in
        let before : complete_of model net e (take k PR) < e.wanted = subst (λ n. n < e.wanted) work.completed.count work.wanting in
        finish lines k used notebook finished work.noted work.completed work.long (taken_end model net e k (omega arith) before)

    module _ {lines k i used : ℕ} {notebook : List (Line L)} {finished : List ℕ} {line : Line L} (wide : Widening lines k i used notebook finished line) where
      p : List ℕ
      p = get_or PR k []

      -- what is written of the partial routes one arc longer, for the arcs below a number
      longer : ℕ → List (List ℕ)
      longer n = admissible_of model net e (map (λ j. get_or PR k [] ++ j ∷ []) (range_with_len 0 n))

      longer_more : longer (i + 1) ≡ longer i ++ cond (is_writable model net e (get_or PR k [] ++ i ∷ [])) ((get_or PR k [] ++ i ∷ []) ∷ []) []
      unfolding longer
      longer_more =
          ap (admissible_of model net e) (map-range_with_len_more (λ j. get_or PR k [] ++ j ∷ []) 0 i i (omega arith))
          ∙ admissible_push model net e (map (λ j. get_or PR k [] ++ j ∷ []) (range_with_len 0 i)) (get_or PR k [] ++ i ∷ [])

      module _ (there_i : i < arc_count net) where
        fresh : is_writable model net e (get_or PR k [] ++ i ∷ []) ≡ true → In (get_or PR k [] ++ i ∷ []) (take (k + 1) PR) → ⊥
        fresh t =
            let both = and_parts (is_partial net e (get_or PR k [] ++ i ∷ [])) _ t in
            new_line model net e law wf asked k wide.more wide.away (get_or PR k [] ++ i ∷ [])
            (in_admissible_of model net e (extended net (get_or PR k [])) (get_or PR k [] ++ i ∷ [])
            (in_map (λ j. get_or PR k [] ++ j ∷ []) (range_with_len 0 (arc_count net)) i (subst (λ x. In x (range_with_len 0 (arc_count net))) (zero-add i) (in_counting 0 (arc_count net) i there_i)))
            (both.0, both.1))

        Note : List (List ℕ) → List (Line L) → ℕ → Type 0
        Note routes after used' = Noted model net e (W k ++ routes) (take (k + 1) PR) after used'

        module _ {after : List (Line L)} {used' : ℕ} where
          written_one : (c : Bool) → eqb used lines ≡ c → is_writable model net e (get_or PR k [] ++ i ∷ []) ≡ true → Some used' ≡ cond c None (Some (used + 1))
              → after ≡ cond c notebook (set notebook used (line_of model net e false (get_or PR k [] ++ i ∷ []))) → Note (longer i ++ (get_or PR k [] ++ i ∷ []) ∷ []) after used'
          unfolding Note longer
          written_one true q t u a = absurd (none_some (sym u))
          written_one false q t u a =
              let ne = eqb-false used lines q in
              let step = noted_write model net e (W k ++ longer i) (take (k + 1) PR) notebook used wide.noted (get_or PR k [] ++ i ∷ []) (fresh t) (omega (arith, wide.long, wide.noted.room)) in
              subst (λ n. Noted model net e (W k ++ (longer i ++ (get_or PR k [] ++ i ∷ []) ∷ [])) (take (k + 1) PR) after n) (sym (some_same u))
              (subst (λ b. Noted model net e (W k ++ (longer i ++ (get_or PR k [] ++ i ∷ []) ∷ [])) (take (k + 1) PR) b (used + 1)) (sym a)
              (subst (λ r. Noted model net e r (take (k + 1) PR) (set notebook used (line_of model net e false (get_or PR k [] ++ i ∷ []))) (used + 1)) (append_assoc (W k) (longer i) ((get_or PR k [] ++ i ∷ []) ∷ [])) step))

          by_test : (b : Bool) → is_writable model net e (get_or PR k [] ++ i ∷ []) ≡ b → Some used' ≡ used_after (cond b (Some (line_of model net e false (get_or PR k [] ++ i ∷ []))) None) used lines
              → after ≡ notebook_after (cond b (Some (line_of model net e false (get_or PR k [] ++ i ∷ []))) None) used lines notebook
              → Note (longer i ++ cond b ((get_or PR k [] ++ i ∷ []) ∷ []) []) after used'
          unfolding Note longer
          by_test true q u a = written_one (eqb used lines) refl q u a
          by_test false q u a =
              subst (λ r. Noted model net e (W k ++ r) (take (k + 1) PR) after used') (sym (append-nil (longer i)))
              (subst (λ n. Noted model net e (W k ++ longer i) (take (k + 1) PR) after n) (sym (some_same u)) (subst (λ b. Noted model net e (W k ++ longer i) (take (k + 1) PR) b used) (sym a) wide.noted))

          -- one arc more was tried
          pub wider : Some used' ≡ used_after (next_line model net e line.arcs i) used lines → after ≡ notebook_after (next_line model net e line.arcs i) used lines notebook
              → Widening lines k (i + 1) used' after finished line
          unfolding Note longer
          wider u a =
              let at : next_line model net e line.arcs i ≡ next_line model net e (get_or PR k []) i = ap (λ r. next_line model net e r i) wide.route in
              record {
                more = wide.more;
                away = wide.away;
                on = wide.on;
                route = wide.route;
                noted = subst (λ r. Noted model net e (W k ++ r) (take (k + 1) PR) after used') (sym longer_more)
                    (by_test (is_writable model net e (get_or PR k [] ++ i ∷ [])) refl (u ∙ ap (λ o. used_after o used lines) at) (a ∙ ap (λ o. notebook_after o used lines notebook) at));
                long = ap length a ∙ after_long (next_line model net e line.arcs i) used lines notebook ∙ wide.long;
                wanting = wide.wanting;
                completed = wide.completed;
              }

        -- a line is wanted and there is none
        pub too_few : None ≡ used_after (next_line model net e line.arcs i) used lines → lines < line_count model net e
        unfolding longer
        too_few u =
            let at : next_line model net e line.arcs i ≡ next_line model net e (get_or PR k []) i = ap (λ r. next_line model net e r i) wide.route in
            by_room (is_writable model net e (get_or PR k [] ++ i ∷ [])) refl (u ∙ ap (λ o. used_after o used lines) at)
          where
            grows : length (longer (i + 1)) ≤ length (admissible_of model net e (extended net (get_or PR k [])))
            grows =
                let parts : range_with_len 0 (arc_count net) ≡ range_with_len 0 (i + 1) ++ range_with_len (0 + (i + 1)) (arc_count net - (i + 1)) =
                ap (range_with_len 0) (omega arith) ∙ counting_split 0 (i + 1) (arc_count net - (i + 1)) in
                let both : admissible_of model net e (extended net (get_or PR k [])) ≡ longer (i + 1) ++ admissible_of model net e (map (λ j. get_or PR k [] ++ j ∷ []) (range_with_len (0 + (i + 1)) (arc_count net - (i + 1)))) =
                ap (λ l. admissible_of model net e (map (λ j. get_or PR k [] ++ j ∷ []) l)) parts
                ∙ ap (admissible_of model net e) (map-append (λ j. get_or PR k [] ++ j ∷ []) (range_with_len 0 (i + 1)) (range_with_len (0 + (i + 1)) (arc_count net - (i + 1))))
                ∙ admissible_append model net e (map (λ j. get_or PR k [] ++ j ∷ []) (range_with_len 0 (i + 1))) (map (λ j. get_or PR k [] ++ j ∷ []) (range_with_len (0 + (i + 1)) (arc_count net - (i + 1)))) in
                let long = ap length both ∙ length-append (longer (i + 1)) _ in
                omega arith

            full : eqb used lines ≡ true → is_writable model net e (get_or PR k [] ++ i ∷ []) ≡ true → lines < line_count model net e
            full q t =
                let all = eqb-true used lines q in
                let here : used ≡ length (W k) + length (longer i) = wide.noted.count ∙ length-append (W k) (longer i) in
                let one : length (longer (i + 1)) ≡ length (longer i) + 1 =
                ap length (longer_more ∙ ap (λ b. longer i ++ cond b ((get_or PR k [] ++ i ∷ []) ∷ []) []) t) ∙ length_push (longer i) (get_or PR k [] ++ i ∷ []) in
                let whole : length (W (k + 1)) ≡ length (W k) + length (admissible_of model net e (extended net (get_or PR k []))) =
                ap length (written_wide k wide.more wide.away) ∙ length-append (W k) (admissible_of model net e (extended net (get_or PR k []))) in
                let before : complete_of model net e (take k PR) < e.wanted = subst (λ n. n < e.wanted) wide.completed.count wide.wanting in
                let top = lines_more model net e k wide.more before in
                omega (arith, grows)

            no_room : (c : Bool) → eqb used lines ≡ c → is_writable model net e (get_or PR k [] ++ i ∷ []) ≡ true → None ≡ cond c None (Some (used + 1)) → lines < line_count model net e
            no_room true q t u = full q t
            no_room false q t u = absurd (none_some u)

            by_room : (b : Bool) → is_writable model net e (get_or PR k [] ++ i ∷ []) ≡ b → None ≡ used_after (cond b (Some (line_of model net e false (get_or PR k [] ++ i ∷ []))) None) used lines → lines < line_count model net e
            by_room true q u = no_room (eqb used lines) refl q u
            by_room false q u = absurd (none_some u)

      -- every arc was tried
      pub widened : i ≡ arc_count net → Working lines (k + 1) used notebook finished
      widened last =
          let whole : W k ++ admissible_of model net e (map (λ n. get_or PR k [] ++ n ∷ []) (range_with_len 0 i)) ≡ W (k + 1) =
          ap (λ n. W k ++ admissible_of model net e (map (λ j. get_or PR k [] ++ j ∷ []) (range_with_len 0 n))) last ∙ sym (written_wide k wide.more wide.away) in
          let more = wide.more in
          record {
            some = omega arith;
            noted = subst (λ r. Noted model net e r (take (k + 1) PR) notebook used) whole wide.noted;
            long = wide.long;
            wanting = wide.wanting;
            completed =
                subst (λ d. Completed model net e (W (k + 1)) d finished) (sym (done_same k wide.more wide.away))
                (subst (λ r. Completed model net e r (Done k) finished) (sym (written_wide k wide.more wide.away))
                (completed_more (W k) (admissible_of model net e (extended net (get_or PR k []))) (Done k) finished wide.completed));
          }

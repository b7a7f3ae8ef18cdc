-- What passes the checks is a network, and is written as the same bytes.
use Rattle.std.specs.Prelude.{◌≡◌, ℕ, ◌+◌, ◌*◌, ◌<◌, ◌≤◌, Bool, true, false, cond, not, ◌||◌, List, ◌++◌, length, take, drop, is_ok, Some, None, Ok, Err, Option, ◌==◌, nat_le, nat_lt, refl}
use Rattle.std.proofs.Common.{sym, ap, ◌∙◌, arith, length-drop, take-append-drop, take_all, length-take-le}
use Rattle.std.specs.List.{range_with_len, flat_map}
use Rattle.std.proofs.lemmas.List.FromFn.{length-map-range_with_len, get_or-map-range_with_len}
use Rattle.std.proofs.ByRecursion.{All-from_get_or, All-take, All-drop}
use Rattle.std.proofs.lemmas.List.{drop-drop}
use Rattle.std.proofs.lemmas.Option.{slice_get-get_or, slice_get_past}
use Rattle.std.proofs.lemmas.Bool.{ltb-false, leb-false, eqb-false, eqb-true, or_parts, not-false, cond-false, le-ltb}
use Rattle.network.specs.Checks.{Told, first_failed, answered, refusal, refusal_at}
use Rattle.network.specs.Net.{ArcFits, WellFormed, arc_count, arc_of, no_arc}
use Rattle.sheet.specs.declared.reading.Head.{Head}
use Rattle.sheet.specs.Bits.{bits, bits_of, bytes_of, field}
use Rattle.sheet.specs.Layout.{arc_bits, sheet_bits, sheet_of, sheet_size, kept_bytes, arc_in, net_in, sites_in, arcs_in, arc_checks, read_checks, read_answer, from_position, to_position}
use Rattle.sheet.specs.Steps.{head_in, head_checks, end_checks, field_at}
use Rattle.sheet.specs.Rows.{bits_number}
use Rattle.sheet.specs.Bytes.{Bytes, length_bits_of, row_bits_of, bytes_of_bits_of}
use Rattle.sheet.specs.FieldsLemmas.{field_lt}
use Rattle.sheet.specs.Passes.{passes, each_passes, ok_passes, append_fails, first_failed_append}
use Rattle.sheet.specs.Layouts.{arcs_bits_in}

-- what the checks say of bytes that pass them
pub record Sound (bytes : List ℕ) : Type 0 where
  pub some_sites : 2 ≤ sites_in bytes
  pub few_sites : sites_in bytes ≤ 64
  pub few_arcs : arcs_in bytes ≤ 256
  pub size : length bytes ≡ sheet_size (arcs_in bytes)
  pub arcs_pass : first_failed (flat_map (arc_checks bytes) (range_with_len 0 (arcs_in bytes))) ≡ None

pub sound : (bytes : List ℕ) → is_ok (read_answer bytes) ≡ true → Sound bytes
sound bytes ok =
    let all = ok_passes (first_failed (read_checks bytes)) (net_in bytes) ok in
    let head = passes (nat_lt (length bytes) 2) (refusal 1) _ all in
    let sites = passes (nat_lt (sites_in bytes) 2 || nat_lt 64 (sites_in bytes)) (refusal 2) _ head.1 in
    let arcs = passes (nat_lt 256 (arcs_in bytes)) (refusal 3) _ sites.1 in
    let size = passes (not (length bytes == sheet_size (arcs_in bytes))) (refusal 4) _ arcs.1 in
    let both = or_parts (nat_lt (sites_in bytes) 2) (nat_lt 64 (sites_in bytes)) sites.0 in
    record {
      some_sites = ltb-false (sites_in bytes) 2 both.0;
      few_sites = ltb-false 64 (sites_in bytes) both.1;
      few_arcs = ltb-false 256 (arcs_in bytes) arcs.0;
      size = eqb-true (length bytes) (sheet_size (arcs_in bytes)) (not-false (length bytes == sheet_size (arcs_in bytes)) size.0);
      arcs_pass = size.1;
    }

-- bytes that pass the checks mean the network in them
pub ok_answer : (bytes : List ℕ) → is_ok (read_answer bytes) ≡ true → read_answer bytes ≡ Ok (net_in bytes)
ok_answer bytes ok = ap (λ o. answered o (net_in bytes)) (ok_passes (first_failed (read_checks bytes)) (net_in bytes) ok)

arc_fits : (bytes : List ℕ) (i : ℕ) → first_failed (arc_checks bytes i) ≡ None → ArcFits (sites_in bytes) (arc_in bytes i)
arc_fits bytes i e =
    let n = sites_in bytes in
    let from = passes (nat_le n (arc_in bytes i).from) (refusal_at 5 (from_position i)) _ e in
    let to = passes (nat_le n (arc_in bytes i).to) (refusal_at 5 (to_position i)) _ from.1 in
    let apart = passes ((arc_in bytes i).to == (arc_in bytes i).from) (refusal_at 6 (to_position i)) None to.1 in
    record {
      from_site = leb-false n (arc_in bytes i).from from.0;
      to_site = leb-false n (arc_in bytes i).to to.0;
      two_sites = λ same. eqb-false (arc_in bytes i).to (arc_in bytes i).from apart.0 (sym same);
      weight_fits = omega (arith, field_lt bytes (28 + 64 * i) 12);
      delay_fits = omega (arith, field_lt bytes (40 + 64 * i) 12);
      jitter_fits = omega (arith, field_lt bytes (52 + 64 * i) 10);
      charge_fits = omega (arith, field_lt bytes (62 + 64 * i) 10);
      capacity_fits = omega (arith, field_lt bytes (72 + 64 * i) 8);
    }

pub sound_formed : (bytes : List ℕ) → Sound bytes → WellFormed (net_in bytes)
sound_formed bytes s =
    let m = arcs_in bytes in
    let l = length-map-range_with_len (arc_in bytes) 0 m in
    record {
      some_sites = s.some_sites;
      few_sites = s.few_sites;
      few_arcs = omega (arith, s.few_arcs);
      arcs_fit =
          All-from_get_or (ArcFits (sites_in bytes)) (net_in bytes).arcs no_arc
          (λ i h.
          let at = get_or-map-range_with_len (arc_in bytes) 0 m i i no_arc (omega arith) (omega arith) in
          let z : 0 + i ≡ i = omega arith in
          let pass = ap (λ k. first_failed (arc_checks bytes k)) (sym z) ∙ each_passes (arc_checks bytes) 0 m s.arcs_pass i (omega arith) in
          rw at (arc_fits bytes i pass));
    }

-- the bits of a number read from as many bits
field_bits : (bytes : List ℕ) (p w : ℕ) → p + w ≤ 8 * length bytes → bits w (field bytes p w) ≡ take w (drop p (bits_of bytes))
field_bits bytes p w h =
    let there = drop p (bits_of bytes) in
    let long : w ≤ length there = simp (length-drop, length_bits_of) (omega arith) in
    ap (λ n. bits n (field bytes p w)) (sym (length-take-le w there long))
    ∙ bits_number (take w there) (All-take (λ b. b < 2) w there (All-drop (λ b. b < 2) p (bits_of bytes) (row_bits_of bytes)))

-- the bits of the network that is read are those of the bytes
sheet_bits_in : (bytes : List ℕ) → Sound bytes → sheet_bits (net_in bytes) ≡ bits_of bytes
sheet_bits_in bytes s =
    let m = arcs_in bytes in
    let whole = bits_of bytes in
    let count : arc_count (net_in bytes) ≡ m = length-map-range_with_len (arc_in bytes) 0 m in
    let arcs = flat_map arc_bits (net_in bytes).arcs in
    let size = s.size in
    let long : length (drop 16 whole) ≤ 64 * m = simp (length-drop, length_bits_of) (omega arith) in
    let sites_bits : bits 7 (sites_in bytes) ≡ take 7 whole = field_bits bytes 0 7 (omega arith) in
    let count_bits : bits 9 (arc_count (net_in bytes)) ≡ take 9 (drop 7 whole) = ap (bits 9) count ∙ field_bits bytes 7 9 (omega arith) in
    let arcs_bits : arcs ≡ drop 9 (drop 7 whole) = arcs_bits_in bytes 0 m (omega arith) ∙ (take_all (64 * m) (drop 16 whole) long ∙ sym (drop-drop 9 7 whole)) in
    ap (λ xs. xs ++ (bits 9 (arc_count (net_in bytes)) ++ arcs)) sites_bits
    ∙ (ap (λ xs. take 7 whole ++ (xs ++ arcs)) count_bits
    ∙ (ap (λ xs. take 7 whole ++ (take 9 (drop 7 whole) ++ xs)) arcs_bits
    ∙ (ap (λ xs. take 7 whole ++ xs) (take-append-drop 9 (drop 7 whole)) ∙ take-append-drop 7 whole)))

pub sound_writes_back : (bytes : List ℕ) → Bytes bytes → Sound bytes → sheet_of (net_in bytes) ≡ bytes
sound_writes_back bytes small s =
    let count = length-map-range_with_len (arc_in bytes) 0 (arcs_in bytes) in
    ap (λ n. bytes_of (sheet_size n) (sheet_bits (net_in bytes))) count
    ∙ (ap (λ n. bytes_of n (sheet_bits (net_in bytes))) (sym s.size)
    ∙ (ap (bytes_of (length bytes)) (sheet_bits_in bytes s) ∙ bytes_of_bits_of bytes small))

-- how many arcs the network that is read has, and which
pub count_in : (bytes : List ℕ) → arc_count (net_in bytes) ≡ arcs_in bytes
count_in bytes = length-map-range_with_len (arc_in bytes) 0 (arcs_in bytes)

pub arc_found : (bytes : List ℕ) (i : ℕ) → i < arcs_in bytes → arc_of (net_in bytes) i ≡ Some (arc_in bytes i)
arc_found bytes i h =
    let count = count_in bytes in
    slice_get-get_or (net_in bytes).arcs i no_arc (omega arith)
    ∙ ap (λ a. Some a) (get_or-map-range_with_len (arc_in bytes) 0 (arcs_in bytes) i i no_arc h (omega arith))

pub arc_past : (bytes : List ℕ) (i : ℕ) → arcs_in bytes ≤ i → arc_of (net_in bytes) i ≡ None
arc_past bytes i h = let count = count_in bytes in slice_get_past (net_in bytes).arcs i (omega arith)

-- the checks of an arc, at the place where the reader finds it
pub arc_checks_are :
    (bytes bytes' : List ℕ) (p i n : ℕ) → bytes' ≡ bytes → p ≡ 16 + 64 * i → n ≡ sites_in bytes →
    first_failed (end_checks n (field_at bytes' p 6) (field_at bytes' (p + 6) 6)) ≡ first_failed (arc_checks bytes i)
arc_checks_are bytes bytes' p i n eb ep en =
    let to : 16 + 64 * i + 6 ≡ 22 + 64 * i = omega arith in
    ap (λ xs. first_failed (end_checks n (field_at xs p 6) (field_at xs (p + 6) 6))) eb
    ∙ (ap (λ q. first_failed (end_checks n (field_at bytes q 6) (field_at bytes (q + 6) 6))) ep
    ∙ (ap (λ k. first_failed (end_checks k (field_at bytes (16 + 64 * i) 6) (field_at bytes (16 + 64 * i + 6) 6))) en
    ∙ ap (λ q. first_failed (end_checks (sites_in bytes) (field_at bytes (16 + 64 * i) 6) (field_at bytes q 6))) to))

abbrev head_of : ℕ → ℕ → Head
head_of n m = record { sites = n; arcs = m }

-- bytes that pass the checks are kept whole
pub kept_whole : (bytes copy : List ℕ) (m : ℕ) → is_ok (read_answer bytes) ≡ true → m ≡ arcs_in bytes → take (length bytes) copy ≡ bytes → kept_bytes m copy ≡ bytes
kept_whole bytes copy m ok em e =
    ap (λ n. take (sheet_size n) copy) em ∙ (ap (λ n. take n copy) (sym (sound bytes ok).size) ∙ e)

pub head_found : (bytes : List ℕ) (n m : ℕ) → n ≡ sites_in bytes → m ≡ arcs_in bytes → 2 ≤ length bytes → Some (head_of n m) ≡ head_in bytes
head_found bytes n m en em long =
    ap (λ k. Some (head_of k m)) en
    ∙ (ap (λ k. Some (head_of (sites_in bytes) k)) em
    ∙ sym (cond-false (nat_lt (length bytes) 2) None (Some (head_of (sites_in bytes) (arcs_in bytes))) (le-ltb (length bytes) 2 long)))

-- the numbers that are read in a head, and that there is one
pub head_there : (bytes : List ℕ) (head : Head) → Some head ≡ head_in bytes → (head.sites ≡ sites_in bytes) × (head.arcs ≡ arcs_in bytes) × (2 ≤ length bytes)
head_there bytes head e = go (nat_lt (length bytes) 2) refl e
  where
    some_same : {a b : Head} → Some a ≡ Some b → a ≡ b
    some_same s = cc

    go : (b : Bool) → nat_lt (length bytes) 2 ≡ b → Some head ≡ cond b None (Some (head_of (sites_in bytes) (arcs_in bytes))) → (head.sites ≡ sites_in bytes) × (head.arcs ≡ arcs_in bytes) × (2 ≤ length bytes)
    go true is some = absurd (let z : ◌≡◌ {A = ℕ} 0 1 = cc in omega arith)
    go false is some =
        let same = some_same some in (ap (λ h. h.sites) same, ap (λ h. h.arcs) same, ltb-false (length bytes) 2 is)

-- what reading answers, by the checks of the head and of the arcs
module _ (bytes : List ℕ) (head : Head) (en : head.sites ≡ sites_in bytes) (em : head.arcs ≡ arcs_in bytes) (long : 2 ≤ length bytes) where
  answer_is :
      (o : Option Told) →
      first_failed (head_checks (length bytes) (head_of (sites_in bytes) (arcs_in bytes)) ++ flat_map (arc_checks bytes) (range_with_len 0 (arcs_in bytes))) ≡ o →
      read_answer bytes ≡ answered o (net_in bytes)
  answer_is o e =
      ap (λ x. answered x (net_in bytes)) (cond-false (nat_lt (length bytes) 2) (Some (refusal 1)) _ (le-ltb (length bytes) 2 long) ∙ e)

  of_head : first_failed (head_checks (length bytes) head) ≡ first_failed (head_checks (length bytes) (head_of (sites_in bytes) (arcs_in bytes)))
  of_head = ap (λ k. first_failed (head_checks (length bytes) (head_of k head.arcs))) en ∙ ap (λ k. first_failed (head_checks (length bytes) (head_of (sites_in bytes) k))) em

  pub refused_head : (t : Told) → Some t ≡ first_failed (head_checks (length bytes) head) → read_answer bytes ≡ Err t
  refused_head t e =
      answer_is (Some t)
      (append_fails (head_checks (length bytes) (head_of (sites_in bytes) (arcs_in bytes))) (flat_map (arc_checks bytes) (range_with_len 0 (arcs_in bytes))) t (sym (e ∙ of_head)))

  pub by_arcs :
      (o : Option Told) (bytes' : List ℕ) → bytes' ≡ bytes → None ≡ first_failed (head_checks (length bytes) head) →
      o ≡ first_failed (flat_map (arc_checks bytes') (range_with_len 0 head.arcs)) →
      read_answer bytes ≡ answered o (net_in bytes)
  by_arcs o bytes' eb pass e =
      answer_is o
      (first_failed_append (head_checks (length bytes) (head_of (sites_in bytes) (arcs_in bytes))) (flat_map (arc_checks bytes) (range_with_len 0 (arcs_in bytes))) (sym (pass ∙ of_head))
      ∙ sym (e ∙ (ap (λ xs. first_failed (flat_map (arc_checks xs) (range_with_len 0 head.arcs))) eb ∙ ap (λ k. first_failed (flat_map (arc_checks bytes) (range_with_len 0 k))) em)))

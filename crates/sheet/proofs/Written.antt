-- What is written of a network reads back as that network.
use Rattle.std.proofs.Common.{◌≡◌, ℕ, ◌+◌, ◌*◌, ◌<◌, ◌≤◌, false, not, ◌||◌, eqb, ltb, leb, List, [], ◌∷◌, ◌++◌, map, length, take, drop, None, Ok, sym, refl, ap, ◌∙◌, arith, take_at}
use lib.Seq.{drop-append-add}
use Rattle.std.specs.List.{range_with_len, flat_map}
use Rattle.std.proofs.lemmas.List.FromFn.{fill_by_all}
use Rattle.std.proofs.ByRecursion.{All-get_or, All-append}
use Rattle.std.proofs.lemmas.List.{drop_more}
use Rattle.std.proofs.lemmas.Bool.{le-ltb, lt-leb, ne_eqb, eq-eqb, or_from, not_from_true}
use Rattle.network.specs.declared.arc.Arc.{Arc}
use Rattle.network.specs.Checks.{first_failed, answered, refusal, refusal_at}
use Rattle.network.specs.Net.{Net, ArcFits, WellFormed, arc_count, arc_at, no_arc}
use Rattle.sheet.specs.Bits.{bits, number, bits_of, field}
use Rattle.sheet.specs.Layout.{arc_bits, sheet_bits, sheet_of, sheet_size, arc_in, net_in, sites_in, arcs_in, arc_checks, read_checks, read_answer, from_position, to_position}
use Rattle.sheet.specs.Words.{arc_word, arc_in_word}
use Rattle.sheet.specs.Rows.{Row, length_bits, number_bits_of}
use Rattle.sheet.specs.Bytes.{length_joined, length_bytes_of, bits_of_bytes_of}
use Rattle.sheet.specs.Arcs.{arc_again}
use Rattle.sheet.specs.Passes.{all_pass, joined_passes}
use Rattle.sheet.specs.Layouts.{arc_in_is, row_before, row_arc_bits, drop_joined}

row_joined : (arcs : List Arc) → Row (flat_map arc_bits arcs)
row_joined [] = tt
row_joined (a ∷ arcs) = All-append (λ b. b < 2) (arc_bits a) (flat_map arc_bits arcs) (row_arc_bits a) (row_joined arcs)

length_arc_bits : (a : Arc) → length (arc_bits a) ≡ 64
length_arc_bits a = refl

abbrev net_of : ℕ → List Arc → Net
net_of n arcs = record { sites = n; arcs = arcs }

module _ (net : Net) where
  pub length_sheet_bits : length (sheet_bits net) ≡ 8 * sheet_size (arc_count net)
  length_sheet_bits = let e = length_joined arc_bits 64 length_arc_bits net.arcs in omega arith

  row_sheet_bits : Row (sheet_bits net)
  row_sheet_bits =
      row_before 7 net.sites (bits 9 (arc_count net) ++ flat_map arc_bits net.arcs)
      (row_before 9 (arc_count net) (flat_map arc_bits net.arcs) (row_joined net.arcs))

  bits_of_sheet : bits_of (sheet_of net) ≡ sheet_bits net
  bits_of_sheet = bits_of_bytes_of (sheet_size (arc_count net)) (sheet_bits net) row_sheet_bits length_sheet_bits

  pub length_sheet : length (sheet_of net) ≡ sheet_size (arc_count net)
  length_sheet = length_bytes_of (sheet_size (arc_count net)) (sheet_bits net)

  field_is : (p w : ℕ) → field (sheet_of net) p w ≡ number (take w (drop p (sheet_bits net)))
  field_is p w = ap (λ bs. number (take w (drop p bs))) bits_of_sheet

  module _ (wf : WellFormed net) where
    sites_again : sites_in (sheet_of net) ≡ net.sites
    sites_again =
        field_is 0 7
        ∙ (ap number (take_at (bits 7 net.sites) (bits 9 (arc_count net) ++ flat_map arc_bits net.arcs) 7 (length_bits 7 net.sites))
        ∙ number_bits_of 7 net.sites (omega arith))

    arcs_again : arcs_in (sheet_of net) ≡ arc_count net
    arcs_again =
        field_is 7 9
        ∙ (ap number (take_at (bits 9 (arc_count net)) (flat_map arc_bits net.arcs) 9 (length_bits 9 (arc_count net)))
        ∙ number_bits_of 9 (arc_count net) (omega arith))

    word_at : (i : ℕ) → i < arc_count net → field (sheet_of net) (16 + 64 * i) 64 ≡ arc_word (arc_at net i)
    unfolding arc_word
    word_at i h =
        let head = bits 7 net.sites ++ bits 9 (arc_count net) in
        let past : drop (16 + 64 * i) (sheet_bits net) ≡ flat_map arc_bits (drop i net.arcs) = drop-append-add head (flat_map arc_bits net.arcs) (64 * i) ∙ drop_joined arc_bits 64 length_arc_bits i net.arcs in
        let here = ap (flat_map arc_bits) (drop_more net.arcs i no_arc h) in
        field_is (16 + 64 * i) 64
        ∙ ap number (ap (take 64) (past ∙ here) ∙ take_at (arc_bits (arc_at net i)) (flat_map arc_bits (drop (i + 1) net.arcs)) 64 refl)

    arc_fits : (i : ℕ) → i < arc_count net → ArcFits net.sites (arc_at net i)
    arc_fits i h = All-get_or (ArcFits net.sites) net.arcs i no_arc h wf.arcs_fit

    arc_back : (i : ℕ) → i < arc_count net → arc_in (sheet_of net) i ≡ arc_at net i
    arc_back i h =
        let long : 80 + 64 * i ≤ 8 * length (sheet_of net) = let l = length_sheet in omega arith in
        arc_in_is (sheet_of net) i long
        ∙ (ap arc_in_word (word_at i h) ∙ arc_again net.sites (arc_at net i) wf.few_sites (arc_fits i h))

    arcs_back : map (arc_in (sheet_of net)) (range_with_len 0 (arcs_in (sheet_of net))) ≡ net.arcs
    arcs_back =
        ap (λ n. map (arc_in (sheet_of net)) (range_with_len 0 n)) arcs_again
        ∙ sym (fill_by_all (arc_in (sheet_of net)) net.arcs (arc_count net) no_arc refl (λ k h. sym (arc_back k h)))

    arc_passes : (i : ℕ) → i < arc_count net → first_failed (arc_checks (sheet_of net) i) ≡ None
    arc_passes i h =
        let read = sheet_of net in
        let n = sites_again in
        let a = arc_back i h in
        let fit = arc_fits i h in
        let from = ap (λ x. x.from) a in
        let to = ap (λ x. x.to) a in
        all_pass (leb (sites_in read) (arc_in read i).from) (refusal_at 5 (from_position i)) _ (lt-leb (sites_in read) (arc_in read i).from (omega arith))
        (all_pass (leb (sites_in read) (arc_in read i).to) (refusal_at 5 (to_position i)) _ (lt-leb (sites_in read) (arc_in read i).to (omega arith))
        (all_pass (eqb (arc_in read i).to (arc_in read i).from) (refusal_at 6 (to_position i)) None (ne_eqb (arc_in read i).to (arc_in read i).from (λ same. fit.two_sites (sym from ∙ (sym same ∙ to)))) refl))

    checks_pass : first_failed (read_checks (sheet_of net)) ≡ None
    checks_pass =
        let read = sheet_of net in
        let n = sites_again in
        let m = arcs_again in
        let l = length_sheet in
        let arcs = joined_passes (arc_checks read) 0 (arcs_in read) (λ i h. let z : 0 + i ≡ i = omega arith in ap (λ k. first_failed (arc_checks read k)) z ∙ arc_passes i (omega arith)) in
        let size : not (eqb (length read) (sheet_size (arcs_in read))) ≡ false = not_from_true (eqb (length read) (sheet_size (arcs_in read))) (eq-eqb (length read) (sheet_size (arcs_in read)) (omega arith)) in
        let sites : (ltb (sites_in read) 2 || ltb 64 (sites_in read)) ≡ false = or_from (ltb (sites_in read) 2) (ltb 64 (sites_in read)) (le-ltb (sites_in read) 2 (omega arith)) (le-ltb 64 (sites_in read) (omega arith)) in
        all_pass (ltb (length read) 2) (refusal 1) _ (le-ltb (length read) 2 (omega arith))
        (all_pass (ltb (sites_in read) 2 || ltb 64 (sites_in read)) (refusal 2) _ sites
        (all_pass (ltb 256 (arcs_in read)) (refusal 3) _ (le-ltb 256 (arcs_in read) (omega arith))
        (all_pass (not (eqb (length read) (sheet_size (arcs_in read)))) (refusal 4) _ size arcs)))

    net_back : net_in (sheet_of net) ≡ net
    net_back =
        ap (λ n. net_of n (net_in (sheet_of net)).arcs) sites_again ∙ ap (λ xs. net_of net.sites xs) arcs_back

    pub written_reads_back : read_answer (sheet_of net) ≡ Ok net
    written_reads_back = ap (λ o. answered o (net_in (sheet_of net))) checks_pass ∙ ap (λ x. Ok x) net_back

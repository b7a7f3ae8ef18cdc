-- Where the fields of an arc stand in a sheet, and the bits of its arcs one after another.
use Rattle.std.specs.Prelude.{◌≡◌, ℕ, zero, suc, ◌+◌, ◌*◌, ◌/◌, ◌%◌, ◌^◌, ◌<◌, ◌≤◌, List, [], ◌∷◌, ◌++◌, map, length, take, drop, refl}
use Rattle.std.proofs.Common.{sym, ap, ◌∙◌, mul-suc, arith, length-drop, length-take-le, take-add}
use Rattle.std.proofs.Math.Seq.{drop-append-add, drop-nil}
use Rattle.std.specs.List.{range_with_len, flat_map}
use Rattle.std.proofs.ByRecursion.{All-append, All-take, All-drop}
use Rattle.std.proofs.lemmas.List.{drop-drop}
use Rattle.network.specs.declared.arc.Arc.{Arc}
use Rattle.sheet.specs.Bits.{bits, number, bits_of, field}
use Rattle.sheet.specs.Layout.{arc_bits, arc_in}
use Rattle.sheet.specs.Words.{arc_word, arc_in_word}
use Rattle.sheet.specs.Rows.{Row, row_bits, bits_number}
use Rattle.sheet.specs.Bytes.{length_bits_of, row_bits_of}
use Rattle.sheet.specs.FieldsLemmas.{field_within, field_lt}
use Rattle.sheet.specs.Arcs.{same_arc, word_again}

-- the arc of a number is that of the word at its place
pub arc_in_is : (bytes : List ℕ) (i : ℕ) → 80 + 64 * i ≤ 8 * length bytes → arc_in bytes i ≡ arc_in_word (field bytes (16 + 64 * i) 64)
arc_in_is bytes i h =
    same_arc (arc_in bytes i) (arc_in_word (field bytes (16 + 64 * i) 64)) (at 0 6 58 16 refl (omega arith)) (at 6 6 52 22 refl (omega arith))
    (at 12 12 40 28 refl (omega arith)) (at 24 12 28 40 refl (omega arith)) (at 36 10 18 52 refl (omega arith)) (at 46 10 8 62 refl (omega arith)) (at 56 8 0 72 refl (omega arith))
  where
    at : (o w t k : ℕ) → o + w + t ≡ 64 → 16 + 64 * i + o ≡ k + 64 * i → field bytes (k + 64 * i) w ≡ field bytes (16 + 64 * i) 64 / 2 ^ t % 2 ^ w
    at o w t k e f = ap (λ p. field bytes p w) (sym f) ∙ sym (field_within bytes (16 + 64 * i) 64 o w t e (omega arith))

pub row_before : (w x : ℕ) (bs : List ℕ) → Row bs → Row (bits w x ++ bs)
row_before w x bs row = All-append (λ b. b < 2) (bits w x) bs (row_bits w x) row

pub row_arc_bits : (a : Arc) → Row (arc_bits a)
row_arc_bits a =
    let capacity = bits 8 a.capacity in
    let charge = bits 10 a.charge ++ capacity in
    let jitter = bits 10 a.jitter ++ charge in
    let delay = bits 12 a.delay ++ jitter in
    let weight = bits 12 a.weight ++ delay in
    let to = bits 6 a.to ++ weight in
    row_before 6 a.from to
    (row_before 6 a.to weight
    (row_before 12 a.weight delay
    (row_before 12 a.delay jitter (row_before 10 a.jitter charge (row_before 10 a.charge capacity (row_bits 8 a.capacity))))))

-- the bits of an arc are those of its word
pub bits_of_word : (a : Arc) → bits 64 (arc_word a) ≡ arc_bits a
unfolding arc_word
bits_of_word a = bits_number (arc_bits a) (row_arc_bits a)

-- the bits of the arc that is read at a place are those that stand there
pub arc_bits_in : (bytes : List ℕ) (i : ℕ) → 80 + 64 * i ≤ 8 * length bytes → arc_bits (arc_in bytes i) ≡ take 64 (drop (16 + 64 * i) (bits_of bytes))
arc_bits_in bytes i h =
    let there = drop (16 + 64 * i) (bits_of bytes) in
    let long : 64 ≤ length there = simp (length-drop, length_bits_of) (omega arith) in
    let row : Row (take 64 there) = All-take (λ b. b < 2) 64 there (All-drop (λ b. b < 2) (16 + 64 * i) (bits_of bytes) (row_bits_of bytes)) in
    let word : arc_word (arc_in bytes i) ≡ field bytes (16 + 64 * i) 64 = ap arc_word (arc_in_is bytes i h) ∙ word_again (field bytes (16 + 64 * i) 64) (field_lt bytes (16 + 64 * i) 64) in
    sym (bits_of_word (arc_in bytes i))
    ∙ (ap (bits 64) word
    ∙ (ap (λ n. bits n (number (take 64 there))) (sym (length-take-le 64 there long)) ∙ bits_number (take 64 there) row))

-- the bits of the arcs that are read one after another
pub arcs_bits_in : (bytes : List ℕ) (a n : ℕ) → 16 + 64 * (a + n) ≤ 8 * length bytes → flat_map arc_bits (map (arc_in bytes) (range_with_len a n)) ≡ take (64 * n) (drop (16 + 64 * a) (bits_of bytes))
arcs_bits_in bytes a zero h = refl
arcs_bits_in bytes a (suc n) h =
    let s : 64 * suc n ≡ 64 + 64 * n = omega arith in
    let t : 16 + 64 * a + 64 ≡ 16 + 64 * (a + 1) = omega arith in
    let there = drop (16 + 64 * a) (bits_of bytes) in
    let next : drop 64 there ≡ drop (16 + 64 * (a + 1)) (bits_of bytes) = drop-drop 64 (16 + 64 * a) (bits_of bytes) ∙ ap (λ k. drop k (bits_of bytes)) t in
    ap (λ xs. xs ++ flat_map arc_bits (map (arc_in bytes) (range_with_len (a + 1) n))) (arc_bits_in bytes a (omega arith))
    ∙ (ap (λ xs. take 64 there ++ xs) (arcs_bits_in bytes (a + 1) n (omega arith) ∙ ap (take (64 * n)) (sym next))
    ∙ (sym (take-add 64 (64 * n) there) ∙ ap (λ k. take k there) (sym s)))

-- what is left of joined parts of one length
pub drop_joined : {X : Type 0} (f : X → List ℕ) (n : ℕ) → ((x : X) → length (f x) ≡ n) → (i : ℕ) (xs : List X) → drop (n * i) (flat_map f xs) ≡ flat_map f (drop i xs)
drop_joined f n same zero xs = let z : n * 0 ≡ 0 = omega arith in ap (λ k. drop k (flat_map f xs)) z
drop_joined f n same (suc i) [] = drop-nil (n * suc i)
drop_joined f n same (suc i) (x ∷ xs) =
    let s : n * suc i ≡ length (f x) + n * i = let h = same x in omega (arith, mul-suc n i) in
    ap (λ k. drop k (f x ++ flat_map f xs)) s ∙ (drop-append-add (f x) (flat_map f xs) (n * i) ∙ drop_joined f n same i xs)

-- Arcs as numbers of 64 bits and as eight bytes.
use Rattle.std.specs.Prelude.{◌≡◌, ℕ, ◌+◌, ◌*◌, ◌%◌, ◌^◌, ◌<◌, ◌≤◌, List, [], ◌∷◌, ◌++◌, length, take, drop, slice_index, slice_index_or, refl}
use Rattle.std.proofs.Common.{ap, ◌∙◌, add_assoc, arith, length-append}
use Rattle.network.specs.declared.arc.Arc.{Arc}
use Rattle.network.specs.Net.{ArcFits}
use Rattle.sheet.specs.Bits.{bits, number, bits_of, field}
use Rattle.sheet.specs.Words.{arc_word, arc_in_word}
use Rattle.sheet.specs.Rows.{length_bits, number_append, number_bits, number_bits_of}
use Rattle.sheet.specs.Bytes.{Bytes, length_bits_of}
use Rattle.sheet.specs.FieldsLemmas.{window, field_of_bytes}

-- the number that a row of bytes stands for
value : List ℕ → ℕ
value bytes = number (bits_of bytes)

value_cons : (b : ℕ) (bytes : List ℕ) (n : ℕ) → b < 256 → 8 * length bytes ≡ n → value (b ∷ bytes) ≡ b * 2 ^ n + value bytes
unfolding value
value_cons b bytes n h e =
    number_append (bits 8 b) (bits_of bytes) ∙ rw (length_bits_of bytes, e) (ap (λ m. m * 2 ^ n + number (bits_of bytes)) (number_bits_of 8 b h))

value_none : value [] ≡ 0
unfolding value
value_none = refl

value_eight : (a b c d e f g h : ℕ) → Bytes (a ∷ b ∷ c ∷ d ∷ e ∷ f ∷ g ∷ h ∷ []) → value (a ∷ b ∷ c ∷ d ∷ e ∷ f ∷ g ∷ h ∷ []) ≡ a * 2 ^ 56 + b * 2 ^ 48 + c * 2 ^ 40 + d * 2 ^ 32 + e * 2 ^ 24 + f * 2 ^ 16 + g * 2 ^ 8 + h
value_eight a b c d e f g h s =
    let v0 = value_cons a (b ∷ c ∷ d ∷ e ∷ f ∷ g ∷ h ∷ []) 56 s.0 refl in
    let v1 = value_cons b (c ∷ d ∷ e ∷ f ∷ g ∷ h ∷ []) 48 s.1.0 refl in
    let v2 = value_cons c (d ∷ e ∷ f ∷ g ∷ h ∷ []) 40 s.1.1.0 refl in
    let v3 = value_cons d (e ∷ f ∷ g ∷ h ∷ []) 32 s.1.1.1.0 refl in
    let v4 = value_cons e (f ∷ g ∷ h ∷ []) 24 s.1.1.1.1.0 refl in
    let v5 = value_cons f (g ∷ h ∷ []) 16 s.1.1.1.1.1.0 refl in
    let v6 = value_cons g (h ∷ []) 8 s.1.1.1.1.1.1.0 refl in
    let v7 = value_cons h [] 0 s.1.1.1.1.1.1.1.0 refl in
    let v8 = value_none in
    omega arith

-- the eight bytes from a place on as one number
pub word_eight :
    (bytes : List ℕ) (at : ℕ) → ((i : ℕ) → slice_index bytes i < 256) → at + 8 ≤ length bytes →
    field bytes (8 * at) 64 ≡ slice_index bytes at * 2 ^ 56 + slice_index bytes (at + 1) * 2 ^ 48 + slice_index bytes (at + 2) * 2 ^ 40 + slice_index bytes (at + 3) * 2 ^ 32 + slice_index bytes (at + 4) * 2 ^ 24 + slice_index bytes (at + 5) * 2 ^ 16 + slice_index bytes (at + 6) * 2 ^ 8 + slice_index bytes (at + 7)
unfolding value
word_eight bytes at small h =
    let g : ℕ → ℕ = λ i. slice_index_or bytes i 0 in
    let items : take 8 (drop at bytes) ≡ g at ∷ g (at + 1) ∷ g (at + 2) ∷ g (at + 3) ∷ g (at + 4) ∷ g (at + 5) ∷ g (at + 6) ∷ g (at + 7) ∷ [] = window 8 at bytes h ∙ simp add_assoc in
    field_of_bytes 8 at bytes
    ∙ (ap value items
    ∙ value_eight (g at) (g (at + 1)) (g (at + 2)) (g (at + 3)) (g (at + 4)) (g (at + 5)) (g (at + 6)) (g (at + 7))
    (small at, (small (at + 1), (small (at + 2), (small (at + 3), (small (at + 4), (small (at + 5), (small (at + 6), (small (at + 7), tt)))))))))

-- the bits of a number as they stand in a longer row
part : ℕ → ℕ → List ℕ
part w x = bits w x

length_part : (w x : ℕ) → length (part w x) ≡ w
unfolding part
length_part w x = length_bits w x

number_part : (w x : ℕ) → number (part w x) ≡ x % 2 ^ w
unfolding part
number_part w x = number_bits w x

word_in_parts :
    (a : Arc) →
    arc_word a ≡ number (part 6 a.from ++ (part 6 a.to ++ (part 12 a.weight ++ (part 12 a.delay ++ (part 10 a.jitter ++ (part 10 a.charge ++ part 8 a.capacity))))))
unfolding part arc_word
word_in_parts a = refl

number_before : (w x : ℕ) (bs : List ℕ) (n : ℕ) → length bs ≡ n → number (part w x ++ bs) ≡ x % 2 ^ w * 2 ^ n + number bs
number_before w x bs n e = number_append (part w x) bs ∙ rw (e, number_part)

-- the word of an arc, field by field
pub word_of_arc :
    (a : Arc) →
    arc_word a ≡ ((((((a.from % 64) * 64 + a.to % 64) * 4096 + a.weight % 4096) * 4096 + a.delay % 4096) * 1024 + a.jitter % 1024) * 1024 + a.charge % 1024) * 256 + a.capacity % 256
word_of_arc a =
    let capacity = part 8 a.capacity in
    let charge = part 10 a.charge ++ capacity in
    let jitter = part 10 a.jitter ++ charge in
    let delay = part 12 a.delay ++ jitter in
    let weight = part 12 a.weight ++ delay in
    let to = part 6 a.to ++ weight in
    let of_capacity = number_part 8 a.capacity in
    let of_charge = number_before 10 a.charge capacity 8 (length_part 8 a.capacity) in
    let of_jitter = number_before 10 a.jitter charge 18 (simp (length-append, length_part)) in
    let of_delay = number_before 12 a.delay jitter 28 (simp (length-append, length_part)) in
    let of_weight = number_before 12 a.weight delay 40 (simp (length-append, length_part)) in
    let of_to = number_before 6 a.to weight 52 (simp (length-append, length_part)) in
    let of_from = number_before 6 a.from to 58 (simp (length-append, length_part)) in
    let whole = word_in_parts a in
    omega arith

abbrev arc_from : ℕ → ℕ → ℕ → ℕ → ℕ → ℕ → ℕ → Arc
arc_from f t w d j c k = record { from = f; to = t; weight = w; delay = d; jitter = j; charge = c; capacity = k }

pub same_arc : (a b : Arc) → a.from ≡ b.from → a.to ≡ b.to → a.weight ≡ b.weight → a.delay ≡ b.delay → a.jitter ≡ b.jitter → a.charge ≡ b.charge → a.capacity ≡ b.capacity → a ≡ b
same_arc a b f t w d j c k =
    let same : arc_from a.from a.to a.weight a.delay a.jitter a.charge a.capacity ≡ arc_from b.from b.to b.weight b.delay b.jitter b.charge b.capacity = cc in same

-- a number of 64 bits is the word of the arc that it has
pub word_again : (w : ℕ) → w < 2 ^ 64 → arc_word (arc_in_word w) ≡ w
word_again w h = let is = word_of_arc (arc_in_word w) in omega arith

-- an arc within the limits is found again from its word
pub arc_again : (n : ℕ) (a : Arc) → n ≤ 64 → ArcFits n a → arc_in_word (arc_word a) ≡ a
arc_again n a few fit =
    let is = word_of_arc a in
    same_arc (arc_in_word (arc_word a)) a (omega arith) (omega arith) (omega arith) (omega arith) (omega arith) (omega arith) (omega arith)

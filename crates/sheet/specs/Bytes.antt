-- Rows of bytes and their bits: each is found again from the other, and where a byte's bits stand.
use Rattle.std.specs.Prelude.{◌≡◌, ℕ, zero, suc, ◌+◌, ◌-◌, ◌*◌, ◌/◌, ◌%◌, ◌^◌, ◌<◌, ◌≤◌, List, [], ◌∷◌, ◌++◌, length, take, drop, slice_index, refl}
use Rattle.std.proofs.Common.{⊎_elim, sym, ap, ◌∙◌, mul-suc, arith, length-append, length-drop, take-append-drop, take_at, drop_at, length-take-le}
use Rattle.std.proofs.Math.Seq.{take-append-add, drop-append-add, take-nil, drop-nil}
use Rattle.std.specs.List.{flat_map, AllByRecursion}
use Rattle.std.proofs.ByRecursion.{All-append, All-take, All-drop}
use Rattle.std.proofs.lemmas.List.{get_or_append_left, get_or-append_right, nil_from_length, take-append-le, drop-append-le}
use Rattle.std.proofs.lemmas.Bool.{cases_lt}
use Rattle.sheet.specs.Bits.{bits, number, bits_of, bytes_of}
use Rattle.sheet.specs.Rows.{Row, length_bits, row_bits, get_or_bits, number_bits_of, bits_number}

abbrev pub Bytes : List ℕ → Type 0
Bytes bytes = AllByRecursion (λ b. b < 256) bytes

-- what is joined of parts of one length
pub length_joined : {X : Type 0} (f : X → List ℕ) (n : ℕ) → ((x : X) → length (f x) ≡ n) → (xs : List X) → length (flat_map f xs) ≡ n * length xs
length_joined f n same [] = omega arith
length_joined f n same (x ∷ xs) =
    length-append (f x) (flat_map f xs) ∙ (let e = length_joined f n same xs in let h = same x in omega (arith, mul-suc n (length xs)))

pub length_bits_of : (bytes : List ℕ) → length (bits_of bytes) ≡ 8 * length bytes
length_bits_of bytes = length_joined (bits 8) 8 (length_bits 8) bytes

pub row_bits_of : (bytes : List ℕ) → Row (bits_of bytes)
row_bits_of [] = tt
row_bits_of (b ∷ bytes) = All-append (λ x. x < 2) (bits 8 b) (bits_of bytes) (row_bits 8 b) (row_bits_of bytes)

pub length_bytes_of : (k : ℕ) (bs : List ℕ) → length (bytes_of k bs) ≡ k
length_bytes_of zero bs = refl
length_bytes_of (suc k) bs = ap suc (length_bytes_of k (drop 8 bs))

-- the bits of the bytes that a row of bits fills
pub bits_of_bytes_of : (k : ℕ) (bs : List ℕ) → Row bs → length bs ≡ 8 * k → bits_of (bytes_of k bs) ≡ bs
bits_of_bytes_of zero [] r l = refl
bits_of_bytes_of zero (b ∷ bs) r l = absurd (omega arith)
bits_of_bytes_of (suc k) bs r l =
    let eight : length (take 8 bs) ≡ 8 = length-take-le 8 bs (omega arith) in
    let rest : length (drop 8 bs) ≡ 8 * k = simp length-drop (omega arith) in
    let one : bits 8 (number (take 8 bs)) ≡ take 8 bs = ap (λ n. bits n (number (take 8 bs))) (sym eight) ∙ bits_number (take 8 bs) (All-take (λ x. x < 2) 8 bs r) in
    let two = bits_of_bytes_of k (drop 8 bs) (All-drop (λ x. x < 2) 8 bs r) rest in
    ap (λ x. x ++ bits_of (bytes_of k (drop 8 bs))) one ∙ (ap (λ x. take 8 bs ++ x) two ∙ take-append-drop 8 bs)

-- the bytes that the bits of bytes fill
pub bytes_of_bits_of : (bytes : List ℕ) → Bytes bytes → bytes_of (length bytes) (bits_of bytes) ≡ bytes
bytes_of_bits_of [] h = refl
bytes_of_bits_of (b ∷ bytes) h =
    let one : number (take 8 (bits 8 b ++ bits_of bytes)) ≡ b = ap number (take_at (bits 8 b) (bits_of bytes) 8 (length_bits 8 b)) ∙ number_bits_of 8 b h.0 in
    let two : bytes_of (length bytes) (drop 8 (bits 8 b ++ bits_of bytes)) ≡ bytes = ap (bytes_of (length bytes)) (drop_at (bits 8 b) (bits_of bytes) 8 (length_bits 8 b)) ∙ bytes_of_bits_of bytes h.1 in
    ap (λ x. x ∷ bytes_of (length bytes) (drop 8 (bits 8 b ++ bits_of bytes))) one ∙ ap (λ xs. b ∷ xs) two

-- the bytes that two rows fill one after the other
pub bytes_of_append : (j k : ℕ) (xs ys : List ℕ) → length xs ≡ 8 * j → bytes_of (j + k) (xs ++ ys) ≡ bytes_of j xs ++ bytes_of k ys
bytes_of_append zero k xs ys l =
    let z : 0 + k ≡ k = omega arith in let none = nil_from_length xs (omega arith) in rw (z, none)
bytes_of_append (suc j) k xs ys l =
    let s : suc j + k ≡ suc (j + k) = omega arith in
    let eight : 8 ≤ length xs = omega arith in
    let rest : length (drop 8 xs) ≡ 8 * j = simp length-drop (omega arith) in
    let one = take-append-le 8 xs ys eight in
    let two = drop-append-le 8 xs ys eight in
    ap (λ n. bytes_of n (xs ++ ys)) s
    ∙ (ap (λ bs. number bs ∷ bytes_of (j + k) (drop 8 (xs ++ ys))) one
    ∙ ap (λ bs. number (take 8 xs) ∷ bs) (ap (bytes_of (j + k)) two ∙ bytes_of_append j k (drop 8 xs) ys rest))

-- the first so many bytes' bits, and the bits of the others
pub bits_of_take : (k : ℕ) (bytes : List ℕ) → bits_of (take k bytes) ≡ take (8 * k) (bits_of bytes)
bits_of_take zero bytes = refl
bits_of_take (suc k) [] = sym (take-nil (8 * suc k))
bits_of_take (suc k) (b ∷ bytes) =
    let s : 8 * suc k ≡ 8 + 8 * k = omega arith in
    ap (λ bs. bits 8 b ++ bs) (bits_of_take k bytes)
    ∙ (sym (take-append-add (bits 8 b) (bits_of bytes) (8 * k)) ∙ ap (λ n. take n (bits 8 b ++ bits_of bytes)) (sym s))

pub bits_of_drop : (k : ℕ) (bytes : List ℕ) → bits_of (drop k bytes) ≡ drop (8 * k) (bits_of bytes)
bits_of_drop zero bytes = refl
bits_of_drop (suc k) [] = sym (drop-nil (8 * suc k))
bits_of_drop (suc k) (b ∷ bytes) =
    let s : 8 * suc k ≡ 8 + 8 * k = omega arith in
    bits_of_drop k bytes
    ∙ (sym (drop-append-add (bits 8 b) (bits_of bytes) (8 * k)) ∙ ap (λ n. drop n (bits 8 b ++ bits_of bytes)) (sym s))

-- a bit of the bytes is a bit of the byte that it stands in
pub get_or_bits_of : (bytes : List ℕ) (p : ℕ) → p < 8 * length bytes → slice_index (bits_of bytes) p ≡ slice_index bytes (p / 8) / 2 ^ (7 - p % 8) % 2
get_or_bits_of [] p h = absurd (omega arith)
get_or_bits_of (b ∷ bytes) p h =
    ⊎_elim
    (λ lt.
    let q : p / 8 ≡ 0 = omega arith in
    let r : p % 8 ≡ p = omega arith in
    get_or_append_left (bits 8 b) (bits_of bytes) 0 p (rw length_bits lt)
    ∙ (get_or_bits 8 b p lt ∙ sym (ap (λ k. slice_index (b ∷ bytes) k / 2 ^ (7 - p % 8) % 2) q ∙ ap (λ k. b / 2 ^ (7 - k) % 2) r)))
    (λ ge.
    let q : p / 8 ≡ suc ((p - 8) / 8) = omega arith in
    let r : p % 8 ≡ (p - 8) % 8 = omega arith in
    get_or-append_right (bits 8 b) (bits_of bytes) 8 p 0 (length_bits 8 b) ge
    ∙ (get_or_bits_of bytes (p - 8) (omega arith)
    ∙ sym (ap (λ k. slice_index (b ∷ bytes) k / 2 ^ (7 - p % 8) % 2) q ∙ ap (λ k. slice_index bytes ((p - 8) / 8) / 2 ^ (7 - k) % 2) r)))
    (cases_lt p 8)

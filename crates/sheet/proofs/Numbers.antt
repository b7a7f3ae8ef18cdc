-- Numbers of whole bytes, the highest byte first, and the bits that they stand for.
use Rattle.std.proofs.Common.{◌≡◌, ℕ, zero, suc, ◌+◌, ◌*◌, ◌/◌, ◌%◌, ◌^◌, ◌<◌, ◌≤◌, List, ◌∷◌, ◌++◌, length, get_or, take, drop, sym, refl, ap, ◌∙◌, arith, mul-suc, pow-suc, take_at}
use Rattle.std.specs.Int.{w16, w64, byte_at, bytes_high_first, to_be_bytes, from_be_bytes}
use Rattle.std.specs.Simd.{first_chunks}
use Rattle.std.proofs.lemmas.Nat.{shr-shr, pow-add, from_be_bytes-to_be_bytes_8}
use Rattle.std.proofs.lemmas.List.{drop-drop}
use Rattle.sheet.specs.Bits.{bits, number, bits_of, bytes_of}
use Rattle.sheet.specs.Steps.{head_bytes, word_bytes}
use Rattle.sheet.specs.Rows.{row_bits, number_bits, number_append, number_bits_of, bits_number, number_lt}
use Rattle.sheet.specs.Bytes.{Bytes, length_bits_of, row_bits_of, bytes_of_bits_of}
use Rattle.sheet.specs.Layouts.{row_before}

-- the bits of a number, the upper and the lower
bits_split : (a b x : ℕ) → bits (a + b) x ≡ bits a (x / 2 ^ b) ++ bits b x
bits_split zero b x = let z : 0 + b ≡ b = omega arith in ap (λ n. bits n x) z
bits_split (suc a) b x =
    let s : suc a + b ≡ suc (a + b) = omega arith in
    let t : b + a ≡ a + b = omega arith in
    let q : x / 2 ^ (a + b) ≡ x / 2 ^ b / 2 ^ a = ap (λ n. x / 2 ^ n) (sym t) ∙ sym (shr-shr x b a) in
    ap (λ n. bits n x) s ∙ (ap (λ y. y % 2 ∷ bits (a + b) x) q ∙ ap (λ xs. x / 2 ^ b / 2 ^ a % 2 ∷ xs) (bits_split a b x))

-- the byte of a number that stands above so many others
byte_above : (k x : ℕ) → x / 2 ^ (8 * k) % 2 ^ 8 ≡ byte_at k x
byte_above zero x = omega arith
byte_above (suc k) x = ap (λ p. x / p % 256) (places (suc k))
  where
    places : (i : ℕ) → 2 ^ (8 * i) ≡ 256 ^ i
    places zero = refl
    places (suc i) =
        let s : 8 * suc i ≡ 8 * i + 8 = omega arith in
        ap (λ n. 2 ^ n) s ∙ (pow-add 2 (8 * i) 8 ∙ (ap (λ p. p * 256) (places i) ∙ sym (pow-suc 256 i)))

-- the bytes that the bits of a number fill
pub bytes_of_bits : (k x : ℕ) → bytes_of k (bits (8 * k) x) ≡ bytes_high_first k x
bytes_of_bits zero x = refl
bytes_of_bits (suc k) x =
    let high = bits 8 (x / 2 ^ (8 * k)) in
    let low = bits (8 * k) x in
    let s : 8 * suc k ≡ 8 + 8 * k = omega arith in
    let one : number (take 8 (high ++ low)) ≡ byte_at k x = ap number (take_at high low 8 refl) ∙ (number_bits 8 (x / 2 ^ (8 * k)) ∙ byte_above k x) in
    ap (λ n. bytes_of (suc k) (bits n x)) s
    ∙ (ap (bytes_of (suc k)) (bits_split 8 (8 * k) x)
    ∙ (ap (λ b. b ∷ bytes_of k low) one ∙ ap (λ bs. byte_at k x ∷ bs) (bytes_of_bits k x)))

pub word_bytes_are : (w : ℕ) → to_be_bytes w64 w ≡ word_bytes w
unfolding word_bytes
word_bytes_are w = sym (bytes_of_bits 8 w)

-- the head as one number of 16 bits
pub head_bytes_are : (n m : ℕ) → n ≤ 64 → m ≤ 256 → to_be_bytes w16 (n * 512 + m) ≡ head_bytes n m
unfolding head_bytes
head_bytes_are n m few few' =
    let head = bits 7 n ++ bits 9 m in
    let value : number head ≡ n * 512 + m = number_append (bits 7 n) (bits 9 m) ∙ (ap (λ x. x * 512 + number (bits 9 m)) (number_bits_of 7 n (omega arith)) ∙ ap (λ x. n * 512 + x) (number_bits_of 9 m (omega arith))) in
    sym (bytes_of_bits 2 (n * 512 + m))
    ∙ ap (bytes_of 2) (ap (bits 16) (sym value) ∙ bits_number head (row_before 7 n (bits 9 m) (row_bits 9 m)))

-- eight bytes as one number stand for their bits
pub eight_bytes_are : (eight : List ℕ) → Bytes eight → length eight ≡ 8 → from_be_bytes w64 eight ≡ number (bits_of eight)
eight_bytes_are eight small l =
    let n = number (bits_of eight) in
    let long : length (bits_of eight) ≡ 64 = length_bits_of eight ∙ ap (λ k. 8 * k) l in
    let fits : n < 2 ^ 64 = let h = number_lt (bits_of eight) (row_bits_of eight) in omega (arith, ap (λ k. 2 ^ k) long) in
    let again : to_be_bytes w64 n ≡ eight = sym (bytes_of_bits 8 n) ∙ (ap (bytes_of 8) (ap (λ k. bits k n) (sym long) ∙ bits_number (bits_of eight) (row_bits_of eight)) ∙ (ap (λ k. bytes_of k (bits_of eight)) (sym l) ∙ bytes_of_bits_of eight small)) in
    ap (from_be_bytes w64) (sym again) ∙ from_be_bytes-to_be_bytes_8 n fits

-- one of the parts of one length into which a list is cut
pub chunk_at : (n k : ℕ) (xs : List ℕ) (i : ℕ) (d : List ℕ) → i < k → get_or (first_chunks n k xs) i d ≡ take n (drop (n * i) xs)
chunk_at n zero xs i d h = absurd (omega arith)
chunk_at n (suc k) xs zero d h = let z : n * 0 ≡ 0 = omega arith in ap (λ m. take n (drop m xs)) (sym z)
chunk_at n (suc k) xs (suc i) d h =
    let s : n + n * i ≡ n * suc i = omega (arith, mul-suc n i) in
    chunk_at n k (drop n xs) i d (omega arith) ∙ ap (take n) (drop-drop (n * i) n xs ∙ ap (λ m. drop m xs) s)

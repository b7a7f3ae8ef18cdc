-- Rows of bits and the numbers that they stand for: each is found again from the other.
use Rattle.std.specs.Prelude.{◌≡◌, ℕ, zero, suc, ◌+◌, ◌-◌, ◌*◌, ◌/◌, ◌%◌, ◌^◌, ◌<◌, ◌≤◌, List, [], ◌∷◌, ◌++◌, length, take, fold, slice_index, refl}
use Rattle.std.proofs.Common.{append_assoc, sym, ap, ◌∙◌, mod-lt, mod-eq_of_lt, pow-suc, add-mul, mul_assoc, arith, lit<, length-take, pow_mono}
use Rattle.std.specs.List.{AllByRecursion}
use Rattle.std.proofs.lemmas.Nat.{mod-pow-add, shr_high, mod_low, mul-add-lt}
use Rattle.std.proofs.lemmas.List.Sums.{fold-append}
use Rattle.std.proofs.ByRecursion.{All-take}
use Rattle.sheet.specs.Bits.{bits, number}

abbrev pub Row : List ℕ → Type 0
Row bs = AllByRecursion (λ b. b < 2) bs

pub length_bits : (w x : ℕ) → length (bits w x) ≡ w
length_bits zero x = refl
length_bits (suc w) x = ap suc (length_bits w x)

pub row_bits : (w x : ℕ) → Row (bits w x)
row_bits zero x = tt
row_bits (suc w) x = (mod-lt (x / 2 ^ w) (lit< tt), row_bits w x)

-- the bit at a place of a number's bits
pub get_or_bits : (w x i : ℕ) → i < w → slice_index (bits w x) i ≡ x / 2 ^ (w - 1 - i) % 2
get_or_bits zero x i h = absurd (omega arith)
get_or_bits (suc w) x zero h = let e : suc w - 1 - 0 ≡ w = omega arith in rw e
get_or_bits (suc w) x (suc i) h = let e : suc w - 1 - suc i ≡ w - 1 - i = omega arith in rw e (get_or_bits w x i (omega arith))

-- one place more
places : (n b p r : ℕ) → (2 * n + b) * p + r ≡ n * (p * 2) + (b * p + r)
places n b p r = omega (arith, add-mul (2 * n) b p, mul_assoc 2 n p, mul_assoc n p 2)

-- what was read before counts for as many places more as are read
pub number_after : (n : ℕ) (bs : List ℕ) → fold (λ m b. 2 * m + b) n bs ≡ n * 2 ^ length bs + number bs
number_after n [] = omega arith
number_after n (b ∷ bs) =
    let one = number_after (2 * n + b) bs in
    let two = number_after (2 * 0 + b) bs in
    let z : 2 * 0 + b ≡ b = omega arith in
    let three = ap (λ m. m * 2 ^ length bs + number bs) z in
    let e = pow-suc 2 (length bs) in
    rw e (one ∙ (places n b (2 ^ length bs) (number bs) ∙ ap (λ m. n * (2 ^ length bs * 2) + m) (sym (two ∙ three))))

pub number_cons : (b : ℕ) (bs : List ℕ) → number (b ∷ bs) ≡ b * 2 ^ length bs + number bs
number_cons b bs = let e : 2 * 0 + b ≡ b = omega arith in number_after (2 * 0 + b) bs ∙ ap (λ n. n * 2 ^ length bs + number bs) e

pub number_append : (xs ys : List ℕ) → number (xs ++ ys) ≡ number xs * 2 ^ length ys + number ys
number_append xs ys = fold-append (λ m b. 2 * m + b) 0 xs ys ∙ number_after (number xs) ys

pub number_bits : (w x : ℕ) → number (bits w x) ≡ x % 2 ^ w
number_bits zero x = omega arith
number_bits (suc w) x =
    let one = number_cons (x / 2 ^ w % 2) (bits w x) in
    let two = number_bits w x in
    let three = length_bits w x in
    let four : x % 2 ^ (1 + w) ≡ x / 2 ^ w % 2 * 2 ^ w + x % 2 ^ w = mod-pow-add x 1 w in
    let s : suc w ≡ 1 + w = omega arith in
    one ∙ rw (three, two) (sym (ap (λ v. x % 2 ^ v) s ∙ four))

-- a number that fits so many bits is found again from them
pub number_bits_of : (w x : ℕ) → x < 2 ^ w → number (bits w x) ≡ x
number_bits_of w x h = number_bits w x ∙ mod-eq_of_lt h

pub number_lt : (bs : List ℕ) → Row bs → number bs < 2 ^ length bs
number_lt [] r = omega arith
number_lt (b ∷ bs) r =
    let h = number_lt bs r.1 in
    rw (number_cons b bs, pow-suc 2 (length bs)) (mul-add-lt b (2 ^ length bs) (number bs) 2 r.0 h)

-- a field is below the power of its width
pub number_take_lt : (w : ℕ) (bs : List ℕ) → Row bs → number (take w bs) < 2 ^ w
number_take_lt w bs r =
    let h = number_lt (take w bs) (All-take (λ b. b < 2) w bs r) in
    let l : length (take w bs) ≤ w = simp length-take (omega arith) in
    omega (arith, pow_mono l)

-- the bits of a number, whatever stands above them
bits_after : (h : ℕ) (bs : List ℕ) → Row bs → bits (length bs) (h * 2 ^ length bs + number bs) ≡ bs
bits_after h [] r = refl
bits_after h (b ∷ bs) r =
    let e : h * 2 ^ suc (length bs) + number (b ∷ bs) ≡ (2 * h + b) * 2 ^ length bs + number bs = rw (number_cons b bs, pow-suc 2 (length bs)) (sym (places h b (2 ^ length bs) (number bs))) in
    let q = shr_high (2 * h + b) (length bs) (number bs) (number_lt bs r.1) in
    let two : (2 * h + b) % 2 ≡ b = omega (arith, r.0) in
    rw (e, q, two, bits_after (2 * h + b) bs r.1)

pub bits_number : (bs : List ℕ) → Row bs → bits (length bs) (number bs) ≡ bs
bits_number bs r = let e : 0 * 2 ^ length bs + number bs ≡ number bs = omega arith in ap (bits (length bs)) (sym e) ∙ bits_after 0 bs r

-- the number in the middle of a row, as a quotient of the whole
pub number_middle : (xs ys zs : List ℕ) → Row ys → Row zs → number (xs ++ (ys ++ zs)) / 2 ^ length zs % 2 ^ length ys ≡ number ys
number_middle xs ys zs rys rzs =
    let one = ap number (sym (append_assoc xs ys zs)) ∙ (number_append (xs ++ ys) zs ∙ ap (λ n. n * 2 ^ length zs + number zs) (number_append xs ys)) in
    let q = shr_high (number xs * 2 ^ length ys + number ys) (length zs) (number zs) (number_lt zs rzs) in
    let m = mod_low (number xs) (length ys) (number ys) (number_lt ys rys) in
    rw (one, q, m)

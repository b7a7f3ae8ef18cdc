-- Fields of a row of bytes: how large one is, one bit more, and a field within a longer one.
use Rattle.std.specs.Prelude.{◌≡◌, ℕ, zero, suc, ◌+◌, ◌-◌, ◌*◌, ◌/◌, ◌%◌, ◌^◌, ◌<◌, ◌≤◌, Bool, true, false, cond, List, ◌∷◌, ◌++◌, map, length, take, drop, Some, None, Option, nat_le, nat_lt, slice_index, refl}
use Rattle.std.proofs.Common.{sym, ap, ◌∙◌, arith, length-drop, take-append-drop, pow_mono, length-take-le, take-take, get_or-drop}
use Rattle.std.specs.List.{range_with_len}
use Rattle.std.proofs.ByRecursion.{All-take, All-drop}
use Rattle.std.proofs.lemmas.List.{drop-drop, drop-take, drop_more}
use Rattle.std.proofs.lemmas.List.Sums.{fold_more}
use Rattle.std.proofs.lemmas.Bool.{and_parts, and_from, leb-true, ltb-true, le-leb, lt-ltb, cond-true}
use Rattle.sheet.specs.declared.reader.Field.{Field}
use Rattle.sheet.specs.Bits.{number, bits_of, field}
use Rattle.sheet.specs.Fields.{bits_there, bits_left, next_field, next_position, skip_position}
use Rattle.sheet.specs.Steps.{field_at}
use Rattle.sheet.specs.Rows.{Row, number_take_lt, number_middle}
use Rattle.sheet.specs.Bytes.{length_bits_of, row_bits_of, bits_of_take, bits_of_drop}

pub there_parts : (bytes : List ℕ) (p w : ℕ) → bits_there bytes p w ≡ true → (p + w < 2 ^ 32) × (p + w ≤ 8 * length bytes)
there_parts bytes p w h =
    let two = and_parts (nat_lt (p + w) (2 ^ 32)) (nat_le (p + w) (8 * length bytes)) h in
    (ltb-true (p + w) (2 ^ 32) two.0, leb-true (p + w) (8 * length bytes) two.1)

pub left_parts : (bytes : List ℕ) (p w : ℕ) → bits_left bytes p w ≡ true → (w ≤ 32) × (p + w < 2 ^ 32) × (p + w ≤ 8 * length bytes)
left_parts bytes p w h =
    let two = and_parts (nat_le w 32) (bits_there bytes p w) h in
    let more = there_parts bytes p w two.1 in
    (leb-true w 32 two.0, more.0, more.1)

pub field_lt : (bytes : List ℕ) (p w : ℕ) → field bytes p w < 2 ^ w
field_lt bytes p w = number_take_lt w (drop p (bits_of bytes)) (All-drop (λ b. b < 2) p (bits_of bytes) (row_bits_of bytes))

-- one bit more
pub field_more : (bytes : List ℕ) (p w : ℕ) → p + w < 8 * length bytes → field bytes p (w + 1) ≡ 2 * field bytes p w + slice_index (bits_of bytes) (p + w)
field_more bytes p w h =
    let l : w < length (drop p (bits_of bytes)) = simp (length-drop, length_bits_of) (omega arith) in
    fold_more (λ n b. 2 * n + b) 0 (drop p (bits_of bytes)) w 0 l ∙ ap (λ b. 2 * field bytes p w + b) (get_or-drop p (bits_of bytes) w 0)

-- a field of no more than so many bits
pub field_below : (bytes : List ℕ) (p w n : ℕ) → w ≤ n → field bytes p w < 2 ^ n
field_below bytes p w n h = let f = field_lt bytes p w in omega (arith, pow_mono h)

-- so many items from a place on
pub window : (n at : ℕ) (xs : List ℕ) → at + n ≤ length xs → take n (drop at xs) ≡ map (λ i. slice_index xs i) (range_with_len at n)
window zero at xs h = refl
window (suc n) at xs h =
    let l : at < length xs = omega arith in
    ap (take (suc n)) (drop_more xs at 0 l) ∙ ap (λ ys. slice_index xs at ∷ ys) (window n (at + 1) xs (omega arith))

-- a field of whole bytes
pub field_of_bytes : (n at : ℕ) (bytes : List ℕ) → field bytes (8 * at) (8 * n) ≡ number (bits_of (take n (drop at bytes)))
field_of_bytes n at bytes =
    ap (λ bs. number (take (8 * n) bs)) (sym (bits_of_drop at bytes)) ∙ ap number (sym (bits_of_take n (drop at bytes)))

-- a part of a row that lies in the middle of a part
pub middle : (bs : List ℕ) (n o w : ℕ) → o + w ≤ n → take w (drop o (take n bs)) ≡ take w (drop o bs)
middle bs n o w h =
    let e : o + (n - o) ≡ n = omega arith in
    let l : w ≤ n - o = omega arith in
    ap (λ k. take w (drop o (take k bs))) (sym e) ∙ (ap (take w) (drop-take o (n - o) bs) ∙ take-take w (n - o) (drop o bs) l)

-- a field of bytes that stand at the beginning of others
pub field_of_front : (bytes : List ℕ) (k p w : ℕ) → p + w ≤ 8 * k → field (take k bytes) p w ≡ field bytes p w
field_of_front bytes k p w h = ap (λ bs. number (take w (drop p bs))) (bits_of_take k bytes) ∙ ap number (middle (bits_of bytes) (8 * k) p w h)

-- a field within a field, as a quotient of it
pub field_within : (bytes : List ℕ) (p n o w t : ℕ) → o + w + t ≡ n → p + n ≤ 8 * length bytes → field bytes p n / 2 ^ t % 2 ^ w ≡ field bytes (p + o) w
field_within bytes p n o w t e h =
    let bs = drop p (bits_of bytes) in
    let whole = take n bs in
    let ys = take w (drop o whole) in
    let zs = drop w (drop o whole) in
    let bits_there : Row bs = All-drop (λ b. b < 2) p (bits_of bytes) (row_bits_of bytes) in
    let row : Row (drop o whole) = All-drop (λ b. b < 2) o whole (All-take (λ b. b < 2) n bs bits_there) in
    let long : n ≤ length bs = simp (length-drop, length_bits_of) (omega arith) in
    let of_whole : length whole ≡ n = length-take-le n bs long in
    let of_rest : length (drop o whole) ≡ n - o = length-drop o whole ∙ ap (λ k. k - o) of_whole in
    let of_ys : length ys ≡ w = length-take-le w (drop o whole) (omega arith) in
    let of_zs : length zs ≡ t = length-drop w (drop o whole) ∙ omega arith in
    let split : take o whole ++ (ys ++ zs) ≡ whole = ap (λ xs. take o whole ++ xs) (take-append-drop w (drop o whole)) ∙ take-append-drop o whole in
    let one = number_middle (take o whole) ys zs (All-take (λ b. b < 2) w (drop o whole) row) (All-drop (λ b. b < 2) w (drop o whole) row) in
    let two : number whole / 2 ^ length zs % 2 ^ length ys ≡ number ys = ap (λ xs. number xs / 2 ^ length zs % 2 ^ length ys) (sym split) ∙ one in
    ap (λ k. number whole / 2 ^ k % 2 ^ w) (sym of_zs)
    ∙ (ap (λ k. number whole / 2 ^ length zs % 2 ^ k) (sym of_ys)
    ∙ (two ∙ ap number (middle bs n o w (omega arith) ∙ ap (take w) (drop-drop o p (bits_of bytes)))))

-- a shorter part of bits that are there
pub there_within : (bytes : List ℕ) (p n o w : ℕ) → bits_there bytes p n ≡ true → o + w ≤ n → bits_there bytes (p + o) w ≡ true
there_within bytes p n o w there h =
    let both = there_parts bytes p n there in
    and_from (nat_lt (p + o + w) (2 ^ 32)) (nat_le (p + o + w) (8 * length bytes)) (lt-ltb (p + o + w) (2 ^ 32) (omega arith)) (le-leb (p + o + w) (8 * length bytes) (omega arith))

pub left_within : (bytes : List ℕ) (p n o w : ℕ) → bits_there bytes p n ≡ true → o + w ≤ n → w ≤ 32 → bits_left bytes (p + o) w ≡ true
left_within bytes p n o w there h small =
    and_from (nat_le w 32) (bits_there bytes (p + o) w) (le-leb w 32 small) (there_within bytes p n o w there h)

-- what the reader hands out where the bits are left
pub handed_out : (bytes bytes' : List ℕ) (p p' w : ℕ) (r : Option Field) (f : Field) → bytes' ≡ bytes → p' ≡ p → bits_left bytes p w ≡ true → r ≡ next_field bytes' p' w → r ≡ Some f → f ≡ field_at bytes p w
handed_out bytes bytes' p p' w r f eb ep left e is =
    let there : next_field bytes p w ≡ Some (field_at bytes p w) = cond-true (bits_left bytes p w) (Some (field_at bytes p w)) None left in
    let same : next_field bytes' p' w ≡ next_field bytes p w = ap (λ xs. next_field xs p' w) eb ∙ ap (λ q. next_field bytes q w) ep in
    some_same (sym is ∙ (e ∙ (same ∙ there)))
  where
    some_same : {a b : Field} → Some a ≡ Some b → a ≡ b
    some_same e = cc

-- what was handed out stands at the position, and the bits were left
pub was_left : (bytes bytes' : List ℕ) (p p' w : ℕ) (f : Field) → bytes' ≡ bytes → p' ≡ p → Some f ≡ next_field bytes' p' w → bits_left bytes p w ≡ true
was_left bytes bytes' p p' w f eb ep e =
    go (bits_left bytes p w) refl (e ∙ (ap (λ xs. next_field xs p' w) eb ∙ ap (λ q. next_field bytes q w) ep))
  where
    go : (b : Bool) → bits_left bytes p w ≡ b → Some f ≡ cond b (Some (field_at bytes p w)) None → bits_left bytes p w ≡ true
    go true is some = is
    go false is some = absurd (let z : ◌≡◌ {A = ℕ} 0 1 = cc in omega arith)

-- where the reader stands then
pub moved_on : (bytes bytes' : List ℕ) (p p' w q : ℕ) → bytes' ≡ bytes → p' ≡ p → bits_left bytes p w ≡ true → q ≡ next_position bytes' p' w → q ≡ p + w
moved_on bytes bytes' p p' w q eb ep left e =
    e ∙ (ap (λ xs. next_position xs p' w) eb ∙ (ap (λ r. next_position bytes r w) ep ∙ cond-true (bits_left bytes p w) (p + w) p left))

pub passed_over : (bytes bytes' : List ℕ) (p p' w q : ℕ) → bytes' ≡ bytes → p' ≡ p → bits_there bytes p w ≡ true → q ≡ skip_position bytes' p' w → q ≡ p + w
passed_over bytes bytes' p p' w q eb ep there e =
    e ∙ (ap (λ xs. skip_position xs p' w) eb ∙ (ap (λ r. skip_position bytes r w) ep ∙ cond-true (bits_there bytes p w) (p + w) p there))

-- a field that the reader hands out stands at its position, its bits were left, and the reader stands behind it
pub field_found : (bytes : List ℕ) (p w : ℕ) (f : Field) → Some f ≡ next_field bytes p w → (f ≡ field_at bytes p w) × (bits_left bytes p w ≡ true) × (next_position bytes p w ≡ p + w)
field_found bytes p w f e = go (bits_left bytes p w) e
  where
    go : (b : Bool) → Some f ≡ cond b (Some (field_at bytes p w)) None → (f ≡ field_at bytes p w) × (b ≡ true) × (cond b (p + w) p ≡ p + w)
    go true some = (cc, refl, refl)
    go false some = absurd (let z : ◌≡◌ {A = ℕ} 0 1 = cc in omega arith)

-- A sheet in pieces: two bytes for its head, eight for each arc, and how a buffer comes to hold them.
use Rattle.std.proofs.Common.{◌≡◌, ℕ, suc, ◌+◌, ◌*◌, ◌<◌, ◌≤◌, List, [], ◌∷◌, ◌++◌, length, get_or, take, drop, sym, refl, ap, ◌∙◌, append_assoc, arith, length-append, take-append-drop, length-take-le, take_at, drop_at}
use Rattle.std.specs.List.{flat_map}
use Rattle.std.proofs.lemmas.List.{drop-drop, take_more, flat_map_more}
use Rattle.network.specs.declared.arc.Arc.{Arc}
use Rattle.network.specs.Net.{Net, arc_count, no_arc}
use Rattle.sheet.specs.Bits.{bits, bytes_of}
use Rattle.sheet.specs.Layout.{arc_bits, sheet_of, sheet_size}
use Rattle.sheet.specs.Words.{arc_word}
use Rattle.sheet.specs.Steps.{head_bytes, word_bytes, arcs_bytes}
use Rattle.sheet.specs.Bytes.{length_joined, length_bytes_of, bytes_of_append}
use Rattle.sheet.specs.Layouts.{bits_of_word}

-- the bytes of one arc
pub arc_bytes_are : (a : Arc) → word_bytes (arc_word a) ≡ bytes_of 8 (arc_bits a)
unfolding word_bytes
arc_bytes_are a = ap (bytes_of 8) (bits_of_word a)

bytes_of_joined : (arcs : List Arc) → bytes_of (8 * length arcs) (flat_map arc_bits arcs) ≡ flat_map (λ a. bytes_of 8 (arc_bits a)) arcs
bytes_of_joined [] = refl
bytes_of_joined (a ∷ arcs) =
    let s : 8 * suc (length arcs) ≡ 8 + 8 * length arcs = omega arith in
    ap (λ n. bytes_of n (arc_bits a ++ flat_map arc_bits arcs)) s
    ∙ (bytes_of_append 8 (8 * length arcs) (arc_bits a) (flat_map arc_bits arcs) refl
    ∙ ap (λ bs. bytes_of 8 (arc_bits a) ++ bs) (bytes_of_joined arcs))

pub sheet_pieces : (net : Net) → sheet_of net ≡ head_bytes net.sites (arc_count net) ++ arcs_bytes net.arcs
unfolding head_bytes arcs_bytes
sheet_pieces net =
    let head = bits 7 net.sites ++ bits 9 (arc_count net) in
    bytes_of_append 2 (8 * arc_count net) head (flat_map arc_bits net.arcs) refl ∙ ap (λ bs. bytes_of 2 head ++ bs) (bytes_of_joined net.arcs)

pub length_arcs_bytes : (arcs : List Arc) → length (arcs_bytes arcs) ≡ 8 * length arcs
unfolding arcs_bytes
length_arcs_bytes arcs = length_joined (λ a. bytes_of 8 (arc_bits a)) 8 (λ a. length_bytes_of 8 (arc_bits a)) arcs

pub no_arcs_bytes : arcs_bytes [] ≡ []
unfolding arcs_bytes
no_arcs_bytes = refl

-- one arc more
pub arcs_bytes_more : (arcs : List Arc) (i : ℕ) → i < length arcs → arcs_bytes (take (i + 1) arcs) ≡ arcs_bytes (take i arcs) ++ word_bytes (arc_word (get_or arcs i no_arc))
unfolding arcs_bytes
arcs_bytes_more arcs i h =
    let a = get_or arcs i no_arc in
    let f : Arc → List ℕ = λ x. bytes_of 8 (arc_bits x) in
    ap (flat_map f) (take_more arcs i no_arc h)
    ∙ (sym (flat_map_more f [] (take i arcs) a) ∙ ap (λ bs. flat_map f (take i arcs) ++ bs) (sym (arc_bytes_are a)))

-- the buffer before the first arc is written
pub buffer_none : (old : List ℕ) → old ≡ take 2 old ++ (arcs_bytes [] ++ drop 2 old)
buffer_none old = sym (ap (λ bs. take 2 old ++ (bs ++ drop 2 old)) no_arcs_bytes ∙ take-append-drop 2 old)

-- the buffer after one arc more is written
pub buffer_more :
    (arcs : List Arc) (i k w : ℕ) (old now : List ℕ) → k ≡ i → w ≡ arc_word (get_or arcs i no_arc) → i < length arcs → 2 + 8 * length arcs ≤ length old →
    now ≡ take 2 old ++ (arcs_bytes (take i arcs) ++ drop (2 + 8 * i) old) →
    take (2 + 8 * k) now ++ (word_bytes w ++ drop (2 + 8 * k + 8) now) ≡ take 2 old ++ (arcs_bytes (take (i + 1) arcs) ++ drop (2 + 8 * (i + 1)) old)
buffer_more arcs i k w old now at word h room e =
    let front = take 2 old ++ arcs_bytes (take i arcs) in
    let here = word_bytes (arc_word (get_or arcs i no_arc)) in
    let rest = drop (2 + 8 * i) old in
    let is : now ≡ front ++ rest = e ∙ sym (append_assoc (take 2 old) (arcs_bytes (take i arcs)) rest) in
    let two : length (take 2 old) ≡ 2 = length-take-le 2 old (omega arith) in
    let some : length (take i arcs) ≡ i = length-take-le i arcs (omega arith) in
    let long : length front ≡ 2 + 8 * i = length-append (take 2 old) (arcs_bytes (take i arcs)) ∙ (let l = length_arcs_bytes (take i arcs) in omega arith) in
    let before : take (2 + 8 * i) now ≡ front = ap (take (2 + 8 * i)) is ∙ take_at front rest (2 + 8 * i) long in
    let next : 2 + 8 * i + 8 ≡ 2 + 8 * (i + 1) = omega arith in
    let after : drop (2 + 8 * i + 8) now ≡ drop (2 + 8 * (i + 1)) old = sym (drop-drop 8 (2 + 8 * i) now) ∙ (ap (λ xs. drop 8 xs) (ap (drop (2 + 8 * i)) is ∙ drop_at front rest (2 + 8 * i) long) ∙ (drop-drop 8 (2 + 8 * i) old ∙ ap (λ n. drop n old) next)) in
    ap (λ n. take (2 + 8 * n) now ++ (word_bytes w ++ drop (2 + 8 * n + 8) now)) at
    ∙ (ap (λ n. take (2 + 8 * i) now ++ (word_bytes n ++ drop (2 + 8 * i + 8) now)) word
    ∙ (ap (λ xs. xs ++ (here ++ drop (2 + 8 * i + 8) now)) before
    ∙ (ap (λ xs. front ++ (here ++ xs)) after
    ∙ (append_assoc (take 2 old) (arcs_bytes (take i arcs)) (here ++ drop (2 + 8 * (i + 1)) old)
    ∙ ap (λ xs. take 2 old ++ xs) (sym (append_assoc (arcs_bytes (take i arcs)) here (drop (2 + 8 * (i + 1)) old)) ∙ ap (λ xs. xs ++ drop (2 + 8 * (i + 1)) old) (sym (arcs_bytes_more arcs i h)))))))

length_head_bytes : (n m : ℕ) → length (head_bytes n m) ≡ 2
unfolding head_bytes
length_head_bytes n m = length_bytes_of 2 (bits 7 n ++ bits 9 m)

-- the buffer after the head and the arcs are written
pub buffer_whole :
    (net : Net) (n m : ℕ) (old headed now : List ℕ) → n ≡ net.sites → m ≡ arc_count net → headed ≡ head_bytes n m ++ drop 2 old →
    now ≡ take 2 headed ++ (arcs_bytes net.arcs ++ drop (sheet_size (arc_count net)) headed) →
    now ≡ sheet_of net ++ drop (sheet_size (arc_count net)) old
buffer_whole net n m old headed now en em eh e =
    let head = head_bytes net.sites (arc_count net) in
    let rest = drop 2 old in
    let is : headed ≡ head ++ rest = eh ∙ (ap (λ k. head_bytes k m ++ rest) en ∙ ap (λ k. head_bytes net.sites k ++ rest) em) in
    let two = length_head_bytes net.sites (arc_count net) in
    let before : take 2 headed ≡ head = ap (take 2) is ∙ take_at head rest 2 two in
    let after : drop (sheet_size (arc_count net)) headed ≡ drop (sheet_size (arc_count net)) old = sym (drop-drop (8 * arc_count net) 2 headed) ∙ (ap (drop (8 * arc_count net)) (ap (drop 2) is ∙ drop_at head rest 2 two) ∙ drop-drop (8 * arc_count net) 2 old) in
    e
    ∙ (ap (λ xs. xs ++ (arcs_bytes net.arcs ++ drop (sheet_size (arc_count net)) headed)) before
    ∙ (ap (λ xs. head ++ (arcs_bytes net.arcs ++ xs)) after
    ∙ (sym (append_assoc head (arcs_bytes net.arcs) (drop (sheet_size (arc_count net)) old))
    ∙ ap (λ xs. xs ++ drop (sheet_size (arc_count net)) old) (sym (sheet_pieces net)))))

-- The bytes of a word that is made of two.
use Rattle.std.proofs.Common.{◌≡◌, ℕ, zero, suc, ◌+◌, ◌-◌, ◌*◌, ◌/◌, ◌%◌, ◌^◌, ◌<◌, ◌≤◌, List, [], ◌∷◌, ◌++◌, length, take, drop, Some, refl, sym, ap, arith, ◌∙◌}
use Rattle.std.specs.Prelude.{slice_get, slice_range}
use Rattle.std.specs.Int.{w64, to_le_bytes}
use Rattle.std.proofs.lemmas.List.{drop_at, take_at, drop-drop, drop_all, length-drop}
use Rattle.std.proofs.lemmas.Nat.{pow-add}
use Rattle.std.proofs.Math.Nat.{div-div-eq-div-mul, pow-succ'}
use Rattle.ps_language.specs.Value.{Store}
use Rattle.ps_language.specs.Access.{bytes}
use Rattle.ps_word.specs.declared.words.Word.{Word}
use Rattle.ps_mem.specs.Heap.{Heap, birth_at, fields_at}
use Rattle.ps_seq.proofs.ByteLemmas.{digits, le_bytes-digits, padded, length-padded, run-padded}
use Rattle.ps_seq.proofs.TextLemmas.{TextAt, loaded_bytes, run-take}

length-digits : (k n : ℕ) → length (digits k n) ≡ k
length-digits zero n = refl
length-digits (suc k) n = ap suc (length-digits k (n / 256))

-- the lowest bytes, and those above them
digits-split : (m k n : ℕ) → digits (m + k) n ≡ digits m n ++ digits k (n / 256 ^ m)
digits-split zero k n =
    let none : 0 + k ≡ k = omega arith in
    let all : n ≡ n / 1 = omega arith in
    λ i. digits (none i) (all i)
digits-split (suc m) k n =
    let more : suc m + k ≡ suc (m + k) = omega arith in
    let power : 256 * 256 ^ m ≡ 256 ^ suc m = sym (pow-succ' 256 m) in
    ap (λ j. digits j n) more
    ∙ ap (λ ds. n % 256 ∷ ds) (digits-split m k (n / 256)
    ∙ ap (λ q. digits m (n / 256) ++ digits k q) (div-div-eq-div-mul n 256 (256 ^ m)
    ∙ ap (λ p. n / p) power))

-- what stands above so many bytes is none of them
digits-low : (k a b : ℕ) → digits k (a + 256 ^ k * b) ≡ digits k a
digits-low zero a b = refl
digits-low (suc k) a b =
    let y = 256 ^ k * b in
    let power : 256 ^ suc k * b ≡ 256 * y = ap (λ p. p * b) (pow-succ' 256 k) ∙ omega arith in
    let low : (a + 256 ^ suc k * b) % 256 ≡ a % 256 = omega (arith, power) in
    let high : (a + 256 ^ suc k * b) / 256 ≡ a / 256 + y = omega (arith, power) in
    λ i. low i ∷ (ap (digits k) high ∙ digits-low k (a / 256) b) i

power_of_256 : (k : ℕ) → 2 ^ (8 * k) ≡ 256 ^ k
power_of_256 zero = refl
power_of_256 (suc k) =
    let more : 8 * suc k ≡ 8 + 8 * k = omega arith in
    ap (λ n. 2 ^ n) more
    ∙ (pow-add 2 8 (8 * k) ∙ (ap (λ p. 256 * p) (power_of_256 k) ∙ sym (pow-succ' 256 k)))

-- eight bytes from one of the bytes of two words on
pub joined_bytes : (low high first value : ℕ) → low < 2 ^ 64 → first < 8
    → value ≡ (high * 2 ^ 64 + low) / 2 ^ (8 * first) % 2 ^ 64
    → to_le_bytes w64 value ≡ slice_range (to_le_bytes w64 low ++ to_le_bytes w64 high) first
    (first + 8)
joined_bytes low high first value small within is =
    let both = high * 2 ^ 64 + low in
    let shifted = both / 256 ^ first in
    let sum : both ≡ low + 256 ^ 8 * high = omega arith in
    let above : both / 256 ^ 8 ≡ high = omega (arith, small) in
    let sixteen : digits 16 both ≡ digits 8 low ++ digits 8 high =
    digits-split 8 8 both
    ∙ (λ i. (ap (digits 8) sum ∙ digits-low 8 low high) i ++ digits 8 (above i)) in
    let rest = 8 - first in
    let parts : 16 ≡ first + (8 + rest) = omega (arith, within) in
    let behind : drop first (digits 16 both) ≡ digits (8 + rest) shifted =
    ap (λ k. drop first (digits k both)) parts
    ∙ (ap (drop first) (digits-split first (8 + rest) both)
    ∙ drop_at (digits first both) (digits (8 + rest) shifted) first (length-digits first both)) in
    let eight : take 8 (digits (8 + rest) shifted) ≡ digits 8 shifted =
    ap (take 8) (digits-split 8 rest shifted)
    ∙ take_at (digits 8 shifted) (digits rest (shifted / 256 ^ 8)) 8 (length-digits 8 shifted) in
    let cut : shifted ≡ shifted % 2 ^ 64 + 256 ^ 8 * (shifted / 2 ^ 64) = omega arith in
    let long : first + 8 - first ≡ 8 = omega arith in
    let words : digits 8 low ++ digits 8 high ≡ to_le_bytes w64 low ++ to_le_bytes w64 high =
    sym (λ i. le_bytes-digits low i ++ le_bytes-digits high i) in
    le_bytes-digits value
    ∙ (ap (digits 8) (is ∙ ap (λ p. both / p % 2 ^ 64) (power_of_256 first))
    ∙ (sym (ap (digits 8) cut ∙ digits-low 8 (shifted % 2 ^ 64) (shifted / 2 ^ 64))
    ∙ (sym eight
    ∙ (ap (take 8) (sym behind)
    ∙ (ap (λ ds. take 8 (drop first ds)) (sixteen ∙ words)
    ∙ ap (λ n. take n (drop first (to_le_bytes w64 low ++ to_le_bytes w64 high))) (sym long))))))

-- ---- a run of the bytes of a string

padded-add : (m k : ℕ) (bs : List ℕ) → padded (m + k) bs ≡ padded m bs ++ padded k (drop m bs)
padded-add zero k bs = let none : 0 + k ≡ k = omega arith in ap (λ n. padded n bs) none
padded-add (suc m) k [] =
    let more : suc m + k ≡ suc (m + k) = omega arith in
    ap (λ n. padded n []) more
    ∙ ap (λ bs. 0 ∷ bs) (padded-add m k [] ∙ ap (λ bs. padded m [] ++ padded k bs)
    (drop_all m [] (omega arith)))
padded-add (suc m) k (b ∷ bs) =
    let more : suc m + k ≡ suc (m + k) = omega arith in
    ap (λ n. padded n (b ∷ bs)) more ∙ ap (λ xs. b ∷ xs) (padded-add m k bs)

run_front : (r n : ℕ) (xs ys : List ℕ) → r + n ≤ length xs
    → take n (drop r (xs ++ ys)) ≡ take n (drop r xs)
run_front zero zero xs ys fits = refl
run_front zero (suc n) [] ys fits = absurd (omega arith)
run_front zero (suc n) (x ∷ xs) ys fits =
    ap (λ zs. x ∷ zs) (run_front zero n xs ys (omega (arith, fits)))
run_front (suc r) n [] ys fits = absurd (omega arith)
run_front (suc r) n (x ∷ xs) ys fits = run_front r n xs ys (omega (arith, fits))

-- the first bytes of a word that is made of the one with a place and the one behind it
module _ (h : Heap) (a : ℕ) (s : Store) (text : TextAt h a s) (place count : ℕ)
    (within : place + count ≤ length (bytes s (birth_at h a))) (some : 1 ≤ count)
    (few : count ≤ 8) (low high : Word) (value : ℕ)
    (read : slice_get (fields_at h a) (place / 8) ≡ Some low)
    (is : to_le_bytes w64 value
    ≡ slice_range (to_le_bytes w64 low.0 ++ to_le_bytes w64 high.0) (place % 8) (place % 8 + 8))
  where
    abbrev all : List ℕ
    all = bytes s (birth_at h a)

    low_is : to_le_bytes w64 low.0 ≡ padded 8 (drop (8 * (place / 8)) all)
    low_is = loaded_bytes h a s text (place / 8) low read (omega (arith, within, some))

    taken : take count (to_le_bytes w64 value)
        ≡ take count (drop (place % 8) (to_le_bytes w64 low.0 ++ to_le_bytes w64 high.0))
    taken =
        let both = to_le_bytes w64 low.0 ++ to_le_bytes w64 high.0 in
        let long : place % 8 + 8 - place % 8 ≡ 8 = omega arith in
        ap (take count) (is ∙ ap (λ n. take n (drop (place % 8) both)) long)
        ∙ run-take 8 (drop (place % 8) both) 0 count (omega (arith, few))

    placed : take count (drop (place % 8) (drop (8 * (place / 8)) all))
        ≡ slice_range all place (place + count)
    placed =
        let at : 8 * (place / 8) + place % 8 ≡ place = omega arith in
        let long : count ≡ place + count - place = omega arith in
        ap (take count) (drop-drop (place % 8) (8 * (place / 8)) all)
        ∙ (λ i. take (long i) (drop (at i) all))

    reach : place % 8 + count ≤ length (drop (8 * (place / 8)) all)
    reach = omega (arith, within, length-drop (8 * (place / 8)) all)

    pub run_in_one : place % 8 + count ≤ 8
        → take count (to_le_bytes w64 value) ≡ slice_range all place (place + count)
    run_in_one fits =
        let size = length-padded 8 (drop (8 * (place / 8)) all) in
        taken
        ∙ (ap (λ bs. take count (drop (place % 8) (bs ++ to_le_bytes w64 high.0))) low_is
        ∙ (run_front (place % 8) count (padded 8 (drop (8 * (place / 8)) all))
        (to_le_bytes w64 high.0) (omega (arith, fits, size))
        ∙ (run-padded 8 (place % 8) count (drop (8 * (place / 8)) all) fits reach
        ∙ placed)))

    pub run_in_two : 8 < place % 8 + count → slice_get (fields_at h a) (place / 8 + 1) ≡ Some high
        → take count (to_le_bytes w64 value) ≡ slice_range all place (place + count)
    run_in_two over read' =
        let next : 8 * (place / 8) + 8 ≡ 8 * (place / 8 + 1) = omega arith in
        let high_is : to_le_bytes w64 high.0 ≡ padded 8 (drop 8 (drop (8 * (place / 8)) all)) =
        loaded_bytes h a s text (place / 8 + 1) high read' (omega (arith, within, over))
        ∙ ap (padded 8) (sym (drop-drop 8 (8 * (place / 8)) all ∙ ap (λ n. drop n all) next)) in
        taken
        ∙ (ap (λ bs. take count (drop (place % 8) bs)) ((λ i. low_is i ++ high_is i)
        ∙ sym (padded-add 8 8 (drop (8 * (place / 8)) all)))
        ∙ (run-padded 16 (place % 8) count (drop (8 * (place / 8)) all) (omega (arith, few)) reach
        ∙ placed))

-- Words and the bytes in them.
use Rattle.std.proofs.Common.{◌≡◌, ℕ, zero, suc, ◌+◌, ◌*◌, ◌/◌, ◌%◌, ◌^◌, ◌<◌, ◌≤◌, List, [], ◌∷◌, length, take, drop, get_or, Some, refl, sym, ap, arith, ◌∙◌}
use Rattle.std.specs.Prelude.{slice_get}
use Rattle.std.specs.Int.{w64, to_le_bytes, bytes_low_first}
use Rattle.std.proofs.lemmas.List.{drop-drop}
use Rattle.std.proofs.Math.Nat.{div-div-eq-div-mul, pow-suc}
use Rattle.ps_word.specs.declared.words.Word.{Word}
use Rattle.ps_mem.specs.Objects.{word_of}
use Rattle.ps_mem.specs.References.{words_for}
use Rattle.ps_mem.specs.Strings.{AreBytes, number_of_bytes, words_from, words_of}

-- ---- numbers and their lowest bytes

-- so many bytes of a number, the lowest first
abbrev pub digits : ℕ → ℕ → List ℕ
digits zero n = []
digits (suc k) n = n % 256 ∷ digits k (n / 256)

-- so many bytes, with zeros behind the last
abbrev pub padded : ℕ → List ℕ → List ℕ
padded zero bs = []
padded (suc k) [] = 0 ∷ padded k []
padded (suc k) (b ∷ bs) = b ∷ padded k bs

pub digits-number : (k : ℕ) (bs : List ℕ) → AreBytes bs → digits k (number_of_bytes bs)
    ≡ padded k bs
unfolding number_of_bytes
digits-number zero bs are = refl
digits-number (suc k) [] are = ap (λ ns. 0 ∷ ns) (digits-number k [] tt)
digits-number (suc k) (b ∷ bs) are =
    let byte : b < 256 = are.0 in
    let low : (b + 256 * number_of_bytes bs) % 256 ≡ b = omega arith in
    let high : (b + 256 * number_of_bytes bs) / 256 ≡ number_of_bytes bs = omega arith in
    λ i. low i ∷ (ap (digits k) high ∙ digits-number k bs are.1) i

pub number-digits : (k n : ℕ) → n < 256 ^ k → number_of_bytes (digits k n) ≡ n
unfolding number_of_bytes
number-digits zero n h = omega (arith, h)
number-digits (suc k) n h =
    let power : 256 ^ suc k ≡ 256 ^ k * 256 = pow-suc 256 k in
    let below : n / 256 < 256 ^ k = omega (arith, h, power) in
    let rest = number-digits k (n / 256) below in
    omega (arith, rest)

low_first : (i k n : ℕ) → bytes_low_first (suc i) k n ≡ digits k (n / 256 ^ suc i)
low_first i zero n = refl
low_first i (suc k) n =
    let power : 256 ^ suc i * 256 ≡ 256 ^ suc (suc i) = sym (pow-suc 256 (suc i)) in
    ap (λ ns. n / 256 ^ suc i % 256 ∷ ns) (low_first (suc i) k n ∙ ap (digits k) (ap (λ m. n / m)
    (sym power) ∙ sym (div-div-eq-div-mul n (256 ^ suc i) 256)))

pub le_bytes-digits : (n : ℕ) → to_le_bytes w64 n ≡ digits 8 n
le_bytes-digits n = ap (λ ns. n % 256 ∷ ns) (low_first 0 7 n)

-- ---- padded bytes

pub length-padded : (k : ℕ) (bs : List ℕ) → length (padded k bs) ≡ k
length-padded zero bs = refl
length-padded (suc k) [] = ap suc (length-padded k [])
length-padded (suc k) (b ∷ bs) = ap suc (length-padded k bs)

pub get_or-padded : (k : ℕ) (bs : List ℕ) (i : ℕ) → i < k → get_or (padded k bs) i 0 ≡ get_or bs i 0
get_or-padded zero bs i h = absurd (omega arith)
get_or-padded (suc k) [] zero h = refl
get_or-padded (suc k) [] (suc i) h = get_or-padded k [] i (omega arith)
get_or-padded (suc k) (b ∷ bs) zero h = refl
get_or-padded (suc k) (b ∷ bs) (suc i) h = get_or-padded k bs i (omega arith)

pub padded-take : (k : ℕ) (bs : List ℕ) → padded k (take k bs) ≡ padded k bs
padded-take zero bs = refl
padded-take (suc k) [] = refl
padded-take (suc k) (b ∷ bs) = ap (λ ns. b ∷ ns) (padded-take k bs)

-- a run within the bytes
pub run-padded : (k r n : ℕ) (bs : List ℕ) → r + n ≤ k → r + n ≤ length bs → take n (drop r
    (padded k bs)) ≡ take n (drop r bs)
run-padded k zero zero bs fits within = refl
run-padded zero zero (suc n) bs fits within = absurd (omega arith)
run-padded (suc k) zero (suc n) [] fits within = absurd (omega arith)
run-padded (suc k) zero (suc n) (b ∷ bs) fits within = ap (λ ns. b ∷ ns) (run-padded k zero n bs
    (omega arith) (omega arith))
run-padded zero (suc r) n bs fits within = absurd (omega arith)
run-padded (suc k) (suc r) n [] fits within = absurd (omega arith)
run-padded (suc k) (suc r) n (b ∷ bs) fits within = run-padded k r n bs (omega arith) (omega arith)

-- ---- the words of a text

pub word_at : (n : ℕ) (bs : List ℕ) (k : ℕ) → k < n → slice_get (words_from n bs) k ≡ Some (word_of
    (number_of_bytes (take 8 (drop (8 * k) bs))))
unfolding words_from
word_at zero bs k h = absurd (omega arith)
word_at (suc n) bs zero h = refl
word_at (suc n) bs (suc k) h =
    let next : 8 + 8 * k ≡ 8 * suc k = omega arith in
    word_at n (drop 8 bs) k (omega arith) ∙ ap (λ ds. Some (word_of (number_of_bytes (take 8 ds))))
    (drop-drop (8 * k) 8 bs ∙ ap (λ m. drop m bs) next)

pub all_take_bytes : (n : ℕ) (bs : List ℕ) → AreBytes bs → AreBytes (take n bs)
all_take_bytes zero bs are = tt
all_take_bytes (suc n) [] are = tt
all_take_bytes (suc n) (b ∷ bs) are = (are.0, all_take_bytes n bs are.1)

pub all_drop_bytes : (n : ℕ) (bs : List ℕ) → AreBytes bs → AreBytes (drop n bs)
all_drop_bytes zero bs are = are
all_drop_bytes (suc n) [] are = tt
all_drop_bytes (suc n) (b ∷ bs) are = all_drop_bytes n bs are.1

-- the bytes of a word of a text
pub bytes_of_word : (bs : List ℕ) (k : ℕ) (w : Word) → AreBytes bs → slice_get (words_of bs) k
    ≡ Some w → k < words_for (length bs) → to_le_bytes w64 w.0 ≡ padded 8 (drop (8 * k) bs)
bytes_of_word bs k w are read h =
    let there = word_at (words_for (length bs)) bs k h in
    let same : w ≡ word_of (number_of_bytes (take 8 (drop (8 * k) bs))) = cc in
    le_bytes-digits w.0
    ∙ (ap (λ (v : Word). digits 8 v.0) same
    ∙ (digits-number 8 (take 8 (drop (8 * k) bs)) (all_take_bytes 8 (drop (8 * k) bs)
    (all_drop_bytes (8 * k) bs are))
    ∙ padded-take 8 (drop (8 * k) bs)))

pub get_of : (bs : List ℕ) (i b : ℕ) → slice_get bs i ≡ Some b → get_or bs i 0 ≡ b
get_of [] i b e = cc
get_of (x ∷ bs) zero b e = cc
get_of (x ∷ bs) (suc i) b e = get_of bs i b e

pub get_of_word : (ws : List Word) (i : ℕ) (d w : Word) → slice_get ws i ≡ Some w → get_or ws i d
    ≡ w
get_of_word [] i d w e = cc
get_of_word (x ∷ ws) zero d w e = cc
get_of_word (x ∷ ws) (suc i) d w e = get_of_word ws i d w e

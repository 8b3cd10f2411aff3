-- New objects of zero words: an array of nulls, a string of zero bytes, a condition.
use Rattle.std.proofs.Common.{◌≡◌, false, ℕ, zero, suc, List, ◌∷◌, length, map, take, drop, replicate, refl, ap, arith, ◌∙◌}
use Rattle.std.proofs.lemmas.List.{length-replicate}
use Rattle.ps_language.specs.Value.{Store}
use Rattle.ps_language.specs.Readers.{null}
use Rattle.ps_word.specs.Format.{content_in, executable_in, packed, IsWord, is_body}
use Rattle.ps_mem.specs.Heap.{Heap, birth_at, zero_word}
use Rattle.ps_mem.specs.References.{IsKnown, words_for}
use Rattle.ps_mem.specs.Meaning.{value_of}
use Rattle.ps_mem.specs.Strings.{AreBytes, number_of_bytes, words_from, words_of}
use Rattle.ps_mem.specs.Shows.{IsValue, AreValues, IsWithin, AreWithin}

pub value_of-zero : (births : ℕ → ℕ) (names : List (List ℕ)) → value_of births names zero_word ≡ null
unfolding value_of content_in executable_in
value_of-zero births names = refl

pub values_of-zeros : (births : ℕ → ℕ) (names : List (List ℕ)) (n : ℕ)
    → map (value_of births names) (replicate n zero_word) ≡ replicate n null
values_of-zeros births names zero = refl
values_of-zeros births names (suc n) = λ i. value_of-zero births names i ∷ values_of-zeros births names n i

zero_is_word : IsWord 0
unfolding content_in packed executable_in
zero_is_word = record { value = record { content = tt; literal_body = refl }; exact = refl }

zero_is_visible : is_body (content_in 0) ≡ false
unfolding content_in
zero_is_visible = refl

zero_is_known : (h : Heap) → IsKnown h zero_word
unfolding IsKnown content_in
zero_is_known h = tt

pub zero_is_value : (h : Heap) → IsValue h zero_word
zero_is_value h = record { word = zero_is_word; known = zero_is_known h; visible = zero_is_visible }

pub AreValues-zeros : (h : Heap) (n : ℕ) → AreValues h (replicate n zero_word)
AreValues-zeros h zero = tt
AreValues-zeros h (suc n) = (zero_is_value h, AreValues-zeros h n)

zero_is_within : (births : ℕ → ℕ) (names : List (List ℕ)) (s : Store) → IsWithin births names s zero_word
unfolding IsWithin content_in
zero_is_within births names s = tt

pub AreWithin-zeros : (h : Heap) (names : List (List ℕ)) (s : Store) (n : ℕ)
    → AreWithin h names s (replicate n zero_word)
AreWithin-zeros h names s zero = tt
AreWithin-zeros h names s (suc n) = (zero_is_within (birth_at h) names s, AreWithin-zeros h names s n)

-- ---- zero bytes

pub AreBytes-zeros : (n : ℕ) → AreBytes (replicate n 0)
AreBytes-zeros zero = tt
AreBytes-zeros (suc n) = (omega arith, AreBytes-zeros n)

number_of_zeros : (n : ℕ) → number_of_bytes (replicate n 0) ≡ 0
unfolding number_of_bytes
number_of_zeros zero = refl
number_of_zeros (suc n) = let e = number_of_zeros n in omega (arith, e)

take-zeros : (m n : ℕ) → (k : ℕ) × (take {A = ℕ} m (replicate n 0) ≡ replicate k 0)
take-zeros zero n = (0, refl)
take-zeros (suc m) zero = (0, refl)
take-zeros (suc m) (suc n) = let (k, e) = take-zeros m n in (suc k, ap (λ zs. 0 ∷ zs) e)

drop-zeros : (m n : ℕ) → (k : ℕ) × (drop {A = ℕ} m (replicate n 0) ≡ replicate k 0)
drop-zeros zero n = (n, refl)
drop-zeros (suc m) zero = (0, refl)
drop-zeros (suc m) (suc n) = drop-zeros m n

words_from-zeros : (count n : ℕ) → words_from count (replicate n 0) ≡ replicate count zero_word
unfolding words_from
words_from-zeros zero n = refl
words_from-zeros (suc count) n =
    let (k, front) = take-zeros 8 n in
    let (j, rest) = drop-zeros 8 n in
    λ i. record { 0 = (ap number_of_bytes front ∙ number_of_zeros k) i } ∷ (ap (words_from count) rest
    ∙ words_from-zeros count j) i

-- the words of a new string
pub words_of-zeros : (n : ℕ) → words_of (replicate n 0) ≡ replicate (words_for n) zero_word
words_of-zeros n = words_from-zeros (words_for (length (replicate {A = ℕ} n 0))) n
    ∙ ap (λ k. replicate (words_for k) zero_word) (length-replicate {A = ℕ} n 0)

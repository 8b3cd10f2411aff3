-- A dictionary that may still be filled: values and pairs put into it without a record.
use Rattle.std.proofs.Common.{◌≡◌, ℕ, zero, suc, ◌+◌, ◌*◌, ◌<◌, ◌/◌, List, [], ◌∷◌, ◌++◌, length, map, take, get_or, Some, refl, ap, ◌∙◌, arith}
use Rattle.std.specs.Prelude.{slice_get, slice_set}
use Rattle.std.specs.List.{AllByRecursion}
use Rattle.ps_language.specs.Value.{Value, Dictionary as DictionaryValue, Object, dictionary_object, Store}
use Rattle.ps_language.specs.Access.{dictionary_at, dictionary_object_in, with_dictionary}
use Rattle.ps_language.specs.Dictionaries.{put_pair, put_pairs}
use Rattle.ps_word.specs.declared.words.Word.{Word}
use Rattle.ps_mem.specs.Heap.{Heap, birth_at}
use Rattle.ps_mem.specs.Keeps.{Keeps}
use Rattle.ps_mem.specs.Shows.{AreValues, pair_of}
use Rattle.ps_mem.proofs.Lists.{slice_get-append_end}
use Rattle.ps_mem.proofs.KeepsLemmas.{value_of-kept}
use Rattle.ps_mem.specs.Index.{pairs_of_words}
use Rattle.ps_dict.proofs.Pairs.{pair_here}

-- ---- a store with a dictionary at its end

pub last-dictionary : (s : Store) (d : DictionaryValue) (b : ℕ) → b ≡ length s
    → dictionary_at (s ++ dictionary_object d ∷ []) b ≡ d
unfolding dictionary_at
last-dictionary s d b is =
    ap (λ n. dictionary_object_in (slice_get (s ++ dictionary_object d ∷ []) n)) is
    ∙ ap dictionary_object_in (slice_get-append_end s [] (dictionary_object d))

set_end : (s : Store) (x y : Object) → slice_set (s ++ x ∷ []) (length s) y ≡ s ++ y ∷ []
set_end [] x y = refl
set_end (z ∷ s) x y = ap (λ t. z ∷ t) (set_end s x y)

pub with-last : (s : Store) (d new : DictionaryValue) (b : ℕ) → b ≡ length s
    → with_dictionary (s ++ dictionary_object d ∷ []) b new ≡ s ++ dictionary_object new ∷ []
unfolding with_dictionary
with-last s d new b is = ap (λ n. slice_set (s ++ dictionary_object d ∷ []) n
    (dictionary_object new)) is ∙ set_end s (dictionary_object d) (dictionary_object new)

pub put_pairs-more : (pairs more : List (Value × Value)) (pair : Value × Value)
    → put_pairs pairs (more ++ pair ∷ []) ≡ put_pair (put_pairs pairs more) pair
put_pairs-more pairs [] pair = refl
put_pairs-more pairs (p ∷ more) pair = put_pairs-more (put_pair pairs p) more pair

-- ---- words in twos

pub slice_get-get_or : {A : Type 0} (xs : List A) (i : ℕ) (d : A) → i < length xs
    → slice_get xs i ≡ Some (get_or xs i d)
slice_get-get_or [] i d h = absurd (omega arith)
slice_get-get_or (x ∷ xs) zero d h = refl
slice_get-get_or (x ∷ xs) (suc i) d h = slice_get-get_or xs i d (omega arith)

pub take-next : {A : Type 0} (xs : List A) (i : ℕ) (x : A) → slice_get xs i ≡ Some x
    → take (i + 1) xs ≡ take i xs ++ x ∷ []
take-next [] i x e = cc
take-next (y ∷ xs) zero x e = let same : y ≡ x = cc in let one : 0 + 1 ≡ 1 = omega arith in
    ap (λ z. z ∷ []) same
take-next (y ∷ xs) (suc i) x e = let next : suc i + 1 ≡ suc (i + 1) = omega arith in
    ap (λ n. take n (y ∷ xs)) next ∙ ap (λ zs. y ∷ zs) (take-next xs i x e)

pub all-there : {A : Type 0} (P : A → Type 0) (xs : List A) (i : ℕ) (d : A) → AllByRecursion P xs
    → i < length xs → P (get_or xs i d)
all-there P [] i d p h = absurd (omega arith)
all-there P (x ∷ xs) zero d p h = p.0
all-there P (x ∷ xs) (suc i) d p h = all-there P xs i d p.1 (omega arith)

pub length-in_twos : (ws : List Word) → length (pairs_of_words ws) ≡ length ws / 2
unfolding pairs_of_words
length-in_twos [] = refl
length-in_twos (x ∷ []) = refl
length-in_twos (x ∷ y ∷ ws) = let e = length-in_twos ws in omega (arith, e)

pub pair-in_twos : (ws : List Word) (i : ℕ) (d : Word) → i < length ws / 2
    → slice_get (pairs_of_words ws) i ≡ Some (get_or ws (2 * i) d, get_or ws (2 * i + 1) d)
pair-in_twos ws i d below =
    pair_here ws i (get_or ws (2 * i) d) (get_or ws (2 * i + 1) d)
    (slice_get-get_or ws (2 * i) d (omega (arith, below)))
    (slice_get-get_or ws (2 * i + 1) d (omega (arith, below)))

-- pairs of words that stand for values keep what they stand for
pub pairs_of-kept : (g h : Heap) → Keeps g h → (names : List (List ℕ)) (ws : List Word)
    → AreValues g ws → map (pair_of (birth_at h) names) (pairs_of_words ws)
    ≡ map (pair_of (birth_at g) names) (pairs_of_words ws)
unfolding pairs_of_words
pairs_of-kept g h keeps names [] all = refl
pairs_of-kept g h keeps names (x ∷ []) all = refl
pairs_of-kept g h keeps names (x ∷ y ∷ ws) all = λ i. (
  value_of-kept g h keeps names x all.0.known i,
  value_of-kept g h keeps names y all.1.0.known i,
) ∷ pairs_of-kept g h keeps names ws all.1.1 i

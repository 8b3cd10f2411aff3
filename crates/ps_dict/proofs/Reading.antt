-- What is read of a dictionary: its fields, and its pairs by their words.
use Rattle.std.proofs.Common.{◌≡◌, ◌≢◌, ℕ, zero, suc, ◌+◌, ◌*◌, ◌<◌, ◌≤◌, true, false, List, [], ◌∷◌, length, map, take, Some, None, refl, sym, ap, ◌∙◌, arith}
use Rattle.std.specs.Prelude.{slice_get}
use Rattle.std.specs.List.{AllPairs}
use Rattle.std.proofs.lemmas.List.{take_all}
use Rattle.ps_language.specs.declared.kinds.Kind.TheVariants.{Dictionary as DictionaryKind}
use Rattle.ps_language.specs.Value.{Store}
use Rattle.ps_language.specs.Access.{dictionary_at}
use Rattle.ps_language.specs.Dictionaries.{find}
use Rattle.ps_word.specs.declared.words.Word.{Word}
use Rattle.ps_mem.specs.Heap.{Heap, birth_at, fields_at}
use Rattle.ps_mem.specs.References.{StandsAs}
use Rattle.ps_mem.specs.Meaning.{value_of}
use Rattle.ps_mem.specs.Shows.{IsValue, IsSound, IsWithin, Shows, pair_of}
use Rattle.ps_mem.proofs.Lists.{all_at, slice_get-map}
use Rattle.ps_dict.specs.Places.{count_at, body_at, pairs_at, place_of, first_place}
use Rattle.ps_dict.specs.Probes.{same_found, same_at}
use Rattle.ps_mem.specs.Index.{pairs_of_words}
use Rattle.ps_dict.proofs.KeyLemmas.{same_keys}
use Rattle.ps_dict.proofs.Pairs.{slice_get_there, slice_get-take, slice_get-past, pair_here, place_found, place_not_yet, place_below, find_at, find_none, place-first, all_with}
use Rattle.ps_dict.proofs.Shapes.{body-room, count-fits, body-values, length-pairs, pairs-values, pairs-within, pairs-shown}

-- of the body of a heap that is the same
pub loaded : (g h : Heap) (a b i : ℕ) (w : Word) → g ≡ h → b ≡ body_at h a
    → slice_get (fields_at g b) i ≡ Some w → slice_get (fields_at h (body_at h a)) i ≡ Some w
loaded g h a b i w same is read = ap (λ c. slice_get (fields_at h c) i) (sym is)
    ∙ (ap (λ (k : Heap). slice_get (fields_at k b) i) (sym same) ∙ read)

module _ (h : Heap) (a : ℕ) (known : StandsAs h DictionaryKind a 4) (sound : IsSound h) (place : ℕ)
    (below : place < count_at h a) where
  pub key-place : 2 * place < length (fields_at h (body_at h a))
  key-place = let room = body-room h a known sound in let fits = count-fits h a known sound in
      omega (arith, room, fits, below)

  pub value-place : 2 * place + 1 < length (fields_at h (body_at h a))
  value-place = let room = body-room h a known sound in let fits = count-fits h a known sound in
      omega (arith, room, fits, below)

  pub pair-read : (k v : Word) → slice_get (fields_at h (body_at h a)) (2 * place) ≡ Some k
      → slice_get (fields_at h (body_at h a)) (2 * place + 1) ≡ Some v
      → slice_get (pairs_at h a) place ≡ Some (k, v)
  unfolding pairs_at
  pair-read k v first second =
      slice_get-take (count_at h a) (pairs_of_words (fields_at h (body_at h a))) place below
      ∙ pair_here (fields_at h (body_at h a)) place k v first second

  module _ (k : Word) (first : slice_get (fields_at h (body_at h a)) (2 * place) ≡ Some k) where
    pub key-value : IsValue h k
    key-value = all_at (IsValue h) (fields_at h (body_at h a)) (2 * place) k
        (body-values h a known sound) first

    pub key-pair : (v : Word) × (slice_get (pairs_at h a) place ≡ Some (k, v))
    key-pair = let (v, second) =
        slice_get_there (fields_at h (body_at h a)) (2 * place + 1) value-place in
        (v, pair-read k v first second)

  -- by its value alone
  pub value-pair : (v : Word) → slice_get (fields_at h (body_at h a)) (2 * place + 1) ≡ Some v
      → (k : Word) × (slice_get (pairs_at h a) place ≡ Some (k, v))
  value-pair v second = let (k, first) =
      slice_get_there (fields_at h (body_at h a)) (2 * place) key-place in
      (k, pair-read k v first second)

  -- by whether it has a key
  module _ (key : Word) (before : place_of (take place (pairs_at h a)) key ≡ None) where
    pair-there : (pair : Word × Word) × (slice_get (pairs_at h a) place ≡ Some pair)
    pair-there = let count = length-pairs h a known sound in
        slice_get_there (pairs_at h a) place (omega (arith, count, below))

    pub place-here : same_at (pairs_at h a) key place ≡ true → place_of (pairs_at h a) key
        ≡ Some place
    place-here same =
        let (pair, there) = pair-there in
        place_found key (pairs_at h a) place pair.0 pair.1 before there
        (sym (ap (λ o. same_found o key) there) ∙ same)

    pub place-past : same_at (pairs_at h a) key place ≡ false
        → place_of (take (place + 1) (pairs_at h a)) key ≡ None
    place-past other =
        let (pair, there) = pair-there in
        let next : place + 1 ≡ suc place = omega arith in
        ap (λ n. place_of (take n (pairs_at h a)) key) next
        ∙ place_not_yet key (pairs_at h a) place pair.0 pair.1 before there
        (sym (ap (λ o. same_found o key) there) ∙ other)

module _ (h : Heap) (a : ℕ) (known : StandsAs h DictionaryKind a 4) (sound : IsSound h) where
  pub position-none : (key : Word) (n : ℕ) → count_at h a ≤ n
      → place_of (take n (pairs_at h a)) key ≡ None → place_of (pairs_at h a) key ≡ None
  position-none key n all none =
      let count = length-pairs h a known sound in
      sym (ap (λ ps. place_of ps key) (take_all n (pairs_at h a) (omega (arith, all, count))))
      ∙ none

  pub position-below : (key : Word) (i : ℕ) → place_of (pairs_at h a) key ≡ Some i
      → i < count_at h a
  position-below key i at = let below = place_below key (pairs_at h a) i at in let count =
      length-pairs h a known sound in omega (arith, below, count)

  pub past-pairs : (i : ℕ) → count_at h a ≤ i → slice_get (pairs_at h a) i ≡ None
  past-pairs i past = let count = length-pairs h a known sound in
      slice_get-past (pairs_at h a) i (omega (arith, past, count))

  module _ (names : List (List ℕ)) (s : Store) (shows : Shows h names s) where
    pub pair-shown : (i : ℕ) (pair : Word × Word) → slice_get (pairs_at h a) i ≡ Some pair
        → slice_get (dictionary_at s (birth_at h a)).pairs i ≡ Some
        (pair_of (birth_at h) names pair)
    pair-shown i pair at =
        ap (λ ps. slice_get ps i) (pairs-shown h a known sound names s shows)
        ∙ slice_get-map (pair_of (birth_at h) names) (pairs_at h a) i pair at

    pub past-shown : (i : ℕ) → slice_get (pairs_at h a) i ≡ None
        → slice_get (dictionary_at s (birth_at h a)).pairs i ≡ None
    past-shown i none = ap (λ ps. slice_get ps i) (pairs-shown h a known sound names s shows)
        ∙ none_map (pairs_at h a) i none
      where
        none_map : (ps : List (Word × Word)) (i : ℕ) → slice_get ps i ≡ None
            → slice_get (map (pair_of (birth_at h) names) ps) i ≡ None
        none_map [] i e = refl
        none_map (p ∷ ps) zero e = cc
        none_map (p ∷ ps) (suc i) e = none_map ps i e

    module _ (key : Word) (held : IsValue h key)
        (distinct : AllPairs (λ first later. first ≢ later) names)
        (within : IsWithin (birth_at h) names s key) where
      pub position-shown : first_place (dictionary_at s (birth_at h a)).pairs
          (value_of (birth_at h) names key) ≡ place_of (pairs_at h a) key
      position-shown =
          ap (λ ps. first_place ps (value_of (birth_at h) names key))
          (pairs-shown h a known sound names s shows)
          ∙ place-first (pair_of (birth_at h) names) key (value_of (birth_at h) names key)
          (pairs_at h a)
          (all_with _ _ _ (λ (pair : Word × Word) values inside. same_keys names distinct h sound s
          pair.0 key values.0 held inside.0 within) (pairs_at h a)
          (pairs-values h a known sound) (pairs-within h a known sound names s shows))

      pub found-shown : (i : ℕ) (pair : Word × Word) → place_of (pairs_at h a) key ≡ Some i
          → slice_get (pairs_at h a) i ≡ Some pair
          → find (dictionary_at s (birth_at h a)).pairs (value_of (birth_at h) names key) ≡ Some
          (value_of (birth_at h) names pair.1)
      found-shown i pair at there =
          find_at (dictionary_at s (birth_at h a)).pairs (value_of (birth_at h) names key) i
          (pair_of (birth_at h) names pair) (position-shown ∙ at) (pair-shown i pair there)

      pub missing-shown : place_of (pairs_at h a) key ≡ None
          → find (dictionary_at s (birth_at h a)).pairs (value_of (birth_at h) names key) ≡ None
      missing-shown none = find_none (dictionary_at s (birth_at h a)).pairs
          (value_of (birth_at h) names key) (position-shown ∙ none)

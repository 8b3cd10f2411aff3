-- Pairs put in order by their words: what they stand for, and the places of keys among them.
use Rattle.std.proofs.Common.{◌≡◌, ◌≢◌, ℕ, zero, suc, ◌+◌, ◌*◌, ◌<◌, ◌≤◌, true, false, List, [], ◌∷◌, ◌++◌, length, map, take, ◌^◌, length-append, Option, Some, None, refl, sym, ap, ◌∙◌, arith}
use Rattle.std.specs.Prelude.{option_map, slice_get, slice_set}
use Rattle.ps_dict.proofs.Fresh.{take-next}
use Rattle.std.specs.List.{AllByRecursion, AllPairs}
use Rattle.std.proofs.lemmas.List.{map-append, length-take}
use Rattle.ps_language.specs.declared.kinds.Kind.TheVariants.{Dictionary as DictionaryKind}
use Rattle.ps_mem.specs.References.{StandsAs}
use Rattle.ps_language.specs.Value.{Store}
use Rattle.ps_language.specs.Equality.{same_key}
use Rattle.ps_language.specs.Dictionaries.{put_pair, put_pairs}
use Rattle.ps_word.specs.declared.words.Word.{Word}
use Rattle.ps_mem.specs.Heap.{Heap, birth_at}
use Rattle.ps_mem.specs.Meaning.{value_of}
use Rattle.ps_mem.specs.Shows.{IsValue, IsSound, IsWithin, words_of_pairs, pair_of}
use Rattle.ps_mem.proofs.Lists.{all_append, all_take}
use Rattle.ps_dict.specs.Keys.{same_words, IsKey}
use Rattle.ps_dict.specs.Places.{count_at, pairs_at, place_of, first_place}
use Rattle.ps_dict.specs.Puts.{with_value}
use Rattle.ps_dict.specs.Merges.{put_at, put_words, merged}
use Rattle.ps_dict.proofs.KeyLemmas.{same_keys}
use Rattle.ps_dict.proofs.Pairs.{all_words, place-first, length-words_of_pairs}
use Rattle.ps_dict.proofs.Shapes.{count-fits, length-pairs, pairs-values}
use Rattle.ps_dict.proofs.Probing.{few-places}
use Rattle.ps_dict.proofs.WordRuns.{put-present, put-absent, map-with_value, length-with_value}
use Rattle.ps_dict.proofs.Entering.{place-with_value}

-- ---- what holds of pairs stays so

module _ (P : Word → Type 0) where
  abbrev Both : Word × Word → Type 0
  Both pair = P pair.0 × P pair.1

  all-value : (pairs : List (Word × Word)) (i : ℕ) (v : Word) → AllByRecursion Both pairs → P v
      → AllByRecursion Both (with_value pairs i v)
  unfolding with_value
  all-value [] i v all p = tt
  all-value (pair ∷ pairs) zero v all p = ((all.0.0, p), all.1)
  all-value (pair ∷ pairs) (suc i) v all p = (all.0, all-value pairs i v all.1 p)

  all-put : (o : Option ℕ) (pairs : List (Word × Word)) (pair : Word × Word)
      → AllByRecursion Both pairs → Both pair → AllByRecursion Both (put_at o pairs pair)
  all-put (Some i) pairs pair all p = all-value pairs i pair.1 all p.1
  all-put None pairs pair all p = all_append Both pairs (pair ∷ []) all (p, tt)

  pub all-merged : (pairs more : List (Word × Word)) → AllByRecursion Both pairs
      → AllByRecursion Both more → AllByRecursion Both (merged pairs more)
  unfolding put_words
  all-merged pairs [] all also = all
  all-merged pairs (pair ∷ more) all also =
      all-merged (put_words pairs pair) more
      (all-put (place_of pairs pair.0) pairs pair all also.0) also.1

-- ---- what they stand for

module _ (h : Heap) (sound : IsSound h) (names : List (List ℕ)) (s : Store)
    (distinct : AllPairs (λ first later. first ≢ later) names) where
  abbrev Held : Word → Type 0
  Held w = IsValue h w × IsWithin (birth_at h) names s w

  abbrev pub AreHeld : List (Word × Word) → Type 0
  AreHeld pairs = AllByRecursion (λ (pair : Word × Word). Held pair.0 × Held pair.1) pairs

  same-as : (key : Word) → Held key → (pairs : List (Word × Word)) → AreHeld pairs
      → AllByRecursion (λ (pair : Word × Word).
      same_key (value_of (birth_at h) names pair.0) (value_of (birth_at h) names key) ≡ same_words
      pair.0 key) pairs
  same-as key held [] all = tt
  same-as key held (pair ∷ pairs) all = (
    same_keys names distinct h sound s pair.0 key all.0.0.0 held.0 all.0.0.1 held.1,
    same-as key held pairs all.1,
  )

  at-place : (o : Option ℕ) (pairs : List (Word × Word)) (pair : Word × Word)
      → first_place (map (pair_of (birth_at h) names) pairs) (value_of (birth_at h) names pair.0)
      ≡ o
      → map (pair_of (birth_at h) names) (put_at o pairs pair) ≡ put_pair
      (map (pair_of (birth_at h) names) pairs) (pair_of (birth_at h) names pair)
  at-place (Some i) pairs pair at =
      map-with_value (birth_at h) names pairs i pair.1
      ∙ sym (put-present (map (pair_of (birth_at h) names) pairs)
      (value_of (birth_at h) names pair.0) (value_of (birth_at h) names pair.1) i at)
  at-place None pairs pair at =
      map-append (pair_of (birth_at h) names) pairs (pair ∷ [])
      ∙ sym (put-absent (map (pair_of (birth_at h) names) pairs)
      (value_of (birth_at h) names pair.0) (value_of (birth_at h) names pair.1) at)

  put-shown : (pairs : List (Word × Word)) (pair : Word × Word) → AreHeld pairs → Held pair.0
      → map (pair_of (birth_at h) names) (put_words pairs pair) ≡ put_pair
      (map (pair_of (birth_at h) names) pairs) (pair_of (birth_at h) names pair)
  unfolding put_words
  put-shown pairs pair all held =
      at-place (place_of pairs pair.0) pairs pair
      (place-first (pair_of (birth_at h) names) pair.0 (value_of (birth_at h) names pair.0) pairs
      (same-as pair.0 held pairs all))

  pub merged-shown : (pairs more : List (Word × Word)) → AreHeld pairs → AreHeld more
      → map (pair_of (birth_at h) names) (merged pairs more) ≡ put_pairs
      (map (pair_of (birth_at h) names) pairs) (map (pair_of (birth_at h) names) more)
  unfolding put_words
  merged-shown pairs [] all also = refl
  merged-shown pairs (pair ∷ more) all also =
      merged-shown (put_words pairs pair) more
      (all-put Held (place_of pairs pair.0) pairs pair all also.0) also.1
      ∙ ap (λ ps. put_pairs ps (map (pair_of (birth_at h) names) more))
      (put-shown pairs pair all also.0.0)

-- ---- the places of keys among them

module _ (key : Word) where
  place-there : (pairs more : List (Word × Word)) (i : ℕ) → place_of pairs key ≡ Some i
      → place_of (pairs ++ more) key ≡ Some i
  unfolding place_of
  place-there [] more i at = cc
  place-there (pair ∷ pairs) more i at =
      elim (same_words pair.0 key) as
      (λ b. same_words pair.0 key ≡ b → place_of ((pair ∷ pairs) ++ more) key ≡ Some i) [
        | true ↦ λ e. let here : Some 0 ≡ Some i = rw e at at in rw e here
        | false ↦ λ e.
            let next : option_map suc (place_of pairs key) ≡ Some i = rw e at at in
            elim (place_of pairs key) as
            (λ o. place_of pairs key ≡ o → option_map suc o ≡ Some i
            → place_of ((pair ∷ pairs) ++ more) key ≡ Some i) [
              | None ↦ λ is h. cc
              | Some j ↦ λ is h. rw e (ap (option_map suc) (place-there pairs more j is) ∙ h)
            ] refl next
      ] refl

  none_before : (o : Option ℕ) → option_map suc o ≡ None → o ≡ None
  none_before None h = refl
  none_before (Some n) h = cc

  -- the pairs behind a first one that isn't the key's
  other_first : (pair : Word × Word) (pairs : List (Word × Word))
      → place_of (pair ∷ pairs) key ≡ None → (same_words pair.0 key ≡ false)
      × (place_of pairs key ≡ None)
  unfolding place_of
  other_first pair pairs none =
      elim (same_words pair.0 key) as
      (λ b. same_words pair.0 key ≡ b → (same_words pair.0 key ≡ false)
      × (place_of pairs key ≡ None)) [
        | true ↦ λ e. let clash : Some 0 ≡ None = rw e at none in cc
        | false ↦ λ e.
            let next : option_map suc (place_of pairs key) ≡ None = rw e at none in
            (e, none_before (place_of pairs key) next)
      ] refl

  place-last : (pairs : List (Word × Word)) (pair : Word × Word) → place_of pairs key ≡ None
      → same_words pair.0 key ≡ false → place_of (pairs ++ pair ∷ []) key ≡ None
  unfolding place_of
  place-last [] pair none other = rw other refl
  place-last (first ∷ pairs) pair none other =
      let both = other_first first pairs none in
      let rest = place-last pairs pair both.1 other in
      rw both.0 (ap (option_map suc) rest)

  there-put : (o : Option ℕ) (pairs : List (Word × Word)) (pair : Word × Word) (i : ℕ)
      → place_of pairs key ≡ Some i → place_of (put_at o pairs pair) key ≡ Some i
  there-put (Some j) pairs pair i at = place-with_value pairs j pair.1 key ∙ at
  there-put None pairs pair i at = place-there pairs (pair ∷ []) i at

  none-put : (o : Option ℕ) (pairs : List (Word × Word)) (pair : Word × Word)
      → place_of pairs key ≡ None → same_words pair.0 key ≡ false
      → place_of (put_at o pairs pair) key ≡ None
  none-put (Some j) pairs pair none other = place-with_value pairs j pair.1 key ∙ none
  none-put None pairs pair none other = place-last pairs pair none other

  -- a key of the first pairs keeps its place
  pub place-kept : (pairs more : List (Word × Word)) (i : ℕ) → place_of pairs key ≡ Some i
      → place_of (merged pairs more) key ≡ Some i
  unfolding put_words
  place-kept pairs [] i at = at
  place-kept pairs (pair ∷ more) i at =
      place-kept (put_words pairs pair) more i
      (there-put (place_of pairs pair.0) pairs pair i at)

  -- a key of neither isn't there
  pub place-neither : (pairs more : List (Word × Word)) → place_of pairs key ≡ None
      → place_of more key ≡ None → place_of (merged pairs more) key ≡ None
  unfolding put_words
  place-neither pairs [] none also = none
  place-neither pairs (pair ∷ more) none also =
      let both = other_first pair more also in
      place-neither (put_words pairs pair) more
      (none-put (place_of pairs pair.0) pairs pair none both.0) both.1

  -- a key that comes first at a place, or not at all, isn't before it
  pub none-earlier : (pairs : List (Word × Word)) (i j : ℕ) → place_of pairs key ≡ Some j → i ≤ j
      → place_of (take i pairs) key ≡ None
  unfolding place_of
  none-earlier pairs zero j at before = refl
  none-earlier [] (suc i) j at before = refl
  none-earlier (pair ∷ pairs) (suc i) j at before =
      elim (same_words pair.0 key) as
      (λ b. same_words pair.0 key ≡ b → place_of (take (suc i) (pair ∷ pairs)) key ≡ None) [
        | true ↦ λ e.
            let here : Some 0 ≡ Some j = rw e at at in
            let is : 0 ≡ j = cc in absurd (omega (arith, is, before))
        | false ↦ λ e.
            let next : option_map suc (place_of pairs key) ≡ Some j = rw e at at in
            elim (place_of pairs key) as
            (λ o. place_of pairs key ≡ o → option_map suc o ≡ Some j
            → place_of (take (suc i) (pair ∷ pairs)) key ≡ None) [
              | None ↦ λ is h. cc
              | Some n ↦ λ is h.
                  let one : suc n ≡ j = cc in
                  rw e (ap (option_map suc)
                  (none-earlier pairs i n is (omega (arith, one, before))))
            ] refl next
      ] refl

  pub none-anywhere : (pairs : List (Word × Word)) (i : ℕ) → place_of pairs key ≡ None
      → place_of (take i pairs) key ≡ None
  unfolding place_of
  none-anywhere pairs zero none = refl
  none-anywhere [] (suc i) none = refl
  none-anywhere (pair ∷ pairs) (suc i) none =
      let both = other_first pair pairs none in
      let rest = none-anywhere pairs i both.1 in
      rw both.0 (ap (option_map suc) rest)

-- ---- the words of pairs with another value

pub set-value : (pairs : List (Word × Word)) (i : ℕ) (v : Word)
    → slice_set (words_of_pairs pairs) (2 * i + 1) v ≡ words_of_pairs (with_value pairs i v)
unfolding with_value
set-value [] i v = refl
set-value (pair ∷ pairs) zero v = refl
set-value (pair ∷ pairs) (suc i) v =
    ap (λ n. slice_set (words_of_pairs (pair ∷ pairs)) n v)
    (let e : 2 * suc i + 1 ≡ suc (suc (2 * i + 1)) = omega arith in e)
    ∙ ap (λ ws. pair.0 ∷ pair.1 ∷ ws) (set-value pairs i v)

-- ---- how many there are

length-put : (o : Option ℕ) (pairs : List (Word × Word)) (pair : Word × Word)
    → length (put_at o pairs pair) ≤ length pairs + 1
length-put (Some i) pairs pair = let n = length-with_value pairs i pair.1 in omega (arith, n)
length-put None pairs pair = let n = length-append pairs (pair ∷ []) in omega (arith, n)

pub length-merged : (pairs more : List (Word × Word)) → length (merged pairs more) ≤ length pairs
    + length more
unfolding put_words
length-merged pairs [] = omega arith
length-merged pairs (pair ∷ more) =
    let one = length-put (place_of pairs pair.0) pairs pair in
    let rest = length-merged (put_words pairs pair) more in
    omega (arith, one, rest)

-- ---- of two dictionaries

keys-of : (h : Heap) (ws : List Word) → AllByRecursion (IsValue h) ws → AllByRecursion IsKey ws
keys-of h [] all = tt
keys-of h (w ∷ ws) all =
    (record { word = all.0.word; visible = all.0.visible }, keys-of h ws all.1)

module _ (h : Heap) (sound : IsSound h) (to from : ℕ) (target : StandsAs h DictionaryKind to 4)
    (source : StandsAs h DictionaryKind from 4) (i : ℕ) where
  abbrev so_far : List (Word × Word)
  so_far = merged (pairs_at h to) (take i (pairs_at h from))

  pub merged-held : AllByRecursion (IsValue h) (words_of_pairs so_far)
  merged-held = all_words (IsValue h) so_far
      (all-merged (IsValue h) (pairs_at h to) (take i (pairs_at h from))
      (pairs-values h to target sound)
      (all_take _ i (pairs_at h from) (pairs-values h from source sound)))

  pub merged-keys : AllByRecursion IsKey (words_of_pairs so_far)
  merged-keys = keys-of h (words_of_pairs so_far) merged-held

  pub merged-few : length (words_of_pairs so_far) < 2 ^ 31
  merged-few =
      let long = length-words_of_pairs so_far in
      let both = length-merged (pairs_at h to) (take i (pairs_at h from)) in
      let some = length-take i (pairs_at h from) in
      let one = length-pairs h to target sound in
      let two = length-pairs h from source sound in
      let fits = count-fits h to target sound in
      let also = count-fits h from source sound in
      let few = few-places h to target sound in
      let few' = few-places h from source sound in
      omega (arith, long, both, some, one, two, fits, also, few, few')

  -- two words for each pair of the target, and for each pair that was put in
  pub merged-long : length (words_of_pairs so_far) ≤ 2 * (count_at h to + i)
  merged-long =
      let long = length-words_of_pairs so_far in
      let both = length-merged (pairs_at h to) (take i (pairs_at h from)) in
      let some = length-take i (pairs_at h from) in
      let one = length-pairs h to target sound in
      omega (arith, long, both, some, one)

-- ---- a pair more

pub merged-more : (pairs more : List (Word × Word)) (pair : Word × Word)
    → merged pairs (more ++ pair ∷ []) ≡ put_words (merged pairs more) pair
unfolding put_words
merged-more pairs [] pair = refl
merged-more pairs (first ∷ more) pair = merged-more (put_words pairs first) more pair

pub merged-next : (pairs more : List (Word × Word)) (i : ℕ) (pair : Word × Word)
    → slice_get more i ≡ Some pair
    → merged pairs (take (i + 1) more) ≡ put_words (merged pairs (take i more)) pair
merged-next pairs more i pair at = ap (merged pairs) (take-next more i pair at)
    ∙ merged-more pairs (take i more) pair

pub put-at : (pairs : List (Word × Word)) (pair : Word × Word) (o : Option ℕ)
    → place_of pairs pair.0 ≡ o → put_words pairs pair ≡ put_at o pairs pair
unfolding put_words
put-at pairs pair o at = ap (λ x. put_at x pairs pair) at

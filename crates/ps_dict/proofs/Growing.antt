-- A dictionary's pairs and one more: what they are, and a new body as it is filled with them.
use Rattle.std.proofs.Common.{◌≡◌, ℕ, ◌+◌, ◌*◌, ◌-◌, ◌<◌, ◌≤◌, List, [], ◌∷◌, ◌++◌, length, map, take, drop, replicate, None, refl, sym, ap, ◌∙◌, arith, subst, length-append}
use Rattle.std.specs.List.{AllByRecursion}
use Rattle.std.proofs.lemmas.List.{length-replicate, map-append, append_assoc}
use Rattle.ps_language.specs.declared.kinds.Kind.TheVariants.{Dictionary as DictionaryKind, Body as BodyKind}
use Rattle.ps_language.specs.Value.{Value, Store}
use Rattle.ps_language.specs.Access.{splice, dictionary_at}
use Rattle.ps_word.specs.declared.words.Word.{Word}
use Rattle.ps_mem.specs.Heap.{Heap, object_at, birth_at, fields_of, fields_at, stored, made_body, zero_word, IsKind}
use Rattle.ps_mem.specs.Index.{pairs_of_words, index_words}
use Rattle.ps_mem.specs.Keeps.{Keeps}
use Rattle.ps_mem.specs.References.{StandsAs}
use Rattle.ps_mem.specs.Meaning.{value_of}
use Rattle.ps_mem.specs.Shows.{IsValue, AreValues, IsSound, IsWithin, AreWithin, words_of_pairs, pair_of, Shows}
use Rattle.ps_mem.proofs.Lists.{length-splice, all_append, all_splice}
use Rattle.ps_mem.proofs.KeepsLemmas.{Keeps-Extends, AreValues-kept, index_words-kept}
use Rattle.ps_mem.proofs.NewShows.{NewObject, NewObject-filled}
use Rattle.ps_mem.proofs.ZeroLemmas.{AreValues-zeros}
use Rattle.ps_dict.specs.Bodies.{whole_body, with_body}
use Rattle.ps_dict.specs.Places.{count_at, body_at, pairs_at}
use Rattle.ps_dict.proofs.Indexing.{index-behind, length-index_words, stored_over}
use Rattle.ps_dict.proofs.Making.{more-zeros, front-zeros}
use Rattle.ps_dict.proofs.NewBodies.{blank, over, known_keys}
use Rattle.ps_dict.proofs.Pairs.{all_words, drop-front, length-words_of_pairs, pairs-of_words_of_pairs, take-front_all, words-append}
use Rattle.ps_dict.proofs.Shapes.{length-pairs, pair-words, pairs-values, pairs-within, pairs-shown}

-- a body whose index is free everywhere
pub record HasFreeIndex (k : Heap) (b c : ℕ) : Type 0 where
  pub stands : IsKind BodyKind (object_at k b)
  pub fields : length (fields_at k b) ≡ 3 * c
  pub values : AreValues k (fields_at k b)
  pub free : drop (2 * c) (fields_at k b) ≡ replicate c zero_word

module _ (h : Heap) (a : ℕ) (known : StandsAs h DictionaryKind a 4) (sound : IsSound h)
    (k v : Word) where
  abbrev pub more_pairs : List (Word × Word)
  more_pairs = pairs_at h a ++ (k, v) ∷ []

  pub length-more : length more_pairs ≡ count_at h a + 1
  length-more = length-append (pairs_at h a) ((k, v) ∷ [])
      ∙ ap (λ n. n + 1) (length-pairs h a known sound)

  more-words : (P : Word → Type 0) → AllByRecursion P (words_of_pairs (pairs_at h a)) → P k → P v
      → AllByRecursion P (words_of_pairs more_pairs)
  more-words P all first second =
      subst (AllByRecursion P) (sym (words-append (pairs_at h a) ((k, v) ∷ [])))
      (all_append P (words_of_pairs (pairs_at h a)) (k ∷ v ∷ []) all (first, (second, tt)))

  pub more-values : IsValue h k → IsValue h v → AreValues h (words_of_pairs more_pairs)
  more-values = more-words (IsValue h)
      (all_words (IsValue h) (pairs_at h a) (pairs-values h a known sound))

  module _ (names : List (List ℕ)) (s : Store) (shows : Shows h names s) where
    pub more-within : IsWithin (birth_at h) names s k → IsWithin (birth_at h) names s v
        → AreWithin h names s (words_of_pairs more_pairs)
    more-within = more-words (IsWithin (birth_at h) names s)
        (all_words (IsWithin (birth_at h) names s) (pairs_at h a)
        (pairs-within h a known sound names s shows))

    pub more-shown : map (pair_of (birth_at h) names) more_pairs ≡
        (dictionary_at s (birth_at h a)).pairs
        ++ (value_of (birth_at h) names k, value_of (birth_at h) names v) ∷ []
    more-shown =
        map-append (pair_of (birth_at h) names) (pairs_at h a) ((k, v) ∷ [])
        ∙ ap (λ (ps : List (Value × Value)). ps
        ++ (value_of (birth_at h) names k, value_of (birth_at h) names v) ∷ [])
        (sym (pairs-shown h a known sound names s shows))

  -- ---- a new body with them, before its index is filled in

  module _ (b : ℕ) (free : object_at h b ≡ None) (c : ℕ) (room : count_at h a < c)
      (few : c ≤ 21845) (key : IsValue h k) (value : IsValue h v) where
    abbrev pub items : List Word
    items = take (2 * count_at h a) (fields_at h (body_at h a)) ++ k ∷ v ∷ []

    abbrev pub paired : Heap
    paired = stored (made_body h b (birth_at h a) (3 * c)) b 0 items

    abbrev paired_words : List Word
    paired_words = splice (replicate (3 * c) zero_word) 0 items

    abbrev rest : ℕ
    rest = 2 * (c - length more_pairs)

    abbrev index : List Word
    index = index_words (birth_at h) c more_pairs

    pub more-room : length more_pairs ≤ c
    more-room = let n = length-more in omega (arith, n, room)

    items-are : items ≡ words_of_pairs more_pairs
    items-are = ap (λ ws. ws ++ k ∷ v ∷ []) (pair-words h a known sound)
        ∙ sym (words-append (pairs_at h a) ((k, v) ∷ []))

    length-items : length items ≡ 2 * length more_pairs
    length-items = ap length items-are ∙ length-words_of_pairs more_pairs

    paired-are : paired_words ≡ words_of_pairs more_pairs
        ++ (replicate rest zero_word ++ replicate c zero_word)
    paired-are =
        let long = length-items in
        let fits = more-room in
        front-zeros items (3 * c) (rest + c) (omega (arith, long, fits))
        ∙ (ap (λ ws. items ++ ws) (more-zeros rest c)
        ∙ ap (λ ws. ws ++ (replicate rest zero_word ++ replicate c zero_word)) items-are)

    paired-count : length paired_words ≡ 3 * c
    paired-count =
        let long = length-items in
        let fits = more-room in
        let all = length-replicate (3 * c) zero_word in
        length-splice (replicate (3 * c) zero_word) 0 items (omega (arith, long, fits, all)) ∙ all

    paired-values : AreValues h paired_words
    paired-values = all_splice (IsValue h) (replicate (3 * c) zero_word) 0 items
        (AreValues-zeros h (3 * c))
        (subst (AreValues h) (sym items-are) (more-values key value))

    paired-new : NewObject h paired b
        (record { kind = BodyKind; birth = birth_at h a; fields = paired_words })
    paired-new = NewObject-filled h (made_body h b (birth_at h a) (3 * c)) b _ 0 items
        (blank h a known sound b free c few more_pairs more-room (more-values key value))

    paired-keeps : Keeps h paired
    paired-keeps = Keeps-Extends h paired paired-new.extends

    paired-stands : IsKind BodyKind (object_at paired b)
    paired-stands = subst (IsKind BodyKind) (sym paired-new.at) refl

    paired-fields : fields_at paired b ≡ paired_words
    unfolding fields_at
    paired-fields = ap fields_of paired-new.at

    paired-long : length (fields_at paired b) ≡ 3 * c
    paired-long = ap length paired-fields ∙ paired-count

    paired-known : AreValues paired (fields_at paired b)
    paired-known = subst (AreValues paired) (sym paired-fields)
        (AreValues-kept h paired paired-keeps paired_words paired-values)

    front-long : length (words_of_pairs more_pairs ++ replicate rest zero_word) ≡ 2 * c
    front-long =
        let front = length-words_of_pairs more_pairs in
        let nulls : length (replicate rest zero_word) ≡ rest = length-replicate rest zero_word in
        let whole = length-append (words_of_pairs more_pairs) (replicate rest zero_word) in
        let fits = more-room in
        omega (arith, front, nulls, whole, fits)

    paired-blank : drop (2 * c) (fields_at paired b) ≡ replicate c zero_word
    paired-blank =
        let front : List Word = words_of_pairs more_pairs ++ replicate rest zero_word in
        ap (drop (2 * c)) (paired-fields ∙ (paired-are
        ∙ sym (append_assoc (words_of_pairs more_pairs) (replicate rest zero_word)
        (replicate c zero_word))))
        ∙ (ap (λ m. drop m (front ++ replicate c zero_word)) (sym front-long)
        ∙ drop-front front (replicate c zero_word))

    pub paired-free : HasFreeIndex paired b c
    paired-free = record {
      stands = paired-stands;
      fields = paired-long;
      values = paired-known;
      free = paired-blank;
    }

    paired-pairs : take (count_at h a + 1) (pairs_of_words (fields_at paired b)) ≡ more_pairs
    paired-pairs =
        let behind : List Word = replicate rest zero_word ++ replicate c zero_word in
        ap (λ ws. take (count_at h a + 1) (pairs_of_words ws)) (paired-fields ∙ paired-are)
        ∙ (ap (take (count_at h a + 1)) (pairs-of_words_of_pairs more_pairs behind)
        ∙ (ap (λ n. take n (more_pairs ++ pairs_of_words behind)) (sym length-more)
        ∙ take-front_all more_pairs (pairs_of_words behind)))

    pub paired-index : index_words (birth_at paired) c
        (take (count_at h a + 1) (pairs_of_words (fields_at paired b))) ≡ index
    paired-index = ap (index_words (birth_at paired) c) paired-pairs
        ∙ index_words-kept h paired paired-keeps c more_pairs
        (known_keys h a known sound b free c few more_pairs more-room (more-values key value))

    -- ---- and with it

    indexed-are : splice paired_words (2 * c) index ≡ whole_body (birth_at h) c more_pairs
    indexed-are =
        let front = length-words_of_pairs more_pairs in
        let fits = more-room in
        ap (λ ws. splice ws (2 * c) index) paired-are
        ∙ (ap (λ m. splice (words_of_pairs more_pairs
        ++ (replicate rest zero_word ++ replicate c zero_word)) m index)
        (let e : 2 * c ≡ length (words_of_pairs more_pairs) + rest =
        omega (arith, front, fits) in e)
        ∙ index-behind (words_of_pairs more_pairs) rest (replicate c zero_word) index
        (length-index_words (birth_at h) c more_pairs more-room
        ∙ sym (length-replicate c zero_word)))

    pub indexed-whole : stored paired b (2 * c) index ≡ with_body h a b c more_pairs
    indexed-whole =
        let held = more-values key value in
        let made = blank h a known sound b free c few more_pairs more-room held in
        stored_over (made_body h b (birth_at h a) (3 * c)) b 0 items (2 * c) index
        (whole_body (birth_at h) c more_pairs) _ made.at
        (indexed-are ∙ sym (over h a known sound b free c few more_pairs more-room held))

-- A dictionary in which a key has another value.
use Rattle.std.proofs.Common.{◌≡◌, ◌≢◌, ℕ, zero, suc, ◌+◌, ◌-◌, ◌*◌, ◌<◌, ◌≤◌, List, [], ◌∷◌, ◌++◌, length, map, take, drop, replicate, Some, refl, sym, ap, ◌∙◌, arith, subst}
use Rattle.ps_language.specs.declared.kinds.Kind.TheVariants.{Dictionary as DictionaryKind, Body as BodyKind}
use Rattle.ps_language.specs.Value.{Store}
use Rattle.ps_language.specs.Access.{splice, dictionary_at, with_dictionary}
use Rattle.ps_word.specs.declared.words.Word.{Word}
use Rattle.ps_mem.specs.Heap.{Heap, object_at, birth_at, fields_of, fields_at, stored, zero_word}
use Rattle.ps_mem.specs.Index.{pairs_of_words, hash_of, hashes_of, index_of, index_word, index_words}
use Rattle.ps_mem.specs.Keeps.{Keeps}
use Rattle.ps_mem.specs.References.{StandsAs}
use Rattle.ps_mem.specs.Meaning.{value_of}
use Rattle.ps_mem.specs.Shows.{IsNatural, IsValue, AreValues, IsSound, IsWithin, words_of_pairs, Shows}
use Rattle.ps_mem.proofs.Lists.{all_splice, length-splice, drop-splice}
use Rattle.ps_mem.proofs.HeapLemmas.{object_at-stored_same, object_at-stored_other, birth_at-stored, rest-stored}
use Rattle.ps_mem.proofs.ShowsLemmas.{known_fields}
use Rattle.ps_dict.specs.Places.{natural_in, body_in, count_at, capacity_at, body_at, pairs_at}
use Rattle.ps_dict.proofs.Pairs.{pairs-of_words_of_pairs, take-front_all}
use Rattle.ps_dict.proofs.Shapes.{shape, fields-dictionary, dictionary_is_no_text, count-is, body-stands, body-room, body-values, body-within, count-fits, length-pairs, indexed-is, shown, pairs-shown, holds-shown}
use Rattle.ps_dict.specs.Puts.{with_value}
use Rattle.ps_dict.proofs.Reading.{value-place}
use Rattle.ps_dict.proofs.WordRuns.{splice-value, length-with_value, map-with_value}
use Rattle.ps_dict.proofs.Changing.{apart-body, fields-stored_other}
use Rattle.ps_dict.proofs.Appending.{front-words}
use Rattle.ps_dict.proofs.Rewriting.{rewritten-keeps, rewritten-sound, rewritten-shows}

hashes-with_value : (births : ℕ → ℕ) (pairs : List (Word × Word)) (i : ℕ) (v : Word)
    → hashes_of births (with_value pairs i v) ≡ hashes_of births pairs
unfolding with_value
hashes-with_value births [] i v = refl
hashes-with_value births (pair ∷ pairs) zero v = refl
hashes-with_value births (pair ∷ pairs) (suc i) v =
    ap (λ zs. hash_of births pair.0 ∷ zs) (hashes-with_value births pairs i v)

index-with_value : (births : ℕ → ℕ) (capacity : ℕ) (pairs : List (Word × Word)) (i : ℕ) (v : Word)
    → index_words births capacity pairs ≡ index_words births capacity (with_value pairs i v)
unfolding index_words
index-with_value births capacity pairs i v =
    ap (λ hashes. map index_word (index_of capacity hashes))
    (sym (hashes-with_value births pairs i v))

module _ (h : Heap) (a : ℕ) (known : StandsAs h DictionaryKind a 4) (sound : IsSound h) (i : ℕ)
    (below : i < count_at h a) (v : Word) (held : IsValue h v) where
  abbrev pub after_value : Heap
  after_value = stored h (body_at h a) (2 * i + 1) (v ∷ [])

  abbrev others_pairs : List (Word × Word)
  others_pairs = with_value (pairs_at h a) i v

  abbrev body_words : List Word
  body_words = fields_at h (body_at h a)

  pub value-fits : 2 * i + 1 + 1 ≤ length (fields_at h (body_at h a))
  value-fits = let p = value-place h a known sound i below in omega (arith, p)

  length-others : length others_pairs ≡ count_at h a
  length-others = length-with_value (pairs_at h a) i v ∙ length-pairs h a known sound

  value-apart : a ≢ body_at h a
  value-apart = apart-body h a known sound

  value-at : object_at after_value a ≡ Some (record known.object { fields = known.object.fields })
  value-at = object_at-stored_other h (body_at h a) (2 * i + 1) (v ∷ []) a
      (λ e. value-apart (sym e)) ∙ known.at

  value-body : object_at after_value (body_at h a) ≡ Some
      (record {
        kind = BodyKind;
        birth = birth_at h a;
        fields =
            splice body_words (2 * i + 1) (v ∷ []);
      })
  value-body = object_at-stored_same h (body_at h a) (2 * i + 1) (v ∷ [])
      (record { kind = BodyKind; birth = birth_at h a; fields = body_words })
      (body-stands h a known sound)

  value-fields : known.object.fields ≡ (shape h a known sound).count_word
      ∷ (shape h a known sound).capacity_word ∷ (shape h a known sound).access_word
      ∷ (shape h a known sound).body_word ∷ []
  value-fields = sym (fields-dictionary h a known) ∙ (shape h a known sound).are

  value-count : IsNatural (shape h a known sound).count_word (length others_pairs)
  value-count = subst (IsNatural (shape h a known sound).count_word)
      (sym (count-is h a known sound) ∙ sym length-others) (shape h a known sound).count_is

  value-room : length others_pairs ≤ capacity_at h a
  value-room = let e = length-others in let f = count-fits h a known sound in omega (arith, e, f)

  value-words : (rest : List Word) → body_words ≡ words_of_pairs (pairs_at h a) ++ rest
      → splice body_words (2 * i + 1) (v ∷ []) ≡ words_of_pairs others_pairs ++ rest
  value-words rest e =
      ap (λ xs. splice xs (2 * i + 1) (v ∷ [])) e
      ∙ splice-value (pairs_at h a) i v rest
      (let n = length-pairs h a known sound in omega (arith, n, below))

  value-front : body_words ≡ words_of_pairs (pairs_at h a) ++ drop (2 * count_at h a) body_words
  unfolding pairs_at
  value-front = front-words (count_at h a) body_words
      (let e = body-room h a known sound in let f = count-fits h a known sound in
      omega (arith, e, f))

  value-pairs : take (length others_pairs) (pairs_of_words (splice body_words (2 * i + 1) (v ∷ [])))
      ≡ others_pairs
  value-pairs =
      ap (λ xs. take (length others_pairs) (pairs_of_words xs))
      (value-words (drop (2 * count_at h a) body_words) value-front)
      ∙ (ap (take (length others_pairs))
      (pairs-of_words_of_pairs others_pairs (drop (2 * count_at h a) body_words))
      ∙ take-front_all others_pairs (pairs_of_words (drop (2 * count_at h a) body_words)))

  value-index : drop (2 * capacity_at h a) (splice body_words (2 * i + 1) (v ∷ [])) ≡ index_words
      (birth_at h) (capacity_at h a) others_pairs
  value-index =
      drop-splice (2 * capacity_at h a) body_words (2 * i + 1) (v ∷ [])
      (let f = count-fits h a known sound in omega (arith, f, below)) value-fits
      ∙ (indexed-is h a known sound
      ∙ index-with_value (birth_at h) (capacity_at h a) (pairs_at h a) i v)

  value-values : AreValues h (splice body_words (2 * i + 1) (v ∷ []))
  value-values = all_splice (IsValue h) body_words (2 * i + 1) (v ∷ [])
      (body-values h a known sound) (held, tt)

  value-others : (c : ℕ) → a ≢ c → body_at h a ≢ c → object_at after_value c ≡ object_at h c
  value-others c ne ne' = object_at-stored_other h (body_at h a) (2 * i + 1) (v ∷ []) c ne'

  value_fields : fields_at after_value a ≡ fields_at h a
  value_fields = fields-stored_other h (body_at h a) (2 * i + 1) (v ∷ []) a
      (λ e. value-apart (sym e))

  pub value-count_at : count_at after_value a ≡ count_at h a
  value-count_at = ap (λ xs. natural_in xs 0) value_fields

  pub value-capacity_at : capacity_at after_value a ≡ capacity_at h a
  value-capacity_at = ap (λ xs. natural_in xs 1) value_fields

  pub value-body_at : body_at after_value a ≡ body_at h a
  value-body_at = ap (λ xs. body_in xs 3) value_fields

  value-body_fields : fields_at after_value (body_at h a) ≡ splice body_words (2 * i + 1) (v ∷ [])
  unfolding fields_at
  value-body_fields = ap fields_of value-body

  pub value-pairs_at : pairs_at after_value a ≡ others_pairs
  unfolding pairs_at
  value-pairs_at =
      ap (λ n. take n (pairs_of_words (fields_at after_value (body_at after_value a))))
      value-count_at
      ∙ (ap (λ b. take (count_at h a) (pairs_of_words (fields_at after_value b))) value-body_at
      ∙ (ap (λ xs. take (count_at h a) (pairs_of_words xs)) value-body_fields
      ∙ (ap (λ n. take n (pairs_of_words (splice body_words (2 * i + 1) (v ∷ []))))
      (sym length-others) ∙ value-pairs)))

  pub replaced-others : (c : ℕ) → a ≢ c → body_at h a ≢ c → object_at after_value c ≡ object_at h c
  replaced-others = value-others

  pub replaced-keeps : Keeps h after_value
  replaced-keeps = rewritten-keeps h a known sound after_value known.object.fields
      (splice body_words (2 * i + 1) (v ∷ [])) value-at value-body value-others
      (rest-stored h (body_at h a) (2 * i + 1) (v ∷ []))
      (birth_at-stored h (body_at h a) (2 * i + 1) (v ∷ []))
      (length-splice body_words (2 * i + 1) (v ∷ []) value-fits)
      (shape h a known sound).count_word others_pairs value-count value-fields value-room
      value-pairs value-index value-values

  pub replaced-sound : IsSound after_value
  replaced-sound = rewritten-sound h a known sound after_value known.object.fields
      (splice body_words (2 * i + 1) (v ∷ [])) value-at value-body value-others
      (rest-stored h (body_at h a) (2 * i + 1) (v ∷ []))
      (birth_at-stored h (body_at h a) (2 * i + 1) (v ∷ []))
      (length-splice body_words (2 * i + 1) (v ∷ []) value-fits)
      (shape h a known sound).count_word others_pairs value-count value-fields value-room
      value-pairs value-index value-values

  pub replaced-shows : (names : List (List ℕ)) (s : Store) → Shows h names s
      → IsWithin (birth_at h) names s v →
      Shows after_value names (with_dictionary s (birth_at h a)
      (record (dictionary_at s (birth_at h a)) {
        pairs = with_value (dictionary_at s (birth_at h a)).pairs i
            (value_of (birth_at h) names v);
      }))
  replaced-shows names s shows within =
      subst (λ ps. Shows after_value names
      (with_dictionary s (birth_at h a)
      (record (dictionary_at s (birth_at h a)) { pairs = ps })))
      (map-with_value (birth_at h) names (pairs_at h a) i v
      ∙ ap (λ ps. with_value ps i (value_of (birth_at h) names v))
      (sym (pairs-shown h a known sound names s shows)))
      (rewritten-shows h a known sound after_value known.object.fields
      (splice body_words (2 * i + 1) (v ∷ [])) value-at value-body value-others
      (rest-stored h (body_at h a) (2 * i + 1) (v ∷ []))
      (birth_at-stored h (body_at h a) (2 * i + 1) (v ∷ []))
      (length-splice body_words (2 * i + 1) (v ∷ []) value-fits)
      (shape h a known sound).count_word others_pairs value-count value-fields value-room
      value-pairs value-index value-values names s shows
      (shown h a known sound names s shows).index
      (value-words (replicate (2 * (capacity_at h a - count_at h a)) zero_word
      ++ (shown h a known sound names s shows).index)
      (holds-shown h a known sound names s shows)
      ∙ ap (λ n. words_of_pairs others_pairs
      ++ (replicate (2 * (capacity_at h a - n)) zero_word
      ++ (shown h a known sound names s shows).index)) (sym length-others))
      (all_splice (IsWithin (birth_at h) names s) body_words (2 * i + 1) (v ∷ [])
      (body-within h a known sound names s shows) (within, tt))
      (known_fields h sound a known.object known.at (dictionary_is_no_text h a known))
      (shows.within a known.object known.at (dictionary_is_no_text h a known)))

-- A body that is written over as a whole, with the number of pairs.
use Rattle.std.proofs.Common.{◌≡◌, ◌≢◌, ℕ, ◌≤◌, List, [], ◌∷◌, ◌++◌, length, map, Some, refl, sym, ap, ◌∙◌, arith}
use Rattle.std.proofs.lemmas.List.{append-nil}
use Rattle.ps_language.specs.declared.kinds.Kind.TheVariants.{Dictionary as DictionaryKind, Body as BodyKind}
use Rattle.ps_language.specs.Value.{Store}
use Rattle.ps_language.specs.Access.{splice, dictionary_at, with_dictionary}
use Rattle.ps_word.specs.declared.words.Word.{Word}
use Rattle.ps_mem.specs.Heap.{Heap, object_at, birth_at, fields_of, fields_at, stored}
use Rattle.ps_mem.specs.Keeps.{Keeps}
use Rattle.ps_mem.specs.References.{StandsAs, IsKnown, AreKnown}
use Rattle.ps_mem.specs.Shows.{IsNatural, IsValue, AreValues, IsSound, IsWithin, AreWithin, words_of_pairs, pair_of, Shows}
use Rattle.ps_mem.specs.Index.{index_words}
use Rattle.ps_mem.proofs.Lists.{all_splice, splice-zero}
use Rattle.ps_mem.proofs.HeapLemmas.{object_at-stored_same, object_at-stored_other, birth_at-stored, rest_of, rest-stored}
use Rattle.ps_mem.proofs.KeepsLemmas.{known_values}
use Rattle.ps_mem.proofs.ShowsLemmas.{known_fields}
use Rattle.ps_dict.specs.Bodies.{whole_body}
use Rattle.ps_dict.specs.Places.{capacity_at, body_at}
use Rattle.ps_dict.proofs.Changing.{apart-body}
use Rattle.ps_dict.proofs.Indexing.{drop-all}
use Rattle.ps_dict.proofs.Naturals.{count_fields, natural-within}
use Rattle.ps_dict.proofs.Probing.{few-places}
use Rattle.ps_dict.proofs.Rewriting.{rewritten-keeps, rewritten-sound, rewritten-shows}
use Rattle.ps_dict.proofs.Shapes.{shape, four, fields-dictionary, dictionary_is_no_text, body-stands, body-room}
use Rattle.ps_dict.proofs.WholeBodies.{whole-long, whole-pairs, whole-index, whole-values, whole-within}

-- what holds once the words of a whole body are written over the one that there is
pub record Overwritten (h k : Heap) (a : ℕ) (pairs : List (Word × Word)) : Type 0 where
  pub sound : IsSound k
  pub keeps : Keeps h k
  pub births : birth_at k ≡ birth_at h
  pub others : (c : ℕ) → a ≢ c → body_at h a ≢ c → object_at k c ≡ object_at h c
  pub shows : (names : List (List ℕ)) (s : Store) → Shows h names s
      → AreWithin h names s (words_of_pairs pairs) → Shows k names
      (with_dictionary s (birth_at h a)
      (record (dictionary_at s (birth_at h a))
      { pairs = map (pair_of (birth_at h) names) pairs }))

module _ (h : Heap) (a : ℕ) (known : StandsAs h DictionaryKind a 4) (sound : IsSound h)
    (pairs : List (Word × Word)) (room : length pairs ≤ capacity_at h a)
    (held : AreValues h (words_of_pairs pairs)) where
  abbrev pub words : List Word
  words = whole_body (birth_at h) (capacity_at h a) pairs

  abbrev old : List Word
  old = fields_at h (body_at h a)

  abbrev pub after_body : Heap
  after_body = stored h (body_at h a) 0 words

  pub words-fit : length words ≡ length old
  words-fit = whole-long (birth_at h) (capacity_at h a) pairs room
      ∙ sym (body-room h a known sound)

  pub words-values : AreValues h words
  words-values = whole-values (birth_at h) (capacity_at h a) pairs room
      (few-places h a known sound) h held

  pub words-known : AreKnown h words
  words-known = known_values h words words-values

  over : splice old 0 words ≡ words
  over =
      let n = words-fit in
      splice-zero old words
      ∙ (ap (λ zs. words ++ zs) (drop-all (length words) old (omega (arith, n)))
      ∙ append-nil words)

  apart : a ≢ body_at h a
  apart = apart-body h a known sound

  body-after : object_at after_body (body_at h a) ≡ Some
      (record { kind = BodyKind; birth = birth_at h a; fields = words })
  body-after =
      object_at-stored_same h (body_at h a) 0 words
      (record { kind = BodyKind; birth = birth_at h a; fields = old }) (body-stands h a known sound)
      ∙ ap (λ (ws : List Word). Some
      (record { kind = BodyKind; birth = birth_at h a; fields = ws })) over

  at-after : object_at after_body a ≡ Some known.object
  at-after = object_at-stored_other h (body_at h a) 0 words a (λ e. apart (sym e)) ∙ known.at

  pub number-place : 1 ≤ length (fields_at after_body a)
  unfolding fields_at
  number-place =
      let e = ap (λ o. length (fields_of o)) at-after in
      let f = ap length (fields-dictionary h a known) in
      let n = four h a known sound in
      omega (arith, e, f, n)

  module _ (w : Word) (is : IsNatural w (length pairs)) (w_held : IsValue h w) where
    abbrev after_number : Heap
    after_number = stored after_body a 0 (w ∷ [])

    at-body : object_at after_number (body_at h a) ≡ Some
        (record { kind = BodyKind; birth = birth_at h a; fields = words })
    at-body = object_at-stored_other after_body a 0 (w ∷ []) (body_at h a) apart ∙ body-after

    at-dictionary : object_at after_number a ≡ Some
        (record known.object { fields = splice known.object.fields 0 (w ∷ []) })
    at-dictionary = object_at-stored_same after_body a 0 (w ∷ []) known.object at-after

    over-others : (c : ℕ) → a ≢ c → body_at h a ≢ c
        → object_at after_number c ≡ object_at h c
    over-others c ne ne' = object_at-stored_other after_body a 0 (w ∷ []) c ne
        ∙ object_at-stored_other h (body_at h a) 0 words c ne'

    rest-after : rest_of after_number ≡ rest_of h
    rest-after = rest-stored after_body a 0 (w ∷ []) ∙ rest-stored h (body_at h a) 0 words

    over-births : birth_at after_number ≡ birth_at h
    over-births = birth_at-stored after_body a 0 (w ∷ []) ∙ birth_at-stored h (body_at h a) 0 words

    fields-are : splice known.object.fields 0 (w ∷ []) ≡ w ∷ (shape h a known sound).capacity_word
        ∷ (shape h a known sound).access_word ∷ (shape h a known sound).body_word ∷ []
    fields-are = ap (λ xs. splice xs 0 (w ∷ [])) (sym (fields-dictionary h a known))
        ∙ count_fields h a known sound w (length pairs) is

    over-keeps : Keeps h after_number
    over-keeps = rewritten-keeps h a known sound after_number
        (splice known.object.fields 0 (w ∷ [])) words at-dictionary at-body over-others rest-after
        over-births words-fit w pairs is fields-are room
        (whole-pairs (birth_at h) (capacity_at h a) pairs room)
        (whole-index (birth_at h) (capacity_at h a) pairs room) words-values

    over-sound : IsSound after_number
    over-sound = rewritten-sound h a known sound after_number
        (splice known.object.fields 0 (w ∷ [])) words at-dictionary at-body over-others rest-after
        over-births words-fit w pairs is fields-are room
        (whole-pairs (birth_at h) (capacity_at h a) pairs room)
        (whole-index (birth_at h) (capacity_at h a) pairs room) words-values

    over-shows : (names : List (List ℕ)) (s : Store) → Shows h names s
        → AreWithin h names s (words_of_pairs pairs) → Shows after_number names
        (with_dictionary s (birth_at h a)
        (record (dictionary_at s (birth_at h a))
        { pairs = map (pair_of (birth_at h) names) pairs }))
    over-shows names s shows within =
        rewritten-shows h a known sound after_number (splice known.object.fields 0 (w ∷ [])) words
        at-dictionary at-body over-others rest-after over-births words-fit w pairs is fields-are
        room (whole-pairs (birth_at h) (capacity_at h a) pairs room)
        (whole-index (birth_at h) (capacity_at h a) pairs room) words-values names s shows
        (index_words (birth_at h) (capacity_at h a) pairs) refl
        (whole-within (birth_at h) (capacity_at h a) pairs room (few-places h a known sound) h
        names s within)
        (all_splice (IsKnown h) known.object.fields 0 (w ∷ [])
        (known_fields h sound a known.object known.at (dictionary_is_no_text h a known))
        (w_held.known, tt))
        (all_splice (IsWithin (birth_at h) names s) known.object.fields 0 (w ∷ [])
        (shows.within a known.object known.at (dictionary_is_no_text h a known))
        (natural-within w (length pairs) is (birth_at h) names s, tt))

    pub overwritten : Overwritten h after_number a pairs
    overwritten = record {
      sound = over-sound;
      keeps = over-keeps;
      births = over-births;
      others = over-others;
      shows = over-shows;
    }

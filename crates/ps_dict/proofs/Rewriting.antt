-- A dictionary with other pairs: its fields and the words of its body after any number of stores.
use Rattle.std.proofs.Common.{◌≡◌, ◌≢◌, ℕ, ◌-◌, ◌*◌, ◌≤◌, List, [], ◌∷◌, ◌++◌, length, map, take, drop, replicate, Some, refl, sym, ap, ◌∙◌, arith, subst}
use Rattle.std.specs.Prelude.{slice_get}
use Rattle.std.proofs.lemmas.List.{length-map}
use Rattle.ps_language.specs.declared.kinds.Kind.TheVariants.{Dictionary as DictionaryKind, Body as BodyKind}
use Rattle.ps_language.specs.Value.{Dictionary as DictionaryValue, Store}
use Rattle.ps_language.specs.Access.{dictionary_at, with_dictionary}
use Rattle.ps_word.specs.declared.words.Word.{Word}
use Rattle.ps_mem.specs.Heap.{Heap, Space, Standing, object_at, birth_at, fields_at, zero_word}
use Rattle.ps_mem.specs.Index.{pairs_of_words, index_words}
use Rattle.ps_mem.specs.Keeps.{Keeps}
use Rattle.ps_mem.specs.References.{StandsAs, AreKnown}
use Rattle.ps_mem.specs.Shows.{IsNatural, AreValues, DictionaryFields, IsSound, AreWithin, words_of_pairs, pair_of, ShowsDictionary, Shows}
use Rattle.ps_mem.proofs.HeapLemmas.{rest_of}
use Rattle.ps_mem.proofs.KeepsLemmas.{known_values}
use Rattle.ps_mem.proofs.DictionaryStores.{ChangesDictionary, Keeps-changed, IsSound-changed, Shows-changed}
use Rattle.ps_dict.specs.Places.{capacity_at, body_at}
use Rattle.ps_dict.proofs.Shapes.{shape, fields-dictionary, birth-dictionary, capacity-is, access-is, body-is, body-stands, body-room, there, capacity-shown, access-shown}

module _ (h : Heap) (a : ℕ) (known : StandsAs h DictionaryKind a 4) (sound : IsSound h) (k : Heap)
    (fields words : List Word)
    (at : object_at k a ≡ Some (record known.object { fields = fields }))
    (at' : object_at k (body_at h a) ≡ Some
    (record { kind = BodyKind; birth = birth_at h a; fields = words }))
    (others : (c : ℕ) → a ≢ c → body_at h a ≢ c → object_at k c ≡ object_at h c)
    (rest : rest_of k ≡ rest_of h) (births : birth_at k ≡ birth_at h)
    (length_words : length words ≡ length (fields_at h (body_at h a)))
    (w : Word) (pairs : List (Word × Word)) (is : IsNatural w (length pairs))
    (fields_are : fields ≡ w ∷ (shape h a known sound).capacity_word
    ∷ (shape h a known sound).access_word ∷ (shape h a known sound).body_word ∷ [])
    (room : length pairs ≤ capacity_at h a)
    (pairs_are : take (length pairs) (pairs_of_words words) ≡ pairs)
    (indexed : drop (2 * capacity_at h a) words ≡ index_words (birth_at h) (capacity_at h a) pairs)
    (values : AreValues h words) where
  abbrev old_body : Standing
  old_body = record { kind = BodyKind; birth = birth_at h a; fields = fields_at h (body_at h a) }

  abbrev new_body : Standing
  new_body = record { kind = BodyKind; birth = birth_at h a; fields = words }

  four_now : length fields ≡ length known.object.fields
  four_now = ap length fields_are
      ∙ (sym (ap length (shape h a known sound).are) ∙ ap length (fields-dictionary h a known))

  change : ChangesDictionary h k a (body_at h a) known.object
      (record known.object { fields = fields }) old_body new_body
  change = record {
    was = known.at;
    is = at;
    body_was = body-stands h a known sound;
    body_is = at';
    others = others;
    next = ap (λ (r : ℕ × Space). r.0) rest;
    space = ap (λ (r : ℕ × Space). r.1) rest;
    kind_was = known.kind_is;
    kind_is = known.kind_is;
    body_kind_was = refl;
    body_kind_is = refl;
    birth = refl;
    body_birth_was = birth-dictionary h a known;
    body_birth_is = birth-dictionary h a known;
    count = four_now;
    body_count = length_words;
  }

  abbrev pub shape-after : DictionaryFields k (birth_at h a) fields
  shape-after =
      let d = shape h a known sound in
      record {
        count_word = w;
        capacity_word = d.capacity_word;
        access_word = d.access_word;
        body_word = d.body_word;
        are = fields_are;
        count = length pairs;
        capacity = d.capacity;
        access = d.access;
        body = d.body;
        body_fields = words;
        count_is = is;
        capacity_is = d.capacity_is;
        access_is = d.access_is;
        body_is = d.body_is;
        stands = ap (object_at k) (sym (body-is h a known sound)) ∙ at';
        within = (let e = capacity-is h a known sound in omega (arith, e, room));
        room = length_words ∙ (body-room h a known sound
            ∙ ap (λ n. 3 * n) (capacity-is h a known sound));
        few = d.few;
        indexed = ap (λ n. drop (2 * n) words) (sym (capacity-is h a known sound))
            ∙ (indexed
            ∙ (ap (λ b. index_words b (capacity_at h a) pairs) (sym births)
            ∙ (ap (λ n. index_words (birth_at k) n pairs) (capacity-is h a known sound)
            ∙ ap (λ ps. index_words (birth_at k) d.capacity ps) (sym pairs_are))));
      }

  pub rewritten-keeps : Keeps h k
  rewritten-keeps = Keeps-changed h k a (body_at h a) known.object
      (record known.object { fields = fields }) old_body new_body change

  pub rewritten-sound : IsSound k
  rewritten-sound =
      IsSound-changed h k a (body_at h a) known.object (record known.object { fields = fields })
      old_body new_body change sound
      (subst (λ n. DictionaryFields k n fields) (birth-dictionary h a known) shape-after) values

  module _ (names : List (List ℕ)) (s : Store) (shows : Shows h names s) (index : List Word)
      (holds : words ≡ words_of_pairs pairs
      ++ (replicate (2 * (capacity_at h a - length pairs)) zero_word ++ index))
      (within : AreWithin h names s words) (fields_known : AreKnown h fields)
      (fields_within : AreWithin h names s fields) where
    abbrev after : DictionaryValue
    after = record (dictionary_at s (birth_at h a))
        { pairs = map (pair_of (birth_at h) names) pairs }

    shows-after : ShowsDictionary k names (birth_at h a) fields after
    shows-after = record {
      shape = shape-after;
      count = sym (length-map pairs (pair_of (birth_at h) names));
      capacity = sym (capacity-is h a known sound) ∙ capacity-shown h a known sound names s shows;
      access = sym (access-is h a known sound) ∙ access-shown h a known sound names s shows;
      pairs = pairs;
      index = index;
      holds = holds ∙ ap (λ n. words_of_pairs pairs ++ (replicate (2 * n) zero_word ++ index)) left;
      are = ap (λ b. map (pair_of b names) pairs) (sym births);
    }
      where
        left : capacity_at h a - length pairs ≡ (dictionary_at s (birth_at h a)).capacity - length
            (map (pair_of (birth_at h) names) pairs)
        left = let e = capacity-shown h a known sound names s shows in let n =
            length-map pairs (pair_of (birth_at h) names) in omega (arith, e, n)

    pub rewritten-shows : Shows k names (with_dictionary s (birth_at h a) after)
    rewritten-shows =
        subst (λ n. Shows k names (with_dictionary s n after)) (sym (birth-dictionary h a known))
        (Shows-changed h k a (body_at h a) known.object (record known.object { fields = fields })
        old_body new_body change sound names s shows (dictionary_at s (birth_at h a)) after
        (ap (slice_get s) (sym (birth-dictionary h a known)) ∙ there h a known sound names s shows)
        (subst (λ n. ShowsDictionary k names n fields after) (birth-dictionary h a known)
        shows-after)
        (known_values h words values) within fields_known fields_within)

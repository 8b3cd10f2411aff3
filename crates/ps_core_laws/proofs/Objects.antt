-- What moving makes of objects: of dictionaries with their indexes, and of all that stands.
use Rattle.std.proofs.Common.{◌≡◌, ◌≢◌, ℕ, zero, suc, ◌-◌, ◌*◌, false, List, [], ◌∷◌, ◌++◌, length, map, take, drop}
use Rattle.std.proofs.Common.{replicate, Some, None, Option, refl, sym, ap, ◌∙◌, subst, arith, is_some}
use Rattle.std.specs.List.{AllByRecursion}
use Rattle.std.proofs.lemmas.List.{take-map, length-map, length-take, map-append}
use Rattle.ps_language.specs.declared.kinds.Kind.{Kind}
use Rattle.ps_language.specs.declared.kinds.Kind.TheVariants.{Text as TextKind, Lock as LockKind}
use Rattle.ps_language.specs.declared.kinds.Kind.TheVariants.{Condition as ConditionKind, Body as BodyKind}
use Rattle.ps_language.specs.Value.{Dictionary as DictionaryValue, Object, lock_object, condition_object}
use Rattle.ps_word.specs.declared.words.Word.{Word}
use Rattle.ps_word.specs.declared.values.Content.TheVariants.{Body}
use Rattle.ps_word.specs.declared.values.Value.{Value}
use Rattle.ps_word.specs.Format.{value_in}
use Rattle.ps_word.specs.Readers.{address_of}
use Rattle.ps_word.proofs.Places.{is_reference-at}
use Rattle.ps_mem.specs.Heap.{Heap, Standing, object_at, birth_at, zero_word}
use Rattle.ps_mem.specs.Index.{hash_of, index_of, pairs_of_words, index_word, hashes_of, index_words}
use Rattle.ps_mem.specs.Shows.{IsNatural, DictionaryFields, AreFields, array_fields, text_fields, dictionary_fields}
use Rattle.ps_mem.specs.Shows.{lock_fields, condition_fields, body_fields, words_of_pairs, pair_of, ShowsDictionary}
use Rattle.ps_mem.specs.Shows.{IsOwner, IsShown, shown_array, shown_text, shown_dictionary, shown_lock, shown_condition}
use Rattle.ps_mem.specs.Shows.{IsObject, AreWithin}
use Rattle.ps_mem.proofs.Lists.{all_take, drop-map}
use Rattle.ps_core_laws.proofs.Flipped.{both, pairs-map, index-map, first-words, all-index, position-plain}
use Rattle.ps_core_laws.specs.Moves.{Forwarding, moved_word, moved_words, moved_fields, moved_object, HasReplica}
use Rattle.ps_core_laws.specs.Moves.{HaveReplicas, IsReplica, IsMovedTo, KeepsObjects, KeepsSound, KeepsShown}
use Rattle.ps_core_laws.proofs.Words.{place, replica, complete, content-moved, executable-moved, placed, value-moved}
use Rattle.ps_core_laws.proofs.Words.{hash-moved, word-stays, length-moved_fields, moved_fields-words, values_of-moved}
use Rattle.ps_core_laws.proofs.Words.{AreValues-moved, AreWithin-moved}

-- ---- words that stay

natural-stays : (forward : Forwarding) (w : Word) (n : ℕ) → IsNatural w n → moved_word forward w ≡ w
natural-stays forward w n is =
    word-stays forward w
    (is_reference-at w.0 ∙ ap (λ (v : Value). is_some (address_of v.content)) is)

owner-stays : (forward : Forwarding) (w : Word) (owner : Option ℕ) → IsOwner w owner
    → moved_word forward w ≡ w
owner-stays forward w None is = natural-stays forward w 0 is
owner-stays forward w (Some identifier) is = natural-stays forward w identifier is.1

zeros-stay : (forward : Forwarding) (n : ℕ)
    → moved_words forward (replicate n zero_word) ≡ replicate n zero_word
zeros-stay forward zero = refl
zeros-stay forward (suc n) =
    λ i. word-stays forward zero_word refl i ∷ zeros-stay forward n i

words_of_pairs-map : (g : Word → Word) (pairs : List (Word × Word))
    → map g (words_of_pairs pairs) ≡ words_of_pairs (map (both g) pairs)
words_of_pairs-map g [] = refl
words_of_pairs-map g (pair ∷ pairs) =
    ap (λ ws. g pair.0 ∷ g pair.1 ∷ ws) (words_of_pairs-map g pairs)

-- the words of pairs
pairs-have : (forward : Forwarding) (pairs : List (Word × Word)) (rest : List Word)
    → HaveReplicas forward (words_of_pairs pairs ++ rest)
    → AllByRecursion (λ (pair : Word × Word). HasReplica forward pair.0 × HasReplica forward pair.1)
    pairs
pairs-have forward [] rest have = tt
pairs-have forward (pair ∷ pairs) rest have =
    ((have.0, have.1.0), pairs-have forward pairs rest have.1.1)

module _ (h now : Heap) (forward : Forwarding) (moves : IsMovedTo h now forward) where
  pub objects-moved : KeepsObjects h now forward
  objects-moved a b o there at =
      let r = moves.replicas a b there in
      let one : Some r.object ≡ Some o = sym r.stood ∙ at in
      let same : r.object ≡ o = cc in
      record {
        now = moved_object forward r.object;
        at = r.stands;
        kind = ap (λ (x : Standing). x.kind) same;
        birth = ap (λ (x : Standing). x.birth) same;
        count = length-moved_fields forward r.object.kind r.object.fields
            ∙ ap (λ (x : Standing). length x.fields) same;
      }

  -- ---- a dictionary

  hashes-moved : (pairs : List (Word × Word))
      → AllByRecursion (λ (pair : Word × Word). HasReplica forward pair.0) pairs
      → hashes_of (birth_at now) (map (both (moved_word forward)) pairs)
      ≡ hashes_of (birth_at h) pairs
  hashes-moved [] have = refl
  hashes-moved (pair ∷ pairs) have =
      λ i. hash-moved h now forward moves pair.0 have.0 i ∷ hashes-moved pairs have.1 i

  pairs-moved : (names : List (List ℕ)) (pairs : List (Word × Word))
      → AllByRecursion (λ (pair : Word × Word). HasReplica forward pair.0
      × HasReplica forward pair.1) pairs
      → map (pair_of (birth_at now) names) (map (both (moved_word forward)) pairs)
      ≡ map (pair_of (birth_at h) names) pairs
  pairs-moved names [] have = refl
  pairs-moved names (pair ∷ pairs) have = λ i. (
    value-moved h now forward moves names pair.0 have.0.0 i,
    value-moved h now forward moves names pair.1 have.0.1 i,
  ) ∷ pairs-moved names pairs have.1 i

  module _ (birth : ℕ) (fields : List Word) (d : DictionaryFields h birth fields)
      (have : HaveReplicas forward fields) where
    body-word-has : HasReplica forward d.body_word
    body-word-has =
        let all : HaveReplicas forward
        (d.count_word ∷ d.capacity_word ∷ d.access_word ∷ d.body_word ∷ []) =
        subst (HaveReplicas forward) d.are have in
        all.1.1.1.0

    body-has : forward d.body ≢ None
    body-has = complete h now forward moves d.body_word body-word-has d.body
        (ap (λ (v : Value). address_of v.content) d.body_is)

    abbrev body-replica : IsReplica h now forward d.body (place h now forward moves d.body)
    body-replica = replica h now forward moves d.body body-has

    body-object : body-replica.object ≡ record
        { kind = BodyKind; birth = birth; fields = d.body_fields }
    body-object =
        let r = body-replica in
        let one : Some r.object ≡ Some
        (record { kind = BodyKind; birth = birth; fields = d.body_fields }) =
        sym r.stood ∙ d.stands in
        cc

    body-stands : object_at now (place h now forward moves d.body) ≡ Some
        (record { kind = BodyKind; birth = birth; fields = moved_words forward d.body_fields })
    body-stands =
        body-replica.stands ∙ ap (λ (o : Standing). Some (moved_object forward o)) body-object

    body-have : HaveReplicas forward d.body_fields
    body-have = subst (λ (o : Standing). o.kind ≢ TextKind → HaveReplicas forward o.fields)
        body-object body-replica.complete (λ k. cc)

    -- the pairs that the index is of
    abbrev old : List (Word × Word)
    old = take d.count (pairs_of_words d.body_fields)

    abbrev Stays : Option ℕ → Type 0
    Stays o = moved_word forward (index_word o) ≡ index_word o

    index-stays : moved_words forward (index_words (birth_at h) d.capacity old) ≡ index_words
        (birth_at h) d.capacity old
    unfolding index_words
    index-stays =
        let few = d.few in let within = d.within in
        let long = length-map old (λ (pair : Word × Word). hash_of (birth_at h) pair.0) in
        let some = length-take d.count (pairs_of_words d.body_fields) in
        index-map (moved_word forward) (index_of d.capacity (hashes_of (birth_at h) old))
        (all-index Stays d.count d.capacity (hashes_of (birth_at h) old)
        (omega (arith, long, some))
        (λ q below. word-stays forward (index_word (Some q))
        (position-plain q (omega (arith, below, few, within))))
        (word-stays forward (index_word None) refl))

    index-same : index_words (birth_at now) d.capacity (map (both (moved_word forward)) old)
        ≡ index_words (birth_at h) d.capacity old
    unfolding index_words
    index-same = ap (λ hs. map index_word (index_of d.capacity hs)) (hashes-moved old
        (all_take (λ (pair : Word × Word). HasReplica forward pair.0) d.count
        (pairs_of_words d.body_fields)
        (first-words (HasReplica forward) d.body_fields body-have)))

    new-pairs : take d.count (pairs_of_words (moved_words forward d.body_fields))
        ≡ map (both (moved_word forward)) old
    new-pairs = ap (take d.count) (pairs-map (moved_word forward) d.body_fields)
        ∙ take-map (both (moved_word forward)) d.count (pairs_of_words d.body_fields)

    indexed-moved : drop (2 * d.capacity) (moved_words forward d.body_fields) ≡ index_words
        (birth_at now) d.capacity
        (take d.count (pairs_of_words (moved_words forward d.body_fields)))
    indexed-moved = drop-map (moved_word forward) (2 * d.capacity) d.body_fields
        ∙ (ap (moved_words forward) d.indexed
        ∙ (index-stays
        ∙ (sym index-same ∙ ap (index_words (birth_at now) d.capacity) (sym new-pairs))))

    body-word-moved : value_in (moved_word forward d.body_word).0 ≡ record
        { content = Body (place h now forward moves d.body); executable = false }
    body-word-moved =
        let same = content-moved h now forward moves d.body_word body-word-has
        ∙ ap (λ (v : Value). placed (place h now forward moves) v.content) d.body_is in
        let literal = executable-moved h now forward moves d.body_word body-word-has
        ∙ ap (λ (v : Value). v.executable) d.body_is in
        λ i. record { content = same i; executable = literal i }

    fields-moved : moved_words forward fields
        ≡ d.count_word ∷ d.capacity_word ∷ d.access_word ∷ moved_word forward d.body_word ∷ []
    fields-moved = ap (moved_words forward) d.are
        ∙ (λ i. natural-stays forward d.count_word d.count d.count_is i
        ∷ natural-stays forward d.capacity_word d.capacity d.capacity_is i
        ∷ natural-stays forward d.access_word d.access d.access_is i
        ∷ moved_word forward d.body_word ∷ [])

    abbrev dictionary-moved : DictionaryFields now birth (moved_words forward fields)
    dictionary-moved = record {
      count_word = d.count_word;
      capacity_word = d.capacity_word;
      access_word = d.access_word;
      body_word = moved_word forward d.body_word;
      are = fields-moved;
      count = d.count;
      capacity = d.capacity;
      access = d.access;
      body = place h now forward moves d.body;
      body_fields = moved_words forward d.body_fields;
      count_is = d.count_is;
      capacity_is = d.capacity_is;
      access_is = d.access_is;
      body_is = body-word-moved;
      stands = body-stands;
      within = d.within;
      room = length-map d.body_fields (moved_word forward) ∙ d.room;
      few = d.few;
      indexed = indexed-moved;
    }

  -- ---- fields

  fields_of-moved : {kind : Kind} {birth : ℕ} {fields : List Word}
      → (kind ≢ TextKind → HaveReplicas forward fields) → AreFields h kind birth fields
      → AreFields now kind birth (moved_fields forward kind fields)
  fields_of-moved have (array_fields {fields = fields} v) =
      array_fields (AreValues-moved h now forward moves fields (have (λ k. cc)) v)
  fields_of-moved have text_fields = text_fields
  fields_of-moved have (dictionary_fields {birth = birth} {fields = fields} d) =
      dictionary_fields (dictionary-moved birth fields d (have (λ k. cc)))
  fields_of-moved have (lock_fields {birth = birth} {owner = owner} n is) =
      subst (λ w. AreFields now LockKind birth (w ∷ [])) (sym (natural-stays forward owner n is))
      (lock_fields n is)
  fields_of-moved have (condition_fields {birth = birth}) =
      subst (λ w. AreFields now ConditionKind birth (w ∷ []))
      (sym (word-stays forward zero_word refl))
      condition_fields
  fields_of-moved have (body_fields {fields = fields} v) =
      body_fields (AreValues-moved h now forward moves fields (have (λ k. cc)) v)

  module _ (names : List (List ℕ)) where
    shown_dictionary-moved : (birth : ℕ) (fields : List Word) (d : DictionaryValue)
        → HaveReplicas forward fields → ShowsDictionary h names birth fields d
        → ShowsDictionary now names birth (moved_words forward fields) d
    shown_dictionary-moved birth fields d have s =
        let gap : ℕ = 2 * (d.capacity - length d.pairs) in
        let zeros : List Word = replicate gap zero_word in
        let all : HaveReplicas forward (words_of_pairs s.pairs ++ (zeros ++ s.index)) =
        subst (HaveReplicas forward) s.holds (body-have birth fields s.shape have) in
        record {
          shape = dictionary-moved birth fields s.shape have;
          count = s.count;
          capacity = s.capacity;
          access = s.access;
          pairs = map (both (moved_word forward)) s.pairs;
          index = moved_words forward s.index;
          holds = ap (moved_words forward) s.holds
              ∙ (map-append (moved_word forward) (words_of_pairs s.pairs) (zeros ++ s.index)
              ∙ (λ i. words_of_pairs-map (moved_word forward) s.pairs i
              ++ ((map-append (moved_word forward) zeros s.index
              ∙ ap (λ ws. ws ++ moved_words forward s.index) (zeros-stay forward gap)) i)));
          are = s.are
              ∙ sym (pairs-moved names s.pairs (pairs-have forward s.pairs (zeros ++ s.index) all));
        }

    shown-moved : {kind : Kind} {birth : ℕ} {fields : List Word} {object : Object}
        → (kind ≢ TextKind → HaveReplicas forward fields) → IsShown h names kind birth fields object
        → IsShown now names kind birth (moved_fields forward kind fields) object
    shown-moved have (shown_array {fields = fields} e) = shown_array
        (e ∙ sym (values_of-moved h now forward moves names fields (have (λ k. cc))))
    shown-moved have (shown_text are e) = shown_text are e
    shown-moved have (shown_dictionary {birth = birth} {fields = fields} {d = d} s) =
        shown_dictionary (shown_dictionary-moved birth fields d (have (λ k. cc)) s)
    shown-moved have (shown_lock {birth = birth} {word = word} {owner = owner} o) =
        subst (λ w. IsShown now names LockKind birth (w ∷ []) (lock_object owner))
        (sym (owner-stays forward word owner o))
        (shown_lock o)
    shown-moved have (shown_condition {birth = birth}) =
        subst (λ w. IsShown now names ConditionKind birth (w ∷ []) condition_object)
        (sym (word-stays forward zero_word refl))
        shown_condition

  -- ---- all that stands

  -- what stands now stood, elsewhere
  from : (b : ℕ) (o : Standing) → object_at now b ≡ Some o → (a : ℕ) × (forward a ≡ Some b)
      × (r : IsReplica h now forward a b) × (moved_object forward r.object ≡ o)
  from b o at =
      let there = moves.only b o at in
      let r = moves.replicas there.0 b there.1 in
      let one : Some (moved_object forward r.object) ≡ Some o = sym r.stands ∙ at in
      (there.0, there.1, r, cc)

  pub sound-moved : KeepsSound h now forward
  sound-moved sound = record {
    single = λ a b o p at bt body body' one.
        let f = from a o at in
        let g = from b p bt in
        let same = sound.single f.0 g.0 f.2.object g.2.object f.2.stood g.2.stood
        (λ k. body (sym (ap (λ (x : Standing). x.kind) f.3) ∙ k))
        (λ k. body' (sym (ap (λ (x : Standing). x.kind) g.3) ∙ k))
        (ap (λ (x : Standing). x.birth) f.3
        ∙ (one ∙ sym (ap (λ (x : Standing). x.birth) g.3))) in
        let there : Some a ≡ Some b = sym f.1 ∙ (ap forward same ∙ g.1) in
        cc;
    below = λ a o at.
        let f = from a o at in
        let old = sound.below f.0 f.2.object f.2.stood in
        let birth : f.2.object.birth ≡ o.birth = ap (λ (x : Standing). x.birth) f.3 in
        let next = moves.next in
        omega (arith, old, birth, next);
    fields = λ a o at.
        let f = from a o at in
        subst (λ (x : Standing). AreFields now x.kind x.birth x.fields) f.3
        (fields_of-moved f.2.complete (sound.fields f.0 f.2.object f.2.stood));
  }

  pub shown_all-moved : KeepsShown h now forward
  shown_all-moved names store shows = record {
    next = moves.next ∙ shows.next;
    objects = λ a o at body.
        let f = from a o at in
        let old = shows.objects f.0 f.2.object f.2.stood
        (λ k. body (sym (ap (λ (x : Standing). x.kind) f.3) ∙ k)) in
        subst (λ (x : Standing). IsObject now names store x.kind x.birth x.fields) f.3 (record {
          object = old.object;
          there = old.there;
          shown = shown-moved names f.2.complete old.shown;
        });
    within = λ a o at text.
        let f = from a o at in
        let other : f.2.object.kind ≢ TextKind =
        λ k. text (sym (ap (λ (x : Standing). x.kind) f.3) ∙ k) in
        let words = AreWithin-moved h now forward moves names store f.2.object.fields
        (f.2.complete other) (shows.within f.0 f.2.object f.2.stood other) in
        subst (λ (x : Standing). AreWithin now names store x.fields) f.3
        (subst (AreWithin now names store)
        (sym (moved_fields-words forward f.2.object.kind f.2.object.fields other)) words);
  }

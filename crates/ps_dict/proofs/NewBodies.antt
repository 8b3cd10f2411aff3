-- A dictionary that gets a new body with these pairs.
use Rattle.std.proofs.Common.{◌≡◌, ℕ, ◌*◌, ◌<◌, ◌≤◌, false, List, [], ◌∷◌, ◌++◌, length, map, replicate, Some, None, refl, sym, ap, ◌∙◌, arith, subst}
use Rattle.std.specs.Prelude.{slice_get}
use Rattle.std.specs.List.{AllByRecursion}
use Rattle.std.proofs.lemmas.List.{length-replicate, length-map, drop_all, append-nil}
use Rattle.ps_language.specs.declared.kinds.Kind.TheVariants.{Dictionary as DictionaryKind, Body as BodyKind}
use Rattle.ps_language.specs.Value.{Store}
use Rattle.ps_language.specs.Access.{splice, dictionary_at, with_dictionary}
use Rattle.ps_word.specs.declared.words.Word.{Word}
use Rattle.ps_word.specs.declared.values.Content.TheVariants.{Body}
use Rattle.ps_word.specs.declared.values.Value.{Value as WordValue}
use Rattle.ps_word.specs.Format.{content_in, value_in}
use Rattle.ps_mem.specs.Heap.{Heap, Standing, object_at, birth_of, birth_at, fields_of, fields_at, stored, made_body, zero_word}
use Rattle.ps_mem.specs.Index.{index_words}
use Rattle.ps_mem.specs.Keeps.{Keeps}
use Rattle.ps_mem.specs.References.{StandsAs, IsKnown, IsKnownContent, AreKnown}
use Rattle.ps_mem.specs.Shows.{IsNatural, IsValue, AreValues, DictionaryFields, IsSound, IsWithin, IsWithinContent, AreWithin, words_of_pairs, pair_of, Shows}
use Rattle.ps_mem.proofs.Lists.{splice-zero}
use Rattle.ps_mem.proofs.HeapLemmas.{next-stored, next-made_body}
use Rattle.ps_mem.proofs.KeepsLemmas.{Keeps-Extends, Keeps-then, IsValue-kept, AreValues-kept, AreWithin-kept, known_values, value_of-kept, index_words-kept, known_keys-first}
use Rattle.ps_mem.proofs.NewShows.{NewObject, NewObject-made_body, NewObject-filled, IsSound-new_body, Shows-new_body}
use Rattle.ps_dict.specs.Bodies.{whole_body, with_body}
use Rattle.ps_dict.proofs.Changing.{fields-sound, fields-keeps, fields-shows}
use Rattle.ps_dict.proofs.Indexing.{drop-all}
use Rattle.ps_dict.proofs.Naturals.{natural-within}
use Rattle.ps_dict.proofs.Shapes.{shape, four, birth-dictionary, access-is, access-shown}
use Rattle.ps_dict.proofs.WholeBodies.{whole-long, whole-pairs, whole-index, whole-values, whole-within}

pub second-there : (fields : List Word) (a b c d w : Word) → fields ≡ a ∷ b ∷ c ∷ d ∷ []
    → slice_get fields 2 ≡ Some w → c ≡ w
second-there fields a b c d w are at = let one : Some c ≡ Some w =
    sym (ap (λ ws. slice_get ws 2) are) ∙ at in cc

-- the four words may be stored in the dictionary's fields, and it then has the new body
pub record GetsBody (h : Heap) (a c : ℕ) (pairs : List (Word × Word)) (now : Heap)
    (words : List Word) : Type 0 where
  pub fits : 4 ≤ length (fields_at now a)
  pub known : AreKnown now words
  pub sound : IsSound (stored now a 0 words)
  pub keeps : Keeps h (stored now a 0 words)
  pub shows : (names : List (List ℕ)) (s : Store) → Shows h names s
      → AreWithin h names s (words_of_pairs pairs) →
      Shows (stored now a 0 words) names (with_dictionary s (birth_at h a)
      (record (dictionary_at s (birth_at h a)) {
        pairs = map (pair_of (birth_at h) names) pairs;
        capacity = c;
      }))

module _ (h : Heap) (a : ℕ) (known : StandsAs h DictionaryKind a 4) (sound : IsSound h) (b : ℕ)
    (free : object_at h b ≡ None) (c : ℕ) (few : c ≤ 21845) (pairs : List (Word × Word))
    (room : length pairs ≤ c) (held : AreValues h (words_of_pairs pairs)) where
  abbrev pub words : List Word
  words = whole_body (birth_at h) c pairs

  abbrev pub grown : Heap
  grown = with_body h a b c pairs

  abbrev pub body : Standing
  body = record { kind = BodyKind; birth = birth_at h a; fields = words }

  pub words-long : length words ≡ 3 * c
  words-long = whole-long (birth_at h) c pairs room

  pub over : splice (replicate (3 * c) zero_word) 0 words ≡ words
  over =
      let n = words-long in
      let zeros : length (replicate (3 * c) zero_word) ≡ 3 * c =
      length-replicate (3 * c) zero_word in
      splice-zero (replicate (3 * c) zero_word) words
      ∙ (ap (λ zs. words ++ zs) (drop-all (length words) (replicate (3 * c) zero_word)
      (omega (arith, n, zeros)))
      ∙ append-nil words)

  pub blank : NewObject h (made_body h b (birth_at h a) (3 * c)) b
      (record { kind = BodyKind; birth = birth_at h a; fields = replicate (3 * c) zero_word })
  blank = NewObject-made_body h b (birth_at h a) (3 * c) free

  pub blank-long : length (fields_at (made_body h b (birth_at h a) (3 * c)) b) ≡ 3 * c
  unfolding fields_at
  blank-long = ap (λ o. length (fields_of o)) blank.at ∙ length-replicate (3 * c) zero_word

  pub new : NewObject h grown b body
  new = subst (λ (ws : List Word). NewObject h grown b
      (record { kind = BodyKind; birth = birth_at h a; fields = ws })) over
      (NewObject-filled h (made_body h b (birth_at h a) (3 * c)) b _ 0 words
      (NewObject-made_body h b (birth_at h a) (3 * c) free))

  pub keeps : Keeps h grown
  keeps = Keeps-Extends h grown new.extends

  next : grown.next ≡ h.next
  next = next-stored (made_body h b (birth_at h a) (3 * c)) b 0 words
      ∙ next-made_body h b (birth_at h a) (3 * c)

  pub words-values : AreValues h words
  words-values = whole-values (birth_at h) c pairs room few h held

  pub blank-known : AreKnown (made_body h b (birth_at h a) (3 * c)) words
  blank-known =
      let made = made_body h b (birth_at h a) (3 * c) in
      known_values made words
      (AreValues-kept h made (Keeps-Extends h made blank.extends) words words-values)

  pub known_keys : AllByRecursion (λ (pair : Word × Word). IsKnown h pair.0) pairs
  known_keys = subst (AllByRecursion (λ (pair : Word × Word). IsKnown h pair.0))
      (whole-pairs (birth_at h) c pairs room)
      (known_keys-first h (length pairs) words (known_values h words words-values))

  pub grown-sound : IsSound grown
  grown-sound =
      let below : known.object.birth < h.next = sound.below a known.object known.at in
      let is : birth_at h a ≡ known.object.birth = birth-dictionary h a known in
      IsSound-new_body h grown b body new sound next refl (omega (arith, below, is))
      (AreValues-kept h grown keeps words words-values)

  pub grown-shows : (names : List (List ℕ)) (s : Store) → Shows h names s
      → AreWithin h names s (words_of_pairs pairs) → Shows grown names s
  grown-shows names s shows within =
      Shows-new_body h grown b body new sound next refl names s shows
      (AreWithin-kept h grown keeps names s s (λ birth. omega arith) words
      (known_values h words words-values)
      (whole-within (birth_at h) c pairs room few h names s within))

  pub grown-known : StandsAs grown DictionaryKind a 4
  grown-known = record {
    object = known.object;
    at = new.extends.same a known.object known.at;
    kind_is = known.kind_is;
    fits = known.fits;
  }

  grown-fields : fields_at grown a ≡ fields_at h a
  unfolding fields_at
  grown-fields = ap fields_of (new.extends.same a known.object known.at ∙ sym known.at)

  pub grown-birth : birth_at grown a ≡ birth_at h a
  unfolding birth_at
  grown-birth = ap birth_of (new.extends.same a known.object known.at ∙ sym known.at)

  -- ---- the fields that name it

  module _ (w x y z : Word) (count : IsNatural w (length pairs)) (capacity : IsNatural x c)
      (access : slice_get (fields_at h a) 2 ≡ Some y)
      (body_word : value_in z.0 ≡ record { content = Body b; executable = false })
      (count_held : IsValue h w) (capacity_held : IsValue h x) where
    abbrev four_words : List Word
    four_words = w ∷ x ∷ y ∷ z ∷ []

    abbrev end : Heap
    end = stored grown a 0 four_words

    access_natural : IsNatural y (shape h a known sound).access
    access_natural = subst (λ u. IsNatural u (shape h a known sound).access)
        (second-there (fields_at h a) _ _ _ _ y (shape h a known sound).are access)
        (shape h a known sound).access_is

    new_fields : splice (fields_at grown a) 0 four_words ≡ four_words
    new_fields =
        let n : length (fields_at grown a) ≡ 4 = ap length grown-fields ∙ four h a known sound in
        splice-zero (fields_at grown a) four_words
        ∙ (ap (λ ws. four_words ++ ws) (drop_all 4 (fields_at grown a) (omega (arith, n)))
        ∙ append-nil four_words)

    body-now : object_at grown b ≡ Some
        (record { kind = BodyKind; birth = birth_at grown a; fields = words })
    body-now = new.at ∙ ap (λ n. Some (record { kind = BodyKind; birth = n; fields = words }))
        (sym grown-birth)

    abbrev grown-shape : DictionaryFields grown (birth_at grown a)
        (splice (fields_at grown a) 0 four_words)
    grown-shape = record {
      count_word = w;
      capacity_word = x;
      access_word = y;
      body_word = z;
      are = new_fields;
      count = length pairs;
      capacity = c;
      access = (shape h a known sound).access;
      body = b;
      body_fields = words;
      count_is = count;
      capacity_is = capacity;
      access_is = access_natural;
      body_is = body_word;
      stands = body-now;
      within = room;
      room = words-long;
      few = few;
      indexed = whole-index (birth_at h) c pairs room
          ∙ (sym (index_words-kept h grown keeps c pairs known_keys)
          ∙ ap (index_words (birth_at grown) c) (sym (whole-pairs (birth_at h) c pairs room)));
    }

    end-sound : IsSound end
    end-sound = fields-sound grown a grown-known grown-sound 0 four_words (omega arith) grown-shape

    end-keeps : Keeps h end
    end-keeps = Keeps-then h grown end keeps
        (fields-keeps grown a grown-known grown-sound 0 four_words (omega arith) grown-shape)

    body_content : content_in z.0 ≡ Body b
    body_content = ap (λ (u : WordValue). u.content) body_word

    body_known : IsKnown grown z
    unfolding IsKnown
    body_known = subst (IsKnownContent grown) (sym body_content)
        (record { object = body; at = new.at; kind_is = refl; fits = omega arith })

    body_within : (names : List (List ℕ)) (s : Store) → IsWithin (birth_at grown) names s z
    unfolding IsWithin
    body_within names s = subst (IsWithinContent (birth_at grown) names s) (sym body_content) tt

    access_known : IsKnown grown y
    unfolding IsKnown
    access_known = subst (IsKnownContent grown)
        (sym (ap (λ (u : WordValue). u.content) access_natural)) tt

    four_known : AreKnown grown four_words
    four_known =
        let first = IsValue-kept h grown keeps w count_held in
        let second = IsValue-kept h grown keeps x capacity_held in
        (first.known, (second.known, (access_known, (body_known, tt))))

    pairs-kept : (names : List (List ℕ)) (ps : List (Word × Word)) → AreValues h (words_of_pairs ps)
        → map (pair_of (birth_at h) names) ps ≡ map (pair_of (birth_at grown) names) ps
    pairs-kept names [] all = refl
    pairs-kept names (p ∷ ps) all = λ i. (
      sym (value_of-kept h grown keeps names p.0 all.0.known) i,
      sym (value_of-kept h grown keeps names p.1 all.1.0.known) i,
    ) ∷ pairs-kept names ps all.1.1 i

    end-shows : (names : List (List ℕ)) (s : Store) → Shows h names s
        → AreWithin h names s (words_of_pairs pairs) →
        Shows end names (with_dictionary s (birth_at h a)
        (record (dictionary_at s (birth_at h a)) {
          pairs = map (pair_of (birth_at h) names) pairs;
          capacity = c;
        }))
    end-shows names s shows within =
        let d = dictionary_at s (birth_at h a) in
        let put = map (pair_of (birth_at h) names) pairs in
        subst (λ n. Shows end names
        (with_dictionary s n (record d { pairs = put; capacity = c })))
        grown-birth
        (fields-shows grown a grown-known grown-sound 0 four_words (omega arith) grown-shape names
        s (grown-shows names s shows within) four_known (
          natural-within w (length pairs) count (birth_at grown) names s,
          (
            natural-within x c capacity (birth_at grown) names s,
            (
              natural-within y (shape h a known sound).access access_natural (birth_at grown) names
                  s,
              (body_within names s, tt),
            ),
          ),
        )
        (record d { pairs = put; capacity = c }) pairs (index_words (birth_at h) c pairs)
        (sym (length-map pairs (pair_of (birth_at h) names))) refl
        (sym (access-is h a known sound) ∙ access-shown h a known sound names s shows)
        (pairs-kept names pairs held) refl)

    pub gets_body : GetsBody h a c pairs grown four_words
    gets_body = record {
      fits = (let same = ap length grown-fields in let n = four h a known sound in
          omega (arith, same, n));
      known = four_known;
      sound = end-sound;
      keeps = end-keeps;
      shows = end-shows;
    }

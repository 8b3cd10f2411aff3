-- A new dictionary with its body.
use Rattle.std.proofs.Common.{◌≡◌, ◌≢◌, ℕ, zero, suc, ◌≤◌, map, drop, ◌+◌, ◌*◌, ◌-◌, ◌⊎◌, false, List, [], ◌∷◌, ◌++◌, length, replicate, Some, None, refl, sym, ap, ◌∙◌, arith, subst, inl, inr}
use Rattle.std.specs.Prelude.{Option}
use Rattle.std.proofs.lemmas.List.{length-replicate}
use Rattle.std.proofs.lemmas.Bool.Decides.{eqb_tells}
use Rattle.ps_language.specs.declared.kinds.Kind.TheVariants.{Dictionary as DictionaryKind, Body as BodyKind}
use Rattle.ps_language.specs.Value.{dictionary_object, Store}
use Rattle.ps_language.specs.Access.{splice, empty_dictionary}
use Rattle.ps_word.specs.declared.words.Word.{Word}
use Rattle.ps_word.specs.declared.values.Content.TheVariants.{Body}
use Rattle.ps_word.specs.declared.values.Value.{Value as WordValue}
use Rattle.ps_word.specs.Format.{content_in, value_in}
use Rattle.ps_mem.specs.Heap.{Heap, Standing, object_at, birth_of, birth_at, fields_of, fields_at, stored, made, made_body, zero_word}
use Rattle.ps_mem.specs.Index.{index_word, index_of, index_words}
use Rattle.ps_mem.specs.Keeps.{Extends}
use Rattle.ps_mem.specs.References.{StandsAs, IsKnown, IsKnownContent, AreKnown}
use Rattle.ps_mem.specs.Shows.{IsNatural, IsValue, DictionaryFields, dictionary_fields, IsSound, IsWithin, IsWithinContent, Shows}
use Rattle.ps_mem.proofs.Lists.{splice-zero}
use Rattle.ps_mem.proofs.HeapLemmas.{object_at-made_same, object_at-made_other, object_at-made_body_same, object_at-made_body_other, object_at-stored_same, object_at-stored_other, next-stored, next-made, next-made_body}
use Rattle.ps_mem.proofs.KeepsLemmas.{Extends-then, Extends-made, Extends-made_body, Extends-stored}
use Rattle.ps_mem.proofs.NewShows.{IsSound-new_dictionary, Shows-new_dictionary}
use Rattle.ps_mem.proofs.ZeroLemmas.{AreValues-zeros, AreWithin-zeros}
use Rattle.ps_dict.specs.Places.{natural_in, body_in, count_at, capacity_at, body_at}
use Rattle.ps_dict.proofs.Shapes.{count-in, capacity-in, body-in}
use Rattle.ps_dict.proofs.Naturals.{natural-within}

pub more-zeros : (m n : ℕ) → replicate (m + n) zero_word ≡ replicate m zero_word
    ++ replicate n zero_word
more-zeros zero n = let same : 0 + n ≡ n = omega arith in ap (λ k. replicate k zero_word) same
more-zeros (suc m) n = let next : suc m + n ≡ suc (m + n) = omega arith in
    ap (λ k. replicate k zero_word) next ∙ ap (λ ws. zero_word ∷ ws) (more-zeros m n)

-- the index of no pairs is free everywhere
pub dropped-zeros : (m n : ℕ) → drop m (replicate (m + n) zero_word) ≡ replicate n zero_word
dropped-zeros zero n = ap (λ k. replicate k zero_word) (let e : 0 + n ≡ n = omega arith in e)
dropped-zeros (suc m) n =
    ap (λ k. drop (suc m) (replicate k zero_word))
    (let e : suc m + n ≡ suc (m + n) = omega arith in e) ∙ dropped-zeros m n

pub free-words : (n : ℕ) → replicate n zero_word ≡ map index_word (replicate n None)
free-words zero = refl
free-words (suc n) = ap (λ zs. zero_word ∷ zs) (free-words n)

pub drop-zeros : (k m n : ℕ) → m ≡ k + n → drop k (replicate m zero_word) ≡ replicate n zero_word
drop-zeros zero m n is = let same : m ≡ n = omega (arith, is) in
    ap (λ j. replicate j zero_word) same
drop-zeros (suc k) zero n is = absurd (omega arith)
drop-zeros (suc k) (suc m) n is = drop-zeros k m n (omega (arith, is))

-- words at the front of nulls
pub front-zeros : (items : List Word) (m n : ℕ) → m ≡ length items + n
    → splice (replicate m zero_word) 0 items ≡ items ++ replicate n zero_word
front-zeros items m n is = splice-zero (replicate m zero_word) items
    ∙ ap (λ ws. items ++ ws) (drop-zeros (length items) m n is)

pub no-index : (births : ℕ → ℕ) (c : ℕ) → replicate c zero_word ≡ index_words births c []
unfolding index_words index_of
no-index births c = free-words c

-- what holds once a dictionary without pairs is made: it stands at a, and its body at b
pub record IsMade (g k : Heap) (a b c : ℕ) : Type 0 where
  pub body : body_at k a ≡ b
  pub body_free : object_at g (body_at k a) ≡ None
  pub known : StandsAs k DictionaryKind a 4
  pub sound : IsSound k
  pub extends : Extends g k
  pub birth : birth_at k a ≡ g.next
  pub count : count_at k a ≡ 0
  pub capacity : capacity_at k a ≡ c
  pub shows : (names : List (List ℕ)) (s : Store) → Shows g names s
      → Shows k names (s ++ dictionary_object (empty_dictionary c) ∷ [])

module _ (g : Heap) (a : ℕ) (free : object_at g a ≡ None) (b c : ℕ)
    (body_free : object_at (made g a DictionaryKind 4) b ≡ None) where
  abbrev alone : Heap
  alone = made g a DictionaryKind 4

  abbrev pub both : Heap
  both = made_body alone b (birth_at alone a) (3 * c)

  birth-alone : birth_at alone a ≡ g.next
  unfolding birth_at
  birth-alone = ap birth_of (object_at-made_same g a DictionaryKind 4)

  abbrev blank : Standing
  blank = record { kind = DictionaryKind; birth = g.next; fields = replicate 4 zero_word }

  apart : b ≢ a
  apart same =
      let clash : ◌≡◌ {A = Option Standing} None (Some blank) = sym body_free
      ∙ (ap (object_at alone) same ∙ object_at-made_same g a DictionaryKind 4) in cc

  body_free_before : object_at g b ≡ None
  body_free_before = sym (object_at-made_other g a DictionaryKind 4 b (λ same. apart (sym same)))
      ∙ body_free

  blank-at : object_at both a ≡ Some blank
  blank-at = object_at-made_body_other alone b (birth_at alone a) (3 * c) a apart
      ∙ object_at-made_same g a DictionaryKind 4

  pub blank-fields : length (fields_at both a) ≡ 4
  unfolding fields_at
  blank-fields = ap (λ o. length (fields_of o)) blank-at

  abbrev body : Standing
  body = record { kind = BodyKind; birth = g.next; fields = replicate (3 * c) zero_word }

  body-at : object_at both b ≡ Some body
  body-at = object_at-made_body_same alone b (birth_at alone a) (3 * c)
      ∙ ap (λ n. Some (record { kind = BodyKind; birth = n; fields = replicate (3 * c) zero_word }))
      birth-alone

  module _ (w x y z : Word) (count : IsNatural w 0) (capacity : IsNatural x c)
      (access : IsNatural y 0) (reference : value_in z.0 ≡ record
      { content = Body b; executable = false })
      (count_held : IsValue both w) (capacity_held : IsValue both x) (access_held : IsValue both y)
      (few : c ≤ 21845) where
    abbrev four : List Word
    four = w ∷ x ∷ y ∷ z ∷ []

    abbrev pub whole : Heap
    whole = stored both a 0 four

    body_content : content_in z.0 ≡ Body b
    body_content = ap (λ (u : WordValue). u.content) reference

    body_known : IsKnown both z
    unfolding IsKnown
    body_known = subst (IsKnownContent both) (sym body_content)
        (record { object = body; at = body-at; kind_is = refl; fits = omega arith })

    pub four-known : AreKnown both four
    four-known = (count_held.known, (capacity_held.known, (access_held.known, (body_known, tt))))

    abbrev dictionary : Standing
    dictionary = record { kind = DictionaryKind; birth = g.next; fields = four }

    four_fields : splice (replicate 4 zero_word) 0 four ≡ four
    unfolding splice
    four_fields = refl

    whole-at : object_at whole a ≡ Some dictionary
    whole-at = object_at-stored_same both a 0 four blank blank-at
        ∙ ap (λ ws. Some (record { kind = DictionaryKind; birth = g.next; fields = ws }))
        four_fields

    whole-body : object_at whole b ≡ Some body
    whole-body = object_at-stored_other both a 0 four b (λ same. apart (sym same)) ∙ body-at

    whole-extends : Extends g whole
    whole-extends =
        Extends-stored g both a 0 four
        (Extends-then g alone both (Extends-made g a DictionaryKind 4 free)
        (Extends-made_body alone b (birth_at alone a) (3 * c) body_free)) free

    whole_next : whole.next ≡ g.next + 1
    whole_next = next-stored both a 0 four
        ∙ (next-made_body alone b (birth_at alone a) (3 * c) ∙ next-made g a DictionaryKind 4)

    only : (e : ℕ) (p : Standing) → object_at whole e ≡ Some p → object_at g e ≡ None
        → ((e ≡ a) × (p ≡ dictionary)) ⊎ ((e ≡ b) × (p ≡ body))
    only e p at none = elim (eqb_tells a e) [
      | inl (_, same) ↦ let one : Some dictionary ≡ Some p = sym whole-at
          ∙ (ap (object_at whole) same ∙ at) in inl (sym same, cc)
      | inr (_, other) ↦ elim (eqb_tells b e) [
        | inl (_, same) ↦ let one : Some body ≡ Some p = sym whole-body
            ∙ (ap (object_at whole) same ∙ at) in inr (sym same, cc)
        | inr (_, another) ↦
            let clash : None ≡ Some p = sym none
            ∙ (sym (object_at-made_other g a DictionaryKind 4 e other)
            ∙ (sym (object_at-made_body_other alone b (birth_at alone a) (3 * c) e another)
            ∙ (sym (object_at-stored_other both a 0 four e other) ∙ at))) in cc
      ]
    ]

    abbrev whole-fields : DictionaryFields whole g.next (w ∷ x ∷ y ∷ z ∷ [])
    whole-fields = record {
      count_word = w;
      capacity_word = x;
      access_word = y;
      body_word = z;
      are = refl;
      count = 0;
      capacity = c;
      access = 0;
      body = b;
      body_fields = replicate (3 * c) zero_word;
      count_is = count;
      capacity_is = capacity;
      access_is = access;
      body_is = reference;
      stands = whole-body;
      within = omega arith;
      room = length-replicate (3 * c) zero_word;
      few = few;
      indexed = ap (λ n. drop (2 * c) (replicate n zero_word))
          (let e : 3 * c ≡ 2 * c + c = omega arith in e)
          ∙ (dropped-zeros (2 * c) c ∙ no-index (birth_at whole) c);
    }

    fields_whole : fields_at whole a ≡ four
    unfolding fields_at
    fields_whole = ap fields_of whole-at

    whole-count : count_at whole a ≡ 0
    whole-count = subst (λ ws. natural_in ws 0 ≡ 0) (sym fields_whole)
        (count-in whole g.next four whole-fields)

    whole-capacity : capacity_at whole a ≡ c
    whole-capacity = subst (λ ws. natural_in ws 1 ≡ c) (sym fields_whole)
        (capacity-in whole g.next four whole-fields)

    whole-body_at : body_at whole a ≡ b
    whole-body_at = subst (λ ws. body_in ws 3 ≡ b) (sym fields_whole)
        (body-in whole g.next four whole-fields)

    whole-body_free : object_at g (body_at whole a) ≡ None
    whole-body_free = ap (object_at g) whole-body_at ∙ body_free_before

    whole-birth : birth_at whole a ≡ g.next
    unfolding birth_at
    whole-birth = ap birth_of whole-at

    whole-known : StandsAs whole DictionaryKind a 4
    whole-known = record { object = dictionary; at = whole-at; kind_is = refl; fits = omega arith }

    body_within : (names : List (List ℕ)) (t : Store) (u : Word) → content_in u.0 ≡ Body b
        → IsWithin (birth_at whole) names t u
    unfolding IsWithin
    body_within names t u is = subst (IsWithinContent (birth_at whole) names t) (sym is) tt

    module _ (sound : IsSound g) where
      whole-sound : IsSound whole
      whole-sound = IsSound-new_dictionary g whole whole-extends a b dictionary body sound only
          whole_next refl refl refl refl (dictionary_fields whole-fields)
          (AreValues-zeros whole (3 * c))

      whole-shows : (names : List (List ℕ)) (s : Store) → Shows g names s
          → Shows whole names (s ++ dictionary_object (empty_dictionary c) ∷ [])
      whole-shows names s shows =
          let t : Store = s ++ dictionary_object (empty_dictionary c) ∷ [] in
          Shows-new_dictionary g whole whole-extends a b dictionary body sound only whole_next refl
          refl refl refl (dictionary_fields whole-fields) (AreValues-zeros whole (3 * c)) names
          s (empty_dictionary c) shows
          (record {
            shape = whole-fields;
            count = refl;
            capacity = refl;
            access = refl;
            pairs = [];
            index = replicate c zero_word;
            holds = nulls;
            are = refl;
          }) (
            natural-within w 0 count (birth_at whole) names t,
            (
              natural-within x c capacity (birth_at whole) names t,
              (natural-within y 0 access (birth_at whole) names t, (reference_within t, tt)),
            ),
          )
          (AreWithin-zeros whole names t (3 * c))
        where
          nulls : replicate (3 * c) zero_word ≡ replicate (2 * (c - 0)) zero_word
              ++ replicate c zero_word
          nulls = let sum : 3 * c ≡ 2 * (c - 0) + c = omega arith in
              ap (λ n. replicate n zero_word) sum ∙ more-zeros (2 * (c - 0)) c

          reference_within : (t : Store) → IsWithin (birth_at whole) names t z
          reference_within t = body_within names t z body_content

      pub whole-made : IsMade g whole a b c
      whole-made = record {
        body = whole-body_at;
        body_free = whole-body_free;
        known = whole-known;
        sound = whole-sound;
        extends = whole-extends;
        birth = whole-birth;
        count = whole-count;
        capacity = whole-capacity;
        shows = whole-shows;
      }

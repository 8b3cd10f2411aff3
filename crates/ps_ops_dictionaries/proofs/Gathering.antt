-- The words of keys with their values, put together.
use Rattle.std.proofs.Common.{◌≡◌, ℕ, zero, suc, ◌+◌, ◌*◌, ◌++◌, arith, List, [], ◌∷◌, drop, length, map, slice_get}
use Rattle.std.proofs.Common.{Option, Some, None, refl, sym, ap, subst, ◌∙◌, append_assoc, length-append}
use Rattle.std.specs.Prelude.{fold, option_map, unwrap_or}
use Rattle.std.proofs.lemmas.List.{map-append}
use Rattle.ps_language.specs.Dictionaries.{meet, texts_of_key}
use Rattle.ps_language.specs.Equality.{key_of}
use Rattle.ps_language.specs.RowsDictionaries.{pairs_among}
use Rattle.ps_language.specs.Value.{Value, Store}
use Rattle.ps_word.specs.declared.words.Word.{Word}
use Rattle.ps_mem.specs.Heap.{Heap, birth_at}
use Rattle.ps_mem.specs.Index.{pairs_of_words}
use Rattle.ps_mem.specs.Meaning.{value_of}
use Rattle.ps_mem.specs.Shows.{AreValues, AreWithin, IsValue, IsWithin, Shows, pair_of}
use Rattle.ps_mem.proofs.Lists.{all_append}
use Rattle.ps_names.proofs.Places.{meet_new}
use Rattle.ps_ops_operands.proofs.Marks.{value_at}
use Rattle.ps_ops_operands.specs.Changes.{values_in}
use Rattle.ps_step_lookup.specs.declared.keys.Key.{Key}
use Rattle.ps_step_lookup.specs.declared.keys.Key.TheVariants.{Met, Unmet, TooLong}
use Rattle.ps_step_lookup.specs.Keys.{IsKey, IsKeyIn, IsKeyOf, IsKeyWord, IsNamed, word_in}
use Rattle.ps_ops_dictionaries.specs.Literals.{texts_among}
use Rattle.ps_ops_dictionaries.proofs.Elements.{fold_least, key_met, met_from, within_at}

-- ---- words in twos

twos_append : (ws : List Word) (n : ℕ) (a b : Word) → length ws ≡ 2 * n
    → pairs_of_words ((ws ++ a ∷ []) ++ b ∷ []) ≡ pairs_of_words ws ++ (a, b) ∷ []
unfolding pairs_of_words
twos_append [] n a b even = refl
twos_append (x ∷ []) n a b even = absurd (omega (arith, even))
twos_append (x ∷ y ∷ ws) zero a b even = absurd (omega (arith, even))
twos_append (x ∷ y ∷ ws) (suc n) a b even =
    ap (λ (ps : List (Word × Word)). (x, y) ∷ ps) (twos_append ws n a b (omega (arith, even)))

-- ---- pairs among values

next_two : (i : ℕ) → 2 * suc i ≡ suc (suc (2 * i))
next_two i = omega arith

next_three : (i : ℕ) → 2 * suc i + 1 ≡ suc (suc (2 * i + 1))
next_three i = omega arith

pairs_from : (s : Store) (values : List Value) (i : ℕ) (k x : Value)
    → slice_get values (2 * i) ≡ Some k → slice_get values (2 * i + 1) ≡ Some x
    → pairs_among s (drop (2 * i) values)
    ≡ option_map (λ (pairs : List (Value × Value)). (key_of s k, x) ∷ pairs)
    (pairs_among s (drop (2 * (i + 1)) values))
pairs_from s [] i k x at next = cc
pairs_from s (v ∷ []) zero k x at next = cc
pairs_from s (v ∷ u ∷ more) zero k x at next =
    let is : v ≡ k = cc in
    let also : u ≡ x = cc in
    λ i. option_map (λ (pairs : List (Value × Value)). (key_of s (is i), also i) ∷ pairs)
    (pairs_among s more)
pairs_from s (v ∷ []) (suc i) k x at next =
    let there : slice_get (v ∷ []) (suc (suc (2 * i))) ≡ Some k =
    sym (ap (slice_get (v ∷ [])) (next_two i)) ∙ at in cc
pairs_from s (v ∷ u ∷ more) (suc i) k x at next =
    let there : slice_get more (2 * i) ≡ Some k =
    sym (ap (slice_get (v ∷ u ∷ more)) (next_two i)) ∙ at in
    let also : slice_get more (2 * i + 1) ≡ Some x =
    sym (ap (slice_get (v ∷ u ∷ more)) (next_three i)) ∙ next in
    let after : 2 * (suc i + 1) ≡ suc (suc (2 * (i + 1))) = omega arith in
    ap (λ (n : ℕ). pairs_among s (drop n (v ∷ u ∷ more))) (next_two i)
    ∙ (pairs_from s more i k x there also
    ∙ ap (λ (n : ℕ). option_map (λ (pairs : List (Value × Value)). (key_of s k, x) ∷ pairs)
    (pairs_among s (drop n (v ∷ u ∷ more)))) (sym after))

one_behind : (front : List (Value × Value)) (pair : Value × Value)
    (more : Option (List (Value × Value)))
    → option_map (λ (ps : List (Value × Value)). front ++ ps)
    (option_map (λ (ps : List (Value × Value)). pair ∷ ps) more)
    ≡ option_map (λ (ps : List (Value × Value)). (front ++ pair ∷ []) ++ ps) more
one_behind front pair None = refl
one_behind front pair (Some ps) =
    ap (λ (xs : List (Value × Value)). Some xs) (sym (append_assoc front (pair ∷ []) ps))

-- ---- a key whose name is met

module _ (births : ℕ → ℕ) (names : List (List ℕ)) (s : Store) (k : Value)
    (rest : List (List ℕ))
    (none : fold meet (fold meet names (texts_of_key s k)) rest ≡ names) where
  not_named : (text : List ℕ) → IsNamed names s k text → ⊥
  not_named text is =
      let more = ap length (ap (fold meet names) is.texts ∙ sym (meet_new text names is.unmet))
      ∙ length-append names (text ∷ []) in
      let least = fold_least (fold meet names (texts_of_key s k)) rest in
      let same = ap length none in
      omega (arith, more, least, same)

  met_word : (key : Key) → IsKeyIn births names s k key
      → (w : Word) × (key ≡ Met w) × IsKey births names s k w
  met_word (Met w) is = (w, refl, is)
  met_word (Unmet text) is = absurd (not_named text.items is.0)
  met_word TooLong is = absurd (not_named is.0 is.1)

-- what is put for a key refers to what stands
key_held : (h : Heap) (names : List (List ℕ)) (e : Word) (key : Key) → IsValue h e
    → IsKeyWord h names key → IsValue h (unwrap_or (word_in key) e)
key_held h names e (Met w) held is = is
key_held h names e (Unmet text) held is = held
key_held h names e TooLong held is = held

-- and is within each store under these names
key_within : (births : ℕ → ℕ) (names : List (List ℕ)) (s : Store) (k : Value) (e : Word)
    (key : Key) → IsWithin births names s e → IsKeyIn births names s k key
    → IsWithin births names s (unwrap_or (word_in key) e)
key_within births names s k e (Met w) within is = is.within
key_within births names s k e (Unmet text) within is = within
key_within births names s k e TooLong within is = within

module _ (h : Heap) (names : List (List ℕ)) (elements : List Word) (i : ℕ) (e x : Word)
    (at : slice_get elements (2 * i) ≡ Some e) (next : slice_get elements (2 * i + 1) ≡ Some x)
    (key : Key) (is : IsKeyOf h names e key) (w : Word) (word : w ≡ unwrap_or (word_in key) e)
    (words : List Word) where
  pub gathered_held : AreValues h elements → AreValues h words
      → AreValues h ((words ++ w ∷ []) ++ x ∷ [])
  gathered_held held so_far =
      all_append (IsValue h) (words ++ w ∷ []) (x ∷ [])
      (all_append (IsValue h) words (w ∷ []) so_far (
        subst (IsValue h) (sym word)
            (key_held h names e key (within_at (IsValue h) elements (2 * i) e at held) is.held),
        tt,
      ))
      (within_at (IsValue h) elements (2 * i + 1) x next held, tt)

  pub gathered_within : (s : Store) → Shows h names s → AreWithin h names s elements
      → AreWithin h names s words → AreWithin h names s ((words ++ w ∷ []) ++ x ∷ [])
  gathered_within s shows within so_far =
      let here = within_at (IsWithin (birth_at h) names s) elements (2 * i) e at within in
      all_append (IsWithin (birth_at h) names s) (words ++ w ∷ []) (x ∷ [])
      (all_append (IsWithin (birth_at h) names s) words (w ∷ []) so_far (
        subst (IsWithin (birth_at h) names s) (sym word)
            (key_within (birth_at h) names s (value_of (birth_at h) names e) e key here
            (is.shown s shows here)),
        tt,
      ))
      (within_at (IsWithin (birth_at h) names s) elements (2 * i + 1) x next within, tt)

  module _ (count : length words ≡ 2 * i) (s : Store) (shows : Shows h names s)
      (within : AreWithin h names s elements) where
    abbrev births : ℕ → ℕ
    births = birth_at h

    abbrev values : List Value
    values = values_in h names elements

    abbrev k : Value
    k = value_of births names e

    abbrev v : Value
    v = value_of births names x

    abbrev pairs_in : List Word → List (Value × Value)
    pairs_in ws = map (pair_of births names) (pairs_of_words ws)

    pub gathered : (pairs_among s values
        ≡ option_map (λ (more : List (Value × Value)). pairs_in words ++ more)
        (pairs_among s (drop (2 * i) values)))
        × AreWithin h names s words
        × (fold meet names (texts_among s (drop (2 * i) values)) ≡ names)
        → (pairs_among s values
        ≡ option_map (λ (more : List (Value × Value)).
        pairs_in ((words ++ w ∷ []) ++ x ∷ []) ++ more)
        (pairs_among s (drop (2 * (i + 1)) values)))
        × AreWithin h names s ((words ++ w ∷ []) ++ x ∷ [])
        × (fold meet names (texts_among s (drop (2 * (i + 1)) values)) ≡ names)
    gathered before =
        let key_there = value_at births names elements (2 * i) e at in
        let value_there = value_at births names elements (2 * i + 1) x next in
        let rest = texts_among s (drop (2 * (i + 1)) values) in
        let from = met_from s values i k key_there names names (sym before.2) in
        let it = met_word births names s k rest (sym from) key
        (is.shown s shows (within_at (IsWithin births names s) elements (2 * i) e at within)) in
        let known : fold meet names (texts_of_key s k) ≡ names =
        key_met births names s k (Met it.0) it.2 tt in
        let word_is : w ≡ it.0 =
        word ∙ ap (λ (o : Key). unwrap_or (word_in o) e) it.1 in
        let key_is : key_of s k ≡ value_of births names w =
        it.2.is ∙ ap (value_of births names) (sym word_is) in
        let pairs_are : pairs_in ((words ++ w ∷ []) ++ x ∷ [])
        ≡ pairs_in words ++ (key_of s k, v) ∷ [] =
        ap (map (pair_of births names)) (twos_append words i w x count)
        ∙ (map-append (pair_of births names) (pairs_of_words words) ((w, x) ∷ [])
        ∙ ap (λ (u : Value). pairs_in words ++ (u, v) ∷ []) (sym key_is)) in (
          before.0
              ∙ (ap (option_map (λ (more : List (Value × Value)). pairs_in words ++ more))
              (pairs_from s values i k v key_there value_there)
              ∙ (one_behind (pairs_in words) (key_of s k, v)
              (pairs_among s (drop (2 * (i + 1)) values))
              ∙ ap (λ (front : List (Value × Value)).
              option_map (λ (more : List (Value × Value)). front ++ more)
              (pairs_among s (drop (2 * (i + 1)) values))) (sym pairs_are))),
          all_append (IsWithin births names s) (words ++ w ∷ []) (x ∷ [])
              (all_append (IsWithin births names s) words (w ∷ []) before.1
              (subst (IsWithin births names s) (sym word_is) it.2.within, tt))
              (within_at (IsWithin births names s) elements (2 * i + 1) x next within, tt),
          ap (λ (ns : List (List ℕ)). fold meet ns rest) (sym known) ∙ sym from,
        )

-- none is there at first
pub gathered_none : (s : Store) (births : ℕ → ℕ) (names : List (List ℕ)) (values : List Value)
    (words : List Word) → words ≡ []
    → pairs_among s values ≡ option_map (λ (more : List (Value × Value)).
    map (pair_of births names) (pairs_of_words words) ++ more) (pairs_among s values)
unfolding pairs_of_words
gathered_none s births names values words empty =
    same (pairs_among s values)
    ∙ ap (λ (ws : List Word). option_map (λ (more : List (Value × Value)).
    map (pair_of births names) (pairs_of_words ws) ++ more) (pairs_among s values)) (sym empty)
  where
    same : (o : Option (List (Value × Value)))
        → o ≡ option_map (λ (more : List (Value × Value)). [] ++ more) o
    same None = refl
    same (Some more) = refl

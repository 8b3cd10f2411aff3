-- What values refer to stands in a sound memory, and what the objects refer to that it shows.
use Rattle.std.proofs.Common.{◌≡◌, ◌≢◌, ℕ, List, [], ◌∷◌, ◌++◌, map, Some, None, slice_get, sym, ap, ◌∙◌, subst}
use Rattle.std.specs.List.{AllByRecursion}
use Rattle.ps_language.specs.declared.kinds.Kind.{Kind}
use Rattle.ps_language.specs.declared.kinds.Kind.TheVariants as kinds
use Rattle.ps_language.specs.Live.{references_in, references_of, references_of_pairs, references_of_object, references_of_option, references_at}
use Rattle.ps_language.specs.Value.{Object, Store}
use Rattle.ps_word.specs.declared.words.Word.{Word}
use Rattle.ps_word.specs.declared.values.Content.{Content}
use Rattle.ps_word.specs.declared.values.Content.TheVariants.{Array, Text, Dictionary, Lock, Condition}
use Rattle.ps_word.specs.Format.{IsAddress, content_in}
use Rattle.ps_mem.specs.Heap.{Heap, Standing, object_at, birth_of, birth_at}
use Rattle.ps_mem.specs.Meaning.{what_of, value_of}
use Rattle.ps_mem.specs.References.{StandsAs, IsKnown, IsKnownContent}
use Rattle.ps_mem.specs.Shows.{IsValue, AreValues, AreFields, IsSound, words_of_pairs, pair_of, IsShown, shown_array, shown_text, shown_dictionary, shown_lock, shown_condition, Shows}
use Rattle.ps_mem.specs.Stands.{IsAddressed, IsStanding}
use Rattle.ps_mem.proofs.Lists.{all_append}
use Rattle.ps_mem.proofs.ShowsLemmas.{array_values, body_values}

-- what stands has an address of 24 bits
pub address-below : (h : Heap) → IsAddressed h → (a : ℕ) (o : Standing) → object_at h a ≡ Some o
    → IsAddress a
address-below h addressed a o at =
    addressed a (λ none. let clash : None ≡ Some o = sym none ∙ at in cc)

module _ (h : Heap) where
  abbrev AllStand : List ℕ → Type 0
  AllStand births = AllByRecursion (IsStanding h) births

  -- its birth number, at an address of a kind
  pub birth-stands : {kind : Kind} {a n : ℕ} → StandsAs h kind a n → kind ≢ kinds.Body
      → IsStanding h (birth_at h a)
  unfolding birth_at
  birth-stands {a = a} stands whole = record {
    address = a;
    object = stands.object;
    at = stands.at;
    whole = λ e. whole (sym stands.kind_is ∙ e);
    born = sym (ap birth_of stands.at);
  }

  -- ---- what words refer to

  module _ (names : List (List ℕ)) where
    content-stands : (c : Content) → IsKnownContent h c
        → AllStand (references_in (what_of (birth_at h) names c))
    content-stands (Array p) known = (birth-stands known (λ e. cc), tt)
    content-stands (Text p) known = (birth-stands known (λ e. cc), tt)
    content-stands (Dictionary a) known = (birth-stands known (λ e. cc), tt)
    content-stands (Lock a) known = (birth-stands known (λ e. cc), tt)
    content-stands (Condition a) known = (birth-stands known (λ e. cc), tt)
    content-stands _ known = tt

    pub value-stands : (w : Word) → IsValue h w
        → AllStand (references_in (value_of (birth_at h) names w).what)
    unfolding value_of IsKnown
    value-stands w value = content-stands (content_in w.0) value.known

    pub values-stand : (words : List Word) → AreValues h words
        → AllStand (references_of (map (value_of (birth_at h) names) words))
    values-stand [] values = tt
    values-stand (w ∷ words) values =
        all_append (IsStanding h) (references_in (value_of (birth_at h) names w).what) _
        (value-stands w values.0) (values-stand words values.1)

    pairs-stand : (pairs : List (Word × Word)) (rest : List Word)
        → AreValues h (words_of_pairs pairs ++ rest)
        → AllStand (references_of_pairs (map (pair_of (birth_at h) names) pairs))
    pairs-stand [] rest values = tt
    pairs-stand (pair ∷ pairs) rest values =
        let key = references_in (value_of (birth_at h) names pair.0).what in
        let value = references_in (value_of (birth_at h) names pair.1).what in
        all_append (IsStanding h) (key ++ value) _
        (all_append (IsStanding h) key value (value-stands pair.0 values.0)
        (value-stands pair.1 values.1.0))
        (pairs-stand pairs rest values.1.1)

    -- ---- what objects refer to

    module _ (sound : IsSound h) where
      object-stands : {kind : Kind} {birth : ℕ} {fields : List Word} {object : Object}
          → AreFields h kind birth fields → IsShown h names kind birth fields object
          → AllStand (references_of_object object)
      object-stands are (shown_array {birth = birth} {fields = fields} e) =
          subst (λ values. AllStand (references_of values)) (sym e)
          (values-stand fields (array_values h birth fields are))
      object-stands are (shown_text bytes words) = tt
      object-stands are (shown_dictionary {birth = birth} s) =
          subst (λ pairs. AllStand (references_of_pairs pairs)) (sym s.are)
          (pairs-stand s.pairs _ (subst (AreValues h) s.holds
          (body_values h birth s.shape.body_fields (sound.fields s.shape.body _ s.shape.stands))))
      object-stands are (shown_lock owner) = tt
      object-stands are shown_condition = tt

      -- what an object of the store refers to stands where it stands itself
      pub references-stand : (store : Store) → Shows h names store → (birth : ℕ)
          → IsStanding h birth → AllStand (references_at store birth)
      references-stand store shows birth stands =
          let shown = shows.objects stands.address stands.object stands.at stands.whole in
          let there : slice_get store birth ≡ Some shown.object =
          ap (slice_get store) (sym stands.born) ∙ shown.there in
          subst (λ found. AllStand (references_of_option found)) (sym there)
          (object-stands (sound.fields stands.address stands.object stands.at) shown.shown)

-- Arrays of a memory as lists of values.
use Rattle.std.proofs.Common.{◌≡◌, ◌≢◌, ℕ, ◌+◌, ◌-◌, ◌≤◌, List, [], ◌∷◌, length, map, take, drop, Some, sym, ap, arith, ◌∙◌, subst, length-drop}
use Rattle.std.specs.Prelude.{slice_get, slice_set, slice_range}
use Rattle.std.proofs.Common.{zero, suc}
use Rattle.std.proofs.lemmas.List.{length-take-le, take-map}
use Rattle.ps_language.specs.declared.kinds.Kind.TheVariants.{Array as ArrayKind, Text as TextKind}
use Rattle.ps_language.specs.Value.{Value, Store, Object, array_object}
use Rattle.ps_language.specs.Access.{splice, elements, with_elements}
use Rattle.ps_word.specs.declared.words.Word.{Word}
use Rattle.ps_mem.specs.Heap.{Heap, Standing, birth_of, birth_at, fields_at, fields_of, stored}
use Rattle.ps_mem.specs.Keeps.{Keeps}
use Rattle.ps_mem.specs.References.{StandsAs, NamesStanding}
use Rattle.ps_mem.specs.Meaning.{value_of}
use Rattle.ps_mem.specs.Shows.{IsValue, AreValues, AreFields, IsSound, IsWithin, AreWithin, Shows}
use Rattle.ps_mem.proofs.Lists.{slice_get-map, all_at, all_take, all_drop, drop-map, splice-nil}
use Rattle.ps_mem.proofs.KeepsLemmas.{Keeps-stored, known_values}
use Rattle.ps_mem.proofs.ShowsLemmas.{array_values}
use Rattle.ps_mem.proofs.StoreLemmas.{IsSound-stored_array}
use Rattle.ps_mem.proofs.StoreShows.{array-shown, elements-shown, Shows-stored_array}

module _ (h : Heap) (a n : ℕ) (known : StandsAs h ArrayKind a n) where
  abbrev pub array : Standing
  array = known.object

  pub fields-array : fields_at h a ≡ array.fields
  unfolding fields_at
  fields-array = ap fields_of known.at

  pub birth-array : birth_at h a ≡ array.birth
  unfolding birth_at
  birth-array = ap birth_of known.at

  pub array_reaches : n ≤ length (fields_at h a)
  array_reaches = subst (λ (ws : List Word). n ≤ length ws) (sym fields-array) known.fits

  pub array_is_no_text : array.kind ≢ TextKind
  array_is_no_text k = let clash : ArrayKind ≡ TextKind = sym known.kind_is ∙ k in cc

  module _ (sound : IsSound h) where
    pub array_fields_values : AreValues h array.fields
    array_fields_values = array_values h array.birth array.fields (subst
        (λ k. AreFields h k array.birth array.fields) known.kind_is (sound.fields a array known.at))

    module _ (i : ℕ) (w : Word) (read : slice_get (fields_at h a) i ≡ Some w) where
      read_here : slice_get array.fields i ≡ Some w
      read_here = sym (ap (λ ws. slice_get ws i) fields-array) ∙ read

      pub element_held : IsValue h w
      element_held = all_at (IsValue h) array.fields i w array_fields_values read_here

      pub element_within : (names : List (List ℕ)) (s : Store) → Shows h names s → IsWithin
          (birth_at h) names s w
      element_within names s shows = all_at (IsWithin (birth_at h) names s) array.fields i w
          (shows.within a array known.at array_is_no_text) read_here

      pub element_value : (names : List (List ℕ)) (s : Store) → Shows h names s → slice_get
          (elements s (birth_at h a)) i ≡ Some (value_of (birth_at h) names w)
      element_value names s shows =
          ap (λ b. slice_get (elements s b) i) birth-array
          ∙ (ap (λ es. slice_get es i) (elements-shown h names s shows a array known.at
          known.kind_is)
          ∙ slice_get-map (value_of (birth_at h) names) array.fields i w read_here)

    -- ---- a store

    module _ (place : ℕ) (items : List Word) (fits : place + length items ≤ n)
        (values : AreValues h items) where
      inside : place + length items ≤ length array.fields
      inside = let reach = known.fits in omega (arith, fits, reach)

      pub array_store_sound : IsSound (stored h a place items)
      array_store_sound = IsSound-stored_array h a place items array known.at inside sound
          known.kind_is values

      pub array_store_keeps : Keeps h (stored h a place items)
      array_store_keeps = Keeps-stored h a place items array known.at inside

      pub array_store_shows : (names : List (List ℕ)) (s : Store) → Shows h names s
          → AreWithin h names s items →
          Shows (stored h a place items) names (with_elements s (birth_at h a) (splice (elements s
          (birth_at h a)) place (map (value_of (birth_at h) names) items)))
      array_store_shows names s shows within =
          subst (λ b. Shows (stored h a place items) names (with_elements s b (splice
          (elements s b) place (map (value_of (birth_at h) names) items)))) (sym birth-array)
          (Shows-stored_array h a place items array known.at inside sound names s shows
          known.kind_is values within)

-- one word that is known
pub names_standing : (h : Heap) (address : ℕ) (words : List Word) → AreValues h words
    → NamesStanding h address words
names_standing h address words values = record { known = λ o at text. known_values h words values }

-- ---- a run of elements

module _ (h : Heap) (a n : ℕ) (known : StandsAs h ArrayKind a n) (i count : ℕ)
    (fits : i + count ≤ n) where
  abbrev pub run : List Word
  run = slice_range (fields_at h a) i (i + count)

  pub length_run : length run ≡ count
  length_run =
      let reach = array_reaches h a n known in
      let long : (i + count) - i ≡ count = omega arith in
      ap (λ k. length (take k (drop i (fields_at h a)))) long ∙ length-take-le count (drop i
      (fields_at h a)) (omega (arith, reach, fits, length-drop i (fields_at h a)))

  pub run_values : IsSound h → AreValues h run
  run_values sound =
      subst (λ (ws : List Word). AreValues h (slice_range ws i (i + count))) (sym
      (fields-array h a n known))
      (all_take (IsValue h) ((i + count) - i) (drop i known.object.fields) (all_drop
      (IsValue h) i known.object.fields (array_fields_values h a n known sound)))

  pub run_within : (names : List (List ℕ)) (s : Store) → Shows h names s → AreWithin h names s run
  run_within names s shows =
      subst (λ (ws : List Word). AreWithin h names s (slice_range ws i (i + count))) (sym
      (fields-array h a n known))
      (all_take (IsWithin (birth_at h) names s) ((i + count) - i) (drop i known.object.fields)
      (all_drop (IsWithin (birth_at h) names s) i known.object.fields
      (shows.within a known.object known.at (array_is_no_text h a n known))))

  pub run_elements : (names : List (List ℕ)) (s : Store) → Shows h names s → map (value_of
      (birth_at h) names) run ≡ slice_range (elements s (birth_at h a)) i (i + count)
  run_elements names s shows =
      let es : elements s (birth_at h a) ≡ map (value_of (birth_at h) names) known.object.fields =
      ap (elements s) (birth-array h a n known) ∙ elements-shown h names s shows a known.object
      known.at known.kind_is in
      ap (λ (ws : List Word). map (value_of (birth_at h) names) (slice_range ws i (i + count)))
      (fields-array h a n known)
      ∙ (sym (take-map (value_of (birth_at h) names) ((i + count) - i) (drop i known.object.fields))
      ∙ (ap (take ((i + count) - i)) (sym (drop-map (value_of
      (birth_at h) names) i known.object.fields))
      ∙ ap (λ vs. slice_range vs i (i + count)) (sym es)))

-- ---- nothing copied

pub set_same : (s : Store) (b : ℕ) (object : Object) → slice_get s b ≡ Some object
    → slice_set s b object ≡ s
set_same [] b object e = cc
set_same (x ∷ s) zero object e = let same : x ≡ object = cc in ap (λ y. y ∷ s) (sym same)
set_same (x ∷ s) (suc b) object e = ap (λ ys. x ∷ ys) (set_same s b object e)

pub nothing_copied : (h : Heap) (a n : ℕ) (known : StandsAs h ArrayKind a n) (names : List (List ℕ))
    (s : Store) → Shows h names s → (place from : ℕ) (es : List Value) →
    with_elements s (birth_at h a) (splice (elements s (birth_at h a)) place (slice_range es from
    (from + 0))) ≡ s
unfolding with_elements
nothing_copied h a n known names s shows place from es =
    let none : (from + 0) - from ≡ 0 = omega arith in
    let b = birth_at h a in
    let there : slice_get s b ≡ Some (array_object (map (value_of
    (birth_at h) names) known.object.fields)) =
    ap (slice_get s) (birth-array h a n known) ∙ array-shown h names s shows a known.object known.at
    known.kind_is in
    let es_is : elements s b ≡ map (value_of (birth_at h) names) known.object.fields =
    ap (elements s) (birth-array h a n known) ∙ elements-shown h names s shows a known.object
    known.at known.kind_is in
    ap (λ k. slice_set s b (array_object (splice (elements s b) place (take k
    (drop from es))))) none
    ∙ (ap (λ vs. slice_set s b (array_object vs)) (splice-nil (elements s b) place)
    ∙ (ap (λ vs. slice_set s b (array_object vs)) es_is ∙ set_same s b _ there))

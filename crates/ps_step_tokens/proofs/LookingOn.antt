-- A look-up over a memory that is extended, and a store with objects more.
use Rattle.std.proofs.Common.{◌≡◌, ℕ, ◌++◌, arith, List, [], ◌∷◌, slice_get, Option, Some, refl, ap}
use Rattle.ps_language.specs.declared.access.Access.{Access}
use Rattle.ps_language.specs.declared.errors.ErrorName.TheVariants.{InvalidAccess}
use Rattle.ps_language.specs.declared.kinds.Kind.{Kind}
use Rattle.ps_language.specs.Access.{access_in, access_of, dictionary_at, dictionary_object_in, is_readable, may_read}
use Rattle.ps_language.specs.Access.{permits}
use Rattle.ps_language.specs.Dictionaries.{find, found_in, look_up, pairs_in, pairs_of}
use Rattle.ps_language.specs.Outcome.{given_that}
use Rattle.ps_language.specs.Readers.{as_dictionary, dictionary_in, executable_name}
use Rattle.ps_language.specs.StepValues.{looked_up, seen}
use Rattle.ps_language.specs.Value.{Object, Value, Store}
use Rattle.ps_word.specs.declared.words.Word.{Word}
use Rattle.ps_word.specs.declared.values.Content.{Content}
use Rattle.ps_word.specs.declared.values.Content.TheVariants.{Null, Integer, Boolean, Mark, Name, Operator, Array, Text}
use Rattle.ps_word.specs.declared.values.Content.TheVariants.{Dictionary, Lock, Condition, Body}
use Rattle.ps_word.specs.Format.{content_in}
use Rattle.ps_mem.specs.Heap.{Heap, birth_at, birth_of}
use Rattle.ps_mem.specs.Keeps.{Keeps}
use Rattle.ps_mem.specs.Meaning.{value_of, what_of}
use Rattle.ps_mem.specs.References.{IsKnown, IsKnownContent, StandsAs}
use Rattle.ps_mem.specs.Shows.{AreValues, IsSound, IsValue, Shows}
use Rattle.ps_mem.proofs.KeepsLemmas.{values_of-kept, known_values}
use Rattle.ps_mem.proofs.NewShows.{slice_get-append_left}
use Rattle.ps_ops_operands.specs.Changes.{values_in}
use Rattle.ps_step_tokens.specs.Missing.{look_by}

module _ (h : Heap) (names : List (List ℕ)) (sound : IsSound h) (s more : Store)
    (shows : Shows h names s) where
  stands_same : (kind : Kind) (a n : ℕ) → StandsAs h kind a n
      → slice_get (s ++ more) (birth_at h a) ≡ slice_get s (birth_at h a)
  unfolding birth_at
  stands_same kind a n stands =
      let below = sound.below a stands.object stands.at in
      let next = shows.next in
      let birth : birth_at h a ≡ stands.object.birth = ap birth_of stands.at in
      slice_get-append_left s more (birth_at h a) (omega (arith, below, next, birth))

  access_same : (content : Content) → IsKnownContent h content
      → access_in (s ++ more) (what_of (birth_at h) names content)
      ≡ access_in s (what_of (birth_at h) names content)
  unfolding dictionary_at
  access_same (Dictionary a) known =
      ap (λ (o : Option Object). Some (dictionary_object_in o).access)
      (stands_same _ a _ known)
  access_same Null known = refl
  access_same (Integer _) known = refl
  access_same (Boolean _) known = refl
  access_same Mark known = refl
  access_same (Name _) known = refl
  access_same (Operator _) known = refl
  access_same (Array _) known = refl
  access_same (Text _) known = refl
  access_same (Lock _) known = refl
  access_same (Condition _) known = refl
  access_same (Body _) known = refl

  pairs_same : (content : Content) → IsKnownContent h content
      → pairs_in (s ++ more) (dictionary_in (what_of (birth_at h) names content))
      ≡ pairs_in s (dictionary_in (what_of (birth_at h) names content))
  unfolding dictionary_at
  pairs_same (Dictionary a) known =
      ap (λ (o : Option Object). (dictionary_object_in o).pairs) (stands_same _ a _ known)
  pairs_same Null known = refl
  pairs_same (Integer _) known = refl
  pairs_same (Boolean _) known = refl
  pairs_same Mark known = refl
  pairs_same (Name _) known = refl
  pairs_same (Operator _) known = refl
  pairs_same (Array _) known = refl
  pairs_same (Text _) known = refl
  pairs_same (Lock _) known = refl
  pairs_same (Condition _) known = refl
  pairs_same (Body _) known = refl

  read_same : (w : Word) → IsValue h w → may_read (s ++ more) (value_of (birth_at h) names w)
      ≡ may_read s (value_of (birth_at h) names w)
  unfolding access_of value_of IsKnown
  read_same w value =
      ap (λ (a : Option Access). permits is_readable a)
      (access_same (content_in w.0) value.known)

  held_same : (w : Word) → IsValue h w → pairs_of (s ++ more) (value_of (birth_at h) names w)
      ≡ pairs_of s (value_of (birth_at h) names w)
  unfolding as_dictionary value_of IsKnown
  held_same w value = pairs_same (content_in w.0) value.known

  found_same : (key : Value) (ws : List Word) → AreValues h ws
      → look_up (s ++ more) (values_in h names ws) key ≡ look_up s (values_in h names ws) key
  found_same key [] held = refl
  found_same key (w ∷ ws) held = λ i. given_that (read_same w held.0 i) InvalidAccess
      (found_in (find (held_same w held.0 i) key) (value_of (birth_at h) names w)
      (found_same key ws held.1 i))

  -- by the same memory
  pub look_more : (dictionaries : List Word) → AreValues h dictionaries
      → look_by h names dictionaries (s ++ more) ≡ look_by h names dictionaries s
  unfolding looked_up
  look_more dictionaries held =
      λ i text. seen (found_same (executable_name text) dictionaries held i)

-- by one that keeps what stood
pub look_kept : (g h : Heap) → Keeps g h → (names : List (List ℕ)) (dictionaries : List Word)
    → AreValues g dictionaries → (s : Store)
    → look_by h names dictionaries s ≡ look_by g names dictionaries s
look_kept g h keeps names dictionaries held s =
    let same = values_of-kept g h keeps names dictionaries (known_values g dictionaries held) in
    λ i text. looked_up (executable_name text) (same i) s

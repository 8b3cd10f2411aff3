-- A put of a key that may be a string, by the put of its word.
use Rattle.std.proofs.Common.{◌≡◌, ℕ, ◌++◌, List, [], drop, Some, true, false, Result, refl, sym, ap, ◌∙◌, append-nil}
use Rattle.ps_language.specs.declared.access.Access.{Access}
use Rattle.ps_language.specs.declared.errors.ErrorName.TheVariants.{InvalidAccess, LimitCheck}
use Rattle.ps_language.specs.Value.{Value, Store}
use Rattle.ps_language.specs.Access.{dictionary_at, is_writable, with_dictionary}
use Rattle.ps_language.specs.Dictionaries.{holding, put_pair, form, texts_of_key, fits_key}
use Rattle.ps_language.specs.Effect.{Scene, raises}
use Rattle.ps_language.specs.Acts.{naming_effect}
use Rattle.ps_language.specs.Equality.{key_of}
use Rattle.ps_language.specs.Objects.{changing}
use Rattle.ps_language.specs.Outcome.{given, unnamed}
use Rattle.ps_word.specs.declared.words.Word.{Word}
use Rattle.ps_mem.specs.Heap.{birth_at}
use Rattle.ps_mem.specs.Meaning.{value_of}
use Rattle.ps_mem.specs.Shows.{IsWithin, Shows}
use Rattle.ps_mem.proofs.NameLemmas.{value_of-named}
use Rattle.ps_dict.specs.Puts.{planned, records_of}
use Rattle.ps_ops_operands.specs.Changes.{values_in}
use Rattle.ps_ops_state.specs.declared.breaks.Break.{Break}
use Rattle.ps_ops_state.specs.declared.lent.Attempt.{Attempt}
use Rattle.ps_ops_state.specs.Lent.{Lent, scene_of, IsShown}
use Rattle.ps_ops_state.specs.Acts.{Asked, no_rooms, effect_in, Acts}
use Rattle.ps_ops_state.proofs.Alike.{effect_acts, asked_acts}
use Rattle.ps_ops_state.proofs.Forming.{formed_left}
use Rattle.ps_step_lookup.specs.declared.keys.Key.TheVariants.{Met}
use Rattle.ps_step_lookup.specs.Keys.{IsKeyOf}
use Rattle.ps_step_lookup.proofs.Formed.{key_forms}
use Rattle.ps_ops_dictionaries.specs.Puts.{putting, putting_asks, putting_key, putting_key_asks}
use Rattle.ps_ops_dictionaries.specs.Puts.{putting_where_writable}

module _ (l : Lent) (a : ℕ) (k x w : Word) (count : ℕ) (more names : List (List ℕ))
    (are : names ≡ l.names ++ more)
    (keyed : (store : Store) → IsShown l store
    → (key_of store (value_of (birth_at l.heap) l.names k) ≡ value_of (birth_at l.heap) names w)
    × (fits_key (value_of (birth_at l.heap) l.names k) ≡ true)
    × (form l.names (texts_of_key store (value_of (birth_at l.heap) l.names k)) ≡ Some names))
    (inside : (store : Store) → IsShown l store → IsWithin (birth_at l.heap) l.names store x) where
  abbrev births : ℕ → ℕ
  births = birth_at l.heap

  pub keyed_effects : (store : Store) → IsShown l store
      → effect_in (putting_key births a k x count) l store
      ≡ effect_in (putting births a w x count) (record l { names = names }) store
  keyed_effects store shown =
      let it = keyed store shown in
      let left = formed_left l more names are store shown in
      let value : value_of births names x ≡ value_of births l.names x =
      ap (λ (ns : List (List ℕ)). value_of births ns x) are
      ∙ value_of-named l.names more births store x (inside store shown) in
      rw (it.0, it.1, it.2)
      (ap (λ (v : Value). naming_effect (scene_of l store)
      (given (holding (dictionary_at store (births a))
      (put_pair (dictionary_at store (births a)).pairs (value_of births names w, v))) LimitCheck
      λ new. unnamed names (changing (drop count (values_in l.heap l.names l.operands))
      (with_dictionary store (births a) new)))) (sym value)
      ∙ ap (λ (scene : Scene). naming_effect scene
      (given (holding (dictionary_at store (births a))
      (put_pair (dictionary_at store (births a)).pairs
      (value_of births names w, value_of births names x))) LimitCheck
      λ new. unnamed names (changing (drop count scene.operands)
      (with_dictionary store (births a) new)))) (sym left.is))

  pub keyed_asks : (store : Store) → IsShown l store
      → putting_asks births a w (scene_of (record l { names = names }) store)
      ≡ putting_key_asks births a k (scene_of l store)
  keyed_asks store shown =
      ap (λ (v : Value). record {
        records = records_of (planned (dictionary_at store (births a)) v);
        scratch = no_rooms;
      }) (sym (keyed store shown).0)

-- ---- a key that was met

module _ (l : Lent) (k w : Word) (are : IsKeyOf l.heap l.names k (Met w)) where
  met_keyed : (store : Store) → IsShown l store
      → IsWithin (birth_at l.heap) l.names store k
      → (key_of store (value_of (birth_at l.heap) l.names k)
      ≡ value_of (birth_at l.heap) l.names w)
      × (fits_key (value_of (birth_at l.heap) l.names k) ≡ true)
      × (form l.names (texts_of_key store (value_of (birth_at l.heap) l.names k)) ≡ Some l.names)
  met_keyed store shown inside =
      let it = are.shown store shown.shows inside in
      let forms = key_forms (birth_at l.heap) l.names store (value_of (birth_at l.heap) l.names k)
      are.few (Met w) it tt in
      (it.is, forms.0, forms.1)

  pub met_acts : (a : ℕ) (x : Word) (count : ℕ)
      → ((store : Store) → IsShown l store
      → IsWithin (birth_at l.heap) l.names store k × IsWithin (birth_at l.heap) l.names store x)
      → (attempt : Attempt) (result : Result Unit Break) (new : Lent)
      → Acts (putting_asks (birth_at l.heap) a w) (putting (birth_at l.heap) a w x count) attempt
      result l new
      → Acts (putting_key_asks (birth_at l.heap) a k) (putting_key (birth_at l.heap) a k x count)
      attempt result l new
  met_acts a x count inside attempt result new did =
      let none = sym (append-nil l.names) in
      let keyed = λ (store : Store) (shown : IsShown l store).
      met_keyed store shown (inside store shown).0 in
      let value = λ (store : Store) (shown : IsShown l store). (inside store shown).1 in
      effect_acts attempt result l new _ _ _
      (keyed_effects l a k x w count [] l.names none keyed value)
      (asked_acts attempt result l new _ _ _
      (λ store shown. sym (keyed_asks l a k x w count [] l.names none keyed value store shown)) did)

-- ---- where the dictionary may be written

module _ (l : Lent) (a : ℕ) (k x : Word) (count : ℕ) (access : Access)
    (value : (names : List (List ℕ)) (s : Store) → Shows l.heap names s
    → access ≡ (dictionary_at s (birth_at l.heap a)).access) where
  pub unwritable_raises : is_writable access ≡ false → (store : Store) → IsShown l store
      → effect_in (putting_where_writable (birth_at l.heap) a k x count) l store
      ≡ raises InvalidAccess
  unwritable_raises hidden store shown =
      rw (sym (value l.names store shown.shows), hidden) refl

  pub writable_acts : is_writable access ≡ true → (asks : Scene → Asked) (attempt : Attempt)
      (result : Result Unit Break) (new : Lent)
      → Acts asks (putting_key (birth_at l.heap) a k x count) attempt result l new
      → Acts asks (putting_where_writable (birth_at l.heap) a k x count) attempt result l new
  writable_acts may asks attempt result new = effect_acts attempt result l new asks _ _
      λ store shown. rw (sym (value l.names store shown.shows), may) refl

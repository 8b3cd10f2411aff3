-- What cvn leaves or raises.
use Rattle.std.proofs.Common.{◌≡◌, ◌++◌, ◌&&◌, ℕ, Bool, true, false, List, ◌∷◌, drop, length, Some, None, Ok, refl, sym, ap, subst, ◌∙◌}
use Rattle.ps_language.specs.declared.errors.ErrorName.TheVariants.{InvalidAccess, LimitCheck, TypeCheck}
use Rattle.ps_language.specs.Value.{Part as PartValue, name_value, Value, Store}
use Rattle.ps_language.specs.Access.{is_readable, part_bytes}
use Rattle.ps_language.specs.Readers.{as_string, literal_name}
use Rattle.ps_language.specs.Dictionaries.{texts_of_key, fits_key}
use Rattle.ps_language.specs.Effect.{Scene, raises, quiet}
use Rattle.ps_language.specs.Acts.{naming_effect}
use Rattle.ps_language.specs.Outcome.{leaves, given_that}
use Rattle.ps_language.specs.Rows.{Row, naming_row, scene_row}
use Rattle.ps_language.specs.RowsDictionaries.{forming}
use Rattle.ps_language.specs.RowsTypes.{cvn_row}
use Rattle.arrayvec.specs.ArrayVec.{ArrayVec}
use Rattle.ps_stacks.specs.Tops.{first_of}
use Rattle.ps_word.specs.declared.words.Word.{Word}
use Rattle.ps_word.specs.Format.{content_in, executable_in, value_in, is_body, IsWord}
use Rattle.ps_mem.specs.Heap.{birth_at}
use Rattle.ps_mem.specs.Meaning.{value_of}
use Rattle.ps_mem.specs.Shows.{IsValue, IsWithin}
use Rattle.ps_mem.proofs.NameLemmas.{values_of-named}
use Rattle.ps_names.specs.Names.{AreNames}
use Rattle.ps_names.proofs.Places.{last_found}
use Rattle.ps_ops_operands.specs.Changes.{values_in}
use Rattle.ps_ops_operands.proofs.Operands.{first_split}
use Rattle.ps_ops_operands.proofs.Held.{first_held, rest_held}
use Rattle.ps_ops_types.proofs.First.{name_held}
use Rattle.ps_ops_types.proofs.Attributed.{attributed_value, attributed_held, attributed_within, attribute_of}
use Rattle.ps_ops_state.specs.declared.lent.Attempt.{Attempt}
use Rattle.ps_ops_state.specs.Lent.{Lent, scene_of, IsShown, IsGood}
use Rattle.ps_ops_state.specs.Acts.{nothing_asked, effect_in, Acts}
use Rattle.ps_ops_state.proofs.Forming.{formed_acts, formed_good, formed_left}
use Rattle.ps_ops_state.proofs.Stacked.{stacked_acts}
use Rattle.ps_step_lookup.specs.declared.keys.Key.{Key}
use Rattle.ps_step_lookup.specs.declared.keys.Key.TheVariants.{Met, Unmet, TooLong}
use Rattle.ps_step_lookup.specs.Keys.{IsNameOf, IsKeyOf, IsForming, names_with}
use Rattle.ps_step_lookup.proofs.Keying.{string_key, named_value, named_within}
use Rattle.ps_step_lookup.proofs.Formed.{formed_is, name_of, names_more}
use Rattle.ps_ops_values.specs.Formed.{IsFormedWord}

module _ (l : Lent) (x : Word) (top : Some x ≡ first_of l.operands) where
  abbrev value : Value
  value = value_of (birth_at l.heap) l.names x

  abbrev rest : List Word
  rest = drop 1 l.operands

  pub cvn_wrong : as_string value ≡ None → (store : Store) → IsShown l store
      → effect_in (naming_row cvn_row) l store ≡ raises TypeCheck
  cvn_wrong none store shown = rw (first_split l.operands x top, none) refl

  module _ (part : PartValue) (part_is : as_string value ≡ Some part) where
    pub cvn_hidden : is_readable part.access ≡ false → (store : Store) → IsShown l store
        → effect_in (naming_row cvn_row) l store ≡ raises InvalidAccess
    cvn_hidden hidden store shown =
        rw (first_split l.operands x top, part_is, hidden) refl

    abbrev pub cvn_left : Store → List Value
    cvn_left store = record value { what = name_value (part_bytes store part) }
        ∷ values_in l.heap l.names rest

    -- behind its other errors its name is formed
    pub cvn_tail : is_readable part.access ≡ true → (store : Store) → IsShown l store
        → effect_in (naming_row cvn_row) l store
        ≡ naming_effect (scene_of l store) (given_that (fits_key value) LimitCheck
        (forming l.names (texts_of_key store value)
        (leaves (record { operands = cvn_left store; store = store }))))
    cvn_tail may store shown = rw (first_split l.operands x top, part_is, may) refl

    inside : (store : Store) → IsShown l store → IsWithin (birth_at l.heap) l.names store x
    inside store shown =
        first_held (IsWithin (birth_at l.heap) l.names store) l.operands shown.operands x top

    -- ---- the word of the name

    module _ (are_names : AreNames l.names) (names : List (List ℕ)) where
      named : (text : ArrayVec ℕ) → IsKeyOf l.heap l.names x (Unmet text)
          → IsForming l.names (Unmet text) (Ok tt) → names ≡ names_with l.names (Unmet text)
          → (w : Word) → IsFormedWord (Unmet text) (length l.names) w
          → IsNameOf names text.items w
      named text are done same w is = record {
        number = length l.names;
        is = is.0;
        word = is.1;
        met = rw same (last_found text.items l.names are.held.unmet are_names are.held.short done);
      }

      formed_held : (key : Key) → IsKeyOf l.heap l.names x key → IsForming l.names key (Ok tt)
          → (w : Word) → IsFormedWord key (length l.names) w → IsValue l.heap w
      formed_held (Met v) are done w is = rw is are.held
      formed_held (Unmet text) are done w is = name_held w _ false is.0 l.heap is.1
      formed_held TooLong are done w is = absurd done

      formed_value : (key : Key) → IsKeyOf l.heap l.names x key → IsForming l.names key (Ok tt)
          → names ≡ names_with l.names key → (w : Word) → IsFormedWord key (length l.names) w
          → (store : Store) → IsShown l store
          → value_of (birth_at l.heap) names w ≡ literal_name (part_bytes store part)
      formed_value (Met v) are done same w is store shown =
          let key = are.shown store shown.shows (inside store shown) in
          rw (same, is) (sym key.is ∙ (string_key store value part part_is).is)
      formed_value (Unmet text) are done same w is store shown =
          let key = are.shown store shown.shows (inside store shown) in
          named_value names text.items w (named text are done same w is) (birth_at l.heap)
          ∙ (sym key.0.is ∙ (string_key store value part part_is).is)
      formed_value TooLong are done same w is store shown = absurd done

      formed_within : (key : Key) → IsKeyOf l.heap l.names x key → IsForming l.names key (Ok tt)
          → names ≡ names_with l.names key → (w : Word) → IsFormedWord key (length l.names) w
          → (store : Store) → IsShown (record l { names = names }) store
          → IsWithin (birth_at l.heap) names store w
      formed_within (Met v) are done same w is store shown =
          let before = subst (λ (ns : List (List ℕ)). IsShown (record l { names = ns }) store) same
          shown in
          let key = are.shown store before.shows (inside store before) in
          rw (same, is) key.within
      formed_within (Unmet text) are done same w is store shown =
          named_within names text.items w (named text are done same w is) (birth_at l.heap) store
      formed_within TooLong are done same w is store shown = absurd done

      -- ---- it is left

      module _ (good : IsGood l) (attempt : Attempt) (may : is_readable part.access ≡ true)
          (key : Key) (are : IsKeyOf l.heap l.names x key) (done : IsForming l.names key (Ok tt))
          (same : names ≡ names_with l.names key)
          (are_new : AreNames names) (w : Word)
          (is : IsFormedWord key (length l.names) w) (executable : Bool)
          (attribute : executable ≡ executable_in x.0) (name : Word)
          (name_is : value_in name.0 ≡ record (value_in w.0) { executable = executable })
          (word : IsWord w.0 → is_body (content_in w.0) && executable ≡ false → IsWord name.0)
        where
          abbrev operands : List Word
          operands = name ∷ rest

          abbrev more : List (List ℕ)
          more = name_of key

          names_are : names ≡ l.names ++ more
          names_are = same ∙ names_more l.names key

          left_is : (store : Store) → IsShown l store
              → values_in l.heap names operands ≡ cvn_left store
          left_is store shown = λ i. head i ∷ tail i
            where
              text : List ℕ
              text = part_bytes store part

              head : value_of (birth_at l.heap) names name ≡ record value { what = name_value text }
              head = attributed_value w name executable name_is (birth_at l.heap) names
                  ∙ (ap (λ (v : Value). record v { executable = executable })
                  (formed_value key are done same w is store shown)
                  ∙ ap (λ (b : Bool). record { what = name_value text; executable = b })
                  (attribute ∙ sym (attribute_of (birth_at l.heap) l.names x)))

              tail : values_in l.heap names rest ≡ values_in l.heap l.names rest
              tail = ap (λ (ns : List (List ℕ)). values_in l.heap ns rest) names_are
                  ∙ values_of-named l.names more (birth_at l.heap) store rest
                  (rest_held (IsWithin (birth_at l.heap) l.names store) l.operands shown.operands 1)

          held : IsValue l.heap name
          held =
              let before = formed_held key are done w is in
              attributed_held w name executable name_is l.heap before
              (word before.word (rw before.visible refl))

          abbrev other : Row
          other = scene_row (λ (scene : Scene). quiet
              (record scene { operands = values_in l.heap names operands }))

          effects : (store : Store) → IsShown l store
              → effect_in (naming_row cvn_row) l store
              ≡ effect_in other (record l { names = names }) store
          effects store shown =
              cvn_tail may store shown
              ∙ (ap (naming_effect (scene_of l store))
              (formed_is (birth_at l.heap) l.names store value are.few key
              (are.shown store shown.shows (inside store shown)) done
              (leaves (record { operands = cvn_left store; store = store })))
              ∙ (ap (λ (ns : List (List ℕ)). quiet (record (scene_of l store)
              { operands = cvn_left store; names = ns })) (sym same)
              ∙ (ap (λ (vs : List Value). quiet (record (scene_of l store)
              { operands = vs; names = names })) (sym (left_is store shown))
              ∙ ap (λ (scene : Scene). quiet (record scene
              { operands = values_in l.heap names operands }))
              (sym (formed_left l more names names_are store shown).is))))

          pub cvn_acts : Acts nothing_asked (naming_row cvn_row) attempt (Ok tt) l
              (record l { operands = operands; names = names })
          cvn_acts =
              formed_acts l more names names_are (naming_row cvn_row) other nothing_asked
              nothing_asked attempt effects (λ store shown. refl) _
              (stacked_acts other (record l { names = names }) operands l.dictionaries nothing_asked
              attempt (formed_good l more names names_are good are_new) (
                held,
                rest_held (IsValue l.heap) l.operands good.operands 1,
              ) good.dictionaries λ store shown. record {
                is = refl;
                operands_within = (
                  attributed_within w name executable name_is (birth_at l.heap) names store
                      (formed_within key are done same w is store shown),
                  rest_held (IsWithin (birth_at l.heap) names store) l.operands shown.operands 1,
                );
                dictionaries_within = shown.dictionaries;
              })

-- What the operators that put a pair come to, before it is put.
use Rattle.std.proofs.Common.{◌≡◌, ◌≢◌, ℕ, true, false, List, [], ◌∷◌, drop, map, Option, Some, None, Ok, Err, Result}
use Rattle.std.proofs.Common.{refl, sym, ap, ◌∙◌, AllPairs}
use Rattle.std.specs.Prelude.{option_map}
use Rattle.ps_language.specs.declared.errors.ErrorName.{ErrorName}
use Rattle.ps_language.specs.declared.errors.ErrorName.TheVariants.{TypeCheck, InvalidAccess}
use Rattle.ps_language.specs.Value.{What, Value, Store}
use Rattle.ps_language.specs.Access.{may_read_text, may_write}
use Rattle.ps_language.specs.Acts.{naming_effect}
use Rattle.ps_language.specs.Dictionaries.{current, look_up}
use Rattle.ps_language.specs.Effect.{Scene, raises}
use Rattle.ps_language.specs.Equality.{key_of}
use Rattle.ps_language.specs.Outcome.{Outcome, leaves, fails, given, given_that, and_then, Naming}
use Rattle.ps_language.specs.Readers.{is_null, as_dictionary}
use Rattle.ps_language.specs.Rows.{looking_row, naming_row}
use Rattle.ps_language.specs.RowsDictionaries.{def_row, put_row, put_by, put_value, put_into, store_row, storing_place}
use Rattle.ps_stacks.specs.Tops.{first_of, first_two_of, first_three_of}
use Rattle.ps_word.specs.declared.words.Word.{Word}
use Rattle.ps_word.specs.Format.{content_in}
use Rattle.ps_word.specs.Readers as words
use Rattle.ps_mem.specs.Heap.{birth_at}
use Rattle.ps_mem.specs.Meaning.{value_of}
use Rattle.ps_mem.specs.Shows.{IsWithin, Shows}
use Rattle.ps_ops_operands.specs.Changes.{values_in}
use Rattle.ps_ops_operands.proofs.Held.{second_held}
use Rattle.ps_ops_operands.proofs.Operands.{none_left, first_split, first_two_split, first_three_split}
use Rattle.ps_ops_types.proofs.Accesses.{dictionary_has}
use Rattle.ps_ops_state.specs.Lent.{Lent, scene_of, IsShown, IsGood}
use Rattle.ps_ops_state.specs.Acts.{Asked, nothing_asked, effect_in}
use Rattle.ps_step_lookup.specs.declared.keys.Key.{Key}
use Rattle.ps_step_lookup.specs.Keys.{IsKeyOf, word_in}
use Rattle.ps_step_lookup.specs.Lookups.{IsSought, outcome_by}
use Rattle.ps_step_lookup.proofs.Looking.{dictionary_is}
use Rattle.ps_ops_dictionaries.specs.Asks.{def_asks, put_asks, store_asks, asked_into, asked_where}
use Rattle.ps_ops_dictionaries.specs.Places.{place_by, IsPlaced}
use Rattle.ps_ops_dictionaries.specs.Puts.{putting_where_writable, putting_key_asks}
use Rattle.ps_ops_dictionaries.proofs.Finding.{sought_by, what_is}

-- ---- def

module _ (l : Lent) (x k : Word) (two : Some (x, k) ≡ first_two_of l.operands) where
  abbrev births : ℕ → ℕ
  births = birth_at l.heap

  abbrev key : Value
  key = value_of births l.names k

  pub def_null : is_null key ≡ true → (store : Store) → IsShown l store
      → effect_in (looking_row def_row) l store ≡ raises TypeCheck
  def_null null store shown = rw (first_two_split l.operands x k two, null) refl

  module _ (some : is_null key ≡ false) where
    pub def_nowhere : None ≡ first_of l.dictionaries → (store : Store) → IsShown l store
        → effect_in (looking_row def_row) l store ≡ raises TypeCheck
    def_nowhere none store shown =
        rw (first_two_split l.operands x k two, some, none_left l.dictionaries none) refl

    module _ (d : Word) (top : Some d ≡ first_of l.dictionaries) where
      pub def_wrong : None ≡ words.as_dictionary (content_in d.0) → (store : Store)
          → IsShown l store → effect_in (looking_row def_row) l store ≡ raises TypeCheck
      def_wrong none store shown =
          rw (
            first_two_split l.operands x k two,
            some,
            first_split l.dictionaries d top,
            dictionary_is births l.names d,
            sym none,
          ) refl

      module _ (a : ℕ) (is : Some a ≡ words.as_dictionary (content_in d.0)) where
        pub def_unreadable : may_read_text key ≡ false → (store : Store) → IsShown l store
            → effect_in (looking_row def_row) l store ≡ raises InvalidAccess
        def_unreadable hidden store shown =
            rw (
              first_two_split l.operands x k two,
              some,
              first_split l.dictionaries d top,
              dictionary_is births l.names d,
              sym is,
              hidden,
            ) refl

        pub def_is : may_read_text key ≡ true → (store : Store) → IsShown l store
            → effect_in (looking_row def_row) l store
            ≡ effect_in (putting_where_writable births a k x 2) l store
        def_is readable store shown =
            rw (
              first_two_split l.operands x k two,
              some,
              first_split l.dictionaries d top,
              dictionary_is births l.names d,
              sym is,
              readable,
              dictionary_has births l.names store d a is,
            ) refl

        pub def_asked : (store : Store) → IsShown l store
            → def_asks (scene_of l store) ≡ putting_key_asks births a k (scene_of l store)
        def_asked store shown =
            rw (
              first_two_split l.operands x k two,
              first_split l.dictionaries d top,
              dictionary_is births l.names d,
              sym is,
            ) refl

-- ---- put into a dictionary

module _ (l : Lent) (x k d : Word) (a : ℕ) (three : Some (x, k, d) ≡ first_three_of l.operands)
    (is : Some a ≡ words.as_dictionary (content_in d.0)) where
  abbrev put_key_value : Value
  put_key_value = value_of (birth_at l.heap) l.names k

  put_is : (store : Store) → effect_in (naming_row put_row) l store
      ≡ naming_effect (scene_of l store) (put_value l.names store (birth_at l.heap a)
      (value_of (birth_at l.heap) l.names d) put_key_value
      (value_of (birth_at l.heap) l.names x) (values_in l.heap l.names (drop 3 l.operands)))
  put_is store = rw (first_three_split l.operands x k d three)
      (ap (λ (w : What). naming_effect (scene_of l store) (put_by l.names store
      (value_of (birth_at l.heap) l.names d) w put_key_value
      (value_of (birth_at l.heap) l.names x) (values_in l.heap l.names (drop 3 l.operands))))
      (what_is (birth_at l.heap) l.names d a is))

  pub put_null : is_null put_key_value ≡ true → (store : Store) → IsShown l store
      → effect_in (naming_row put_row) l store ≡ raises TypeCheck
  put_null null store shown = put_is store ∙ rw null refl

  module _ (some : is_null put_key_value ≡ false) where
    pub put_unreadable : may_read_text put_key_value ≡ false → (store : Store) → IsShown l store
        → effect_in (naming_row put_row) l store ≡ raises InvalidAccess
    put_unreadable hidden store shown = put_is store ∙ rw (some, hidden) refl

    pub put_puts : may_read_text put_key_value ≡ true → (store : Store) → IsShown l store
        → effect_in (naming_row put_row) l store
        ≡ effect_in (putting_where_writable (birth_at l.heap) a k x 3) l store
    put_puts readable store shown =
        put_is store
        ∙ rw (
          first_three_split l.operands x k d three,
          some,
          readable,
          dictionary_has (birth_at l.heap) l.names store d a is,
        ) refl

  pub put_asked_is : (store : Store) → IsShown l store
      → put_asks (scene_of l store) ≡ putting_key_asks (birth_at l.heap) a k (scene_of l store)
  put_asked_is store shown =
      rw (
        first_three_split l.operands x k d three,
        dictionary_is (birth_at l.heap) l.names d,
        sym is,
      ) refl

-- ---- store

-- the current dictionary by its word
pub current_is : (births : ℕ → ℕ) (names : List (List ℕ)) (ws : List Word)
    → current (map (value_of births names) ws) ≡ option_map (value_of births names) (first_of ws)
current_is births names [] = refl
current_is births names (w ∷ ws) = refl

-- what comes after the place
after_place : (looked : Outcome (Option (Value × Value))) (dictionaries : List Value)
    (next : Value → Outcome Naming)
    → and_then looked (λ found. given (storing_place found dictionaries) TypeCheck next)
    ≡ and_then (place_by looked dictionaries) (λ place. given place TypeCheck next)
after_place (leaves found) dictionaries next = refl
after_place (fails error) dictionaries next = refl

abbrev asked_at : Scene → Outcome (Option Value) → Value → Asked
asked_at scene (leaves place) k = asked_into scene place k
asked_at scene (fails error) k = nothing_asked scene

asked_place : (scene : Scene) (looked : Outcome (Option (Value × Value))) (k : Value)
    → asked_where scene looked k ≡ asked_at scene (place_by looked scene.dictionaries) k
asked_place scene (leaves found) k = refl
asked_place scene (fails error) k = refl

module _ (l : Lent) (x k : Word) (two : Some (x, k) ≡ first_two_of l.operands)
    (some : is_null (value_of (birth_at l.heap) l.names k) ≡ false) where
  abbrev store_key : Value
  store_key = value_of (birth_at l.heap) l.names k

  pub store_unreadable : may_read_text store_key ≡ false → (store : Store) → IsShown l store
      → effect_in (looking_row store_row) l store ≡ raises InvalidAccess
  store_unreadable hidden store shown =
      rw (first_two_split l.operands x k two, some, hidden) refl

  module _ (readable : may_read_text store_key ≡ true) (good : IsGood l) (read : Key)
      (are : IsKeyOf l.heap l.names k read) (word : Option Word) (word_is : word ≡ word_in read)
      (result : Result (Option Word) ErrorName)
      (places : (names : List (List ℕ)) (s : Store) (sought : Value) → Shows l.heap names s
      → AllPairs (λ first later. first ≢ later) names
      → IsSought (birth_at l.heap) names s word sought
      → IsPlaced (birth_at l.heap) names
      (look_up s (values_in l.heap names l.dictionaries) sought)
      (values_in l.heap names l.dictionaries) result) where
    abbrev values : List Value
    values = values_in l.heap l.names l.dictionaries

    placed : (store : Store) → IsShown l store
        → place_by (look_up store values (key_of store store_key)) values
        ≡ outcome_by (option_map (value_of (birth_at l.heap) l.names)) result
    placed store shown =
        let inside = second_held (IsWithin (birth_at l.heap) l.names store) l.operands
        shown.operands x k two in
        let sought = sought_by (birth_at l.heap) l.names store store_key read
        (are.shown store shown.shows inside) in
        places l.names store (key_of store store_key) shown.shows good.names.different
        (rw word_is sought)

    abbrev tail : Store → Value → Outcome Naming
    tail store d = given (as_dictionary d) TypeCheck λ birth.
        given_that (may_write store d) InvalidAccess
        (put_into l.names store birth store_key (value_of (birth_at l.heap) l.names x)
        (values_in l.heap l.names (drop 2 l.operands)))

    store_is : (store : Store) → IsShown l store → effect_in (looking_row store_row) l store
        ≡ naming_effect (scene_of l store)
        (and_then (outcome_by (option_map (value_of (birth_at l.heap) l.names)) result) λ place.
        given place TypeCheck (tail store))
    store_is store shown =
        rw (first_two_split l.operands x k two, some, readable)
        (ap (naming_effect (scene_of l store)) (after_place _ values (tail store)
        ∙ ap (λ (o : Outcome (Option Value)). and_then o λ place.
        given place TypeCheck (tail store)) (placed store shown)))

    pub store_hidden : (error : ErrorName) → result ≡ Err error → (store : Store) → IsShown l store
        → effect_in (looking_row store_row) l store ≡ raises error
    store_hidden error hidden store shown = store_is store shown ∙ rw hidden refl

    pub store_nowhere : result ≡ Ok None → (store : Store) → IsShown l store
        → effect_in (looking_row store_row) l store ≡ raises TypeCheck
    store_nowhere none store shown = store_is store shown ∙ rw none refl

    module _ (d : Word) (here : result ≡ Ok (Some d)) where
      pub store_wrong : None ≡ words.as_dictionary (content_in d.0) → (store : Store)
          → IsShown l store → effect_in (looking_row store_row) l store ≡ raises TypeCheck
      store_wrong none store shown =
          store_is store shown
          ∙ rw (here, dictionary_is (birth_at l.heap) l.names d, sym none) refl

      module _ (a : ℕ) (is : Some a ≡ words.as_dictionary (content_in d.0)) where
        pub store_puts : (store : Store) → IsShown l store
            → effect_in (looking_row store_row) l store
            ≡ effect_in (putting_where_writable (birth_at l.heap) a k x 2) l store
        store_puts store shown =
            store_is store shown
            ∙ rw (
              here,
              dictionary_is (birth_at l.heap) l.names d,
              sym is,
              dictionary_has (birth_at l.heap) l.names store d a is,
              first_two_split l.operands x k two,
            ) refl

        pub store_asked : (store : Store) → IsShown l store
            → store_asks (scene_of l store)
            ≡ putting_key_asks (birth_at l.heap) a k (scene_of l store)
        store_asked store shown =
            rw (first_two_split l.operands x k two)
            (asked_place (scene_of l store) _ store_key
            ∙ (ap (λ (o : Outcome (Option Value)). asked_at (scene_of l store) o store_key)
            (placed store shown)
            ∙ rw (here, dictionary_is (birth_at l.heap) l.names d, sym is) refl))

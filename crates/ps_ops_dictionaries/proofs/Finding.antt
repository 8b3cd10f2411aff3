-- What the operators that look for a key find.
use Rattle.std.proofs.Common.{◌≡◌, ◌≢◌, ℕ, Bool, true, false, List, ◌∷◌, drop, Option, Some, None, refl, sym, ap, ◌∙◌}
use Rattle.std.proofs.Common.{is_some, AllPairs, Ok, Err, Result, subst, length, ◌+◌, ◌<◌, ◌≤◌, suc, arith}
use Rattle.std.specs.Prelude.{option_map, IsSome, nat_le}
use Rattle.std.proofs.lemmas.List.{length-map}
use Rattle.std.proofs.lemmas.Bool.Decides.{nat_tests}
use Rattle.ps_language.specs.declared.access.Access.{Access}
use Rattle.ps_language.specs.declared.errors.ErrorName.{ErrorName}
use Rattle.ps_language.specs.declared.errors.ErrorName.TheVariants.{TypeCheck, InvalidAccess, LimitCheck, StackOverflow}
use Rattle.ps_language.specs.declared.errors.ErrorName.TheVariants.{Undefined}
use Rattle.ps_language.specs.Value.{What, null_value, mark_value, integer_value, boolean_value, name_value}
use Rattle.ps_language.specs.Value.{operator_value, array_value, string_value, dictionary_value, lock_value}
use Rattle.ps_language.specs.Value.{condition_value, Value, Store}
use Rattle.ps_language.specs.Access.{is_readable, dictionary_at, may_read_text}
use Rattle.ps_language.specs.Equality.{key_of}
use Rattle.ps_language.specs.Readers.{boolean, leaving, is_null, as_dictionary, dictionary_in}
use Rattle.ps_language.specs.Dictionaries.{find, look_up, texts_of_key, fits_key}
use Rattle.ps_language.specs.Effect.{raises}
use Rattle.ps_language.specs.Acts.{naming_effect}
use Rattle.ps_language.specs.Outcome.{leaves, given, given_that, and_then, unchanged, unnamed}
use Rattle.ps_language.specs.Objects.{changing}
use Rattle.ps_language.specs.Rows.{naming_row, looking_row}
use Rattle.ps_language.specs.RowsDictionaries.{forming, known_row, get_row, get_by, get_value, load_row, where_row}
use Rattle.ps_language.specs.RowsDictionaries.{where_result}
use Rattle.ps_stacks.specs.Tops.{first_of, first_two_of}
use Rattle.ps_word.specs.declared.words.Word.{Word}
use Rattle.ps_word.specs.Format.{content_in}
use Rattle.ps_word.specs.Readers as words
use Rattle.ps_mem.specs.Heap.{birth_at}
use Rattle.ps_mem.specs.Meaning.{value_of}
use Rattle.ps_mem.specs.Shows.{IsWithin, AreWithin, Shows}
use Rattle.ps_ops_operands.proofs.Operands.{first_split, first_two_split}
use Rattle.ps_ops_operands.specs.Plain.{IsPlain}
use Rattle.ps_ops_operands.proofs.Ready.{plain_within}
use Rattle.ps_ops_operands.proofs.Held.{first_held, first_of_two_held, rest_held}
use Rattle.ps_ops_operands.specs.Changes.{values_in}
use Rattle.ps_ops_types.proofs.Accesses.{dictionary_has}
use Rattle.ps_ops_state.specs.Lent.{Lent, scene_of, IsShown, IsGood}
use Rattle.ps_ops_state.specs.Acts.{effect_in}
use Rattle.ps_step_lookup.specs.declared.keys.Key.{Key}
use Rattle.ps_step_lookup.specs.declared.keys.Key.TheVariants.{Met, Unmet, TooLong}
use Rattle.ps_step_lookup.specs.Keys.{IsKeyIn, IsKeyOf, word_in}
use Rattle.ps_step_lookup.specs.Lookups.{IsSought, found_of}
use Rattle.ps_ops_state.proofs.Stacked.{Stacks}
use Rattle.ps_step_lookup.proofs.Formed.{formed_is, met_forms}
use Rattle.ps_step_lookup.proofs.Looking.{dictionary_is}

-- what a key is sought by
pub sought_by : (births : ℕ → ℕ) (names : List (List ℕ)) (s : Store) (k : Value) (key : Key)
    → IsKeyIn births names s k key → IsSought births names s (word_in key) (key_of s k)
sought_by births names s k (Met w) is = (is.is, is.within)
sought_by births names s k (Unmet text) is = (text.items, is.0.is, is.0.unmet)
sought_by births names s k TooLong is = (is.0, is.1.is, is.1.unmet)

-- there is one where there was one
pub some_map : {A B : Type 0} (f : A → B) (found : Option A) → is_some (option_map f found)
    ≡ is_some found
some_map f (Some x) = refl
some_map f None = refl

-- the word that is there
pub word_there : (word : Option Word) → IsSome word → (w : Word) × (word ≡ Some w)
word_there (Some w) there = (w, refl)
word_there None there = absurd (cc)

-- ---- known

module _ (l : Lent) (k d : Word) (two : Some (k, d) ≡ first_two_of l.operands)
    (some : is_null (value_of (birth_at l.heap) l.names k) ≡ false) where
  abbrev key : Value
  key = value_of (birth_at l.heap) l.names k

  pub known_wrong : None ≡ words.as_dictionary (content_in d.0) → (store : Store)
      → IsShown l store → effect_in (naming_row known_row) l store ≡ raises TypeCheck
  known_wrong none store shown =
      rw (
        first_two_split l.operands k d two,
        some,
        dictionary_is (birth_at l.heap) l.names d,
        sym none,
      ) refl

  module _ (a : ℕ) (is : Some a ≡ words.as_dictionary (content_in d.0)) where
    pub known_unreadable : may_read_text key ≡ false → (store : Store) → IsShown l store
        → effect_in (naming_row known_row) l store ≡ raises InvalidAccess
    known_unreadable hidden store shown =
        rw (
          first_two_split l.operands k d two,
          some,
          dictionary_is (birth_at l.heap) l.names d,
          sym is,
          hidden,
        ) refl

    module _ (readable : may_read_text key ≡ true) (access : Access)
        (value : (names : List (List ℕ)) (s : Store) → Shows l.heap names s
        → access ≡ (dictionary_at s (birth_at l.heap a)).access) where
      pub known_hidden : is_readable access ≡ false → (store : Store) → IsShown l store
          → effect_in (naming_row known_row) l store ≡ raises InvalidAccess
      known_hidden hidden store shown =
          rw (
            first_two_split l.operands k d two,
            some,
            dictionary_is (birth_at l.heap) l.names d,
            sym is,
            readable,
            dictionary_has (birth_at l.heap) l.names store d a is,
            sym (value l.names store shown.shows),
            hidden,
          ) refl

      abbrev known_left : Bool → List Value
      known_left found = boolean found ∷ values_in l.heap l.names (drop 2 l.operands)

      known_there : is_readable access ≡ true → (found : Bool) → (store : Store)
          → IsShown l store
          → is_some (find (dictionary_at store (birth_at l.heap a)).pairs (key_of store key))
          ≡ found → effect_in (naming_row known_row) l store
          ≡ naming_effect (scene_of l store) (given_that (fits_key key) LimitCheck
          (forming l.names (texts_of_key store key)
          (leaves (record { operands = known_left found; store = store }))))
      known_there may found store shown there =
          rw (
            first_two_split l.operands k d two,
            some,
            dictionary_is (birth_at l.heap) l.names d,
            sym is,
            readable,
            dictionary_has (birth_at l.heap) l.names store d a is,
            sym (value l.names store shown.shows),
            may,
            there,
          ) refl

      -- once it was sought
      pub known_tail : is_readable access ≡ true → IsGood l → (read : Key)
          → IsKeyOf l.heap l.names k read → (word : Option Word) → word ≡ word_in read
          → (found : Option Word)
          → ((names : List (List ℕ)) (s : Store) (sought : Value) → Shows l.heap names s
          → AllPairs (λ first later. first ≢ later) names
          → IsSought (birth_at l.heap) names s word sought
          → option_map (value_of (birth_at l.heap) names) found
          ≡ find (dictionary_at s (birth_at l.heap a)).pairs sought)
          → (truth : Bool) → truth ≡ is_some found → (store : Store) → IsShown l store
          → effect_in (naming_row known_row) l store
          ≡ naming_effect (scene_of l store) (given_that (fits_key key) LimitCheck
          (forming l.names (texts_of_key store key)
          (leaves (record { operands = known_left truth; store = store }))))
      known_tail may good read are word word_is found finds truth truth_is store shown =
          let inside = first_of_two_held (IsWithin (birth_at l.heap) l.names store) l.operands
          shown.operands k d two in
          let sought = sought_by (birth_at l.heap) l.names store key read
          (are.shown store shown.shows inside) in
          known_there may truth store shown
          (ap is_some (sym (finds l.names store (key_of store key) shown.shows good.names.different
          (rw word_is sought)))
          ∙ (some_map (value_of (birth_at l.heap) l.names) found ∙ sym truth_is))

-- ---- get of a dictionary

dictionary_what : (what : What) (b : ℕ) → dictionary_in what ≡ Some b
    → what ≡ dictionary_value b
dictionary_what (dictionary_value a) b is = let same : a ≡ b = cc in ap dictionary_value same
dictionary_what null_value b is = absurd (cc)
dictionary_what mark_value b is = absurd (cc)
dictionary_what (integer_value _) b is = absurd (cc)
dictionary_what (boolean_value _) b is = absurd (cc)
dictionary_what (name_value _) b is = absurd (cc)
dictionary_what (operator_value _) b is = absurd (cc)
dictionary_what (array_value _) b is = absurd (cc)
dictionary_what (string_value _) b is = absurd (cc)
dictionary_what (lock_value _) b is = absurd (cc)
dictionary_what (condition_value _) b is = absurd (cc)

-- what a dictionary's word stands for
pub what_is : (births : ℕ → ℕ) (names : List (List ℕ)) (d : Word) (a : ℕ)
    → Some a ≡ words.as_dictionary (content_in d.0)
    → (value_of births names d).what ≡ dictionary_value (births a)
unfolding as_dictionary
what_is births names d a is =
    dictionary_what _ (births a) (dictionary_is births names d ∙ rw (sym is) refl)

-- a key that was found was met
pub met_where : (read : Key) (w : Word) → Some w ≡ word_in read → read ≡ Met w
met_where (Met v) w is = let same : w ≡ v = cc in ap Met (sym same)
met_where (Unmet text) w is = cc
met_where TooLong w is = cc

module _ (l : Lent) (k d : Word) (a : ℕ) (two : Some (k, d) ≡ first_two_of l.operands)
    (is : Some a ≡ words.as_dictionary (content_in d.0)) where
  abbrev get_key : Value
  get_key = value_of (birth_at l.heap) l.names k

  abbrev get_rest : List Value
  get_rest = values_in l.heap l.names (drop 2 l.operands)

  get_is : (store : Store) → effect_in (naming_row get_row) l store
      ≡ naming_effect (scene_of l store) (get_value l.names store (birth_at l.heap a)
      (value_of (birth_at l.heap) l.names d) get_key get_rest)
  get_is store = rw (first_two_split l.operands k d two)
      (ap (λ (w : What). naming_effect (scene_of l store) (get_by l.names store
      (value_of (birth_at l.heap) l.names d) w get_key get_rest))
      (what_is (birth_at l.heap) l.names d a is))

  pub get_null : is_null get_key ≡ true → (store : Store) → IsShown l store
      → effect_in (naming_row get_row) l store ≡ raises TypeCheck
  get_null null store shown = get_is store ∙ rw null refl

  module _ (some : is_null get_key ≡ false) where
    pub get_unreadable : may_read_text get_key ≡ false → (store : Store) → IsShown l store
        → effect_in (naming_row get_row) l store ≡ raises InvalidAccess
    get_unreadable hidden store shown = get_is store ∙ rw (some, hidden) refl

    module _ (readable : may_read_text get_key ≡ true) (access : Access)
        (value : (names : List (List ℕ)) (s : Store) → Shows l.heap names s
        → access ≡ (dictionary_at s (birth_at l.heap a)).access) where
      pub get_hidden : is_readable access ≡ false → (store : Store) → IsShown l store
          → effect_in (naming_row get_row) l store ≡ raises InvalidAccess
      get_hidden hidden store shown =
          get_is store
          ∙ rw (
            some,
            readable,
            dictionary_has (birth_at l.heap) l.names store d a is,
            sym (value l.names store shown.shows),
            hidden,
          ) refl

      module _ (may : is_readable access ≡ true) (good : IsGood l) (read : Key)
          (are : IsKeyOf l.heap l.names k read) (word : Option Word) (word_is : word ≡ word_in read)
          (found : Option Word)
          (finds : (names : List (List ℕ)) (s : Store) (sought : Value) → Shows l.heap names s
          → AllPairs (λ first later. first ≢ later) names
          → IsSought (birth_at l.heap) names s word sought
          → option_map (value_of (birth_at l.heap) names) found
          ≡ find (dictionary_at s (birth_at l.heap a)).pairs sought) where
        get_sought : (store : Store) → IsShown l store
            → effect_in (naming_row get_row) l store
            ≡ naming_effect (scene_of l store)
            (given (option_map (value_of (birth_at l.heap) l.names) found) Undefined λ x.
            forming l.names (texts_of_key store get_key) (changing (x ∷ get_rest) store))
        get_sought store shown =
            let inside = first_of_two_held (IsWithin (birth_at l.heap) l.names store) l.operands
            shown.operands k d two in
            let sought = sought_by (birth_at l.heap) l.names store get_key read
            (are.shown store shown.shows inside) in
            get_is store
            ∙ rw (
              some,
              readable,
              dictionary_has (birth_at l.heap) l.names store d a is,
              sym (value l.names store shown.shows),
              may,
              sym (finds l.names store (key_of store get_key) shown.shows good.names.different
                  (rw word_is sought)),
            ) refl

        pub get_undefined : found ≡ None → (store : Store) → IsShown l store
            → effect_in (naming_row get_row) l store ≡ raises Undefined
        get_undefined none store shown = get_sought store shown ∙ rw none refl

        pub get_stacks : (w : Word) → found ≡ Some w → (v : Word) → word ≡ Some v
            → ((names : List (List ℕ)) (s : Store) → Shows l.heap names s
            → IsWithin (birth_at l.heap) names s w) → (store : Store) → IsShown l store
            → Stacks (naming_row get_row) l (w ∷ drop 2 l.operands) l.dictionaries store
        get_stacks w here v there within store shown =
            let inside = first_of_two_held (IsWithin (birth_at l.heap) l.names store) l.operands
            shown.operands k d two in
            let key_is = are.shown store shown.shows inside in
            record {
              is = get_sought store shown
                  ∙ rw here (ap (naming_effect (scene_of l store))
                  (met_forms (birth_at l.heap) l.names store get_key are.few v
                  (subst (IsKeyIn (birth_at l.heap) l.names store get_key)
                  (met_where read v (sym there ∙ word_is)) key_is)
                  (changing (value_of (birth_at l.heap) l.names w ∷ get_rest) store)));
              operands_within = (
                within l.names store shown.shows,
                rest_held (IsWithin (birth_at l.heap) l.names store) l.operands shown.operands 2,
              );
              dictionaries_within = shown.dictionaries;
            }

-- ---- load

module _ (l : Lent) (k : Word) (one : Some k ≡ first_of l.operands) where
  abbrev load_key : Value
  load_key = value_of (birth_at l.heap) l.names k

  abbrev load_rest : List Value
  load_rest = values_in l.heap l.names (drop 1 l.operands)

  module _ (some : is_null load_key ≡ false) (readable : may_read_text load_key ≡ true)
      (good : IsGood l) (read : Key) (are : IsKeyOf l.heap l.names k read)
      (word : Option Word) (word_is : word ≡ word_in read)
      (result : Result (Option (Word × Word)) ErrorName)
      (looks : (names : List (List ℕ)) (s : Store) (sought : Value) → Shows l.heap names s
      → AllPairs (λ first later. first ≢ later) names
      → IsSought (birth_at l.heap) names s word sought
      → look_up s (values_in l.heap names l.dictionaries) sought
      ≡ found_of (birth_at l.heap) names result) where
    pub looked_up : (store : Store) → IsShown l store
        → look_up store (values_in l.heap l.names l.dictionaries) (key_of store load_key)
        ≡ found_of (birth_at l.heap) l.names result
    looked_up store shown =
        let inside = first_held (IsWithin (birth_at l.heap) l.names store) l.operands
        shown.operands k one in
        let sought = sought_by (birth_at l.heap) l.names store load_key read
        (are.shown store shown.shows inside) in
        looks l.names store (key_of store load_key) shown.shows good.names.different (rw word_is sought)

    load_is : (store : Store) → IsShown l store → effect_in (looking_row load_row) l store
        ≡ naming_effect (scene_of l store)
        (and_then (found_of (birth_at l.heap) l.names result) λ found.
        given found Undefined λ pair.
        forming l.names (texts_of_key store load_key) (changing (pair.1 ∷ load_rest) store))
    load_is store shown =
        rw (first_split l.operands k one, some, readable, looked_up store shown) refl

    pub load_hidden : (error : ErrorName) → result ≡ Err error → (store : Store) → IsShown l store
        → effect_in (looking_row load_row) l store ≡ raises error
    load_hidden error hidden store shown = load_is store shown ∙ rw hidden refl

    pub load_undefined : result ≡ Ok None → (store : Store) → IsShown l store
        → effect_in (looking_row load_row) l store ≡ raises Undefined
    load_undefined none store shown = load_is store shown ∙ rw none refl

    pub load_stacks : (pair : Word × Word) → result ≡ Ok (Some pair) → (v : Word) → word ≡ Some v
        → ((names : List (List ℕ)) (s : Store) → Shows l.heap names s
        → AreWithin l.heap names s l.dictionaries → IsWithin (birth_at l.heap) names s pair.1)
        → (store : Store) → IsShown l store
        → Stacks (looking_row load_row) l (pair.1 ∷ drop 1 l.operands) l.dictionaries store
    load_stacks pair here v there within store shown =
        let inside = first_held (IsWithin (birth_at l.heap) l.names store) l.operands
        shown.operands k one in
        let key_is = are.shown store shown.shows inside in
        record {
          is = load_is store shown
              ∙ rw here (ap (naming_effect (scene_of l store))
              (met_forms (birth_at l.heap) l.names store load_key are.few v
              (subst (IsKeyIn (birth_at l.heap) l.names store load_key)
              (met_where read v (sym there ∙ word_is)) key_is)
              (changing (value_of (birth_at l.heap) l.names pair.1 ∷ load_rest) store)));
          operands_within = (
            within l.names store shown.shows shown.dictionaries,
            rest_held (IsWithin (birth_at l.heap) l.names store) l.operands shown.operands 1,
          );
          dictionaries_within = shown.dictionaries;
        }

    -- ---- where

    where_is : (store : Store) → IsShown l store → effect_in (looking_row where_row) l store
        ≡ naming_effect (scene_of l store)
        (and_then (found_of (birth_at l.heap) l.names result) λ found.
        given_that (fits_key load_key) LimitCheck (forming l.names (texts_of_key store load_key)
        (unchanged store (where_result found load_rest))))
    where_is store shown =
        rw (first_split l.operands k one, some, readable, looked_up store shown) refl

    pub where_hidden : (error : ErrorName) → result ≡ Err error → (store : Store)
        → IsShown l store → effect_in (looking_row where_row) l store ≡ raises error
    where_hidden error hidden store shown = where_is store shown ∙ rw hidden refl

    -- it is nowhere
    pub where_tail : result ≡ Ok None → (store : Store) → IsShown l store
        → effect_in (looking_row where_row) l store
        ≡ naming_effect (scene_of l store) (given_that (fits_key load_key) LimitCheck
        (forming l.names (texts_of_key store load_key)
        (leaves (record { operands = boolean false ∷ load_rest; store = store }))))
    where_tail none store shown = where_is store shown ∙ rw none refl

    module _ (pair : Word × Word) (here : result ≡ Ok (Some pair)) (v : Word)
        (there : word ≡ Some v) where
      where_found : (store : Store) → IsShown l store
          → effect_in (looking_row where_row) l store
          ≡ naming_effect (scene_of l store) (unnamed l.names (unchanged store (leaving
          (boolean true ∷ value_of (birth_at l.heap) l.names pair.0 ∷ load_rest))))
      where_found store shown =
          let inside = first_held (IsWithin (birth_at l.heap) l.names store) l.operands
          shown.operands k one in
          let key_is = are.shown store shown.shows inside in
          where_is store shown
          ∙ rw here (ap (naming_effect (scene_of l store))
          (formed_is (birth_at l.heap) l.names store load_key are.few (Met v)
          (subst (IsKeyIn (birth_at l.heap) l.names store load_key)
          (met_where read v (sym there ∙ word_is)) key_is) tt
          (unchanged store (leaving
          (boolean true ∷ value_of (birth_at l.heap) l.names pair.0 ∷ load_rest)))))

      rest_count : length load_rest + 1 ≡ length l.operands
      rest_count =
          let same = length-map (drop 1 l.operands) (value_of (birth_at l.heap) l.names) in
          let split = ap length (first_split l.operands k one) in
          omega (arith, same, split)

      pub where_full : 500 ≤ length l.operands → (store : Store) → IsShown l store
          → effect_in (looking_row where_row) l store ≡ raises StackOverflow
      where_full full store shown =
          let count = rest_count in
          let many : nat_le (suc (suc (length load_rest))) 500 ≡ false =
          grind (arith, nat_tests, count, full) in
          where_found store shown ∙ rw many refl

      pub where_stacks : length l.operands < 500 → (truth : Word)
          → ((births : ℕ → ℕ) (names : List (List ℕ)) → value_of births names truth ≡ boolean true)
          → IsPlain truth
          → ((names : List (List ℕ)) (s : Store) → Shows l.heap names s
          → AreWithin l.heap names s l.dictionaries → IsWithin (birth_at l.heap) names s pair.0)
          → (store : Store) → IsShown l store
          → Stacks (looking_row where_row) l (truth ∷ pair.0 ∷ drop 1 l.operands) l.dictionaries
          store
      where_stacks room truth means plain within store shown =
          let count = rest_count in
          let few : nat_le (suc (suc (length load_rest))) 500 ≡ true =
          grind (arith, nat_tests, count, room) in
          record {
            is = where_found store shown ∙ rw (few, means (birth_at l.heap) l.names) refl;
            operands_within = (
              plain_within (birth_at l.heap) l.names store truth plain,
              (
                within l.names store shown.shows shown.dictionaries,
                rest_held (IsWithin (birth_at l.heap) l.names store) l.operands shown.operands 1,
              ),
            );
            dictionaries_within = shown.dictionaries;
          }

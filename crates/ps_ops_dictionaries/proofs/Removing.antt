-- What taking a key out of a dictionary leaves, and what it lacks.
use Rattle.std.proofs.Common.{◌≡◌, ℕ, ◌+◌, ◌≤◌, ◌<◌, arith, true, false, List, [], drop, Option, Some, None, Ok, Err}
use Rattle.std.proofs.Common.{refl, sym, ap, subst, ◌∙◌, inr}
use Rattle.std.proofs.lemmas.List.{drop-map}
use Rattle.std.specs.Prelude.{◌==◌, Bool, if◌then◌else◌, slice_get, vec_capacity}
use Rattle.ps_language.specs.declared.access.Access.{Access}
use Rattle.ps_language.specs.declared.errors.ErrorName.TheVariants.{TypeCheck, InvalidAccess, LimitCheck}
use Rattle.ps_language.specs.declared.kinds.Kind.TheVariants.{Dictionary as DictionaryKind}
use Rattle.ps_language.specs.Value.{Value, Dictionary, dictionary_object, Store}
use Rattle.ps_language.specs.Access.{dictionary_at, is_writable, may_read_text, with_dictionary}
use Rattle.ps_language.specs.Acts.{naming_effect}
use Rattle.ps_language.specs.Dictionaries.{without, texts_of_key, fits_key}
use Rattle.ps_language.specs.Effect.{Scene, makes, raises}
use Rattle.ps_language.specs.Equality.{key_of}
use Rattle.ps_language.specs.Objects.{made_between, changing}
use Rattle.ps_language.specs.Outcome.{leaves, given_that, unnamed}
use Rattle.ps_language.specs.Readers.{is_null}
use Rattle.ps_language.specs.Rows.{naming_row}
use Rattle.ps_language.specs.RowsDictionaries.{forming, undef_row}
use Rattle.ps_language.proofs.AskedLemmas.{made-set}
use Rattle.ps_stacks.specs.Tops.{first_two_of}
use Rattle.ps_word.specs.declared.words.Word.{Word}
use Rattle.ps_word.specs.Format.{content_in}
use Rattle.ps_word.specs.Readers as words
use Rattle.ps_mem.specs.Heap.{Heap, Grants, birth_at}
use Rattle.ps_mem.specs.Keeps.{Keeps}
use Rattle.ps_mem.specs.Meaning.{value_of}
use Rattle.ps_mem.specs.References.{StandsAs}
use Rattle.ps_mem.specs.Shows.{IsSound, IsValue, IsWithin, Shows}
use Rattle.ps_dict.specs.Places.{count_at, capacity_at, first_place}
use Rattle.ps_dict.specs.Puts.{AfterChange}
use Rattle.ps_dict.specs.Removals.{removal_records}
use Rattle.ps_dict.proofs.Changing.{with-lengths}
use Rattle.ps_dict.proofs.Entering.{with-same}
use Rattle.ps_dict.proofs.Removing.{without-absent}
use Rattle.ps_dict.proofs.Shapes.{there, count-shown, capacity-shown}
use Rattle.ps_ops_operands.specs.declared.failure.NotMade.{NotMade as Reason}
use Rattle.ps_ops_operands.specs.declared.failure.NotMade.TheVariants.{Memory}
use Rattle.ps_ops_operands.specs.Changes.{KeepsLogsWithin, most_records, values_in, records_asked, words_asked}
use Rattle.ps_ops_operands.proofs.Held.{rest_held, first_of_two_held}
use Rattle.ps_ops_operands.proofs.Operands.{first_two_split}
use Rattle.ps_ops_types.proofs.Accesses.{dictionary_has}
use Rattle.ps_ops_state.specs.declared.breaks.Break.TheVariants.{NotMade}
use Rattle.ps_ops_state.specs.declared.lent.Attempt.{Attempt}
use Rattle.ps_ops_state.specs.declared.lent.Scratch.{Scratch}
use Rattle.ps_ops_state.specs.Lent.{Lent, rooms_of, IsEmpty, scene_of, IsShown, IsGood}
use Rattle.ps_ops_state.specs.Acts.{IsAtLeast, nothing_asked, needs_between, IsReason, effect_in, Acts}
use Rattle.ps_ops_state.proofs.Reasons.{reason_as, as_many, none_asked}
use Rattle.ps_ops_state.proofs.Acting.{wanting_acts}
use Rattle.ps_ops_state.proofs.Direct.{store_acts, words_acts}
use Rattle.ps_ops_state.proofs.Meeting.{at_least-same, lacks_nothing, logs_more}
use Rattle.ps_step_lookup.specs.declared.keys.Key.{Key}
use Rattle.ps_step_lookup.specs.declared.keys.Key.TheVariants.{Met}
use Rattle.ps_step_lookup.specs.Keys.{IsKeyIn, IsKeyOf, word_in}
use Rattle.ps_step_lookup.proofs.Formed.{met_forms}
use Rattle.ps_step_lookup.proofs.Looking.{dictionary_is}
use Rattle.ps_ops_dictionaries.specs.Asks.{undef_asks}
use Rattle.ps_ops_dictionaries.specs.Puts.{IsLack}
use Rattle.ps_ops_dictionaries.specs.Removals.{removing, removing_asks}
use Rattle.ps_ops_dictionaries.proofs.Growths.{same_number}
use Rattle.ps_ops_dictionaries.proofs.Putting.{logs_changed}
use Rattle.ps_ops_dictionaries.proofs.Unmet.{unmet_absent}

-- ---- by the word of a key

module _ (l : Lent) (good : IsGood l) (a : ℕ) (k : Word)
    (known : StandsAs l.heap DictionaryKind a 4)
    (places : Option ℕ) (at : (store : Store) → IsShown l store
    → places ≡ first_place (dictionary_at store (birth_at l.heap a)).pairs
    (value_of (birth_at l.heap) l.names k)) (attempt : Attempt) where
  abbrev birth : ℕ
  birth = birth_at l.heap a

  abbrev key : Value
  key = value_of (birth_at l.heap) l.names k

  abbrev rest : List Word
  rest = drop 2 l.operands

  rest_is : drop 2 (values_in l.heap l.names l.operands) ≡ values_in l.heap l.names rest
  rest_is = drop-map (value_of (birth_at l.heap) l.names) 2 l.operands

  module _ (store : Store) (shown : IsShown l store) where
    abbrev before : Dictionary
    before = dictionary_at store birth

    abbrev after : Dictionary
    after = record before { pairs = without before.pairs key }

    abbrev later : Store
    later = with_dictionary store birth after

    stands : slice_get store birth ≡ Some (dictionary_object before)
    stands = there l.heap a known good.sound l.names store shown.shows

    unasked : made_between store later ≡ 0
    unfolding with_dictionary
    unasked = made-set store birth (dictionary_object before) (dictionary_object after) stands
        ∙ rw (same_number before.capacity) refl

    abbrev left_scene : Scene
    left_scene = record (scene_of l store)
        { operands = drop 2 (values_in l.heap l.names l.operands); store = later }

  -- the key is absent
  pub absent_acts : places ≡ None
      → Acts (removing_asks (birth_at l.heap) a k) (removing (birth_at l.heap) a k) attempt (Ok tt) l
      (record l { operands = rest })
  absent_acts none =
      words_acts (removing (birth_at l.heap) a k) attempt (removing_asks (birth_at l.heap) a k) l
      rest good (rest_held (IsValue l.heap) l.operands good.operands 2) λ store shown.
      let same = without-absent (before store shown).pairs key (sym (at store shown) ∙ none) in
      record {
        is = λ i. makes (record (scene_of l store) {
          operands = rest_is i;
          store = (ap (λ (ps : List (Value × Value)). with_dictionary store birth
              (record (before store shown) { pairs = ps })) same
              ∙ with-same store birth (before store shown) (stands store shown)) i;
        }) [];
        within = rest_held (IsWithin (birth_at l.heap) l.names store) l.operands shown.operands 2;
      }

  -- it is at a place
  module _ (place : ℕ) (is : places ≡ Some place) where
    records_are : (store : Store) → IsShown l store
        → (removing_asks (birth_at l.heap) a k (scene_of l store)).records
        ≡ removal_records (count_at l.heap a) place
    records_are store shown =
        let count = count-shown l.heap a known good.sound l.names store shown.shows in
        rw (sym (at store shown), is, sym count) refl

    words_are : (store : Store) → IsShown l store
        → (removing_asks (birth_at l.heap) a k (scene_of l store)).scratch.words
        ≡ capacity_at l.heap a
    words_are store shown =
        let size = capacity-shown l.heap a known good.sound l.names store shown.shows in
        rw (sym (at store shown), is, sym size) refl

    few : removal_records (count_at l.heap a) place ≤ most_records
    few = by (place + 1 == count_at l.heap a)
      where
        by : (b : Bool) → (if b then 3 else 4) ≤ most_records
        by true = omega arith
        by false = omega arith

    module _ (grants : Grants) (scratch : Scratch)
        (logs : KeepsLogsWithin 0 l.grants grants attempt.slot)
        (least : IsAtLeast (rooms_of l.scratch) (rooms_of scratch)) (empty : IsEmpty scratch) where
      wants : (reason : Reason) → ((store : Store) → (shown : IsShown l store)
          → IsReason (needs_between (removing_asks (birth_at l.heap) a k (scene_of l store))
          (scene_of l store) (left_scene store shown) []) attempt.slot l
          (record l { grants = grants; scratch = scratch }) reason)
          → Acts (removing_asks (birth_at l.heap) a k) (removing (birth_at l.heap) a k) attempt
          (Err (NotMade reason)) l (record l { grants = grants; scratch = scratch })
      wants reason why =
          wanting_acts (removing (birth_at l.heap) a k) attempt (removing_asks (birth_at l.heap) a k)
          l good grants l.room scratch (omega arith) least empty logs reason λ store shown. record {
            scene = left_scene store shown;
            output = [];
            is = refl;
            enough = lacks_nothing attempt.refused store (later store shown) (unasked store shown);
            why = why store shown;
          }

      -- for want of room for the index
      pub roomless_acts : vec_capacity l.scratch.words < capacity_at l.heap a
          → Acts (removing_asks (birth_at l.heap) a k) (removing (birth_at l.heap) a k) attempt
          (Err (NotMade Memory)) l (record l { grants = grants; scratch = scratch })
      roomless_acts short = wants Memory λ store shown.
          let words = words_are store shown in
          inr (inr (inr (inr (inr (omega (arith, words, short))))))

    -- for want of records
    pub recordless_acts : (grants : Grants) → KeepsLogsWithin 0 l.grants grants attempt.slot
        → (reason : Reason)
        → IsLack (removal_records (count_at l.heap a) place) 0 attempt.slot l.heap l.grants grants
        reason
        → Acts (removing_asks (birth_at l.heap) a k) (removing (birth_at l.heap) a k) attempt
        (Err (NotMade reason)) l (record l { grants = grants })
    recordless_acts grants logs reason lack =
        wants grants l.scratch logs (at_least-same _) good.empty reason (by reason lack)
      where
        by : (reason : Reason)
            → IsLack (removal_records (count_at l.heap a) place) 0 attempt.slot l.heap l.grants grants
            reason → (store : Store) → (shown : IsShown l store)
            → IsReason (needs_between (removing_asks (birth_at l.heap) a k (scene_of l store))
            (scene_of l store) (left_scene store shown) []) attempt.slot l
            (record l { grants = grants }) reason
        by reason why store shown =
            let records = removal_records (count_at l.heap a) place in
            let new : Lent = record l { grants = grants } in
            let needs = needs_between (removing_asks (birth_at l.heap) a k (scene_of l store))
            (scene_of l store) (left_scene store shown) [] in
            reason_as needs attempt.slot l new (records_asked records attempt.slot l.grants grants)
            (words_asked 0 0 l.heap) _
            (λ asked. as_many needs attempt.slot l new records (records_are store shown)) none_asked
            (λ none. none_asked none.0) reason why

    pub removed_acts : (new : Heap) (mid left : Grants) (scratch : Scratch) → IsSound new
        → Keeps l.heap new → KeepsLogsWithin 0 l.grants mid attempt.slot
        → AfterChange mid left attempt.slot (removal_records (count_at l.heap a) place) 0
        → IsAtLeast (rooms_of l.scratch) (rooms_of scratch) → IsEmpty scratch
        → ((store : Store) → (shown : IsShown l store)
        → first_place (before store shown).pairs key ≡ Some place
        → Shows new l.names (later store shown))
        → Acts (removing_asks (birth_at l.heap) a k) (removing (birth_at l.heap) a k) attempt (Ok tt)
        l (record l { heap = new; grants = left; operands = rest; scratch = scratch })
    removed_acts new mid left scratch sound keeps asked change least empty shows =
        let logs = logs_changed l.grants mid left attempt.slot _ _ asked change in
        store_acts (removing (birth_at l.heap) a k) attempt (removing_asks (birth_at l.heap) a k) l
        rest good (rest_held (IsValue l.heap) l.operands good.operands 2) new left scratch keeps
        sound least empty (logs_more _ most_records l.grants left attempt.slot few logs)
        λ store shown. record {
          later = later store shown;
          is = ap (λ (vs : List Value). makes (record (scene_of l store)
              { operands = vs; store = later store shown }) []) rest_is;
          unasked = unasked store shown;
          lasts = with-lengths store birth (before store shown) (after store shown)
              (stands store shown);
          shows = shows store shown (sym (at store shown) ∙ is);
          within = rest_held (IsWithin (birth_at l.heap) l.names store) l.operands shown.operands 2;
          logs = subst (λ (n : ℕ). KeepsLogsWithin n l.grants left attempt.slot)
              (sym (records_are store shown)) logs;
        }

-- ---- undef

module _ (l : Lent) (k d : Word) (two : Some (k, d) ≡ first_two_of l.operands)
    (some : is_null (value_of (birth_at l.heap) l.names k) ≡ false) where
  abbrev births : ℕ → ℕ
  births = birth_at l.heap

  abbrev undef_key : Value
  undef_key = value_of births l.names k

  abbrev undef_rest : List Value
  undef_rest = values_in l.heap l.names (drop 2 l.operands)

  pub undef_wrong : None ≡ words.as_dictionary (content_in d.0) → (store : Store)
      → IsShown l store → effect_in (naming_row undef_row) l store ≡ raises TypeCheck
  undef_wrong none store shown =
      rw (first_two_split l.operands k d two, some, dictionary_is births l.names d, sym none) refl

  module _ (a : ℕ) (is : Some a ≡ words.as_dictionary (content_in d.0)) where
    pub undef_unreadable : may_read_text undef_key ≡ false → (store : Store) → IsShown l store
        → effect_in (naming_row undef_row) l store ≡ raises InvalidAccess
    undef_unreadable hidden store shown =
        rw (
          first_two_split l.operands k d two,
          some,
          dictionary_is births l.names d,
          sym is,
          hidden,
        ) refl

    module _ (readable : may_read_text undef_key ≡ true) (access : Access)
        (value : (names : List (List ℕ)) (s : Store) → Shows l.heap names s
        → access ≡ (dictionary_at s (births a)).access) where
      pub undef_hidden : is_writable access ≡ false → (store : Store) → IsShown l store
          → effect_in (naming_row undef_row) l store ≡ raises InvalidAccess
      undef_hidden hidden store shown =
          rw (
            first_two_split l.operands k d two,
            some,
            dictionary_is births l.names d,
            sym is,
            readable,
            dictionary_has births l.names store d a is,
            sym (value l.names store shown.shows),
            hidden,
          ) refl

      module _ (may : is_writable access ≡ true) (good : IsGood l) (read : Key)
          (are : IsKeyOf l.heap l.names k read) where
        inside : (store : Store) → IsShown l store → IsWithin births l.names store k
        inside store shown =
            first_of_two_held (IsWithin births l.names store) l.operands shown.operands k d two

        abbrev without_key : Store → Value → Store
        without_key store sought = with_dictionary store (births a)
            (record (dictionary_at store (births a))
            { pairs = without (dictionary_at store (births a)).pairs sought })

        undef_is : (store : Store) → IsShown l store → effect_in (naming_row undef_row) l store
            ≡ naming_effect (scene_of l store) (given_that (fits_key undef_key) LimitCheck
            (forming l.names (texts_of_key store undef_key)
            (changing undef_rest (without_key store (key_of store undef_key)))))
        undef_is store shown =
            rw (
              first_two_split l.operands k d two,
              some,
              dictionary_is births l.names d,
              sym is,
              readable,
              dictionary_has births l.names store d a is,
              sym (value l.names store shown.shows),
              may,
            ) refl

        -- of a key that was met
        module _ (w : Word) (met : read ≡ Met w) where
          key_is : (store : Store) → IsShown l store → IsKeyIn births l.names store undef_key (Met w)
          key_is store shown = subst (IsKeyIn births l.names store undef_key) met
              (are.shown store shown.shows (inside store shown))

          pub undef_removes : (store : Store) → IsShown l store
              → effect_in (naming_row undef_row) l store ≡ effect_in (removing births a w) l store
          undef_removes store shown =
              let it = key_is store shown in
              undef_is store shown
              ∙ (rw it.fits (ap (naming_effect (scene_of l store)) (met_forms births l.names store
              undef_key are.few w it
              (changing undef_rest (without_key store (key_of store undef_key)))))
              ∙ (λ i. naming_effect (scene_of l store) (unnamed l.names (changing
              (sym (drop-map (value_of births l.names) 2 l.operands) i)
              (without_key store (it.is i))))))

          pub undef_asked_is : (store : Store) → IsShown l store
              → undef_asks (scene_of l store) ≡ removing_asks births a w (scene_of l store)
          undef_asked_is store shown =
              rw (
                first_two_split l.operands k d two,
                dictionary_is births l.names d,
                sym is,
                (key_is store shown).is,
              ) refl

          pub met_inside : (store : Store) → IsShown l store → IsWithin births l.names store w
          met_inside store shown = (key_is store shown).within

        -- of one that was not
        module _ (unmet : word_in read ≡ None) (known : StandsAs l.heap DictionaryKind a 4) where
          none : (store : Store) → IsShown l store
              → first_place (dictionary_at store (births a)).pairs (key_of store undef_key) ≡ None
          none store shown =
              unmet_absent l good a k known read are unmet store shown (inside store shown)

          pub undef_tail : (store : Store) → IsShown l store
              → effect_in (naming_row undef_row) l store
              ≡ naming_effect (scene_of l store) (given_that (fits_key undef_key) LimitCheck
              (forming l.names (texts_of_key store undef_key)
              (leaves (record { operands = undef_rest; store = store }))))
          undef_tail store shown =
              let before = dictionary_at store (births a) in
              let same : without_key store (key_of store undef_key) ≡ store =
              ap (λ (ps : List (Value × Value)). with_dictionary store (births a)
              (record before { pairs = ps }))
              (without-absent before.pairs (key_of store undef_key) (none store shown))
              ∙ with-same store (births a) before
              (there l.heap a known good.sound l.names store shown.shows) in
              undef_is store shown
              ∙ ap (λ (s : Store). naming_effect (scene_of l store)
              (given_that (fits_key undef_key) LimitCheck
              (forming l.names (texts_of_key store undef_key) (changing undef_rest s)))) same

          pub undef_asks_nothing : (store : Store) → IsShown l store
              → undef_asks (scene_of l store) ≡ nothing_asked (scene_of l store)
          undef_asks_nothing store shown =
              rw (
                first_two_split l.operands k d two,
                dictionary_is births l.names d,
                sym is,
                none store shown,
              ) refl

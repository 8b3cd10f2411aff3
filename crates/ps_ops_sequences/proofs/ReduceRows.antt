-- What an operator leaves that takes access away.
use Rattle.std.proofs.Common.{◌≡◌, ℕ, ◌∙◌, arith, List, [], ◌∷◌, drop, length, true, false, Some, None, Ok, Err, refl, sym, ap, subst, inl, inr}
use Rattle.std.specs.Prelude.{is_some, slice_get, nat_eq}
use Rattle.std.proofs.lemmas.Bool.Decides.{eqb_tells, nat_tests}
use Rattle.ps_language.specs.declared.access.Access.{Access}
use Rattle.ps_language.specs.declared.errors.ErrorName.TheVariants.{InvalidAccess, TypeCheck}
use Rattle.ps_language.specs.declared.kinds.Kind.TheVariants.{Dictionary as DictionaryKind}
use Rattle.ps_language.specs.Value.{What, dictionary_value, Value, Dictionary, dictionary_object, Store}
use Rattle.ps_language.specs.Access.{reduces_to, bytes, bytes_in, dictionary_at, with_dictionary}
use Rattle.ps_language.specs.Outcome.{given_that, unchanged}
use Rattle.ps_language.specs.Readers.{dictionary_in, as_dictionary}
use Rattle.ps_language.specs.Objects.{made_between, changing}
use Rattle.ps_language.specs.Effect.{makes, raises}
use Rattle.ps_language.specs.Rows.{changing_row}
use Rattle.ps_language.specs.RowsTypes.{reduce_sequence, reduce_by, reduce_row}
use Rattle.ps_language.proofs.AskedLemmas.{made-set}
use Rattle.ps_stacks.specs.Tops.{first_of}
use Rattle.ps_word.specs.declared.words.Word.{Word}
use Rattle.ps_word.specs.declared.values.Part.{Part}
use Rattle.ps_word.specs.declared.values.Content.{Content}
use Rattle.ps_word.specs.declared.values.Content.TheVariants.{Array, Text, Dictionary as DictionaryContent}
use Rattle.ps_word.specs.Format.{content_in, value_in}
use Rattle.ps_word.specs.Readers as words
use Rattle.ps_mem.specs.Heap.{Heap, Grants, birth_at}
use Rattle.ps_mem.specs.Keeps.{Keeps}
use Rattle.ps_mem.specs.References.{StandsAs}
use Rattle.ps_mem.specs.Meaning.{value_of, what_of}
use Rattle.ps_mem.specs.Shows.{IsSound, IsWithin, Shows}
use Rattle.ps_mem.proofs.Lists.{slice_get-set_other}
use Rattle.ps_dict.proofs.Shapes.{there}
use Rattle.ps_ops_operands.specs.declared.failure.NotMade.{NotMade as Reason}
use Rattle.ps_ops_operands.specs.Changes.{values_in, IsRecordReason, KeepsLogsWithin, most_records}
use Rattle.ps_ops_operands.proofs.Operands.{first_split}
use Rattle.ps_ops_operands.proofs.Held.{first_held, rest_held}
use Rattle.ps_ops_types.proofs.Reduced.{sequence_of, reduced_value, reduced_within}
use Rattle.ps_ops_state.specs.declared.breaks.Break.TheVariants.{NotMade}
use Rattle.ps_ops_state.specs.declared.lent.Attempt.{Attempt}
use Rattle.ps_ops_state.specs.Lent.{Lent, scene_of, IsShown, IsGood}
use Rattle.ps_ops_state.specs.Acts.{Asked, no_rooms, Lasts, effect_in, Acts}
use Rattle.ps_ops_state.proofs.Meeting.{at_least-same, lacks_nothing, logs_more}
use Rattle.ps_ops_state.proofs.Acting.{wanting_acts}
use Rattle.ps_ops_state.proofs.Direct.{LeavesWords, store_acts}
use Rattle.ps_ops_sequences.specs.declared.pairs.Sequence.TheVariants.{Arrays}
use Rattle.ps_ops_sequences.specs.Asks.{reduced_in, reduce_asks}
use Rattle.ps_ops_sequences.proofs.Known.{dictionary_known}
use Rattle.ps_ops_sequences.proofs.Copying.{store_reason}

-- ---- by the type

module _ (reduced : Access) (s : Store) (x : Value) where
  dictionary_by : (what : What) (b : ℕ) (rest : List Value) → dictionary_in what ≡ Some b
      → reduce_by reduced s x what rest
      ≡ given_that (reduces_to (dictionary_at s b).access reduced) InvalidAccess
      (changing (x ∷ rest) (with_dictionary s b
      (record (dictionary_at s b) { access = reduced })))
  dictionary_by (dictionary_value a) b rest is = let same : a ≡ b = cc in rw same refl
  dictionary_by what b rest is = cc

  other_by : (what : What) (rest : List Value) → is_some (dictionary_in what) ≡ false
      → reduce_by reduced s x what rest ≡ unchanged s (reduce_sequence reduced x rest)
  other_by (dictionary_value a) rest is = cc
  other_by what rest is = refl

  dictionary_row : (b : ℕ) (rest : List Value) → as_dictionary x ≡ Some b
      → reduce_row reduced s (x ∷ rest)
      ≡ given_that (reduces_to (dictionary_at s b).access reduced) InvalidAccess
      (changing (x ∷ rest) (with_dictionary s b
      (record (dictionary_at s b) { access = reduced })))
  unfolding as_dictionary
  dictionary_row b rest is = dictionary_by x.what b rest is

  other_row : (rest : List Value) → is_some (as_dictionary x) ≡ false
      → reduce_row reduced s (x ∷ rest) ≡ unchanged s (reduce_sequence reduced x rest)
  unfolding as_dictionary
  other_row rest is = other_by x.what rest is

dictionary_asked : (what : What) (b : ℕ) → dictionary_in what ≡ Some b
    → reduced_in what ≡ record { records = 1; scratch = no_rooms }
dictionary_asked (dictionary_value a) b is = refl
dictionary_asked what b is = cc

dictionary_asks : (x : Value) (b : ℕ) → as_dictionary x ≡ Some b
    → reduced_in x.what ≡ record { records = 1; scratch = no_rooms }
unfolding as_dictionary
dictionary_asks x b is = dictionary_asked x.what b is

-- ---- words

module _ (births : ℕ → ℕ) (names : List (List ℕ)) where
  dictionary_content : (c : Content) (a : ℕ) → Some a ≡ words.as_dictionary c
      → dictionary_in (what_of births names c) ≡ Some (births a)
  dictionary_content (DictionaryContent b) a is = let same : a ≡ b = cc in rw same refl
  dictionary_content c a is = cc

  dictionary_is : (w : Word) (a : ℕ) → Some a ≡ words.as_dictionary (content_in w.0)
      → as_dictionary (value_of births names w) ≡ Some (births a)
  unfolding as_dictionary value_of
  dictionary_is w a is = dictionary_content (content_in w.0) a is

part_unlike : (c : Content) (part : Part) → Some part ≡ words.as_part c
    → is_some (words.as_dictionary c) ≡ false
part_unlike (Array _) part is = refl
part_unlike (Text _) part is = refl
part_unlike c part is = cc

-- ---- a dictionary with another access is as large, and no string

same_nat : (n : ℕ) → nat_eq n n ≡ true
same_nat n = grind (arith, nat_tests)

module _ (s : Store) (b : ℕ) (d : Dictionary) (access : Access)
    (at : slice_get s b ≡ Some (dictionary_object d)) where
  access_unasked : made_between s (with_dictionary s b (record d { access = access })) ≡ 0
  unfolding with_dictionary
  access_unasked =
      made-set s b (dictionary_object d) (dictionary_object (record d { access = access })) at
      ∙ rw (same_nat d.capacity) refl

  access_lasts : Lasts s (with_dictionary s b (record d { access = access }))
  unfolding with_dictionary bytes
  access_lasts c = elim (eqb_tells b c) [
    | inl (_, same) ↦ let empty : length (bytes_in (slice_get s c)) ≡ 0 =
        ap (λ n. length (bytes_in (slice_get s n))) (sym same)
        ∙ ap (λ o. length (bytes_in o)) at in omega (arith, empty)
    | inr (_, other) ↦ let is = ap (λ o. length (bytes_in o))
        (slice_get-set_other s b c (dictionary_object (record d { access = access })) other) in
        omega (arith, is)
  ]

-- ---- the operator

module _ (reduced : Access) (l : Lent) (w : Word) (top : Some w ≡ first_of l.operands) where
  abbrev value : Value
  value = value_of (birth_at l.heap) l.names w

  abbrev rest : List Word
  rest = drop 1 l.operands

  unlike : is_some (words.as_dictionary (content_in w.0)) ≡ false
      → is_some (as_dictionary value) ≡ false
  unlike is = dictionary_known (birth_at l.heap) l.names w ∙ is

  pub reduce_wrong : None ≡ words.as_part (content_in w.0)
      → None ≡ words.as_dictionary (content_in w.0) → (store : Store) → IsShown l store
      → effect_in (changing_row (reduce_row reduced)) l store ≡ raises TypeCheck
  reduce_wrong part dictionary store shown = rw (
    first_split l.operands w top,
    other_row reduced store value (values_in l.heap l.names rest)
        (unlike (ap is_some (sym dictionary))),
    sequence_of (birth_at l.heap) l.names w,
    sym part,
  ) refl

  module _ (part : Part) (sequence : Some part ≡ words.as_part (content_in w.0)) where
    pub reduce_hidden : reduces_to part.access reduced ≡ false → (store : Store) → IsShown l store
        → effect_in (changing_row (reduce_row reduced)) l store ≡ raises InvalidAccess
    reduce_hidden hidden store shown = rw (
      first_split l.operands w top,
      other_row reduced store value (values_in l.heap l.names rest)
          (unlike (part_unlike (content_in w.0) part sequence)),
      sequence_of (birth_at l.heap) l.names w,
      sym sequence,
      hidden,
    ) refl

    pub reduce_left : reduces_to part.access reduced ≡ true → (attempt : Attempt) (r : Word)
        → value_in r.0 ≡ record (value_in w.0)
        { content = words.with_access (content_in w.0) reduced }
        → (store : Store) → IsShown l store
        → LeavesWords (changing_row (reduce_row reduced)) attempt reduce_asks l (r ∷ rest) store
    reduce_left may attempt r is store shown = record {
      is = rw (
        first_split l.operands w top,
        other_row reduced store value (values_in l.heap l.names rest)
            (unlike (part_unlike (content_in w.0) part sequence)),
        sequence_of (birth_at l.heap) l.names w,
        sym sequence,
        may,
        reduced_value reduced w r is part sequence (birth_at l.heap) l.names,
      ) refl;
      within = (
        reduced_within reduced w r is (birth_at l.heap) l.names store
            (first_held (IsWithin (birth_at l.heap) l.names store) l.operands shown.operands w
            top),
        rest_held (IsWithin (birth_at l.heap) l.names store) l.operands shown.operands 1,
      );
    }

  module _ (a : ℕ) (is : Some a ≡ words.as_dictionary (content_in w.0))
      (stands : StandsAs l.heap DictionaryKind a 4) (sound : IsSound l.heap) (access : Access)
      (access_is : (names : List (List ℕ)) (s : Store) → Shows l.heap names s
      → access ≡ (dictionary_at s (birth_at l.heap a)).access) where
    abbrev b : ℕ
    b = birth_at l.heap a

    abbrev later : Store → Store
    later store = with_dictionary store b (record (dictionary_at store b) { access = reduced })

    pub reduce_refused : reduces_to access reduced ≡ false → (store : Store) → IsShown l store
        → effect_in (changing_row (reduce_row reduced)) l store ≡ raises InvalidAccess
    reduce_refused hidden store shown = rw (
      first_split l.operands w top,
      dictionary_row reduced store value b (values_in l.heap l.names rest)
          (dictionary_is (birth_at l.heap) l.names w a is),
      sym (access_is l.names store shown.shows),
      hidden,
    ) refl

    module _ (may : reduces_to access reduced ≡ true) where
      reduces : (store : Store) → IsShown l store
          → effect_in (changing_row (reduce_row reduced)) l store
          ≡ makes (record (scene_of l store) { store = later store }) []
      reduces store shown =
          let split = first_split l.operands w top in
          rw (
            ap (λ ws. reduce_row reduced store (values_in l.heap l.names ws)) split,
            dictionary_row reduced store value b (values_in l.heap l.names rest)
                (dictionary_is (birth_at l.heap) l.names w a is),
            sym (access_is l.names store shown.shows),
            may,
            ap (values_in l.heap l.names) (sym split),
          ) refl

      asks_one : (store : Store)
          → reduce_asks (scene_of l store) ≡ record { records = 1; scratch = no_rooms }
      asks_one store = rw (first_split l.operands w top)
          (dictionary_asks value b (dictionary_is (birth_at l.heap) l.names w a is))

      pub reduced_acts : (attempt : Attempt) (good : IsGood l) (new : Heap) (left : Grants)
          → Keeps l.heap new → IsSound new → KeepsLogsWithin 1 l.grants left attempt.slot
          → ((store : Store) → IsShown l store → Shows new l.names (later store))
          → Acts reduce_asks (changing_row (reduce_row reduced)) attempt (Ok tt) l
          (record l { heap = new; grants = left })
      reduced_acts attempt good new left keeps now logs shows =
          store_acts (changing_row (reduce_row reduced)) attempt reduce_asks l l.operands good
          good.operands new left l.scratch keeps now (at_least-same _) good.empty
          (logs_more 1 most_records l.grants left attempt.slot (omega arith) logs)
          λ store shown.
          let at = there l.heap a stands sound l.names store shown.shows in
          record {
            later = later store;
            is = reduces store shown;
            unasked = access_unasked store b (dictionary_at store b) reduced at;
            lasts = access_lasts store b (dictionary_at store b) reduced at;
            shows = shows store shown;
            within = shown.operands;
            logs = subst (λ (asked : Asked). KeepsLogsWithin asked.records l.grants left
                attempt.slot) (sym (asks_one store)) logs;
          }

      pub unreduced_acts : (attempt : Attempt) (good : IsGood l) (left : Grants)
          → KeepsLogsWithin 0 l.grants left attempt.slot → (reason : Reason)
          → IsRecordReason reason 1 attempt.slot l.grants left
          → Acts reduce_asks (changing_row (reduce_row reduced)) attempt (Err (NotMade reason)) l
          (record l { grants = left })
      unreduced_acts attempt good left logs reason why =
          wanting_acts (changing_row (reduce_row reduced)) attempt reduce_asks l good left l.room
          l.scratch (omega arith) (at_least-same _) good.empty logs reason λ store shown.
          let at = there l.heap a stands sound l.names store shown.shows in
          record {
            scene = record (scene_of l store) { store = later store };
            output = [];
            is = reduces store shown;
            enough = lacks_nothing attempt.refused store (later store)
                (access_unasked store b (dictionary_at store b) reduced at);
            why = store_reason l (record l { grants = left }) attempt.slot _ Arrays reason 1
                (ap (λ (asked : Asked). asked.records) (asks_one store))
                (ap (λ (asked : Asked). asked.scratch) (asks_one store)) why;
          }

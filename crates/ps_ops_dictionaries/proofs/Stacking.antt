-- What the operators on the dictionary stack leave.
use Rattle.std.proofs.Common.{◌≡◌, ℕ, ◌<◌, ◌-◌, ◌≤◌, arith, true, false, List, [], ◌∷◌, drop, length, None, Some, refl}
use Rattle.std.proofs.Common.{sym, ap}
use Rattle.std.specs.Prelude.{nat_lt, map}
use Rattle.std.proofs.lemmas.Bool.Decides.{nat_tests}
use Rattle.std.proofs.lemmas.List.{length-map, drop-map}
use Rattle.ps_language.specs.declared.access.Access.{Access}
use Rattle.ps_language.specs.declared.errors.ErrorName.TheVariants.{StackUnderflow, TypeCheck, InvalidAccess}
use Rattle.ps_language.specs.declared.errors.ErrorName.TheVariants.{DictStackOverflow, DictStackUnderflow}
use Rattle.ps_language.specs.Value.{dictionary_value, Value, Store}
use Rattle.ps_language.specs.Access.{is_readable, dictionary_at}
use Rattle.ps_language.specs.Readers.{literal, natural, push}
use Rattle.ps_language.specs.Effect.{raises}
use Rattle.ps_language.specs.Rows.{around_row, stacking_row}
use Rattle.ps_language.specs.RowsDictionaries.{begin_row, end_row, cleardictstack_row, currentdict_row}
use Rattle.ps_language.specs.RowsDictionaries.{countdictstack_row, error_row}
use Rattle.ps_stacks.specs.Tops.{first_of}
use Rattle.ps_word.specs.declared.words.Word.{Word}
use Rattle.ps_word.specs.Format.{content_in}
use Rattle.ps_word.specs.Readers as words
use Rattle.ps_mem.specs.Heap.{birth_at}
use Rattle.ps_mem.specs.Meaning.{value_of}
use Rattle.ps_mem.specs.Shows.{IsWithin, Shows}
use Rattle.ps_ops_operands.proofs.Operands.{first_split}
use Rattle.ps_ops_operands.proofs.Held.{first_held, rest_held}
use Rattle.ps_ops_types.proofs.Accesses.{dictionary_has}
use Rattle.ps_ops_state.specs.Lent.{Lent, scene_of, IsShown}
use Rattle.ps_ops_state.specs.Acts.{effect_in}
use Rattle.ps_ops_operands.specs.Plain.{IsPlain}
use Rattle.ps_ops_operands.specs.Changes.{values_in}
use Rattle.ps_ops_operands.proofs.Ready.{plain_within}
use Rattle.ps_language.specs.Acts.{operands_effect}
use Rattle.ps_ops_state.proofs.Stacked.{Stacks, PushesIn, same_stack_is}
use Rattle.ps_ops_operands.proofs.Operands.{none_left}
use Rattle.ps_step_lookup.proofs.Looking.{dictionary_is}

fewer : {A B : Type 0} (f : A → B) (xs : List A) (n : ℕ) → length xs < n
    → nat_lt (length (map f xs)) n ≡ true
fewer f xs n few = let same = length-map xs f in grind (arith, nat_tests)

no_fewer : {A B : Type 0} (f : A → B) (xs : List A) (n : ℕ) → n ≤ length xs
    → nat_lt (length (map f xs)) n ≡ false
no_fewer f xs n many = let same = length-map xs f in grind (arith, nat_tests)

module _ (l : Lent) where
  pub begin_empty : None ≡ first_of l.operands → (store : Store) → IsShown l store
      → effect_in (stacking_row begin_row) l store ≡ raises StackUnderflow
  begin_empty none store shown = rw (none_left l.operands none) refl

  module _ (w : Word) (one : Some w ≡ first_of l.operands) where
    pub begin_wrong : None ≡ words.as_dictionary (content_in w.0) → (store : Store)
        → IsShown l store → effect_in (stacking_row begin_row) l store ≡ raises TypeCheck
    begin_wrong none store shown =
        rw (first_split l.operands w one, dictionary_is (birth_at l.heap) l.names w, sym none) refl

    module _ (a : ℕ) (is : Some a ≡ words.as_dictionary (content_in w.0)) (access : Access)
        (value : (names : List (List ℕ)) (s : Store) → Shows l.heap names s
        → access ≡ (dictionary_at s (birth_at l.heap a)).access) where
      pub begin_hidden : is_readable access ≡ false → (store : Store) → IsShown l store
          → effect_in (stacking_row begin_row) l store ≡ raises InvalidAccess
      begin_hidden hidden store shown =
          rw (
            first_split l.operands w one,
            dictionary_is (birth_at l.heap) l.names w,
            sym is,
            dictionary_has (birth_at l.heap) l.names store w a is,
            sym (value l.names store shown.shows),
            hidden,
          ) refl

      module _ (readable : is_readable access ≡ true) where
        pub begin_full : 20 ≤ length l.dictionaries → (store : Store) → IsShown l store
            → effect_in (stacking_row begin_row) l store ≡ raises DictStackOverflow
        begin_full many store shown =
            rw (
              first_split l.operands w one,
              dictionary_is (birth_at l.heap) l.names w,
              sym is,
              dictionary_has (birth_at l.heap) l.names store w a is,
              sym (value l.names store shown.shows),
              readable,
              no_fewer (value_of (birth_at l.heap) l.names) l.dictionaries 20 many,
            ) refl

        pub begin_stacks : length l.dictionaries < 20 → (store : Store) → IsShown l store
            → Stacks (stacking_row begin_row) l (drop 1 l.operands) (w ∷ l.dictionaries) store
        begin_stacks few store shown = record {
          is = rw (
            first_split l.operands w one,
            dictionary_is (birth_at l.heap) l.names w,
            sym is,
            dictionary_has (birth_at l.heap) l.names store w a is,
            sym (value l.names store shown.shows),
            readable,
            fewer (value_of (birth_at l.heap) l.names) l.dictionaries 20 few,
          ) refl;
          operands_within = rest_held (IsWithin (birth_at l.heap) l.names store) l.operands
              shown.operands 1;
          dictionaries_within = (
            first_held (IsWithin (birth_at l.heap) l.names store) l.operands
                shown.operands w one,
            shown.dictionaries,
          );
        }

  pub end_few : length l.dictionaries ≤ 2 → (store : Store) → IsShown l store
      → effect_in (stacking_row end_row) l store ≡ raises DictStackUnderflow
  end_few few store shown = rw (test) refl
    where
      test : nat_lt 2 (length (map (value_of (birth_at l.heap) l.names) l.dictionaries)) ≡ false
      test =
          let same = length-map l.dictionaries (value_of (birth_at l.heap) l.names) in
          grind (arith, nat_tests)

  pub end_stacks : 2 < length l.dictionaries → (store : Store) → IsShown l store
      → Stacks (stacking_row end_row) l l.operands (drop 1 l.dictionaries) store
  end_stacks many store shown = record {
    is = rw (test, drop-map (value_of (birth_at l.heap) l.names) 1 l.dictionaries) refl;
    operands_within = shown.operands;
    dictionaries_within =
        rest_held (IsWithin (birth_at l.heap) l.names store) l.dictionaries shown.dictionaries 1;
  }
    where
      test : nat_lt 2 (length (map (value_of (birth_at l.heap) l.names) l.dictionaries)) ≡ true
      test =
          let same = length-map l.dictionaries (value_of (birth_at l.heap) l.names) in
          grind (arith, nat_tests)

-- ---- all but the two lowest are taken off

pub cleared_stacks : (l : Lent) (n : ℕ) → n ≡ length l.dictionaries - 2 → (store : Store)
    → IsShown l store
    → Stacks (stacking_row cleardictstack_row) l l.operands (drop n l.dictionaries) store
cleared_stacks l n is store shown =
    let same = length-map l.dictionaries (value_of (birth_at l.heap) l.names) in
    record {
      is = rw (same, sym is, drop-map (value_of (birth_at l.heap) l.names) n l.dictionaries) refl;
      operands_within = shown.operands;
      dictionaries_within =
          rest_held (IsWithin (birth_at l.heap) l.names store) l.dictionaries shown.dictionaries n;
    }

-- ---- what is pushed

module _ (l : Lent) where
  pub current_none : None ≡ first_of l.dictionaries → (store : Store) → IsShown l store
      → effect_in (stacking_row currentdict_row) l store ≡ raises DictStackUnderflow
  current_none none store shown = rw (none_left l.dictionaries none) refl

  pub current_pushes : (w : Word) → Some w ≡ first_of l.dictionaries → (store : Store)
      → IsShown l store → PushesIn (stacking_row currentdict_row) l w store
  current_pushes w one store shown = record {
    is = by l.dictionaries one;
    within = first_held (IsWithin (birth_at l.heap) l.names store) l.dictionaries
        shown.dictionaries w one;
  }
    where
      by : (words : List Word) → Some w ≡ first_of words
          → effect_in (stacking_row currentdict_row) (record l { dictionaries = words }) store
          ≡ operands_effect (scene_of (record l { dictionaries = words }) store)
          (push (value_of (birth_at l.heap) l.names w) (values_in l.heap l.names l.operands))
      by [] first = cc
      by (x ∷ rest) first = let same : w ≡ x = cc in
          rw same (same_stack_is (scene_of (record l { dictionaries = x ∷ rest }) store) _)

  pub count_pushes : (w : Word) → IsPlain w
      → ((births : ℕ → ℕ) (names : List (List ℕ)) → value_of births names w
      ≡ natural (length l.dictionaries)) → (store : Store)
      → IsShown l store → PushesIn (stacking_row countdictstack_row) l w store
  count_pushes w plain means store shown = record {
    is = rw (
      length-map l.dictionaries (value_of (birth_at l.heap) l.names),
      means (birth_at l.heap) l.names,
    ) (same_stack_is (scene_of l store) _);
    within = plain_within (birth_at l.heap) l.names store w plain;
  }

-- $error
pub error_pushes : (l : Lent) (w : Word)
    → ((births : ℕ → ℕ) (names : List (List ℕ)) → value_of births names w
    ≡ literal (dictionary_value (births l.error_dictionary)))
    → ((births : ℕ → ℕ) (names : List (List ℕ)) (store : Store) → IsWithin births names store w)
    → (store : Store) → IsShown l store
    → PushesIn (around_row (λ around. error_row around.error_dictionary)) l w store
error_pushes l w means within store shown = record {
  is = ap (λ (v : Value). operands_effect (scene_of l store)
      (push v (values_in l.heap l.names l.operands))) (sym (means (birth_at l.heap) l.names));
  within = within (birth_at l.heap) l.names store;
}

-- What copy leaves or raises, by its topmost operand.
use Rattle.std.proofs.Common.{◌≡◌, ◌&&◌, List, [], ◌∷◌, drop, Bool, true, false, Some, None, refl, sym, ap, ◌∙◌}
use Rattle.std.specs.Prelude.{is_some, nat_le, slice_get}
use Rattle.ps_language.specs.declared.errors.ErrorName.TheVariants.{InvalidAccess, RangeCheck, StackUnderflow, TypeCheck}
use Rattle.ps_language.specs.Value.{Part as PartValue, What, integer_value, array_value, string_value, dictionary_value, Value, Store}
use Rattle.ps_language.specs.Access.{is_readable, is_writable}
use Rattle.ps_language.specs.Outcome.{fails, given, unchanged}
use Rattle.ps_language.specs.Readers.{integer_in, dictionary_in, as_integer, as_dictionary, part_at, with_part}
use Rattle.ps_language.specs.Acts.{change_effect}
use Rattle.ps_language.specs.Effect.{raises}
use Rattle.ps_language.specs.Rows.{changing_row, operand_row}
use Rattle.ps_language.specs.RowsStack.{copy_count}
use Rattle.ps_language.specs.RowsSequences.{sequence_in, as_sequence, as_pair, copy_by, copy_sequence, copy_row}
use Rattle.ps_stacks.specs.Tops.{first_of, first_two_of}
use Rattle.ps_word.specs.declared.words.Word.{Word}
use Rattle.ps_word.specs.declared.values.Part.{Part}
use Rattle.ps_word.specs.Format.{content_in}
use Rattle.ps_word.specs.Readers as words
use Rattle.ps_mem.specs.Heap.{birth_at}
use Rattle.ps_mem.specs.Meaning.{value_of, part_of}
use Rattle.ps_mem.specs.Shows.{IsValue, IsWithin}
use Rattle.ps_ops_operands.specs.Does.{copy_number_row}
use Rattle.ps_ops_operands.specs.Changes.{values_in}
use Rattle.ps_ops_operands.proofs.Operands.{first_split, first_two_split}
use Rattle.ps_ops_operands.proofs.Held.{first_of_two_held, second_held}
use Rattle.ps_ops_operands.proofs.Reading.{as_integer-value}
use Rattle.ps_ops_types.proofs.Reduced.{sequence_of}
use Rattle.ps_ops_state.specs.declared.lent.Attempt.{Attempt}
use Rattle.ps_ops_state.specs.Lent.{Lent, scene_of, IsShown, IsGood}
use Rattle.ps_ops_state.specs.Acts.{Asked, no_rooms, nothing_asked, effect_in}
use Rattle.ps_ops_state.proofs.Alike.{unchanged_effect}
use Rattle.ps_ops_sequences.specs.declared.pairs.SequencePair.{SequencePair}
use Rattle.ps_ops_sequences.specs.Kinds.{is_dictionary_at}
use Rattle.ps_ops_sequences.specs.Pairs.{read_as}
use Rattle.ps_ops_sequences.specs.Asks.{asked_in, copy_asked, copy_asks}
use Rattle.ps_ops_sequences.proofs.Known.{some_mapped, dictionary_known}
use Rattle.ps_ops_sequences.proofs.PairRows.{contents_of, asked_of}
use Rattle.ps_ops_sequences.proofs.Copying.{Copies}

-- ---- by the type of the topmost

module _ (s : Store) (y : Value) where
  number_by : (what : What) (rest : List Value) → is_some (integer_in what) ≡ true
      → copy_by s y what rest
      ≡ unchanged s (given (integer_in what) TypeCheck λ i. copy_count i rest)
  number_by (integer_value i) rest is = refl
  number_by what rest is = cc

  sequence_by : (what : What) (x : Value) (rest : List Value) → is_some (sequence_in what) ≡ true
      → copy_by s y what (x ∷ rest) ≡ copy_sequence s x y rest
  sequence_by (array_value to) x rest is = refl
  sequence_by (string_value to) x rest is = refl
  sequence_by what x rest is = cc

  alone_by : (what : What) → is_some (sequence_in what) ≡ true
      → copy_by s y what [] ≡ fails StackUnderflow
  alone_by (array_value to) is = refl
  alone_by (string_value to) is = refl
  alone_by what is = cc

  nothing_by : (what : What) (rest : List Value) → is_some (integer_in what) ≡ false
      → is_some (sequence_in what) ≡ false → is_some (dictionary_in what) ≡ false
      → copy_by s y what rest ≡ fails TypeCheck
  nothing_by (integer_value i) rest number sequence dictionary = cc
  nothing_by (array_value to) rest number sequence dictionary = cc
  nothing_by (string_value to) rest number sequence dictionary = cc
  nothing_by (dictionary_value to) rest number sequence dictionary = cc
  nothing_by what rest number sequence dictionary = refl

  number_row : (rest : List Value) → is_some (as_integer y) ≡ true
      → copy_row s (y ∷ rest) ≡ unchanged s (copy_number_row (y ∷ rest))
  unfolding as_integer
  number_row rest is = number_by y.what rest is

  sequence_row : (x : Value) (rest : List Value) → is_some (as_sequence y) ≡ true
      → copy_row s (y ∷ x ∷ rest) ≡ copy_sequence s x y rest
  unfolding as_sequence
  sequence_row x rest is = sequence_by y.what x rest is

  alone_row : is_some (as_sequence y) ≡ true → copy_row s (y ∷ []) ≡ fails StackUnderflow
  unfolding as_sequence
  alone_row is = alone_by y.what is

  nothing_row : (rest : List Value) → is_some (as_integer y) ≡ false
      → is_some (as_sequence y) ≡ false → is_some (as_dictionary y) ≡ false
      → copy_row s (y ∷ rest) ≡ fails TypeCheck
  unfolding as_integer as_sequence as_dictionary
  nothing_row rest number sequence dictionary = nothing_by y.what rest number sequence dictionary

-- ---- what is asked for

abbrev none_asked : Asked
none_asked = record { records = 0; scratch = no_rooms }

number_asked : (what : What) (rest : List Value) → is_some (integer_in what) ≡ true
    → copy_asked what rest ≡ none_asked
number_asked (integer_value i) rest is = refl
number_asked what rest is = cc

second_asked : (what : What) (x : Value) (rest : List Value) → is_some (integer_in what) ≡ false
    → copy_asked what (x ∷ rest) ≡ asked_in x.what
second_asked (integer_value i) x rest is = cc
second_asked what x rest is = refl

module _ (y : Value) where
  number_asks : (rest : List Value) → is_some (as_integer y) ≡ true
      → copy_asked y.what rest ≡ none_asked
  unfolding as_integer
  number_asks rest is = number_asked y.what rest is

  second_asks : (x : Value) (rest : List Value) → is_some (as_integer y) ≡ false
      → copy_asked y.what (x ∷ rest) ≡ asked_in x.what
  unfolding as_integer
  second_asks x rest is = second_asked y.what x rest is

-- ---- two operands

pub two_tops : {A : Type 0} (xs : List A) (a b : A) → Some a ≡ first_of xs → Some b ≡ slice_get xs 1
    → Some (a, b) ≡ first_two_of xs
two_tops [] a b one two = cc
two_tops (x ∷ []) a b one two = cc
two_tops (x ∷ y ∷ rest) a b one two =
    let first : a ≡ x = cc in
    let second : b ≡ y = cc in
    λ i. Some (first i, second i)

pub one_alone : {A : Type 0} (xs : List A) (a : A) → Some a ≡ first_of xs → None ≡ slice_get xs 1
    → xs ≡ a ∷ []
one_alone [] a one two = cc
one_alone (x ∷ []) a one two = let first : a ≡ x = cc in ap (λ z. z ∷ []) (sym first)
one_alone (x ∷ y ∷ rest) a one two = cc

pub top_kind : (xs : List Word) (w : Word) → Some w ≡ first_of xs
    → is_dictionary_at xs 0 ≡ is_some (words.as_dictionary (content_in w.0))
top_kind [] w one = cc
top_kind (x ∷ rest) w one =
    let first : w ≡ x = cc in
    ap (λ (v : Word). is_some (words.as_dictionary (content_in v.0))) (sym first)

-- ---- by the topmost operand

module _ (l : Lent) (target : Word) (top : Some target ≡ first_of l.operands) where
  abbrev value : Word → Value
  value w = value_of (birth_at l.heap) l.names w

  abbrev part_value : Part → PartValue
  part_value part = part_of (birth_at l.heap) part

  abbrev split : l.operands ≡ target ∷ drop 1 l.operands
  split = first_split l.operands target top

  integer_known : (some : Bool) → is_some (words.as_integer (content_in target.0)) ≡ some
      → is_some (as_integer (value target)) ≡ some
  integer_known some is = ap is_some (as_integer-value (birth_at l.heap) l.names target) ∙ is

  sequence_known : (some : Bool) → is_some (words.as_part (content_in target.0)) ≡ some
      → is_some (as_sequence (value target)) ≡ some
  sequence_known some is =
      ap is_some (sequence_of (birth_at l.heap) l.names target)
      ∙ (some_mapped (part_of (birth_at l.heap)) (words.as_part (content_in target.0)) ∙ is)

  module _ (number : is_some (words.as_integer (content_in target.0)) ≡ true) where
    pub copy_counts : (store : Store) → IsShown l store
        → effect_in (changing_row copy_row) l store
        ≡ effect_in (operand_row copy_number_row) l store
    copy_counts store shown =
        ap (change_effect (scene_of l store))
        (ap (λ ws. copy_row store (values_in l.heap l.names ws)) split
        ∙ (number_row store (value target) (values_in l.heap l.names (drop 1 l.operands))
        (integer_known true number)
        ∙ ap (λ ws. unchanged store (copy_number_row (values_in l.heap l.names ws))) (sym split)))
        ∙ unchanged_effect (scene_of l store) _

    pub copy_counts_asks : (store : Store) → IsShown l store → copy_asks (scene_of l store)
        ≡ nothing_asked (scene_of l store)
    copy_counts_asks store shown = rw split (number_asks (value target)
        (values_in l.heap l.names (drop 1 l.operands)) (integer_known true number))

  module _ (number : is_some (words.as_integer (content_in target.0)) ≡ false) where
    pub copy_wrong : is_some (words.as_part (content_in target.0)) ≡ false
        → is_dictionary_at l.operands 0 ≡ false → (store : Store) → IsShown l store
        → effect_in (changing_row copy_row) l store ≡ raises TypeCheck
    copy_wrong sequence dictionary store shown = rw (
      split,
      nothing_row store (value target) (values_in l.heap l.names (drop 1 l.operands))
          (integer_known false number) (sequence_known false sequence)
          (dictionary_known (birth_at l.heap) l.names target
          ∙ (sym (top_kind l.operands target top) ∙ dictionary)),
    ) refl

    module _ (sequence : is_some (words.as_part (content_in target.0)) ≡ true) where
      pub copy_alone : None ≡ slice_get l.operands 1 → (store : Store) → IsShown l store
          → effect_in (changing_row copy_row) l store ≡ raises StackUnderflow
      copy_alone none store shown = rw (
        one_alone l.operands target top none,
        alone_row store (value target) (sequence_known true sequence),
      ) refl

      module _ (source : Word) (second : Some source ≡ slice_get l.operands 1) where
        tops : Some (target, source) ≡ first_two_of l.operands
        tops = two_tops l.operands target source top second

        copies_by : (store : Store) → copy_row store (values_in l.heap l.names l.operands)
            ≡ copy_sequence store (value source) (value target)
            (values_in l.heap l.names (drop 2 l.operands))
        copies_by store =
            ap (λ ws. copy_row store (values_in l.heap l.names ws))
            (first_two_split l.operands target source tops)
            ∙ sequence_row store (value target) (value source) _ (sequence_known true sequence)

        pub copy_unlike : as_pair (value source) (value target) ≡ None → (store : Store)
            → IsShown l store → effect_in (changing_row copy_row) l store ≡ raises TypeCheck
        copy_unlike none store shown = rw (copies_by store, none) refl

        module _ (pair : SequencePair) (pair_is : as_pair (value source) (value target)
            ≡ Some (part_value pair.from, part_value pair.to)) where
          pub copy_hidden : (is_readable pair.from.access && is_writable pair.to.access) ≡ false
              → (store : Store) → IsShown l store
              → effect_in (changing_row copy_row) l store ≡ raises InvalidAccess
          copy_hidden hidden store shown = rw (copies_by store, pair_is, hidden) refl

          module _ (may : (is_readable pair.from.access && is_writable pair.to.access) ≡ true) where
            pub copy_outside : nat_le pair.from.length pair.to.length ≡ false → (store : Store)
                → IsShown l store → effect_in (changing_row copy_row) l store ≡ raises RangeCheck
            copy_outside long store shown = rw (copies_by store, pair_is, may, long) refl

            pub copy_copies : (good : IsGood l) → (attempt : Attempt)
                → nat_le pair.from.length pair.to.length ≡ true
                → read_as pair.of (value source) ≡ Some (part_value pair.from)
                → read_as pair.of (value target) ≡ Some (part_value pair.to)
                → (store : Store) → IsShown l store
                → Copies (changing_row copy_row) copy_asks attempt l source target
                (with_part (value target) (part_at (part_value pair.to) 0 pair.from.length)
                ∷ values_in l.heap l.names (drop 2 l.operands)) pair 0 store
            copy_copies good attempt fits from_is to_is store shown =
                let inside = first_of_two_held (IsWithin (birth_at l.heap) l.names store)
                l.operands shown.operands target source tops in
                record {
                  is = rw (
                    copies_by store,
                    pair_is,
                    may,
                    fits,
                    contents_of (value source) _ pair.of from_is store _ _ 0,
                  ) refl;
                  asks_is = rw (first_two_split l.operands target source tops)
                      (second_asks (value target) (value source) _ (integer_known false number)
                      ∙ asked_of (value source) _ pair.of from_is);
                  source_in = record {
                    held = second_held (IsValue l.heap) l.operands good.operands target source
                        tops;
                    within = second_held (IsWithin (birth_at l.heap) l.names store) l.operands
                        shown.operands target source tops;
                  };
                  target_in = record {
                    held = first_of_two_held (IsValue l.heap) l.operands good.operands target
                        source tops;
                    within = inside;
                  };
                }

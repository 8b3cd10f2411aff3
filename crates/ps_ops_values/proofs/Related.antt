-- An operator leaves what a test says of what was found of its two operands.
use Rattle.std.proofs.Common.{◌≡◌, ℕ, Bool, true, false, Option, Some, None, List, [], ◌∷◌, drop, Result, Ok, Err, refl}
use Rattle.std.proofs.Common.{sym, ap, subst, ◌∙◌}
use Rattle.std.specs.Prelude.{not, ◌&&◌}
use Rattle.std.specs.Bool.{beq}
use Rattle.std.specs.declared.cmp.Ordering.{Ordering}
use Rattle.ps_language.specs.declared.errors.ErrorName.{ErrorName}
use Rattle.ps_language.specs.declared.errors.ErrorName.TheVariants.{InvalidAccess, StackUnderflow, TypeCheck}
use Rattle.ps_language.specs.Access.{may_read_text}
use Rattle.ps_language.specs.Acts.{operands_effect}
use Rattle.ps_language.specs.Equality.{are_equal}
use Rattle.ps_language.specs.Outcome.{Outcome, leaves, fails, given, given_that, and_then}
use Rattle.ps_language.specs.Readers.{boolean}
use Rattle.ps_language.specs.Rows.{reading_row}
use Rattle.ps_language.specs.RowsRelations.{comparison}
use Rattle.ps_language.specs.Value.{Value, Store}
use Rattle.ps_stacks.specs.Tops.{first_two_of}
use Rattle.ps_word.specs.declared.words.Word.{Word}
use Rattle.ps_mem.specs.Heap.{Heap, birth_at}
use Rattle.ps_mem.specs.Meaning.{value_of}
use Rattle.ps_mem.specs.Shows.{IsValue, IsWithin}
use Rattle.ps_ops_operands.specs.Does.{outcome_of}
use Rattle.ps_ops_operands.specs.Plain.{IsPlain}
use Rattle.ps_ops_operands.specs.Changes.{values_in, ObservesAs, Observes}
use Rattle.ps_ops_operands.proofs.Held.{first_of_two_held, second_held, rest_held}
use Rattle.ps_ops_operands.proofs.Operands.{first_two_split}
use Rattle.ps_ops_operands.proofs.Ready.{plain_value, plain_within}
use Rattle.ps_ops_state.specs.declared.breaks.Break.TheVariants.{Raises}
use Rattle.ps_ops_state.specs.declared.lent.Attempt.{Attempt}
use Rattle.ps_ops_state.specs.Lent.{Lent, scene_of, IsShown, IsGood}
use Rattle.ps_ops_state.specs.Acts.{nothing_asked, Acts}
use Rattle.ps_ops_state.proofs.Acting.{raised_acts}
use Rattle.ps_ops_state.proofs.Direct.{words_acts}
use Rattle.ps_ops_values.specs.declared.orders.Relation.{Relation}
use Rattle.ps_ops_values.specs.declared.orders.Relation.TheVariants.{Greater, GreaterOrEqual, Less, LessOrEqual}
use Rattle.ps_ops_values.specs.Relations.{equality, order, Finds, equality_row_as, holds, order_row_as}

-- ---- rows

-- a row that tests what is found of its two operands
pub record IsTested {A : Type 0} (of : Store → (a b : Value) → Outcome A) (test : A → Bool)
    (row : Store → List Value → Outcome (List Value)) : Type 0 where
  pub none : (s : Store) → row s [] ≡ fails StackUnderflow
  pub one : (s : Store) (b : Value) → row s (b ∷ []) ≡ fails StackUnderflow
  pub two : (s : Store) (b a : Value) (rest : List Value)
      → row s (b ∷ a ∷ rest) ≡ and_then (of s a b) (λ found. leaves (boolean (test found) ∷ rest))

given_that_then : {A B : Type 0} (holds : Bool) (error : ErrorName) (x : A) (next : A → Outcome B)
    → given_that holds error (next x) ≡ and_then (given_that holds error (leaves x)) next
given_that_then true error x next = refl
given_that_then false error x next = refl

-- equal values are wanted, or others
abbrev pub wanted_test : (wanted : Bool) → Bool → Bool
wanted_test true = λ equal. equal
wanted_test false = not

-- as the code tests it
pub wanted_is : (wanted equal : Bool) → beq equal wanted ≡ wanted_test wanted equal
wanted_is true true = refl
wanted_is true false = refl
wanted_is false true = refl
wanted_is false false = refl

pub equality_tested : (wanted : Bool)
    → IsTested equality (wanted_test wanted) (equality_row_as wanted)
equality_tested true = record {
  none = λ s. refl;
  one = λ s b. refl;
  two = λ s b a rest. given_that_then (may_read_text b && may_read_text a) InvalidAccess
      (are_equal s a b) (λ equal. leaves (boolean equal ∷ rest));
}
equality_tested false = record {
  none = λ s. refl;
  one = λ s b. refl;
  two = λ s b a rest. given_that_then (may_read_text b && may_read_text a) InvalidAccess
      (are_equal s a b) (λ equal. leaves (boolean (not equal) ∷ rest));
}

given_then : (found : Option Ordering) (readable : Bool) (next : Ordering → Outcome (List Value))
    → given found TypeCheck (λ o. given_that readable InvalidAccess (next o))
    ≡ and_then (given found TypeCheck (λ o. given_that readable InvalidAccess (leaves o))) next
given_then None readable next = refl
given_then (Some o) readable next = given_that_then readable InvalidAccess o next

module _ (test : Ordering → Bool) (s : Store) (b a : Value) (rest : List Value) where
  order_two : given (comparison s a b) TypeCheck (λ o.
      given_that (may_read_text b && may_read_text a) InvalidAccess
      (leaves (boolean (test o) ∷ rest)))
      ≡ and_then (order s a b) (λ found. leaves (boolean (test found) ∷ rest))
  order_two = given_then (comparison s a b) (may_read_text b && may_read_text a)
      (λ found. leaves (boolean (test found) ∷ rest))

pub order_tested : (relation : Relation)
    → IsTested order (holds relation) (order_row_as relation)
order_tested Greater = record {
  none = λ s. refl;
  one = λ s b. refl;
  two = λ s b a rest. order_two (holds Greater) s b a rest;
}
order_tested GreaterOrEqual = record {
  none = λ s. refl;
  one = λ s b. refl;
  two = λ s b a rest. order_two (holds GreaterOrEqual) s b a rest;
}
order_tested Less = record {
  none = λ s. refl;
  one = λ s b. refl;
  two = λ s b a rest. order_two (holds Less) s b a rest;
}
order_tested LessOrEqual = record {
  none = λ s. refl;
  one = λ s b. refl;
  two = λ s b a rest. order_two (holds LessOrEqual) s b a rest;
}

-- ---- operators

module _ {A : Type 0} (of : Store → (a b : Value) → Outcome A) (test : A → Bool)
    (row : Store → List Value → Outcome (List Value)) (tested : IsTested of test row) (l : Lent)
    (good : IsGood l) (attempt : Attempt) where
  short_is : (words : List Word) → None ≡ first_two_of words → (s : Store)
      → row s (values_in l.heap l.names words) ≡ fails StackUnderflow
  short_is [] none s = tested.none s
  short_is (x ∷ []) none s = tested.one s (value_of (birth_at l.heap) l.names x)
  short_is (x ∷ y ∷ words) none s = absurd (cc)

  pub short_acts : None ≡ first_two_of l.operands
      → Acts nothing_asked (reading_row row) attempt (Err (Raises StackUnderflow)) l l
  short_acts none =
      raised_acts (reading_row row) attempt nothing_asked l good StackUnderflow λ store shown.
      ap (operands_effect (scene_of l store)) (short_is l.operands none store)

  module _ (right left : Word) (two : Some (right, left) ≡ first_two_of l.operands) where
    row_is : (result : Result A ErrorName) → Finds of result l.heap l.names left right
        → (store : Store) → IsShown l store
        → row store (values_in l.heap l.names l.operands) ≡ and_then (outcome_of result)
        (λ found. leaves (boolean (test found) ∷ values_in l.heap l.names (drop 2 l.operands)))
    row_is result finds store shown =
        let inside = first_of_two_held (IsWithin (birth_at l.heap) l.names store) l.operands
        shown.operands right left two in
        let within = second_held (IsWithin (birth_at l.heap) l.names store) l.operands
        shown.operands right left two in
        ap (λ (words : List Word). row store (values_in l.heap l.names words))
        (first_two_split l.operands right left two)
        ∙ (tested.two store (value_of (birth_at l.heap) l.names right)
        (value_of (birth_at l.heap) l.names left) (values_in l.heap l.names (drop 2 l.operands))
        ∙ ap (λ (outcome : Outcome A). and_then outcome
        (λ found. leaves (boolean (test found) ∷ values_in l.heap l.names (drop 2 l.operands))))
        (finds.agrees store shown.shows good.names.different within inside))

    pub failed_acts : (error : ErrorName) → Finds of (Err error) l.heap l.names left right
        → Acts nothing_asked (reading_row row) attempt (Err (Raises error)) l l
    failed_acts error finds =
        raised_acts (reading_row row) attempt nothing_asked l good error λ store shown.
        ap (operands_effect (scene_of l store)) (row_is (Err error) finds store shown)

    pub tested_acts : (found : A) → Finds of (Ok found) l.heap l.names left right
        → (w : Word) → IsPlain w
        → ((births : ℕ → ℕ) (names : List (List ℕ))
        → value_of births names w ≡ boolean (test found))
        → Acts nothing_asked (reading_row row) attempt (Ok tt) l
        (record l { operands = w ∷ drop 2 l.operands })
    tested_acts found finds w plain means =
        words_acts (reading_row row) attempt nothing_asked l (w ∷ drop 2 l.operands) good (
          plain_value l.heap w plain,
          rest_held (IsValue l.heap) l.operands good.operands 2,
        ) λ store shown. record {
          is = ap (operands_effect (scene_of l store)) (row_is (Ok found) finds store shown
              ∙ ap (λ (v : Value). leaves (v ∷ values_in l.heap l.names (drop 2 l.operands)))
              (sym (means (birth_at l.heap) l.names)));
          within = (
            plain_within (birth_at l.heap) l.names store w plain,
            rest_held (IsWithin (birth_at l.heap) l.names store) l.operands shown.operands 2,
          );
        }

-- by operands alone, whatever the memory
module _ {A : Type 0} (of : Store → (a b : Value) → Outcome A) (test : A → Bool)
    (row : Store → List Value → Outcome (List Value)) (tested : IsTested of test row)
    (words : List Word) (right left : Word) (two : Some (right, left) ≡ first_two_of words)
    (found : A) (finds : (births : ℕ → ℕ) (names : List (List ℕ)) (store : Store)
    → of store (value_of births names left) (value_of births names right) ≡ leaves found)
    (w : Word) (plain : IsPlain w) (means : (births : ℕ → ℕ) (names : List (List ℕ))
    → value_of births names w ≡ boolean (test found)) where
  row_found : (h : Heap) (names : List (List ℕ)) (store : Store)
      → row store (values_in h names words)
      ≡ leaves (boolean (test found) ∷ values_in h names (drop 2 words))
  row_found h names store =
      ap (λ (ws : List Word). row store (values_in h names ws)) (first_two_split words right left two)
      ∙ (tested.two store (value_of (birth_at h) names right) (value_of (birth_at h) names left)
      (values_in h names (drop 2 words))
      ∙ ap (λ (outcome : Outcome A). and_then outcome
      (λ found. leaves (boolean (test found) ∷ values_in h names (drop 2 words))))
      (finds (birth_at h) names store))

  pub tested_observes : (h : Heap) → Observes row (Ok tt) h words (w ∷ drop 2 words)
  tested_observes h = record {
    meets = λ names store shows within.
        subst (λ (outcome : Outcome (List Value)). ObservesAs (Ok tt) outcome names store h words
        (w ∷ drop 2 words)) (sym (row_found h names store)) (
          ap (λ (v : Value). v ∷ values_in h names (drop 2 words)) (means (birth_at h) names),
          (
            plain_within (birth_at h) names store w plain,
            rest_held (IsWithin (birth_at h) names store) words within 2,
          ),
        );
  }

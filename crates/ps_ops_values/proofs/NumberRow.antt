-- What cvi leaves or raises.
use Rattle.std.proofs.Common.{◌≡◌, ℕ, ℤ, List, ◌∷◌, drop, true, false, Option, Some, None, Result, Ok, Err, refl, sym, ap, ◌∙◌, is_some}
use Rattle.ps_language.specs.declared.errors.ErrorName.TheVariants.{InvalidAccess, LimitCheck, SyntaxError, TypeCheck}
use Rattle.ps_language.specs.Token.{Scan, found, exhausted, faulty, syntax_fault, limit_fault}
use Rattle.ps_language.specs.Value.{Part as PartValue, What, null_value, mark_value, integer_value, boolean_value, name_value, operator_value, array_value, string_value, dictionary_value, lock_value, condition_value, Value, Store}
use Rattle.ps_language.specs.Access.{is_readable, part_bytes}
use Rattle.ps_language.specs.Readers.{integer, as_integer, integer_in, as_string, string_in}
use Rattle.ps_language.specs.Effect.{raises}
use Rattle.ps_language.specs.Outcome.{Outcome, leaves, fails, given_that}
use Rattle.ps_language.specs.Acts.{operands_effect}
use Rattle.ps_language.specs.Rows.{reading_row}
use Rattle.ps_language.specs.RowsTypes.{number_in, scanned_integer, cvi_by, cvi_row}
use Rattle.ps_language.specs.Scan.{scan}
use Rattle.ps_stacks.specs.Tops.{first_of}
use Rattle.ps_word.specs.declared.words.Word.{Word}
use Rattle.ps_mem.specs.Heap.{birth_at}
use Rattle.ps_mem.specs.Meaning.{value_of}
use Rattle.ps_mem.specs.Shows.{IsWithin}
use Rattle.ps_ops_operands.specs.Plain.{IsPlain}
use Rattle.ps_ops_operands.specs.Changes.{values_in}
use Rattle.ps_ops_operands.proofs.Operands.{first_split}
use Rattle.ps_ops_operands.proofs.Held.{rest_held}
use Rattle.ps_ops_operands.proofs.Ready.{plain_within}
use Rattle.ps_scan.specs.declared.firsts.NumberFault.{NumberFault}
use Rattle.ps_scan.specs.declared.firsts.NumberFault.TheVariants.{NoNumber, Syntax, Limit}
use Rattle.ps_scan.specs.Passed.{number_of}
use Rattle.ps_ops_state.specs.declared.lent.Attempt.{Attempt}
use Rattle.ps_ops_state.specs.Lent.{Lent, scene_of, IsShown}
use Rattle.ps_ops_state.specs.Acts.{nothing_asked, effect_in}
use Rattle.ps_ops_state.proofs.Direct.{LeavesWords}

-- ---- by the type

module _ (store : Store) (v : Value) (rest : List Value) where
  by_integer : (what : What) → is_some (integer_in what) ≡ true
      → cvi_by scan store v what rest ≡ leaves (v ∷ rest)
  by_integer (integer_value _) some = refl
  by_integer null_value some = absurd (cc)
  by_integer mark_value some = absurd (cc)
  by_integer (boolean_value _) some = absurd (cc)
  by_integer (name_value _) some = absurd (cc)
  by_integer (operator_value _) some = absurd (cc)
  by_integer (array_value _) some = absurd (cc)
  by_integer (string_value _) some = absurd (cc)
  by_integer (dictionary_value _) some = absurd (cc)
  by_integer (lock_value _) some = absurd (cc)
  by_integer (condition_value _) some = absurd (cc)

  by_string : (part : PartValue) (what : What) → string_in what ≡ Some part
      → cvi_by scan store v what rest ≡ given_that (is_readable part.access) InvalidAccess
      (scanned_integer (scan (part_bytes store part) 0) rest)
  by_string part (string_value p) is =
      let same : p ≡ part = cc in
      ap (λ (q : PartValue). given_that (is_readable q.access) InvalidAccess
      (scanned_integer (scan (part_bytes store q) 0) rest)) same
  by_string part null_value is = absurd (cc)
  by_string part mark_value is = absurd (cc)
  by_string part (integer_value _) is = absurd (cc)
  by_string part (boolean_value _) is = absurd (cc)
  by_string part (name_value _) is = absurd (cc)
  by_string part (operator_value _) is = absurd (cc)
  by_string part (array_value _) is = absurd (cc)
  by_string part (dictionary_value _) is = absurd (cc)
  by_string part (lock_value _) is = absurd (cc)
  by_string part (condition_value _) is = absurd (cc)

  by_other : (what : What) → is_some (integer_in what) ≡ false → string_in what ≡ None
      → cvi_by scan store v what rest ≡ fails TypeCheck
  by_other (integer_value _) apart none = absurd (cc)
  by_other (string_value _) apart none = absurd (cc)
  by_other null_value apart none = refl
  by_other mark_value apart none = refl
  by_other (boolean_value _) apart none = refl
  by_other (name_value _) apart none = refl
  by_other (operator_value _) apart none = refl
  by_other (array_value _) apart none = refl
  by_other (dictionary_value _) apart none = refl
  by_other (lock_value _) apart none = refl
  by_other (condition_value _) apart none = refl

-- ---- by what was scanned

-- what a number, or the want of one, comes to
abbrev pub number_outcome : Result ℤ NumberFault → List Value → Outcome (List Value)
number_outcome (Ok number) rest = leaves (integer number ∷ rest)
number_outcome (Err NoNumber) rest = fails TypeCheck
number_outcome (Err Syntax) rest = fails SyntaxError
number_outcome (Err Limit) rest = fails LimitCheck

scanned_is : (scan : Scan) (rest : List Value)
    → scanned_integer scan rest ≡ number_outcome (number_of scan) rest
scanned_is (found token end) rest = by (number_in token) refl
  where
    by : (number : Option ℤ) → number_in token ≡ number
        → scanned_integer (found token end) rest
        ≡ number_outcome (number_of (found token end)) rest
    by (Some n) is = rw is refl
    by None is = rw is refl
scanned_is exhausted rest = refl
scanned_is (faulty syntax_fault) rest = refl
scanned_is (faulty limit_fault) rest = refl

module _ (l : Lent) (w : Word) (top : Some w ≡ first_of l.operands) where
  abbrev value : Value
  value = value_of (birth_at l.heap) l.names w

  abbrev rest : List Value
  rest = values_in l.heap l.names (drop 1 l.operands)

  cvi_is : (store : Store) → effect_in (reading_row (cvi_row scan)) l store
      ≡ operands_effect (scene_of l store) (cvi_by scan store value value.what rest)
  cvi_is store = rw (first_split l.operands w top) refl

  pub cvi_stays : is_some (as_integer value) ≡ true → (attempt : Attempt) (store : Store)
      → IsShown l store
      → LeavesWords (reading_row (cvi_row scan)) attempt nothing_asked l l.operands store
  unfolding as_integer
  cvi_stays some attempt store shown = record {
    is = cvi_is store
        ∙ (ap (operands_effect (scene_of l store)) (by_integer store value rest value.what some)
        ∙ rw (first_split l.operands w top) refl);
    within = shown.operands;
  }

  pub cvi_wrong : is_some (as_integer value) ≡ false → as_string value ≡ None → (store : Store)
      → IsShown l store → effect_in (reading_row (cvi_row scan)) l store ≡ raises TypeCheck
  unfolding as_integer as_string
  cvi_wrong apart none store shown =
      cvi_is store
      ∙ ap (operands_effect (scene_of l store)) (by_other store value rest value.what apart none)

  module _ (part : PartValue) (part_is : as_string value ≡ Some part) where
    cvi_string : (store : Store) → effect_in (reading_row (cvi_row scan)) l store
        ≡ operands_effect (scene_of l store) (given_that (is_readable part.access) InvalidAccess
        (scanned_integer (scan (part_bytes store part) 0) rest))
    unfolding as_string
    cvi_string store =
        cvi_is store
        ∙ ap (operands_effect (scene_of l store))
        (by_string store value rest part value.what part_is)

    pub cvi_hidden : is_readable part.access ≡ false → (store : Store) → IsShown l store
        → effect_in (reading_row (cvi_row scan)) l store ≡ raises InvalidAccess
    cvi_hidden hidden store shown = cvi_string store ∙ rw hidden refl

    module _ (may : is_readable part.access ≡ true) (result : Result ℤ NumberFault)
        (read : (store : Store) → IsShown l store
        → result ≡ number_of (scan (part_bytes store part) 0)) where
      -- by the number that was read
      pub cvi_read : (store : Store) → IsShown l store
          → effect_in (reading_row (cvi_row scan)) l store
          ≡ operands_effect (scene_of l store) (number_outcome result rest)
      cvi_read store shown =
          cvi_string store
          ∙ (rw may refl
          ∙ ap (operands_effect (scene_of l store))
          (scanned_is (scan (part_bytes store part) 0) rest
          ∙ ap (λ (r : Result ℤ NumberFault). number_outcome r rest) (sym (read store shown))))

      pub cvi_left : (number : ℤ) → result ≡ Ok number → (attempt : Attempt) (r : Word) → IsPlain r
          → ((births : ℕ → ℕ) (names : List (List ℕ)) → value_of births names r ≡ integer number)
          → (store : Store) → IsShown l store
          → LeavesWords (reading_row (cvi_row scan)) attempt nothing_asked l (r ∷ drop 1 l.operands)
          store
      cvi_left number is attempt r plain means store shown = record {
        is = cvi_read store shown ∙ rw (is, means (birth_at l.heap) l.names) refl;
        within = (
          plain_within (birth_at l.heap) l.names store r plain,
          rest_held (IsWithin (birth_at l.heap) l.names store) l.operands shown.operands 1,
        );
      }

-- The words of an error's entries, and of an operator, by their values.
use Rattle.std.proofs.Common.{◌≡◌, ℕ, Bool, List, [], ◌∷◌, drop, map, sym, ap, subst, true}
use Rattle.ps_language.specs.declared.errors.ErrorName.{ErrorName}
use Rattle.ps_language.specs.declared.operators.Operator.{Operator}
use Rattle.ps_language.specs.Value.{Value, Dictionary, Store}
use Rattle.ps_language.specs.Readers.{null, literal_name}
use Rattle.ps_language.specs.StepErrors.{error_text}
use Rattle.ps_language.specs.StepValues.{command_of}
use Rattle.ps_word.specs.declared.words.Word.{Word}
use Rattle.ps_word.specs.declared.values.Content.TheVariants.{Operator as OperatorContent}
use Rattle.ps_word.specs.declared.values.Value.{Value as Packed}
use Rattle.ps_word.specs.Format.{value_in, content_in, IsWord}
use Rattle.ps_mem.specs.Heap.{Heap}
use Rattle.ps_mem.specs.Meaning.{value_of, what_of}
use Rattle.ps_mem.specs.Shows.{IsValue, IsWithin, pair_of}
use Rattle.ps_mem.proofs.ValueLemmas.{IsPlain, plain_operator, IsValue-plain, IsWithin-plain}
use Rattle.ps_dict.specs.declared.entries.ErrorEntries.{ErrorEntries}
use Rattle.ps_dict.specs.Entries.{entry_pairs, error_planned}
use Rattle.ps_step_outcome.specs.Entries.{entries_with}
use Rattle.ps_step_outcome.proofs.Telling.{plan}

abbrev first_pair : List (Value × Value) → Value × Value
first_pair [] = (null, null)
first_pair (pair ∷ pairs) = pair

module _ (births : ℕ → ℕ) (names : List (List ℕ)) (entries : ErrorEntries) (new : Bool)
    (error : ErrorName) (command : Value)
    (are : map (pair_of births names) (entry_pairs entries) ≡ entries_with new error command) where
  pub name_valued : value_of births names entries.errorname.1 ≡ literal_name (error_text error)
  unfolding value_of
  name_valued = ap (λ ps. (first_pair (drop 1 ps)).1) are

  pub command_valued : value_of births names entries.command.1 ≡ command
  unfolding value_of
  command_valued = ap (λ ps. (first_pair (drop 2 ps)).1) are

  pub plan_valued : (d : Dictionary)
      → error_planned d (value_of births names entries.newerror.0)
      (value_of births names entries.errorname.0) (value_of births names entries.command.0)
      ≡ plan error command d
  unfolding value_of
  plan_valued d = λ i. error_planned d (ap (λ ps. (first_pair ps).0) are i)
      (ap (λ ps. (first_pair (drop 1 ps)).0) are i)
      (ap (λ ps. (first_pair (drop 2 ps)).0) are i)

-- ---- an operator as a command

module _ (w : Word) (operator : Operator)
    (is : value_in w.0 ≡ record { content = OperatorContent operator; executable = true }) where
  plain : IsPlain (content_in w.0)
  plain = subst IsPlain (sym (ap (λ (v : Packed). v.content) is)) (plain_operator operator)

  pub operator_held : (h : Heap) → IsWord w.0 → IsValue h w
  operator_held = IsValue-plain w plain

  pub operator_within : (births : ℕ → ℕ) (names : List (List ℕ)) (s : Store)
      → IsWithin births names s w
  operator_within = IsWithin-plain w plain

  pub operator_met : (births : ℕ → ℕ) (names : List (List ℕ))
      → value_of births names w ≡ command_of operator
  unfolding value_of
  operator_met births names = ap {B = Value} (λ (v : Packed).
      record { what = what_of births names v.content; executable = v.executable }) is

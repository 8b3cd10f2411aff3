-- What `dict` makes.
use Rattle.std.proofs.Common.{◌≡◌, ℕ, ◌+◌, ◌*◌, ◌≤◌, Bool, true, false, List, [], ◌∷◌, ◌++◌, drop, Option, Some, None}
use Rattle.std.proofs.Common.{refl, sym, ap, ◌∙◌, arith}
use Rattle.std.specs.Prelude.{ℤ, nat_le}
use Rattle.std.proofs.lemmas.Bool.Decides.{nat_tests}
use Rattle.ps_language.specs.declared.errors.ErrorName.TheVariants.{TypeCheck, RangeCheck, LimitCheck}
use Rattle.ps_language.specs.Access.{empty_dictionary}
use Rattle.ps_language.specs.Objects.{making}
use Rattle.ps_language.specs.Outcome.{given, given_that}
use Rattle.ps_language.specs.Readers.{as_integer, as_count, literal}
use Rattle.ps_language.specs.RowsDictionaries.{dict_row}
use Rattle.ps_language.specs.Value.{Value, Store, dictionary_value, dictionary_object}
use Rattle.ps_stacks.specs.Tops.{first_of}
use Rattle.ps_word.specs.declared.words.Word.{Word}
use Rattle.ps_mem.specs.Heap.{Heap, birth_at}
use Rattle.ps_mem.specs.Meaning.{value_of}
use Rattle.ps_mem.specs.Shows.{IsWithin, AreWithin, Shows}
use Rattle.ps_ops_state.proofs.Asking.{Leaving, IsMade}
use Rattle.ps_ops_operands.specs.Changes.{values_in}
use Rattle.ps_ops_operands.proofs.Operands.{first_split}
use Rattle.ps_ops_operands.proofs.Making.{IsMaking, MakesObject}

-- ---- the row makes a dictionary, if it makes anything

pub dict_made : (store : Store) (operands : List Value)
    → Leaving (IsMade store) (dict_row store operands)
dict_made store [] = record { such = tt }
dict_made store (k ∷ rest) = number (as_integer k)
  where
    new : (n : ℕ) → Leaving (IsMade store)
        (making (dictionary_object (empty_dictionary n)) rest store)
    new n = record {
      such = record { object = dictionary_object (empty_dictionary n); grown = refl };
    }

    fits : (n : ℕ) (test : Bool) → Leaving (IsMade store) (given_that test LimitCheck
        (making (dictionary_object (empty_dictionary n)) rest store))
    fits n true = new n
    fits n false = record { such = tt }

    count : (found : Option ℕ) → Leaving (IsMade store) (given found RangeCheck λ n.
        given_that (nat_le n 21845) LimitCheck
        (making (dictionary_object (empty_dictionary n)) rest store))
    count None = record { such = tt }
    count (Some n) = fits n (nat_le n 21845)

    number : (found : Option ℤ) → Leaving (IsMade store) (given found TypeCheck λ i.
        given (as_count i) RangeCheck λ n. given_that (nat_le n 21845) LimitCheck
        (making (dictionary_object (empty_dictionary n)) rest store))
    number None = record { such = tt }
    number (Some i) = count (as_count i)

-- ---- of a number

module _ (h : Heap) (old : List Word) (top : Word) (number : ℤ) (n : ℕ)
    (first : Some top ≡ first_of old)
    (number_is : (births : ℕ → ℕ) (names : List (List ℕ))
    → as_integer (value_of births names top) ≡ Some number)
    (count : Some n ≡ as_count number) (limit : n ≤ 21845) where
  row_is : (names : List (List ℕ)) (s : Store) → dict_row s (values_in h names old)
      ≡ making (dictionary_object (empty_dictionary n)) (values_in h names (drop 1 old)) s
  row_is names s =
      let few : nat_le n 21845 ≡ true = grind (arith, nat_tests, limit) in
      rw (first_split old top first, number_is (birth_at h) names, sym count, few) refl

  pub dict_making : (names : List (List ℕ)) (s : Store) → IsMaking dict_row h (8 + 3 * n) old names s
  dict_making names s = record {
    object = dictionary_object (empty_dictionary n);
    rest = values_in h names (drop 1 old);
    is = row_is names s;
    size = omega arith;
  }

  pub dict_object : (now : Heap) (w : Word) (address : ℕ) → birth_at now address ≡ h.next
      → ((births : ℕ → ℕ) (names : List (List ℕ))
      → value_of births names w ≡ literal (dictionary_value (births address)))
      → ((births : ℕ → ℕ) (names : List (List ℕ)) (s : Store) → IsWithin births names s w)
      → (names : List (List ℕ)) (s : Store) → Shows h names s
      → AreWithin h names s (drop 1 old)
      → Shows now names (s ++ dictionary_object (empty_dictionary n) ∷ [])
      → MakesObject dict_row h now old (drop 1 old) w names s
  dict_object now w address born value inside names s shows within shown = record {
    object = dictionary_object (empty_dictionary n);
    is = row_is names s;
    reference = value (birth_at now) names
        ∙ ap (λ (b : ℕ). literal (dictionary_value b)) (born ∙ shows.next);
    word_within = inside (birth_at now) names (s ++ dictionary_object (empty_dictionary n) ∷ []);
    within = within;
    shows = shown;
  }

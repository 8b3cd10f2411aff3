-- An element that bind looks at, by what it is.
use Rattle.std.proofs.Common.{◌≡◌, ℕ, Bool, true, false, List, Option, Some, None, Ok, Err, refl, sym, ap, ◌∙◌}
use Rattle.std.specs.Prelude.{◌&&◌, Result}
use Rattle.ps_language.specs.declared.errors.ErrorName.{ErrorName}
use Rattle.ps_language.specs.declared.operators.Operator.{Operator as Named}
use Rattle.ps_language.specs.declared.access.Access.TheVariants.{ReadOnly}
use Rattle.ps_language.specs.Value.{array_value, Store}
use Rattle.ps_language.specs.Access.{is_writable}
use Rattle.ps_language.specs.Control.{as_procedure}
use Rattle.ps_language.specs.Dictionaries.{look_up}
use Rattle.ps_language.specs.Readers.{array_in}
use Rattle.ps_language.specs.StepValues.{seen, looked_up, is_executable_name}
use Rattle.ps_language.specs.StepBind.{operator_in}
use Rattle.ps_word.specs.declared.values.Content.{Content}
use Rattle.ps_word.specs.declared.values.Content.TheVariants.{Null, Integer, Boolean, Mark, Name, Operator, Array, Text, Dictionary, Lock, Condition, Body}
use Rattle.ps_word.specs.declared.values.Part.{Part}
use Rattle.ps_word.specs.declared.words.Word.{Word}
use Rattle.ps_word.specs.Format.{content_in, executable_in}
use Rattle.ps_word.specs.Readers.{as_operator}
use Rattle.ps_mem.specs.Heap.{Heap, birth_at}
use Rattle.ps_mem.specs.Meaning.{value_of, what_of, part_of}
use Rattle.ps_mem.specs.Shows.{IsValue, IsWithin}
use Rattle.ps_ops_operands.specs.Changes.{values_in}
use Rattle.ps_ops_control.specs.Frames.{IsHeld}
use Rattle.ps_step_lookup.specs.Lookups.{found_of}
use Rattle.ps_step_frames.specs.declared.binds.Bound.TheVariants.{Kept, Replaced, Entered}
use Rattle.ps_step_frames.specs.Binds.{IsHere, look_in, Binds}

-- ---- what a word is

module _ (word : Word) (births : ℕ → ℕ) (names : List (List ℕ)) where
  pub literal_no_procedure : executable_in word.0 ≡ false
      → as_procedure (value_of births names word) ≡ None
  unfolding as_procedure value_of
  literal_no_procedure literal = rw literal refl

  module _ (part : Part) (array : content_in word.0 ≡ Array part) where
    pub array_unnamed : is_executable_name (value_of births names word) ≡ false
    unfolding is_executable_name value_of
    array_unnamed = rw array (never (executable_in word.0))
      where
        never : (b : Bool) → (b && false) ≡ false
        never true = refl
        never false = refl

    pub array_procedure : executable_in word.0 ≡ true
        → as_procedure (value_of births names word) ≡ Some (part_of births part)
    unfolding as_procedure value_of
    array_procedure may = rw (array, may) refl

  no_array_in : (content : Content) → ((x : Part) → content ≡ Array x → ⊥)
      → array_in (what_of births names content) ≡ None
  no_array_in (Array part) other = absurd (other part refl)
  no_array_in (Name _) other = refl
  no_array_in Null other = refl
  no_array_in (Integer _) other = refl
  no_array_in (Boolean _) other = refl
  no_array_in Mark other = refl
  no_array_in (Operator _) other = refl
  no_array_in (Text _) other = refl
  no_array_in (Dictionary _) other = refl
  no_array_in (Lock _) other = refl
  no_array_in (Condition _) other = refl
  no_array_in (Body _) other = refl

  pub other_no_procedure : (content : Content) → content ≡ content_in word.0
      → executable_in word.0 ≡ true → ((x : Part) → content ≡ Array x → ⊥)
      → as_procedure (value_of births names word) ≡ None
  unfolding as_procedure value_of
  other_no_procedure content is may other =
      rw (may, sym is) (no_array_in content other)

  pub operator_found : (operator : Named) → Some operator ≡ as_operator (content_in word.0)
      → operator_in (value_of births names word).what ≡ true
  unfolding value_of
  operator_found operator is = by (content_in word.0) is
    where
      by : (content : Content) → Some operator ≡ as_operator content
          → operator_in (what_of births names content) ≡ true
      by (Operator _) is = refl
      by Null is = cc
      by (Integer _) is = cc
      by (Boolean _) is = cc
      by Mark is = cc
      by (Name _) is = cc
      by (Array _) is = cc
      by (Text _) is = cc
      by (Dictionary _) is = cc
      by (Lock _) is = cc
      by (Condition _) is = cc
      by (Body _) is = cc

  pub operator_not_found : None ≡ as_operator (content_in word.0)
      → operator_in (value_of births names word).what ≡ false
  unfolding value_of
  operator_not_found is = by (content_in word.0) is
    where
      by : (content : Content) → None ≡ as_operator content
          → operator_in (what_of births names content) ≡ false
      by (Operator _) is = cc
      by Null is = refl
      by (Integer _) is = refl
      by (Boolean _) is = refl
      by Mark is = refl
      by (Name _) is = refl
      by (Array _) is = refl
      by (Text _) is = refl
      by (Dictionary _) is = refl
      by (Lock _) is = refl
      by (Condition _) is = refl
      by (Body _) is = refl

-- ---- elements

module _ (h : Heap) (dictionaries : List Word) (word : Word) where
  -- it is no name and no procedure
  pub kept : ((births : ℕ → ℕ) (names : List (List ℕ))
      → is_executable_name (value_of births names word) ≡ false)
      → ((births : ℕ → ℕ) (names : List (List ℕ))
      → as_procedure (value_of births names word) ≡ None)
      → Binds h dictionaries word (Some Kept)
  kept unnamed none = record {
    binds = λ names s here later.
        rw (unnamed (birth_at h) names, none (birth_at h) names) refl;
    replaced = λ names s here. rw (unnamed (birth_at h) names, none (birth_at h) names) refl;
    held = tt;
    within = λ names s here. tt;
  }

  module _ (part : Part) (array : content_in word.0 ≡ Array part)
      (may : executable_in word.0 ≡ true) where
    pub procedure_kept : is_writable part.access ≡ false → Binds h dictionaries word (Some Kept)
    procedure_kept not_written = record {
      binds = λ names s here later. rw (
        array_unnamed word (birth_at h) names part array,
        array_procedure word (birth_at h) names part array may,
        not_written,
      ) refl;
      replaced = λ names s here. rw (
        array_unnamed word (birth_at h) names part array,
        array_procedure word (birth_at h) names part array may,
        not_written,
      ) refl;
      held = tt;
      within = λ names s here. tt;
    }

    pub procedure_entered : is_writable part.access ≡ true → IsHeld h part → (procedure : Word)
        → ((births : ℕ → ℕ) (names : List (List ℕ)) → value_of births names procedure
        ≡ record {
          what = array_value (part_of births (record part { access = ReadOnly }));
          executable = true;
        })
        → IsValue h procedure
        → ((births : ℕ → ℕ) (names : List (List ℕ)) (s : Store)
        → IsWithin births names s procedure)
        → Binds h dictionaries word (Some (Entered procedure part))
    procedure_entered written stands procedure means held within = record {
      binds = λ names s here later. rw (
        array_unnamed word (birth_at h) names part array,
        array_procedure word (birth_at h) names part array may,
        written,
        means (birth_at h) names,
      ) refl;
      replaced = λ names s here. rw (
        array_unnamed word (birth_at h) names part array,
        array_procedure word (birth_at h) names part array may,
        written,
      ) refl;
      held = (held, stands);
      within = λ names s here. within (birth_at h) names s;
    }

  -- ---- names

  module _ (named : (births : ℕ → ℕ) (names : List (List ℕ))
      → is_executable_name (value_of births names word) ≡ true)
      (result : Result (Option (Word × Word)) ErrorName)
      (looks : (names : List (List ℕ)) (s : Store) → IsHere h dictionaries word names s
      → look_up s (values_in h names dictionaries) (value_of (birth_at h) names word)
      ≡ found_of (birth_at h) names result) where
    finds : (names : List (List ℕ)) (s : Store) → IsHere h dictionaries word names s
        → look_in h dictionaries names s (value_of (birth_at h) names word)
        ≡ seen (found_of (birth_at h) names result)
    unfolding looked_up
    finds names s here = ap seen (looks names s here)

    finds_as : (other : Result (Option (Word × Word)) ErrorName) → result ≡ other
        → (names : List (List ℕ)) (s : Store) → IsHere h dictionaries word names s
        → look_in h dictionaries names s (value_of (birth_at h) names word)
        ≡ seen (found_of (birth_at h) names other)
    finds_as other is names s here =
        finds names s here ∙ ap (λ r. seen (found_of (birth_at h) names r)) is

    pub name_unmet : result ≡ Ok None → Binds h dictionaries word (Some Kept)
    name_unmet is = record {
      binds = λ names s here later.
          rw (named (birth_at h) names, finds_as (Ok None) is names s here) refl;
      replaced = λ names s here.
          rw (named (birth_at h) names, finds_as (Ok None) is names s here) refl;
      held = tt;
      within = λ names s here. tt;
    }

    pub name_unread : (error : ErrorName) → result ≡ Err error → Binds h dictionaries word None
    name_unread error is = record {
      binds = λ names s here later.
          rw (named (birth_at h) names, finds_as (Err error) is names s here) refl;
      replaced = λ names s here.
          rw (named (birth_at h) names, finds_as (Err error) is names s here) refl;
      held = tt;
      within = λ names s here. tt;
    }

    module _ (pair : Word × Word) (is : result ≡ Ok (Some pair)) where
      pub name_kept : None ≡ as_operator (content_in pair.1.0)
          → Binds h dictionaries word (Some Kept)
      name_kept none = record {
        binds = λ names s here later. rw (
          named (birth_at h) names,
          finds_as (Ok (Some pair)) is names s here,
          operator_not_found pair.1 (birth_at h) names none,
        ) refl;
        replaced = λ names s here. rw (
          named (birth_at h) names,
          finds_as (Ok (Some pair)) is names s here,
          operator_not_found pair.1 (birth_at h) names none,
        ) refl;
        held = tt;
        within = λ names s here. tt;
      }

      pub name_replaced : (operator : Named) → Some operator ≡ as_operator (content_in pair.1.0)
          → IsValue h pair.1
          → ((names : List (List ℕ)) (s : Store) → IsHere h dictionaries word names s
          → IsWithin (birth_at h) names s pair.1)
          → Binds h dictionaries word (Some (Replaced pair.1))
      name_replaced operator some held within = record {
        binds = λ names s here later. rw (
          named (birth_at h) names,
          finds_as (Ok (Some pair)) is names s here,
          operator_found pair.1 (birth_at h) names operator some,
        ) refl;
        replaced = λ names s here. rw (
          named (birth_at h) names,
          finds_as (Ok (Some pair)) is names s here,
          operator_found pair.1 (birth_at h) names operator some,
        ) refl;
        held = held;
        within = within;
      }

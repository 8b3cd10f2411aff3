-- What words are, as operands of control.
use Rattle.std.proofs.Common.{◌≡◌, ℕ, List, true, false, Some, None, refl, ap, ◌∙◌}
use Rattle.std.specs.Prelude.{option_map}
use Rattle.ps_language.specs.Control.{boolean_in, as_boolean, as_procedure}
use Rattle.ps_language.specs.Access.{is_executable}
use Rattle.ps_word.specs.declared.values.Part.{Part}
use Rattle.ps_word.specs.declared.words.Word.{Word}
use Rattle.ps_word.specs.declared.values.Content.{Content}
use Rattle.ps_word.specs.declared.values.Content.TheVariants.{Null, Integer, Boolean, Mark, Name, Operator, Array, Text}
use Rattle.ps_word.specs.declared.values.Content.TheVariants.{Dictionary, Lock, Condition, Body}
use Rattle.ps_word.specs.Format.{content_in, executable_in}
use Rattle.ps_word.specs.Readers as words
use Rattle.ps_word.proofs.Reading.{enterable}
use Rattle.ps_mem.specs.Heap.{Heap}
use Rattle.ps_mem.specs.Meaning.{value_of, what_of, part_of}
use Rattle.ps_mem.specs.Shows.{IsValue}
use Rattle.ps_ops_operands.proofs.Reading.{as_array-value, as_array-stands, as_array-ends}
use Rattle.ps_ops_control.specs.Frames.{IsHeld}
use Rattle.ps_language.specs.Readers as language

boolean_meant : (births : ℕ → ℕ) (names : List (List ℕ)) (c : Content)
    → boolean_in (what_of births names c) ≡ words.as_boolean c
boolean_meant births names Null = refl
boolean_meant births names (Integer number) = refl
boolean_meant births names (Boolean truth) = refl
boolean_meant births names Mark = refl
boolean_meant births names (Name number) = refl
boolean_meant births names (Operator operator) = refl
boolean_meant births names (Array part) = refl
boolean_meant births names (Text part) = refl
boolean_meant births names (Dictionary address) = refl
boolean_meant births names (Lock address) = refl
boolean_meant births names (Condition address) = refl
boolean_meant births names (Body address) = refl

pub as_boolean-value : (births : ℕ → ℕ) (names : List (List ℕ)) (w : Word)
    → as_boolean (value_of births names w) ≡ words.as_boolean (content_in w.0)
unfolding as_boolean value_of
as_boolean-value births names w = boolean_meant births names (content_in w.0)

-- an executable array is a procedure
pub procedure-executable : (births : ℕ → ℕ) (names : List (List ℕ)) (w : Word) → executable_in w.0 ≡ true
    → as_procedure (value_of births names w) ≡ language.as_array (value_of births names w)
unfolding as_procedure value_of language.as_array
procedure-executable births names w executable = rw executable refl

-- what is literal is none
pub procedure-literal : (births : ℕ → ℕ) (names : List (List ℕ)) (w : Word) → executable_in w.0 ≡ false
    → as_procedure (value_of births names w) ≡ None
unfolding as_procedure value_of
procedure-literal births names w literal = rw literal refl

-- a word that is read as a procedure that may be executed
pub record IsEntered (w : Word) (part : Part) : Type 0 where
  pub procedure : (births : ℕ → ℕ) (names : List (List ℕ))
      → as_procedure (value_of births names w) ≡ Some (part_of births part)
  pub may : is_executable part.access ≡ true
  pub held : (h : Heap) → IsValue h w → IsHeld h part

pub entered : (w : Word) (part : Part)
    → Some part ≡ words.as_enterable (executable_in w.0) (content_in w.0) → IsEntered w part
entered w part is =
    let read = enterable _ _ part is in
    record {
      procedure = λ births names. procedure-executable births names w read.flag
          ∙ (as_array-value births names w
          ∙ ap (λ (c : Content). option_map (part_of births) (words.as_array c)) read.array);
      may = read.may;
      held = λ h value. record {
        stands = rw read.array at (as_array-stands h w value);
        end = rw read.array at (as_array-ends w value.word);
      };
    }

pub ruleset boolean_lemmas = (as_boolean-value)

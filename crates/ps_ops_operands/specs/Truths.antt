-- When a word is what an operator makes of booleans, or of integers bit by bit.
use Rattle.std.specs.Prelude.{◌≡◌, ℕ, ℤ, Bool, Option, List, option_map}
use Rattle.ps_language.specs.Readers.{literal}
use Rattle.ps_language.specs.RowsArithmetic.{combination, negation}
use Rattle.ps_word.specs.declared.words.Word.{Word}
use Rattle.ps_mem.specs.Meaning.{value_of}

-- of two words, whatever the memory
pub record Combines (on_truths : Bool → Bool → Bool) (on_bits : ℤ → ℤ
    → ℤ) (left right : Word) (result : Option Word) : Type 0 where
  pub agrees : (births : ℕ → ℕ) (names : List (List ℕ)) → option_map (value_of births names) result
      ≡ option_map literal
      (combination on_truths on_bits (value_of births names left) (value_of births names right))

-- of one
pub record Negates (operand : Word) (result : Option Word) : Type 0 where
  pub agrees : (births : ℕ → ℕ) (names : List (List ℕ)) → option_map (value_of births names) result
      ≡ option_map literal (negation (value_of births names operand))

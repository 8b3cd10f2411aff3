-- Where the words come from that an operator leaves.
use Rattle.std.specs.Prelude.{◌≡◌, ℕ, List, Some, slice_get}
use Rattle.std.specs.List.{AllByRecursion}
use Rattle.ps_word.specs.declared.words.Word.{Word}
use Rattle.ps_ops_operands.specs.Plain.{IsPlain}

-- a word that was held, or a plain one
pub data IsFrom (old : List Word) (w : Word) : Type 0 where
  held : (place : ℕ) → slice_get old place ≡ Some w → IsFrom old w
  plain : IsPlain w → IsFrom old w

-- each word is one of these
pub record AreFrom (old new : List Word) : Type 0 where
  pub each : AllByRecursion (IsFrom old) new

-- Where the topmost mark stands among operands.
use Rattle.std.specs.Prelude.{◌≡◌, ℕ, ◌+◌, Some, None, List, take, drop}
use Rattle.ps_language.specs.RowsStack.{split_at_mark}
use Rattle.ps_word.specs.declared.words.Word.{Word}
use Rattle.ps_ops_operands.specs.Does.{values_of}

-- it stands below so many operands, whatever the memory
pub record IsMarkAt (words : List Word) (depth : ℕ) : Type 0 where
  pub splits : (births : ℕ → ℕ) (names : List (List ℕ))
      → split_at_mark (values_of births names words)
      ≡ Some (
        take depth (values_of births names words),
        drop (depth + 1)
            (values_of births names words),
      )

-- none of them is a mark
pub record HasNoMark (words : List Word) : Type 0 where
  pub none : (births : ℕ → ℕ) (names : List (List ℕ)) → split_at_mark (values_of births names words)
      ≡ None

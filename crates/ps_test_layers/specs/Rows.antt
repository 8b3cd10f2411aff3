-- Pairs that rows of an index speak of.
use Rattle.std.specs.Prelude.{ℕ, List, Some, map}
use Rattle.ps_word.specs.declared.words.Word.{Word}
use Rattle.ps_mem.specs.Index.{index_word}

-- one value under these integers, in order
abbrev pub integer_pairs : Word → List ℕ → List (Word × Word)
integer_pairs value numbers = map (λ n. (index_word (Some n), value)) numbers

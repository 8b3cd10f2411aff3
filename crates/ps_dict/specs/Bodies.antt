-- The words of a whole body, and a new body of a dictionary.
use Rattle.std.specs.Prelude.{ℕ, ◌-◌, ◌*◌, List, ◌++◌, length, replicate}
use Rattle.ps_word.specs.declared.words.Word.{Word}
use Rattle.ps_mem.specs.Heap.{Heap, birth_at, stored, made_body, zero_word}
use Rattle.ps_mem.specs.Index.{index_words}
use Rattle.ps_mem.specs.Shows.{words_of_pairs}

-- of a capacity: the words of its pairs, nulls, and the index of the pairs
abbrev pub whole_body : (births : ℕ → ℕ) → (capacity : ℕ) → List (Word × Word) → List Word
whole_body births capacity pairs =
    words_of_pairs pairs
    ++ (replicate (2 * (capacity - length pairs)) zero_word ++ index_words births capacity pairs)

-- with a new body of a capacity at an address, for a dictionary, that has these pairs
abbrev pub with_body : Heap → (dictionary body capacity : ℕ) → List (Word × Word) → Heap
with_body h dictionary body capacity pairs =
    stored (made_body h body (birth_at h dictionary) (3 * capacity)) body 0
    (whole_body (birth_at h) capacity pairs)

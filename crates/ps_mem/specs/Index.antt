-- The index of a dictionary: in which of the last words of its body the position of each pair
-- stands. It follows from the capacity and the keys in order.
use Rattle.std.specs.Prelude.{ℕ, pos, suc, ◌+◌, ◌%◌, Bool, true, false, List, [], ◌∷◌, ◌++◌, map, take, drop, length, replicate, Option, Some, None, if◌then◌else◌}
use Rattle.std.specs.Int.{w32, cast_unsigned}
use Rattle.ps_word.specs.declared.words.Word.{Word}
use Rattle.ps_word.specs.declared.values.Content.{Content}
use Rattle.ps_word.specs.declared.values.Content.TheVariants.{Null, Integer, Boolean, Mark, Name, Operator, Array, Text, Dictionary, Lock, Condition, Body}
use Rattle.ps_language.specs.Operators.{operator_number}
use Rattle.ps_word.specs.Format.{content_in, bit_of, packed}
use Rattle.ps_mem.specs.Heap.{zero_word}

-- ---- hash numbers

-- an integer's 32 bits without sign, a name's and an operator's number, an array's birth number,
-- offset and length, and of any other object its birth number: no address, so that an object that
-- moves keeps its hash number
abbrev pub hash_of_content : (births : ℕ → ℕ) → Content → ℕ
hash_of_content births Null = 0
hash_of_content births (Integer number) = cast_unsigned w32 number
hash_of_content births (Boolean truth) = bit_of truth
hash_of_content births Mark = 0
hash_of_content births (Name number) = number
hash_of_content births (Operator operator) = operator_number operator
hash_of_content births (Array part) = births part.address + part.offset + part.length
hash_of_content births (Text part) = births part.address
hash_of_content births (Dictionary address) = births address
hash_of_content births (Lock address) = births address
hash_of_content births (Condition address) = births address
hash_of_content births (Body address) = births address

unfoldable pub hash_of : (births : ℕ → ℕ) → Word → ℕ
hash_of births key = hash_of_content births (content_in key.0)

-- ---- places, each free or with a position

abbrev pub has_free : List (Option ℕ) → Bool
has_free [] = false
has_free (None ∷ places) = true
has_free (Some position ∷ places) = has_free places

-- a position in the first free place
abbrev pub filled : ℕ → List (Option ℕ) → List (Option ℕ)
filled position [] = []
filled position (None ∷ places) = Some position ∷ places
filled position (Some other ∷ places) = Some other ∷ filled position places

-- a position in the first free place from a start on, going round
unfoldable pub placed : (position start : ℕ) → List (Option ℕ) → List (Option ℕ)
placed position start places =
    if has_free (drop start places) then take start places ++ filled position (drop start places)
    else filled position (take start places) ++ drop start places

-- positions from the first on, each by its hash number, one after another
abbrev pub placed_all : (position : ℕ) → List ℕ → List (Option ℕ) → List (Option ℕ)
placed_all position [] places = places
placed_all position (hash ∷ hashes) places =
    placed_all (suc position) hashes (placed position (hash % length places) places)

-- of so many places, by the hash numbers of the keys in order
unfoldable pub index_of : ℕ → List ℕ → List (Option ℕ)
index_of capacity hashes = placed_all 0 hashes (replicate capacity None)

-- ---- words

-- words in twos, key before value
unfoldable pub pairs_of_words : List Word → List (Word × Word)
pairs_of_words [] = []
pairs_of_words (key ∷ []) = []
pairs_of_words (key ∷ value ∷ words) = (key, value) ∷ pairs_of_words words

-- null, or the literal integer of a position
abbrev pub index_word : Option ℕ → Word
index_word None = zero_word
index_word (Some position) =
    record { 0 = packed (record { content = Integer (pos position); executable = false }) }

-- the hash numbers of the keys of pairs
abbrev pub hashes_of : (births : ℕ → ℕ) → List (Word × Word) → List ℕ
hashes_of births pairs = map (λ pair. hash_of births pair.0) pairs

-- the index of pairs in a body of a capacity
unfoldable pub index_words : (births : ℕ → ℕ) → ℕ → List (Word × Word) → List Word
index_words births capacity pairs = map index_word (index_of capacity (hashes_of births pairs))

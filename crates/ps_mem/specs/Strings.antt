-- The words of a string: eight bytes a word, the first in the lowest bits, zeros behind the last.
use Rattle.std.specs.Prelude.{ℕ, zero, suc, ◌+◌, ◌*◌, ◌<◌, List, [], ◌∷◌, take, drop, length}
use Rattle.std.specs.List.{AllByRecursion}
use Rattle.ps_word.specs.declared.words.Word.{Word}
use Rattle.ps_mem.specs.References.{words_for}

abbrev pub AreBytes : List ℕ → Type 0
AreBytes bytes = AllByRecursion (λ byte. byte < 256) bytes

-- bytes as a number, the first the lowest
unfoldable pub number_of_bytes : List ℕ → ℕ
number_of_bytes [] = 0
number_of_bytes (byte ∷ bytes) = byte + 256 * number_of_bytes bytes

unfoldable pub words_from : ℕ → List ℕ → List Word
words_from zero bytes = []
words_from (suc n) bytes = record { 0 = number_of_bytes (take 8 bytes) }
    ∷ words_from n (drop 8 bytes)

abbrev pub words_of : List ℕ → List Word
words_of bytes = words_from (words_for (length bytes)) bytes

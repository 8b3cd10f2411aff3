-- How long a word's value is, and whether it may be read.
use Rattle.std.proofs.Common.{◌≡◌, ℕ, List, Some, None, true, length, refl, ap}
use Rattle.ps_language.specs.Value.{Store}
use Rattle.ps_language.specs.Access.{is_readable, permits, may_read, dictionary_at}
use Rattle.ps_language.specs.RowsSequences.{length_in, length_of}
use Rattle.ps_word.specs.declared.words.Word.{Word}
use Rattle.ps_word.specs.declared.values.Part.{Part}
use Rattle.ps_word.specs.declared.values.Content.{Content}
use Rattle.ps_word.specs.declared.values.Content.TheVariants.{Name, Array, Text, Dictionary}
use Rattle.ps_word.specs.Format.{content_in}
use Rattle.ps_word.specs.Readers as words
use Rattle.ps_mem.specs.Meaning.{value_of, what_of, text_of_name}
use Rattle.ps_ops_types.proofs.Accesses.{part_has, dictionary_has, nothing_has}

module _ (births : ℕ → ℕ) (names : List (List ℕ)) (s : Store) where
  part_measured : (c : Content) (part : Part) → Some part ≡ words.as_part c
      → length_in s (what_of births names c) ≡ Some part.length
  part_measured (Array p) part is = let same : part ≡ p = cc in rw same refl
  part_measured (Text p) part is = let same : part ≡ p = cc in rw same refl
  part_measured c part is = cc

  name_measured : (c : Content) (number : ℕ) → Some number ≡ words.as_name c
      → length_in s (what_of births names c) ≡ Some (length (text_of_name names number))
  name_measured (Name n) number is = let same : number ≡ n = cc in rw same refl
  name_measured c number is = cc

  dictionary_measured : (c : Content) (a : ℕ) → Some a ≡ words.as_dictionary c
      → length_in s (what_of births names c) ≡ Some (length (dictionary_at s (births a)).pairs)
  dictionary_measured (Dictionary b) a is = let same : a ≡ b = cc in rw same refl
  dictionary_measured c a is = cc

  nothing_measured : (c : Content) → None ≡ words.as_part c → None ≡ words.as_name c
      → None ≡ words.as_dictionary c → length_in s (what_of births names c) ≡ None
  nothing_measured (Array _) part name dictionary = cc
  nothing_measured (Text _) part name dictionary = cc
  nothing_measured (Name _) part name dictionary = cc
  nothing_measured (Dictionary _) part name dictionary = cc
  nothing_measured c part name dictionary = refl

  name_unlike : (c : Content) (number : ℕ) → Some number ≡ words.as_name c
      → None ≡ words.as_dictionary c
  name_unlike (Name _) number is = refl
  name_unlike c number is = cc

  pub part_length : (w : Word) (part : Part) → Some part ≡ words.as_part (content_in w.0)
      → length_of s (value_of births names w) ≡ Some part.length
  unfolding length_of value_of
  part_length w part is = part_measured (content_in w.0) part is

  pub part_access : (w : Word) (part : Part) → Some part ≡ words.as_part (content_in w.0)
      → may_read s (value_of births names w) ≡ is_readable part.access
  part_access w part is = ap (permits is_readable) (part_has births names s w part is)

  pub name_length : (w : Word) (number : ℕ) → Some number ≡ words.as_name (content_in w.0)
      → length_of s (value_of births names w) ≡ Some (length (text_of_name names number))
  unfolding length_of value_of
  name_length w number is = name_measured (content_in w.0) number is

  pub name_access : (w : Word) (number : ℕ) → None ≡ words.as_part (content_in w.0)
      → Some number ≡ words.as_name (content_in w.0)
      → may_read s (value_of births names w) ≡ true
  name_access w number part is = ap (permits is_readable)
      (nothing_has births names s w part (name_unlike (content_in w.0) number is))

  pub dictionary_length : (w : Word) (a : ℕ) → Some a ≡ words.as_dictionary (content_in w.0)
      → length_of s (value_of births names w) ≡ Some (length (dictionary_at s (births a)).pairs)
  unfolding length_of value_of
  dictionary_length w a is = dictionary_measured (content_in w.0) a is

  pub dictionary_access : (w : Word) (a : ℕ) → Some a ≡ words.as_dictionary (content_in w.0)
      → may_read s (value_of births names w) ≡ is_readable (dictionary_at s (births a)).access
  dictionary_access w a is = ap (permits is_readable) (dictionary_has births names s w a is)

  pub nothing_length : (w : Word) → None ≡ words.as_part (content_in w.0)
      → None ≡ words.as_name (content_in w.0) → None ≡ words.as_dictionary (content_in w.0)
      → length_of s (value_of births names w) ≡ None
  unfolding length_of value_of
  nothing_length w part name dictionary = nothing_measured (content_in w.0) part name dictionary

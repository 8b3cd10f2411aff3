-- What is known of a value where its word is a string or a dictionary, or is none.
use Rattle.std.proofs.Common.{◌≡◌, ℕ, List, Option, Some, None, refl, ap, ◌∙◌}
use Rattle.std.specs.Prelude.{is_some, option_map}
use Rattle.ps_language.specs.Readers.{as_string, as_dictionary, dictionary_in}
use Rattle.ps_word.specs.declared.words.Word.{Word}
use Rattle.ps_word.specs.declared.values.Content.{Content}
use Rattle.ps_word.specs.declared.values.Content.TheVariants.{Null, Integer, Boolean, Mark, Name, Operator, Array, Text, Dictionary, Lock, Condition, Body}
use Rattle.ps_word.specs.Format.{content_in}
use Rattle.ps_word.specs.Readers as words
use Rattle.ps_mem.specs.Meaning.{value_of, what_of, part_of}
use Rattle.ps_ops_operands.proofs.Reading.{as_string-value}

pub some_mapped : {A B : Type 0} (f : A → B) (o : Option A) → is_some (option_map f o) ≡ is_some o
some_mapped f (Some a) = refl
some_mapped f None = refl

module _ (births : ℕ → ℕ) (names : List (List ℕ)) where
  dictionary_meant : (c : Content)
      → is_some (dictionary_in (what_of births names c)) ≡ is_some (words.as_dictionary c)
  dictionary_meant Null = refl
  dictionary_meant (Integer _) = refl
  dictionary_meant (Boolean _) = refl
  dictionary_meant Mark = refl
  dictionary_meant (Name _) = refl
  dictionary_meant (Operator _) = refl
  dictionary_meant (Array _) = refl
  dictionary_meant (Text _) = refl
  dictionary_meant (Dictionary _) = refl
  dictionary_meant (Lock _) = refl
  dictionary_meant (Condition _) = refl
  dictionary_meant (Body _) = refl

  pub dictionary_known : (w : Word) → is_some (as_dictionary (value_of births names w))
      ≡ is_some (words.as_dictionary (content_in w.0))
  unfolding as_dictionary value_of
  dictionary_known w = dictionary_meant (content_in w.0)

  pub string_known : (w : Word) → is_some (as_string (value_of births names w))
      ≡ is_some (words.as_text (content_in w.0))
  string_known w =
      ap is_some (as_string-value births names w)
      ∙ some_mapped (part_of births) (words.as_text (content_in w.0))

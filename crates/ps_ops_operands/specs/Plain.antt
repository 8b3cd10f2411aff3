-- Words whose values are the same in every memory.
use Rattle.std.specs.Prelude.{ℤ, Bool}
use Rattle.ps_word.specs.declared.words.Word.{Word}
use Rattle.ps_word.specs.declared.values.Content.{Content}
use Rattle.ps_word.specs.declared.values.Content.TheVariants.{Null, Integer, Boolean, Mark}
use Rattle.ps_word.specs.Format.{content_in, IsWord}

-- nulls, marks, integers and booleans
pub data IsPlainContent : Content → Type 0 where
  plain_null : IsPlainContent Null
  plain_mark : IsPlainContent Mark
  plain_integer : (number : ℤ) → IsPlainContent (Integer number)
  plain_boolean : (truth : Bool) → IsPlainContent (Boolean truth)

-- a word of the format that is one of these
pub record IsPlain (w : Word) : Type 0 where
  pub word : IsWord w.0
  pub content : IsPlainContent (content_in w.0)

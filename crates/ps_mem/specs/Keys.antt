-- When two words are the same key.
use Rattle.std.specs.Prelude.{◌≡◌, ◌==◌, ◌&&◌, Bool, true, false}
use Rattle.std.specs.Ordering.{int_eq}
use Rattle.ps_language.specs.Equality.{same_truth, same_operator}
use Rattle.ps_word.specs.declared.words.Word.{Word}
use Rattle.ps_word.specs.declared.values.Part.{Part}
use Rattle.ps_word.specs.declared.values.Content.{Content}
use Rattle.ps_word.specs.declared.values.Content.TheVariants.{Null, Integer, Boolean, Mark, Name, Operator, Array, Dictionary, Lock, Condition}
use Rattle.ps_word.specs.Format.{content_in, IsWord, is_body}

-- access doesn't matter
abbrev pub same_place : Part → Part → Bool
same_place p q = p.address == q.address && p.offset == q.offset && p.length == q.length

-- names and objects by their numbers; a string is the same as nothing
abbrev pub same_content : Content → Content → Bool
same_content Null Null = true
same_content Mark Mark = true
same_content (Integer i) (Integer j) = int_eq i j
same_content (Boolean a) (Boolean b) = same_truth a b
same_content (Name a) (Name b) = a == b
same_content (Operator a) (Operator b) = same_operator a b
same_content (Array p) (Array q) = same_place p q
same_content (Dictionary a) (Dictionary b) = a == b
same_content (Lock a) (Lock b) = a == b
same_content (Condition a) (Condition b) = a == b
same_content _ _ = false

-- attributes don't matter
unfoldable pub same_words : Word → Word → Bool
same_words a b = same_content (content_in a.0) (content_in b.0)

-- a word that can be a key: a value's, and so not a body
pub record IsKey (w : Word) : Type 0 where
  pub word : IsWord w.0
  pub visible : is_body (content_in w.0) ≡ false

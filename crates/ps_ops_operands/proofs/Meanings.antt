-- What words stand for, read from the words.
use Rattle.std.proofs.Common.{◌≡◌, ℕ, ℤ, List, Bool, false, refl, sym, ap, subst}
use Rattle.ps_language.specs.Value.{mark_value, Value}
use Rattle.ps_language.specs.Readers.{literal, integer, boolean, null, integer_in, mark_in, as_integer, is_mark}
use Rattle.ps_word.specs.declared.words.Word.{Word}
use Rattle.ps_word.specs.declared.values.Content.{Content}
use Rattle.ps_word.specs.declared.values.Content.TheVariants.{Null, Integer, Boolean, Mark, Name, Operator, Array, Text}
use Rattle.ps_word.specs.declared.values.Content.TheVariants.{Dictionary, Lock, Condition, Body}
use Rattle.ps_word.specs.declared.values.Value.{Value as Packed}
use Rattle.ps_word.specs.Format.{content_in, value_in, IsWord}
use Rattle.ps_word.specs.Readers as words
use Rattle.ps_mem.specs.Meaning.{what_of, value_of}
use Rattle.ps_ops_operands.specs.Plain.{IsPlainContent, plain_null, plain_mark, plain_integer, plain_boolean, IsPlain}

module _ (births : ℕ → ℕ) (names : List (List ℕ)) where
  integer_meant : (c : Content) → integer_in (what_of births names c) ≡ words.as_integer c
  integer_meant Null = refl
  integer_meant (Integer number) = refl
  integer_meant (Boolean truth) = refl
  integer_meant Mark = refl
  integer_meant (Name number) = refl
  integer_meant (Operator operator) = refl
  integer_meant (Array part) = refl
  integer_meant (Text part) = refl
  integer_meant (Dictionary address) = refl
  integer_meant (Lock address) = refl
  integer_meant (Condition address) = refl
  integer_meant (Body address) = refl

  mark_meant : (c : Content) → mark_in (what_of births names c) ≡ words.is_mark c
  mark_meant Null = refl
  mark_meant (Integer number) = refl
  mark_meant (Boolean truth) = refl
  mark_meant Mark = refl
  mark_meant (Name number) = refl
  mark_meant (Operator operator) = refl
  mark_meant (Array part) = refl
  mark_meant (Text part) = refl
  mark_meant (Dictionary address) = refl
  mark_meant (Lock address) = refl
  mark_meant (Condition address) = refl
  mark_meant (Body address) = refl

-- the integer that a word stands for is the word's
pub as_integer-word : (births : ℕ → ℕ) (names : List (List ℕ)) (w : Word)
    → as_integer (value_of births names w) ≡ words.as_integer (content_in w.0)
unfolding as_integer value_of
as_integer-word births names w = integer_meant births names (content_in w.0)

-- and so with marks
pub is_mark-word : (births : ℕ → ℕ) (names : List (List ℕ)) (w : Word)
    → is_mark (value_of births names w) ≡ words.is_mark (content_in w.0)
unfolding is_mark value_of
is_mark-word births names w = mark_meant births names (content_in w.0)

-- what a word of this value stands for
value-packed : (births : ℕ → ℕ) (names : List (List ℕ)) (w : Word) (v : Packed) → value_in w.0 ≡ v
    → value_of births names w ≡ record { what = what_of births names v.content; executable = v.executable }
unfolding value_of
value-packed births names w v is =
    ap {B = Value} (λ (packed : Packed). record {
      what = what_of births names packed.content;
      executable = packed.executable;
    }) is

pub value-integer : (births : ℕ → ℕ) (names : List (List ℕ)) (w : Word) (number : ℤ)
    → value_in w.0 ≡ record { content = Integer number; executable = false } → value_of births names w ≡ integer number
value-integer births names w number is = value-packed births names w _ is

pub value-boolean : (births : ℕ → ℕ) (names : List (List ℕ)) (w : Word) (truth : Bool)
    → value_in w.0 ≡ record { content = Boolean truth; executable = false } → value_of births names w ≡ boolean truth
value-boolean births names w truth is = value-packed births names w _ is

pub value-mark : (births : ℕ → ℕ) (names : List (List ℕ)) (w : Word)
    → value_in w.0 ≡ record { content = Mark; executable = false } → value_of births names w ≡ literal mark_value
value-mark births names w is = value-packed births names w _ is

pub value-null : (births : ℕ → ℕ) (names : List (List ℕ)) (w : Word)
    → value_in w.0 ≡ record { content = Null; executable = false } → value_of births names w ≡ null
value-null births names w is = value-packed births names w _ is

-- words of these values are plain
plain-packed : (w : Word) (v : Packed) → value_in w.0 ≡ v → IsPlainContent v.content → IsWord w.0 → IsPlain w
plain-packed w v is plain word =
    record { word = word; content = subst IsPlainContent (sym (ap (λ (packed : Packed). packed.content) is)) plain }

pub plain-integer : (w : Word) (number : ℤ) → value_in w.0 ≡ record { content = Integer number; executable = false }
    → IsWord w.0 → IsPlain w
plain-integer w number is = plain-packed w _ is (plain_integer number)

pub plain-boolean : (w : Word) (truth : Bool) → value_in w.0 ≡ record { content = Boolean truth; executable = false }
    → IsWord w.0 → IsPlain w
plain-boolean w truth is = plain-packed w _ is (plain_boolean truth)

pub plain-mark : (w : Word) → value_in w.0 ≡ record { content = Mark; executable = false } → IsWord w.0 → IsPlain w
plain-mark w is = plain-packed w _ is plain_mark

pub plain-null : (w : Word) → value_in w.0 ≡ record { content = Null; executable = false } → IsWord w.0 → IsPlain w
plain-null w is = plain-packed w _ is plain_null

pub ruleset readers = (as_integer-word, is_mark-word)

-- Words that are values in any memory: those that refer to nothing.
use Rattle.std.proofs.Common.{◌≡◌, ℕ, List, refl, sym, ap, subst, Bool, false}
use Rattle.std.specs.Prelude.{ℤ}
use Rattle.ps_language.specs.declared.operators.Operator.{Operator as OperatorName}
use Rattle.ps_language.specs.Value.{Store}
use Rattle.ps_word.specs.declared.words.Word.{Word}
use Rattle.ps_word.specs.declared.values.Content.{Content}
use Rattle.ps_word.specs.declared.values.Content.TheVariants.{Null, Integer, Boolean, Mark, Operator}
use Rattle.ps_word.specs.declared.values.Value.{Value}
use Rattle.ps_word.specs.Format.{content_in, value_in, IsWord, is_body}
use Rattle.ps_mem.specs.Heap.{Heap}
use Rattle.ps_mem.specs.References.{IsKnown, IsKnownContent}
use Rattle.ps_mem.specs.Shows.{IsValue, IsWithin, IsWithinContent}

-- numbers, truths, operators, nulls and marks
pub data IsPlain : Content → Type 0 where
  plain_null : IsPlain Null
  plain_mark : IsPlain Mark
  plain_integer : (number : ℤ) → IsPlain (Integer number)
  plain_boolean : (truth : Bool) → IsPlain (Boolean truth)
  plain_operator : (operator : OperatorName) → IsPlain (Operator operator)

plain_known : (h : Heap) {content : Content} → IsPlain content → IsKnownContent h content
plain_known h plain_null = tt
plain_known h plain_mark = tt
plain_known h (plain_integer _) = tt
plain_known h (plain_boolean _) = tt
plain_known h (plain_operator _) = tt

plain_visible : {content : Content} → IsPlain content → is_body content ≡ false
plain_visible plain_null = refl
plain_visible plain_mark = refl
plain_visible (plain_integer _) = refl
plain_visible (plain_boolean _) = refl
plain_visible (plain_operator _) = refl

plain_within : (births : ℕ → ℕ) (names : List (List ℕ)) (s : Store) {content : Content} → IsPlain content
    → IsWithinContent births names s content
plain_within births names s plain_null = tt
plain_within births names s plain_mark = tt
plain_within births names s (plain_integer _) = tt
plain_within births names s (plain_boolean _) = tt
plain_within births names s (plain_operator _) = tt

module _ (w : Word) (plain : IsPlain (content_in w.0)) where
  pub IsValue-plain : (h : Heap) → IsWord w.0 → IsValue h w
  unfolding IsKnown
  IsValue-plain h word = record { word = word; known = plain_known h plain; visible = plain_visible plain }

  pub IsWithin-plain : (births : ℕ → ℕ) (names : List (List ℕ)) (s : Store) → IsWithin births names s w
  unfolding IsWithin
  IsWithin-plain births names s = plain_within births names s plain

-- a literal integer is a value
pub IsValue-integer : (h : Heap) (w : Word) (number : ℤ)
    → value_in w.0 ≡ record { content = Integer number; executable = false } → IsWord w.0 → IsValue h w
IsValue-integer h w number is word =
    IsValue-plain w (subst IsPlain (sym (ap (λ (v : Value). v.content) is)) (plain_integer number)) h word

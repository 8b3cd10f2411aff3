-- A memory stays ready under operands that an operator on operands alone left.
use Rattle.std.proofs.Common.{ℕ, List, drop}
use Rattle.ps_language.specs.Value.{Store}
use Rattle.ps_word.specs.declared.words.Word.{Word}
use Rattle.ps_word.specs.declared.values.Content.{Content}
use Rattle.ps_ops_operands.specs.Plain.{IsPlainContent, plain_null as null_content, plain_mark as mark_content, plain_integer as integer_content, plain_boolean as boolean_content, IsPlain as IsPlainWord}
use Rattle.ps_ops_operands.specs.Kept.{AreFrom}
use Rattle.ps_ops_operands.proofs.Sources.{have_from}
use Rattle.ps_mem.specs.Heap.{Heap}
use Rattle.ps_mem.specs.Shows.{IsValue, IsReady, IsWithin}
use Rattle.ps_ops_operands.proofs.Held.{rest_held}
use Rattle.ps_mem.proofs.ValueLemmas.{IsPlain, plain_null, plain_mark, plain_integer, plain_boolean, IsValue-plain, IsWithin-plain}

plain_content : {content : Content} → IsPlainContent content → IsPlain content
plain_content null_content = plain_null
plain_content mark_content = plain_mark
plain_content (integer_content number) = plain_integer number
plain_content (boolean_content truth) = plain_boolean truth

-- a plain word is a value in any memory
pub plain_value : (h : Heap) (w : Word) → IsPlainWord w → IsValue h w
plain_value h w plain = IsValue-plain w (plain_content plain.content) h plain.word

-- and within any store
pub plain_within : (births : ℕ → ℕ) (names : List (List ℕ)) (store : Store) (w : Word) → IsPlainWord w
    → IsWithin births names store w
plain_within births names store w plain = IsWithin-plain w (plain_content plain.content) births names store

pub ruleset plain_lemmas = (plain_value, plain_within)

pub ready_from : (h : Heap) (old new : List Word) → IsReady h old → AreFrom old new → IsReady h new
ready_from h old new ready from =
    record { sound = ready.sound; values = have_from (IsValue h) old new (plain_value h) ready.values from }

pub ready_drop : (h : Heap) (old : List Word) (n : ℕ) → IsReady h old → IsReady h (drop n old)
ready_drop h old n ready = record { sound = ready.sound; values = rest_held (IsValue h) old ready.values n }

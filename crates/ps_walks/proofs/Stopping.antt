-- Which words are names.
use Rattle.std.proofs.Common.{◌≡◌, ℕ, Bool, Some, sym, ap, subst}
use Rattle.ps_word.specs.declared.values.Content.{Content}
use Rattle.ps_word.specs.declared.values.Content.TheVariants.{Null, Integer, Boolean, Mark, Name, Operator, Array, Text}
use Rattle.ps_word.specs.declared.values.Content.TheVariants.{Dictionary, Lock, Condition, Body}
use Rattle.ps_word.specs.declared.values.Value.{Value}
use Rattle.ps_word.specs.declared.words.Word.{Word}
use Rattle.ps_word.specs.Format.{content_in, is_body, value_in, IsWord}
use Rattle.ps_word.specs.Readers.{as_name}
use Rattle.ps_mem.specs.Heap.{Heap}
use Rattle.ps_mem.specs.References.{IsKnown, IsKnownContent}
use Rattle.ps_mem.specs.Shows.{IsValue}

pub name_content : (content : Content) (number : ℕ) → Some number ≡ as_name content
    → content ≡ Name number
name_content Null number is = cc
name_content (Integer _) number is = cc
name_content (Boolean _) number is = cc
name_content Mark number is = cc
name_content (Name _) number is = cc
name_content (Operator _) number is = cc
name_content (Array _) number is = cc
name_content (Text _) number is = cc
name_content (Dictionary _) number is = cc
name_content (Lock _) number is = cc
name_content (Condition _) number is = cc
name_content (Body _) number is = cc

-- a name's word is a value
pub name_held : (h : Heap) (w : Word) (number : ℕ) → IsWord w.0 → content_in w.0 ≡ Name number
    → IsValue h w
unfolding IsKnown
name_held h w number word is = record {
  word = word;
  known = subst (IsKnownContent h) (sym is) tt;
  visible = ap is_body is;
}

-- as the content of its value
pub content_by : (w : Word) (content : Content) (executable : Bool)
    → value_in w.0 ≡ record { content = content; executable = executable }
    → content_in w.0 ≡ content
content_by w content executable is = ap (λ (v : Value). v.content) is

-- Words that operators make, as values of the language and as what may stand in a memory.
use Rattle.std.proofs.Common.{◌≡◌, ℕ, ◌+◌, ◌≤◌, List, Bool, Some, refl, sym, ap, subst, length}
use Rattle.ps_language.specs.Value.{Part as PartValue, What, array_value, Store, string_value}
use Rattle.ps_language.specs.Readers as language
use Rattle.ps_language.specs.declared.kinds.Kind.TheVariants.{Array as ArrayKind, Text as TextKind}
use Rattle.ps_language.specs.Access.{bytes}
use Rattle.ps_word.specs.declared.words.Word.{Word}
use Rattle.ps_word.specs.declared.values.Part.{Part}
use Rattle.ps_word.specs.declared.values.Content.{Content}
use Rattle.ps_word.specs.declared.values.Content.TheVariants.{Null, Integer, Boolean, Mark, Name, Operator, Array, Text, Dictionary, Lock, Condition, Body}
use Rattle.ps_word.specs.declared.values.Value.{Value}
use Rattle.ps_word.specs.Format.{content_in, executable_in, value_in, IsWord, IsPart, IsInFormat, is_body}
use Rattle.ps_word.specs.Readers as words
use Rattle.ps_mem.specs.Heap.{Heap}
use Rattle.ps_mem.specs.References.{StandsAs, IsKnown, IsKnownContent, words_for}
use Rattle.ps_mem.specs.Meaning.{value_of, what_of, part_of}
use Rattle.ps_mem.specs.Shows.{IsValue, IsWithin, IsWithinContent}

-- the value of a word whose fields are known
pub value_of-is : (births : ℕ → ℕ) (names : List (List ℕ)) (w : Word) (content : Content) (executable : Bool)
    → value_in w.0 ≡ record { content = content; executable = executable }
    → value_of births names w ≡ record { what = what_of births names content; executable = executable }
unfolding value_of
value_of-is births names w content executable is =
    ap (λ (v : Value). record { what = what_of births names v.content; executable = v.executable }) is

module _ (w : Word) (part : Part) (executable : Bool) (is : value_in w.0 ≡ record {
  content = Array part;
  executable = executable;
}) where
  pub array_value_is : (births : ℕ → ℕ) (names : List (List ℕ))
      → value_of births names w ≡ record { what = array_value (part_of births part); executable = executable }
  array_value_is births names = value_of-is births names w (Array part) executable is

  pub array_held : IsWord w.0 → (h : Heap) → StandsAs h ArrayKind part.address (part.offset + part.length) → IsValue h w
  unfolding IsKnown
  array_held word h stands =
      let content : content_in w.0 ≡ Array part = ap (λ (v : Value). v.content) is in
      record { word = word; known = subst (IsKnownContent h) (sym content) stands; visible = ap is_body content }

  pub array_within : (births : ℕ → ℕ) (names : List (List ℕ)) (store : Store) → IsWithin births names store w
  unfolding IsWithin
  array_within births names store =
      subst (IsWithinContent births names store) (sym (ap (λ (v : Value). v.content) is)) tt

-- another part of an array
part_replaced_of : (births : ℕ → ℕ) (names : List (List ℕ)) (c : Content) (part : PartValue) (old : Part)
    → words.as_array c ≡ Some old → language.part_replaced (what_of births names c) part ≡ array_value part
part_replaced_of births names (Array _) part old is = refl
part_replaced_of births names Null part old is = cc
part_replaced_of births names (Integer _) part old is = cc
part_replaced_of births names (Boolean _) part old is = cc
part_replaced_of births names Mark part old is = cc
part_replaced_of births names (Name _) part old is = cc
part_replaced_of births names (Operator _) part old is = cc
part_replaced_of births names (Text _) part old is = cc
part_replaced_of births names (Dictionary _) part old is = cc
part_replaced_of births names (Lock _) part old is = cc
part_replaced_of births names (Condition _) part old is = cc
part_replaced_of births names (Body _) part old is = cc

pub with_part-is : (births : ℕ → ℕ) (names : List (List ℕ)) (w : Word) (part old : Part)
    → words.as_array (content_in w.0) ≡ Some old
    → record { what = array_value (part_of births part); executable = executable_in w.0 }
    ≡ language.with_part (value_of births names w) (part_of births part)
unfolding value_of
with_part-is births names w part old is =
    ap (λ (what : What). record { what = what; executable = executable_in w.0 })
    (sym (part_replaced_of births names (content_in w.0) (part_of births part) old is))

-- the value that is packed is one of the format
pub array_in_format : (part : Part) (executable : Bool) → IsPart part
    → IsInFormat (record { content = Array part; executable = executable })
array_in_format part executable p = record { content = p; literal_body = refl }

pub ruleset maker_lemmas = (array_value_is, array_held, array_within, array_in_format)

pub ruleset part_lemmas = (with_part-is)

module _ (w : Word) (part : Part) (executable : Bool) (is : value_in w.0
    ≡ record { content = Text part; executable = executable }) where
  pub string_value_is : (births : ℕ → ℕ) (names : List (List ℕ)) → value_of births names w
      ≡ record { what = string_value (part_of births part); executable = executable }
  string_value_is births names = value_of-is births names w (Text part) executable is

  pub string_held : IsWord w.0 → (h : Heap) → StandsAs h TextKind part.address (words_for
      (part.offset + part.length)) → IsValue h w
  unfolding IsKnown
  string_held word h stands =
      let content : content_in w.0 ≡ Text part = ap (λ (v : Value). v.content) is in
      record {
        word = word;
        known = subst (IsKnownContent h) (sym content) stands;
        visible = ap
            is_body content;
      }

  pub string_within : (births : ℕ → ℕ) (names : List (List ℕ)) (store : Store)
      → part.offset + part.length ≤ length (bytes store (births part.address))
      → IsWithin births names store w
  unfolding IsWithin
  string_within births names store within = subst (IsWithinContent births names store) (sym (ap (λ
      (v : Value). v.content) is)) within

-- another part of a string
string_replaced_of : (births : ℕ → ℕ) (names : List (List ℕ)) (c : Content) (part : PartValue)
    (old : Part) → words.as_text c ≡ Some old → language.part_replaced (what_of births names c) part
    ≡ string_value part
string_replaced_of births names Null part old is = cc
string_replaced_of births names (Integer _) part old is = cc
string_replaced_of births names (Boolean _) part old is = cc
string_replaced_of births names Mark part old is = cc
string_replaced_of births names (Name _) part old is = cc
string_replaced_of births names (Operator _) part old is = cc
string_replaced_of births names (Array _) part old is = cc
string_replaced_of births names (Text _) part old is = refl
string_replaced_of births names (Dictionary _) part old is = cc
string_replaced_of births names (Lock _) part old is = cc
string_replaced_of births names (Condition _) part old is = cc
string_replaced_of births names (Body _) part old is = cc

pub with_string_part-is : (births : ℕ → ℕ) (names : List (List ℕ)) (w : Word) (part old : Part)
    → words.as_text (content_in w.0) ≡ Some old
    → record { what = string_value (part_of births part); executable = executable_in w.0 }
    ≡ language.with_part (value_of births names w) (part_of births part)
unfolding value_of
with_string_part-is births names w part old is = ap (λ (what : What). record {
  what = what;
  executable =
      executable_in w.0;
}) (sym (string_replaced_of births names (content_in w.0)
    (part_of births part) old is))

-- the value that is packed is one of the format
pub string_in_format : (part : Part) (executable : Bool) → IsPart part → IsInFormat
    (record { content = Text part; executable = executable })
string_in_format part executable p = record { content = p; literal_body = refl }

pub ruleset string_maker_lemmas = (string_value_is, string_held, string_within, string_in_format)

pub ruleset string_part_lemmas = (with_string_part-is)

-- What words are, as words and as values.
use Rattle.std.proofs.Common.{◌≡◌, ℕ, ◌+◌, ◌<◌, ◌^◌, ◌≤◌, List, refl, length}
use Rattle.std.specs.Prelude.{IfSome, option_map}
use Rattle.ps_language.specs.Readers as language
use Rattle.ps_language.specs.declared.kinds.Kind.TheVariants.{Array as ArrayKind, Text as TextKind}
use Rattle.ps_language.specs.Value.{Store}
use Rattle.ps_language.specs.Access.{bytes}
use Rattle.ps_word.specs.declared.words.Word.{Word}
use Rattle.ps_word.specs.declared.values.Content.{Content}
use Rattle.ps_word.specs.declared.values.Content.TheVariants.{Null, Integer, Boolean, Mark, Name, Operator, Array, Text, Dictionary, Lock, Condition, Body}
use Rattle.ps_word.specs.Format.{content_in, IsWord, IsContent}
use Rattle.ps_word.specs.Readers as words
use Rattle.ps_mem.specs.Heap.{Heap}
use Rattle.ps_mem.specs.References.{StandsAs, IsKnown, IsKnownContent, words_for}
use Rattle.ps_mem.specs.Meaning.{value_of, what_of, part_of}
use Rattle.ps_mem.specs.Shows.{IsValue, IsWithin, IsWithinContent}

integer_in-what : (births : ℕ → ℕ) (names : List (List ℕ)) (c : Content)
    → language.integer_in (what_of births names c) ≡ words.as_integer c
integer_in-what births names Null = refl
integer_in-what births names (Integer _) = refl
integer_in-what births names (Boolean _) = refl
integer_in-what births names Mark = refl
integer_in-what births names (Name _) = refl
integer_in-what births names (Operator _) = refl
integer_in-what births names (Array _) = refl
integer_in-what births names (Text _) = refl
integer_in-what births names (Dictionary _) = refl
integer_in-what births names (Lock _) = refl
integer_in-what births names (Condition _) = refl
integer_in-what births names (Body _) = refl

pub as_integer-value : (births : ℕ → ℕ) (names : List (List ℕ)) (w : Word)
    → language.as_integer (value_of births names w) ≡ words.as_integer (content_in w.0)
unfolding value_of language.as_integer
as_integer-value births names w = integer_in-what births names (content_in w.0)

array_in-what : (births : ℕ → ℕ) (names : List (List ℕ)) (c : Content)
    → language.array_in (what_of births names c) ≡ option_map (part_of births) (words.as_array c)
array_in-what births names Null = refl
array_in-what births names (Integer _) = refl
array_in-what births names (Boolean _) = refl
array_in-what births names Mark = refl
array_in-what births names (Name _) = refl
array_in-what births names (Operator _) = refl
array_in-what births names (Array _) = refl
array_in-what births names (Text _) = refl
array_in-what births names (Dictionary _) = refl
array_in-what births names (Lock _) = refl
array_in-what births names (Condition _) = refl
array_in-what births names (Body _) = refl

pub as_array-value : (births : ℕ → ℕ) (names : List (List ℕ)) (w : Word)
    → language.as_array (value_of births names w) ≡ option_map (part_of births) (words.as_array (content_in w.0))
unfolding value_of language.as_array
as_array-value births names w = array_in-what births names (content_in w.0)

array_stands : (h : Heap) (c : Content) → IsKnownContent h c
    → IfSome (words.as_array c) (λ part. StandsAs h ArrayKind part.address (part.offset + part.length))
array_stands h Null k = tt
array_stands h (Integer _) k = tt
array_stands h (Boolean _) k = tt
array_stands h Mark k = tt
array_stands h (Name _) k = tt
array_stands h (Operator _) k = tt
array_stands h (Array p) k = k
array_stands h (Text _) k = tt
array_stands h (Dictionary _) k = tt
array_stands h (Lock _) k = tt
array_stands h (Condition _) k = tt
array_stands h (Body _) k = tt

pub as_array-stands : (h : Heap) (w : Word) → IsValue h w
    → IfSome (words.as_array (content_in w.0)) (λ part. StandsAs h ArrayKind part.address (part.offset + part.length))
unfolding IsKnown
as_array-stands h w v = array_stands h (content_in w.0) v.known

array_ends : (c : Content) → IsContent c → IfSome (words.as_array c) (λ part. part.offset + part.length < 2 ^ 16)
array_ends Null k = tt
array_ends (Integer _) k = tt
array_ends (Boolean _) k = tt
array_ends Mark k = tt
array_ends (Name _) k = tt
array_ends (Operator _) k = tt
array_ends (Array p) k = k.within
array_ends (Text _) k = tt
array_ends (Dictionary _) k = tt
array_ends (Lock _) k = tt
array_ends (Condition _) k = tt
array_ends (Body _) k = tt

pub as_array-ends : (w : Word) → IsWord w.0
    → IfSome (words.as_array (content_in w.0)) (λ part. part.offset + part.length < 2 ^ 16)
as_array-ends w word = array_ends (content_in w.0) word.value.content

string_in-what : (births : ℕ → ℕ) (names : List (List ℕ)) (c : Content) → language.string_in
    (what_of births names c) ≡ option_map (part_of births) (words.as_text c)
string_in-what births names Null = refl
string_in-what births names (Integer _) = refl
string_in-what births names (Boolean _) = refl
string_in-what births names Mark = refl
string_in-what births names (Name _) = refl
string_in-what births names (Operator _) = refl
string_in-what births names (Array _) = refl
string_in-what births names (Text _) = refl
string_in-what births names (Dictionary _) = refl
string_in-what births names (Lock _) = refl
string_in-what births names (Condition _) = refl
string_in-what births names (Body _) = refl

pub as_string-value : (births : ℕ → ℕ) (names : List (List ℕ)) (w : Word) → language.as_string
    (value_of births names w) ≡ option_map (part_of births) (words.as_text (content_in w.0))
unfolding value_of language.as_string
as_string-value births names w = string_in-what births names (content_in w.0)

string_stands : (h : Heap) (c : Content) → IsKnownContent h c → IfSome (words.as_text c)
    (λ part. StandsAs h TextKind part.address (words_for (part.offset + part.length)))
string_stands h Null k = tt
string_stands h (Integer _) k = tt
string_stands h (Boolean _) k = tt
string_stands h Mark k = tt
string_stands h (Name _) k = tt
string_stands h (Operator _) k = tt
string_stands h (Array _) k = tt
string_stands h (Text p) k = k
string_stands h (Dictionary _) k = tt
string_stands h (Lock _) k = tt
string_stands h (Condition _) k = tt
string_stands h (Body _) k = tt

pub as_string-stands : (h : Heap) (w : Word) → IsValue h w → IfSome (words.as_text (content_in w.0))
    (λ part. StandsAs h TextKind part.address (words_for (part.offset + part.length)))
unfolding IsKnown
as_string-stands h w v = string_stands h (content_in w.0) v.known

string_within : (births : ℕ → ℕ) (names : List (List ℕ)) (store : Store) (c : Content)
    → IsWithinContent births names store c → IfSome (words.as_text c)
    (λ part. part.offset + part.length ≤ length (bytes store (births part.address)))
string_within births names store Null k = tt
string_within births names store (Integer _) k = tt
string_within births names store (Boolean _) k = tt
string_within births names store Mark k = tt
string_within births names store (Name _) k = tt
string_within births names store (Operator _) k = tt
string_within births names store (Array _) k = tt
string_within births names store (Text p) k = k
string_within births names store (Dictionary _) k = tt
string_within births names store (Lock _) k = tt
string_within births names store (Condition _) k = tt
string_within births names store (Body _) k = tt

pub as_string-within : (births : ℕ → ℕ) (names : List (List ℕ)) (store : Store) (w : Word)
    → IsWithin births names store w → IfSome (words.as_text (content_in w.0))
    (λ part. part.offset + part.length ≤ length (bytes store (births part.address)))
unfolding IsWithin
as_string-within births names store w within = string_within births names store
    (content_in w.0) within

string_ends : (c : Content) → IsContent c → IfSome (words.as_text c)
    (λ part. part.offset + part.length < 2 ^ 16)
string_ends Null k = tt
string_ends (Integer _) k = tt
string_ends (Boolean _) k = tt
string_ends Mark k = tt
string_ends (Name _) k = tt
string_ends (Operator _) k = tt
string_ends (Array _) k = tt
string_ends (Text p) k = k.within
string_ends (Dictionary _) k = tt
string_ends (Lock _) k = tt
string_ends (Condition _) k = tt
string_ends (Body _) k = tt

pub as_string-ends : (w : Word) → IsWord w.0 → IfSome (words.as_text (content_in w.0))
    (λ part. part.offset + part.length < 2 ^ 16)
as_string-ends w word = string_ends (content_in w.0) word.value.content

pub ruleset integer_lemmas = (as_integer-value)

pub ruleset array_lemmas = (as_array-value, as_array-stands, as_array-ends)

pub ruleset string_lemmas = (as_string-value, as_string-stands, as_string-within, as_string-ends)

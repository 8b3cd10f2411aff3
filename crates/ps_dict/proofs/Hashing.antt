-- The hash number of a key by its content, and the birth number that a header says.
use Rattle.std.proofs.Common.{◌≡◌, ℕ, length, Some, refl, sym, ap, ◌∙◌, subst}
use Rattle.std.specs.Prelude.{IsSome, IfSome}
use Rattle.ps_language.specs.declared.kinds.Kind.{Kind}
use Rattle.ps_word.specs.declared.words.Word.{Word}
use Rattle.ps_word.specs.declared.headers.Header.{Header}
use Rattle.ps_word.specs.declared.values.Content.{Content}
use Rattle.ps_word.specs.declared.values.Content.TheVariants.{Null, Integer, Boolean, Mark, Name, Operator, Array, Text, Dictionary, Lock, Condition, Body}
use Rattle.ps_word.specs.Format.{content_in, IsContent}
use Rattle.ps_word.specs.Readers.{as_name}
use Rattle.ps_word.proofs.Places.{IsContent-of_word}
use Rattle.ps_mem.specs.Heap.{Heap, object_at, birth_of, birth_at}
use Rattle.ps_mem.specs.References.{StandsAs, IsKnown, IsKnownContent}
use Rattle.ps_mem.specs.Index.{hash_of, hash_of_content}
use Rattle.ps_mem.specs.Shows.{IsValue}

pub hash-content : (births : ℕ → ℕ) (key : Word) (content : Content) → content ≡ content_in key.0
    → hash_of_content births content ≡ hash_of births key
unfolding hash_of
hash-content births key content is = ap (hash_of_content births) is

pub known-content : (h : Heap) (key : Word) (content : Content) → content ≡ content_in key.0
    → IsValue h key → IsKnownContent h content
unfolding IsKnown
known-content h key content is held = subst (IsKnownContent h) (sym is) held.known

pub fits-content : (h : Heap) (key : Word) (content : Content) → content ≡ content_in key.0
    → IsValue h key → IsContent content
fits-content h key content is held = subst IsContent (sym is) (IsContent-of_word key.0 held.word)

pub stands-some : (h : Heap) (kind : Kind) (a n : ℕ) → StandsAs h kind a n → IsSome (object_at h a)
stands-some h kind a n s = subst IsSome (sym s.at) refl

pub birth-read : (h : Heap) (kind : Kind) (a n : ℕ) → StandsAs h kind a n → (header : Header)
    → IfSome (object_at h a) (λ o. header ≡ record
    { kind = o.kind; fields = length o.fields; birth = o.birth }) → header.birth ≡ birth_at h a
unfolding birth_at
birth-read h kind a n s header e =
    let o = s.object in
    let is : header ≡ record { kind = o.kind; fields = length o.fields; birth = o.birth } =
    subst (λ x. IfSome x (λ o. header ≡ record
    { kind = o.kind; fields = length o.fields; birth = o.birth })) s.at e in
    ap (λ (x : Header). x.birth) is ∙ sym (ap birth_of s.at)

-- a name's hash number is its number
number_hash : (births : ℕ → ℕ) (content : Content) (number : ℕ) → Some number ≡ as_name content
    → number ≡ hash_of_content births content
number_hash births (Name _) number is = cc
number_hash births Null number is = cc
number_hash births (Integer _) number is = cc
number_hash births (Boolean _) number is = cc
number_hash births Mark number is = cc
number_hash births (Operator _) number is = cc
number_hash births (Array _) number is = cc
number_hash births (Text _) number is = cc
number_hash births (Dictionary _) number is = cc
number_hash births (Lock _) number is = cc
number_hash births (Condition _) number is = cc
number_hash births (Body _) number is = cc

pub name_hash : (births : ℕ → ℕ) (key : Word) (number : ℕ)
    → Some number ≡ as_name (content_in key.0) → number ≡ hash_of births key
unfolding hash_of
name_hash births key number is = number_hash births (content_in key.0) number is

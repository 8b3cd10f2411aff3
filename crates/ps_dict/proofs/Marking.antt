-- A name that the marks don't admit to a dictionary is no key of it.
use Rattle.std.proofs.Common.{◌≡◌, ℕ, zero, suc, ◌*◌, ◌%◌, Bool, true, false, not, List, [], ◌∷◌, take, Some, None, refl, sym, ap, ◌∙◌, arith, inl, inr}
use Rattle.std.specs.Prelude.{slice_get, option_map}
use Rattle.std.proofs.lemmas.Bool.Decides.{eqb_tells}
use Rattle.ps_language.specs.declared.kinds.Kind.TheVariants.{Dictionary as DictionaryKind}
use Rattle.ps_word.specs.declared.words.Word.{Word}
use Rattle.ps_word.specs.declared.values.Content.{Content}
use Rattle.ps_word.specs.declared.values.Content.TheVariants.{Null, Integer, Boolean, Mark, Name, Operator, Array, Text, Dictionary, Lock, Condition, Body}
use Rattle.ps_word.specs.Format.{content_in}
use Rattle.ps_word.specs.Readers.{as_name}
use Rattle.ps_mem.specs.Heap.{Heap, birth_at, fields_at}
use Rattle.ps_mem.specs.Index.{pairs_of_words}
use Rattle.ps_mem.specs.Marks.{Tells, admits}
use Rattle.ps_mem.specs.declared.marks.Mark.{Mark as NameMark}
use Rattle.ps_mem.specs.References.{StandsAs}
use Rattle.ps_mem.specs.Shows.{IsSound}
use Rattle.ps_dict.specs.Keys.{same_content, same_words}
use Rattle.ps_dict.specs.Places.{body_at, count_at, pairs_at, place_of}
use Rattle.ps_dict.proofs.Shapes.{body-stands}

-- a content that is the same key as a name is that name
same-name : (c : Content) (n : ℕ) → same_content c (Name n) ≡ true → c ≡ Name n
same-name (Name a) n e = elim (eqb_tells a n) [
  | inl (_, same) ↦ ap Name same
  | inr (other, _) ↦ let clash : true ≡ false = sym e ∙ other in cc
]
same-name Null n e = cc
same-name (Integer i) n e = cc
same-name (Boolean b) n e = cc
same-name Mark n e = cc
same-name (Operator o) n e = cc
same-name (Array p) n e = cc
same-name (Text p) n e = cc
same-name (Dictionary a) n e = cc
same-name (Lock a) n e = cc
same-name (Condition a) n e = cc
same-name (Body a) n e = cc

-- a content whose name has a number is that name
pub name-is : (c : Content) (n : ℕ) → as_name c ≡ Some n → c ≡ Name n
name-is (Name a) n e = let same : a ≡ n = cc in ap Name same
name-is Null n e = cc
name-is (Integer i) n e = cc
name-is (Boolean b) n e = cc
name-is Mark n e = cc
name-is (Operator o) n e = cc
name-is (Array p) n e = cc
name-is (Text p) n e = cc
name-is (Dictionary a) n e = cc
name-is (Lock a) n e = cc
name-is (Condition a) n e = cc
name-is (Body a) n e = cc

pub not-admitted : (b : Bool) → not b ≡ true → b ≡ false
not-admitted true e = cc
not-admitted false e = refl

-- where no key among the words is the same
no-place : (key : Word) (ws : List Word) (n : ℕ)
    → ((i : ℕ) (k : Word) → slice_get ws (2 * i) ≡ Some k → same_words k key ≡ false)
    → place_of (take n (pairs_of_words ws)) key ≡ None
unfolding place_of pairs_of_words
no-place key ws zero none = refl
no-place key [] (suc n) none = refl
no-place key (a ∷ []) (suc n) none = refl
no-place key (a ∷ b ∷ ws) (suc n) none =
    let next : (i : ℕ) → 2 * suc i ≡ suc (suc (2 * i)) = λ i. omega arith in
    rw (none 0 a refl)
    (ap (option_map suc) (no-place key ws n
    (λ i k e. none (suc i) k (ap (slice_get (a ∷ b ∷ ws)) (next i) ∙ e))))

module _ (h : Heap) (a : ℕ) (known : StandsAs h DictionaryKind a 4) (sound : IsSound h)
    (key : Word) (name : ℕ) (named : content_in key.0 ≡ Name name) (mark : NameMark)
    (tells : Tells h name mark) (other : admits mark (birth_at h a) ≡ false) where
  other-key : (i : ℕ) (k : Word) → slice_get (fields_at h (body_at h a)) (2 * i) ≡ Some k
      → same_words k key ≡ false
  unfolding same_words
  other-key i k there = elim (same_content (content_in k.0) (content_in key.0)) as
      (λ b. same_content (content_in k.0) (content_in key.0) ≡ b → b ≡ false) [
        | false ↦ λ e. refl
        | true ↦ λ e.
            let is : content_in k.0 ≡ Name name = same-name (content_in k.0) name
            (ap (same_content (content_in k.0)) (sym named) ∙ e) in
            let even : (2 * i) % 2 ≡ 0 = omega arith in
            let clash : true ≡ false =
            sym (tells (body_at h a) (2 * i) _ k (body-stands h a known sound) refl there even is)
            ∙ other in cc
      ] refl

  pub no-key : place_of (pairs_at h a) key ≡ None
  unfolding pairs_at
  no-key = no-place key (fields_at h (body_at h a)) (count_at h a) other-key

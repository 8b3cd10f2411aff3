-- Which words are names and procedures, and the names of pairs that are passed.
use Rattle.std.proofs.Common.{◌≡◌, ℕ, zero, suc, true, false, List, [], ◌∷◌, Option, Some, None, drop, length, ◌≤◌, arith, refl, sym, ap, ◌∙◌}
use Rattle.std.specs.Prelude.{is_some, option_map, slice_get}
use Rattle.std.specs.Option.{option_map_or}
use Rattle.ps_language.specs.StepValues.{name_in}
use Rattle.ps_language.specs.Value.{Value, Store}
use Rattle.ps_word.specs.declared.words.Word.{Word}
use Rattle.ps_word.specs.declared.values.Content.{Content}
use Rattle.ps_word.specs.declared.values.Content.TheVariants.{Null, Integer, Boolean, Mark, Name, Operator, Array, Text}
use Rattle.ps_word.specs.declared.values.Content.TheVariants.{Dictionary, Lock, Condition, Body}
use Rattle.ps_word.specs.Format.{content_in}
use Rattle.ps_word.specs.Readers as words
use Rattle.ps_language.specs.Access.{dictionary_at}
use Rattle.ps_mem.specs.Meaning.{value_of, what_of}
use Rattle.ps_step_lookup.proofs.Looking.{dictionary_is}
use Rattle.std.proofs.lemmas.Option.{slice_get-map}
use Rattle.ps_mem.specs.Heap.{Heap, birth_at}
use Rattle.ps_ops_operands.specs.Changes.{values_in}
use Rattle.ps_ctx_readers.specs.Names.{names_it, name_among, name_through, pairs_in}

name_meant : (births : ℕ → ℕ) (names : List (List ℕ)) (c : Content)
    → is_some (words.as_name c) ≡ name_in (what_of births names c)
name_meant births names Null = refl
name_meant births names (Integer number) = refl
name_meant births names (Boolean truth) = refl
name_meant births names Mark = refl
name_meant births names (Name number) = refl
name_meant births names (Operator operator) = refl
name_meant births names (Array part) = refl
name_meant births names (Text part) = refl
name_meant births names (Dictionary address) = refl
name_meant births names (Lock address) = refl
name_meant births names (Condition address) = refl
name_meant births names (Body address) = refl

pub name_value : (births : ℕ → ℕ) (names : List (List ℕ)) (w : Word)
    → is_some (words.as_name (content_in w.0)) ≡ name_in (value_of births names w).what
unfolding value_of
name_value births names w = name_meant births names (content_in w.0)

-- a pair that is come to is the name, or is passed
pub name_here : (birth : ℕ) (pairs : List (Value × Value)) (place : ℕ) (pair : Value × Value)
    → slice_get pairs place ≡ Some pair → names_it birth pair ≡ true
    → name_among birth (drop place pairs) ≡ Some pair.0
name_here birth [] place pair found is = cc
name_here birth (one ∷ rest) zero pair found is = cc
name_here birth (one ∷ rest) (suc place) pair found is =
    name_here birth rest place pair found is

pub name_passed : (birth : ℕ) (pairs : List (Value × Value)) (place : ℕ) (pair : Value × Value)
    → slice_get pairs place ≡ Some pair → names_it birth pair ≡ false
    → name_among birth (drop place pairs) ≡ name_among birth (drop (suc place) pairs)
name_passed birth [] place pair found is = cc
name_passed birth (one ∷ rest) zero pair found is = cc
name_passed birth (one ∷ rest) (suc place) pair found is =
    name_passed birth rest place pair found is

-- behind the last there is none
pub name_ended : (birth : ℕ) (pairs : List (Value × Value)) (place : ℕ)
    → slice_get pairs place ≡ None → name_among birth (drop place pairs) ≡ None
name_ended birth [] zero none = refl
name_ended birth [] (suc place) none = refl
name_ended birth (one ∷ rest) zero none = cc
name_ended birth (one ∷ rest) (suc place) none = name_ended birth rest place none

-- the same through dictionaries
pub through_here : (store : Store) (birth : ℕ) (dictionaries : List Value) (depth : ℕ) (one name : Value)
    → slice_get dictionaries depth ≡ Some one
    → name_among birth (pairs_in store one) ≡ Some name
    → name_through store birth (drop depth dictionaries) ≡ Some name
through_here store birth [] depth one name found is = cc
through_here store birth (top ∷ below) zero one name found is = cc
through_here store birth (top ∷ below) (suc depth) one name found is =
    through_here store birth below depth one name found is

pub through_passed : (store : Store) (birth : ℕ) (dictionaries : List Value) (depth : ℕ) (one : Value)
    → slice_get dictionaries depth ≡ Some one
    → name_among birth (pairs_in store one) ≡ None
    → name_through store birth (drop depth dictionaries)
    ≡ name_through store birth (drop (suc depth) dictionaries)
through_passed store birth [] depth one found is = cc
through_passed store birth (top ∷ below) zero one found is = cc
through_passed store birth (top ∷ below) (suc depth) one found is =
    through_passed store birth below depth one found is

pub through_ended : (store : Store) (birth : ℕ) (dictionaries : List Value) (depth : ℕ)
    → slice_get dictionaries depth ≡ None
    → name_through store birth (drop depth dictionaries) ≡ None
through_ended store birth [] zero none = refl
through_ended store birth [] (suc depth) none = refl
through_ended store birth (one ∷ below) zero none = cc
through_ended store birth (one ∷ below) (suc depth) none = through_ended store birth below depth none

-- the pairs of a dictionary, and of what is none
module _ (births : ℕ → ℕ) (names : List (List ℕ)) (s : Store) (w : Word) where
  pub dictionary_pairs : (address : ℕ) → Some address ≡ words.as_dictionary (content_in w.0)
      → pairs_in s (value_of births names w) ≡ (dictionary_at s (births address)).pairs
  dictionary_pairs address is =
      ap (λ (found : Option ℕ). option_map_or (λ birth. (dictionary_at s birth).pairs) found [])
      (dictionary_is births names w ∙ ap (option_map births) (sym is))

  pub no_pairs : None ≡ words.as_dictionary (content_in w.0)
      → pairs_in s (value_of births names w) ≡ []
  no_pairs is =
      ap (λ (found : Option ℕ). option_map_or (λ birth. (dictionary_at s birth).pairs) found [])
      (dictionary_is births names w ∙ ap (option_map births) (sym is))

pub name_behind : (birth : ℕ) (pairs : List (Value × Value)) (place : ℕ)
    → length pairs ≤ place → name_among birth (drop place pairs) ≡ None
name_behind birth [] zero behind = refl
name_behind birth [] (suc place) behind = refl
name_behind birth (one ∷ rest) zero behind = absurd (omega (arith, behind))
name_behind birth (one ∷ rest) (suc place) behind =
    name_behind birth rest place (omega (arith, behind))

-- the value of a word of the dictionary stack
pub value_there : (h : Heap) (names : List (List ℕ)) (words_in : List Word) (depth : ℕ) (w : Word)
    → Some w ≡ slice_get words_in depth
    → slice_get (values_in h names words_in) depth ≡ Some (value_of (birth_at h) names w)
value_there h names words_in depth w is =
    slice_get-map (value_of (birth_at h) names) words_in depth
    ∙ ap (option_map (value_of (birth_at h) names)) (sym is)

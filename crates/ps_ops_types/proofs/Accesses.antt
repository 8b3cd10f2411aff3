-- The access of what a word stands for.
use Rattle.std.proofs.Common.{◌≡◌, ℕ, List, ◌∷◌, drop, Option, Some, None, Bool, Ok, Err, refl, sym, subst}
use Rattle.std.specs.List.{AllByRecursion}
use Rattle.ps_language.specs.declared.access.Access.{Access}
use Rattle.ps_language.specs.declared.errors.ErrorName.TheVariants.{TypeCheck}
use Rattle.ps_language.specs.Value.{Store}
use Rattle.ps_language.specs.Access.{access_in, access_of, dictionary_at}
use Rattle.ps_language.specs.Readers.{boolean}
use Rattle.ps_language.specs.RowsTypes.{check_row}
use Rattle.ps_stacks.specs.Tops.{first_of}
use Rattle.ps_word.specs.declared.words.Word.{Word}
use Rattle.ps_word.specs.declared.values.Part.{Part}
use Rattle.ps_word.specs.declared.values.Content.{Content}
use Rattle.ps_word.specs.declared.values.Content.TheVariants.{Null, Integer, Boolean, Mark, Name, Operator, Array, Text}
use Rattle.ps_word.specs.declared.values.Content.TheVariants.{Dictionary, Lock, Condition, Body}
use Rattle.ps_word.specs.Readers as words
use Rattle.ps_language.specs.declared.kinds.Kind.TheVariants.{Dictionary as DictionaryKind}
use Rattle.ps_mem.specs.References.{StandsAs, IsKnown, IsKnownContent}
use Rattle.ps_word.specs.Format.{content_in}
use Rattle.ps_ops_operands.specs.Plain.{IsPlain}
use Rattle.ps_mem.specs.Heap.{Heap, birth_at}
use Rattle.ps_mem.specs.Meaning.{value_of, what_of}
use Rattle.ps_mem.specs.Shows.{IsValue, IsWithin, Shows}
use Rattle.ps_ops_operands.specs.Changes.{Observes}
use Rattle.ps_ops_operands.proofs.Operands.{first_split}
use Rattle.ps_ops_operands.proofs.Held.{rest_held}
use Rattle.ps_ops_operands.proofs.Ready.{plain_within}
pub use Rattle.ps_dict.proofs.Telling.{dictionary_stands}

module _ (births : ℕ → ℕ) (names : List (List ℕ)) (s : Store) where
  part_access : (c : Content) (part : Part) → Some part ≡ words.as_part c
      → access_in s (what_of births names c) ≡ Some part.access
  part_access Null part is = cc
  part_access (Integer _) part is = cc
  part_access (Boolean _) part is = cc
  part_access Mark part is = cc
  part_access (Name _) part is = cc
  part_access (Operator _) part is = cc
  part_access (Array p) part is = let same : part ≡ p = cc in rw same refl
  part_access (Text p) part is = let same : part ≡ p = cc in rw same refl
  part_access (Dictionary b) part is = cc
  part_access (Lock _) part is = cc
  part_access (Condition _) part is = cc
  part_access (Body _) part is = cc

  dictionary_access : (c : Content) (a : ℕ) → Some a ≡ words.as_dictionary c
      → access_in s (what_of births names c) ≡ Some (dictionary_at s (births a)).access
  dictionary_access Null a is = cc
  dictionary_access (Integer _) a is = cc
  dictionary_access (Boolean _) a is = cc
  dictionary_access Mark a is = cc
  dictionary_access (Name _) a is = cc
  dictionary_access (Operator _) a is = cc
  dictionary_access (Array p) a is = cc
  dictionary_access (Text p) a is = cc
  dictionary_access (Dictionary b) a is = let same : a ≡ b = cc in rw same refl
  dictionary_access (Lock _) a is = cc
  dictionary_access (Condition _) a is = cc
  dictionary_access (Body _) a is = cc

  no_access : (c : Content) → None ≡ words.as_part c → None ≡ words.as_dictionary c
      → access_in s (what_of births names c) ≡ None
  no_access Null part dictionary = refl
  no_access (Integer _) part dictionary = refl
  no_access (Boolean _) part dictionary = refl
  no_access Mark part dictionary = refl
  no_access (Name _) part dictionary = refl
  no_access (Operator _) part dictionary = refl
  no_access (Array p) part dictionary = cc
  no_access (Text p) part dictionary = cc
  no_access (Dictionary b) part dictionary = cc
  no_access (Lock _) part dictionary = refl
  no_access (Condition _) part dictionary = refl
  no_access (Body _) part dictionary = refl

  pub part_has : (w : Word) (part : Part) → Some part ≡ words.as_part (content_in w.0)
      → access_of s (value_of births names w) ≡ Some part.access
  unfolding access_of value_of
  part_has w part is = part_access (content_in w.0) part is

  pub dictionary_has : (w : Word) (a : ℕ) → Some a ≡ words.as_dictionary (content_in w.0)
      → access_of s (value_of births names w) ≡ Some (dictionary_at s (births a)).access
  unfolding access_of value_of
  dictionary_has w a is = dictionary_access (content_in w.0) a is

  pub nothing_has : (w : Word) → None ≡ words.as_part (content_in w.0) → None ≡ words.as_dictionary (content_in w.0)
      → access_of s (value_of births names w) ≡ None
  unfolding access_of value_of
  nothing_has w part dictionary = no_access (content_in w.0) part dictionary

-- whether it permits something
module _ (test : Access → Bool) (h : Heap) (old : List Word) (w : Word) (one : Some w
    ≡ first_of old) (found : Option Access)
    (access : (names : List (List ℕ)) (s : Store) → Shows h names s
    → access_of s (value_of (birth_at h) names w) ≡ found) where
  pub check_wrong : found ≡ None → Observes (check_row test) (Err TypeCheck) h old old
  check_wrong none = record {
    meets = λ names store shows within. rw (first_split old w one, access names store shows, none) (refl, refl);
  }

  pub check_done : (a : Access) → found ≡ Some a → (r : Word) → IsPlain r
      → ((births : ℕ → ℕ) (names : List (List ℕ)) → value_of births names r ≡ boolean (test a))
      → Observes (check_row test) (Ok tt) h old (r ∷ drop 1 old)
  check_done a known r plain means = record {
    meets = λ names store shows within.
        let below : AllByRecursion (IsWithin (birth_at h) names store) (drop 1 old) =
        rest_held (IsWithin (birth_at h) names store) old within 1 in
        rw (first_split old w one, access names store shows, known, means (birth_at h) names) (
          refl,
          (plain_within (birth_at h) names store r plain, below),
        );
  }

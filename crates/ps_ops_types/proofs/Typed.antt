-- The name of a type among the names met.
use Rattle.std.proofs.Common.{◌≡◌, ℕ, ◌+◌, true, List, ◌∷◌, drop, Some, Ok, refl}
use Rattle.std.specs.Prelude.{slice_get}
use Rattle.std.specs.List.{AllByRecursion}
use Rattle.ps_stacks.specs.Tops.{first_of}
use Rattle.ps_ops_operands.proofs.Operands.{first_split}
use Rattle.ps_ops_operands.proofs.Held.{rest_held}
use Rattle.ps_language.specs.RowsTypes.{type_name, type_row}
use Rattle.ps_language.specs.Worlds.{first_names}
use Rattle.ps_word.specs.declared.words.Word.{Word}
use Rattle.ps_word.specs.declared.values.Content.{Content}
use Rattle.ps_word.specs.declared.values.Content.TheVariants.{Null, Integer, Boolean, Mark, Name, Operator, Array, Text}
use Rattle.ps_word.specs.declared.values.Content.TheVariants.{Dictionary, Lock, Condition, Body}
use Rattle.ps_word.specs.Format.{content_in, value_in}
use Rattle.ps_mem.specs.Heap.{Heap, birth_at}
use Rattle.ps_mem.specs.Meaning.{value_of, what_of}
use Rattle.ps_mem.specs.Shows.{IsWithin}
use Rattle.ps_ops_operands.specs.FirstNames.{ObservesMet}
use Rattle.ps_ops_types.specs.Types.{type_place}
use Rattle.ps_ops_types.proofs.First.{name_met, name_within}

first_at : (births : ℕ → ℕ) (names : List (List ℕ)) (c : Content)
    → slice_get first_names (16 + type_place c) ≡ Some (type_name (what_of births names c))
unfolding first_names
first_at births names (Integer number) = refl
first_at births names (Boolean truth) = refl
first_at births names Null = refl
first_at births names Mark = refl
first_at births names (Name number) = refl
first_at births names (Operator operator) = refl
first_at births names (Array part) = refl
first_at births names (Text part) = refl
first_at births names (Dictionary address) = refl
first_at births names (Lock address) = refl
first_at births names (Condition address) = refl
first_at births names (Body address) = refl

type_at : (births : ℕ → ℕ) (names : List (List ℕ)) (w : Word)
    → slice_get first_names (16 + type_place (content_in w.0))
    ≡ Some (type_name (value_of births names w).what)
unfolding value_of
type_at births names w = first_at births names (content_in w.0)

pub type_observes : (w r : Word)
    → value_in r.0
    ≡ record { content = Name (16 + type_place (content_in w.0)); executable = true }
    → (h : Heap) (old : List Word) → Some w ≡ first_of old
    → ObservesMet (λ store. type_row) (Ok tt) h old (r ∷ drop 1 old)
type_observes w r is h old one = record {
  meets = λ names store met shows within.
      let at = type_at (birth_at h) names w in
      let below : AllByRecursion (IsWithin (birth_at h) names store) (drop 1 old) =
      rest_held (IsWithin (birth_at h) names store) old within 1 in
      rw (first_split old w one, name_met r _ true is _ at names met (birth_at h))
      (refl, (name_within r _ true is _ at names met (birth_at h) store, below));
}

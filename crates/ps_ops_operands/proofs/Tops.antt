-- The topmost operands as they stand in an array.
use Rattle.std.proofs.Common.{◌≡◌, ℕ, List, take, sym, ap, subst, ◌∙◌}
use Rattle.std.specs.Prelude.{reverse}
use Rattle.ps_language.specs.Value.{Store}
use Rattle.ps_word.specs.declared.words.Word.{Word}
use Rattle.ps_mem.specs.Heap.{Heap, birth_at}
use Rattle.ps_mem.specs.Meaning.{value_of}
use Rattle.ps_mem.specs.Shows.{IsValue, AreValues, IsWithin, AreWithin}
use Rattle.ps_mem.proofs.Lists.{all_take}
use Rattle.ps_ops_operands.specs.Changes.{values_in}
use Rattle.ps_ops_operands.proofs.Operands.{map-reverse, map-take}
use Rattle.ps_ops_operands.proofs.Held.{all_reverse}

module _ (h : Heap) (names : List (List ℕ)) (s : Store) (operands : List Word) (n : ℕ) (items : List Word) where
  pub top_within : AreWithin h names s operands → items ≡ reverse (take n operands) → AreWithin h names s items
  top_within within are =
      subst (AreWithin h names s) (sym are) (all_reverse (IsWithin (birth_at h) names s) (take n operands)
      (all_take (IsWithin (birth_at h) names s) n operands within))

pub top_values : (h : Heap) (operands : List Word) (n : ℕ) (items : List Word) → AreValues h operands
    → items ≡ reverse (take n operands) → AreValues h items
top_values h operands n items values are =
    subst (AreValues h) (sym are) (all_reverse (IsValue h) (take n operands) (all_take (IsValue h) n operands values))

pub top_elements : (h : Heap) (names : List (List ℕ)) (operands : List Word) (n : ℕ) (items : List Word)
    → items ≡ reverse (take n operands) → values_in h names items ≡ reverse (take n (values_in h names operands))
top_elements h names operands n items are =
    ap (values_in h names) are
    ∙ (map-reverse (value_of (birth_at h) names) (take n operands)
    ∙ ap reverse (map-take (value_of (birth_at h) names) n operands))

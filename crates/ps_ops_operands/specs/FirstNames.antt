-- Operators on words under names that begin with those met at the start.
use Rattle.std.specs.Prelude.{◌≡◌, ℕ, List, take, length, Result}
use Rattle.ps_language.specs.declared.errors.ErrorName.{ErrorName}
use Rattle.ps_language.specs.Value.{Value, Store}
use Rattle.ps_language.specs.Outcome.{Outcome}
use Rattle.ps_language.specs.Worlds.{first_names}
use Rattle.ps_word.specs.declared.words.Word.{Word}
use Rattle.ps_mem.specs.Heap.{Heap}
use Rattle.ps_mem.specs.Shows.{AreWithin, Shows}
use Rattle.ps_ops_operands.specs.Changes.{values_in, ObservesAs}

-- the names met begin with the first ones
abbrev pub BeginWithFirst : List (List ℕ) → Type 0
BeginWithFirst names = take (length first_names) names ≡ first_names

-- for every store that the memory shows under such names, the operator did what its row says
pub record ObservesMet (row : Store → List Value → Outcome (List Value)) (result : Result Unit
    ErrorName) (h : Heap) (before after : List Word) : Type 0 where
  pub meets : (names : List (List ℕ)) (store : Store) → BeginWithFirst names → Shows h names store
      → AreWithin h names store before →
      ObservesAs result (row store (values_in h names before)) names store h before after

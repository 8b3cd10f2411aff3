use Rattle.std.proofs.Common.{◌≡◌, ℕ, ◌*◌, List, drop}
use Rattle.std.specs.Prelude.{not}
use Rattle.std.specs.List.{list_all}
use Rattle.ps_language.specs.RowsDictionaries.{keys_among}
use Rattle.ps_language.specs.Value.{Value}
use Rattle.ps_mem.specs.Heap.{Heap}
use Rattle.ps_ops_operands.specs.Changes.{values_in}
use Rattle.ps_language.specs.Readers.{is_null}
use Rattle.ps_mem.specs.Shows.{AreValues}
use Rattle.ps_ops_dictionaries.proofs.literals.has_null_key.Given as goal

-- those before this one pass
abbrev pub invariant-loop-place : goal.invariant-loop-place
invariant-loop-place l = (h : Heap) (names : List (List ℕ)) → AreValues h l.elements
    → list_all (λ (k : Value). not (is_null k)) (keys_among (values_in h names l.elements))
    ≡ list_all (λ (k : Value). not (is_null k)) (keys_among (drop (2 * l.place) (values_in h names l.elements)))

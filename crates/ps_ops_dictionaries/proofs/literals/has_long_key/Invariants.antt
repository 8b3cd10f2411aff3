use Rattle.std.proofs.Common.{◌≡◌, ℕ, ◌*◌, List, drop}
use Rattle.std.specs.List.{list_all}
use Rattle.ps_language.specs.RowsDictionaries.{keys_among}
use Rattle.ps_mem.specs.Heap.{Heap}
use Rattle.ps_ops_operands.specs.Changes.{values_in}
use Rattle.ps_language.specs.Dictionaries.{fits_key}
use Rattle.ps_ops_dictionaries.proofs.literals.has_long_key.Given as goal

-- those before this one pass
abbrev pub invariant-loop-place : goal.invariant-loop-place
invariant-loop-place l = (h : Heap) (names : List (List ℕ))
    → list_all (fits_key) (keys_among (values_in h names l.elements))
    ≡ list_all (fits_key) (keys_among (drop (2 * l.place) (values_in h names l.elements)))

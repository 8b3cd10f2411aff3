use Rattle.std.proofs.Common.{◌≡◌, ◌<◌, ◌^◌, ℕ, List, Option, Some, false, length, map, take}
use Rattle.std.specs.Prelude.{slice_get}
use Rattle.ps_mem.specs.Index.{has_free, index_word}
use Rattle.ps_dict.specs.Probes.{turned}
use Rattle.ps_dict.proofs.index.free_from.Given as goal

-- no place so far was free
abbrev pub invariant-loop-behind : goal.invariant-loop-behind
invariant-loop-behind l =
    (spots : List (Option ℕ)) → l.places ≡ map index_word spots → length spots ≡ l.capacity
    → ((place q : ℕ) → slice_get spots place ≡ Some (Some q) → q < 2 ^ 31)
    → has_free (take l.behind (turned l.start spots)) ≡ false

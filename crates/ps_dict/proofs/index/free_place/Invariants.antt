use Rattle.std.proofs.Common.{◌≡◌, ◌*◌, ◌<◌, ◌^◌, ℕ, List, Option, Some, false, length, map, take, drop}
use Rattle.std.specs.Prelude.{slice_get}
use Rattle.ps_mem.specs.Heap.{fields_at}
use Rattle.ps_mem.specs.Index.{has_free, index_word}
use Rattle.ps_dict.specs.Probes.{turned}
use Rattle.ps_dict.proofs.index.free_place.Given as goal

-- the memory is as it was, and no place so far was free
abbrev pub invariant-loop-behind : goal.invariant-loop-behind
invariant-loop-behind g l =
    let h = g.M.Memory.heap l.initial.memory in
    (g.M.Memory.heap l.memory ≡ h)
    × (g.M.Memory.grants l.memory ≡ g.M.Memory.grants l.initial.memory)
    × ((places : List (Option ℕ))
    → drop (2 * l.capacity) (fields_at h l.body) ≡ map index_word places
    → length places ≡ l.capacity
    → ((place q : ℕ) → slice_get places place ≡ Some (Some q) → q < 2 ^ 31)
    → has_free (take l.behind (turned l.start places)) ≡ false)

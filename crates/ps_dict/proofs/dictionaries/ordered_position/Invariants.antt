use Rattle.std.proofs.Common.{◌≡◌, ◌*◌, None, take}
use Rattle.ps_dict.specs.Places.{pairs_at, place_of}
use Rattle.ps_dict.proofs.dictionaries.ordered_position.Given as goal

-- the memory is as it was, and the key isn't among the pairs so far
abbrev pub invariant-loop-turn : goal.invariant-loop-turn
invariant-loop-turn g l =
    let h = g.M.Memory.heap l.fn.memory in
    record {
      heap : g.M.Memory.heap l.memory ≡ h;
      grants : g.M.Memory.grants l.memory ≡ g.M.Memory.grants l.fn.memory;
      absent : place_of (take (2 * l.turn) (pairs_at h l.address)) l.key ≡ None;
    }

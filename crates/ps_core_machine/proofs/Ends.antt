-- Where the last replica ends.
use Rattle.std.proofs.Common.{◌≤◌, ℕ, List, [], ◌∷◌, arith}
use Rattle.ps_core_machine.specs.declared.events.Pair.{Pair}
use Rattle.ps_core_machine.specs.Objects.{end_of_replicas}

pub end_of_replicas-low : (ps : List Pair) (low : ℕ) → low ≤ end_of_replicas low ps
end_of_replicas-low [] low = omega arith
end_of_replicas-low (q ∷ ps) low = let h = end_of_replicas-low ps low in omega arith

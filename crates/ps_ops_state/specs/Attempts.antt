-- How a step is tried.
use Rattle.std.specs.Prelude.{ℕ, false}
use Rattle.ps_ops_state.specs.declared.lent.Attempt.{Attempt}

-- an ordinary step, whose records go into the log of a slot
abbrev pub ordinary : (slot : ℕ) → Attempt
ordinary slot = record { slot = slot; refused = false }

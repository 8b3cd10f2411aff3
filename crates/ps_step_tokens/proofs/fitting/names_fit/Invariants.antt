use Rattle.std.proofs.Common.{◌≡◌, ◌+◌, ◌≤◌, ℕ, List, length}
use Rattle.std.specs.Prelude.{option_map}
use Rattle.ps_language.specs.Limits.{names_limit}
use Rattle.ps_language.specs.StepTokens.{names_in}
use Rattle.ps_scan.specs.Shown.{part_of}
use Rattle.ps_step_tokens.specs.Procedures.{tokens_in}
use Rattle.ps_step_tokens.proofs.Counting.{IsWalked}
use Rattle.ps_step_tokens.proofs.fitting.names_fit.Given as goal

-- the new names up to the last one are found
abbrev pub invariant-loop-place : goal.invariant-loop-place
invariant-loop-place l =
    (found : List (List ℕ)) × (length l.names + length found ≡ l._place)
    × (l._place ≤ names_limit)
    × IsWalked l.names (names_in (tokens_in l.text l.elements))
    (option_map (part_of l.text) l.last) found

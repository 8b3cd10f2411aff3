use Rattle.std.proofs.Common.{◌≡◌, ℕ, ◌++◌, List, drop}
use Rattle.std.specs.Prelude.{option_map}
use Rattle.ps_language.specs.StepTokens.{names_in}
use Rattle.ps_scan.specs.Shown.{part_of}
use Rattle.ps_step_tokens.specs.Fitting.{IsLeast, is_new}
use Rattle.ps_step_tokens.specs.Procedures.{tokens_in}
use Rattle.ps_step_tokens.proofs.fitting.+fitting.Given as goal

-- the least of the names of those up to the index
abbrev pub invariant-next_name-loop-element : goal.invariant-next_name-loop-element
invariant-next_name-loop-element l =
    (before : List (List ℕ)) × (names_in (tokens_in l.text l.elements)
    ≡ before ++ names_in (tokens_in l.text (drop l.element-index l.elements)))
    × IsLeast (is_new l.names (option_map (part_of l.text) l.last)) before
    (option_map (part_of l.text) l.least)

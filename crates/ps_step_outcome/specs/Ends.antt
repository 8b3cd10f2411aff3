-- Which entries of an error stand in $error at the end of its context (PLRM2, 3.10).
use Rattle.std.specs.Prelude.{ℕ, ◌+◌, ◌||◌, Bool, is_some, nat_lt, List, [], Option, Some, None}
use Rattle.std.specs.Prelude.{if◌then◌else◌}
use Rattle.ps_language.specs.Value.{Value, Store}
use Rattle.ps_dict.specs.declared.entries.ErrorPlan.{ErrorPlan}
use Rattle.ps_text.specs.Errors.{error_line_by}

-- whether one stands there: its key has a place, or there is room behind others that wait
abbrev pub stands : (place : Option ℕ) → (waiting room : ℕ) → Bool
stands place waiting room = is_some place || nat_lt waiting room

-- 1 where a key has no place
abbrev pub vacant : Option ℕ → ℕ
vacant (Some place) = 0
vacant None = 1

abbrev pub newerror_stands : ErrorPlan → Bool
newerror_stands plan = stands plan.newerror 0 plan.room

abbrev pub errorname_stands : ErrorPlan → Bool
errorname_stands plan = stands plan.errorname (vacant plan.newerror) plan.room

abbrev pub command_stands : ErrorPlan → Bool
command_stands plan =
    stands plan.command (vacant plan.newerror + vacant plan.errorname) plan.room

-- what stands, if it does
abbrev pub given_that_stands : {A : Type 0} → Bool → A → Option A
given_that_stands there a = if there then Some a else None

-- the line of the error, where it is new then
abbrev pub planned_line : Store → ErrorPlan → (name command : Value) → List ℕ
planned_line store plan name command =
    if newerror_stands plan then error_line_by store
    (given_that_stands (errorname_stands plan) name)
    (given_that_stands (command_stands plan) command)
    else []

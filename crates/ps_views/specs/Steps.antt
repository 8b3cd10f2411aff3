-- The line that tells a step of a run.
use Rattle.std.specs.Prelude.{ℕ, Option, Some, None, List, [], ◌∷◌, ◌++◌}
use Rattle.std.specs.Prelude.{codes}
use Rattle.std.specs.Fmt.{decimal}
use Rattle.ps_language.specs.StepErrors.{error_text}
use Rattle.ps_places.specs.declared.positions.Position.{Position}
use Rattle.ps_views.specs.declared.steps.Remark.{Remark}
use Rattle.ps_views.specs.declared.steps.Remark.TheVariants.{Starts, Takes, Frees, Raises, Waits}
use Rattle.ps_views.specs.declared.steps.Remark.TheVariants.{Finishes, Ends}
use Rattle.ps_views.specs.declared.steps.StepLine.{StepLine}
use Rattle.ps_views.specs.Frames.{coming_text}
use Rattle.ps_views.specs.Lines.{at_left, at_right}
use Rattle.ps_views.specs.States.{status_text}

-- LINE:COLUMN, or a dash where it isn't known
abbrev pub place_text : Option Position → List ℕ
place_text None = codes "-"
place_text (Some position) = decimal position.line ++ (codes ":" ++ decimal position.column)

-- what others see of a step
abbrev pub remark_text : Remark → List ℕ
remark_text (Starts context) = codes "starts context " ++ decimal context
remark_text (Takes lock) = codes "takes lock " ++ decimal lock
remark_text (Frees lock) = codes "frees lock " ++ decimal lock
remark_text (Raises error) = codes "error " ++ error_text error
remark_text (Waits status) = status_text status
remark_text Finishes = codes "finishes"
remark_text Ends = codes "ends"

-- behind the bar: the operands, and then what others see
abbrev pub seen_text : (remarks : List ℕ) → List ℕ
seen_text [] = []
seen_text (byte ∷ remarks) = codes "   -- " ++ byte ∷ remarks

abbrev pub behind_bar : (operands remarks : List ℕ) → List ℕ
behind_bar [] [] = []
behind_bar operands remarks = codes " " ++ (operands ++ seen_text remarks)

-- which step it is, and of whom
abbrev pub numbers_text : StepLine → List ℕ
numbers_text told = at_right 6 (decimal told.step)
    ++ (codes " " ++ (at_right 2 (decimal told.context) ++ codes "  "))

-- where it stands, and what it does
abbrev pub doing_text : StepLine → (value : List ℕ) → List ℕ
doing_text told value = at_left 7 (place_text told.position)
    ++ (codes " " ++ (at_left 18 (coming_text 30 told.coming value) ++ codes " |"))

-- NUMBER CONTEXT PLACE DOES | OPERANDS -- REMARKS
unfoldable pub step_line : StepLine → (value operands remarks : List ℕ) → List ℕ
step_line told value operands remarks = numbers_text told
    ++ (doing_text told value ++ (behind_bar operands remarks ++ codes "\n"))

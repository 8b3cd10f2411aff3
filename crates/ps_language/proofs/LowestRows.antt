-- An operator keeps the two lowest dictionaries, and one that is left to the world prints nothing.
use Rattle.std.specs.Prelude.{Bool, true, false, None, List, ⊤, if◌then◌else◌}
use Rattle.ps_language.specs.declared.errors.ErrorName.TheVariants.{InvalidExit}
use Rattle.ps_language.specs.declared.operators.Operator.{Operator}
use Rattle.ps_language.specs.declared.operators.Operator.TheVariants.{Forall, Begin, End, CurrentDict, CountDictStack}
use Rattle.ps_language.specs.declared.operators.Operator.TheVariants.{ClearDictStack, Exec, If, IfElse, For, Repeat}
use Rattle.ps_language.specs.declared.operators.Operator.TheVariants.{Loop, Exit, Stop, Stopped, Quit, Bind}
use Rattle.ps_language.specs.declared.operators.Operator.TheVariants.{CurrentContext, Fork, Join, Detach, Lock, Monitor}
use Rattle.ps_language.specs.declared.operators.Operator.TheVariants.{Condition, Wait, Notify, Yield, VmStatus}
use Rattle.ps_language.specs.declared.operators.Operator.TheVariants.{VmReclaim}
use Rattle.ps_language.specs.Value.{Value, lock_object, condition_object, Store}
use Rattle.ps_language.specs.World.{for_exit}
use Rattle.ps_language.specs.Effect.{Around, Scene, Effect, Call, Deed, makes, unwinds, raises, calls, effect_by}
use Rattle.ps_language.specs.Outcome.{Outcome, leaves, fails}
use Rattle.ps_language.specs.Scan.{scan}
use Rattle.ps_language.specs.Rows.{Row, operand_row, reading_row, changing_row, naming_row, looking_row, stacking_row}
use Rattle.ps_language.specs.Rows.{printing_row, around_row, scene_row, world_row, row_of}
use Rattle.ps_language.specs.Acts.{acts, effect_of}
use Rattle.ps_language.specs.Control.{scene_effect, exec_row, if_row, ifelse_row, for_row, repeat_row, loop_row}
use Rattle.ps_language.specs.Control.{forall_row, stopped_row, bind_row, is_in_loop, exit_effect}
use Rattle.ps_language.proofs.Leaving.{Leaves, left_with, each-leaves}
use Rattle.ps_language.proofs.ControlStack.{RowKeepsStack, exec_row-stack, if_row-stack, ifelse_row-stack}
use Rattle.ps_language.proofs.ControlStack.{for_row-stack, repeat_row-stack, loop_row-stack, forall_row-stack}
use Rattle.ps_language.proofs.ControlStack.{stopped_row-stack, bind_row-stack}
use Rattle.ps_language.proofs.LowestStacks.{KeepsLowest, StacksKeepLowest, begin_row-lowest, end_row-lowest}
use Rattle.ps_language.proofs.LowestStacks.{cleardictstack_row-lowest, currentdict_row-lowest}
use Rattle.ps_language.proofs.LowestStacks.{countdictstack_row-lowest}
use Rattle.ps_language.proofs.PrintedDeeds.{PrintsNothing, vmstatus_row-printed, vmreclaim_row-printed}
use Rattle.ps_language.proofs.PrintedDeeds.{currentcontext_row-printed, yield_row-printed, new_row-printed}
use Rattle.ps_language.proofs.PrintedDeeds.{fork_row-printed, join_row-printed, detach_row-printed, monitor_row-printed}
use Rattle.ps_language.proofs.PrintedDeeds.{wait_row-printed, notify_row-printed}
use Rattle.ps_language.proofs.LowestDeeds.{DeedKeepsLowest, vmstatus_row-lowest, vmreclaim_row-lowest}
use Rattle.ps_language.proofs.LowestDeeds.{currentcontext_row-lowest, yield_row-lowest, new_row-lowest, fork_row-lowest}
use Rattle.ps_language.proofs.LowestDeeds.{join_row-lowest, detach_row-lowest, monitor_row-lowest, wait_row-lowest}
use Rattle.ps_language.proofs.LowestDeeds.{notify_row-lowest}

-- what is left to the world keeps the two lowest dictionaries and what was printed
abbrev pub DeedKeepsLowestAndPrinted : (List Value → Call → Outcome Deed) → Type 0
DeedKeepsLowestAndPrinted deed = DeedKeepsLowest deed × PrintsNothing deed

-- what an operator does where this is the dictionary stack
abbrev pub EffectKeepsLowestAndPrinted : (old : List Value) → Effect → Type 0
EffectKeepsLowestAndPrinted old (makes scene output) = KeepsLowest old scene.dictionaries
EffectKeepsLowestAndPrinted old (unwinds cause scene) = KeepsLowest old scene.dictionaries
EffectKeepsLowestAndPrinted old (raises error) = ⊤
EffectKeepsLowestAndPrinted old (calls deed) = DeedKeepsLowestAndPrinted deed

abbrev RowKeepsLowestAndPrinted : Row → Type 0
RowKeepsLowestAndPrinted (stacking_row row) = (store : Store) (dictionaries operands : List Value)
    → StacksKeepLowest dictionaries (row store dictionaries operands)
RowKeepsLowestAndPrinted (scene_row row) = (scene : Scene) → EffectKeepsLowestAndPrinted scene.dictionaries (row scene)
RowKeepsLowestAndPrinted (world_row row) = DeedKeepsLowestAndPrinted row
RowKeepsLowestAndPrinted _ = ⊤

by-keeps : {A : Type 0} (old : List Value) (left : A → Effect) (outcome : Outcome A)
    → Leaves (λ a. EffectKeepsLowestAndPrinted old (left a)) outcome
    → EffectKeepsLowestAndPrinted old (effect_by left outcome)
by-keeps old left (leaves a) (left_with keeps) = keeps
by-keeps old left (fails error) keeps = tt

-- a row of control
scene-keeps : (row : List Value → Scene → Outcome Scene)
    → ((P : List Value → Type 0) → RowKeepsStack P row)
    → (scene : Scene) → EffectKeepsLowestAndPrinted scene.dictionaries (scene_effect row scene)
scene-keeps row stack scene =
    by-keeps scene.dictionaries _ (row scene.operands scene)
    (stack (KeepsLowest scene.dictionaries) scene.operands scene (λ first. first))

exit-keeps : (scene : Scene) → EffectKeepsLowestAndPrinted scene.dictionaries (exit_effect scene)
exit-keeps scene = by (is_in_loop scene.frames)
  where
    by : (found : Bool) → EffectKeepsLowestAndPrinted scene.dictionaries
        (if found then unwinds for_exit scene else raises InvalidExit)
    by true = λ first. first
    by false = tt

row-keeps : (operator : Operator) → RowKeepsLowestAndPrinted (row_of scan operator)
row-keeps Begin = begin_row-lowest
row-keeps End = end_row-lowest
row-keeps ClearDictStack = cleardictstack_row-lowest
row-keeps CurrentDict = currentdict_row-lowest
row-keeps CountDictStack = countdictstack_row-lowest
row-keeps Forall = scene-keeps forall_row forall_row-stack
row-keeps Exec = scene-keeps exec_row exec_row-stack
row-keeps If = scene-keeps if_row if_row-stack
row-keeps IfElse = scene-keeps ifelse_row ifelse_row-stack
row-keeps For = scene-keeps for_row for_row-stack
row-keeps Repeat = scene-keeps repeat_row repeat_row-stack
row-keeps Loop = scene-keeps loop_row loop_row-stack
row-keeps Exit = exit-keeps
row-keeps Stop = λ scene first. first
row-keeps Stopped = scene-keeps stopped_row stopped_row-stack
row-keeps Quit = λ scene first. first
row-keeps Bind = scene-keeps bind_row bind_row-stack
row-keeps CurrentContext = (currentcontext_row-lowest, currentcontext_row-printed)
row-keeps Fork = (fork_row-lowest, fork_row-printed)
row-keeps Join = (join_row-lowest, join_row-printed)
row-keeps Detach = (detach_row-lowest, detach_row-printed)
row-keeps Lock = (new_row-lowest (lock_object None), new_row-printed (lock_object None))
row-keeps Monitor = (monitor_row-lowest, monitor_row-printed)
row-keeps Condition = (new_row-lowest condition_object, new_row-printed condition_object)
row-keeps Wait = (wait_row-lowest, wait_row-printed)
row-keeps Notify = (notify_row-lowest, notify_row-printed)
row-keeps Yield = (yield_row-lowest, yield_row-printed)
row-keeps VmStatus = (vmstatus_row-lowest, vmstatus_row-printed)
row-keeps VmReclaim = (vmreclaim_row-lowest, vmreclaim_row-printed)
row-keeps _ = tt

-- an effect that leaves the dictionary stack alone
same-keeps : {A : Type 0} (old : List Value) (left : A → Effect) (outcome : Outcome A)
    → ((a : A) → EffectKeepsLowestAndPrinted old (left a)) → EffectKeepsLowestAndPrinted old (effect_by left outcome)
same-keeps old left outcome each = by-keeps old left outcome (each-leaves _ outcome each)

effect-keeps : (row : Row) (around : Around) (scene : Scene) → RowKeepsLowestAndPrinted row
    → EffectKeepsLowestAndPrinted scene.dictionaries (effect_of row around scene)
effect-keeps (operand_row row) around scene keeps =
    same-keeps scene.dictionaries _ (row scene.operands) (λ left first. first)
effect-keeps (reading_row row) around scene keeps =
    same-keeps scene.dictionaries _ (row scene.store scene.operands) (λ left first. first)
effect-keeps (changing_row row) around scene keeps =
    same-keeps scene.dictionaries _ (row scene.store scene.operands) (λ left first. first)
effect-keeps (naming_row row) around scene keeps =
    same-keeps scene.dictionaries _ (row scene.names scene.store scene.operands) (λ left first. first)
effect-keeps (looking_row row) around scene keeps =
    same-keeps scene.dictionaries _ (row scene.names scene.dictionaries scene.store scene.operands)
    (λ left first. first)
effect-keeps (stacking_row row) around scene keeps =
    by-keeps scene.dictionaries _ (row scene.store scene.dictionaries scene.operands)
    (keeps scene.store scene.dictionaries scene.operands)
effect-keeps (printing_row row) around scene keeps =
    same-keeps scene.dictionaries _ (row scene.store scene.operands) (λ left first. first)
effect-keeps (around_row row) around scene keeps =
    same-keeps scene.dictionaries _ (row around scene.operands) (λ left first. first)
effect-keeps (scene_row row) around scene keeps = keeps scene
effect-keeps (world_row row) around scene keeps = keeps

-- what an operator does
pub acts-keeps : (operator : Operator) (around : Around) (scene : Scene)
    → EffectKeepsLowestAndPrinted scene.dictionaries (acts scan operator around scene)
acts-keeps operator around scene =
    effect-keeps (row_of scan operator) around scene (row-keeps operator)

-- What is shown to a step is seen by a vmstatus that acts, and by nothing else.
use Rattle.std.proofs.Common.{Bool, true, false, Some, None, List, [], ◌∷◌, refl}
use Rattle.std.specs.Prelude.{◌++◌, ⊤, if◌then◌else◌}
use Rattle.ps_language.specs.declared.errors.ErrorName.TheVariants.{StackOverflow, InvalidExit}
use Rattle.ps_language.specs.declared.operators.Operator.{Operator}
use Rattle.ps_language.specs.declared.operators.Operator.TheVariants.{Forall, Exec, If, IfElse, For, Repeat, Loop, Exit}
use Rattle.ps_language.specs.declared.operators.Operator.TheVariants.{Stop, Stopped, Quit, Bind, CurrentContext, Fork}
use Rattle.ps_language.specs.declared.operators.Operator.TheVariants.{Join, Detach, Lock, Monitor, Condition, Wait}
use Rattle.ps_language.specs.declared.operators.Operator.TheVariants.{Notify, Yield, VmStatus, VmReclaim}
use Rattle.ps_language.specs.Value.{Value}
use Rattle.ps_language.specs.World.{for_exit}
use Rattle.ps_language.specs.Effect.{Around, Scene, shows_memory, Effect, makes, unwinds, raises, calls, quiet}
use Rattle.ps_language.specs.Effect.{effect_by}
use Rattle.ps_language.specs.Outcome.{Outcome, leaves, fails, given_that}
use Rattle.ps_language.specs.Readers.{room_for}
use Rattle.ps_language.specs.Scan.{scan}
use Rattle.ps_language.specs.Rows.{Row, operand_row, reading_row, changing_row, naming_row, looking_row, stacking_row}
use Rattle.ps_language.specs.Rows.{printing_row, around_row, scene_row, world_row, row_of}
use Rattle.ps_language.specs.Acts.{acts, effect_of}
use Rattle.ps_language.specs.Control.{exec_row, if_row, ifelse_row, for_row, repeat_row, loop_row, forall_row}
use Rattle.ps_language.specs.Control.{stopped_row, bind_row, is_in_loop, exit_effect}
use Rattle.ps_language.specs.Contexts.{with_context, doing_operands, memory_shown, fork_row, join_row, detach_row}
use Rattle.ps_language.specs.Contexts.{vmstatus_row, vmreclaim_row}
use Rattle.ps_language.specs.Keeping.{IsAlike, the_same, both_show, IsBlind}
use Rattle.ps_language.specs.Locks.{monitor_row, wait_row, notify_row}

abbrev pub IsBlindEffect : Effect → Type 0
IsBlindEffect (makes scene output) = ⊤
IsBlindEffect (unwinds cause scene) = ⊤
IsBlindEffect (raises error) = ⊤
IsBlindEffect (calls deed) = IsBlind deed

-- ---- rows

vmstatus-blind : IsBlind vmstatus_row
unfolding with_context
vmstatus-blind operands caller context world None = the_same
vmstatus-blind operands caller context world (Some pair) =
    by (room_for (memory_shown None ++ operands))
  where
    by : (room : Bool) → IsAlike
        (doing_operands shows_memory
        (record { caller = caller; context = context; shown = None; world = world })
        (given_that room StackOverflow (leaves (memory_shown None ++ operands))))
        (doing_operands shows_memory
        (record { caller = caller; context = context; shown = Some pair; world = world })
        (given_that room StackOverflow (leaves (memory_shown (Some pair) ++ operands))))
    by true = both_show refl
    by false = the_same

vmreclaim-blind : IsBlind vmreclaim_row
vmreclaim-blind [] caller context world shown = the_same
vmreclaim-blind (x ∷ rest) caller context world shown = the_same

fork-blind : IsBlind fork_row
fork-blind [] caller context world shown = the_same
fork-blind (p ∷ rest) caller context world shown = the_same

pub join-blind : IsBlind join_row
join-blind [] caller context world shown = the_same
join-blind (x ∷ rest) caller context world shown = the_same

detach-blind : IsBlind detach_row
detach-blind [] caller context world shown = the_same
detach-blind (x ∷ rest) caller context world shown = the_same

pub monitor-blind : IsBlind monitor_row
monitor-blind [] caller context world shown = the_same
monitor-blind (p ∷ []) caller context world shown = the_same
monitor-blind (p ∷ l ∷ rest) caller context world shown = the_same

wait-blind : IsBlind wait_row
wait-blind [] caller context world shown = the_same
wait-blind (c ∷ []) caller context world shown = the_same
wait-blind (c ∷ l ∷ rest) caller context world shown = the_same

notify-blind : IsBlind notify_row
notify-blind [] caller context world shown = the_same
notify-blind (c ∷ rest) caller context world shown = the_same

abbrev IsBlindRow : Row → Type 0
IsBlindRow (scene_row row) = (scene : Scene) → IsBlindEffect (row scene)
IsBlindRow (world_row row) = IsBlind row
IsBlindRow _ = ⊤

-- no other effect calls
left-blind : {A : Type 0} (left : A → Effect) (outcome : Outcome A)
    → ((a : A) → IsBlindEffect (left a)) → IsBlindEffect (effect_by left outcome)
left-blind left (leaves a) each = each a
left-blind left (fails error) each = tt

scene-blind : (row : List Value → Scene → Outcome Scene) (scene : Scene)
    → IsBlindEffect (effect_by quiet (row scene.operands scene))
scene-blind row scene = left-blind quiet (row scene.operands scene) (λ left. tt)

exit-blind : (scene : Scene) → IsBlindEffect (exit_effect scene)
exit-blind scene = by (is_in_loop scene.frames)
  where
    by : (found : Bool) → IsBlindEffect
        (if found then unwinds for_exit scene else raises InvalidExit)
    by true = tt
    by false = tt

row-blind : (operator : Operator) → IsBlindRow (row_of scan operator)
row-blind Forall = scene-blind forall_row
row-blind Exec = scene-blind exec_row
row-blind If = scene-blind if_row
row-blind IfElse = scene-blind ifelse_row
row-blind For = scene-blind for_row
row-blind Repeat = scene-blind repeat_row
row-blind Loop = scene-blind loop_row
row-blind Exit = exit-blind
row-blind Stop = λ scene. tt
row-blind Stopped = scene-blind stopped_row
row-blind Quit = λ scene. tt
row-blind Bind = scene-blind bind_row
row-blind CurrentContext = λ operands caller context world shown. the_same
row-blind Fork = fork-blind
row-blind Join = join-blind
row-blind Detach = detach-blind
row-blind Lock = λ operands caller context world shown. the_same
row-blind Monitor = monitor-blind
row-blind Condition = λ operands caller context world shown. the_same
row-blind Wait = wait-blind
row-blind Notify = notify-blind
row-blind Yield = λ operands caller context world shown. the_same
row-blind VmStatus = vmstatus-blind
row-blind VmReclaim = vmreclaim-blind
row-blind _ = tt

effect-blind : (row : Row) (around : Around) (scene : Scene) → IsBlindRow row
    → IsBlindEffect (effect_of row around scene)
effect-blind (operand_row row) around scene blind = left-blind _ (row scene.operands) (λ left. tt)
effect-blind (reading_row row) around scene blind =
    left-blind _ (row scene.store scene.operands) (λ left. tt)
effect-blind (changing_row row) around scene blind =
    left-blind _ (row scene.store scene.operands) (λ left. tt)
effect-blind (naming_row row) around scene blind =
    left-blind _ (row scene.names scene.store scene.operands) (λ left. tt)
effect-blind (looking_row row) around scene blind =
    left-blind _ (row scene.names scene.dictionaries scene.store scene.operands) (λ left. tt)
effect-blind (stacking_row row) around scene blind =
    left-blind _ (row scene.store scene.dictionaries scene.operands) (λ left. tt)
effect-blind (printing_row row) around scene blind =
    left-blind _ (row scene.store scene.operands) (λ left. tt)
effect-blind (around_row row) around scene blind =
    left-blind _ (row around scene.operands) (λ left. tt)
effect-blind (scene_row row) around scene blind = blind scene
effect-blind (world_row row) around scene blind = blind

-- an operator that is left to the world is blind
pub acts-blind : (operator : Operator) (around : Around) (scene : Scene)
    → IsBlindEffect (acts scan operator around scene)
acts-blind operator around scene =
    effect-blind (row_of scan operator) around scene (row-blind operator)

-- What was printed stays: a step prints behind it, or nothing.
use Rattle.std.proofs.Common.{◌≡◌, ℕ, ◌&&◌, ◌++◌, Bool, true, false, Option, Some, None, List, [], ◌∷◌, refl, sym, ◌∙◌}
use Rattle.std.proofs.Common.{ap, subst}
use Rattle.std.specs.Prelude.{ℤ, if◌then◌else◌}
use Rattle.std.specs.Option.{option_map_or}
use Rattle.std.proofs.lemmas.List.{append_assoc, append-nil}
use Rattle.ps_language.specs.declared.errors.ErrorName.TheVariants.{VmError}
use Rattle.ps_language.specs.declared.schedules.Entry.{Entry}
use Rattle.ps_language.specs.Value.{Dictionary}
use Rattle.ps_language.specs.World.{for_stop, Status, running, unwinding, again, retaking, finished, Context, Machine}
use Rattle.ps_language.specs.World.{World}
use Rattle.ps_language.specs.Effect.{Scene, Deed, does, waits, Calling}
use Rattle.ps_language.specs.Outcome.{Outcome, leaves, fails}
use Rattle.ps_language.specs.Access.{dictionary_at}
use Rattle.ps_language.specs.Objects.{lacks_room}
use Rattle.ps_language.specs.StepErrors.{has_new_error, error_line}
use Rattle.ps_language.specs.StepValues.{Turn, goes, tries, breaks, errs, asks, command_of}
use Rattle.ps_language.specs.Machines.{around_of, scene_of, with_scene, with_status, failed, with_line, told_by}
use Rattle.ps_language.specs.Machines.{may_end, is_empty, settled, went, erred, after_turn, own_step}
use Rattle.ps_language.specs.Contexts.{context_at}
use Rattle.ps_language.specs.Locks.{retried, is_ready}
use Rattle.ps_language.specs.Schedules.{Move, moves, Begins}
use Rattle.ps_language.specs.Step.{machine_of, with_machine, lifted, plainly, deed_given_room, after_deed, called}
use Rattle.ps_language.specs.Step.{after_own, retaken, moved_as, stepped, step}
use Rattle.ps_language.specs.Worlds.{starting_world, after_move, after_moves, world, printed}
use Rattle.ps_language.specs.Keeping.{stays, PrintsOn}
use Rattle.ps_language.proofs.Leaving.{Leaves, left_with, given_that-leaves}
use Rattle.ps_language.proofs.PrintedDeeds.{DeedPrintsNothing, PrintsNothing, retried-printed}
use Rattle.ps_language.proofs.OperandsKept.{KeepsAll, turn_as-keeps}
use Rattle.ps_language.proofs.WorldLaws.{after_moves-append}

-- ---- what was printed, and more

no-more : (bytes : List ℕ) → PrintsOn bytes bytes
no-more bytes = ([], append-nil bytes)

same-more : (before middle after : List ℕ) → middle ≡ before → PrintsOn middle after
    → PrintsOn before after
same-more before middle after same on = subst (λ (b : List ℕ). PrintsOn b after) same on

then-more : (before middle after : List ℕ) → PrintsOn before middle → PrintsOn middle after
    → PrintsOn before after
then-more before middle after first second = (
  first.0 ++ second.0,
  sym (append_assoc before first.0 second.0) ∙ ap (λ (b : List ℕ). b ++ second.0) first.1
      ∙ second.1,
)

-- ---- one context

chosen-more : (before : List ℕ) (test : Bool) (a b : Machine) → PrintsOn before a.printed
    → PrintsOn before b.printed → PrintsOn before (if test then a else b).printed
chosen-more before true a b on other = on
chosen-more before false a b on other = other

told_by-more : (status : Status) (machine : Machine)
    → PrintsOn machine.printed (told_by status machine).printed
told_by-more (unwinding for_stop) machine =
    let d : Dictionary = dictionary_at machine.store machine.context.error_dictionary in
    chosen-more machine.printed (has_new_error d) (with_line d machine) machine
    (error_line machine.store d, refl) (no-more machine.printed)
told_by-more _ machine = no-more machine.printed

settled-more : (machine : Machine) → PrintsOn machine.printed (settled machine).printed
unfolding settled
settled-more machine =
    chosen-more machine.printed
    (may_end machine.context.status && is_empty machine.context.frames)
    (with_status finished (told_by machine.context.status machine)) machine
    (told_by-more machine.context.status machine) (no-more machine.printed)

-- ---- a context in the world

lifted-more : (identifier : ℕ) (change : Machine → Machine)
    → ((machine : Machine) → PrintsOn machine.printed (change machine).printed)
    → (now : World) → PrintsOn now.printed (lifted identifier change now).printed
lifted-more identifier change prints now = by (context_at now identifier)
  where
    by : (found : Option Context) → PrintsOn now.printed (option_map_or
        (λ context. with_machine identifier now (change (machine_of now context))) found now).printed
    by None = no-more now.printed
    by (Some context) = prints (machine_of now context)

given_room-printed : (refused : Bool) (before : World) (outcome : Outcome Deed)
    → Leaves (DeedPrintsNothing before) outcome
    → Leaves (DeedPrintsNothing before) (deed_given_room refused before outcome)
given_room-printed refused before (leaves (does note next)) prints =
    given_that-leaves _ _ _ _ prints
given_room-printed refused before (leaves waits) prints = prints
given_room-printed refused before (fails error) prints = prints

after_deed-more : (calling : Calling) (identifier : ℕ) (before : World) (outcome : Outcome Deed)
    → Leaves (DeedPrintsNothing before) outcome
    → PrintsOn before.printed (after_deed calling identifier before outcome).world.printed
after_deed-more calling identifier before (leaves (does note next)) (left_with same) =
    same-more before.printed next.printed _ same
    (lifted-more identifier settled settled-more next)
after_deed-more calling identifier before (leaves waits) prints =
    lifted-more identifier (with_status again) (λ machine. no-more machine.printed) before
after_deed-more calling identifier before (fails error) prints =
    lifted-more identifier (λ machine. settled (noted machine))
    (λ machine. settled-more (noted machine)) before
  where
    noted : Machine → Machine
    noted machine = failed error (command_of calling.operator) machine

-- ---- a step

module _ (now : World) (identifier : ℕ) (refused : Bool) (shown : Option (ℤ × ℤ)) where
  called-more : (calling : Calling) (before : World) (context : Context)
      → PrintsNothing calling.deed → PrintsOn before.printed
      (called calling identifier refused shown before context).world.printed
  called-more calling before context prints =
      after_deed-more calling identifier before _
      (given_room-printed refused before _ (prints context.operands
      (record { caller = identifier; context = context; shown = shown; world = before })))

  own-more : (machine : Machine) (tried : Turn) → KeepsAll (stays (scene_of machine)) tried
      → PrintsOn machine.printed
      (after_own identifier refused shown now (after_turn refused machine tried)).world.printed
  own-more machine (goes scene output) keeps = printed_behind scene output
    where
      printed_behind : (scene : Scene) (output : List ℕ) → PrintsOn machine.printed
          (settled (record (with_scene scene running machine)
          { printed = machine.printed ++ output })).printed
      printed_behind scene output =
          then-more machine.printed (machine.printed ++ output) _ (output, refl)
          (settled-more (record (with_scene scene running machine)
          { printed = machine.printed ++ output }))
  own-more machine (breaks cause scene) keeps =
      settled-more (with_scene scene (unwinding cause) machine)
  own-more machine (errs error command kept) keeps =
      settled-more (failed error command (with_scene kept running machine))
  own-more machine (asks calling kept) keeps =
      called-more calling (with_machine identifier now (with_scene kept running machine))
      (with_scene kept running machine).context keeps.1.1
  own-more machine (tries command kept scene output) keeps =
      room (lacks_room refused kept.store scene.store)
    where
      room : (lacks : Bool) → PrintsOn machine.printed (after_own identifier refused shown now
          (if lacks then erred machine VmError command (record kept { names = scene.names })
          else went machine scene output)).world.printed
      room true = settled-more (failed VmError command (with_scene
          (record kept { names = scene.names }) running machine))
      room false =
          then-more machine.printed (machine.printed ++ output) _ (output, refl)
          (settled-more (record (with_scene scene running machine)
          { printed = machine.printed ++ output }))

  moved-more : (status : Status) (context : Context) → PrintsOn now.printed
      (moved_as status identifier refused shown now context).world.printed
  unfolding own_step
  moved-more again context =
      called-more (retried context.operands)
      (with_machine identifier now (with_status running (machine_of now context)))
      (record context { status = running }) (retried-printed context.operands)
  moved-more (retaking lock) context =
      settled-more (retaken identifier lock (machine_of now context))
  moved-more _ context =
      own-more (machine_of now context) _
      (turn_as-keeps (around_of now.program (machine_of now context)) context.status context.frames
      (scene_of (machine_of now context)))

step-more : (now : World) (identifier : ℕ) (refused : Bool) (shown : Option (ℤ × ℤ))
    → PrintsOn now.printed (step now identifier refused shown).printed
unfolding step stepped
step-more now identifier refused shown =
    by (is_ready now identifier) (context_at now identifier)
  where
    by : (ready : Bool) (found : Option Context) → PrintsOn now.printed
        (if ready then option_map_or
        (λ context. moved_as context.status identifier refused shown now context) found
        (plainly now) else plainly now).world.printed
    by false found = no-more now.printed
    by true None = no-more now.printed
    by true (Some context) = moved-more now identifier refused shown context.status context

-- ---- schedules

steps-more : (now : World) (steps : List Move)
    → PrintsOn now.printed (after_moves now steps).printed
unfolding after_moves
steps-more now [] = no-more now.printed
steps-more now (move ∷ steps) =
    then-more now.printed (after_move now move).printed _
    (step-more now move.context move.refused move.shown)
    (steps-more (after_move now move) steps)

-- a schedule prints what its beginning does, and perhaps more
pub printed-begins : (program : List ℕ) (part whole : List Entry) → Begins part whole
    → PrintsOn (printed program part) (printed program whole)
unfolding printed world
printed-begins program part whole begins =
    subst (λ (steps : List Move). PrintsOn (printed program part)
    (after_moves (starting_world program) steps).printed) begins.1
    (subst (λ (after : World). PrintsOn (printed program part) after.printed)
    (sym (after_moves-append (starting_world program) (moves part) begins.0))
    (steps-more (after_moves (starting_world program) (moves part)) begins.0))

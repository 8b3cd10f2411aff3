-- A step keeps the two lowest dictionaries of each context, and at the start there are the first.
use Rattle.std.proofs.Common.{◌≡◌, ℕ, ◌&&◌, Bool, true, false, Option, Some, None, List, [], ◌∷◌, ◌++◌, refl, sym, ap}
use Rattle.std.proofs.Common.{subst}
use Rattle.std.specs.Prelude.{ℤ, if◌then◌else◌}
use Rattle.std.specs.Option.{option_map_or}
use Rattle.ps_language.specs.declared.errors.ErrorName.TheVariants.{VmError}
use Rattle.ps_language.specs.Value.{Dictionary}
use Rattle.ps_language.specs.World.{for_stop, Status, running, unwinding, again, retaking, finished, Context, Machine}
use Rattle.ps_language.specs.World.{World}
use Rattle.ps_language.specs.Effect.{Scene, Deed, does, waits, Calling}
use Rattle.ps_language.specs.Outcome.{Outcome, leaves, fails}
use Rattle.ps_language.specs.Access.{dictionary_at}
use Rattle.ps_language.specs.Objects.{lacks_room}
use Rattle.ps_language.specs.StepErrors.{has_new_error}
use Rattle.ps_language.specs.StepValues.{Turn, goes, tries, breaks, errs, asks, command_of}
use Rattle.ps_language.specs.Machines.{around_of, scene_of, with_scene, with_status, failed, with_line, told_by}
use Rattle.ps_language.specs.Machines.{may_end, is_empty, settled, went, erred, after_turn, own_step}
use Rattle.ps_language.specs.Contexts.{context_at}
use Rattle.ps_language.specs.Locks.{retried, is_ready}
use Rattle.ps_language.specs.Schedules.{Move}
use Rattle.ps_language.specs.Step.{machine_of, with_machine, lifted, plainly, deed_given_room, after_deed, called}
use Rattle.ps_language.specs.Step.{after_own, retaken, moved_as, stepped, step}
use Rattle.ps_language.specs.Worlds.{starting_world, after_move, after_moves}
use Rattle.ps_language.specs.Keeping.{Stays, stays}
use Rattle.ps_language.specs.Lowest.{HasFirstDictionaries, HaveFirstDictionaries}
use Rattle.ps_language.proofs.Leaving.{Leaves, left_with, given_that-leaves}
use Rattle.ps_language.proofs.LeftContexts.{context_at-left}
use Rattle.ps_language.proofs.LowestDeeds.{HasLowest, DeedHasLowest, DeedKeepsLowest, with_context-lowest}
use Rattle.ps_language.proofs.LowestDeeds.{retried-lowest}
use Rattle.ps_language.proofs.OperandsKept.{KeepsAll, turn_as-keeps}

-- ---- one context

chosen-lowest : (test : Bool) (a b : Machine) → HasLowest a.context → HasLowest b.context
    → HasLowest (if test then a else b).context
chosen-lowest true a b has other = has
chosen-lowest false a b has other = other

told_by-lowest : (status : Status) (machine : Machine) → HasLowest machine.context
    → HasLowest (told_by status machine).context
told_by-lowest (unwinding for_stop) machine has =
    let d : Dictionary = dictionary_at machine.store machine.context.error_dictionary in
    chosen-lowest (has_new_error d) (with_line d machine) machine has has
told_by-lowest _ machine has = has

settled-lowest : (machine : Machine) → HasLowest machine.context
    → HasLowest (settled machine).context
unfolding settled
settled-lowest machine has =
    chosen-lowest (may_end machine.context.status && is_empty machine.context.frames)
    (with_status finished (told_by machine.context.status machine)) machine
    (told_by-lowest machine.context.status machine has) has

-- what an error keeps, and what an operator that is left to the world sees
kept-lowest : (before : Stays) (kept : Scene) → stays kept ≡ before
    → HasFirstDictionaries before.1 → HasFirstDictionaries kept.dictionaries
kept-lowest before kept same first =
    subst HasFirstDictionaries (ap (λ (x : Stays). x.1) (sym same)) first

-- ---- a context in the world

with_machine-lowest : (identifier : ℕ) (now : World) (machine : Machine)
    → HaveFirstDictionaries now → HasLowest machine.context
    → HaveFirstDictionaries (with_machine identifier now machine)
with_machine-lowest identifier now machine have has =
    with_context-lowest identifier machine.context now have has

lifted-lowest : (identifier : ℕ) (change : Machine → Machine)
    → ((machine : Machine) → HasLowest machine.context → HasLowest (change machine).context)
    → (now : World) → HaveFirstDictionaries now
    → HaveFirstDictionaries (lifted identifier change now)
lifted-lowest identifier change keeps now have = by (context_at now identifier) refl
  where
    by : (found : Option Context) → context_at now identifier ≡ found
        → HaveFirstDictionaries (option_map_or
        (λ context. with_machine identifier now (change (machine_of now context))) found now)
    by None found = have
    by (Some context) found =
        with_machine-lowest identifier now (change (machine_of now context)) have
        (keeps (machine_of now context) (context_at-left HasLowest identifier context now have found))

given_room-lowest : (refused : Bool) (before : World) (outcome : Outcome Deed)
    → Leaves DeedHasLowest outcome
    → Leaves DeedHasLowest (deed_given_room refused before outcome)
given_room-lowest refused before (leaves (does note next)) has = given_that-leaves _ _ _ _ has
given_room-lowest refused before (leaves waits) has = has
given_room-lowest refused before (fails error) has = has

after_deed-lowest : (calling : Calling) (identifier : ℕ) (before : World) (outcome : Outcome Deed)
    → HaveFirstDictionaries before → Leaves DeedHasLowest outcome
    → HaveFirstDictionaries (after_deed calling identifier before outcome).world
after_deed-lowest calling identifier before (leaves (does note next)) have (left_with has) =
    lifted-lowest identifier settled settled-lowest next has
after_deed-lowest calling identifier before (leaves waits) have has =
    lifted-lowest identifier (with_status again) (λ machine lowest. lowest) before have
after_deed-lowest calling identifier before (fails error) have has =
    lifted-lowest identifier (λ machine. settled (noted machine))
    (λ machine lowest. settled-lowest (noted machine) lowest) before have
  where
    noted : Machine → Machine
    noted machine = failed error (command_of calling.operator) machine

-- ---- a step

module _ (now : World) (identifier : ℕ) (refused : Bool) (shown : Option (ℤ × ℤ)) where
  called-lowest : (calling : Calling) (before : World) (context : Context)
      → DeedKeepsLowest calling.deed → HaveFirstDictionaries before → HasLowest context
      → HaveFirstDictionaries (called calling identifier refused shown before context).world
  called-lowest calling before context keeps have has =
      after_deed-lowest calling identifier before _ have
      (given_room-lowest refused before _ (keeps context.operands
      (record { caller = identifier; context = context; shown = shown; world = before }) have has))

  own-lowest : (machine : Machine) (tried : Turn) → HaveFirstDictionaries now
      → HasLowest machine.context → KeepsAll (stays (scene_of machine)) tried
      → HaveFirstDictionaries
      (after_own identifier refused shown now (after_turn refused machine tried)).world
  own-lowest machine tried have has = by tried
    where
      reached : (machine : Machine) → HasLowest machine.context
          → HaveFirstDictionaries (with_machine identifier now (settled machine))
      reached machine has =
          with_machine-lowest identifier now (settled machine) have (settled-lowest machine has)

      kept_has : (kept : Scene) → stays kept ≡ stays (scene_of machine)
          → HasFirstDictionaries kept.dictionaries
      kept_has kept same = kept-lowest (stays (scene_of machine)) kept same has

      by : (tried : Turn) → KeepsAll (stays (scene_of machine)) tried → HaveFirstDictionaries
          (after_own identifier refused shown now (after_turn refused machine tried)).world
      by (goes scene output) keeps =
          reached (record (with_scene scene running machine)
          { printed = machine.printed ++ output }) (keeps.1 has)
      by (breaks cause scene) keeps =
          reached (with_scene scene (unwinding cause) machine) (keeps.1 has)
      by (errs error command kept) keeps =
          reached (failed error command (with_scene kept running machine)) (kept_has kept keeps.0)
      by (asks calling kept) keeps =
          called-lowest calling (with_machine identifier now (with_scene kept running machine))
          (with_scene kept running machine).context keeps.1.0
          (with_machine-lowest identifier now (with_scene kept running machine) have
          (kept_has kept keeps.0.0)) (kept_has kept keeps.0.0)
      by (tries command kept scene output) keeps = room (lacks_room refused kept.store scene.store)
        where
          room : (lacks : Bool) → HaveFirstDictionaries (after_own identifier refused shown now
              (if lacks then erred machine VmError command (record kept { names = scene.names })
              else went machine scene output)).world
          room true = reached (failed VmError command (with_scene
              (record kept { names = scene.names }) running machine)) (kept_has kept keeps.0)
          room false = reached (record (with_scene scene running machine)
              { printed = machine.printed ++ output }) (keeps.1 has)

  moved-lowest : (status : Status) (context : Context) → HaveFirstDictionaries now
      → HasLowest context
      → HaveFirstDictionaries (moved_as status identifier refused shown now context).world
  unfolding own_step
  moved-lowest again context have has =
      called-lowest (retried context.operands)
      (with_machine identifier now (with_status running (machine_of now context)))
      (record context { status = running }) (retried-lowest context.operands)
      (with_machine-lowest identifier now (with_status running (machine_of now context)) have has)
      has
  moved-lowest (retaking lock) context have has =
      with_machine-lowest identifier now
      (settled (retaken identifier lock (machine_of now context))) have
      (settled-lowest (retaken identifier lock (machine_of now context)) has)
  moved-lowest _ context have has =
      own-lowest (machine_of now context) _ have has
      (turn_as-keeps (around_of now.program (machine_of now context)) context.status context.frames
      (scene_of (machine_of now context)))

step-lowest : (now : World) (identifier : ℕ) (refused : Bool) (shown : Option (ℤ × ℤ))
    → HaveFirstDictionaries now → HaveFirstDictionaries (step now identifier refused shown)
unfolding step stepped
step-lowest now identifier refused shown have =
    by (is_ready now identifier) (context_at now identifier) refl
  where
    by : (ready : Bool) (found : Option Context) → context_at now identifier ≡ found
        → HaveFirstDictionaries (if ready then option_map_or
        (λ context. moved_as context.status identifier refused shown now context) found
        (plainly now) else plainly now).world
    by false found at = have
    by true None at = have
    by true (Some context) at =
        moved-lowest now identifier refused shown context.status context have
        (context_at-left HasLowest identifier context now have at)

-- ---- the worlds of a program

steps-lowest : (now : World) (steps : List Move) → HaveFirstDictionaries now
    → HaveFirstDictionaries (after_moves now steps)
unfolding after_moves
steps-lowest now [] have = have
steps-lowest now (move ∷ steps) have =
    steps-lowest (after_move now move) steps
    (step-lowest now move.context move.refused move.shown have)

-- in every world that steps lead to from the start
pub after_moves-lowest : (program : List ℕ) (steps : List Move)
    → HaveFirstDictionaries (after_moves (starting_world program) steps)
unfolding starting_world
after_moves-lowest program steps = steps-lowest (starting_world program) steps (refl, tt)

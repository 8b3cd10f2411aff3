-- Whether a step ends its turn doesn't depend on what a vmstatus in it is shown.
use Rattle.std.proofs.Common.{◌≡◌, ℕ, Bool, true, false, Option, Some, None, List, [], ◌∷◌, refl, sym, subst}
use Rattle.std.specs.Prelude.{ℤ, not, if◌then◌else◌}
use Rattle.std.specs.Option.{option_map_or}
use Rattle.ps_language.specs.declared.errors.ErrorName.TheVariants.{VmError}
use Rattle.ps_language.specs.Value.{What, integer_value, Value, Store}
use Rattle.ps_language.specs.World.{Status, running, again, retaking, Context, Machine, World}
use Rattle.ps_language.specs.Effect.{shows_memory, Deed, does, Calling}
use Rattle.ps_language.specs.Outcome.{Outcome, leaves, given_that}
use Rattle.ps_language.specs.Objects.{lacks_room}
use Rattle.ps_language.specs.StepValues.{Turn, goes, tries, breaks, errs, asks}
use Rattle.ps_language.specs.Machines.{around_of, scene_of, with_scene, with_status, erred, went, after_turn, own_step}
use Rattle.ps_language.specs.Contexts.{context_at}
use Rattle.ps_language.specs.Locks.{retried, retried_by, is_ready}
use Rattle.ps_language.specs.Step.{machine_of, with_machine, Stepped, plainly, deed_given_room, after_deed, called}
use Rattle.ps_language.specs.Step.{after_own, moved_as, stepped}
use Rattle.ps_language.specs.Keeping.{IsAlike, the_same, both_show, IsBlind, stays, Keeps}
use Rattle.ps_language.proofs.OperandsKept.{turn_as-keeps}
use Rattle.ps_language.proofs.Shown.{join-blind, monitor-blind}

-- what is told of both is the same
abbrev pub TellAlike : Stepped → Stepped → Type 0
TellAlike a b = a.note ≡ b.note

retried_by-blind : (what : What) → IsBlind (retried_by what).deed
retried_by-blind (integer_value i) = join-blind
retried_by-blind _ = monitor-blind

retried-blind : (operands : List Value) → IsBlind (retried operands).deed
unfolding retried
retried-blind [] = join-blind
retried-blind (value ∷ rest) = retried_by-blind value.what

module _ (now : World) (identifier : ℕ) (refused : Bool) (shown : Option (ℤ × ℤ)) where
  deed-tells : (calling : Calling) (before : World) (a b : Outcome Deed) → IsAlike a b
      → TellAlike (after_deed calling identifier before (deed_given_room refused before a))
      (after_deed calling identifier before (deed_given_room refused before b))
  deed-tells calling before a b the_same = refl
  deed-tells calling before _ _ (both_show {a = x} {b = y} same) =
      subst (λ (s : Store). TellAlike
      (after_deed calling identifier before
      (given_that (not (lacks_room refused before.store s)) VmError
      (leaves (does shows_memory x))))
      (after_deed calling identifier before
      (given_that (not (lacks_room refused before.store y.store)) VmError
      (leaves (does shows_memory y))))) (sym same)
      (by (lacks_room refused before.store y.store))
    where
      by : (lacks : Bool) → TellAlike
          (after_deed calling identifier before
          (given_that (not lacks) VmError (leaves (does shows_memory x))))
          (after_deed calling identifier before
          (given_that (not lacks) VmError (leaves (does shows_memory y))))
      by true = refl
      by false = refl

  called-tells : (calling : Calling) (before : World) (context : Context) → IsBlind calling.deed
      → TellAlike (called calling identifier refused None before context)
      (called calling identifier refused shown before context)
  called-tells calling before context blind =
      deed-tells calling before _ _ (blind context.operands identifier context before shown)

  own-tells : (machine : Machine) (tried : Turn) → Keeps (stays (scene_of machine)) tried
      → TellAlike (after_own identifier refused None now (after_turn refused machine tried))
      (after_own identifier refused shown now (after_turn refused machine tried))
  own-tells machine (goes scene output) keeps = refl
  own-tells machine (breaks cause scene) keeps = refl
  own-tells machine (errs error command kept) keeps = refl
  own-tells machine (asks calling kept) keeps =
      called-tells calling (with_machine identifier now (with_scene kept running machine))
      (with_scene kept running machine).context keeps.1
  own-tells machine (tries command kept scene output) keeps =
      by (lacks_room refused kept.store scene.store)
    where
      after : Bool → Option (ℤ × ℤ) → Stepped
      after lacks pair = after_own identifier refused pair now
          (if lacks then erred machine VmError command (record kept { names = scene.names }) else
          went machine scene output)

      by : (lacks : Bool) → TellAlike (after lacks None) (after lacks shown)
      by true = refl
      by false = refl

  moved-tells : (status : Status) (context : Context)
      → TellAlike (moved_as status identifier refused None now context)
      (moved_as status identifier refused shown now context)
  unfolding own_step
  moved-tells again context =
      called-tells (retried context.operands)
      (with_machine identifier now (with_status running (machine_of now context)))
      (record context { status = running }) (retried-blind context.operands)
  moved-tells (retaking lock) context = refl
  moved-tells _ context = own-tells (machine_of now context) _
      (turn_as-keeps (around_of now.program (machine_of now context)) context.status context.frames
      (scene_of (machine_of now context))).0

pub told-alike : (now : World) (identifier : ℕ) (refused : Bool) (shown : Option (ℤ × ℤ))
    → (stepped now identifier refused None).note ≡ (stepped now identifier refused shown).note
unfolding stepped
told-alike now identifier refused shown =
    by (is_ready now identifier) (context_at now identifier)
  where
    after : Option (ℤ × ℤ) → Bool → Option Context → Stepped
    after pair ready found =
        if ready then option_map_or
        (λ context. moved_as context.status identifier refused pair now context) found
        (plainly now) else plainly now

    by : (ready : Bool) (found : Option Context)
        → TellAlike (after None ready found) (after shown ready found)
    by false found = refl
    by true None = refl
    by true (Some context) = moved-tells now identifier refused shown context.status context

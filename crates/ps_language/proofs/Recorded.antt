-- A step as the schedule keeps it is the same step.
use Rattle.std.proofs.Common.{◌≡◌, ℕ, Bool, true, false, Option, Some, None, List, [], ◌∷◌, refl, sym, ◌∙◌, ap, subst}
use Rattle.std.specs.Prelude.{ℤ, not, if◌then◌else◌}
use Rattle.std.specs.Option.{option_map_or}
use Rattle.ps_language.specs.declared.errors.ErrorName.TheVariants.{VmError}
use Rattle.ps_language.specs.Value.{What, integer_value, Value, Store}
use Rattle.ps_language.specs.World.{Status, running, again, retaking, Context, Machine, World}
use Rattle.ps_language.specs.Effect.{Note, nothing, turn_ends, shows_memory, wishes, Deed, does, Calling}
use Rattle.ps_language.specs.Outcome.{Outcome, leaves, given_that}
use Rattle.ps_language.specs.Objects.{lacks_room}
use Rattle.ps_language.specs.StepValues.{Turn, goes, tries, breaks, errs, asks}
use Rattle.ps_language.specs.Machines.{around_of, scene_of, with_scene, with_status, erred, went, after_turn, own_step}
use Rattle.ps_language.specs.Contexts.{context_at}
use Rattle.ps_language.specs.Locks.{retried, retried_by, is_ready}
use Rattle.ps_language.specs.Step.{machine_of, with_machine, Stepped, plainly, deed_given_room, after_deed, called}
use Rattle.ps_language.specs.Step.{after_own, moved_as, stepped, step}
use Rattle.ps_language.specs.Schedules.{Move}
use Rattle.ps_language.specs.Worlds.{kept_pair, recorded, after_move}
use Rattle.ps_language.proofs.Shown.{join-blind, monitor-blind}
use Rattle.ps_language.specs.Keeping.{IsAlike, the_same, both_show, IsBlind, stays, Keeps}
use Rattle.ps_language.proofs.OperandsKept.{turn_as-keeps}

-- the same, or memory was shown in the second
pub data AreAlike : Stepped → Stepped → Type 0 where
  one : {after : Stepped} → AreAlike after after
  showed : {a b : Stepped} → b.note ≡ shows_memory → AreAlike a b

retried_by-blind : (what : What) → IsBlind (retried_by what).deed
retried_by-blind (integer_value i) = join-blind
retried_by-blind _ = monitor-blind

retried-blind : (operands : List Value) → IsBlind (retried operands).deed
unfolding retried
retried-blind [] = join-blind
retried-blind (value ∷ rest) = retried_by-blind value.what

module _ (now : World) (identifier : ℕ) (refused : Bool) (shown : Option (ℤ × ℤ)) where
  deed-alike : (calling : Calling) (before : World) (a b : Outcome Deed) → IsAlike a b
      → AreAlike (after_deed calling identifier before (deed_given_room refused before a))
      (after_deed calling identifier before (deed_given_room refused before b))
  deed-alike calling before a b the_same = one
  deed-alike calling before _ _ (both_show {a = x} {b = y} same) =
      subst (λ (s : Store). AreAlike
      (after_deed calling identifier before
      (given_that (not (lacks_room refused before.store s)) VmError
      (leaves (does shows_memory x))))
      (after_deed calling identifier before
      (given_that (not (lacks_room refused before.store y.store)) VmError
      (leaves (does shows_memory y))))) (sym same)
      (by (lacks_room refused before.store y.store))
    where
      by : (lacks : Bool) → AreAlike
          (after_deed calling identifier before
          (given_that (not lacks) VmError (leaves (does shows_memory x))))
          (after_deed calling identifier before
          (given_that (not lacks) VmError (leaves (does shows_memory y))))
      by true = one
      by false = showed refl

  called-alike : (calling : Calling) (before : World) (context : Context) → IsBlind calling.deed
      → AreAlike (called calling identifier refused None before context)
      (called calling identifier refused shown before context)
  called-alike calling before context blind =
      deed-alike calling before _ _ (blind context.operands identifier context before shown)

  own-alike : (machine : Machine) (tried : Turn) → Keeps (stays (scene_of machine)) tried
      → AreAlike (after_own identifier refused None now (after_turn refused machine tried))
      (after_own identifier refused shown now (after_turn refused machine tried))
  own-alike machine (goes scene output) keeps = one
  own-alike machine (breaks cause scene) keeps = one
  own-alike machine (errs error command kept) keeps = one
  own-alike machine (asks calling kept) keeps =
      called-alike calling (with_machine identifier now (with_scene kept running machine))
      (with_scene kept running machine).context keeps.1
  own-alike machine (tries command kept scene output) keeps =
      by (lacks_room refused kept.store scene.store)
    where
      after : Bool → Option (ℤ × ℤ) → Stepped
      after lacks pair = after_own identifier refused pair now
          (if lacks then erred machine VmError command (record kept { names = scene.names }) else
          went machine scene output)

      by : (lacks : Bool) → AreAlike (after lacks None) (after lacks shown)
      by true = one
      by false = one

  moved-alike : (status : Status) (context : Context)
      → AreAlike (moved_as status identifier refused None now context)
      (moved_as status identifier refused shown now context)
  unfolding own_step
  moved-alike again context =
      called-alike (retried context.operands)
      (with_machine identifier now (with_status running (machine_of now context)))
      (record context { status = running }) (retried-blind context.operands)
  moved-alike (retaking lock) context = one
  moved-alike _ context = own-alike (machine_of now context) _
      (turn_as-keeps (around_of now.program (machine_of now context)) context.status context.frames
      (scene_of (machine_of now context))).0

pub stepped-alike : (now : World) (identifier : ℕ) (refused : Bool) (shown : Option (ℤ × ℤ))
    → AreAlike (stepped now identifier refused None) (stepped now identifier refused shown)
unfolding stepped
stepped-alike now identifier refused shown =
    by (is_ready now identifier) (context_at now identifier)
  where
    after : Option (ℤ × ℤ) → Bool → Option Context → Stepped
    after pair ready found =
        if ready then option_map_or
        (λ context. moved_as context.status identifier refused pair now context) found
        (plainly now) else plainly now

    by : (ready : Bool) (found : Option Context)
        → AreAlike (after None ready found) (after shown ready found)
    by false found = one
    by true None = one
    by true (Some context) = moved-alike now identifier refused shown context.status context

pub kept-same : (now : World) (identifier : ℕ) (refused : Bool) (shown : Option (ℤ × ℤ)) (a b : Stepped)
    → AreAlike a b → stepped now identifier refused None ≡ a
    → stepped now identifier refused shown ≡ b
    → stepped now identifier refused (kept_pair b.note shown) ≡ b
kept-same now identifier refused shown a b one none some = by a.note
  where
    by : (note : Note) → stepped now identifier refused (kept_pair note shown) ≡ a
    by shows_memory = some
    by nothing = none
    by turn_ends = none
    by (wishes number) = none
kept-same now identifier refused shown a b (showed shows) none some =
    ap (λ (note : Note). stepped now identifier refused (kept_pair note shown)) shows ∙ some

-- what was shown may be left out of the schedule but where a vmstatus acted
pub recorded-same : (now : World) (move : Move)
    → after_move now (recorded now move) ≡ after_move now move
unfolding step
recorded-same now move =
    ap (λ (after : Stepped). after.world)
    (kept-same now move.context move.refused move.shown _ _
    (stepped-alike now move.context move.refused move.shown) refl refl)

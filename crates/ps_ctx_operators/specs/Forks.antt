-- A context more, over words (PLRM2, 7.1).
use Rattle.std.specs.Prelude.{◌≡◌, ℕ, ◌==◌, ◌++◌, false, List, [], ◌∷◌, Option, Some, Result, Ok}
use Rattle.std.specs.Prelude.{Err, length, if◌then◌else◌}
use Rattle.ps_language.specs.Value.{Store}
use Rattle.ps_language.specs.World.{Status, running, finished, Context}
use Rattle.ps_language.specs.Effect.{Effect, makes, unwinds, raises, calls}
use Rattle.ps_language.specs.StepErrors.{new_error_dictionary}
use Rattle.ps_word.specs.declared.values.Part.{Part}
use Rattle.ps_ops_control.specs.declared.frames.Frame.{Frame}
use Rattle.ps_ops_control.specs.declared.frames.Frame.TheVariants.{Procedure}
use Rattle.ps_ops_state.specs.declared.lent.Context.{Context as Begun}
use Rattle.ps_ops_state.specs.declared.lent.Attempt.{Attempt}
use Rattle.ps_ops_state.specs.Lent.{Lent, scene_of, around_of, IsShown, IsGood}
use Rattle.ps_ops_state.specs.Acts.{nothing_asked, effect_in, Acts}
use Rattle.ps_ctx_operators.specs.declared.forks.Unforked.{Unforked}
use Rattle.ps_ctx_operators.specs.declared.forks.Unforked.TheVariants.{Breaks, NoStacks}
use Rattle.ps_ctx_operators.specs.Deeds.{forked}
use Rattle.ps_ctx_operators.specs.Rows.{fork_caller}

-- ---- the parent

-- the effect makes something
abbrev pub IsMaking : Effect → Type 0
IsMaking (makes scene output) = Unit {0}
IsMaking (raises error) = ⊥
IsMaking (unwinds cause scene) = ⊥
IsMaking (calls deed) = ⊥

-- It acts by its row. Or stacks can't be had: nothing has changed, and a context would be made in a
-- step that isn't refused
abbrev pub Forks : (seat : Option ℕ) → Attempt → Result Begun Unforked → (old new : Lent) → Type 0
Forks seat attempt (Ok begun) old new =
    Acts nothing_asked (fork_caller seat) attempt (Ok tt) old new
Forks seat attempt (Err (Breaks why)) old new =
    Acts nothing_asked (fork_caller seat) attempt (Err why) old new
Forks seat attempt (Err NoStacks) old new =
    (new ≡ old) × (attempt.refused ≡ false)
    × ((store : Store) → IsShown old store → IsMaking (effect_in (fork_caller seat) old store))

-- ---- the new context

-- the frames that it begins with
abbrev pub procedure_frames : Part → List Frame
procedure_frames body = if body.length == 0 then [] else Procedure body ∷ []

-- what has no frame is finished at once
abbrev pub status_by : List Frame → Status
status_by [] = finished
status_by (frame ∷ frames) = running

-- a new context as its words say
abbrev pub context_in : Lent → Store → Context
context_in l store = record {
  operands = (scene_of l store).operands;
  dictionaries = (scene_of l store).dictionaries;
  frames = (scene_of l store).frames;
  error_dictionary = (around_of l).error_dictionary;
  is_detached = false;
  status = status_by l.frames;
}

-- what is lent of the new context is good and shown, and is the context that its parent forks
pub record IsForked (old begun : Lent) : Type 0 where
  pub good : IsGood begun
  pub shown : (store : Store) → IsShown old store
      → IsShown begun (store ++ new_error_dictionary ∷ [])
  pub is : (store : Store) → IsShown old store → (parent : Context)
      → parent.dictionaries ≡ (scene_of old store).dictionaries
      → forked parent (scene_of old store).operands (length store)
      ≡ Some (context_in begun (store ++ new_error_dictionary ∷ []))

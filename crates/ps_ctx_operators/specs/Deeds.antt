-- What the operators on contexts, locks and memory do to the world, by the caller's part (PLRM2,
-- 7.1).
use Rattle.std.specs.Prelude.{ℕ, ◌+◌, ◌&&◌, Option, Some, None, List, [], ◌∷◌, ◌++◌, length, nat_lt}
use Rattle.std.specs.Prelude.{if◌then◌else◌, option_map, option_and_then}
use Rattle.ps_language.specs.Effect.{Scene, Call, Note, Deed, does, waits, Effect, makes, unwinds}
use Rattle.ps_language.specs.Effect.{raises, calls}
use Rattle.ps_language.specs.World.{Status, Context, World}
use Rattle.ps_language.specs.Outcome.{Outcome, leaves, fails}
use Rattle.ps_language.specs.Rows.{Row}
use Rattle.ps_language.specs.Acts.{effect_of}
use Rattle.ps_language.specs.Machines.{around_of, scene_of, with_scene}
use Rattle.ps_language.specs.Step.{machine_of, with_machine}
use Rattle.ps_language.specs.Limits.{context_limit, identifier_limit}
use Rattle.ps_language.specs.Contexts.{count_not_ended, new_context}
use Rattle.ps_language.specs.Control.{as_procedure}
use Rattle.ps_language.specs.RowsStack.{split_at_mark}
use Rattle.ps_language.specs.Value.{Value}

-- ---- the caller

-- what the caller may change
abbrev pub scene_at : Call → Scene
scene_at call = scene_of (machine_of call.world call.context)

-- what its part comes to
abbrev pub part_at : Call → Row → Effect
part_at call row =
    effect_of row (around_of call.world.program (machine_of call.world call.context))
    (scene_at call)

-- the world where the caller has what a scene has, and this status
abbrev pub with_scene_as : Status → Call → Scene → World
with_scene_as status call scene =
    with_machine call.caller call.world
    (with_scene scene status (machine_of call.world call.context))

-- and the status that it has
abbrev pub with_scene_of : Call → Scene → World
with_scene_of call scene = with_scene_as call.context.status call scene

-- ---- deeds

-- What is done once the caller has done its part; an error of the part is the operator's. No part
-- begins an unwinding, or is left to the world
abbrev pub after_part : Effect → (Scene → Outcome Deed) → Outcome Deed
after_part (makes scene output) next = next scene
after_part (raises error) next = fails error
after_part (unwinds cause scene) next = next scene
after_part (calls deed) next = leaves waits

-- there is no more to do
abbrev pub scene_deed : Note → Call → Effect → Outcome Deed
scene_deed note call effect =
    after_part effect λ scene. leaves (does note (with_scene_of call scene))

-- ---- contexts

-- the identifier of a context more, where there may be one
abbrev pub free_seat : World → Option ℕ
free_seat world =
    if nat_lt (count_not_ended world.contexts) context_limit
    && nat_lt (length world.contexts) identifier_limit
    then Some (length world.contexts + 1) else None

-- one context more
abbrev pub with_context_more : Context → World → World
with_context_more context world = record world { contexts = world.contexts ++ Some context ∷ [] }

-- the context that fork makes of its caller and its operands; birth: its $error
abbrev pub forked : Context → List Value → (birth : ℕ) → Option Context
forked parent (p ∷ rest) birth =
    option_and_then (λ body. option_map (λ (parts : List Value × List Value).
    new_context parent body parts.0 birth) (split_at_mark rest)) (as_procedure p)
forked parent [] birth = None

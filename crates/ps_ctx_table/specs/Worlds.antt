-- The contexts of a table as those of the definitions (PLRM2, 3.4, 7.1).
use Rattle.std.specs.Prelude.{ℕ, List, Option, map, option_map}
use Rattle.ps_language.specs.World as world
use Rattle.ps_mem.specs.Heap.{Heap, birth_at}
use Rattle.ps_ops_operands.specs.Changes.{values_in}
use Rattle.ps_ops_control.specs.Frames.{frames_in}
use Rattle.ps_ops_control.specs.Turns.{cause_of}
use Rattle.ps_ctx_table.specs.declared.members.Course.{Course}
use Rattle.ps_ctx_table.specs.declared.members.Course.TheVariants.{Running, Unwinding, Again}
use Rattle.ps_ctx_table.specs.declared.members.Course.TheVariants.{Waiting, Retaking, Finished}
use Rattle.ps_ctx_table.specs.declared.members.Member.{Member}

-- by the places of its locks and conditions
abbrev pub status_of : (births : ℕ → ℕ) → Course → world.Status
status_of births Running = world.running
status_of births (Unwinding cause) = world.unwinding (cause_of cause)
status_of births Again = world.again
status_of births (Waiting lock condition) = world.waiting (births lock) (births condition)
status_of births (Retaking lock) = world.retaking (births lock)
status_of births Finished = world.finished

-- one context over a memory
abbrev pub context_of : Heap → (names : List (List ℕ)) → Member → world.Context
context_of h names member = record {
  operands = values_in h names member.context.operands;
  dictionaries = values_in h names member.context.dictionaries;
  frames = frames_in h names member.context.frames;
  error_dictionary = birth_at h member.context.error_dictionary;
  is_detached = member.is_detached;
  status = status_of (birth_at h) member.course;
}

-- all of them
unfoldable pub contexts_in : Heap → (names : List (List ℕ)) → List (Option Member)
    → List (Option world.Context)
contexts_in h names members = map (option_map (context_of h names)) members

-- The first context stands in an empty memory.
use Rattle.ps_mem.specs.Objects.{heap_in}
use Rattle.ps_vault.proofs.Beginning.{nothing_stands}
use Rattle.ps_worlds.proofs.Following.{started}
use Rattle.ps_worlds.proofs.runs.WorldRun+Marked+PlainMemory+S+D.new.Goals as goal

pub start_world-requires : goal.start_world-requires
unfolding heap_in
start_world-requires g c =
    record { heap = nothing_stands _ _ c.plain_with_marks-memory.ensures }

pub returns-clause-made : goal.returns-clause-made
returns-clause-made g c =
    started _ _ c.args.task.program.now c.in_ok-path.path _ c.in_ok-path.ensures.items
    c.in-Ok.ensures.program c.in-Ok.ensures.steady c.in-Ok.ensures.calling c.in-Ok.ensures.at

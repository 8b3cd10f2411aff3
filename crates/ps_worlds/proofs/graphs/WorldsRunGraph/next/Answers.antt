use Rattle.std.proofs.Common.{Bool, List, subst}
use Rattle.std.specs.Prelude.{IfNone, IfSome}
use Rattle.ps_cuts.proofs.Batches.{none_then, some_then}
use Rattle.ps_worlds.specs.Runs.{IsFirstTrue, IsNoneTrue, world_by}
use Rattle.ps_worlds.proofs.Following.{least_of, none_of}
use Rattle.ps_worlds.proofs.Ways.{next_above, none_above}
use Rattle.ps_worlds.proofs.graphs.WorldsRunGraph.next.Goals as goal

pub returns-clause-some : goal.returns-clause-some
returns-clause-some g c =
    let program = c.args.self.now.runs.now.task.program.now in
    some_then c.next_in.result
    (λ next first made at. next_above program made c.args.after next
    (least_of _ c.args.after next first c.requires.ready (world_by program made) at))
    (subst (λ (ready : List Bool). IfSome c.next_in.result (IsFirstTrue ready c.args.after))
    c.deref.ensures.value c.next_in.ensures.some)

pub returns-clause-none : goal.returns-clause-none
returns-clause-none g c =
    let program = c.args.self.now.runs.now.task.program.now in
    none_then c.next_in.result
    (λ none made at. none_above program made c.args.after
    (none_of _ c.args.after none c.requires.ready (world_by program made) at))
    (subst (λ (ready : List Bool). IfNone c.next_in.result (IsNoneTrue ready c.args.after))
    c.deref.ensures.value c.next_in.ensures.none)

use Rattle.ps_cuts.proofs.Batches.{none_then, some_then}
use Rattle.ps_cuts.proofs.Standing.{next_there, none_there}
use Rattle.ps_cuts.proofs.trees.RunsRunTree.next.Goals as goal

pub returns-clause-some : goal.returns-clause-some
returns-clause-some g c =
    some_then c.next_ready.result (next_there c.args.self.now.task.program.now
    c.args.run.now.vault c.requires.same c.requires.made.plain c.args.after)
    c.next_ready.ensures.ready

pub returns-clause-none : goal.returns-clause-none
returns-clause-none g c =
    none_then c.next_ready.result (none_there c.args.self.now.task.program.now
    c.args.run.now.vault c.requires.same c.requires.made.plain c.args.after)
    c.next_ready.ensures.none
